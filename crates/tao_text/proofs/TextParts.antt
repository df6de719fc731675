-- The parts of what was said, with one more item.
use Rattle.std.proofs.Common.{◌≡◌, inl, inr, ℕ, ◌+◌, ◌-◌, ◌<◌, Bool, true, cond, List, [], ◌∷◌, ◌++◌, length, slice_get, get_or, Option, Some, None, IfSome, All, count_by, refl, ap, ◌∙◌, arith, append-nil, length-append}
use Rattle.std.specs.Prelude.{filter_map}
use Rattle.std.specs.List.{cons_option}
use Rattle.std.specs.Option.{option_map}
use Rattle.std.specs.List.Sorted.{IsStrictlyIncreasing}
use Rattle.std.proofs.lemmas.Bool.{cases_lt, lt-ltb}
use Rattle.std.proofs.lemmas.List.{get_or-append-add, get_or_append_left, get_or_push}
use Rattle.std.proofs.lemmas.List.Elements.{All-cons, All-head, All-nil, All-tail, All-weaker, filter_map-append}
use Rattle.std.proofs.lemmas.List.Sums.{sum_by_push}
use Rattle.std.proofs.lemmas.Option.{slice_get-get_or}
use Rattle.tao_base.specs.declared.storage.Entry.{Entry}
use Rattle.tao_text.specs.declared.said.Said.{Said}
use Rattle.tao_text.specs.Parts.{Item, first_line}
use Rattle.tao_text.specs.Scripts.{is_above}

-- a line that says something, with its number
abbrev pub item_of : ℕ → Said → Item
item_of number said = record { line = number; said = said }

-- what a filter gives of items with one more

module _ {X Y : Type 0} (h : X → Option Y) (xs : List X) (x : X) where
  pub filtered_same : h x ≡ None → filter_map h (xs ++ x ∷ []) ≡ filter_map h xs
  filtered_same none = filter_map-append h xs (x ∷ []) ∙ rw none (append-nil (filter_map h xs))

  pub filtered_more : (y : Y) → h x ≡ Some y → filter_map h (xs ++ x ∷ []) ≡ filter_map h xs ++ y ∷ []
  filtered_more y some = filter_map-append h xs (x ∷ []) ∙ rw some refl

first_comes : {Y : Type 0} (ys : List Y) (y : Y) → slice_get ys 0 ≡ None → slice_get (ys ++ y ∷ []) 0 ≡ Some y
first_comes [] y h = refl
first_comes (x ∷ ys) y h = cc h

-- the first line with a part, with one more item

module _ {A : Type 0} (part : Said → Option A) (items : List Item) (number : ℕ) (said : Said) where
  pub first_same : part said ≡ None → first_line part (items ++ item_of number said ∷ []) ≡ first_line part items
  first_same none = ap (λ (ys : List (ℕ × A)). slice_get ys 0) (filtered_same (λ item. option_map (λ x. (item.line, x)) (part item.said)) items (item_of number said) (ap (option_map (λ x. (number, x))) none))

  pub first_new : (x : A) → first_line part items ≡ None → part said ≡ Some x → first_line part (items ++ item_of number said ∷ []) ≡ Some (number, x)
  first_new x none some =
      ap (λ (ys : List (ℕ × A)). slice_get ys 0) (filtered_more (λ item. option_map (λ x. (item.line, x)) (part item.said)) items (item_of number said) (number, x) (ap (option_map (λ x. (number, x))) some))
      ∙ first_comes (filter_map (λ item. option_map (λ x. (item.line, x)) (part item.said)) items) (number, x) none

-- what holds of all that a filter gives

module _ {X Y : Type 0} (P : Y → Type 0) (h : X → Option Y) where
  split : (o : Option Y) (ys : List Y) → All P (cons_option o ys) → IfSome o P × All P ys
  split None ys each = (tt, each)
  split (Some y) ys each = (All-head P y ys each, All-tail P y ys each)

  joined : (o : Option Y) (ys : List Y) → IfSome o P → All P ys → All P (cons_option o ys)
  joined None ys here each = each
  joined (Some y) ys here each = All-cons P y ys here each

  pub all_given : (xs : List X) → All P (filter_map h xs) → All (λ x. IfSome (h x) P) xs
  all_given [] each = All-nil (λ x. IfSome (h x) P)
  all_given (x ∷ xs) each =
      let parts = split (h x) (filter_map h xs) each in
      All-cons (λ x. IfSome (h x) P) x xs parts.0 (all_given xs parts.1)

  pub given_all : (xs : List X) → All (λ x. IfSome (h x) P) xs → All P (filter_map h xs)
  given_all [] each = All-nil P
  given_all (x ∷ xs) each = joined (h x) (filter_map h xs) (All-head (λ x. IfSome (h x) P) x xs each) (given_all xs (All-tail (λ x. IfSome (h x) P) x xs each))

-- where nothing is given

all_of_none : {Y : Type 0} (ys : List Y) → length ys ≡ 0 → All (λ y. ⊥) ys
all_of_none ys h = λ k d lt. absurd (omega arith)

none_of_all : {Y : Type 0} (ys : List Y) → All (λ y. ⊥) ys → length ys ≡ 0
none_of_all [] each = refl
none_of_all (y ∷ ys) each = absurd (All-head (λ y. ⊥) y ys each)

is_nothing : {Y : Type 0} (o : Option Y) → IfSome o (λ y. ⊥) → o ≡ None
is_nothing None h = refl
is_nothing (Some y) h = absurd h

nothing_is : {Y : Type 0} (o : Option Y) → o ≡ None → IfSome o (λ y. ⊥)
nothing_is None h = tt
nothing_is (Some y) h = cc h

module _ {X Y : Type 0} (h : X → Option Y) (xs : List X) where
  pub nothing_given : length (filter_map h xs) ≡ 0 → All (λ x. h x ≡ None) xs
  nothing_given none = All-weaker (λ x. IfSome (h x) (λ y. ⊥)) (λ x. h x ≡ None) (λ x. is_nothing (h x)) xs (all_given (λ y. ⊥) h xs (all_of_none (filter_map h xs) none))

  pub gives_nothing : All (λ x. h x ≡ None) xs → length (filter_map h xs) ≡ 0
  gives_nothing each = none_of_all (filter_map h xs) (given_all (λ y. ⊥) h xs (All-weaker (λ x. h x ≡ None) (λ x. IfSome (h x) (λ y. ⊥)) (λ x. nothing_is (h x)) xs each))

pub map_none : {A B : Type 0} (f : A → B) (o : Option A) → option_map f o ≡ None → o ≡ None
map_none f None h = refl
map_none f (Some x) h = cc h

none_first : {Y : Type 0} (ys : List Y) → slice_get ys 0 ≡ None → length ys ≡ 0
none_first [] h = refl
none_first (y ∷ ys) h = cc h

first_none : {Y : Type 0} (ys : List Y) → length ys ≡ 0 → slice_get ys 0 ≡ None
first_none [] h = refl
first_none (y ∷ ys) h = absurd (omega arith)

-- no line says something of the part
abbrev pub Lacks : {A : Type 0} → (Said → Option A) → List Item → Type 0
Lacks part items = All (λ item. part item.said ≡ None) items

module _ {A : Type 0} (part : Said → Option A) (items : List Item) where
  pub lacks_first : first_line part items ≡ None → Lacks part items
  lacks_first h =
      let each = nothing_given (λ item. option_map (λ x. (item.line, x)) (part item.said)) items (none_first (filter_map (λ item. option_map (λ x. (item.line, x)) (part item.said)) items) h) in
      λ k d lt. map_none (λ x. ((get_or items k d).line, x)) (part (get_or items k d).said) (each k d lt)

  pub first_lacks : Lacks part items → first_line part items ≡ None
  first_lacks lacks =
      first_none (filter_map (λ item. option_map (λ x. (item.line, x)) (part item.said)) items) (gives_nothing (λ item. option_map (λ x. (item.line, x)) (part item.said)) items (λ k d lt. ap (option_map (λ x. ((get_or items k d).line, x))) (lacks k d lt)))

-- counts and rising numbers, with one more

pub count_push : {X : Type 0} (p : X → Bool) (xs : List X) (x : X) → count_by p (xs ++ x ∷ []) ≡ count_by p xs + cond (p x) 1 0
count_push p xs x = sum_by_push (λ x. cond (p x) 1 0) xs x

pub rising_push : (xs : List ℕ) (x : ℕ) → IsStrictlyIncreasing xs → All (λ y. y < x) xs → IsStrictlyIncreasing (xs ++ x ∷ [])
rising_push xs x rising below k within =
    let long : length (xs ++ x ∷ []) ≡ length xs + 1 = length-append xs (x ∷ []) in
    let here : get_or (xs ++ x ∷ []) k 0 ≡ get_or xs k 0 = get_or_append_left xs (x ∷ []) 0 k (omega arith) in
    elim (cases_lt (k + 1) (length xs)) [
      | inl inside ↦
          let next : get_or (xs ++ x ∷ []) (k + 1) 0 ≡ get_or xs (k + 1) 0 = get_or_append_left xs (x ∷ []) 0 (k + 1) inside in
          let less : get_or xs k 0 < get_or xs (k + 1) 0 = rising k inside in
          omega arith
      | inr last ↦
          let next : get_or (xs ++ x ∷ []) (k + 1) 0 ≡ x = get_or_push xs x 0 (k + 1) (omega arith) in
          let less : get_or xs k 0 < x = below k 0 (omega arith) in
          omega arith
    ]

-- the load that was read last
abbrev pub last_load : List Entry → Option Entry
last_load loads = slice_get loads (length loads - 1)

pub last_pushed : (loads : List Entry) (entry : Entry) → last_load (loads ++ entry ∷ []) ≡ Some entry
last_pushed loads entry =
    let len : length (loads ++ entry ∷ []) ≡ length loads + 1 = length-append loads (entry ∷ []) in
    let at : length (loads ++ entry ∷ []) - 1 ≡ length loads + 0 = omega arith in
    rw at (slice_get-get_or (loads ++ entry ∷ []) (length loads + 0) entry (omega arith) ∙ ap Some (get_or-append-add loads (entry ∷ []) 0 entry))

pub above_all : (loads : List Entry) (id : ℕ) → All (λ entry. entry.id < id) loads → is_above (last_load loads) id ≡ true
above_all [] id below = refl
above_all (entry ∷ loads) id below =
    let last = length (entry ∷ loads) - 1 in
    let is : last_load (entry ∷ loads) ≡ Some (get_or (entry ∷ loads) last entry) = slice_get-get_or (entry ∷ loads) last entry (omega arith) in
    ap (λ (o : Option Entry). is_above o id) is ∙ lt-ltb (get_or (entry ∷ loads) last entry).id id (below last entry (omega arith))
