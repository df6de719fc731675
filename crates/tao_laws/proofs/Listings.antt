-- Lists that have each number below n once, and the place of a number in such a list.
use Rattle.std.proofs.Common.{◌≡◌, ◌≢◌, ℕ, zero, suc, ◌+◌, ◌<◌, ◌≤◌, Bool, true, false, not, ◌&&◌, ◌||◌, cond, List, [], ◌∷◌, ◌++◌, map, filter, length, get_or, refl, sym, ap, ◌∙◌, arith, inl, inr, ◌⊎◌, nat_eq}
use Rattle.std.specs.List.{range_with_len, position_or_len}
use Rattle.std.proofs.lemmas.Bool.{ne_eqb, eq-eqb, eqb-true, cases_eq, true≢false, or_parts, or_cases, or_left, or_right, or_from, and_parts, false_from_ne_true}
use Rattle.tao_model.proofs.FallingPaths.{has}
use Rattle.tao_laws.specs.TwoPlays.{IsOneToOne}

-- ---- filters and ranges

pub has_filter : (passes : ℕ → Bool) (w : ℕ) (nodes : List ℕ) → has w (filter passes nodes) ≡ (passes w && has w nodes)
has_filter passes w [] = either (passes w)
  where
    either : (t : Bool) → false ≡ (t && false)
    either true = refl
    either false = refl
has_filter passes w (v ∷ nodes) = either (passes v) refl (cases_eq v w) (has_filter passes w nodes)
  where
    either : (t : Bool) → passes v ≡ t → (v ≡ w) ⊎ (v ≡ w → ⊥) → has w (filter passes nodes) ≡ (passes w && has w nodes)
        → has w (cond t (v ∷ filter passes nodes) (filter passes nodes)) ≡ (passes w && (nat_eq v w || has w nodes))
    either true is (inl same) ih = rw (eq-eqb v w same, sym (ap passes same) ∙ is) refl
    either true is (inr other) ih = rw (ne_eqb v w other) ih
    either false is (inl same) ih = ih ∙ rw (sym (ap passes same) ∙ is) refl
    either false is (inr other) ih = rw (ne_eqb v w other) ih

pub has_range : (a n w : ℕ) → a ≤ w → w < a + n → has w (range_with_len a n) ≡ true
has_range a zero w low high = absurd (omega arith)
has_range a (suc n) w low high = either (cases_eq a w) (λ more. has_range (a + 1) n w more (omega arith))
  where
    either : (a ≡ w) ⊎ (a ≡ w → ⊥) → (a + 1 ≤ w → has w (range_with_len (a + 1) n) ≡ true) → (nat_eq a w || has w (range_with_len (a + 1) n)) ≡ true
    either (inl same) ih = rw (eq-eqb a w same) refl
    either (inr other) ih = rw (ne_eqb a w other) (ih (omega (arith, other)))

-- ---- no number twice

abbrev pub HasOnce : List ℕ → Type 0
HasOnce [] = Unit {0}
HasOnce (x ∷ xs) = (has x xs ≡ false) × HasOnce xs

pub has_append : (w : ℕ) (xs ys : List ℕ) → has w (xs ++ ys) ≡ (has w xs || has w ys)
has_append w [] ys = refl
has_append w (x ∷ xs) ys = either (nat_eq x w) (has_append w xs ys)
  where
    either : (t : Bool) → has w (xs ++ ys) ≡ (has w xs || has w ys) → (t || has w (xs ++ ys)) ≡ ((t || has w xs) || has w ys)
    either true ih = refl
    either false ih = ih

pub once_append : (xs ys : List ℕ) → HasOnce xs → HasOnce ys → ((w : ℕ) → has w xs ≡ true → has w ys ≡ false) → HasOnce (xs ++ ys)
once_append [] ys a b apart = b
once_append (x ∷ xs) ys a b apart = (
  has_append x xs ys ∙ or_from (has x xs) (has x ys) a.0 (apart x (or_left (nat_eq x x) (has x xs) (eq-eqb x x refl))),
  once_append xs ys a.1 b (λ w h. apart w (or_right (nat_eq x w) (has w xs) h)),
)

pub once_filter : (passes : ℕ → Bool) (xs : List ℕ) → HasOnce xs → HasOnce (filter passes xs)
once_filter passes [] a = tt
once_filter passes (x ∷ xs) a = either (passes x) (once_filter passes xs a.1)
  where
    gone : has x (filter passes xs) ≡ false
    gone = has_filter passes x xs ∙ rw a.0 (both (passes x))
      where
        both : (t : Bool) → (t && false) ≡ false
        both true = refl
        both false = refl

    either : (t : Bool) → HasOnce (filter passes xs) → HasOnce (cond t (x ∷ filter passes xs) (filter passes xs))
    either true ih = (gone, ih)
    either false ih = ih

-- ---- ranges, and their images

pub range_has : (a n w : ℕ) → has w (range_with_len a n) ≡ true → (a ≤ w) × (w < a + n)
range_has a zero w h = absurd (true≢false (sym h))
range_has a (suc n) w h = either (or_cases (nat_eq a w) (has w (range_with_len (a + 1) n)) h) (λ later. range_has (a + 1) n w later)
  where
    either : (nat_eq a w ≡ true) ⊎ (has w (range_with_len (a + 1) n) ≡ true) → (has w (range_with_len (a + 1) n) ≡ true → (a + 1 ≤ w) × (w < a + 1 + n)) → (a ≤ w) × (w < a + suc n)
    either (inl same) ih = let at : a ≡ w = eqb-true a w same in (omega arith, omega arith)
    either (inr later) ih = let both = ih later in let low = both.0 in let high = both.1 in (omega arith, omega arith)

pub once_range : (a n : ℕ) → HasOnce (range_with_len a n)
once_range a zero = tt
once_range a (suc n) = (
  false_from_ne_true (has a (range_with_len (a + 1) n)) (λ h. let both = range_has (a + 1) n a h in let low = both.0 in omega arith),
  once_range (a + 1) n,
)

-- a value of a function over a range is its value at some number of the range
pub image_has : (f : ℕ → ℕ) (a n w : ℕ) → has w (map f (range_with_len a n)) ≡ true → (i : ℕ) × (a ≤ i) × (i < a + n) × (f i ≡ w)
image_has f a zero w h = absurd (true≢false (sym h))
image_has f a (suc n) w h = either (or_cases (nat_eq (f a) w) (has w (map f (range_with_len (a + 1) n))) h) (λ later. image_has f (a + 1) n w later)
  where
    either : (nat_eq (f a) w ≡ true) ⊎ (has w (map f (range_with_len (a + 1) n)) ≡ true)
        → (has w (map f (range_with_len (a + 1) n)) ≡ true → (i : ℕ) × (a + 1 ≤ i) × (i < a + 1 + n) × (f i ≡ w))
        → (i : ℕ) × (a ≤ i) × (i < a + suc n) × (f i ≡ w)
    either (inl same) ih = (a, omega arith, omega arith, eqb-true (f a) w same)
    either (inr later) ih = let rest = ih later in let low = rest.1 in let high = rest.2 in (rest.0, omega arith, omega arith, rest.3)

pub once_image : (f : ℕ → ℕ) (a n : ℕ) → ((i j : ℕ) → a ≤ i → i < j → j < a + n → f i ≢ f j) → HasOnce (map f (range_with_len a n))
once_image f a zero apart = tt
once_image f a (suc n) apart = (
  false_from_ne_true (has (f a) (map f (range_with_len (a + 1) n))) (λ h.
      let there = image_has f (a + 1) n (f a) h in
      let low = there.1 in
      let high = there.2 in
      apart a there.0 (omega arith) (omega arith) (omega arith) (sym there.3)),
  once_image f (a + 1) n (λ i j low less high. apart i j (omega arith) less (omega arith)),
)

-- ---- the length of a list that has each number below n once

abbrev without : ℕ → List ℕ → List ℕ
without v xs = filter (λ u. not (nat_eq u v)) xs

without_none : (v : ℕ) (xs : List ℕ) → has v xs ≡ false → without v xs ≡ xs
without_none v [] h = refl
without_none v (x ∷ xs) h = let parts = or_parts (nat_eq x v) (has v xs) h in rw parts.0 (ap (λ l. x ∷ l) (without_none v xs parts.1))

length_without : (v : ℕ) (xs : List ℕ) → HasOnce xs → has v xs ≡ true → length xs ≡ length (without v xs) + 1
length_without v [] a h = absurd (true≢false (sym h))
length_without v (x ∷ xs) a h = either (cases_eq x v) (or_cases (nat_eq x v) (has v xs) h) (λ later. length_without v xs a.1 later)
  where
    either : (x ≡ v) ⊎ (x ≡ v → ⊥) → (nat_eq x v ≡ true) ⊎ (has v xs ≡ true) → (has v xs ≡ true → length xs ≡ length (without v xs) + 1)
        → suc (length xs) ≡ length (cond (not (nat_eq x v)) (x ∷ without v xs) (without v xs)) + 1
    either (inl same) there ih =
        let gone : without v xs ≡ xs = without_none v xs (ap (λ w. has w xs) (sym same) ∙ a.0) in
        rw (eq-eqb x v same, gone) (omega arith)
    either (inr other) (inl here) ih = absurd (other (eqb-true x v here))
    either (inr other) (inr later) ih = let e = ih later in rw (ne_eqb x v other) (omega arith)

pub length_listing : (n : ℕ) (xs : List ℕ) → HasOnce xs → ((w : ℕ) → has w xs ≡ true → w < n) → ((w : ℕ) → w < n → has w xs ≡ true) → length xs ≡ n
length_listing zero [] a below all = refl
length_listing zero (x ∷ xs) a below all = let low = below x (or_left (nat_eq x x) (has x xs) (eq-eqb x x refl)) in absurd (omega arith)
length_listing (suc n) xs a below all =
    let shorter = length_without n xs a (all n (omega arith)) in
    let rest : length (without n xs) ≡ n = length_listing n (without n xs) (once_filter (λ u. not (nat_eq u n)) xs a) less there in
    omega arith
  where
    less : (w : ℕ) → has w (without n xs) ≡ true → w < n
    less w h =
        let parts = and_parts (not (nat_eq w n)) (has w xs) (sym (has_filter (λ u. not (nat_eq u n)) w xs) ∙ h) in
        let low = below w parts.1 in
        either low (cases_eq w n) parts.0
      where
        either : w < suc n → (w ≡ n) ⊎ (w ≡ n → ⊥) → not (nat_eq w n) ≡ true → w < n
        either low (inl same) other = absurd (true≢false (sym other ∙ ap not (eq-eqb w n same)))
        either low (inr other) is = omega (arith, other)

    there : (w : ℕ) → w < n → has w (without n xs) ≡ true
    there w low = has_filter (λ u. not (nat_eq u n)) w xs ∙ rw (ne_eqb w n (λ same. omega arith)) (all w (omega arith))

-- ---- the place of a number

abbrev pub place_in : List ℕ → ℕ → ℕ
place_in xs v = position_or_len (λ u. nat_eq u v) xs

pub listed_at : (xs : List ℕ) (i : ℕ) → i < length xs → has (get_or xs i 0) xs ≡ true
listed_at [] i h = absurd (omega arith)
listed_at (x ∷ xs) zero h = or_left (nat_eq x x) (has x xs) (eq-eqb x x refl)
listed_at (x ∷ xs) (suc i) h = or_right (nat_eq x (get_or xs i 0)) (has (get_or xs i 0) xs) (listed_at xs i (omega arith))

pub place_at : (xs : List ℕ) (i : ℕ) → HasOnce xs → i < length xs → place_in xs (get_or xs i 0) ≡ i
place_at [] i a h = absurd (omega arith)
place_at (x ∷ xs) zero a h = rw (eq-eqb x x refl) refl
place_at (x ∷ xs) (suc i) a h =
    let within : i < length xs = omega arith in
    rw (ne_eqb x (get_or xs i 0) (λ same. true≢false (sym (ap (λ w. has w xs) same ∙ listed_at xs i within) ∙ a.0))) (let e = place_at xs i a.1 within in omega arith)

pub at_place : (xs : List ℕ) (v : ℕ) → has v xs ≡ true → (place_in xs v < length xs) × (get_or xs (place_in xs v) 0 ≡ v)
at_place [] v h = absurd (true≢false (sym h))
at_place (x ∷ xs) v h = either (nat_eq x v) refl (or_cases (nat_eq x v) (has v xs) h) (λ later. at_place xs v later)
  where
    either : (t : Bool) → nat_eq x v ≡ t → (nat_eq x v ≡ true) ⊎ (has v xs ≡ true) → (has v xs ≡ true → (place_in xs v < length xs) × (get_or xs (place_in xs v) 0 ≡ v))
        → (cond (not t) (1 + place_in xs v) 0 < suc (length xs)) × (get_or (x ∷ xs) (cond (not t) (1 + place_in xs v) 0) 0 ≡ v)
    either true is there ih = (omega arith, eqb-true x v is)
    either false is (inl here) ih = absurd (true≢false (sym here ∙ is))
    either false is (inr later) ih =
        let rest = ih later in
        let low = rest.0 in
        let next : 1 + place_in xs v ≡ suc (place_in xs v) = omega arith in
        (omega arith, ap (λ k. get_or (x ∷ xs) k 0) next ∙ rest.1)

-- ---- two lists that each have each number below n once

pub record IsListing (n : ℕ) (xs : List ℕ) : Type 0 where
  pub once : HasOnce xs
  pub below : (w : ℕ) → has w xs ≡ true → w < n
  pub all : (w : ℕ) → w < n → has w xs ≡ true

-- the number of the second list at the place that a number has in the first
abbrev pub across : List ℕ → List ℕ → ℕ → ℕ
across xs ys v = get_or ys (place_in xs v) 0

pub across_one_to_one : (n : ℕ) (xs ys : List ℕ) → IsListing n xs → IsListing n ys → IsOneToOne n (across xs ys)
across_one_to_one n xs ys a b = record {
  within = λ v low. b.below (across xs ys v) (listed_at ys (place_in xs v) (place_low v low));
  once = λ v w low low_too same.
      let there : place_in xs v ≡ place_in xs w =
      sym (place_at ys (place_in xs v) b.once (place_low v low)) ∙ ap (place_in ys) same ∙ place_at ys (place_in xs w) b.once (place_low w low_too) in
      sym (at_place xs v (a.all v low)).1 ∙ ap (λ k. get_or xs k 0) there ∙ (at_place xs w (a.all w low_too)).1;
  onto = λ w low.
      let there = at_place ys w (b.all w low) in
      let within = there.0 in
      let k_low : place_in ys w < length xs = omega (arith, long_xs, long_ys) in (
        get_or xs (place_in ys w) 0,
        a.below (get_or xs (place_in ys w) 0) (listed_at xs (place_in ys w) k_low),
        ap (λ k. get_or ys k 0) (place_at xs (place_in ys w) a.once k_low) ∙ there.1,
      );
}
  where
    long_xs : length xs ≡ n
    long_xs = length_listing n xs a.once a.below a.all

    long_ys : length ys ≡ n
    long_ys = length_listing n ys b.once b.below b.all

    place_low : (v : ℕ) → v < n → place_in xs v < length ys
    place_low v low = let there = (at_place xs v (a.all v low)).0 in omega (arith, long_xs, long_ys)
