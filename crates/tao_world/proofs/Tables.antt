-- Tables of rows, flags, and bytes of a path, with one place set.
use Rattle.std.proofs.Common.{◌≡◌, ℕ, zero, suc, ◌+◌, ◌-◌, ◌*◌, ◌<◌, ◌≤◌, Bool, true, false, not, cond, List, [], ◌∷◌, ◌++◌, length, get_or, set, take, drop, replicate, Option, Some, None, is_some, refl, sym, ap, ◌∙◌, subst, arith, inl, inr, ◌⊎◌, nat_eq, mul-le-mul_right}
use Rattle.std.specs.Prelude.{count_by}
use Rattle.std.proofs.lemmas.Bool.{cases_lt, cases_eq, true≢false, eq-eqb, ne_eqb}
use Rattle.std.proofs.lemmas.List.{get_or-set_same, get_or-set_other, get_or_past, get_or_append_left, get_or-append_right, get_or-replicate, length-replicate, length-append, length-drop, length-take-le, take_at, drop_at, take-append-le, take-append-drop, drop-append-le, append_assoc}
use Rattle.std.proofs.lemmas.Slice.{drop-append-drop}
use Rattle.std.proofs.lemmas.List.Sums.{sum_by-set, sum_by-cons}
use Rattle.std.proofs.lemmas.List.Folds.{sum_by-replicate}
use Rattle.std.proofs.Math.Seq.{set-append_seam}
use Rattle.tao_world.specs.State.{is_set_at, row_at}
use Rattle.tao_world.specs.Changes.{bucket_put, PutsRow}

-- ---- rows

-- a table has a place where it has a row
pub some_within : {X : Type 0} (rows : List (Option X)) (place : ℕ) (x : X) → row_at rows place ≡ Some x → place < length rows
some_within {X} rows place x is = either (cases_lt place (length rows))
  where
    either : (place < length rows) ⊎ (length rows ≤ place) → place < length rows
    either (inl low) = low
    either (inr past) = absurd (true≢false (sym (sym (ap is_some (get_or_past rows place None past)) ∙ ap is_some is)))

-- what holds of the row that was set, and of the others before, holds of all rows
pub rows_set : {X : Type 0} (P : ℕ → Option X → Type 0) (rows : List (Option X)) (place : ℕ) (row : Option X) → place < length rows → P place row
    → ((i : ℕ) → (i ≡ place → ⊥) → P i (row_at rows i)) → (i : ℕ) → P i (row_at (set rows place row) i)
rows_set {X} P rows place row low here others i = either (cases_eq i place)
  where
    either : (i ≡ place) ⊎ (i ≡ place → ⊥) → P i (get_or (set rows place row) i None)
    either (inl same) = subst (λ j. P j (get_or (set rows place row) j None)) (sym same) (subst (P place) (sym (get_or-set_same rows place row None low)) here)
    either (inr other) = subst (P i) (sym (get_or-set_other rows place i row None other)) (others i other)

-- what holds of all rows holds with more empty ones, if it holds of these
pub rows_more : {X : Type 0} (P : ℕ → Option X → Type 0) (rows : List (Option X)) (more : ℕ) → ((i : ℕ) → P i (row_at rows i)) → (i : ℕ) → P i (row_at (rows ++ replicate more None) i)
rows_more {X} P rows more all i = subst (P i) (sym (either (cases_lt i (length rows)))) (all i)
  where
    none : (j : ℕ) → (j < more) ⊎ (more ≤ j) → get_or {A = Option X} (replicate more None) j None ≡ None
    none j (inl low) = get_or-replicate more j None None low
    none j (inr past) = get_or_past (replicate more None) j None (let long = length-replicate {A = Option X} more None in omega arith)

    either : (i < length rows) ⊎ (length rows ≤ i) → get_or (rows ++ replicate more None) i None ≡ get_or rows i None
    either (inl low) = get_or_append_left rows (replicate more None) None i low
    either (inr past) =
        get_or-append_right rows (replicate more None) (length rows) i None refl past ∙ none (i - length rows) (cases_lt (i - length rows) more)
        ∙ sym (get_or_past rows i None past)

-- what holds after a row was set, wherever there is a place, holds after it was pushed
pub row_put : {X : Type 0} (P : List (Option X) → Type 0) (place : ℕ) (row : X) (rows rows' : List (Option X)) → PutsRow place row rows rows' → (place < length rows → P (set rows place (Some row)))
    → (place < length (rows ++ replicate 1 None) → P (set (rows ++ replicate 1 None) place (Some row))) → P rows'
row_put {X} P place row rows rows' (inl (low, is)) there pushed = subst P (sym is) (there low)
row_put {X} P place row rows rows' (inr (end, is)) there pushed =
    subst P (sym is) (subst P (ap (λ k. set (rows ++ None ∷ []) k (Some row)) end ∙ set-append_seam rows None [] (Some row))
    (pushed (let long = length-append rows (replicate 1 None) in let one = length-replicate {A = Option X} 1 None in omega arith)))

-- ---- flags

pub flag_set : (flags : List Bool) (place i : ℕ) → place < length flags → is_set_at (set flags place true) i ≡ cond (nat_eq place i) true (is_set_at flags i)
flag_set flags place i low = either (cases_eq i place)
  where
    either : (i ≡ place) ⊎ (i ≡ place → ⊥) → get_or (set flags place true) i false ≡ cond (nat_eq place i) true (get_or flags i false)
    either (inl same) =
        ap (λ j. get_or (set flags place true) j false) same ∙ get_or-set_same flags place true false low
        ∙ sym (ap (λ t. cond t true (get_or flags i false)) (eq-eqb place i (sym same)))
    either (inr other) =
        get_or-set_other flags place i true false other ∙ sym (ap (λ t. cond t true (get_or flags i false)) (ne_eqb place i (λ same. other (sym same))))

pub none_set : (n i : ℕ) → is_set_at (replicate n false) i ≡ false
none_set n i = either (cases_lt i n)
  where
    either : (i < n) ⊎ (n ≤ i) → get_or (replicate n false) i false ≡ false
    either (inl low) = get_or-replicate n i false false low
    either (inr past) = get_or_past (replicate n false) i false (let long = length-replicate {A = Bool} n false in omega arith)

-- one more flag is set, or it was set before
pub left_set : (flags : List Bool) (place : ℕ) → place < length flags
    → count_by not (set flags place true) ≡ cond (is_set_at flags place) (count_by not flags) (count_by not flags - 1)
left_set flags place low = either (get_or flags place false) (sum_by-set (λ x. cond (not x) 1 0) flags place true false low)
  where
    either : (t : Bool) → count_by not (set flags place true) + cond (not t) 1 0 ≡ count_by not flags + 0
        → count_by not (set flags place true) ≡ cond t (count_by not flags) (count_by not flags - 1)
    either true sum = omega arith
    either false sum = omega arith

-- of flags of which one isn't set, one is left
pub some_left : (flags : List Bool) (place : ℕ) → place < length flags → is_set_at flags place ≡ false → 0 < count_by not flags
some_left flags place low unset = either (get_or flags place false) unset (sum_by-set (λ x. cond (not x) 1 0) flags place true false low)
  where
    either : (t : Bool) → t ≡ false → count_by not (set flags place true) + cond (not t) 1 0 ≡ count_by not flags + 0 → 0 < count_by not flags
    either true on sum = absurd (true≢false on)
    either false on sum = omega arith

pub none_left : (n : ℕ) → count_by not (replicate n false) ≡ n
none_left n = sum_by-replicate (λ x. cond (not x) 1 0) n false ∙ omega arith

-- if no flag is left, all are set
pub all_set : (flags : List Bool) (i : ℕ) → count_by not flags ≡ 0 → i < length flags → is_set_at flags i ≡ true
all_set [] i none low = absurd (omega arith)
all_set (true ∷ flags) zero none low = refl
all_set (true ∷ flags) (suc i) none low = let first = sum_by-cons (λ x. cond (not x) 1 0) true flags in all_set flags i (omega arith) (omega arith)
all_set (false ∷ flags) i none low = let first = sum_by-cons (λ x. cond (not x) 1 0) false flags in absurd (omega arith)

-- ---- bytes of a path

front_alone : (len at : ℕ) (front rest : List ℕ) → at + len ≤ length front → take len (drop at (front ++ rest)) ≡ take len (drop at front)
front_alone len at front rest within =
    let behind = length-drop at front in
    ap (take len) (drop-append-le at front rest (omega arith)) ∙ take-append-le len (drop at front) rest (omega arith)

module _ (len : ℕ) (image : List ℕ) (i : ℕ) (bucket : List ℕ) (long : length bucket ≡ len) (within : i * len + len ≤ length image) where
  front : length (take (i * len) image) ≡ i * len
  front = length-take-le (i * len) image (omega arith)

  pub put_here : take len (drop (i * len) (bucket_put len image i bucket)) ≡ bucket
  put_here =
      ap (λ l. take len (drop (i * len) l)) (append_assoc (take (i * len) image) bucket (drop (i * len + len) image))
      ∙ ap (take len) (drop_at (take (i * len) image) (bucket ++ drop (i * len + len) image) (i * len) front)
      ∙ take_at bucket (drop (i * len + len) image) len long

  put_before : (j : ℕ) → j + 1 ≤ i → take len (drop (j * len) (bucket_put len image i bucket)) ≡ take len (drop (j * len) image)
  put_before j less =
      let up : (j + 1) * len ≤ i * len = mul-le-mul_right len less in
      let next : (j + 1) * len ≡ j * len + len = omega arith in
      ap (λ l. take len (drop (j * len) l)) (append_assoc (take (i * len) image) bucket (drop (i * len + len) image))
      ∙ front_alone len (j * len) (take (i * len) image) (bucket ++ drop (i * len + len) image) (omega (arith, front, up, next))
      ∙ sym (front_alone len (j * len) (take (i * len) image) (drop (i * len) image) (omega (arith, front, up, next)))
      ∙ ap (λ l. take len (drop (j * len) l)) (take-append-drop (i * len) image)

  put_behind : (j : ℕ) → i + 1 ≤ j → take len (drop (j * len) (bucket_put len image i bucket)) ≡ take len (drop (j * len) image)
  put_behind j more =
      let up : (i + 1) * len ≤ j * len = mul-le-mul_right len more in
      let next : (i + 1) * len ≡ i * len + len = omega arith in
      let both : length (take (i * len) image ++ bucket) ≡ i * len + len = length-append (take (i * len) image) bucket ∙ omega (arith, front, long) in
      ap (take len) (drop-append-drop (i * len + len) image (take (i * len) image ++ bucket) (j * len) (omega (arith, up, next)) both)

  pub put_other : (j : ℕ) → (j ≡ i → ⊥) → take len (drop (j * len) (bucket_put len image i bucket)) ≡ take len (drop (j * len) image)
  put_other j other = either (cases_lt j i)
    where
      either : (j < i) ⊎ (i ≤ j) → take len (drop (j * len) (bucket_put len image i bucket)) ≡ take len (drop (j * len) image)
      either (inl less) = put_before j (omega arith)
      either (inr more) = put_behind j (omega (arith, other))

-- they are as many as before
pub put_len : (len : ℕ) (image : List ℕ) (i : ℕ) (bucket : List ℕ) → length bucket ≡ len → i * len + len ≤ length image → length (bucket_put len image i bucket) ≡ length image
put_len len image i bucket long within =
    let first = length-take-le (i * len) image (omega arith) in
    let rest = length-drop (i * len + len) image in
    length-append (take (i * len) image ++ bucket) (drop (i * len + len) image) ∙ ap (λ n. n + length (drop (i * len + len) image)) (length-append (take (i * len) image) bucket) ∙ omega arith
