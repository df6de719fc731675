-- The first that the numbers of a range give.
use Rattle.std.proofs.Common.{◌≡◌, ℕ, zero, suc, ◌+◌, ◌-◌, ◌<◌, List, [], ◌∷◌, ◌++◌, Option, Some, None, refl, sym, ap, ap₂, subst, ◌∙◌, inl, inr, arith, zero-add, add-zero}
use Rattle.std.specs.List.{filter_map, cons_option, range_with_len}
use Rattle.std.specs.Option.{option_to_list}
use Rattle.std.proofs.lemmas.Bool.{cases_lt}
use Rattle.std.proofs.lemmas.List.Elements.{filter_map-append}
use Rattle.tao_bucket.specs.Reading.{first_of}

-- a range in two
pub range_split : (a m n : ℕ) → range_with_len a (m + n) ≡ range_with_len a m ++ range_with_len (a + m) n
range_split a zero n = ap₂ range_with_len (sym (add-zero a)) (zero-add n)
range_split a (suc m) n =
    let count : suc m + n ≡ suc (m + n) = omega arith in
    let place : a + 1 + m ≡ a + suc m = omega arith in
    ap (range_with_len a) count ∙ ap (λ (ns : List ℕ). a ∷ ns) (range_split (a + 1) m n ∙ ap (λ k. range_with_len (a + 1) m ++ range_with_len k n) place)

-- one number more
pub range_more : (i : ℕ) → range_with_len 0 (i + 1) ≡ range_with_len 0 i ++ i ∷ []
range_more i = range_split 0 i 1 ∙ ap (λ k. range_with_len 0 i ++ k ∷ []) (zero-add i)

listed : {X : Type 0} (o : Option X) → cons_option o [] ≡ option_to_list o
listed None = refl
listed (Some x) = refl

-- what one number more gives
pub given_more : {X : Type 0} (f : ℕ → Option X) (i : ℕ) → filter_map f (range_with_len 0 (i + 1)) ≡ filter_map f (range_with_len 0 i) ++ option_to_list (f i)
given_more f i = ap (filter_map f) (range_more i) ∙ filter_map-append f (range_with_len 0 i) (i ∷ []) ∙ ap (λ xs. filter_map f (range_with_len 0 i) ++ xs) (listed (f i))

pub none_more : {X : Type 0} (f : ℕ → Option X) (i : ℕ) → filter_map f (range_with_len 0 i) ≡ [] → f i ≡ None → filter_map f (range_with_len 0 (i + 1)) ≡ []
none_more f i none here = given_more f i ∙ ap₂ ◌++◌ none (ap option_to_list here)

-- none of the first i numbers gives anything, and i does
pub first_at : {X : Type 0} (f : ℕ → Option X) (z i : ℕ) (x : X) → filter_map f (range_with_len 0 i) ≡ [] → i < z → f i ≡ Some x → first_of (filter_map f (range_with_len 0 z)) ≡ Some x
first_at f z i x none within here =
    let count : z ≡ i + suc (z - i - 1) = omega arith in
    let parts = ap (range_with_len 0) count ∙ range_split 0 i (suc (z - i - 1)) ∙ ap (λ k. range_with_len 0 i ++ range_with_len k (suc (z - i - 1))) (zero-add i) in
    ap first_of
    (ap (filter_map f) parts ∙ filter_map-append f (range_with_len 0 i) (range_with_len i (suc (z - i - 1)))
    ∙ ap₂ ◌++◌ none (ap (λ o. cons_option o (filter_map f (range_with_len (i + 1) (z - i - 1)))) here))

-- where a range gives nothing, none of its numbers does
nothing : {X : Type 0} (xs : List X) (o : Option X) → xs ++ option_to_list o ≡ [] → (xs ≡ []) × (o ≡ None)
nothing [] None e = (refl, refl)
nothing [] (Some x) e = absurd cc
nothing (x ∷ xs) o e = absurd cc

each_none : {X : Type 0} (f : ℕ → Option X) (z : ℕ) → filter_map f (range_with_len 0 z) ≡ [] → (k : ℕ) → k < z → f k ≡ None
each_none f zero none k within = absurd (omega arith)
each_none f (suc z) none k within =
    let count : z + 1 ≡ suc z = omega arith in
    let parts = nothing (filter_map f (range_with_len 0 z)) (f z) (sym (rw count at (given_more f z)) ∙ none) in
    elim (cases_lt k z) [
      | inl lt ↦ each_none f z parts.0 k lt
      | inr le ↦ let same : z ≡ k = omega arith in subst (λ n. f n ≡ None) same parts.1
    ]

empty_first : {X : Type 0} (xs : List X) → first_of xs ≡ None → xs ≡ []
empty_first [] e = refl
empty_first (x ∷ xs) e = absurd cc

pub all_none : {X : Type 0} (f : ℕ → Option X) (z : ℕ) → first_of (filter_map f (range_with_len 0 z)) ≡ None → (k : ℕ) → k < z → f k ≡ None
all_none f z none = each_none f z (empty_first (filter_map f (range_with_len 0 z)) none)
