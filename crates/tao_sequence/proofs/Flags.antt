-- One more flag goes up.
use Rattle.std.proofs.Common.{◌≡◌, ℕ, ◌+◌, ◌<◌, ◌≤◌, Bool, true, false, ◌||◌, List, length, set, get_or, refl, sym, ap, ◌∙◌, arith, inl, inr, ◌⊎◌, nat_eq}
use Rattle.std.proofs.lemmas.Bool.{cases_lt, cases_eq, eq-eqb, ne_eqb}
use Rattle.std.proofs.lemmas.List.{length-set, get_or-set_same, get_or-set_other}
use Rattle.tao_sequence.specs.Release.{is_done_in, IsReleased, IsFirstUndone}

-- an arrival is done now where it is this one, or was done before
pub raised : (flags : List Bool) (i j : ℕ) → i < length flags → is_done_in (set flags i true) j ≡ (nat_eq i j || is_done_in flags j)
raised flags i j low = either (cases_eq j i)
  where
    either : (j ≡ i) ⊎ (j ≡ i → ⊥) → get_or (set flags i true) j false ≡ (nat_eq i j || is_done_in flags j)
    either (inl same) = ap (λ k. get_or (set flags i true) k false) same ∙ get_or-set_same flags i true false low ∙ sym (ap (λ t. t || is_done_in flags j) (eq-eqb i j (sym same)))
    either (inr other) = get_or-set_other flags i j true false other ∙ sym (ap (λ t. t || is_done_in flags j) (ne_eqb i j (λ same. other (sym same))))

-- what was done stays done
stays_done : (flags : List Bool) (i j : ℕ) → i < length flags → is_done_in flags j ≡ true → is_done_in (set flags i true) j ≡ true
stays_done flags i j low is = raised flags i j low ∙ either (nat_eq i j) (is_done_in flags j) is
  where
    either : (x y : Bool) → y ≡ true → (x || y) ≡ true
    either true y is = refl
    either false y is = is

other_flag : (flags : List Bool) (i j : ℕ) → (j ≡ i → ⊥) → is_done_in (set flags i true) j ≡ is_done_in flags j
other_flag flags i j other = get_or-set_other flags i j true false other

-- the first that wasn't done goes up: it and those behind it are released, up to the next gap
pub released_further : (flags : List Bool) (i r : ℕ) → i < length flags → IsReleased flags i → IsFirstUndone flags (i + 1) r → IsReleased (set flags i true) r
released_further flags i r there is next = record {
  within = let len = length-set flags i true in let within = next.within in omega arith;
  below = λ j small. either j small (cases_lt j i) (cases_eq j i);
  stops = let low = next.low in other_flag flags i r (λ same. omega arith) ∙ next.stops;
}
  where
    either : (j : ℕ) → j < r → (j < i) ⊎ (i ≤ j) → (j ≡ i) ⊎ (j ≡ i → ⊥) → is_done_in (set flags i true) j ≡ true
    either j small (inl less) c = stays_done flags i j there (is.below j less)
    either j small (inr more) (inl same) = ap (is_done_in (set flags i true)) same ∙ get_or-set_same flags i true false there
    either j small (inr more) (inr other) = stays_done flags i j there (next.between j (omega (arith, other)) small)

-- another goes up: as many are released as before
pub released_no_further : (flags : List Bool) (i r : ℕ) → i < length flags → (i ≡ r → ⊥) → IsReleased flags r → IsReleased (set flags i true) r
released_no_further flags i r there other is = record {
  within = let len = length-set flags i true in let within = is.within in omega arith;
  below = λ j small. stays_done flags i j there (is.below j small);
  stops = other_flag flags i r (λ same. other (sym same)) ∙ is.stops;
}
