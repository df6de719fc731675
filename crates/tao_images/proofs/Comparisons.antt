-- Lists compared piece by piece.
use Rattle.std.proofs.Common.{◌≡◌, ◌≢◌, ℕ, suc, ◌+◌, ◌<◌, Bool, true, false, ◌&&◌, eqb, List, [], ◌∷◌, ◌++◌, length, get_or, drop, drop-cons, refl, sym, ap, ap₂, ◌∙◌, arith}
use Rattle.std.specs.List.{flat_map}
use Rattle.std.proofs.Math.Bool.{and_assoc}
use Rattle.std.proofs.lemmas.Bool.{ne_eqb}
use Rattle.tao_base.specs.Transfers.{same}

-- the front and the rest
pub same_front : (xs ys us vs : List ℕ) → length us ≡ length xs → same (us ++ vs) (xs ++ ys) ≡ (same us xs && same vs ys)
same_front [] ys [] vs long = refl
same_front [] ys (u ∷ us) vs long = absurd (omega (arith, long))
same_front (x ∷ xs) ys [] vs long = absurd (omega (arith, long))
same_front (x ∷ xs) ys (u ∷ us) vs long = ap (λ rest. eqb u x && rest) (same_front xs ys us vs (omega (arith, long))) ∙ sym (and_assoc (eqb u x) (same us xs) (same vs ys))

none : (b : Bool) → (b && false) ≡ false
none true = refl
none false = refl

-- a list that is too short
pub same_short : (xs ys us : List ℕ) → length us < length xs → same us (xs ++ ys) ≡ false
same_short [] ys us short = absurd (omega (arith, short))
same_short (x ∷ xs) ys [] short = refl
same_short (x ∷ xs) ys (u ∷ us) short = ap (λ rest. eqb u x && rest) (same_short xs ys us (omega (arith, short))) ∙ none (eqb u x)

pub same_lengths : (xs us : List ℕ) → length us ≢ length xs → same us xs ≡ false
same_lengths [] [] other = absurd (other refl)
same_lengths [] (u ∷ us) other = refl
same_lengths (x ∷ xs) [] other = refl
same_lengths (x ∷ xs) (u ∷ us) other = ap (λ rest. eqb u x && rest) (same_lengths xs us (λ e. other (ap suc e))) ∙ none (eqb u x)

pub same_nothing : (us : List ℕ) → (eqb (length us) 0) ≡ same us []
same_nothing [] = refl
same_nothing (u ∷ us) = ne_eqb (suc (length us)) 0 (λ e. absurd (omega arith))

module _ {X : Type 0} (bytes : X → List ℕ) (image rest : List ℕ) (items : List X) (i : ℕ) (x : X) (here : x ≡ get_or items i x) (within : i < length items)
    (left : same rest (flat_map bytes (drop i items)) ≡ same image (flat_map bytes items)) where
  -- item i and those behind it
  parts : flat_map bytes (drop i items) ≡ bytes x ++ flat_map bytes (drop (i + 1) items)
  parts =
      let next : suc i ≡ i + 1 = omega arith in
      ap (flat_map bytes) (drop-cons items i x within) ∙ ap₂ (λ (y : X) k. bytes y ++ flat_map bytes (drop k items)) (sym here) next

  pub none_left : length rest < length (bytes x) → false ≡ same image (flat_map bytes items)
  none_left short = sym (same_short (bytes x) (flat_map bytes (drop (i + 1) items)) rest short) ∙ sym (ap (same rest) parts) ∙ left

  pub one_less : (first later : List ℕ) (equal : Bool) → rest ≡ first ++ later → length first ≡ length (bytes x) → equal ≡ same first (bytes x)
      → (equal && same later (flat_map bytes (drop (i + 1) items))) ≡ same image (flat_map bytes items)
  one_less first later equal split long is =
      ap (λ t. t && same later (flat_map bytes (drop (i + 1) items))) is
      ∙ sym (same_front (bytes x) (flat_map bytes (drop (i + 1) items)) first later long)
      ∙ ap₂ same (sym split) (sym parts) ∙ left
