-- The greatest number that passes a test.
use Rattle.std.proofs.Common.{◌≡◌, ℕ, ◌+◌, ◌<◌, ◌≤◌, Bool, true, false, cond, refl, sym, ap, ◌∙◌, arith, inl, inr, ◌⊎◌}
use Rattle.std.proofs.lemmas.Bool.{cases_eq, cases_order, true≢false}
use Rattle.tao_model.specs.Greatest.{IsGreatest}

-- one more number
pub greatest_step : (passes : ℕ → Bool) (m r : ℕ) (t : Bool) → passes (m + 1) ≡ t → IsGreatest passes m r → IsGreatest passes (m + 1) (cond t (m + 1) r)
greatest_step passes m r true is d = record { within = omega arith; here = inr is; none = λ w above within. absurd (omega arith) }
greatest_step passes m r false is d = record {
  within = let within = d.within in omega arith;
  here = d.here;
  none = λ w above within. either w above within (cases_eq w (m + 1));
}
  where
    either : (w : ℕ) → r < w → w ≤ m + 1 → (w ≡ m + 1) ⊎ (w ≡ m + 1 → ⊥) → passes w ≡ false
    either w above within (inl last) = ap passes last ∙ is
    either w above within (inr other) = d.none w above (omega (arith, other))

pub greatest_none : (passes : ℕ → Bool) → IsGreatest passes 0 0
greatest_none passes = record { within = omega arith; here = inl refl; none = λ w above within. absurd (omega arith) }

-- a test that agrees from 1 to m
pub greatest_same : (f g : ℕ → Bool) (m r : ℕ) → ((w : ℕ) → 0 < w → w ≤ m → g w ≡ f w) → IsGreatest f m r → IsGreatest g m r
greatest_same f g m r same d = record {
  within = d.within;
  here = either d.here (cases_eq r 0);
  none = λ w above within. same w (omega arith) within ∙ d.none w above within;
}
  where
    either : (r ≡ 0) ⊎ (f r ≡ true) → (r ≡ 0) ⊎ (r ≡ 0 → ⊥) → (r ≡ 0) ⊎ (g r ≡ true)
    either (inl none) some = inl none
    either (inr here) (inl none) = inl none
    either (inr here) (inr some) = inr (same r (omega (arith, some)) d.within ∙ here)

pub one_greatest : (passes : ℕ → Bool) (m r s : ℕ) → IsGreatest passes m r → IsGreatest passes m s → r ≡ s
one_greatest passes m r s d e = either (cases_order r s)
  where
    less : (r s : ℕ) → IsGreatest passes m r → IsGreatest passes m s → r < s → ⊥
    less r s d e h = passed e.here
      where
        passed : (s ≡ 0) ⊎ (passes s ≡ true) → ⊥
        passed (inl none) = omega arith
        passed (inr is) = true≢false (sym is ∙ d.none s h e.within)

    either : (r ≡ s) ⊎ ((r < s) ⊎ (s < r)) → r ≡ s
    either (inl same) = same
    either (inr (inl h)) = absurd (less r s d e h)
    either (inr (inr h)) = absurd (less s r e d h)
