-- A text that wasn't read ends the call with its first break, or because memory ran out.
use Rattle.std.proofs.Common.{◌≡◌, ◌⊎◌, inl, inr, ℕ, ◌+◌, ◌^◌, List, Option, None, refl, sym, ap, subst}
use Rattle.tao_text.specs.declared.faults.TextFault.{TextFault}
use Rattle.tao_text.specs.declared.faults.TextKind.{TextKind}
use Rattle.tao_text.specs.Scripts.{no_memory}
use Rattle.tao_text.specs.Texts.{FirstBreak}
use Rattle.taostore.specs.declared.output.End.{End}
use Rattle.taostore.specs.Endings.{PlayEnds, IsEndOf, end_line}
use Rattle.taostore.specs.Input.{TakesPrefix, TakesInput}

module _ {S : Type 0} (left : S → Option (List ℕ)) (faults : S → ℕ) (old new : S) (bytes : List ℕ) (taken : TakesInput left old new (2 ^ 24 + 1) bytes) (unfailed : faults new ≡ faults old) where
  pub ends_unread : (fault : TextFault) (end : End) → TakesPrefix left old new → (fault ≡ no_memory) ⊎ FirstBreak bytes fault → IsEndOf fault end
      → PlayEnds left faults old new None end (end_line end)
  ends_unread fault end some read (inl memory) = subst (λ e. PlayEnds left faults old new None e (end_line e)) (sym memory.1) (some, inl (refl, refl))
  ends_unread fault end some (inl none) (inr other) = absurd (other.0 (ap (λ (f : TextFault). f.kind) none))
  ends_unread fault end some (inr broken) (inr other) =
      subst (λ e. PlayEnds left faults old new None e (end_line e)) (sym other.1) (record { bytes = bytes; taken = taken; unfailed = unfailed; broken = broken }, refl, refl)
