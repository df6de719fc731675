-- A text read line by line.
use Rattle.std.proofs.Common.{◌≡◌, ◌⊎◌, inl, inr, ℕ, ◌+◌, List, [], ◌∷◌, Result, Ok, Err, Option, refl, sym, ◌∙◌}
use Rattle.tao_text.specs.declared.draft.Draft.{Draft}
use Rattle.tao_text.specs.declared.faults.TextFault.{TextFault}
use Rattle.tao_text.specs.declared.faults.TextKind.{TextKind}
use Rattle.tao_text.specs.declared.text.TextOf.{TextOf}
use Rattle.tao_text.specs.Scripts.{fault_at, line_with, lines_with, no_memory}

module _ (text : TextOf) (draft : Option Draft) (number : ℕ) (line : List ℕ) (parts rest : List (List ℕ)) (all : Result (Option Draft × ℕ) TextFault) where
  pub goes_on : (next : Option Draft) → parts ≡ line ∷ rest → line_with text draft number line ≡ Ok next → lines_with text draft number parts ≡ all → lines_with text next (number + 1) rest ≡ all
  unfolding lines_with
  goes_on next first read so_far = sym (rw (first, read) refl) ∙ so_far

  pub stops : (fault : TextFault) → parts ≡ line ∷ rest → (fault ≡ no_memory) ⊎ ((kind : TextKind) × (line_with text draft number line ≡ Err kind) × (fault ≡ fault_at number kind))
      → lines_with text draft number parts ≡ all → (fault ≡ no_memory) ⊎ (all ≡ Err fault)
  unfolding lines_with
  stops fault first (inl memory) so_far = inl memory
  stops fault first (inr read) so_far = inr (sym so_far ∙ rw (first, read.1, read.2) refl)

pub is_done : (text : TextOf) (draft : Option Draft) (number : ℕ) (parts : List (List ℕ)) (all : Result (Option Draft × ℕ) TextFault) → parts ≡ [] → lines_with text draft number parts ≡ all → all ≡ Ok (draft, number)
unfolding lines_with
is_done text draft number parts all none so_far = sym so_far ∙ rw none refl
