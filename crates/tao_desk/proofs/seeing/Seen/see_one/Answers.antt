use Rattle.std.proofs.Common.{sym, ap, ◌∙◌, length, List, ℕ}
use Rattle.tao_desk.proofs.SeenEntries.{sees_known, sees_written}
use Rattle.tao_desk.proofs.seeing.Seen.see_one.Goals as goal

pub returns-then-index-clause-sees : goal.returns-then-index-clause-sees
returns-then-index-clause-sees c = λ s before is entry. sees_known c.args.entry.now c.index.result.now is entry.0 (sym c.index.ensures ∙ c.if-index.true)

pub returns-clause-sees : goal.returns-clause-sees
returns-clause-sees c =
    λ s before is entry. sees_written c.args.entry.now c.index.result.now c.index_mut.result.now c.copy_from_slice.new.self is entry (sym c.index.ensures ∙ c.if-index.false)
    (c.copy_from_slice.ensures.len ∙ ap (λ (xs : List ℕ). length xs) c.as_mut_slice.ensures.value) (c.copy_from_slice.ensures.after ∙ c.as_slice.ensures)
