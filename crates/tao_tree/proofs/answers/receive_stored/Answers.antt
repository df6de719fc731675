use Rattle.std.proofs.Common.{ap, ◌∙◌}
use Rattle.tao_base.specs.Transfers.{same}
use Rattle.tao_tree.proofs.AnswerLemmas.{judged_stored, when_true}
use Rattle.tao_tree.proofs.answers.receive_stored.Goals as goal

pub returns-clause-came : goal.returns-clause-came
returns-clause-came g c =
    judged_stored _ _ c.args.version c.receive.new.content c.are_same.result c.receive.auto.content
    (c.are_same.ensures ∙ ap (same c.receive.new.content) c.stored_content.ensures) (when_true _ _ _ c.if-not-branch.false c.in_ok-receive.ensures.came)
