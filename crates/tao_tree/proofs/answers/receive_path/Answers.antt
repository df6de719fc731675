use Rattle.std.proofs.Common.{◌-◌, length, take, ap, ◌∙◌, arith}
use Rattle.tao_base.specs.Transfers.{same}
use Rattle.tao_tree.specs.Streams.{AnswersFetch}
use Rattle.tao_tree.proofs.AnswerLemmas.{judged_path, path_head_is, other_wrong, when_true, when_false}
use Rattle.tao_tree.proofs.answers.receive_path.Goals as goal

pub returns-then-not-branch-clause-came : goal.returns-then-not-branch-clause-came
returns-then-not-branch-clause-came g c =
    let n = length c.receive.new.content in
    other_wrong _ _ (AnswersFetch c.args.id (n - 9)) n (when_false _ _ _ c.if-not-branch.true c.in_ok-receive.ensures.came)

pub returns-clause-came : goal.returns-clause-came
returns-clause-came g c =
    judged_path _ _ c.args.id c.receive.new.content c.are_same.result (omega (arith, c.receive.auto.content))
    (c.are_same.ensures ∙ ap (same (take 9 c.receive.new.content)) (path_head_is c.args.id c.path_head.result c.path_head.ensures)) (when_true _ _ _ c.if-not-branch.false c.in_ok-receive.ensures.came)
