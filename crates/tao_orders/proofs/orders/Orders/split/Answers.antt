use Rattle.tao_orders.proofs.Passing.{splits, split_shares}
use Rattle.tao_orders.proofs.orders.Orders.split.Goals as goal

pub another-requires-clause-rule : goal.another-requires-clause-rule
another-requires-clause-rule c = splits _ _ c.args.pass.now.owns

pub returns-clause-shares : goal.returns-clause-shares
returns-clause-shares c = split_shares _ _ _ c.args.pass.now.owns c.another.ensures.rule.0 c.another.ensures.rule.1
