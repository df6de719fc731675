use Rattle.tao_orders.proofs.Passing.{ends}
use Rattle.tao_orders.proofs.orders.Orders.finish.Goals as goal

pub absorb-requires-clause-rule : goal.absorb-requires-clause-rule
absorb-requires-clause-rule g c = ends _ _ _ _ c.args.take.owns c.args.put.puts
