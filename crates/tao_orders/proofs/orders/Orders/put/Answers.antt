use Rattle.std.proofs.Common.{rules}
use Rattle.tao_orders.proofs.Putting.{puts, last_held}
use Rattle.tao_orders.proofs.orders.Orders.put.Goals as goal

pub push_as-requires-clause-rule : goal.push_as-requires-clause-rule
push_as-requires-clause-rule g c = (puts _ _ _ _ c.args.pass.now.puts (search rules) (search rules), last_held _ _ c.args.pass.now.puts)
