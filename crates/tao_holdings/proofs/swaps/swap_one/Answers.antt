use Rattle.tao_holdings.proofs.Swapped.{swaps_one}
use Rattle.tao_holdings.proofs.swaps.swap_one.Goals as goal

pub returns-clause-residents : goal.returns-clause-residents
returns-clause-residents c = (swaps_one c.args.subtree.now c.swap_entries.new.self c.args.node c.args.list.now c.swap_entries.new.entries c.swap_entries.ensures.state).0
