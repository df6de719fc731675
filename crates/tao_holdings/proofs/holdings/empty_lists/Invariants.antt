use Rattle.tao_holdings.specs.Parts.{AreEmpty}
use Rattle.tao_holdings.proofs.holdings.empty_lists.Given as goal

abbrev pub invariant-loop : goal.invariant-loop
invariant-loop l = AreEmpty l.counter l.lists.items
