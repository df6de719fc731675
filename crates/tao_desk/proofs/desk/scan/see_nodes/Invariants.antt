use Rattle.std.proofs.Common.{◌≡◌, ◌-◌, reverse}
use Rattle.tao_desk.specs.Scanning.{Sees, entries_before}
use Rattle.tao_desk.proofs.desk.scan.see_nodes.Given as goal

abbrev pub invariant-loop-node : goal.invariant-loop-node
invariant-loop-node l = record {
  sees : Sees l.initial.processor.history.opening.shape (entries_before l.initial.processor.history.opening (reverse l.initial.processor.history.events) (l.node - 1)) l.seen.values.items l.seen.known.items;
  taken : l.seen.taken ≡ l.initial.seen.taken;
}
