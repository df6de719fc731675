use Rattle.std.proofs.Common.{take}
use Rattle.tao_subtree.specs.Residents.{Forgets, KeepsRoom}
use Rattle.tao_subtree.proofs.subtree.Subtree.forget.Given as goal

abbrev pub invariant-loop-node : goal.invariant-loop-node
invariant-loop-node l = record {
  state : Forgets l.fn.self l.self l.version (take l.node-index l.nodes);
  kept : KeepsRoom l.fn.self l.self;
}
