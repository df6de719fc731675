use Rattle.std.proofs.Common.{refl}
use Rattle.std.specs.List.{slice_index_or}
use Rattle.tao_holdings.proofs.Versioned.{next_newer}
use Rattle.tao_holdings.proofs.versions.set_all.Goals as goal

pub set_one-requires-clause-newer : goal.set_one-requires-clause-newer
set_one-requires-clause-newer c =
    (next_newer c.args.nodes.now c.args.version c.args.subtree.now c.loop-i.subtree c.loop-i.i (slice_index_or c.args.nodes.now c.loop-i.i 0) c.requires.rising c.loop-i-test.true refl
    c.requires.held c.requires.newer c.loop-i.invariant).1
