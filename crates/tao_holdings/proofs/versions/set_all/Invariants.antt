use Rattle.tao_holdings.proofs.Versioned.{Versioning}
use Rattle.tao_holdings.proofs.versions.set_all.Given as goal

abbrev pub invariant-loop-i : goal.invariant-loop-i
invariant-loop-i l = Versioning l.nodes l.version l.fn.subtree l.subtree l.i
