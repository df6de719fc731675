-- The first forgeries are done.
use Rattle.std.proofs.Common.{◌≡◌, take, fold}
use Rattle.tao_tree.specs.Forging.{forged_once}
use Rattle.tao_tree.proofs.forgeries.forge_path.Given as goal

abbrev pub invariant-loop-f : goal.invariant-loop-f
invariant-loop-f l = l.path ≡ fold (forged_once l.call) l.fn.path (take l.f-index l.forgeries)
