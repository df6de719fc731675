-- The first nodes of the store are put.
use Rattle.std.proofs.Common.{List, ◌++◌, reverse}
use Rattle.tao_schedule.specs.Moves.{Move}
use Rattle.tao_world.specs.Moving.{applies_below, HasPutBelow}
use Rattle.tao_world.specs.World.{IsLeftBy}
use Rattle.tao_world.proofs.world.World.apply_rest.Given as goal

abbrev pub invariant-loop-j : goal.invariant-loop-j
invariant-loop-j l = record {
  has : HasPutBelow l.version l.j l.fn.self l.self;
  left : (ms : List Move) → IsLeftBy ms l.fn.self → IsLeftBy (reverse (applies_below l.fn.self l.version l.j) ++ ms) l.self;
}
