-- The buckets above depth d are read.
use Rattle.std.proofs.Common.{List, ◌++◌, reverse}
use Rattle.tao_schedule.specs.Moves.{Move}
use Rattle.tao_world.specs.Moving.{reads_above, HasReadAbove}
use Rattle.tao_world.specs.World.{IsLeftBy}
use Rattle.tao_world.proofs.world.World.read_rest.Given as goal

abbrev pub invariant-loop-d : goal.invariant-loop-d
invariant-loop-d l = record {
  has : HasReadAbove l.i l.d l.fn.self l.self;
  left : (ms : List Move) → IsLeftBy ms l.fn.self → IsLeftBy (reverse (reads_above l.fn.self l.i l.d) ++ ms) l.self;
}
