-- The room stays one for two slots of four bytes.
use Rattle.std.proofs.Common.{◌≡◌}
use Rattle.tao_bucket.proofs.tests.room_again.Given as goal

abbrev pub invariant-loop-want : goal.invariant-loop-want
invariant-loop-want g l = (l.room.z ≡ l.p.z) × (l.room.b ≡ l.p.b)
