-- The bucket stays in form, and the `Room` fits it.
use Rattle.std.proofs.Common.{◌≡◌, ◌≤◌}
use Rattle.tao_base.specs.Buckets.{IsInForm}
use Rattle.tao_bench.proofs.codec.checksum.Given as goal

abbrev pub invariant-loop-nonce : goal.invariant-loop-nonce
invariant-loop-nonce l = record {
  form : IsInForm l.p l.bucket;
  z : l.room.z ≡ l.p.z;
  b : l.room.b ≡ l.p.b;
  few : l.taken ≤ l.nonce;
}
