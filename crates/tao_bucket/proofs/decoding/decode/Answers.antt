-- What is read has no fault exactly where it encodes the bucket that is read.
use Rattle.std.proofs.Common.{arith}
use Rattle.tao_bucket.proofs.Whole.{found_by, only_by}
use Rattle.tao_bucket.proofs.decoding.decode.Goals as goal

pub returns-clause-found : goal.returns-clause-found
returns-clause-found c =
    let read = c.read_into.ensures in
    found_by c.args.key.now c.args.p.now c.args.want c.args.format c.args.bytes.now c.read_into.result c.args.room.now c.read_into.new.room (λ i. omega (arith, c.type_inv.bytes i)) read.fault read.ok

pub returns-clause-only : goal.returns-clause-only
returns-clause-only c =
    let read = c.read_into.ensures in
    only_by c.args.key.now c.args.p.now c.args.want c.args.format c.args.bytes.now c.read_into.result c.args.room.now c.read_into.new.room read.shape read.fault read.ok
