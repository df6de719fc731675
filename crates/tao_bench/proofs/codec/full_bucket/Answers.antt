use Rattle.std.proofs.Common.{[], arith}
use Rattle.tao_bench.proofs.Forms.{first_ids, root_within}
use Rattle.tao_bench.proofs.codec.full_bucket.Goals as goal

pub returns : goal.returns
returns c =
    let all = c.loop-id.invariant in
    record {
      low = omega arith;
      high = root_within c.args.p.now.l;
      entries = first_ids c.args.p.now c.loop-id.entries (record { id = 0; value = [] }) c.requires (omega arith) all.ids all.values;
    }
