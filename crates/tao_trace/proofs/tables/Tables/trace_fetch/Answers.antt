use Rattle.std.proofs.Common.{arith}
use Rattle.tao_trace.proofs.Kept.{fit_of}
use Rattle.tao_trace.proofs.Traces.{fetch_traced}
use Rattle.tao_trace.proofs.tables.Tables.trace_fetch.Goals as goal

pub returns : goal.returns
returns c = fetch_traced _ _ _ _ _ _ _ _ _ _ _ _ (fit_of _ _ _ _ _ c.self.view_is c.self.invariant.arrivals) c.requires.next.1
    (let len = c.self.inside.told.ok.0 in let is = c.len-arrival.ensures in omega arith) c.leaf_for.ensures c.requires.so_far c.in_ok-push.ensures.ok
