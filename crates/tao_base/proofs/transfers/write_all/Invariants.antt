-- What was put so far is a prefix of the bytes, no write failed, and the other half is as before.
use Rattle.std.proofs.Common.{◌≡◌, ◌≤◌, ◌-◌, length, take}
use Rattle.tao_base.specs.Transfers.{PutsAll}
use Rattle.tao_base.proofs.transfers.write_all.Given as goal

abbrev pub invariant-loop-at : goal.invariant-loop-at
invariant-loop-at g l = record {
  within : l.at ≤ length l.bytes;
  put : PutsAll g.K.Sink.put g.K.Sink.faults l.fn.sink l.sink (take l.at l.bytes);
  apart : g.K.Sink.apart l.sink ≡ g.K.Sink.apart l.fn.sink;
}

abbrev pub decreases-loop-at : goal.decreases-loop-at
decreases-loop-at g l = length l.bytes - l.at
