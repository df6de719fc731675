use Rattle.std.proofs.Common.{ℕ, ◌<◌, List, length, arith, inl, inr}
use Rattle.std.specs.List.{All}
use Rattle.std.proofs.lemmas.Bool.{cases_lt}
use Rattle.std.proofs.lemmas.List.{get_or_past}
use Rattle.tao_wire.proofs.BodyLemmas.{AreBytes}
use Rattle.tao_wire.proofs.Streams.{one_stream}
use Rattle.tao_wire.proofs.Totals.{every_stream}
use Rattle.tao_wire.proofs.laws.one_reading.Goals as goal

small_all : (bytes : List ℕ) → All (λ byte. byte < 256) bytes → AreBytes bytes
small_all bytes all i = elim (cases_lt i (length bytes)) [ inl h ↦ all i 0 h | inr h ↦ rw (get_or_past bytes i 0 h) (omega arith) ]

pub returns-clause-one : goal.returns-clause-one
returns-clause-one c = one_stream

pub returns-clause-some : goal.returns-clause-some
returns-clause-some c limit stream small all = every_stream limit stream (small_all stream all)
