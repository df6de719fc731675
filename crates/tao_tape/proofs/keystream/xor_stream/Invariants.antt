-- The bytes of the words drawn so far are xored, and those after them are as they were.
use Rattle.std.proofs.Common.{◌≡◌, ℕ, ◌*◌, ◌≤◌, ◌<◌, slice_index}
use Rattle.tao_tape.specs.Keystream.{xored_byte}
use Rattle.tao_tape.proofs.Streams.{stream_at}
use Rattle.tao_tape.proofs.keystream.xor_stream.Given as goal

abbrev pub invariant-loop-i : goal.invariant-loop-i
invariant-loop-i l = record {
  stream : l.stream ≡ stream_at l.key l.nonce l.i;
  done : (t : ℕ) → t < 4 * l.i → slice_index l.bytes t ≡ xored_byte l.key l.nonce l.fn.bytes t;
  rest : (t : ℕ) → 4 * l.i ≤ t → slice_index l.bytes t ≡ slice_index l.fn.bytes t;
}
