-- The bytes passed so far are xored, and all others are as they were.
use Rattle.std.proofs.Common.{◌≡◌, ℕ, ◌+◌, ◌≤◌, ◌<◌, slice_index, bit_xor}
use Rattle.tao_tape.proofs.keystream.xor_last.Given as goal

abbrev pub invariant-loop-c : goal.invariant-loop-c
invariant-loop-c l = record {
  done : (c : ℕ) → c < l.c → slice_index l.bytes (l.at + c) ≡ bit_xor (slice_index l.fn.bytes (l.at + c)) (slice_index l.word c);
  below : (t : ℕ) → t < l.at → slice_index l.bytes t ≡ slice_index l.fn.bytes t;
  rest : (t : ℕ) → l.at + l.c ≤ t → slice_index l.bytes t ≡ slice_index l.fn.bytes t;
}
