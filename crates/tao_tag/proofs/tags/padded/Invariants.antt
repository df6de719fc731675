-- The key's bytes so far are in place, xored; the others are xored zero bytes.
use Rattle.std.proofs.Common.{◌≡◌, ℕ, ◌≤◌, ◌<◌, length, slice_index, bit_xor}
use Rattle.tao_tag.proofs.tags.padded.Given as goal

abbrev pub invariant-loop-i : goal.invariant-loop-i
invariant-loop-i l = record {
  long : length l.block ≡ 64;
  front : (k : ℕ) → k < l.i → slice_index l.block k ≡ bit_xor (slice_index l.key k) l.pad;
  rest : (k : ℕ) → l.i ≤ k → k < 64 → slice_index l.block k ≡ l.pad;
}
