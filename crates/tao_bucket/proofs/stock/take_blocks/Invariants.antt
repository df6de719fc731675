-- The blocks of the entries passed so far are taken back.
use Rattle.std.proofs.Common.{◌≡◌, ◌+◌, ◌++◌, map, take, drop, vec_len, vec_capacity}
use Rattle.tao_bucket.specs.Encoding.{value_of}
use Rattle.tao_bucket.proofs.stock.take_blocks.Given as goal

abbrev pub invariant-loop-i : goal.invariant-loop-i
invariant-loop-i l = record {
  spare : l.spare.items ≡ l.fn.spare.items ++ map value_of (take l.i l.fn.entries);
  rest : drop l.i l.entries ≡ drop l.i l.fn.entries;
  len : vec_len l.spare ≡ vec_len l.fn.spare + l.i;
  capacity : vec_capacity l.spare ≡ vec_capacity l.fn.spare;
}
