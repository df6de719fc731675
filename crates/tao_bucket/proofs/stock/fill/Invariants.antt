-- The entries of the slots passed so far, with as many blocks less to spare.
use Rattle.std.proofs.Common.{◌≡◌, ◌+◌, ◌≤◌, length, vec_len, vec_capacity}
use Rattle.std.specs.List.{All, filter_map, range_with_len}
use Rattle.tao_bucket.specs.Encoding.{IsBlock, HasBlock}
use Rattle.tao_bucket.specs.Reading.{entry_at}
use Rattle.tao_bucket.proofs.stock.fill.Given as goal

abbrev pub invariant-loop-i : goal.invariant-loop-i
invariant-loop-i l = record {
  entries : l.entries ≡ filter_map (entry_at l.p.b l.slots) (range_with_len 0 l.i);
  few : length l.entries ≤ l.i;
  entry_values : All (HasBlock l.p.b) l.entries;
  len : length l.entries + vec_len l.spare ≡ vec_len l.fn.spare;
  values : All (IsBlock l.p.b) l.spare.items;
  capacity : vec_capacity l.spare ≡ vec_capacity l.fn.spare;
}
