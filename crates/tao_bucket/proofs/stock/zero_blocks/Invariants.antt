-- The blocks made so far.
use Rattle.std.proofs.Common.{◌≡◌, ◌≤◌, vec_len, vec_capacity}
use Rattle.std.specs.List.{All}
use Rattle.tao_bucket.specs.Encoding.{IsBlock}
use Rattle.tao_bucket.proofs.stock.zero_blocks.Given as goal

abbrev pub invariant-loop : goal.invariant-loop
invariant-loop l = record {
  count : vec_len l.blocks ≡ l.counter;
  values : All (IsBlock l.len) l.blocks.items;
  capacity : l.count ≤ vec_capacity l.blocks;
}
