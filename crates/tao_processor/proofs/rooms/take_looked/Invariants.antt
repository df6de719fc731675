-- The first rooms gave their buckets in exchange, and the others are as they were.
use Rattle.std.proofs.Common.{◌≡◌, ◌+◌, ◌<◌, ◌≤◌, ℕ, length, vec_len, vec_capacity, All}
use Rattle.std.specs.List.{slice_index_or}
use Rattle.tao_base.specs.Limits.{Shape}
use Rattle.tao_bucket.specs.Rooms.{RoomState}
use Rattle.tao_images.specs.Paths.{IsRoom}
use Rattle.tao_processor.specs.Rooms.{IsStockFor, buckets_held}
use Rattle.tao_processor.proofs.rooms.take_looked.Given as goal

abbrev pub invariant-loop-i : goal.invariant-loop-i
invariant-loop-i l = record {
  taken : l.taken.items ≡ buckets_held l.i l.fn.rooms;
  count : vec_len l.taken ≡ l.i;
  capacity : vec_capacity l.fn.taken ≤ vec_capacity l.taken;
  stock : vec_len l.stock + l.i ≡ vec_len l.fn.stock;
  rest : (k : ℕ) (d : RoomState) → l.i ≤ k → k < length l.fn.rooms → slice_index_or l.rooms k d ≡ slice_index_or l.fn.rooms k d;
  rooms : (s : Shape) → All (IsRoom s) l.fn.rooms → All (IsRoom s) l.rooms;
  stocked : (s : Shape) → All (IsStockFor s) l.fn.stock.items → All (IsStockFor s) l.stock.items;
}
