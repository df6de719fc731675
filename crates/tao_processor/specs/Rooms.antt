-- The rooms for the buckets of a path.
use Rattle.std.specs.Prelude.{◌≡◌, ℕ, ◌+◌, ◌≤◌, ◌<◌, true, List, [], length, take, All, is_some}
use Rattle.std.specs.List.{filter_map}
use Rattle.tao_base.specs.Limits.{Shape}
use Rattle.tao_base.specs.declared.storage.Bucket.{Bucket}
use Rattle.tao_bucket.specs.Rooms.{RoomState, IsStock}
use Rattle.tao_images.specs.Paths.{IsRoom, held_in}

-- a room with a bucket
abbrev pub IsFull : RoomState → Type 0
IsFull room = is_some room.held ≡ true

-- the buckets in the first rooms, so many
abbrev pub buckets_held : ℕ → List RoomState → List Bucket
buckets_held count rooms = filter_map held_in (take count rooms)

-- a bucket that rooms of the store take in exchange for theirs
abbrev pub IsStockFor : Shape → Bucket → Type 0
IsStockFor s bucket = IsStock s.z s.b bucket.entries

-- Rooms for the buckets of a path, the first of them full, and what becomes of these buckets: a list with capacity for them, and stock in exchange.
pub record KeepsRooms (s : Shape) (rooms : List RoomState) (looked : ℕ) (taken : List Bucket) (space : ℕ) (stock : List Bucket) : Type 0 where
  pub enough : s.l < length rooms
  pub each : All (IsRoom s) rooms
  pub within : looked ≤ s.l + 1
  pub full : All IsFull (take looked rooms)
  pub empty : taken ≡ []
  pub fits : s.l + 1 ≤ space
  pub stocked : All (IsStockFor s) stock
