-- What a room for a bucket shows.
use Rattle.std.specs.Prelude.{◌≡◌, ℕ, ◌+◌, ◌*◌, ◌≤◌, List, length, Option, Some, None, All}
use Rattle.tao_base.specs.declared.storage.Bucket.{Bucket}
use Rattle.tao_base.specs.declared.storage.Entry.{Entry}
use Rattle.tao_bucket.specs.Encoding.{IsBlock, HasBlock}

-- the blocks of a bucket, the bytes of a block, and the bucket that it holds
pub record RoomState : Type 0 where
  pub z : ℕ
  pub b : ℕ
  pub held : Option Bucket

-- a room for z blocks of b bytes with this bucket, or with none
abbrev pub room_of : ℕ → ℕ → Option Bucket → RoomState
room_of z b held = record { z = z; b = b; held = held }

-- a room for z blocks of b bytes with no bucket
abbrev pub empty_room : ℕ → ℕ → RoomState
empty_room z b = room_of z b None

-- the same room with this bucket
abbrev pub holding : RoomState → Bucket → RoomState
holding room bucket = room_of room.z room.b (Some bucket)

-- the same room with no bucket
abbrev pub emptied : RoomState → RoomState
emptied room = room_of room.z room.b None

-- what a room has of memory: z blocks of b bytes, in entries or to spare with room for all of them, and the bytes of z slots
pub record IsStocked (z b : ℕ) (entries : List Entry) (spare : List (List ℕ)) (capacity slots : ℕ) : Type 0 where
  pub few : z ≤ 8
  pub blocks : length entries + length spare ≡ z
  pub enough : z ≤ capacity
  pub entry_values : All (HasBlock b) entries
  pub spare_values : All (IsBlock b) spare
  pub in_clear : slots ≡ z * (4 + b)

-- entries of stock: z of them, each with a block of b bytes
pub record IsStock (z b : ℕ) (entries : List Entry) : Type 0 where
  pub count : length entries ≡ z
  pub values : All (HasBlock b) entries
