-- Preallocated buffers.
use Rattle.std.specs.Prelude.{◌≡◌, ℕ, List, length, ⊤}
use Rattle.tao_base.specs.Limits.{Shape}
use Rattle.tao_base.specs.declared.calls.Op.{Op}
use Rattle.tao_base.specs.declared.calls.Op.TheVariants.{Read, Write, Pad}
use Rattle.tao_requests.specs.declared.rooms.Room.{Room}

-- buffers of block size for an answer and for a written value
pub record IsRoom (s : Shape) (room : Room) : Type 0 where
  pub answer : length room.answer ≡ s.b
  pub written : length room.written ≡ s.b

-- a written value has the length of this one
abbrev pub FitsIn : List ℕ → Op → Type 0
FitsIn room (Read block) = ⊤
FitsIn room (Write block value) = length room ≡ length value
FitsIn room Pad = ⊤
