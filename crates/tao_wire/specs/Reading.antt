-- What the parts of the decoder answer.
use Rattle.std.specs.Prelude.{◌≡◌, ℕ, ◌≤◌, List, length, drop, slice_index, Option, Some, None, Result, Ok, Err}
use Rattle.tao_wire.specs.Frames.{content, IsInRange, IsKind, IsNoContent, IsPartial, HasWholeFrame, BeginsWith, BeginsWithSome, BeginsFaulty, length_field}
use Rattle.tao_wire.specs.declared.message.Message.{Message}
use Rattle.tao_wire.specs.declared.message.WireFault.{WireFault}
use Rattle.tao_wire.specs.declared.message.WireFault.TheVariants.{Long, Kind, Body, Memory}

-- these are a message's kind byte and body
abbrev pub IsContent : List ℕ → Message → Type 0
IsContent bytes message = (content message ≡ bytes) × IsInRange message

-- these are some message's kind byte and body
abbrev pub IsSomeContent : List ℕ → Type 0
IsSomeContent bytes = (message : Message) × IsContent bytes message

-- what is made of a kind byte and a body
abbrev pub Says : List ℕ → Result Message WireFault → Type 0
Says bytes (Ok message) = IsContent bytes message
Says bytes (Err Long) = ⊥
Says bytes (Err Kind) = IsKind (slice_index bytes 0) → ⊥
Says bytes (Err Body) = IsKind (slice_index bytes 0) × IsNoContent bytes
Says bytes (Err Memory) = IsSomeContent bytes

-- the length field, where the frame has come whole
abbrev pub Length : ℕ → List ℕ → Result (Option ℕ) WireFault → Type 0
Length limit bytes (Ok (Some len)) = HasWholeFrame limit bytes × (len ≡ length_field bytes)
Length limit bytes (Ok None) = IsPartial limit bytes
Length limit bytes (Err Long) = BeginsFaulty limit bytes Long
Length limit bytes (Err Kind) = ⊥
Length limit bytes (Err Body) = BeginsFaulty limit bytes Body
Length limit bytes (Err Memory) = ⊥

-- the first message and the length of its frame
abbrev pub Reads : ℕ → List ℕ → Result (Option (Message × ℕ)) WireFault → Type 0
Reads limit bytes (Ok (Some (message, len))) = BeginsWith limit bytes message (drop len bytes) × (len ≤ length bytes)
Reads limit bytes (Ok None) = IsPartial limit bytes
Reads limit bytes (Err Long) = BeginsFaulty limit bytes Long
Reads limit bytes (Err Kind) = BeginsFaulty limit bytes Kind
Reads limit bytes (Err Body) = BeginsFaulty limit bytes Body
Reads limit bytes (Err Memory) = BeginsWithSome limit bytes
