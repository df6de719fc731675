-- What a stream of frames is: these messages, and then a rest that holds no whole frame, or begins with a faulty one.
use Rattle.std.specs.Prelude.{◌≡◌, ◌⊎◌, ℕ, ◌+◌, ◌^◌, ◌<◌, ◌≤◌, List, [], ◌∷◌, ◌++◌, length, take, drop, slice_index, Option, MatchOption, All, ⊤}
use Rattle.std.specs.Int.{w32, w64, to_be_bytes, from_be_bytes}
use Rattle.std.specs.List.{flat_map}
use Rattle.tao_wire.specs.declared.message.Message.{Message}
use Rattle.tao_wire.specs.declared.message.Message.TheVariants.{Fetch, Path, Store, Stored, Get, Put, Value, Refused}
use Rattle.tao_wire.specs.declared.message.WireFault.{WireFault}
use Rattle.tao_wire.specs.declared.message.WireFault.TheVariants.{Long, Kind, Body, Memory}

-- a message's kind byte and body, which is a number or two and then the rest of the frame
abbrev pub content : Message → List ℕ
content (Fetch id leaf) = 1 ∷ (to_be_bytes w64 id ++ to_be_bytes w32 leaf)
content (Path id image) = 2 ∷ (to_be_bytes w64 id ++ image)
content (Store version image) = 3 ∷ (to_be_bytes w32 version ++ image)
content (Stored version) = 4 ∷ to_be_bytes w32 version
content (Get block) = 5 ∷ to_be_bytes w32 block
content (Put block value) = 6 ∷ (to_be_bytes w32 block ++ value)
content (Value value) = 7 ∷ value
content (Refused code) = 8 ∷ code ∷ []

-- a frame: the length of the content as four bytes, and the content
abbrev pub frame : Message → List ℕ
frame message = to_be_bytes w32 (length (content message)) ++ content message

-- the numbers of a message are in the range of their types
abbrev pub IsInRange : Message → Type 0
IsInRange (Fetch id leaf) = (id < 2 ^ 64) × (leaf < 2 ^ 32)
IsInRange (Path id image) = id < 2 ^ 64
IsInRange (Store version image) = version < 2 ^ 32
IsInRange (Stored version) = version < 2 ^ 32
IsInRange (Get block) = block < 2 ^ 32
IsInRange (Put block value) = block < 2 ^ 32
IsInRange (Value value) = ⊤
IsInRange (Refused code) = code < 2 ^ 8

-- a message whose frame is within the limit
pub record Fits (limit : ℕ) (message : Message) : Type 0 where
  pub allowed : length (content message) ≤ limit
  pub in_range : IsInRange message

-- the bytes are the frame of this message and then the rest
pub record BeginsWith (limit : ℕ) (bytes : List ℕ) (message : Message) (rest : List ℕ) : Type 0 where
  pub first : bytes ≡ frame message ++ rest
  pub fits : Fits limit message

-- the bytes begin with the frame of some message
abbrev pub BeginsWithSome : ℕ → List ℕ → Type 0
BeginsWithSome limit bytes = (message : Message) × (rest : List ℕ) × BeginsWith limit bytes message rest

-- the number in the first four bytes
abbrev pub length_field : List ℕ → ℕ
length_field bytes = from_be_bytes w32 (take 4 bytes)

-- the kind byte and the body behind the first length field
abbrev pub first_content : List ℕ → List ℕ
first_content bytes = take (length_field bytes) (drop 4 bytes)

-- the first length field has come, and it is from 1 to the limit
pub record HasLength (limit : ℕ) (bytes : List ℕ) : Type 0 where
  pub come : 4 ≤ length bytes
  pub some : 0 < length_field bytes
  pub allowed : length_field bytes ≤ limit

-- no whole frame has come, and no faulty length field
abbrev pub IsPartial : ℕ → List ℕ → Type 0
IsPartial limit bytes = (length bytes < 4) ⊎ (HasLength limit bytes × (length bytes < 4 + length_field bytes))

-- a whole frame has come, whatever it says
pub record HasWholeFrame (limit : ℕ) (bytes : List ℕ) : Type 0 where
  pub length_good : HasLength limit bytes
  pub whole : 4 + length_field bytes ≤ length bytes

-- some message has this kind byte
abbrev pub IsKind : ℕ → Type 0
IsKind kind = (1 ≤ kind) × (kind ≤ 8)

-- no message has this kind byte and body
abbrev pub IsNoContent : List ℕ → Type 0
IsNoContent bytes = (message : Message) → content message ≡ bytes → ⊥

-- The bytes begin with a frame that has this fault. One in the length field shows as soon as that has come, and another once the frame
-- is whole.
abbrev pub BeginsFaulty : ℕ → List ℕ → WireFault → Type 0
BeginsFaulty limit bytes Long = (4 ≤ length bytes) × (limit < length_field bytes)
BeginsFaulty limit bytes Kind = HasWholeFrame limit bytes × (IsKind (slice_index (first_content bytes) 0) → ⊥)
BeginsFaulty limit bytes Body =
    ((4 ≤ length bytes) × (length_field bytes ≡ 0))
    ⊎ (HasWholeFrame limit bytes × IsKind (slice_index (first_content bytes) 0) × IsNoContent (first_content bytes))
BeginsFaulty limit bytes Memory = ⊥

-- no message is next: less than a frame has come, or a faulty one
abbrev pub Ends : ℕ → List ℕ → Option WireFault → Type 0
Ends limit rest fault = MatchOption fault (IsPartial limit rest) (BeginsFaulty limit rest)

-- the stream begins with the frames of these messages, and then comes the rest
pub record Splits (limit : ℕ) (stream : List ℕ) (messages : List Message) (rest : List ℕ) : Type 0 where
  pub whole : stream ≡ flat_map frame messages ++ rest
  pub each : All (Fits limit) messages

-- The stream is these messages, and then a rest that holds no whole frame, or begins with a frame that has this fault.
pub record FrameStream (limit : ℕ) (stream : List ℕ) (messages : List Message) (rest : List ℕ) (fault : Option WireFault) : Type 0 where
  pub splits : Splits limit stream messages rest
  pub end : Ends limit rest fault
