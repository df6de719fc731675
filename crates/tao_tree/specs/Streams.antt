-- What a link over a stream gives and takes.
use Rattle.std.specs.Prelude.{◌≡◌, ◌≢◌, ◌⊎◌, ℕ, ◌+◌, ◌*◌, ◌<◌, List, ◌++◌, length, Option}
use Rattle.std.specs.Io.KnownBytes.{Consumes, IsAtEnd}
use Rattle.std.specs.Int.{w32, to_be_bytes}
use Rattle.tao_base.specs.Causes.{Rose, one_more}
use Rattle.tao_base.specs.Limits.{Shape, IsShape, bucket_len}
use Rattle.tao_base.specs.Links.{Reach, IsReachFor, order_limit}
use Rattle.tao_base.specs.Transfers.{PutsAll, PutsPart, ConsumesFewer}
use Rattle.tao_wire.specs.Frames.{frame}
use Rattle.tao_wire.specs.declared.message.Message.{Message}
use Rattle.tao_wire.specs.declared.message.Message.TheVariants.{Fetch, Path, Store, Stored}

-- a link over a stream: its parameters, the stream's two halves, and how many wrong answers came
pub record StreamState (S K : Type 0) : Type 0 where
  pub shape : Shape
  pub source : S
  pub sink : K
  pub wrong : ℕ

-- the bytes of a path
abbrev pub path_len : Shape → ℕ
path_len s = (s.l + 1) * bucket_len s

-- a store may have as many buckets as a write-back or as a part of the load has, or as the tree has nodes
abbrev pub stream_reach : Shape → Reach
stream_reach s = record { height = s.l; bucket_len = bucket_len s; most = order_limit s }

-- such a link is one for these parameters
abbrev pub StreamFits : Type 0
StreamFits = (s : Shape) → IsShape s → IsReachFor s (stream_reach s)

-- only a length field came, and it is another than that of so long a content
abbrev pub IsOtherLength : ℕ → List ℕ → Type 0
IsOtherLength len came = (length came ≡ 4) × (came ≢ to_be_bytes w32 len)

-- the source ended within a frame with so long a content
abbrev pub EndsWithin : ℕ → List ℕ → Option (List ℕ) → Type 0
EndsWithin len came left = (length came < 4 + len) × IsAtEnd left

-- a frame with so long a content came whole, and it is no wanted answer's
pub record IsOtherFrame (IsWanted : Message → Type 0) (len : ℕ) (came : List ℕ) : Type 0 where
  pub content : List ℕ
  pub size : length content ≡ len
  pub whole : came ≡ to_be_bytes w32 len ++ content
  pub other : (message : Message) → IsWanted message → frame message ≢ came

-- what came is no frame with so long a content
pub record ConsumesOther (old new : Option (List ℕ)) (len : ℕ) : Type 0 where
  pub came : List ℕ
  pub taken : Consumes old new came
  pub other : IsOtherLength len came ⊎ EndsWithin len came new

-- What came is no wanted answer, whose content is so long: its length field is another, and nothing behind it was read; or the source
-- ended; or it was read whole, and says something else.
pub record ConsumesWrong (old new : Option (List ℕ)) (IsWanted : Message → Type 0) (len : ℕ) : Type 0 where
  pub came : List ℕ
  pub taken : Consumes old new came
  pub wrong : IsOtherLength len came ⊎ (EndsWithin len came new ⊎ IsOtherFrame IsWanted len came)

-- the wanted answer to a fetch: the path under its id, of so many bytes
abbrev pub AnswersFetch : ℕ → ℕ → Message → Type 0
AnswersFetch id len message = (image : List ℕ) × (length image ≡ len) × (message ≡ Path id image)

-- the wanted answer to a store: its version is acknowledged
abbrev pub AnswersStore : ℕ → Message → Type 0
AnswersStore version message = message ≡ Stored version

-- the room for the kind byte, the id and the path of an answer
pub record HasPathRoom (s : Shape) (len : ℕ) : Type 0 where
  pub shape : IsShape s
  pub room : len ≡ 9 + path_len s

-- a link to which no wrong answer came yet
abbrev pub new_stream : {S K : Type 0} → Shape → S → K → StreamState S K
new_stream s source sink = record { shape = s; source = source; sink = sink; wrong = 0 }

-- what the halves of a stream tell: the bytes left and the bytes put, and their fault counters
pub record Halves (S K : Type 0) : Type 0 where
  pub left : S → Option (List ℕ)
  pub source_faults : S → ℕ
  pub put : K → Option (List ℕ)
  pub sink_faults : K → ℕ

-- the halves of these functions, in the order of the fields
abbrev pub halves : {S K : Type 0} → (S → Option (List ℕ)) → (S → ℕ) → (K → Option (List ℕ)) → (K → ℕ) → Halves S K
halves left source_faults put sink_faults = record { left = left; source_faults = source_faults; put = put; sink_faults = sink_faults }

-- what a call sends, which messages answer it, and how many bytes the content of such an answer has
pub record Exchange : Type 1 where
  pub sent : List ℕ
  pub IsWanted : Message → Type 0
  pub len : ℕ

-- a fetch of this leaf under this id, whose path has so many bytes
abbrev pub fetching : ℕ → ℕ → ℕ → Exchange
fetching id leaf len = record { sent = frame (Fetch id leaf); IsWanted = AnswersFetch id len; len = 9 + len }

-- a store of this image with this version
abbrev pub storing : ℕ → List ℕ → Exchange
storing version image = record { sent = frame (Store version image); IsWanted = AnswersStore version; len = 5 }

module _ {S K : Type 0} (h : Halves S K) (e : Exchange) (old new : StreamState S K) where
  -- The call was answered: its frame was put, and just the frame of this answer was read.
  pub record IsAnswered (answer : Message) : Type 0 where
    pub sent : PutsAll h.put h.sink_faults old.sink new.sink e.sent
    pub came : Consumes (h.left old.source) (h.left new.source) (frame answer)
    pub uncounted : new.wrong ≡ old.wrong

  -- The call failed at the sink: a prefix of its frame was put, and nothing was read.
  pub record FailsToSend : Type 0 where
    pub part : PutsPart h.put h.sink_faults old.sink new.sink e.sent
    pub unread : new.source ≡ old.source
    pub uncounted : new.wrong ≡ old.wrong

  -- The call failed at the source: its frame was put, and less than a wanted answer was read.
  pub record FailsToReceive : Type 0 where
    pub sent : PutsAll h.put h.sink_faults old.sink new.sink e.sent
    pub part : ConsumesFewer (h.left old.source) (h.left new.source) (4 + e.len)
    pub rose : Rose (h.source_faults old.source) (h.source_faults new.source)
    pub uncounted : new.wrong ≡ old.wrong

  -- A wrong answer came: it counts once, and neither half has failed.
  pub record IsAnsweredWrong : Type 0 where
    pub sent : PutsAll h.put h.sink_faults old.sink new.sink e.sent
    pub came : ConsumesWrong (h.left old.source) (h.left new.source) e.IsWanted e.len
    pub unfailed : h.source_faults new.source ≡ h.source_faults old.source
    pub counted : new.wrong ≡ one_more old.wrong

  -- the causes of a failed call
  abbrev pub Fails : Type 0
  Fails = FailsToSend ⊎ (FailsToReceive ⊎ IsAnsweredWrong)
