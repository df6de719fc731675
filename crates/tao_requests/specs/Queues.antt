-- How the queues of the blocks are kept: for each block its last request, and for each waiting request the next one.
use Rattle.std.specs.Prelude.{◌≡◌, ℕ, ◌+◌, ◌<◌, ◌≤◌, Bool, true, false, List, [], length, slice_set, Option, Some, None, IfSome, All, ⊤}
use Rattle.std.specs.List.{slice_index_or}
use Rattle.tao_base.specs.Limits.{Shape, IsShape}
use Rattle.tao_base.specs.declared.calls.Op.{Op}
use Rattle.tao_base.specs.declared.calls.Op.TheVariants.{Read, Write, Pad}
use Rattle.tao_model.specs.Events.{names, is_pad_op}
use Rattle.tao_model.specs.Lawful.{IsInRange}
use Rattle.tao_requests.specs.declared.queues.Wait.{Wait}
use Rattle.tao_requests.specs.declared.request.Kind.{Kind}
use Rattle.tao_requests.specs.declared.request.Kind.TheVariants.{Real, Fake}
use Rattle.tao_requests.specs.declared.request.Request.{Request}
use Rattle.tao_requests.specs.State.{is_real_kind, waits, request_at}
use Rattle.tao_requests.specs.declared.rooms.Room.{Room}
use Rattle.tao_requests.specs.Rooms.{IsRoom, FitsIn}

-- the last request in a block's queue, if there is one
abbrev pub last_on : List (Option ℕ) → ℕ → Option ℕ
last_on lasts block = slice_index_or lasts block None

-- a waiting request's next one on its block and its buffer for the answer; past the last request neither
abbrev pub wait_at : List Wait → ℕ → Wait
wait_at list i = slice_index_or list i (record { next = None; room = [] })

-- the last request of a queue, if there is one, is below this number
abbrev pub IsWithin : Option ℕ → ℕ → Type 0
IsWithin last len = IfSome last (λ k. k < len)

-- the kind of a new request, by the last one in its queue
abbrev pub kind_after : Option ℕ → Kind
kind_after None = Real
kind_after (Some last) = Fake

-- the last request links to the new one
abbrev pub linked : List Wait → Option ℕ → ℕ → List Wait
linked list None number = list
linked list (Some last) number = slice_set list last (record (wait_at list last) { next = Some number })

-- whether a request is on the block
abbrev pub is_on_at : List Request → ℕ → ℕ → Bool
is_on_at requests block i = names block (request_at requests i).op

-- The queue of a block from a request on, for a value of the block: each has a buffer for its answer and links to the next one.
pub record IsQueue (block first : ℕ) (value : List ℕ) (requests : List Request) (list : List Wait) : Type 0 where
  pub places : length list ≡ length requests
  pub written : (i : ℕ) → FitsIn value (request_at requests i).op
  pub room : (i : ℕ) → first ≤ i → is_on_at requests block i ≡ true → length (wait_at list i).room ≡ length value
  pub none : (i k : ℕ) → first ≤ i → is_on_at requests block i ≡ true → (wait_at list i).next ≡ None → i < k → is_on_at requests block k ≡ false
  pub later : (i k : ℕ) → first ≤ i → is_on_at requests block i ≡ true → (wait_at list i).next ≡ Some k → i < k
  pub on : (i k : ℕ) → first ≤ i → is_on_at requests block i ≡ true → (wait_at list i).next ≡ Some k → is_on_at requests block k ≡ true
  pub between : (i k m : ℕ) → first ≤ i → is_on_at requests block i ≡ true → (wait_at list i).next ≡ Some k → i < m → m < k → is_on_at requests block m ≡ false

-- after settling: each request keeps its link, and requests on other blocks keep their buffers
pub record LeavesOthers (block : ℕ) (requests : List Request) (old new : List Wait) : Type 0 where
  pub places : length new ≡ length old
  pub next : (i : ℕ) → (wait_at new i).next ≡ (wait_at old i).next
  pub others : (i : ℕ) → is_on_at requests block i ≡ false → wait_at new i ≡ wait_at old i

-- whether the request of this number has no answer yet; false past the last one
abbrev pub waits_at : List Request → ℕ → Bool
waits_at requests i = waits (request_at requests i)

-- whether the request of this number fetches for its block; false past the last one
abbrev pub is_real_at : List Request → ℕ → Bool
is_real_at requests i = is_real_kind (request_at requests i).kind

-- A block's queue is empty, or starts at the real request that waits: all requests on the block from it on wait, none before.
-- Each links to the next one, up to the last.
pub record InOrder (on : ℕ → ℕ → Bool) (waits is_real : ℕ → Bool) (next last : ℕ → Option ℕ) : Type 0 where
  pub quiet : (block i : ℕ) → last block ≡ None → on block i ≡ true → waits i ≡ false
  pub last_on : (block k : ℕ) → last block ≡ Some k → on block k ≡ true
  pub last_waits : (block k : ℕ) → last block ≡ Some k → waits k ≡ true
  pub none_behind : (block k m : ℕ) → last block ≡ Some k → k < m → on block m ≡ false
  pub real_one : (block k : ℕ) → last block ≡ Some k → (i : ℕ) × (on block i ≡ true) × (is_real i ≡ true) × (waits i ≡ true)
  pub before : (block i j : ℕ) → on block i ≡ true → is_real i ≡ true → waits i ≡ true → on block j ≡ true → j < i → waits j ≡ false
  pub after : (block i j : ℕ) → on block i ≡ true → waits i ≡ true → on block j ≡ true → i < j → waits j ≡ true
  pub none : (block i k : ℕ) → on block i ≡ true → waits i ≡ true → next i ≡ None → i < k → on block k ≡ false
  pub later : (block i k : ℕ) → on block i ≡ true → waits i ≡ true → next i ≡ Some k → i < k
  pub next_on : (block i k : ℕ) → on block i ≡ true → waits i ≡ true → next i ≡ Some k → on block k ≡ true
  pub between : (block i k m : ℕ) → on block i ≡ true → waits i ≡ true → next i ≡ Some k → i < m → m < k → on block m ≡ false

-- the queues of all blocks match the requests, and each waiting request has a buffer for its answer
pub record IsKept (s : Shape) (requests : List Request) (list : List Wait) (lasts : List (Option ℕ)) : Type 0 where
  pub shape : IsShape s
  pub places : length list ≡ length requests
  pub blocks : length lasts ≡ s.n
  pub in_range : (i : ℕ) → IsInRange s (request_at requests i).op
  pub pads : (i : ℕ) → is_pad_op (request_at requests i).op ≡ true → waits_at requests i ≡ false
  pub rooms : (i : ℕ) → waits_at requests i ≡ true → length (wait_at list i).room ≡ s.b
  pub queues : InOrder (is_on_at requests) (waits_at requests) (is_real_at requests) (λ i. (wait_at list i).next) (last_on lasts)

-- the kind of a new request; a pad is in no queue
abbrev pub kind_entering : List (Option ℕ) → Op → Kind
kind_entering lasts (Read block) = kind_after (last_on lasts block)
kind_entering lasts (Write block value) = kind_after (last_on lasts block)
kind_entering lasts Pad = Fake

-- the last request of each queue after this one has entered its block's queue
abbrev pub lasts_entered : List (Option ℕ) → Op → ℕ → List (Option ℕ)
lasts_entered lasts (Read block) number = slice_set lasts block (Some number)
lasts_entered lasts (Write block value) number = slice_set lasts block (Some number)
lasts_entered lasts Pad number = lasts

-- the requests before this one after it has entered: the previous last one links to it
abbrev pub waits_entered : List Wait → List (Option ℕ) → Op → ℕ → List Wait
waits_entered list lasts (Read block) number = linked list (last_on lasts block) number
waits_entered list lasts (Write block value) number = linked list (last_on lasts block) number
waits_entered list lasts Pad number = list

-- the operation's block exists, and the last request in its queue is below this number
abbrev pub CanEnter : List (Option ℕ) → ℕ → Op → Type 0
CanEnter lasts len (Read block) = (block < length lasts) × IsWithin (last_on lasts block) len
CanEnter lasts len (Write block value) = (block < length lasts) × IsWithin (last_on lasts block) len
CanEnter lasts len Pad = ⊤

-- the operation's block exists; a pad has none
abbrev pub IsOnBlockOf : List (Option ℕ) → Op → Type 0
IsOnBlockOf lasts (Read block) = block < length lasts
IsOnBlockOf lasts (Write block value) = block < length lasts
IsOnBlockOf lasts Pad = ⊤

-- the operation's queue is emptied
abbrev pub lasts_left : List (Option ℕ) → Op → List (Option ℕ)
lasts_left lasts (Read block) = slice_set lasts block None
lasts_left lasts (Write block value) = slice_set lasts block None
lasts_left lasts Pad = lasts

-- Capacity for requests to come: `spare` buffers of the right size, and as much spare capacity in both lists.
pub record HasRoom (s : Shape) (rooms : List Room) (spare len first second : ℕ) : Type 0 where
  pub each : All (IsRoom s) rooms
  pub in_first : len + spare ≤ first
  pub in_second : len + spare ≤ second
