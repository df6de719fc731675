-- The requests of a session as contracts see them: each with its kind and, once it is settled, its answer.
use Rattle.std.specs.Prelude.{◌≡◌, ℕ, ◌-◌, Bool, true, false, ◌&&◌, if◌then◌else◌, List, [], ◌∷◌, ◌++◌, Option, Some, None, is_none}
use Rattle.std.specs.List.{slice_index_or, list_any}
use Rattle.tao_base.specs.Limits.{Shape}
use Rattle.tao_base.specs.declared.calls.Op.{Op}
use Rattle.tao_base.specs.declared.calls.Op.TheVariants.{Read, Write, Pad}
use Rattle.tao_model.specs.Events.{names}
use Rattle.tao_requests.specs.declared.request.Kind.{Kind}
use Rattle.tao_requests.specs.declared.request.Kind.TheVariants.{Real, Fake}
use Rattle.tao_requests.specs.declared.request.Request.{Request}

-- the parameters, the requests in the order of arrival, and for how many more there is capacity
pub record RequestsState : Type 0 where
  pub shape : Shape
  pub requests : List Request
  pub spare : ℕ

-- whether a request of this kind fetches for its block
abbrev pub is_real_kind : Kind → Bool
is_real_kind Real = true
is_real_kind Fake = false

-- whether a request has no answer yet
abbrev pub waits : Request → Bool
waits request = is_none request.answer

-- a real request on the block that isn't settled: the block's fetch is under way
abbrev pub waits_on : ℕ → Request → Bool
waits_on block request = waits request && (is_real_kind request.kind && names block request.op)

-- the kind of a new request on this block: fake while a real one on it is under way
abbrev pub kind_on : List Request → ℕ → Kind
kind_on requests block = if list_any (waits_on block) requests then Fake else Real

-- A request is real if it is on a block and no real request on that block is under way. A pad is fake.
abbrev pub kind_now : List Request → Op → Kind
kind_now requests (Read block) = kind_on requests block
kind_now requests (Write block value) = kind_on requests block
kind_now requests Pad = Fake

-- a pad is answered at once, with no bytes
abbrev pub first_answer : Op → Option (List ℕ)
first_answer (Read block) = None
first_answer (Write block value) = None
first_answer Pad = Some []

-- a new request of this operation and kind: a pad has its answer, others none
abbrev pub request_of : Op → Kind → Request
request_of op kind = record { op = op; kind = kind; answer = first_answer op }

-- the state with one more request
abbrev pub begun : RequestsState → Op → RequestsState
begun state op = record state { requests = state.requests ++ request_of op (kind_now state.requests op) ∷ []; spare = state.spare - 1 }

-- the request of this number; past the last one a pad
abbrev pub request_at : List Request → ℕ → Request
request_at requests i = slice_index_or requests i (request_of Pad Fake)

-- the block of an operation that isn't a pad
abbrev pub op_block : Op → ℕ
op_block (Read block) = block
op_block (Write block value) = block
op_block Pad = 0

-- the block that the request of this number is on; 0 for a pad and past the last request
abbrev pub block_of : List Request → ℕ → ℕ
block_of requests i = op_block (request_at requests i).op

-- no requests and no capacity
abbrev pub fresh : Shape → RequestsState
fresh s = record { shape = s; requests = []; spare = 0 }

-- this request is real and its fetch is under way
pub record IsUnderWay (requests : List Request) (i : ℕ) : Type 0 where
  pub is_real : (request_at requests i).kind ≡ Real
  pub waits : (request_at requests i).answer ≡ None
