-- Laws: the answers are the plain array's, and the requests are a record's arrivals. A record's events are oldest first.
use Rattle.std.specs.Prelude.{◌≡◌, ℕ, ◌+◌, ◌<◌, true, false, List, [], ◌∷◌, ◌++◌, map, take, drop, length, reverse, Some, is_some}
use Rattle.tao_base.specs.Array.{block_at, array_after, array_reply}
use Rattle.tao_base.specs.Session.{Opening}
use Rattle.tao_base.specs.declared.calls.Op.{Op}
use Rattle.tao_base.specs.declared.session.Cause.{Cause}
use Rattle.tao_base.specs.declared.session.Event.{Event}
use Rattle.tao_base.specs.declared.session.Event.TheVariants.{Arrive, Done, Issue, Acked, Fault}
use Rattle.tao_base.specs.declared.storage.Bucket.{Bucket}
use Rattle.tao_model.specs.Events.{arrived, is_done, names}
use Rattle.tao_model.specs.Requests.{is_real, is_settled, real_now}
use Rattle.tao_model.specs.Replies.{ops}
use Rattle.tao_model.specs.Lawful.{FollowsLawfully}
use Rattle.tao_requests.specs.declared.request.Request.{Request}
use Rattle.tao_requests.specs.State.{is_real_kind, kind_now, request_at, request_of, block_of, IsUnderWay}
use Rattle.tao_requests.specs.Settling.{settled_from, value_from}

-- the operations from a request on
abbrev pub ops_from : ℕ → List Request → List Op
ops_from first requests = map (λ request. request.op) (drop first requests)

-- If the array has this value at the block, a request on the block is answered what the array answers after
-- the operations from the first request on.
abbrev pub AnswersArePlain : Type 0
AnswersArePlain = (blocks : List (List ℕ)) (block first k : ℕ) (requests : List Request) → block < length blocks
    → names block (request_at requests (first + k)).op ≡ true
    → (request_at (settled_from first block (block_at blocks block) requests) (first + k)).answer
    ≡ Some (array_reply (array_after blocks (take k (ops_from first requests))) (request_at requests (first + k)).op)

-- the remaining value is the array's after all of them
abbrev pub ValueIsPlain : Type 0
ValueIsPlain = (blocks : List (List ℕ)) (block first : ℕ) (requests : List Request) → block < length blocks
    → value_from first block (block_at blocks block) requests ≡ block_at (array_after blocks (ops_from first requests)) block

-- The requests are a record's arrivals: same operations, real or not alike, and answered exactly if settled.
pub record Follows (events : List Event) (requests : List Request) : Type 0 where
  pub ops : map (λ request. request.op) requests ≡ ops events
  pub kinds : (i : ℕ) → i < arrived (reverse events) → is_real_kind (request_at requests i).kind ≡ is_real (reverse events) i
  pub settled : (i : ℕ) → i < arrived (reverse events) → is_some (request_at requests i).answer ≡ is_settled (reverse events) i

-- a new request is real if its arrival will be
abbrev pub KindIsReal : Type 0
KindIsReal = (events : List Event) (requests : List Request) (op : Op) → Follows events requests → is_real_kind (kind_now requests op) ≡ real_now (reverse events) op

-- an empty record has no requests
abbrev pub FollowsNone : Type 0
FollowsNone = Follows [] []

-- one more arrival is one more request
abbrev pub FollowsArrive : Type 0
FollowsArrive = (o : Opening) (events : List Event) (requests : List Request) (client : ℕ) (op : Op) (word : ℕ) → FollowsLawfully o (reverse events) → Follows events requests
    → Follows (events ++ Arrive client op word ∷ []) (requests ++ request_of op (kind_now requests op) ∷ [])

-- the Done of a real arrival settles its block's requests, whatever value was found
abbrev pub FollowsReal : Type 0
FollowsReal = (events : List Event) (requests : List Request) (i : ℕ) (taken : List Bucket) (value : List ℕ) → Follows events requests
    → i < arrived (reverse events) → is_real (reverse events) i ≡ true → is_done (reverse events) i ≡ false
    → IsUnderWay requests i × Follows (events ++ Done i taken ∷ []) (settled_from i (block_of requests i) value requests)

-- the Done of a fake arrival settles none
abbrev pub FollowsFake : Type 0
FollowsFake = (events : List Event) (requests : List Request) (i : ℕ) (taken : List Bucket) → Follows events requests → is_real (reverse events) i ≡ false
    → Follows (events ++ Done i taken ∷ []) requests

-- other events change nothing
pub record FollowsOthers (events : List Event) (requests : List Request) : Type 0 where
  pub issue : (version nonce : ℕ) (buckets : List Bucket) → Follows (events ++ Issue version nonce buckets ∷ []) requests
  pub acked : (version : ℕ) → Follows (events ++ Acked version ∷ []) requests
  pub fault : (cause : Cause) → Follows (events ++ Fault cause ∷ []) requests

-- requests that follow a record also follow it with one of these events
abbrev pub FollowsFurther : Type 0
FollowsFurther = (events : List Event) (requests : List Request) → Follows events requests → FollowsOthers events requests
