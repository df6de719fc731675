-- The answers that a proxy keeps stay the record's under each event but the Done of a real arrival. A record's events are oldest first.
use Rattle.std.specs.Prelude.{◌≡◌, ℕ, ◌<◌, false, List, [], ◌∷◌, ◌++◌, reverse, Some}
use Rattle.tao_base.specs.declared.calls.Op.{Op}
use Rattle.tao_base.specs.declared.session.Cause.{Cause}
use Rattle.tao_base.specs.declared.session.Event.{Event}
use Rattle.tao_base.specs.declared.session.Event.TheVariants.{Arrive, Done, Issue, Acked, Fault}
use Rattle.tao_base.specs.declared.storage.Bucket.{Bucket}
use Rattle.tao_base.specs.Session.{Opening}
use Rattle.tao_model.specs.Requests.{is_real}
use Rattle.tao_model.specs.Replies.{released}
use Rattle.tao_model.specs.Lawful.{FollowsLawfully}
use Rattle.tao_model.specs.OneMore.{with_one_more}
use Rattle.tao_requests.specs.declared.request.Request.{Request}
use Rattle.tao_requests.specs.State.{kind_now, request_at, request_of}
use Rattle.tao_requests.specs.Laws.{Follows}
use Rattle.tao_held.specs.Held.{served_answer}
use Rattle.tao_tables.specs.Answers.{AreServed}

-- An arrival adds a request, a pad's with its answer; all other requests stay as they are.
pub record ServedStays (o : Opening) (events : List Event) (requests : List Request) : Type 0 where
  pub arrive : (client : ℕ) (op : Op) (word : ℕ) → FollowsLawfully o (with_one_more events (Arrive client op word))
      → AreServed o (with_one_more events (Arrive client op word)) (requests ++ request_of op (kind_now requests op) ∷ [])
  pub fake : (i : ℕ) (taken : List Bucket) → FollowsLawfully o (with_one_more events (Done i taken)) → is_real (reverse events) i ≡ false
      → AreServed o (with_one_more events (Done i taken)) requests
  pub issue : (version nonce : ℕ) (buckets : List Bucket) → FollowsLawfully o (with_one_more events (Issue version nonce buckets))
      → AreServed o (with_one_more events (Issue version nonce buckets)) requests
  pub acked : (version : ℕ) → FollowsLawfully o (with_one_more events (Acked version)) → AreServed o (with_one_more events (Acked version)) requests
  pub fault : (cause : Cause) → FollowsLawfully o (with_one_more events (Fault cause)) → AreServed o (with_one_more events (Fault cause)) requests

-- this holds for all requests that follow a record and are served by it
abbrev pub ServedElse : Type 0
ServedElse = (o : Opening) (events : List Event) (requests : List Request) → Follows events requests → AreServed o (reverse events) requests
    → ServedStays o events requests

-- at the start there is nothing to serve
abbrev pub ServedAtStart : Type 0
ServedAtStart = (o : Opening) → AreServed o [] []

-- What is released has the record's answer.
abbrev pub ReleasedIsServed : Type 0
ReleasedIsServed = (o : Opening) (events : List Event) (requests : List Request) (i : ℕ) → AreServed o (reverse events) requests → i < released (reverse events)
    → (request_at requests i).answer ≡ Some (served_answer o (reverse events) i)
