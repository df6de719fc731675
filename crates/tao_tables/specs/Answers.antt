-- The answers that a proxy keeps are the record's. A record's events are oldest first.
use Rattle.std.specs.Prelude.{◌≡◌, ℕ, ◌<◌, true, List, reverse, Some}
use Rattle.tao_base.specs.declared.session.Event.{Event}
use Rattle.tao_base.specs.declared.session.Event.TheVariants.{Done}
use Rattle.tao_base.specs.declared.storage.Bucket.{Bucket}
use Rattle.tao_base.specs.Session.{Opening}
use Rattle.tao_model.specs.Events.{arrived}
use Rattle.tao_model.specs.Requests.{is_real, is_settled}
use Rattle.tao_model.specs.Lawful.{FollowsLawfully}
use Rattle.tao_model.specs.OneMore.{with_one_more}
use Rattle.tao_requests.specs.declared.request.Request.{Request}
use Rattle.tao_requests.specs.State.{request_at, block_of}
use Rattle.tao_requests.specs.Settling.{settled_from, value_from, KeepsAnswers}
use Rattle.tao_requests.specs.Laws.{Follows}
use Rattle.tao_held.specs.Held.{held, found_in, block_on, value_since, served_answer}

-- each settled arrival's request has the answer that the record gives it
abbrev pub AreServed : Opening → List Event → List Request → Type 0
AreServed o es requests = (j : ℕ) → j < arrived es → is_settled es j ≡ true → (request_at requests j).answer ≡ Some (served_answer o es j)

-- The request of a real arrival is on the arrival's block.
abbrev pub BlockIsSame : Type 0
BlockIsSame = (events : List Event) (requests : List Request) (i : ℕ) → Follows events requests → i < arrived (reverse events) → is_real (reverse events) i ≡ true
    → block_of requests i ≡ block_on (reverse events) i

-- how settling a real arrival with the value that was found changes its block
pub record SettlesRight (o : Opening) (es now : List Event) (i : ℕ) (x : List ℕ) (requests : List Request) : Type 0 where
  pub served : AreServed o now (settled_from i (block_of requests i) x requests)
  pub left : value_from i (block_of requests i) x requests ≡ value_since es (block_on es i) i x
  pub block : block_of requests i ≡ block_on es i

-- the Done of a real arrival
abbrev pub ServedReal : Type 0
ServedReal = (o : Opening) (events : List Event) (i : ℕ) (taken : List Bucket) (x : List ℕ) (requests : List Request) → FollowsLawfully o (with_one_more events (Done i taken))
    → Follows events requests → AreServed o (reverse events) requests → is_real (reverse events) i ≡ true
    → x ≡ found_in o (reverse events) (λ w. held o (reverse events) w) i taken → KeepsAnswers requests (settled_from i (block_of requests i) x requests)
    → SettlesRight o (reverse events) (with_one_more events (Done i taken)) i x requests
