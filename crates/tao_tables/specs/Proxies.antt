-- A record that a proxy makes stays one under each event. A record's events are oldest first.
use Rattle.std.specs.Prelude.{◌≡◌, ◌≢◌, ℕ, ◌+◌, ◌*◌, ◌<◌, false, List, [], reverse, slice_index, All}
use Rattle.tao_base.specs.declared.calls.Op.{Op}
use Rattle.tao_base.specs.declared.session.Cause.{Cause}
use Rattle.tao_base.specs.declared.session.Event.{Event}
use Rattle.tao_base.specs.declared.session.Event.TheVariants.{Arrive, Done, Issue, Acked, Fault}
use Rattle.tao_base.specs.declared.storage.Bucket.{Bucket}
use Rattle.tao_base.specs.Session.{Opening}
use Rattle.tao_model.specs.Events.{dones, issues, has_fault}
use Rattle.tao_base.specs.Tree.{leaf_of}
use Rattle.tao_model.specs.Requests.{leaf_at}
use Rattle.tao_model.specs.Evictions.{load_contents, load_buckets}
use Rattle.tao_model.specs.Lawful.{IsOpening, OpensWithLoad, MayFollow, OwesNone, FollowsLawfully}
use Rattle.tao_model.specs.OneMore.{with_one_more}
use Rattle.tao_held.specs.Held.{held, IsOfProxy}

-- Each event has to be lawful, and a write-back has to have what is held.
pub record ProxyMoves (o : Opening) (events : List Event) : Type 0 where
  pub arrive : (client : ℕ) (op : Op) (word : ℕ) → FollowsLawfully o (with_one_more events (Arrive client op word)) → IsOfProxy o (with_one_more events (Arrive client op word))
  pub done : (i : ℕ) (taken : List Bucket) → FollowsLawfully o (with_one_more events (Done i taken)) → IsOfProxy o (with_one_more events (Done i taken))
  pub issue : (version nonce : ℕ) (buckets : List Bucket) → FollowsLawfully o (with_one_more events (Issue version nonce buckets))
      → All (λ bucket. bucket.entries ≡ held o (reverse events) bucket.node) buckets → IsOfProxy o (with_one_more events (Issue version nonce buckets))
  pub acked : (version : ℕ) → FollowsLawfully o (with_one_more events (Acked version)) → IsOfProxy o (with_one_more events (Acked version))
  pub fault : (cause : Cause) → FollowsLawfully o (with_one_more events (Fault cause)) → IsOfProxy o (with_one_more events (Fault cause))

-- this holds for each such record
abbrev pub ProxyGoesOn : Type 0
ProxyGoesOn = (o : Opening) (events : List Event) → IsOfProxy o (reverse events) → ProxyMoves o events

-- A lawful record stays lawful with an event that may follow.
abbrev pub FollowsOn : Type 0
FollowsOn = (o : Opening) (events : List Event) (e : Event) → FollowsLawfully o (reverse events) → has_fault (reverse events) ≡ false → MayFollow o (reverse events) e
    → FollowsLawfully o (with_one_more events e)

-- Only a Done that fills a period owes a write-back, until that is issued.
pub record OwesMove (o : Opening) (events : List Event) : Type 0 where
  pub arrive : (client : ℕ) (op : Op) (word : ℕ) → FollowsLawfully o (with_one_more events (Arrive client op word)) → OwesNone o (with_one_more events (Arrive client op word))
  pub done : (i : ℕ) (taken : List Bucket) → FollowsLawfully o (with_one_more events (Done i taken))
      → dones (with_one_more events (Done i taken)) ≢ (issues (with_one_more events (Done i taken)) + 1) * o.shape.k → OwesNone o (with_one_more events (Done i taken))
  pub issue : (version nonce : ℕ) (buckets : List Bucket) → FollowsLawfully o (with_one_more events (Issue version nonce buckets))
      → OwesNone o (with_one_more events (Issue version nonce buckets))
  pub acked : (version : ℕ) → FollowsLawfully o (with_one_more events (Acked version)) → OwesNone o (with_one_more events (Acked version))
  pub fault : (cause : Cause) → FollowsLawfully o (with_one_more events (Fault cause)) → OwesNone o (with_one_more events (Fault cause))

-- this holds for every record
abbrev pub OwesInTurn : Type 0
OwesInTurn = (o : Opening) (events : List Event) → OwesMove o events

-- ---- the opening

-- A tree that was loaded by the leaves of an opening's words makes it open with its load, and the load's stash is the opening's.
abbrev pub OpensByLoad : Type 0
OpensByLoad = (o : Opening) (leaf : ℕ → ℕ) → IsOpening o → ((b : ℕ) → b < o.shape.n → leaf b ≡ leaf_of o.shape.l (slice_index o.words b))
    → o.loaded ≡ load_buckets o.shape (load_contents o.shape leaf o.first)
    → OpensWithLoad o × (load_contents o.shape leaf o.first 0 ≡ load_contents o.shape (λ block. leaf_at o [] block) o.first 0)
