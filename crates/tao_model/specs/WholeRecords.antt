-- Lawful records as a property of the whole list of events, oldest first. Places count from 0.
use Rattle.std.specs.Prelude.{◌≡◌, ◌↔◌, ℕ, ◌+◌, ◌-◌, ◌*◌, ◌<◌, ◌≤◌, List, map, reverse, length, take, drop, slice_get, Some, All}
use Rattle.std.specs.List.{range_with_len}
use Rattle.tao_base.specs.declared.calls.Op.{Op}
use Rattle.tao_base.specs.declared.session.Cause.{Cause}
use Rattle.tao_base.specs.declared.session.Event.{Event}
use Rattle.tao_base.specs.declared.session.Event.TheVariants.{Arrive, Done, Issue, Acked, Fault}
use Rattle.tao_base.specs.declared.storage.Bucket.{Bucket}
use Rattle.tao_base.specs.Limits.{session_limit}
use Rattle.tao_base.specs.Session.{Opening}
use Rattle.tao_base.specs.Tree.{node_count, nodes_of}
use Rattle.tao_model.specs.Events.{arrived, dones, buckets_issued}
use Rattle.tao_model.specs.Requests.{fetched_leaf}
use Rattle.tao_model.specs.Residence.{newest_version}
use Rattle.tao_model.specs.Trace.{nodes_in}
use Rattle.tao_base.specs.Buckets.{IsInForm}
use Rattle.tao_model.specs.Lawful.{IsInRange, IsOpening, MayFail, away_on_path, FollowsLawfully, OwesNone}
use Rattle.tao_model.specs.LookBacks.{done_arrivals}

-- the event at a place
abbrev pub IsAt : List Event → ℕ → Event → Type 0
IsAt events p e = slice_get events p ≡ Some e

-- the events before a place, newest first, as look-back functions take them
abbrev pub before : List Event → ℕ → List Event
before events p = reverse (take p events)

-- no more arrivals than a session may have, each from one of 64 clients and with an operation that the store accepts
pub record ArrivalsAreLawful (o : Opening) (events : List Event) : Type 0 where
  pub few : arrived (reverse events) ≤ session_limit o.shape
  pub made : (p client : ℕ) (op : Op) (word : ℕ) → IsAt events p (Arrive client op word) → (client < 64) × IsInRange o.shape op

-- An arrival has at most one Done, after it. The Done has the nodes of its path that the proxy didn't hold, root first,
-- each in form and of its latest version.
pub record DonesAreLawful (o : Opening) (events : List Event) : Type 0 where
  pub once : (p q arrival : ℕ) (taken other : List Bucket) → IsAt events p (Done arrival taken) → IsAt events q (Done arrival other) → p ≡ q
  pub after : (p arrival : ℕ) (taken : List Bucket) → IsAt events p (Done arrival taken) → arrival < arrived (before events p)
  pub nodes : (p arrival : ℕ) (taken : List Bucket) → IsAt events p (Done arrival taken) → nodes_in taken ≡ away_on_path o (before events p) arrival
  pub in_form : (p arrival : ℕ) (taken : List Bucket) → IsAt events p (Done arrival taken) → All (IsInForm o.shape) taken
  pub versions : (p arrival : ℕ) (taken : List Bucket) → IsAt events p (Done arrival taken)
      → All (λ bucket. bucket.version ≡ newest_version (before events p) bucket.node) taken

-- a write-back has the nodes on the paths of the last period, rising and in form, with consecutive nonces
pub record IsWriteBack (o : Opening) (earlier : List Event) (version nonce : ℕ) (buckets : List Bucket) : Type 0 where
  pub nodes : nodes_in buckets ≡ nodes_of o.shape.l (map (fetched_leaf o (reverse earlier)) (drop ((version - 1) * o.shape.k) (done_arrivals earlier)))
  pub in_form : All (IsInForm o.shape) buckets
  pub versions : All (λ bucket. bucket.version ≡ version) buckets
  pub counts_on : nonce ≡ node_count o.shape.l + 1 + buckets_issued (reverse earlier)
  pub nonces : map (λ bucket. bucket.nonce) buckets ≡ range_with_len nonce (length buckets)

-- The write-back of version v comes right after the Done that fills period v, and nowhere else; each such Done has one.
pub record IssuesAreLawful (o : Opening) (events : List Event) : Type 0 where
  pub follows : (p version nonce : ℕ) (buckets : List Bucket) → IsAt events p (Issue version nonce buckets)
      → (q arrival : ℕ) × (taken : List Bucket) × (p ≡ q + 1) × IsAt events q (Done arrival taken) × (dones (before events p) ≡ version * o.shape.k)
  pub each : (p arrival version : ℕ) (taken : List Bucket) → IsAt events p (Done arrival taken) → dones (before events (p + 1)) ≡ version * o.shape.k
      → (nonce : ℕ) × (buckets : List Bucket) × IsAt events (p + 1) (Issue version nonce buckets)
  pub written : (p version nonce : ℕ) (buckets : List Bucket) → IsAt events p (Issue version nonce buckets) → IsWriteBack o (take p events) version nonce buckets

-- a write-back has at most one acknowledgement, after it
pub record AcksAreLawful (events : List Event) : Type 0 where
  pub once : (p q version : ℕ) → IsAt events p (Acked version) → IsAt events q (Acked version) → p ≡ q
  pub after : (p version : ℕ) → IsAt events p (Acked version) → (q nonce : ℕ) × (buckets : List Bucket) × (q < p) × IsAt events q (Issue version nonce buckets)

-- a Fault is the last event, and its cause is possible
pub record FaultsAreLawful (o : Opening) (events : List Event) : Type 0 where
  pub last : (p : ℕ) (cause : Cause) → IsAt events p (Fault cause) → p + 1 ≡ length events
  pub named : (p : ℕ) (cause : Cause) → IsAt events p (Fault cause) → MayFail o (before events p) cause

-- a list of events is lawful as a whole if its events of each kind are
pub record IsLawfulWhole (o : Opening) (events : List Event) : Type 0 where
  pub arrivals : ArrivalsAreLawful o events
  pub dones : DonesAreLawful o events
  pub issues : IssuesAreLawful o events
  pub acks : AcksAreLawful events
  pub faults : FaultsAreLawful o events

-- Following lawfully, event by event, is the same as being lawful as a whole.
abbrev pub LawfulMeans : Type 0
LawfulMeans = (o : Opening) (events : List Event) → IsOpening o
    → (FollowsLawfully o (reverse events) × OwesNone o (reverse events)) ↔ IsLawfulWhole o events
