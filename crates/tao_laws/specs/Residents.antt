-- Laws of residence: which nodes the proxy holds, and the latest versions of the others. A record's events are oldest first.
use Rattle.std.specs.Prelude.{◌≡◌, ◌↔◌, ◌⊎◌, ℕ, ◌-◌, ◌*◌, ◌/◌, ◌<◌, ◌≤◌, true, false, List, ◌∷◌, ◌++◌, reverse, is_some}
use Rattle.std.specs.Int.{div_ceil}
use Rattle.tao_base.specs.declared.calls.Op.{Op}
use Rattle.tao_base.specs.declared.session.Event.{Event}
use Rattle.tao_base.specs.declared.session.Event.TheVariants.{Arrive, Issue}
use Rattle.tao_base.specs.declared.storage.Bucket.{Bucket}
use Rattle.tao_base.specs.Session.{Opening}
use Rattle.tao_model.specs.Events.{arrived, dones, issues, is_done, is_acked}
use Rattle.tao_model.specs.Requests.{fetches}
use Rattle.tao_model.specs.Residence.{last_touch, bucket_of, is_issued, departs, is_resident, newest_write, newest_version}
use Rattle.tao_model.specs.Lawful.{FollowsLawfully, OwesNone}
use Rattle.tao_model.specs.OneMore.{with_one_more}

-- a node that was touched since the last write-back
abbrev pub IsRecent : Opening → List Event → ℕ → Type 0
IsRecent o es node = issues es * o.shape.k < last_touch o es node

-- There are as many write-backs as full periods, or one fewer while one is due. No touch is later than the last Done.
pub record CountsPeriods (o : Opening) (es : List Event) : Type 0 where
  pub paced : issues es * o.shape.k ≤ dones es
  pub whole : OwesNone o es → issues es ≡ dones es / o.shape.k
  pub touched : (node : ℕ) → last_touch o es node ≤ dones es

-- This holds in a record that follows lawfully.
abbrev pub PeriodsAreCounted : Type 0
PeriodsAreCounted = (o : Opening) (events : List Event) → FollowsLawfully o (reverse events) → CountsPeriods o (reverse events)

-- The proxy holds every node touched since the last write-back.
abbrev pub RecentIsResident : Type 0
RecentIsResident = (o : Opening) (events : List Event) (node : ℕ) → FollowsLawfully o (reverse events) → IsRecent o (reverse events) node
    → is_resident o (reverse events) node ≡ true

-- A write-back's version is one of those issued, from 1 on. Each of its nodes was touched after the earlier periods,
-- and is at least at this version.
pub record IsWrittenAfter (o : Opening) (es : List Event) (version node : ℕ) : Type 0 where
  pub some : 0 < version
  pub known : version ≤ issues es
  pub touched : (version - 1) * o.shape.k < last_touch o es node
  pub newest : version ≤ newest_version es node

-- In a record that follows lawfully, this holds for each node of each write-back.
abbrev pub WrittenAfterTouch : Type 0
WrittenAfterTouch = (o : Opening) (events : List Event) (version node : ℕ) → FollowsLawfully o (reverse events) → is_issued (reverse events) version node ≡ true
    → IsWrittenAfter o (reverse events) version node

-- The version of a node that isn't recent is its last touch in periods, rounded up. A node is recent if its last touch
-- is after the periods of its version.
pub record IsExact (o : Opening) (es : List Event) (node : ℕ) : Type 0 where
  pub version : last_touch o es node ≤ issues es * o.shape.k → newest_version es node ≡ div_ceil (last_touch o es node) o.shape.k
  pub recent : IsRecent o es node ↔ (newest_version es node * o.shape.k < last_touch o es node)

-- In a record that follows lawfully, this holds for every node.
abbrev pub ExactVersion : Type 0
ExactVersion = (o : Opening) (events : List Event) (node : ℕ) → FollowsLawfully o (reverse events) → IsExact o (reverse events) node

-- A write-back has just the recent nodes, hence only residents: the latest version of a node that isn't held doesn't change.
pub record WritesResidents (o : Opening) (es now : List Event) (buckets : List Bucket) (node : ℕ) : Type 0 where
  pub recent : (is_some (bucket_of node buckets) ≡ true) ↔ IsRecent o es node
  pub resident : is_some (bucket_of node buckets) ≡ true → is_resident o es node ≡ true
  pub away : is_resident o es node ≡ false → newest_write o now node ≡ newest_write o es node

-- This holds for each write-back that may come next.
abbrev pub IssuedIsResident : Type 0
IssuedIsResident = (o : Opening) (events : List Event) (version nonce : ℕ) (buckets : List Bucket) (node : ℕ)
    → FollowsLawfully o (with_one_more events (Issue version nonce buckets))
    → WritesResidents o (reverse events) (with_one_more events (Issue version nonce buckets)) buckets node

-- A node that the proxy doesn't hold was written since its last touch.
abbrev pub AwayIsWritten : Type 0
AwayIsWritten = (o : Opening) (events : List Event) (node : ℕ) → FollowsLawfully o (reverse events) → is_resident o (reverse events) node ≡ false
    → last_touch o (reverse events) node ≤ newest_version (reverse events) node * o.shape.k

-- A node that a version wrote and that wasn't touched since has that version, even while a fetch covers it.
abbrev pub UntouchedSince : Type 0
UntouchedSince = (o : Opening) (events : List Event) (version node : ℕ) → FollowsLawfully o (reverse events) → is_issued (reverse events) version node ≡ true
    → last_touch o (reverse events) node ≤ version * o.shape.k → newest_version (reverse events) node ≡ version

-- A node that an acknowledgement lets go has the acknowledged version. So a node that was written again stays.
abbrev pub LeavesAcknowledged : Type 0
LeavesAcknowledged = (o : Opening) (events : List Event) (version node : ℕ) → FollowsLawfully o (reverse events) → departs o (reverse events) version node ≡ true
    → newest_version (reverse events) node ≡ version

-- the latest version of a node is the load, or was acknowledged
abbrev pub IsAcknowledged : List Event → ℕ → Type 0
IsAcknowledged es node = (newest_version es node ≡ 0) ⊎ (is_acked es (newest_version es node) ≡ true)

-- The latest version of a node that isn't held is the load or was acknowledged. So a node with an outstanding write-back is held.
abbrev pub AwayIsAcknowledged : Type 0
AwayIsAcknowledged = (o : Opening) (events : List Event) (node : ℕ) → FollowsLawfully o (reverse events) → is_resident o (reverse events) node ≡ false
    → IsAcknowledged (reverse events) node

-- a fetch finds a node as it was at the request, and that version was acknowledged by then, or is the load
pub record IsAsAsked (o : Opening) (asked now : List Event) (node : ℕ) : Type 0 where
  pub away : is_resident o asked node ≡ false
  pub written : newest_write o now node ≡ newest_write o asked node
  pub version : newest_version now node ≡ newest_version asked node
  pub acknowledged : IsAcknowledged asked node

-- An arrival came after the events `before`. It is still under way after `after`, and fetches a node that the proxy doesn't hold.
abbrev pub AsItWasAsked : Type 0
AsItWasAsked = (o : Opening) (before after : List Event) (client : ℕ) (op : Op) (word node : ℕ)
    → FollowsLawfully o (reverse (before ++ Arrive client op word ∷ after))
    → is_done (reverse (before ++ Arrive client op word ∷ after)) (arrived (reverse before)) ≡ false
    → fetches o (reverse (before ++ Arrive client op word ∷ after)) (arrived (reverse before)) node ≡ true
    → is_resident o (reverse (before ++ Arrive client op word ∷ after)) node ≡ false
    → IsAsAsked o (reverse before) (reverse (before ++ Arrive client op word ∷ after)) node

-- Of the versions written at such a node, and the load, only the latest is at least as new as all
-- that were acknowledged before the request.
abbrev pub OneAnswerIsNewest : Type 0
OneAnswerIsNewest = (o : Opening) (before after : List Event) (client : ℕ) (op : Op) (word node version : ℕ)
    → FollowsLawfully o (reverse (before ++ Arrive client op word ∷ after))
    → is_done (reverse (before ++ Arrive client op word ∷ after)) (arrived (reverse before)) ≡ false
    → fetches o (reverse (before ++ Arrive client op word ∷ after)) (arrived (reverse before)) node ≡ true
    → is_resident o (reverse (before ++ Arrive client op word ∷ after)) node ≡ false
    → (version ≡ 0) ⊎ (is_issued (reverse (before ++ Arrive client op word ∷ after)) version node ≡ true)
    → ((v : ℕ) → is_issued (reverse before) v node ≡ true → is_acked (reverse before) v ≡ true → v ≤ version)
    → version ≡ newest_version (reverse (before ++ Arrive client op word ∷ after)) node
