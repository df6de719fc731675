-- The flags of a proxy: which arrivals are done, and which write-backs are acknowledged. A record's events are oldest first.
use Rattle.std.specs.Prelude.{◌≡◌, ℕ, ◌+◌, ◌-◌, ◌<◌, ◌≤◌, Bool, true, false, List, [], length, reverse, replicate, slice_set}
use Rattle.tao_base.specs.declared.calls.Op.{Op}
use Rattle.tao_base.specs.declared.session.Cause.{Cause}
use Rattle.tao_base.specs.declared.session.Event.{Event}
use Rattle.tao_base.specs.declared.session.Event.TheVariants.{Arrive, Done, Issue, Acked, Fault}
use Rattle.tao_base.specs.declared.storage.Bucket.{Bucket}
use Rattle.tao_base.specs.Limits.{session_limit}
use Rattle.tao_base.specs.Session.{Opening}
use Rattle.tao_model.specs.Events.{issues, is_done, is_acked}
use Rattle.tao_model.specs.Replies.{released}
use Rattle.tao_model.specs.Lawful.{FollowsLawfully}
use Rattle.tao_model.specs.OneMore.{with_one_more}
use Rattle.tao_sequence.specs.Release.{is_done_in, IsReleased}

-- a flag for each arrival that a session may have, and one for each write-back: version v has the flag v - 1
pub record TellsFlags (o : Opening) (es : List Event) (done acked : List Bool) : Type 0 where
  pub done_len : length done ≡ session_limit o.shape
  pub acked_len : length acked ≡ session_limit o.shape
  pub dones : (i : ℕ) → is_done_in done i ≡ is_done es i
  pub acks : (u : ℕ) → is_done_in acked u ≡ is_acked es (u + 1)

-- the index of a flag that isn't set
pub record IsFree (flags : List Bool) (u : ℕ) : Type 0 where
  pub within : u < length flags
  pub down : is_done_in flags u ≡ false

-- How one more event changes them: a Done and an acknowledgement set one flag each, which wasn't set.
pub record FlagsMove (o : Opening) (events : List Event) (flags marks : List Bool) : Type 0 where
  pub done_free : (i : ℕ) (taken : List Bucket) → FollowsLawfully o (with_one_more events (Done i taken)) → IsFree flags i
  pub acked_free : (version : ℕ) → FollowsLawfully o (with_one_more events (Acked version)) → IsFree marks (version - 1)
  pub arrive : (client : ℕ) (op : Op) (word : ℕ) → TellsFlags o (with_one_more events (Arrive client op word)) flags marks
  pub done : (i : ℕ) (taken : List Bucket) → FollowsLawfully o (with_one_more events (Done i taken))
      → TellsFlags o (with_one_more events (Done i taken)) (slice_set flags i true) marks
  pub issue : (version nonce : ℕ) (buckets : List Bucket) → TellsFlags o (with_one_more events (Issue version nonce buckets)) flags marks
  pub acked : (version : ℕ) → FollowsLawfully o (with_one_more events (Acked version))
      → TellsFlags o (with_one_more events (Acked version)) flags (slice_set marks (version - 1) true)
  pub fault : (cause : Cause) → TellsFlags o (with_one_more events (Fault cause)) flags marks

-- this holds for all flags that tell a record
abbrev pub FlagsAreTold : Type 0
FlagsAreTold = (o : Opening) (events : List Event) (flags marks : List Bool) → TellsFlags o (reverse events) flags marks → FlagsMove o events flags marks

-- at the start no flag is set
abbrev pub FlagsAtStart : Type 0
FlagsAtStart = (o : Opening) → TellsFlags o [] (replicate (session_limit o.shape) false) (replicate (session_limit o.shape) false)

-- As many arrivals are released by the flags as by the record.
abbrev pub ReleasedByFlags : Type 0
ReleasedByFlags = (o : Opening) (events : List Event) (done acked : List Bool) (r : ℕ) → FollowsLawfully o (reverse events) → TellsFlags o (reverse events) done acked
    → IsReleased done r → r ≡ released (reverse events)

-- All versions up to r are acknowledged, and the next one isn't: if it was issued, it is the first outstanding one.
pub record AckedUpTo (es : List Event) (r : ℕ) : Type 0 where
  pub within : r ≤ issues es
  pub below : (v : ℕ) → 0 < v → v ≤ r → is_acked es v ≡ true
  pub stops : is_acked es (r + 1) ≡ false

-- this is what the flags say of the versions
abbrev pub AckedByFlags : Type 0
AckedByFlags = (o : Opening) (events : List Event) (done acked : List Bool) (r : ℕ) → FollowsLawfully o (reverse events) → TellsFlags o (reverse events) done acked
    → IsReleased acked r → AckedUpTo (reverse events) r
