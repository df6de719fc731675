-- Counts of a lawful record, and their bounds. A record's events are oldest first, a list `es` is newest first.
use Rattle.std.specs.Prelude.{◌≡◌, ℕ, zero, suc, ◌+◌, ◌*◌, ◌<◌, ◌≤◌, Bool, true, false, if◌then◌else◌, List, reverse}
use Rattle.tao_base.specs.declared.session.Event.{Event}
use Rattle.tao_base.specs.Limits.{session_limit}
use Rattle.tao_base.specs.Session.{Opening}
use Rattle.tao_model.specs.Events.{arrived, dones, issues, acks, is_done, is_acked, is_outstanding}
use Rattle.tao_model.specs.Lawful.{FollowsLawfully}

-- how many numbers below n pass
abbrev pub count_below : (ℕ → Bool) → ℕ → ℕ
count_below passes zero = 0
count_below passes (suc n) = if passes n then count_below passes n + 1 else count_below passes n

-- all arrivals are done
abbrev pub IsAllDone : List Event → Type 0
IsAllDone es = (i : ℕ) → i < arrived es → is_done es i ≡ true

-- all write-backs are acknowledged
abbrev pub IsAllAcked : List Event → Type 0
IsAllAcked es = (v : ℕ) → 0 < v → v ≤ issues es → is_acked es v ≡ true

-- There are as many acknowledgements as issued versions that are acknowledged.
pub record CountsAcks (es : List Event) : Type 0 where
  pub count : acks es ≡ count_below (λ u. is_acked es (u + 1)) (issues es)
  pub within : acks es ≤ issues es
  pub all : acks es ≡ issues es → IsAllAcked es
  pub some : (v : ℕ) → 0 < v → v ≤ issues es → is_acked es v ≡ false → acks es < issues es

-- this holds in each lawful record
abbrev pub AcksAreCounted : Type 0
AcksAreCounted = (o : Opening) (events : List Event) → FollowsLawfully o (reverse events) → CountsAcks (reverse events)

-- There are as many Dones as done arrivals: no more than arrivals, fewer while one is under way. Write-backs keep pace with them,
-- and there are no more arrivals than a session may have.
pub record CountsWork (o : Opening) (es : List Event) : Type 0 where
  pub count : dones es ≡ count_below (is_done es) (arrived es)
  pub within : dones es ≤ arrived es
  pub some : (i : ℕ) → i < arrived es → is_done es i ≡ false → dones es < arrived es
  pub all : dones es ≡ arrived es → IsAllDone es
  pub paced : issues es * o.shape.k ≤ dones es
  pub owed : dones es ≤ (issues es + 1) * o.shape.k
  pub written : issues es ≤ arrived es
  pub limit : arrived es ≤ session_limit o.shape

-- this holds in each lawful record
abbrev pub WorkIsCounted : Type 0
WorkIsCounted = (o : Opening) (events : List Event) → FollowsLawfully o (reverse events) → CountsWork o (reverse events)

-- If all arrivals are done and no write-back is outstanding, the counts say so.
abbrev pub QuietIsCounted : Type 0
QuietIsCounted = (o : Opening) (es : List Event) → FollowsLawfully o es → IsAllDone es → ((v : ℕ) → is_outstanding es v ≡ false)
    → (dones es ≡ arrived es) × (acks es ≡ issues es)
