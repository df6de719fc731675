-- Honest answers in words of the whole record, place by place. A record's events are oldest first.
use Rattle.std.specs.Prelude.{◌≡◌, ◌↔◌, ℕ, Bool, true, List, reverse, take, slice_get, Some, is_some}
use Rattle.tao_base.specs.declared.session.Event.{Event}
use Rattle.tao_base.specs.declared.session.Event.TheVariants.{Done}
use Rattle.tao_base.specs.declared.storage.Bucket.{Bucket}
use Rattle.tao_base.specs.Session.{Opening}
use Rattle.tao_model.specs.Greatest.{IsGreatest}
use Rattle.tao_model.specs.Events.{issues}
use Rattle.tao_model.specs.Residence.{Unaltered, HasEntriesOf}
use Rattle.tao_model.specs.Lawful.{FollowsLawfully, OpensWithLoad}
use Rattle.tao_model.specs.LookBacks.{written_at}
use Rattle.tao_model.specs.WholeRecords.{IsAt}

-- A bucket is as it was last written: the greatest version so far that has its node wrote the same there.
pub record IsAsWritten (same : Bucket → Bucket → Type 0) (o : Opening) (earlier : List Event) (bucket : Bucket) : Type 0 where
  pub version : ℕ
  pub greatest : IsGreatest (λ v. is_some (written_at o earlier v bucket.node)) (issues (reverse earlier)) version
  pub written : Bucket
  pub there : written_at o earlier version bucket.node ≡ Some written
  pub is_same : same bucket written

-- Each bucket that a Done took in is as it was last written before that Done.
abbrev pub AreAsWritten : (Bucket → Bucket → Type 0) → Opening → List Event → Type 0
AreAsWritten same o events = (p arrival i : ℕ) (taken : List Bucket) (bucket : Bucket)
    → IsAt events p (Done arrival taken) → slice_get taken i ≡ Some bucket → IsAsWritten same o (take p events) bucket

-- Answers are unaltered exactly where each fetched bucket has the entries that were last written at its node.
abbrev pub UnalteredMeans : Type 0
UnalteredMeans = (o : Opening) (events : List Event) → OpensWithLoad o → FollowsLawfully o (reverse events)
    → Unaltered HasEntriesOf o (reverse events) ↔ AreAsWritten HasEntriesOf o events

-- The same in each sense that a test decides.
abbrev pub UnalteredByTest : Type 0
UnalteredByTest = (test : Bucket → Bucket → Bool) (o : Opening) (events : List Event) → OpensWithLoad o → FollowsLawfully o (reverse events)
    → Unaltered (λ x y. test x y ≡ true) o (reverse events) ↔ AreAsWritten (λ x y. test x y ≡ true) o events
