-- What contracts see of a record that is being made: its history, and its capacity.
use Rattle.std.specs.Prelude.{◌≡◌, ℕ, ◌+◌, ◌*◌, ◌≤◌, min, List, [], ◌∷◌, ◌++◌, All, length}
use Rattle.tao_base.specs.Limits.{Shape}
use Rattle.tao_base.specs.Session.{History}
use Rattle.tao_base.specs.Tree.{node_count}
use Rattle.tao_base.specs.declared.session.Event.{Event}
use Rattle.tao_base.specs.declared.storage.Bucket.{Bucket}

-- the history so far, and for how many more Dones, Issues and other events there is capacity
pub record RecordState : Type 0 where
  pub history : History
  pub dones : ℕ
  pub issues : ℕ
  pub others : ℕ

-- an opening and no events
abbrev pub opened : Shape → List ℕ → List (List ℕ) → List Bucket → RecordState
opened s words first loaded = record {
  history = record { opening = record { shape = s; words = words; first = first; loaded = loaded }; events = [] };
  dones = 0;
  issues = 0;
  others = 0;
}

-- the same with one more event
abbrev pub added : RecordState → Event → RecordState
added state event = record state { history = record state.history { events = state.history.events ++ event ∷ [] } }

-- no spare is lower than before
pub record KeepsSpare (old new : RecordState) : Type 0 where
  pub dones : old.dones ≤ new.dones
  pub issues : old.issues ≤ new.issues
  pub others : old.others ≤ new.others

-- the most buckets of a Done: a path of them
abbrev pub done_len : Shape → ℕ
done_len s = s.l + 1

-- the most buckets of an Issue: k paths of them, or the whole tree
abbrev pub issue_len : Shape → ℕ
issue_len s = min (s.k * (s.l + 1)) (node_count s.l)

-- a bucket of at most z entries, each of b bytes
pub record IsBucketOf (s : Shape) (bucket : Bucket) : Type 0 where
  pub few : length bucket.entries ≤ s.z
  pub values : All (λ entry. length entry.value ≡ s.b) bucket.entries

-- so many such buckets at most
pub record AreBucketsOf (s : Shape) (most : ℕ) (buckets : List Bucket) : Type 0 where
  pub few : length buckets ≤ most
  pub each : All (IsBucketOf s) buckets

-- buckets that a Done may have
abbrev pub FitDone : Shape → List Bucket → Type 0
FitDone s taken = AreBucketsOf s (done_len s) taken

-- buckets that an Issue may have
abbrev pub FitIssue : Shape → List Bucket → Type 0
FitIssue s buckets = AreBucketsOf s (issue_len s) buckets
