-- Preallocated rooms, and what is copied to them.
use Rattle.std.specs.Prelude.{◌≡◌, ℕ, ◌+◌, ◌<◌, ◌≤◌, false, List, length, All}
use Rattle.std.specs.List.{slice_index_or, list_any}
use Rattle.tao_base.specs.Limits.{Shape, IsShape}
use Rattle.tao_base.specs.Session.{is_fault}
use Rattle.tao_base.specs.declared.session.Event.{Event}
use Rattle.tao_base.specs.declared.storage.Bucket.{Bucket}
use Rattle.tao_base.specs.declared.storage.Entry.{Entry}
use Rattle.tao_record.specs.State.{done_len, issue_len}

-- from a place on, each item of a list fits the room at its place
abbrev pub FitFrom : {X : Type 0} → (X → X → Type 0) → ℕ → List X → List X → Type 0
FitFrom {X} Fits low rooms items = (k : ℕ) (d : X) → low ≤ k → k < length items → Fits (slice_index_or rooms k d) (slice_index_or items k d)

-- each item of a list fits the room at its place
pub record Fit {X : Type 0} (Fits : X → X → Type 0) (rooms items : List X) : Type 0 where
  pub few : length items ≤ length rooms
  pub each : FitFrom Fits 0 rooms items

-- a room for an entry has as many bytes
abbrev pub EntryFits : Entry → Entry → Type 0
EntryFits room entry = length room.value ≡ length entry.value

-- a room for a bucket has a room for each of its entries
abbrev pub BucketFits : Bucket → Bucket → Type 0
BucketFits room bucket = Fit EntryFits room.entries bucket.entries

-- a room for any bucket: z entries of b bytes
pub record IsRoom (s : Shape) (room : Bucket) : Type 0 where
  pub entries : length room.entries ≡ s.z
  pub values : All (λ entry. length entry.value ≡ s.b) room.entries

-- so many such rooms
pub record AreRooms (s : Shape) (count : ℕ) (rooms : List Bucket) : Type 0 where
  pub len : length rooms ≡ count
  pub each : All (IsRoom s) rooms

-- What a record has preallocated: rooms for the buckets of the Dones and Issues to come, and in the list of events, which has this length
-- and this capacity, a place for each event to come, and for the one Fault.
pub record HasRoom (s : Shape) (events : List Event) (len capacity : ℕ) (done_rooms issue_rooms : List (List Bucket)) (dones issues others : ℕ) : Type 0 where
  pub shape : IsShape s
  pub for_dones : All (AreRooms s (done_len s)) done_rooms
  pub for_issues : All (AreRooms s (issue_len s)) issue_rooms
  pub places : len + dones + issues + others ≤ capacity
  pub for_fault : list_any is_fault events ≡ false → len + dones + issues + others + 1 ≤ capacity
