-- Whole operations: each arrival is fetched, done, written back and acknowledged before the next one comes.
use Rattle.std.specs.Prelude.{◌≡◌, ℕ, ◌+◌, ◌-◌, ◌==◌, nat_lt, List, [], ◌∷◌, ◌++◌, map, take, length, reverse, Option, Some, None, if◌then◌else◌, All}
use Rattle.std.specs.List.{range_with_len}
use Rattle.tao_base.specs.declared.calls.Op.{Op}
use Rattle.tao_base.specs.declared.calls.Op.TheVariants.{Read, Write, Pad}
use Rattle.tao_base.specs.declared.session.Event.TheVariants.{Arrive, Done, Issue, Acked}
use Rattle.tao_base.specs.declared.storage.Bucket.{Bucket}
use Rattle.tao_base.specs.Limits.{Shape, session_limit}
use Rattle.tao_base.specs.Session.{History}
use Rattle.tao_base.specs.Tree.{node_count}
use Rattle.tao_model.specs.Events.{arrived}
use Rattle.tao_model.specs.Lawful.{FollowsLawfully, OwesNone}
use Rattle.tao_model.specs.Residence.{newest_write, Unaltered, HasEntriesOf}
use Rattle.tao_plain_desk.specs.declared.faults.ArriveFault.{ArriveFault}
use Rattle.tao_plain_desk.specs.declared.faults.ArriveFault.TheVariants.{SessionFull, NoBlock, BlockLength}

-- what contracts see of the desk: its record, and the words of its tape
pub record DeskState : Type 0 where
  pub history : History
  pub tape : List ℕ

-- a bucket without entries
abbrev pub empty_bucket : ℕ → ℕ → ℕ → Bucket
empty_bucket node version nonce = record { node = node; version = version; nonce = nonce; entries = [] }

-- the load of this desk: node w has version 0, nonce w and no entries
abbrev pub empty_load : ℕ → List Bucket
empty_load nodes = map (λ w. empty_bucket w 0 w) (range_with_len 1 nodes)

-- the desk as it starts: the first n words are its blocks'
abbrev pub started : Shape → List ℕ → List (List ℕ) → DeskState
started s words blocks = record {
  history = record { opening = record { shape = s; words = take s.n words; first = blocks; loaded = empty_load (node_count s.l) }; events = [] };
  tape = words;
}

-- the number of arrivals so far
abbrev pub arrivals_of : History → ℕ
arrivals_of h = arrived (reverse h.events)

-- how many words of the tape are left for arrivals
unfoldable pub words_left : DeskState → ℕ
words_left d = length d.tape - (d.history.opening.shape.n + arrivals_of d.history)

-- the record is lawful and owes no write-back, and what was fetched is what was written
pub record IsSound (h : History) : Type 0 where
  pub follows : FollowsLawfully h.opening (reverse h.events)
  pub owes : OwesNone h.opening (reverse h.events)
  pub unaltered : Unaltered HasEntriesOf h.opening (reverse h.events)

-- One more whole operation: four events, of the next arrival, its Done, the write-back that this fills and its acknowledgement.
-- Each fetched bucket is the latest version of its node, whole; those that are written back have no entries.
pub record PlaysOne (old new : History) (client : ℕ) (op : Op) (word : ℕ) : Type 0 where
  pub taken : List Bucket
  pub nonce : ℕ
  pub buckets : List Bucket
  pub opening : new.opening ≡ old.opening
  pub events : new.events ≡ old.events ++ Arrive client op word ∷ Done (arrivals_of old) taken
      ∷ Issue (arrivals_of old + 1) nonce buckets ∷ Acked (arrivals_of old + 1) ∷ []
  pub as_written : All (λ bucket. newest_write old.opening (reverse old.events) bucket.node ≡ Some bucket) taken
  pub bare : All (λ bucket. bucket.entries ≡ []) buckets

-- what is wrong with an operation itself, if anything: there is no such block, or the value has another length
abbrev pub op_refusal : Shape → Op → Option ArriveFault
op_refusal s (Read id) = if nat_lt id s.n then None else Some NoBlock
op_refusal s (Write id value) = if nat_lt id s.n then (if length value == s.b then None else Some BlockLength) else Some NoBlock
op_refusal s Pad = None

-- why a record's next operation is refused, if it is: the session is full, or else what is wrong with the operation itself
abbrev pub refusal : History → Op → Option ArriveFault
refusal h op = if nat_lt (arrivals_of h) (session_limit h.opening.shape) then op_refusal h.opening.shape op else Some SessionFull
