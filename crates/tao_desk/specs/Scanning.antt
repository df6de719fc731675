-- The closing scan: what contracts see of it, and what it sees.
use Rattle.std.specs.Prelude.{◌≡◌, ℕ, ◌+◌, ◌^◌, ◌<◌, ◌≤◌, not, Bool, List, [], ◌++◌, map, filter, length, reverse, is_some, All, if◌then◌else◌}
use Rattle.std.specs.List.{flat_map, range_with_len, slice_index_or}
use Rattle.tao_base.specs.declared.session.Event.{Event}
use Rattle.tao_base.specs.declared.storage.Bucket.{Bucket}
use Rattle.tao_base.specs.declared.storage.Entry.{Entry}
use Rattle.tao_base.specs.Limits.{Shape}
use Rattle.tao_base.specs.Session.{Opening, History}
use Rattle.tao_base.specs.Tree.{node_count}
use Rattle.tao_model.specs.Events.{arrived, dones, issues, acks}
use Rattle.tao_model.specs.Placement.{look}
use Rattle.tao_model.specs.Residence.{is_resident}
use Rattle.tao_model.specs.Trace.{nodes_in}
use Rattle.tao_held.specs.Held.{held}
use Rattle.tao_held.specs.Steps.{value_or_zeros}
use Rattle.tao_images.specs.Answers.{visited, AreScanned}
use Rattle.tao_desk.specs.State.{DeskState}

-- the desk, the leaf whose path is to be read next, and the buckets that were read, in this order
pub record ScanState : Type 0 where
  pub desk : DeskState
  pub next : ℕ
  pub taken : List Bucket

-- ---- what is seen

-- of the first nodes, so many, those that the proxy holds, rising
abbrev pub held_nodes : Opening → List Event → ℕ → List ℕ
held_nodes o es count = filter (λ w. is_resident o es w) (range_with_len 1 count)

-- the entries of a node, if the proxy holds it
abbrev pub entries_if_held : Opening → List Event → ℕ → List Entry
entries_if_held o es node = if is_resident o es node then held o es node else []

-- the entries of the stash, and then those that the proxy holds of the first nodes, so many
abbrev pub entries_before : Opening → List Event → ℕ → List Entry
entries_before o es count = held o es 0 ++ flat_map (λ w. held o es w) (held_nodes o es count)

-- all entries that the proxy holds: those of the stash, and then those of its nodes
abbrev pub entries_held : Opening → List Event → List Entry
entries_held o es = entries_before o es (node_count o.shape.l)

-- all entries that the scan sees: those that the proxy holds, and then those of the buckets read
abbrev pub entries_seen : Opening → List Event → List Bucket → List Entry
entries_seen o es taken = entries_held o es ++ flat_map (λ bucket. bucket.entries) taken

-- of each block the first value among the entries, or zeros if there is none
abbrev pub values_in : Shape → List Entry → List (List ℕ)
values_in s entries = map (λ b. value_or_zeros s (look b entries)) (range_with_len 0 s.n)

-- ---- one path

-- The buckets that are read from the answer at a leaf follow those that were read before.
abbrev pub ReadsLeaf : DeskState → ℕ → List ℕ → List Bucket → List Bucket → Type 0
ReadsLeaf d leaf path before after = (more : List Bucket) × AreScanned d.key d.history leaf path more × (after ≡ before ++ more)

-- the next path was read, and nothing else changed
pub record TakesLeaf (old new : ScanState) (path : List ℕ) : Type 0 where
  pub read : ReadsLeaf old.desk old.next path old.taken new.taken
  pub state : new ≡ record old { next = old.next + 1; taken = new.taken }

-- ---- inside

-- these are the first values of all blocks among the entries, and whether each block has one
pub record Sees (s : Shape) (entries : List Entry) (values : List (List ℕ)) (known : List Bool) : Type 0 where
  pub count : length values ≡ s.n
  pub known_count : length known ≡ s.n
  pub values_are : (b : ℕ) (d : List ℕ) → b < s.n → slice_index_or values b d ≡ value_or_zeros s (look b entries)
  pub known_are : (b : ℕ) (d : Bool) → b < s.n → slice_index_or known b d ≡ is_some (look b entries)
  pub lengths : All (λ value. length value ≡ s.b) values

-- A scan under way: nothing else is, and of each node that a path before the next has, the proxy holds its bucket or it was read.
pub record IsScan (h : History) (next : ℕ) (taken : List Bucket) (values : List (List ℕ)) (known : List Bool) (space : ℕ) : Type 0 where
  pub all_done : dones (reverse h.events) ≡ arrived (reverse h.events)
  pub all_acked : acks (reverse h.events) ≡ issues (reverse h.events)
  pub within : next ≤ 2 ^ h.opening.shape.l
  pub nodes : nodes_in taken ≡ filter (λ w. not (is_resident h.opening (reverse h.events) w)) (visited h.opening.shape.l next)
  pub sees : Sees h.opening.shape (entries_seen h.opening (reverse h.events) taken) values known
  pub space_left : node_count h.opening.shape.l < space
