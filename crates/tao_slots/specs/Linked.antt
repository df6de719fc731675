-- How the slots are linked.
use Rattle.std.specs.Prelude.{◌≡◌, ℕ, ◌+◌, ◌*◌, ◌/◌, ◌^◌, ◌<◌, ◌++◌, List, Option, Some, None, length, map, slice_set, replicate, count_by, is_some, option_and_then, zero, suc}
use Rattle.tao_base.specs.Limits.{Shape, IsShape}
use Rattle.tao_base.specs.declared.storage.Bucket.{Bucket}
use Rattle.tao_slots.specs.Columns.{buckets_in, nexts_in, nodes_of, links_in_slot}
use Rattle.tao_slots.specs.SlotMap.{SlotMap, entry}
use Rattle.tao_slots.specs.declared.free.FreeList.{FreeList}
use Rattle.tao_slots.specs.declared.slot.Links.{Links}
use Rattle.tao_slots.specs.declared.slot.Slot.{Slot}

-- the links of a node by the index, which has the slot of each held node
abbrev pub links_at : List (Option ℕ) → ℕ → Links
links_at index node = record { parent = entry index (node / 2); left = entry index (2 * node); right = entry index (2 * node + 1) }

-- the slot at a place has the links of this node
abbrev pub IsRight : List Slot → List (Option ℕ) → ℕ → ℕ → Type 0
IsRight slots index i node = links_in_slot slots i ≡ links_at index node

-- the node of the slot at a place
abbrev pub node_in : List Slot → ℕ → Option ℕ
node_in slots i = entry (nodes_of (buckets_in slots)) i

-- the index has the slot of each held node, and nothing else
pub record IsIndexed (slots : List Slot) (index : List (Option ℕ)) : Type 0 where
  pub found : (node i : ℕ) → entry index node ≡ Some i → node_in slots i ≡ Some node
  pub placed : (node i : ℕ) → node_in slots i ≡ Some node → entry index node ≡ Some i
  pub no_zero : entry index 0 ≡ None

-- each held node has its links
abbrev pub AreRight : List Slot → List (Option ℕ) → Type 0
AreRight slots index = (i node : ℕ) → node_in slots i ≡ Some node → IsRight slots index i node

-- each held node but this one and its neighbours has its links
abbrev pub AreRightApart : List Slot → List (Option ℕ) → ℕ → Type 0
AreRightApart slots index at = (i node : ℕ) → node_in slots i ≡ Some node
    → (node ≡ at → ⊥) → (node ≡ at / 2 → ⊥) → (node ≡ 2 * at → ⊥) → (node ≡ 2 * at + 1 → ⊥) → IsRight slots index i node

-- the slot has its links, and no other slot lost them
pub record IsRelinked (old new : List Slot) (index : List (Option ℕ)) (at : Option ℕ) : Type 0 where
  pub buckets : buckets_in new ≡ buckets_in old
  pub nexts : nexts_in new ≡ nexts_in old
  pub kept : (i node : ℕ) → node_in old i ≡ Some node → IsRight old index i node → IsRight new index i node
  pub made : (i node : ℕ) → at ≡ Some i → node_in old i ≡ Some node → IsRight new index i node

-- the index is right, and from each held node's slot the links go to those of its neighbours
pub record IsLinked (slots : List Slot) (index : List (Option ℕ)) : Type 0 where
  pub indexed : IsIndexed slots index
  pub right : AreRight slots index

-- what a slot that is filled or emptied and its node change: nothing elsewhere
pub record ChangesOne (old new : List Slot) (old_index new_index : List (Option ℕ)) (place at : ℕ) : Type 0 where
  pub nodes : (i : ℕ) → (i ≡ place → ⊥) → node_in new i ≡ node_in old i
  pub links : (i : ℕ) → (i ≡ place → ⊥) → links_in_slot new i ≡ links_in_slot old i
  pub index : (node : ℕ) → (node ≡ at → ⊥) → entry new_index node ≡ entry old_index node

-- from a slot on there is a list of so many free slots
abbrev pub IsFreeList : List (Option ℕ) → List (Option ℕ) → Option ℕ → ℕ → Type 0
IsFreeList nodes nexts None zero = Unit {0}
IsFreeList nodes nexts None (suc n) = ⊥
IsFreeList nodes nexts (Some i) zero = ⊥
IsFreeList nodes nexts (Some i) (suc n) = (i < length nodes) × (entry nodes i ≡ None) × IsFreeList nodes nexts (entry nexts i) n

-- the free slots are a list
abbrev pub AreFree : List Slot → FreeList → Type 0
AreFree slots free = IsFreeList (nodes_of (buckets_in slots)) (nexts_in slots) free.first free.count

-- they are also where the node of a slot has changed to this
abbrev pub AreFreeAfter : List Slot → FreeList → ℕ → Option ℕ → Type 0
AreFreeAfter slots free place node = IsFreeList (slice_set (nodes_of (buckets_in slots)) place node) (nexts_in slots) free.first free.count

-- the bucket of the slot that the index has for a node
abbrev pub bucket_of : List Slot → Option ℕ → Option Bucket
bucket_of slots place = option_and_then (entry (buckets_in slots)) place

-- the buckets of all nodes, by number
abbrev pub buckets_by_node : List Slot → List (Option ℕ) → List (Option Bucket)
buckets_by_node slots index = map (bucket_of slots) index

-- what holds of the parts of a map of slots: slots, index and list of free slots
pub record AreParts (s : Shape) (slots : List Slot) (index : List (Option ℕ)) (free : FreeList) : Type 0 where
  pub shape : IsShape s
  pub len : length index ≡ 2 ^ (s.l + 1)
  pub linked : IsLinked slots index
  pub frees : AreFree slots free
  pub count : count_by is_some (buckets_by_node slots index) + free.count ≡ length slots

-- the vector has grown by so many free slots
pub record IsGrown (old new : List Slot) (n : ℕ) : Type 0 where
  pub buckets : buckets_in new ≡ buckets_in old ++ replicate n None
  pub linked : (index : List (Option ℕ)) → IsLinked old index → IsLinked new index

-- the map of slots that these parts are
abbrev pub map_of : Shape → List Slot → List (Option ℕ) → FreeList → SlotMap
map_of s slots index free = record { shape = s; buckets = buckets_by_node slots index; nodes = nodes_of (buckets_in slots); spare = free.count }
