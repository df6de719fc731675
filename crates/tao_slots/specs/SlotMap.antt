-- What contracts see of the held nodes.
use Rattle.std.specs.Prelude.{◌≡◌, ℕ, ◌+◌, ◌-◌, ◌^◌, List, [], ◌++◌, Option, Some, None, length, slice_set, count_by, is_some, max, replicate, option_and_then, MatchOption, IsSomeAnd}
use Rattle.std.specs.List.{slice_index_or}
use Rattle.tao_base.specs.Limits.{Shape}
use Rattle.tao_base.specs.declared.storage.Bucket.{Bucket}
use Rattle.tao_base.specs.declared.storage.Entry.{Entry}

-- for each node by its number its bucket, where it is held; for each slot the node that it holds, if any; and how many slots are spare
pub record SlotMap : Type 0 where
  pub shape : Shape
  pub buckets : List (Option Bucket)
  pub nodes : List (Option ℕ)
  pub spare : ℕ

-- what a list of options has at a place: None past its end too
abbrev pub entry : {X : Type 0} → List (Option X) → ℕ → Option X
entry xs i = slice_index_or xs i None

-- the bucket of a node
abbrev pub bucket_at : SlotMap → ℕ → Option Bucket
bucket_at map node = entry map.buckets node

-- the node of a slot
abbrev pub node_of : SlotMap → ℕ → Option ℕ
node_of map slot = entry map.nodes slot

-- how many nodes are held
abbrev pub held_count : SlotMap → ℕ
held_count map = count_by is_some map.buckets

-- the bucket in a slot
abbrev pub bucket_in : SlotMap → ℕ → Option Bucket
bucket_in map slot = option_and_then (bucket_at map) (node_of map slot)

-- no node is held and no slot is spare
abbrev pub empty_map : Shape → SlotMap
empty_map shape = record { shape = shape; buckets = replicate (2 ^ (shape.l + 1)) None; nodes = []; spare = 0 }

-- with at least so many spare slots
abbrev pub reserved : SlotMap → ℕ → SlotMap
reserved map n = record map { nodes = map.nodes ++ replicate (n - map.spare) None; spare = max map.spare n }

-- with this bucket in this slot
abbrev pub inserted : SlotMap → ℕ → Bucket → SlotMap
inserted map slot bucket = record map {
  buckets = slice_set map.buckets bucket.node (Some bucket);
  nodes = slice_set map.nodes slot (Some bucket.node);
  spare = map.spare - 1;
}

-- with other entries in this bucket
abbrev pub with_entries : SlotMap → Bucket → List Entry → SlotMap
with_entries map bucket entries = record map { buckets = slice_set map.buckets bucket.node (Some (record bucket { entries = entries })) }

-- without this bucket in this slot
abbrev pub removed : SlotMap → ℕ → Bucket → SlotMap
removed map slot bucket = record map {
  buckets = slice_set map.buckets bucket.node None;
  nodes = slice_set map.nodes slot None;
  spare = map.spare + 1;
}

-- the slot of a node: None where the node isn't held, and there alone
abbrev pub IsSlotOf : SlotMap → Option ℕ → ℕ → Type 0
IsSlotOf map found node = MatchOption found (bucket_at map node ≡ None) (λ slot. node_of map slot ≡ Some node)

-- the number of nodes held and of spare slots together is as before
abbrev pub KeepsSlots : SlotMap → SlotMap → Type 0
KeepsSlots old new = held_count new + new.spare ≡ held_count old + old.spare

-- what holds of every map of slots: there is a place for each node of the tree, a slot's node is held, and no two slots hold one node
pub record IsSlotMap (map : SlotMap) : Type 0 where
  pub len : length map.buckets ≡ 2 ^ (map.shape.l + 1)
  pub zero : bucket_at map 0 ≡ None
  pub held : (slot node : ℕ) → node_of map slot ≡ Some node → IsSomeAnd (bucket_at map node) (λ bucket. bucket.node ≡ node)
  pub one_slot : (slot other node : ℕ) → node_of map slot ≡ Some node → node_of map other ≡ Some node → slot ≡ other
