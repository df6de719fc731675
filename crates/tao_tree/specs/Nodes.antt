-- What the nodes of a tree hold, and what writes do to it.
use Rattle.std.specs.Prelude.{◌≡◌, ℕ, ◌-◌, ◌*◌, ◌/◌, ◌%◌, ◌<◌, ◌≤◌, Bool, true, nat_lt, List, [], ◌∷◌, length, take, drop, fold, replicate, slice_set, Option, Some, None, if◌then◌else◌}
use Rattle.std.specs.List.{flat_map, slice_index_or}
use Rattle.std.specs.Option.{option_map}
use Rattle.tao_base.specs.Limits.{Shape, IsShape, bucket_len}
use Rattle.tao_base.specs.Images.{bucket_in, buckets_in}
use Rattle.tao_base.specs.Links.{Reach, IsReachFor, header_node}
use Rattle.tao_base.specs.Tree.{node_count, path}

-- what a node holds: the bytes of a bucket, and the version that they were applied with
pub record Held : Type 0 where
  pub version : ℕ
  pub bytes : List ℕ

-- these bytes as a node holds them, with the version that they were applied with
abbrev pub holding : ℕ → List ℕ → Held
holding version bytes = record { version = version; bytes = bytes }

-- a tree: the parameters that it was made for, and what each node holds, node 1 first
pub record TreeState : Type 0 where
  pub shape : Shape
  pub held : List (Option Held)

-- a new tree: no node holds a bucket
abbrev pub empty_tree : Shape → TreeState
empty_tree s = record { shape = s; held = replicate (node_count s.l) None }

-- what the node of a number from 1 on holds; nothing above the last node
abbrev pub held_at : TreeState → ℕ → Option Held
held_at tree node = slice_index_or tree.held (node - 1) None

-- the version that a node's bucket was applied with
abbrev pub held_version : Held → ℕ
held_version held = held.version

-- the bytes that a node tells: zeros where it has no bucket
abbrev pub bytes_of : ℕ → Option Held → List ℕ
bytes_of len None = replicate len 0
bytes_of len (Some held) = held.bytes

-- the bytes that a node of a tree tells: its bucket's, or as many zeros as a bucket has bytes
unfoldable pub bytes_at : TreeState → ℕ → List ℕ
bytes_at tree node = bytes_of (bucket_len tree.shape) (held_at tree node)

-- the version of a node's bucket
abbrev pub version_at : TreeState → ℕ → Option ℕ
version_at tree node = option_map held_version (held_at tree node)

-- a version is newer than that of a node
abbrev pub is_newer : ℕ → Option ℕ → Bool
is_newer version None = true
is_newer version (Some known) = nat_lt known version

-- a write is kept where it is newer, and else changes nothing
abbrev pub applied : TreeState → ℕ → ℕ → List ℕ → TreeState
applied tree version node bytes =
    if is_newer version (version_at tree node) then record tree { held = slice_set tree.held (node - 1) (Some (holding version bytes)) } else tree

-- the buckets of a path, the root's first
abbrev pub path_bytes : TreeState → ℕ → List ℕ
path_bytes tree leaf = flat_map (bytes_at tree) (path tree.shape.l leaf)

-- what a node holds whose bytes these are: nothing where it has no version
abbrev pub held_of : List ℕ → Option ℕ → Option Held
held_of bytes None = None
held_of bytes (Some version) = Some (holding version bytes)

-- how nodes lie in memory: one behind another, each of this length, and for each a version or none
abbrev pub held_in : ℕ → List ℕ → List (Option ℕ) → List (Option Held)
held_in len bytes [] = []
held_in len bytes (v ∷ vs) = held_of (take len bytes) v ∷ held_in len (drop len bytes) vs

-- a node without a version has zeros there
abbrev pub AreBlank : ℕ → List ℕ → List (Option ℕ) → Type 0
AreBlank len bytes [] = Unit {0}
AreBlank len bytes (v ∷ vs) = (take len bytes ≡ bytes_of len (held_of (take len bytes) v)) × AreBlank len (drop len bytes) vs

-- a tree lies so in memory: for each node a version or none, and the bytes of a bucket, all zeros where there is no version
pub record IsLaidOut (s : Shape) (bytes : List ℕ) (versions : List (Option ℕ)) : Type 0 where
  pub count : length versions ≡ node_count s.l
  pub len : length bytes ≡ length versions * bucket_len s
  pub blank : AreBlank (bucket_len s) bytes versions

-- an image is whole buckets of nodes of the tree
pub record IsTreeImage (s : Shape) (image : List ℕ) : Type 0 where
  pub whole : length image % bucket_len s ≡ 0
  pub low : (i : ℕ) → i < length image / bucket_len s → 1 ≤ header_node (bucket_in (bucket_len s) image i)
  pub high : (i : ℕ) → i < length image / bucket_len s → header_node (bucket_in (bucket_len s) image i) ≤ node_count s.l

-- a bucket is applied with this version at the node in its header
abbrev pub bucket_applied : ℕ → TreeState → List ℕ → TreeState
bucket_applied version tree bucket = applied tree version (header_node bucket) bucket

-- each bucket of an image is applied with this version
abbrev pub all_applied : TreeState → ℕ → List ℕ → TreeState
all_applied tree version image = fold (bucket_applied version) tree (buckets_in (bucket_len tree.shape) image)

-- the path of some tree of these parameters, as a tree under a lock was at one moment
pub record IsSomePath (s : Shape) (leaf : ℕ) (path : List ℕ) : Type 0 where
  pub tree : TreeState
  pub shape : tree.shape ≡ s
  pub bytes : path ≡ path_bytes tree leaf

-- what a link to a tree of these parameters reaches: a store may have as many buckets as the tree has nodes
abbrev pub reach_of : Shape → Reach
reach_of s = record { height = s.l; bucket_len = bucket_len s; most = node_count s.l }

-- such a link is one for these parameters
abbrev pub ReachFits : Type 0
ReachFits = (s : Shape) → IsShape s → IsReachFor s (reach_of s)
