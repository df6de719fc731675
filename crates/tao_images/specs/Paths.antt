-- The buckets of a path, the root's first, against what is known of its nodes.
use Rattle.std.specs.Prelude.{◌≡◌, ℕ, ◌+◌, ◌≤◌, ◌<◌, Bool, false, not, List, filter, slice_index, Option, Some, None, All, if◌then◌else◌}
use Rattle.std.specs.List.{filter_map, range_with_len}
use Rattle.tao_base.specs.Images.{bucket_in}
use Rattle.tao_base.specs.Limits.{Shape, bucket_len}
use Rattle.tao_base.specs.Tree.{node_at, node_count, path}
use Rattle.tao_base.specs.declared.storage.Bucket.{Bucket}
use Rattle.tao_bucket.specs.Encoding.{format_of}
use Rattle.tao_bucket.specs.Reading.{first_of, read_bucket}
use Rattle.tao_bucket.specs.Rooms.{RoomState}
use Rattle.tao_base.specs.Buckets.{IsInForm}
use Rattle.tao_model.specs.Trace.{nodes_in}
use Rattle.tao_images.specs.declared.nodes.Refused.{Refused}
use Rattle.tao_images.specs.Nodes.{Holds, node_refusal}

-- a list of bytes
abbrev pub AreBytes : List ℕ → Type 0
AreBytes bytes = (i : ℕ) → slice_index bytes i < 256

-- the bucket at depth d of a path
abbrev pub piece : Shape → List ℕ → ℕ → List ℕ
piece s path d = bucket_in (bucket_len s) path d

-- why the bucket at depth d is refused: a node that is skipped has no reason
unfoldable pub refusal_at : List ℕ → Shape → (ℕ → Bool) → (ℕ → ℕ) → (ℕ → List ℕ) → ℕ → List ℕ → ℕ → Option Refused
refusal_at key s skipped version tag leaf path d =
    if skipped (node_at s.l leaf d) then None
    else node_refusal key s (version (node_at s.l leaf d)) (tag (node_at s.l leaf d)) (node_at s.l leaf d) (piece s path d)

-- the first refusal from the root on
abbrev pub path_refusal : List ℕ → Shape → (ℕ → Bool) → (ℕ → ℕ) → (ℕ → List ℕ) → ℕ → List ℕ → Option Refused
path_refusal key s skipped version tag leaf path = first_of (filter_map (refusal_at key s skipped version tag leaf path) (range_with_len 0 (s.l + 1)))

-- at each depth whose node isn't skipped, the path holds a bucket of the node's latest write
abbrev pub HoldsLatest : List ℕ → Shape → (ℕ → Bool) → (ℕ → ℕ) → (ℕ → List ℕ) → ℕ → List ℕ → Type 0
HoldsLatest key s skipped version tag leaf path = (d : ℕ) → d ≤ s.l → skipped (node_at s.l leaf d) ≡ false
    → (bucket : Bucket) × Holds key s (version (node_at s.l leaf d)) (tag (node_at s.l leaf d)) (node_at s.l leaf d) (piece s path d) bucket

-- the same is known of each node of the tree, and the same tag where its latest write has one
pub record IsKnownAlike (s : Shape) (skipped skipped' : ℕ → Bool) (version version' : ℕ → ℕ) (tag tag' : ℕ → List ℕ) : Type 0 where
  pub skips : (w : ℕ) → 1 ≤ w → w ≤ node_count s.l → skipped w ≡ skipped' w
  pub versions : (w : ℕ) → 1 ≤ w → w ≤ node_count s.l → version w ≡ version' w
  pub tags : (w : ℕ) → 1 ≤ w → w ≤ node_count s.l → format_of s.form (version w) ≡ 2 → tag w ≡ tag' w

-- the bucket that is read at depth d, where its node isn't skipped
unfoldable pub read_at : List ℕ → Shape → (ℕ → Bool) → ℕ → List ℕ → ℕ → Option Bucket
read_at key s skipped leaf path d = if skipped (node_at s.l leaf d) then None else Some (read_bucket key s (piece s path d))

-- the buckets that are read along a path, the root's first
abbrev pub buckets_read : List ℕ → Shape → (ℕ → Bool) → ℕ → List ℕ → List Bucket
buckets_read key s skipped leaf path = filter_map (read_at key s skipped leaf path) (range_with_len 0 (s.l + 1))

-- the bucket was read at some depth of the path, and is of its node's latest write
pub record IsReadFrom (key : List ℕ) (s : Shape) (version : ℕ → ℕ) (tag : ℕ → List ℕ) (leaf : ℕ) (path : List ℕ) (bucket : Bucket) : Type 0 where
  pub depth : ℕ
  pub within : depth ≤ s.l
  pub at : node_at s.l leaf depth ≡ bucket.node
  pub holds : Holds key s (version bucket.node) (tag bucket.node) bucket.node (piece s path depth) bucket

-- The buckets were read from the path: in form, one for each node that isn't skipped, and each of its node's latest write.
pub record AreReadFrom (key : List ℕ) (s : Shape) (skipped : ℕ → Bool) (version : ℕ → ℕ) (tag : ℕ → List ℕ) (leaf : ℕ) (image : List ℕ) (buckets : List Bucket) : Type 0 where
  pub nodes : nodes_in buckets ≡ filter (λ node. not (skipped node)) (path s.l leaf)
  pub in_form : All (IsInForm s) buckets
  pub each : All (IsReadFrom key s version tag leaf image) buckets

-- a room for a bucket of this store
pub record IsRoom (s : Shape) (room : RoomState) : Type 0 where
  pub z : room.z ≡ s.z
  pub b : room.b ≡ s.b

-- what a room holds
abbrev pub held_in : RoomState → Option Bucket
held_in room = room.held
