-- The load of a tree, and the pass that makes it.
use Rattle.std.specs.Prelude.{◌≡◌, ℕ, ◌-◌, nat_lt, Bool, List, [], ◌++◌, take, length, Option}
use Rattle.std.specs.List.{slice_index_or}
use Rattle.std.specs.Option.{option_to_list}
use Rattle.tao_base.specs.declared.storage.Entry.{Entry}
use Rattle.tao_base.specs.declared.storage.Bucket.{Bucket}
use Rattle.tao_base.specs.Limits.{Shape}
use Rattle.tao_base.specs.Tree.{node_at, node_count}
use Rattle.tao_model.specs.Placement.{IsPlaced, may_load, block_below, with_stash, entries_at}
use Rattle.tao_model.specs.Passes.{put_next, one_pass}
use Rattle.tao_model.specs.Evictions.{block_entries, first_bucket, load_contents, load_buckets}

-- All blocks are placed in the buckets and the stash, each on the path of its leaf, and there is no other tree like this: the bucket of
-- node w, from the root on, has version 0 and nonce w.
pub record IsLoaded (s : Shape) (leaf : ℕ → ℕ) (blocks : List (List ℕ)) (loaded : List Bucket) (stash : List Entry) : Type 0 where
  pub placed : IsPlaced (may_load s leaf) (node_count s.l) s.z (block_below s.n blocks) (with_stash stash (entries_at loaded))
  pub first : loaded ≡ load_buckets s (load_contents s leaf blocks)

-- ---- the pass

-- the bucket of a node, where the buckets are those of all nodes from the root on
abbrev pub bucket_of : List Bucket → ℕ → Bucket
bucket_of nodes w = slice_index_or nodes (w - 1) (first_bucket (λ v. []) w)

-- the node at this depth of the leaf's path has room
abbrev pub has_room : Shape → ℕ → List Bucket → ℕ → Bool
has_room s leaf nodes depth = nat_lt (length (bucket_of nodes (node_at s.l leaf depth)).entries) s.z

-- what the nodes and the stash have once one more block has gone to its spot
abbrev pub next_loaded : Shape → (ℕ → ℕ) → (ℕ → List Entry) → Entry → ℕ → List Entry
next_loaded s leaf contents entry = put_next (may_load s leaf) (node_count s.l) s.z contents entry

-- what the nodes and the stash have after the first blocks
abbrev pub loaded_first : Shape → (ℕ → ℕ) → List (List ℕ) → ℕ → ℕ → List Entry
loaded_first s leaf blocks count = one_pass (may_load s leaf) (node_count s.l) s.z (take count (block_entries s.n blocks))

-- one block goes where it is to go: to a node of its leaf's path, or back to the caller
abbrev pub LoadsNext : Shape → (ℕ → ℕ) → List Bucket → Entry → List Bucket → Option Entry → Type 0
LoadsNext s leaf old entry new back = (contents : ℕ → List Entry) → old ≡ load_buckets s contents
    → (new ≡ load_buckets s (next_loaded s leaf contents entry)) × (next_loaded s leaf contents entry 0 ≡ contents 0 ++ option_to_list back)
