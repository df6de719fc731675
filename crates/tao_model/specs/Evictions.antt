-- The load and the eviction as they are computed, and laws: there is exactly one of each.
use Rattle.std.specs.Prelude.{◌≡◌, ℕ, ◌+◌, ◌<◌, ◌≤◌, ◌^◌, ◌⊎◌, ◌==◌, nat_lt, Bool, true, ◌&&◌, if◌then◌else◌, List, ◌∷◌, map, reverse, length, Option, Some, None, All}
use Rattle.std.specs.List.{list_any, range_with_len}
use Rattle.tao_base.specs.declared.storage.Entry.{Entry}
use Rattle.tao_base.specs.declared.storage.Bucket.{Bucket}
use Rattle.tao_base.specs.Limits.{Shape}
use Rattle.tao_base.specs.Array.{block_at}
use Rattle.tao_base.specs.Tree.{node_count, path, is_on_path}
use Rattle.tao_model.specs.Placement.{look, IsPlaced, IsLoad, IsEvicted, may_load, may_evict, block_below, first_copy, entries_at}
use Rattle.tao_model.specs.Passes.{IsGathered, IsRound, Falls, spot, first_passing, one_pass, fill, gathered_from}

-- each entry of a placement is a gathered block
abbrev pub EntriesAreGathered : Type 0
EntriesAreGathered = (may : ℕ → ℕ → Bool) (m z : ℕ) (gathered : ℕ → Option (List ℕ)) (contents : ℕ → List Entry)
    → IsPlaced may m z gathered contents → (w : ℕ) → All (λ entry. gathered entry.id ≡ Some entry.value) (contents w)

-- ---- paths

-- a path from the root to a leaf visits greater and greater nodes of the tree
abbrev pub PathFalls : Type 0
PathFalls = (l leaf : ℕ) → leaf < 2 ^ l → Falls (node_count l + 1) (reverse (path l leaf))

-- a block goes to the first node from the leaf up that it may lie in and that has a free slot
abbrev pub SpotIsFirst : Type 0
SpotIsFirst = (may : ℕ → ℕ → Bool) (m z : ℕ) (contents : ℕ → List Entry) (b : ℕ) (nodes : List ℕ) → Falls (m + 1) nodes
    → ((w : ℕ) → 0 < w → w ≤ m → may b w ≡ true → list_any (λ v. v == w) nodes ≡ true)
    → spot may m z contents b ≡ first_passing (λ w. may b w && nat_lt (length (contents w)) z) nodes

-- in the load a block goes to the first node with a free slot from its leaf up
abbrev pub LoadSpot : Type 0
LoadSpot = (s : Shape) (leaf : ℕ → ℕ) (contents : ℕ → List Entry) (b : ℕ) → b < s.n → leaf b < 2 ^ s.l
    → spot (may_load s leaf) (node_count s.l) s.z contents b ≡ first_passing (λ w. nat_lt (length (contents w)) s.z) (reverse (path s.l (leaf b)))

-- ---- the load

-- one block of the array as an entry
abbrev pub block_entry : List (List ℕ) → ℕ → Entry
block_entry blocks id = record { id = id; value = block_at blocks id }

-- the blocks of the array as entries
abbrev pub block_entries : ℕ → List (List ℕ) → List Entry
block_entries n blocks = map (block_entry blocks) (range_with_len 0 n)

-- what the load puts into each node and into the stash
abbrev pub load_contents : Shape → (ℕ → ℕ) → List (List ℕ) → ℕ → List Entry
load_contents s leaf blocks = one_pass (may_load s leaf) (node_count s.l) s.z (block_entries s.n blocks)

-- the bucket of node w as it is loaded: version 0, nonce w, the contents of w
abbrev pub first_bucket : (ℕ → List Entry) → ℕ → Bucket
first_bucket contents w = record { node = w; version = 0; nonce = w; entries = contents w }

-- the loaded tree
abbrev pub load_buckets : Shape → (ℕ → List Entry) → List Bucket
load_buckets s contents = map (first_bucket contents) (range_with_len 1 (node_count s.l))

-- the array's entries are what the load gathers
abbrev pub LoadGathers : Type 0
LoadGathers = (s : Shape) (leaf : ℕ → ℕ) (blocks : List (List ℕ)) → IsGathered (may_load s leaf) (block_below s.n blocks) (block_entries s.n blocks)

-- the computed tree is a load
abbrev pub LoadIsPlaced : Type 0
LoadIsPlaced = (s : Shape) (leaf : ℕ → ℕ) (blocks : List (List ℕ)) → IsLoad s leaf blocks (load_buckets s (load_contents s leaf blocks))

-- two loads have the same entries at every node
abbrev pub OneLoad : Type 0
OneLoad = (s : Shape) (leaf : ℕ → ℕ) (blocks : List (List ℕ)) (loaded : List Bucket) → IsLoad s leaf blocks loaded
    → (w : ℕ) → 0 < w → entries_at loaded w ≡ load_contents s leaf blocks w

-- ---- the eviction

-- What an eviction along a path leaves: the entries of stash and path are gathered and put back in one pass.
-- Other nodes keep theirs. `leaf` gives each block's position, `old` the contents before.
abbrev pub evicted : Shape → List ℕ → (ℕ → ℕ) → (ℕ → List Entry) → ℕ → List Entry
evicted s path leaf old w =
    if list_any (λ v. v == w) (0 ∷ path) then one_pass (may_evict s.l path leaf old) (node_count s.l) s.z (gathered_from old (0 ∷ path)) w else old w

-- the entries of stash and path are what the eviction gathers
abbrev pub EvictionGathers : Type 0
EvictionGathers = (l : ℕ) (path : List ℕ) (leaf : ℕ → ℕ) (old : ℕ → List Entry)
    → IsGathered (may_evict l path leaf old) (first_copy (0 ∷ path) old) (gathered_from old (0 ∷ path))

-- the nodes that an eviction fills are those of the path, from the leaf up
abbrev pub EvictionRound : Type 0
EvictionRound = (l at : ℕ) (leaf : ℕ → ℕ) (old : ℕ → List Entry) → at < 2 ^ l → IsRound (may_evict l (path l at) leaf old) (node_count l) (reverse (path l at))

-- the computed eviction is an eviction
abbrev pub EvictionIsPlaced : Type 0
EvictionIsPlaced = (s : Shape) (path : List ℕ) (leaf : ℕ → ℕ) (old : ℕ → List Entry) → IsEvicted s path leaf old (evicted s path leaf old)

-- there is no other eviction
abbrev pub OneEviction : Type 0
OneEviction = (s : Shape) (path : List ℕ) (leaf : ℕ → ℕ) (old new : ℕ → List Entry) → IsEvicted s path leaf old new → (w : ℕ) → new w ≡ evicted s path leaf old w

-- filling node by node from the leaf up gives the same
abbrev pub EvictionFills : Type 0
EvictionFills = (s : Shape) (at : ℕ) (leaf : ℕ → ℕ) (old : ℕ → List Entry) → at < 2 ^ s.l → (w : ℕ) → list_any (λ v. v == w) (0 ∷ path s.l at) ≡ true
    → evicted s (path s.l at) leaf old w ≡ fill (may_evict s.l (path s.l at) leaf old) s.z (reverse (path s.l at)) (gathered_from old (0 ∷ path s.l at)) w

-- After an eviction a gathered block has one entry in the stash and on the path, with the value of its first copy.
pub record LiesOnce (l : ℕ) (path : List ℕ) (leaf : ℕ) (b : ℕ) (value : List ℕ) (contents : ℕ → List Entry) : Type 0 where
  pub node : ℕ
  pub lies : (node ≡ 0) ⊎ ((list_any (λ v. v == node) path ≡ true) × (is_on_path l leaf node ≡ true))
  pub there : look b (contents node) ≡ Some value
  pub alone : (w : ℕ) → list_any (λ v. v == w) (0 ∷ path) ≡ true → (w ≡ node → ⊥) → look b (contents w) ≡ None

-- after any eviction this holds for each block that had a copy in the stash or on the path
abbrev pub FirstCopyStays : Type 0
FirstCopyStays = (s : Shape) (path : List ℕ) (leaf : ℕ → ℕ) (old new : ℕ → List Entry) (b : ℕ) (value : List ℕ) → IsEvicted s path leaf old new
    → first_copy (0 ∷ path) old b ≡ Some value → LiesOnce s.l path (leaf b) b value new
