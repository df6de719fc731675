-- Greedy placement: which node each block lies in after a load or an eviction. Node 0 is the stash.
use Rattle.std.specs.Prelude.{◌≡◌, ℕ, ◌<◌, ◌≤◌, ◌⊎◌, ◌==◌, nat_lt, Bool, true, false, ◌&&◌, if◌then◌else◌, List, [], ◌∷◌, length, Option, Some, None, is_some, All}
use Rattle.std.specs.List.{list_any}
use Rattle.std.specs.Option.{option_or}
use Rattle.tao_base.specs.declared.storage.Entry.{Entry}
use Rattle.tao_base.specs.declared.storage.Bucket.{Bucket}
use Rattle.tao_base.specs.Buckets.{Rises}
use Rattle.tao_base.specs.Limits.{Shape}
use Rattle.tao_base.specs.Tree.{node_count, is_on_path}
use Rattle.tao_base.specs.Array.{block_at}

-- the value of the first entry with this id
abbrev pub look : ℕ → List Entry → Option (List ℕ)
look id [] = None
look id (entry ∷ entries) = if entry.id == id then Some entry.value else look id entries

-- The placement: `may b w` says that block b is gathered and may lie in node w, one of the nodes 1 to m. Nodes have at most z
-- blocks. Each gathered block lies once, as deep as it can: every greater node that it may lie in is full of lower ids.
pub record IsPlaced (may : ℕ → ℕ → Bool) (m z : ℕ) (gathered : ℕ → Option (List ℕ)) (contents : ℕ → List Entry) : Type 0 where
  pub place : ℕ → ℕ
  pub rises : (w : ℕ) → Rises 0 (contents w)
  pub lies : (b w : ℕ) → look b (contents w) ≡ (if place b == w then gathered b else None)
  pub allowed : (b : ℕ) → (place b ≡ 0) ⊎ ((place b ≤ m) × (may b (place b) ≡ true))
  pub room : (w : ℕ) → 0 < w → length (contents w) ≤ z
  pub full : (b w : ℕ) → w ≤ m → may b w ≡ true → place b < w → (length (contents w) ≡ z) × All (λ entry. entry.id < b) (contents w)

-- the entries of a node in a list of buckets
abbrev pub entries_at : List Bucket → ℕ → List Entry
entries_at [] w = []
entries_at (bucket ∷ buckets) w = if bucket.node == w then bucket.entries else entries_at buckets w

-- the value of a block of the array, if there is such a block
abbrev pub block_below : ℕ → List (List ℕ) → ℕ → Option (List ℕ)
block_below n blocks b = if nat_lt b n then Some (block_at blocks b) else None

-- a block may lie in the nodes on its leaf's path
abbrev pub may_load : Shape → (ℕ → ℕ) → ℕ → ℕ → Bool
may_load s leaf b w = nat_lt b s.n && is_on_path s.l (leaf b) w

-- the stash and the contents of the nodes as one function
abbrev pub with_stash : List Entry → (ℕ → List Entry) → ℕ → List Entry
with_stash stash contents w = if w == 0 then stash else contents w

-- loading all blocks, each on its leaf's path, gives these buckets and some stash
abbrev pub IsLoad : Shape → (ℕ → ℕ) → List (List ℕ) → List Bucket → Type 0
IsLoad s leaf blocks loaded =
    (stash : List Entry) × IsPlaced (may_load s leaf) (node_count s.l) s.z (block_below s.n blocks) (with_stash stash (entries_at loaded))

-- the first copy of a block: the stash first, then the nodes of the path in their order
abbrev pub first_copy : List ℕ → (ℕ → List Entry) → ℕ → Option (List ℕ)
first_copy [] held b = None
first_copy (w ∷ ws) held b = option_or (look b (held w)) (first_copy ws held b)

-- a gathered block may lie in the nodes of the evicted path that are also on its leaf's path
abbrev pub may_evict : ℕ → List ℕ → (ℕ → ℕ) → (ℕ → List Entry) → ℕ → ℕ → Bool
may_evict l path leaf held b w = is_some (first_copy (0 ∷ path) held b) && (list_any (λ v. v == w) path && is_on_path l (leaf b) w)

-- the eviction along a path changes the stash and the path's nodes from `old` to `new`, and nothing else
pub record IsEvicted (s : Shape) (path : List ℕ) (leaf : ℕ → ℕ) (old new : ℕ → List Entry) : Type 0 where
  pub placed : IsPlaced (may_evict s.l path leaf old) (node_count s.l) s.z (first_copy (0 ∷ path) old)
      (λ w. if list_any (λ v. v == w) (0 ∷ path) then new w else [])
  pub others : (w : ℕ) → list_any (λ v. v == w) (0 ∷ path) ≡ false → new w ≡ old w
