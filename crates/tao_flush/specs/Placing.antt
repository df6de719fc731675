-- The pass in rising id, as the lists of a path's nodes see it.
use Rattle.std.specs.Prelude.{◌≡◌, ℕ, ◌+◌, ◌^◌, ◌<◌, ◌≤◌, ◌==◌, nat_lt, Bool, ◌&&◌, List, [], map, length, drop, All}
use Rattle.std.specs.List.{list_any, range_with_len, slice_index_or}
use Rattle.tao_base.specs.declared.storage.Entry.{Entry}
use Rattle.tao_base.specs.Limits.{Shape}
use Rattle.tao_base.specs.Tree.{node_at, node_count, path, is_on_path}
use Rattle.tao_model.specs.Passes.{put_next, one_pass}
use Rattle.tao_flush.specs.State.{leaf_in}
use Rattle.tao_flush.specs.declared.placing.Eviction.{Eviction}

-- what the nodes of a leaf's path have, from the root on
abbrev pub lists_on : ℕ → ℕ → (ℕ → List Entry) → List (List Entry)
lists_on l at contents = map (λ depth. contents (node_at l at depth)) (range_with_len 0 (l + 1))

-- a block may be placed in the nodes that are on both paths, that to `at` and that to its own leaf
abbrev pub may_place : ℕ → ℕ → (ℕ → ℕ) → ℕ → ℕ → Bool
may_place l at leaf b w = list_any (λ v. v == w) (path l at) && is_on_path l (leaf b) w

-- the paths of two leaves have the same nodes as far as this depth, and no deeper
abbrev pub AreShared : ℕ → ℕ → ℕ → ℕ → Type 0
AreShared l at leaf depth = (d : ℕ) → d ≤ l → (node_at l leaf d == node_at l at d) ≡ nat_lt d (depth + 1)

-- the node at this depth is on both paths, and has room
abbrev pub fits : Shape → ℕ → ℕ → List (List Entry) → ℕ → Bool
fits s at leaf lists depth = (node_at s.l leaf depth == node_at s.l at depth) && nat_lt (length (slice_index_or lists depth [])) s.z

-- what the nodes of the path and the stash have once one more entry has gone to its spot
abbrev pub next_placed : Shape → ℕ → (ℕ → ℕ) → (ℕ → List Entry) → Entry → ℕ → List Entry
next_placed s at leaf contents entry = put_next (may_place s.l at leaf) (node_count s.l) s.z contents entry

-- what they have once all entries of a list have gone to their spots, one after another
abbrev pub all_placed : Shape → ℕ → (ℕ → ℕ) → List Entry → ℕ → List Entry
all_placed s at leaf entries = one_pass (may_place s.l at leaf) (node_count s.l) s.z entries

-- one entry goes where it is to go: to a node of the path, or behind the rest, which is the stash's
abbrev pub PlacesNext : Shape → ℕ → (ℕ → ℕ) → List (List Entry) → List Entry → Entry → List (List Entry) → List Entry → Type 0
PlacesNext s at leaf old rest entry new rest' = (contents : ℕ → List Entry) → old ≡ lists_on s.l at contents → rest ≡ contents 0
    → (new ≡ lists_on s.l at (next_placed s at leaf contents entry)) × (rest' ≡ next_placed s at leaf contents entry 0)

-- ---- in the words of the calls

-- the leaf is one of the tree, and the positions are those of its blocks
abbrev pub IsEviction : Eviction → Type 0
IsEviction e = (e.leaf < 2 ^ e.p.l) × (e.positions.now.shape ≡ e.p)

-- the lists of the path's nodes, with no entry in any
abbrev pub AreEmptied : Eviction → List (List Entry) → Type 0
AreEmptied e lists = (length lists ≡ e.p.l + 1) × All (λ list. list ≡ []) lists

-- a list is as it was from a place on
abbrev pub KeepsFrom : ℕ → List Entry → List Entry → Type 0
KeepsFrom place old new = (drop place new ≡ drop place old) × (length new ≡ length old)

-- one entry goes where it is to go, as above
abbrev pub PlacesOne : Eviction → List (List Entry) → List Entry → Entry → List (List Entry) → List Entry → Type 0
PlacesOne e lists rest entry lists' rest' = PlacesNext e.p e.leaf (leaf_in e.positions.now) lists rest entry lists' rest'

-- all entries of a list have gone where they are to go: these are the lists of the path's nodes, and the rest
abbrev pub PlacesAll : Eviction → List Entry → List (List Entry) → List Entry → Type 0
PlacesAll e entries lists rest =
    (lists ≡ lists_on e.p.l e.leaf (all_placed e.p e.leaf (leaf_in e.positions.now) entries)) × (rest ≡ all_placed e.p e.leaf (leaf_in e.positions.now) entries 0)
