-- Fresh copy as a count: exactly one entry of each block in the stash and all nodes.
use Rattle.std.specs.Prelude.{◌≡◌, ℕ, ◌+◌, ◌<◌, ◌↔◌, ◌==◌, true, List, [], All, count_by, flat_map}
use Rattle.std.specs.List.{range_with_len}
use Rattle.tao_base.specs.declared.storage.Entry.{Entry}
use Rattle.tao_base.specs.Limits.{Shape}
use Rattle.tao_base.specs.Tree.{node_count, is_on_path}
use Rattle.tao_base.specs.Buckets.{Rises}
use Rattle.tao_model.specs.FreshCopy.{FreshCopy}

-- how many entries some nodes have of a block, in total
abbrev pub entries_of : (ℕ → List Entry) → List ℕ → ℕ → ℕ
entries_of contents nodes b = count_by (λ entry. entry.id == b) (flat_map contents nodes)

-- the stash and the nodes of a tree
abbrev pub stash_and_nodes : ℕ → List ℕ
stash_and_nodes l = range_with_len 0 (node_count l + 1)

-- lists of entries in rising id, with none outside the stash and the nodes of the tree
pub record AreOfTree (l : ℕ) (contents : ℕ → List Entry) : Type 0 where
  pub rises : (w : ℕ) → Rises 0 (contents w)
  pub within : (w : ℕ) → node_count l < w → contents w ≡ []

-- Exactly one entry of the stash and all nodes has the block's id. It has this value; if it is in a node, the node is on the path.
pub record HasOneEntry (l leaf b : ℕ) (value : List ℕ) (contents : ℕ → List Entry) : Type 0 where
  pub count : entries_of contents (stash_and_nodes l) b ≡ 1
  pub valued : (w : ℕ) → All (λ entry. entry.id ≡ b → entry.value ≡ value) (contents w)
  pub placed : (w : ℕ) → 0 < w → All (λ entry. entry.id ≡ b → is_on_path l leaf w ≡ true) (contents w)

-- fresh copy is the same as exactly one entry of each block
abbrev pub FreshCopyCounts : Type 0
FreshCopyCounts = (s : Shape) (leaf : ℕ → ℕ) (value : ℕ → List ℕ) (contents : ℕ → List Entry) → AreOfTree s.l contents
    → FreshCopy s leaf value contents ↔ ((b : ℕ) → b < s.n → HasOneEntry s.l (leaf b) b (value b) contents)
