-- What a tree holds after any list of writes.
use Rattle.std.specs.Prelude.{◌≡◌, ◌≢◌, ℕ, ◌<◌, ◌≤◌, List, ◌∷◌, ◌++◌, fold, All, MatchOption}
use Rattle.tao_base.specs.Limits.{Shape}
use Rattle.tao_base.specs.Tree.{node_count}
use Rattle.tao_tree.specs.Nodes.{Held, TreeState, applied, empty_tree, held_at}

-- a write at a node: a bucket's bytes, and their version
pub record Write : Type 0 where
  pub version : ℕ
  pub node : ℕ
  pub bytes : List ℕ

-- a tree after this write
abbrev pub written : TreeState → Write → TreeState
written tree w = applied tree w.version w.node w.bytes

-- a new tree after these writes, one after another
abbrev pub tree_after : Shape → List Write → TreeState
tree_after s writes = fold written (empty_tree s) writes

-- the write is at a node of the tree
abbrev pub IsInTree : Shape → Write → Type 0
IsInTree s w = (1 ≤ w.node) × (w.node ≤ node_count s.l)

-- This is the first write of greatest version at the node: those at the node before it have smaller versions, and those behind it no greater.
pub record IsNewest (writes : List Write) (node : ℕ) (held : Held) : Type 0 where
  pub front : List Write
  pub back : List Write
  pub there : writes ≡ front ++ record { version = held.version; node = node; bytes = held.bytes } ∷ back
  pub older : All (λ w. w.node ≡ node → w.version < held.version) front
  pub newer : All (λ w. w.node ≡ node → w.version ≤ held.version) back

-- After any list of writes each node holds the first one of greatest version at it, and nothing where there is none.
abbrev pub NewestStays : Type 0
NewestStays = (s : Shape) (writes : List Write) (node : ℕ) → All (IsInTree s) writes → 1 ≤ node → node ≤ node_count s.l
    → MatchOption (held_at (tree_after s writes) node) (All (λ w. w.node ≢ node) writes) (IsNewest writes node)
