-- Fresh copies: each block has one copy, in the stash or where its position allows. Node 0 is the stash.
use Rattle.std.specs.Prelude.{◌≡◌, ℕ, ◌<◌, ◌⊎◌, ◌==◌, Bool, true, ◌||◌, if◌then◌else◌, List, Option, Some, None}
use Rattle.tao_base.specs.declared.storage.Entry.{Entry}
use Rattle.tao_base.specs.Limits.{Shape}
use Rattle.tao_base.specs.Tree.{is_on_path}
use Rattle.tao_model.specs.Placement.{look}

-- the current contents of each node: the proxy's if it holds the node (and for the stash), else what was last written there
abbrev pub current_contents : (ℕ → Bool) → (ℕ → List Entry) → (ℕ → List Entry) → ℕ → List Entry
current_contents resident own newest w = if w == 0 || resident w then own w else newest w

-- There is one copy, in the stash or in a node of the path. It has this value, and no other node has a copy.
pub record OneCopy (on_path : ℕ → Bool) (value : List ℕ) (copy : ℕ → Option (List ℕ)) : Type 0 where
  pub node : ℕ
  pub lies : (node ≡ 0) ⊎ (on_path node ≡ true)
  pub there : copy node ≡ Some value
  pub alone : (w : ℕ) → (w ≡ node → ⊥) → copy w ≡ None

-- Each block has one copy in the stash and all nodes, with its settled value. If it lies in a node, the node is
-- on the path of the block's position. (After the fresh-subtree invariant of the S&P paper.)
abbrev pub FreshCopy : Shape → (ℕ → ℕ) → (ℕ → List ℕ) → (ℕ → List Entry) → Type 0
FreshCopy s leaf value contents = (b : ℕ) → b < s.n → OneCopy (is_on_path s.l (leaf b)) (value b) (λ w. look b (contents w))
