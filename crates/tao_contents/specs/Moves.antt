-- Laws of one look-up, one put and one eviction, over the contents of the stash and all nodes. Node 0 is the stash.
use Rattle.std.specs.Prelude.{◌≡◌, ℕ, ◌<◌, ◌⊎◌, false, List, Some, None}
use Rattle.tao_base.specs.declared.storage.Entry.{Entry}
use Rattle.tao_base.specs.Limits.{Shape}
use Rattle.tao_base.specs.Tree.{path, is_on_path}
use Rattle.tao_model.specs.Placement.{look, IsEvicted}
use Rattle.tao_model.specs.FreshCopy.{OneCopy, FreshCopy}
use Rattle.tao_held.specs.Steps.{found_copy, put}

-- fresh copy depends only on positions, values and look-ups
abbrev pub FreshAlike : Type 0
FreshAlike = (s : Shape) (leaf leaf' : ℕ → ℕ) (value value' : ℕ → List ℕ) (contents contents' : ℕ → List Entry)
    → ((b : ℕ) → b < s.n → leaf b ≡ leaf' b) → ((b : ℕ) → b < s.n → value b ≡ value' b) → ((w b : ℕ) → b < s.n → look b (contents w) ≡ look b (contents' w))
    → FreshCopy s leaf value contents → FreshCopy s leaf' value' contents'

-- the look-up finds a block's settled value if the path of its position was fetched
abbrev pub LookUpFinds : Type 0
LookUpFinds = (s : Shape) (at : ℕ) (leaf : ℕ → ℕ) (value : ℕ → List ℕ) (contents : ℕ → List Entry) (b : ℕ) → b < s.n → leaf b ≡ at
    → FreshCopy s leaf value contents → found_copy s.l at contents b ≡ Some (value b)

-- what was put is found even if the path has an older copy
abbrev pub PutIsFound : Type 0
PutIsFound = (l at : ℕ) (contents : ℕ → List Entry) (b : ℕ) (value : List ℕ) → found_copy l at (put contents b value) b ≡ Some value

-- The first copy in the stash or on the path counts, and has this value. Older ones may come after it; no node
-- off the path has one.
pub record CountsInside (l at b : ℕ) (value : List ℕ) (contents : ℕ → List Entry) : Type 0 where
  pub first : found_copy l at contents b ≡ Some value
  pub none_off : (w : ℕ) → 0 < w → is_on_path l at w ≡ false → look b (contents w) ≡ None

-- the block's only copy is in a node off the path
pub record CountsOutside (l at leaf b : ℕ) (value : List ℕ) (contents : ℕ → List Entry) : Type 0 where
  pub none_inside : found_copy l at contents b ≡ None
  pub one : OneCopy (is_on_path l leaf) value (λ w. look b (contents w))

-- what an eviction along the path makes fresh: one copy of each block counts
abbrev pub FreshToEvict : Shape → ℕ → (ℕ → ℕ) → (ℕ → List ℕ) → (ℕ → List Entry) → Type 0
FreshToEvict s at leaf value contents = (b : ℕ) → b < s.n → CountsInside s.l at b (value b) contents ⊎ CountsOutside s.l at (leaf b) b (value b) contents

-- an eviction may follow, along any path, if copies are fresh
abbrev pub FreshMayBeEvicted : Type 0
FreshMayBeEvicted = (s : Shape) (at : ℕ) (leaf : ℕ → ℕ) (value : ℕ → List ℕ) (contents : ℕ → List Entry)
    → FreshCopy s leaf value contents → FreshToEvict s at leaf value contents

-- only one block has another position and another value
pub record ChangesOne (a : ℕ) (leaf leaf' : ℕ → ℕ) (value value' : ℕ → List ℕ) : Type 0 where
  pub positions : (b : ℕ) → (b ≡ a → ⊥) → leaf' b ≡ leaf b
  pub values : (b : ℕ) → (b ≡ a → ⊥) → value' b ≡ value b

-- an eviction may also follow after a put of a block on this path, whatever its new position is
abbrev pub PutMayBeEvicted : Type 0
PutMayBeEvicted = (s : Shape) (at : ℕ) (leaf leaf' : ℕ → ℕ) (value value' : ℕ → List ℕ) (contents : ℕ → List Entry) (a : ℕ) → leaf a ≡ at → ChangesOne a leaf leaf' value value'
    → FreshCopy s leaf value contents → FreshToEvict s at leaf' value' (put contents a (value' a))

-- an eviction leaves one copy of each block, where its position allows
abbrev pub EvictionKeeps : Type 0
EvictionKeeps = (s : Shape) (at : ℕ) (leaf : ℕ → ℕ) (value : ℕ → List ℕ) (old new : ℕ → List Entry) → FreshToEvict s at leaf value old
    → IsEvicted s (path s.l at) leaf old new → FreshCopy s leaf value new
