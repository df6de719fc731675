-- An eviction, as the stash and the lists of a path's nodes see it.
use Rattle.std.specs.Prelude.{ℕ, ◌==◌, if◌then◌else◌, List, [], ◌∷◌}
use Rattle.tao_base.specs.declared.storage.Entry.{Entry}
use Rattle.tao_base.specs.Limits.{Shape}
use Rattle.tao_base.specs.Tree.{path}
use Rattle.tao_model.specs.Placement.{with_stash, IsEvicted}

-- what each node has, where some nodes have these lists, one each, and all others what they have elsewhere
abbrev pub with_lists : List ℕ → List (List Entry) → (ℕ → List Entry) → ℕ → List Entry
with_lists [] lists elsewhere w = elsewhere w
with_lists (v ∷ nodes) [] elsewhere w = elsewhere w
with_lists (v ∷ nodes) (entries ∷ lists) elsewhere w = if v == w then entries else with_lists nodes lists elsewhere w

-- the stash, the lists of the nodes of a leaf's path, and whatever lies elsewhere
abbrev pub laid_out : Shape → ℕ → List Entry → List (List Entry) → (ℕ → List Entry) → ℕ → List Entry
laid_out s at stash lists elsewhere = with_stash stash (with_lists (path s.l at) lists elsewhere)

-- the eviction along the path turns one stash and path into the other, whatever lies at the other nodes
abbrev pub Evicts : Shape → ℕ → (ℕ → ℕ) → List Entry → List (List Entry) → List Entry → List (List Entry) → Type 0
Evicts s at leaf stash lists stash' lists' = (elsewhere : ℕ → List Entry)
    → IsEvicted s (path s.l at) leaf (laid_out s at stash lists elsewhere) (laid_out s at stash' lists' elsewhere)
