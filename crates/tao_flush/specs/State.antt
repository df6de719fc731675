-- What callers see of the positions and the stash.
use Rattle.std.specs.Prelude.{ℕ, List, slice_index}
use Rattle.tao_base.specs.declared.storage.Entry.{Entry}
use Rattle.tao_base.specs.Limits.{Shape}
use Rattle.tao_base.specs.Tree.{leaf_of}

-- the parameters that the positions were made for, and the word of each block
pub record PositionsState : Type 0 where
  pub shape : Shape
  pub words : List ℕ

-- the leaf that a block is assigned to
abbrev pub leaf_in : PositionsState → ℕ → ℕ
leaf_in positions block = leaf_of positions.shape.l (slice_index positions.words block)

-- the parameters that the stash was made for, and its entries in rising id
pub record StashState : Type 0 where
  pub shape : Shape
  pub entries : List Entry
