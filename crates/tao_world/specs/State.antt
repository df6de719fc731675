-- What the player of a schedule keeps of the requests that are under way.
use Rattle.std.specs.Prelude.{ℕ, Bool, false, List, Option, None}
use Rattle.std.specs.List.{slice_index_or}
use Rattle.tao_base.specs.declared.storage.Order.{Order}

-- a fetch under way: its leaf, which depths of its path were read, and the bytes of the path
pub record Reading : Type 0 where
  pub arrival : ℕ
  pub leaf : ℕ
  pub read : List Bool
  pub bytes : List ℕ

-- a store under way: its order, which of the order's nodes were put, and how many weren't
pub record Sending : Type 0 where
  pub order : Order
  pub put : List Bool
  pub left : ℕ

-- whether a flag is set; behind the last none is
abbrev pub is_set_at : List Bool → ℕ → Bool
is_set_at flags i = slice_index_or flags i false

-- the row of a table at a place, if it has one there
abbrev pub row_at : {X : Type 0} → List (Option X) → ℕ → Option X
row_at rows place = slice_index_or rows place None
