-- The plain array that every reply is measured by: a list of blocks, and what a read, a write and a pad do to it.
use Rattle.std.specs.Prelude.{ℕ, List, [], fold, slice_set}
use Rattle.std.specs.List.{slice_index_or}
use Rattle.tao_base.specs.declared.calls.Op.{Op}
use Rattle.tao_base.specs.declared.calls.Op.TheVariants.{Read, Write, Pad}

-- the bytes of a block; no bytes past the end
abbrev pub block_at : List (List ℕ) → ℕ → List ℕ
block_at blocks id = slice_index_or blocks id []

-- a write puts its value; a read and a pad leave all as it is
abbrev pub array_step : List (List ℕ) → Op → List (List ℕ)
array_step blocks (Read id) = blocks
array_step blocks (Write id value) = slice_set blocks id value
array_step blocks Pad = blocks

-- what is answered: the value before the step, and no bytes to a pad
abbrev pub array_reply : List (List ℕ) → Op → List ℕ
array_reply blocks (Read id) = block_at blocks id
array_reply blocks (Write id value) = block_at blocks id
array_reply blocks Pad = []

-- the array after these operations, one after another
abbrev pub array_after : List (List ℕ) → List Op → List (List ℕ)
array_after blocks ops = fold array_step blocks ops
