-- The source and the sink in memory.
use Rattle.std.specs.Prelude.{ℕ, List, Option, None}

-- the bytes that are left, the numbers of the calls that fail, and how many calls there were and how many failed
pub record SourceState : Type 0 where
  pub left : List ℕ
  pub fails : List ℕ
  pub calls : ℕ
  pub faults : ℕ

-- the bytes that were put, the capacity for more, and the same numbers
pub record SinkState : Type 0 where
  pub put : List ℕ
  pub room : ℕ
  pub fails : List ℕ
  pub calls : ℕ
  pub faults : ℕ

-- what a plain source or sink tells of another half: no fault and no bytes
abbrev pub no_half : ℕ × Option (List ℕ)
no_half = (0, None)
