-- Whole lines: no line of a text is begun and not ended.
use Rattle.std.specs.Prelude.{◌≡◌, ◌⊎◌, ℕ, List, [], ◌++◌, codes}
use Rattle.tao_base.specs.Lines.{ended}
use Rattle.tao_base.specs.Session.{Opening, History}
use Rattle.tao_model.specs.Transcript.{opening_lines, block_line}
use Rattle.tao_trace.specs.Printing.{lines_at}

-- nothing, or a text whose last line is ended
abbrev pub AreLines : List ℕ → Type 0
AreLines text = (text ≡ []) ⊎ ((before : List ℕ) × (text ≡ ended before))

-- these are whole lines of the text, from its first on
pub record AreFirstLines (lines text : List ℕ) : Type 0 where
  pub whole : AreLines lines
  pub rest : List ℕ
  pub front : text ≡ lines ++ rest

-- A transcript is printed in whole lines: those of the opening, of each event and of each block.
pub record LinesAreWhole : Type 0 where
  pub opening : (o : Opening) → AreLines (opening_lines o)
  pub event : (h : History) (again place : ℕ) → AreLines (lines_at h again place)
  pub scan : AreLines (codes "scan\n")
  pub block : (blocks : List (List ℕ)) (id : ℕ) → AreLines (block_line blocks id)
