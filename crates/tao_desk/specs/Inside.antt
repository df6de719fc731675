-- What a desk adds to its processor.
use Rattle.std.specs.Prelude.{◌≡◌, ℕ, ◌+◌, ◌<◌, List, reverse}
use Rattle.tao_base.specs.Session.{History}
use Rattle.tao_model.specs.Events.{arrived, word_at}
use Rattle.tao_model.specs.Lawful.{OwesNone}

-- no write-back is owed, and the record has the words of the tape up to its place
pub record IsDesk (word : List ℕ → ℕ → ℕ) (source : List ℕ) (place : ℕ) (h : History) : Type 0 where
  pub owes : OwesNone h.opening (reverse h.events)
  pub place_is : place ≡ h.opening.shape.n + arrived (reverse h.events)
  pub words : (j : ℕ) → j < place → word_at h.opening (reverse h.events) j ≡ word source j
