-- What calls on sinks and sources have put and taken, however the bytes are chunked; and when bytes are the same.
use Rattle.std.specs.Prelude.{◌≡◌, ◌==◌, ℕ, ◌<◌, Bool, true, false, ◌&&◌, List, [], ◌∷◌, length, take, Option}
use Rattle.std.specs.Io.KnownBytes.{Appends, Consumes}
use Rattle.tao_base.specs.Causes.{Rose}

module _ {K : Type 0} (put : K → Option (List ℕ)) (faults : K → ℕ) (old new : K) where
  -- the whole text was put, and no write failed
  pub record PutsAll (text : List ℕ) : Type 0 where
    pub whole : Appends (put old) (put new) text
    pub unfailed : faults new ≡ faults old

  -- a write failed, and only a prefix of the text was put
  pub record PutsPart (text : List ℕ) : Type 0 where
    pub part : ℕ
    pub short : part < length text
    pub front : Appends (put old) (put new) (take part text)
    pub rose : Rose (faults old) (faults new)

-- a prefix of the bytes left was taken, and it is shorter than so many
pub record ConsumesFewer (old new : Option (List ℕ)) (wanted : ℕ) : Type 0 where
  pub came : List ℕ
  pub short : length came < wanted
  pub taken : Consumes old new came

-- the same bytes
abbrev pub same : List ℕ → List ℕ → Bool
same [] [] = true
same [] (y ∷ ys) = false
same (x ∷ xs) [] = false
same (x ∷ xs) (y ∷ ys) = x == y && same xs ys
