-- What a call has taken from its source, which is seen by the bytes that it has left.
use Rattle.std.specs.Prelude.{ℕ, ◌<◌, ◌≤◌, List, length, Option}
use Rattle.std.specs.Io.KnownBytes.{Consumes, IsAtEnd}

module _ {S : Type 0} (left : S → Option (List ℕ)) (old new : S) where
  -- a prefix of the bytes that were left was taken
  abbrev pub TakesPrefix : Type 0
  TakesPrefix = (bytes : List ℕ) × Consumes (left old) (left new) bytes

  -- these bytes were taken: all that were left, or the first `limit` of more
  pub record TakesInput (limit : ℕ) (bytes : List ℕ) : Type 0 where
    pub taken : Consumes (left old) (left new) bytes
    pub within : length bytes ≤ limit
    pub whole : length bytes < limit → IsAtEnd (left new)
