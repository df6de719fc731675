-- What an image holds after a part of a line was appended.
use Rattle.std.specs.Prelude.{◌≡◌, ℕ, List, length, take}

-- the old bytes are a prefix of the new ones
abbrev pub Extends : List ℕ → List ℕ → Type 0
Extends old new = take (length old) new ≡ old
