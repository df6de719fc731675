-- The words of a tape, by its source and their places.
use Rattle.std.specs.Prelude.{ℕ, zero, suc, ◌-◌, ◌^◌, List, [], ◌∷◌, length, slice_index}
use Rattle.tao_tape.specs.Keystream.{stream_word}

-- a tape: what its words come from, and the place of the next one
pub record Drawn : Type 0 where
  pub source : List ℕ
  pub place : ℕ

-- a tape of this source that goes on at this place
abbrev pub drawn : List ℕ → ℕ → Drawn
drawn source place = record { source = source; place = place }

-- the words of a key are those of its stream 0
abbrev pub key_word : List ℕ → ℕ → ℕ
key_word key j = stream_word key 0 j

-- how many of the 2^64 - 1 words of a key are left from a place on
abbrev pub key_left : List ℕ → ℕ → ℕ
key_left key place = 2 ^ 64 - 1 - place

-- a list's words are its items; 0 past the end
abbrev pub list_word : List ℕ → ℕ → ℕ
list_word words j = slice_index words j

-- how many words of a list are left from a place on
abbrev pub list_left : List ℕ → ℕ → ℕ
list_left words place = length words - place

-- the words of a tape of either kind, whose source is 0 and a key, or 1 and a list
abbrev pub either_word : List ℕ → ℕ → ℕ
either_word [] j = 0
either_word (zero ∷ key) j = key_word key j
either_word (suc zero ∷ words) j = list_word words j
either_word (suc (suc _) ∷ _) j = 0

-- how many words of such a tape are left from a place on; none if its source begins with neither 0 nor 1
abbrev pub either_left : List ℕ → ℕ → ℕ
either_left [] place = 0
either_left (zero ∷ key) place = key_left key place
either_left (suc zero ∷ words) place = list_left words place
either_left (suc (suc _) ∷ _) place = 0
