-- Lines of text: a word, and numbers and a value behind it, one space apart; each line is ended.
use Rattle.std.specs.Prelude.{ℕ, List, [], ◌∷◌, ◌++◌, decimal}
use Rattle.std.specs.List.{flat_map}
use Rattle.hex.specs.Hex.{encode_lower}

-- a number in decimal behind a space
unfoldable pub spaced : ℕ → List ℕ
spaced n = 32 ∷ decimal n

-- bytes in lower-case hex behind a space
unfoldable pub spaced_hex : List ℕ → List ℕ
spaced_hex bytes = 32 ∷ encode_lower bytes

-- a line with its end, byte 10, behind it
abbrev pub ended : List ℕ → List ℕ
ended line = line ++ 10 ∷ []

-- the line of a word and numbers, each number in decimal behind a space, with its end
unfoldable pub words_line : List ℕ → List ℕ → List ℕ
words_line word numbers = ended (word ++ flat_map spaced numbers)

-- the same line with a value in lower-case hex behind the numbers and one more space
unfoldable pub hex_line : List ℕ → List ℕ → List ℕ → List ℕ
hex_line word numbers bytes = ended ((word ++ flat_map spaced numbers) ++ spaced_hex bytes)
