-- The lines of a text, and the words of a line.
use Rattle.std.specs.Prelude.{◌≡◌, ℕ, ◌==◌, Bool, true, false, List, [], ◌∷◌, filter, if◌then◌else◌}
use Rattle.std.specs.List.{slice_split}

-- whether a piece isn't empty
abbrev pub has_bytes : List ℕ → Bool
has_bytes [] = false
has_bytes (b ∷ bytes) = true

-- all parts but an empty last one
abbrev pub without_empty_end : List (List ℕ) → List (List ℕ)
without_empty_end [] = []
without_empty_end (last ∷ []) = if has_bytes last then last ∷ [] else []
without_empty_end (part ∷ next ∷ rest) = part ∷ without_empty_end (next ∷ rest)

-- the lines of a text: each ends with byte 10, and a last piece without it is a line if it isn't empty
unfoldable pub lines : List ℕ → List (List ℕ)
lines text = without_empty_end (slice_split (λ b. b == 10) text)

-- the words of a line, which one or more spaces separate
unfoldable pub words : List ℕ → List (List ℕ)
words line = filter has_bytes (slice_split (λ b. b == 32) line)

-- there is a word
abbrev pub HasWords : List (List ℕ) → Type 0
HasWords parts = (word : List ℕ) × (more : List (List ℕ)) × (parts ≡ word ∷ more)
