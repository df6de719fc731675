-- The command words: those after the program's name.
use Rattle.std.specs.Prelude.{◌≡◌, ℕ, List, [], ◌∷◌, codes}

-- they ask to play a script: they are the one word `play`
abbrev pub AskToPlay : List (List ℕ) → Type 0
AskToPlay words = words ≡ codes "play" ∷ []

-- they ask for nothing that the program does
abbrev pub AreRefused : List (List ℕ) → Type 0
AreRefused words = ¬ AskToPlay words
