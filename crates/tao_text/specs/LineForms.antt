-- The forms of lines, by their words.
use Rattle.std.specs.Prelude.{◌≡◌, ℕ, List, [], ◌∷◌, ◌++◌, codes, ⊤}
use Rattle.tao_text.specs.declared.text.TextOf.{TextOf}

-- one place in a form
pub data Part : Type 0 where
  -- this very word
  Fixed : List ℕ → Part
  -- a number
  ANumber : Part
  -- bytes in hex
  AValue : Part
  -- one or more numbers, to the end of the line
  TheNumbers : Part

-- the forms of the lines that all texts know
unfoldable pub script_forms : List (List Part)
script_forms =
    (Fixed (codes "tree") ∷ ANumber ∷ ANumber ∷ ANumber ∷ ANumber ∷ ANumber ∷ [])
    ∷ (Fixed (codes "form") ∷ Fixed (codes "1") ∷ [])
    ∷ (Fixed (codes "form") ∷ Fixed (codes "2") ∷ [])
    ∷ (Fixed (codes "form") ∷ Fixed (codes "turn") ∷ [])
    ∷ (Fixed (codes "key") ∷ AValue ∷ [])
    ∷ (Fixed (codes "seal") ∷ [])
    ∷ (Fixed (codes "reopen") ∷ AValue ∷ [])
    ∷ (Fixed (codes "tape") ∷ TheNumbers ∷ [])
    ∷ (Fixed (codes "load") ∷ ANumber ∷ AValue ∷ [])
    ∷ (Fixed (codes "do") ∷ ANumber ∷ Fixed (codes "read") ∷ ANumber ∷ [])
    ∷ (Fixed (codes "do") ∷ ANumber ∷ Fixed (codes "write") ∷ ANumber ∷ AValue ∷ [])
    ∷ (Fixed (codes "do") ∷ ANumber ∷ Fixed (codes "pad") ∷ [])
    ∷ (Fixed (codes "a") ∷ ANumber ∷ Fixed (codes "read") ∷ ANumber ∷ [])
    ∷ (Fixed (codes "a") ∷ ANumber ∷ Fixed (codes "write") ∷ ANumber ∷ AValue ∷ [])
    ∷ (Fixed (codes "a") ∷ ANumber ∷ Fixed (codes "pad") ∷ [])
    ∷ (Fixed (codes "read") ∷ ANumber ∷ [])
    ∷ (Fixed (codes "read") ∷ ANumber ∷ ANumber ∷ [])
    ∷ (Fixed (codes "done") ∷ ANumber ∷ [])
    ∷ (Fixed (codes "put") ∷ ANumber ∷ [])
    ∷ (Fixed (codes "put") ∷ ANumber ∷ ANumber ∷ [])
    ∷ (Fixed (codes "ack") ∷ ANumber ∷ [])
    ∷ []

-- the forms that only a twin input has
unfoldable pub twin_forms : List (List Part)
twin_forms =
    (Fixed (codes "twin") ∷ [])
    ∷ (Fixed (codes "op") ∷ Fixed (codes "read") ∷ ANumber ∷ [])
    ∷ (Fixed (codes "op") ∷ Fixed (codes "write") ∷ ANumber ∷ AValue ∷ [])
    ∷ (Fixed (codes "op") ∷ Fixed (codes "pad") ∷ [])
    ∷ []

-- all line forms of a kind of text
abbrev pub line_forms : TextOf → List (List Part)
line_forms TextOf.Script = script_forms
line_forms TextOf.Twin = script_forms ++ twin_forms
line_forms TextOf.Ops = script_forms
line_forms TextOf.Store = script_forms

-- the words match the places of the form one by one, the fixed words exactly
abbrev pub IsOfForm : List (List ℕ) → List Part → Type 0
IsOfForm [] [] = ⊤
IsOfForm [] (part ∷ parts) = ⊥
IsOfForm (word ∷ words) [] = ⊥
IsOfForm (word ∷ words) (Fixed fixed ∷ parts) = (word ≡ fixed) × IsOfForm words parts
IsOfForm (word ∷ words) (ANumber ∷ parts) = IsOfForm words parts
IsOfForm (word ∷ words) (AValue ∷ parts) = IsOfForm words parts
IsOfForm (word ∷ words) (TheNumbers ∷ parts) = ⊤

-- the words at the places of numbers
abbrev pub numbers_in : List Part → List (List ℕ) → List (List ℕ)
numbers_in [] words = []
numbers_in (part ∷ parts) [] = []
numbers_in (Fixed fixed ∷ parts) (word ∷ words) = numbers_in parts words
numbers_in (ANumber ∷ parts) (word ∷ words) = word ∷ numbers_in parts words
numbers_in (AValue ∷ parts) (word ∷ words) = numbers_in parts words
numbers_in (TheNumbers ∷ parts) (word ∷ words) = word ∷ words

-- the words at the places of values
abbrev pub values_in : List Part → List (List ℕ) → List (List ℕ)
values_in [] words = []
values_in (part ∷ parts) [] = []
values_in (Fixed fixed ∷ parts) (word ∷ words) = values_in parts words
values_in (ANumber ∷ parts) (word ∷ words) = values_in parts words
values_in (AValue ∷ parts) (word ∷ words) = word ∷ values_in parts words
values_in (TheNumbers ∷ parts) (word ∷ words) = []
