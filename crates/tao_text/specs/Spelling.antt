-- What the words of a line say, form by form. Hex may be in either case.
use Rattle.std.specs.Prelude.{◌≡◌, ℕ, ◌^◌, ◌<◌, ◌≤◌, List, [], ◌∷◌, ◌++◌, length, map, codes, decimal, All, Some, None}
use Rattle.std.specs.List.{join_with_byte}
use Rattle.std.specs.Str.{str_to_ascii_lowercase}
use Rattle.hex.specs.Hex.{IsBytes, encode_lower}
use Rattle.tao_base.specs.declared.calls.Op.{Op}
use Rattle.tao_base.specs.declared.parameters.Form.{Form}
use Rattle.tao_base.specs.declared.parameters.Form.TheVariants.{One, Two, Turn}
use Rattle.tao_base.specs.declared.storage.Entry.{Entry}
use Rattle.tao_text.specs.declared.said.Said.{Said}
use Rattle.tao_text.specs.declared.script.What.{What}
use Rattle.tao_text.specs.declared.text.TextOf.{TextOf}

-- the word is a number below 2 ^ 32 in decimal
abbrev pub IsNumber : List ℕ → ℕ → Type 0
IsNumber word n = (word ≡ decimal n) × (n < 2 ^ 32)

-- in lower case the word is the hex of these bytes
abbrev pub IsHex : List ℕ → List ℕ → Type 0
IsHex word bytes = (str_to_ascii_lowercase word ≡ encode_lower bytes) × IsBytes bytes

-- a tape of one or more words
abbrev pub IsTape : List ℕ → Type 0
IsTape tape = (0 < length tape) × All (λ n. n < 2 ^ 32) tape

-- the word after `form` that names a form
abbrev pub form_word : Form → List ℕ
form_word One = codes "1"
form_word Two = codes "2"
form_word Turn = codes "turn"

-- the words after `load` that give an entry
abbrev pub SpellsLoad : List (List ℕ) → Entry → Type 0
SpellsLoad words entry = (hex : List ℕ) × (words ≡ decimal entry.id ∷ hex ∷ []) × (entry.id < 2 ^ 32) × IsHex hex entry.value

-- the words after `do` or `a` that give a client and its operation
abbrev pub SpellsCall : List (List ℕ) → ℕ → Op → Type 0
SpellsCall words client (Op.Read id) = (words ≡ decimal client ∷ codes "read" ∷ decimal id ∷ []) × (client < 2 ^ 32) × (id < 2 ^ 32)
SpellsCall words client (Op.Write id value) = (hex : List ℕ) × (words ≡ decimal client ∷ codes "write" ∷ decimal id ∷ hex ∷ []) × (client < 2 ^ 32) × (id < 2 ^ 32) × IsHex hex value
SpellsCall words client Op.Pad = (words ≡ decimal client ∷ codes "pad" ∷ []) × (client < 2 ^ 32)

-- a step
abbrev pub SpellsStep : List (List ℕ) → What → Type 0
SpellsStep words (What.Do client op) = (rest : List (List ℕ)) × (words ≡ codes "do" ∷ rest) × SpellsCall rest client op
SpellsStep words (What.A client op) = (rest : List (List ℕ)) × (words ≡ codes "a" ∷ rest) × SpellsCall rest client op
SpellsStep words (What.Read fetch None) = (words ≡ codes "read" ∷ decimal fetch ∷ []) × (fetch < 2 ^ 32)
SpellsStep words (What.Read fetch (Some depth)) = (words ≡ codes "read" ∷ decimal fetch ∷ decimal depth ∷ []) × (fetch < 2 ^ 32) × (depth < 2 ^ 32)
SpellsStep words (What.Done fetch) = (words ≡ codes "done" ∷ decimal fetch ∷ []) × (fetch < 2 ^ 32)
SpellsStep words (What.Put version None) = (words ≡ codes "put" ∷ decimal version ∷ []) × (version < 2 ^ 32)
SpellsStep words (What.Put version (Some node)) = (words ≡ codes "put" ∷ decimal version ∷ decimal node ∷ []) × (version < 2 ^ 32) × (node < 2 ^ 32)
SpellsStep words (What.Ack version) = (words ≡ codes "ack" ∷ decimal version ∷ []) × (version < 2 ^ 32)

-- the words after `op` that give an operation
abbrev pub SpellsOp : List (List ℕ) → Op → Type 0
SpellsOp words (Op.Read id) = (words ≡ codes "read" ∷ decimal id ∷ []) × (id < 2 ^ 32)
SpellsOp words (Op.Write id value) = (hex : List ℕ) × (words ≡ codes "write" ∷ decimal id ∷ hex ∷ []) × (id < 2 ^ 32) × IsHex hex value
SpellsOp words Op.Pad = words ≡ codes "pad" ∷ []

-- a line; `twin` and `op` are known in a twin input alone
abbrev pub Says : TextOf → List (List ℕ) → Said → Type 0
Says text words (Said.Tree l z b n k) = (words ≡ codes "tree" ∷ map decimal (l ∷ z ∷ b ∷ n ∷ k ∷ [])) × All (λ m. m < 2 ^ 32) (l ∷ z ∷ b ∷ n ∷ k ∷ [])
Says text words (Said.Form form) = words ≡ codes "form" ∷ form_word form ∷ []
Says text words (Said.Key bytes) = (hex : List ℕ) × (words ≡ codes "key" ∷ hex ∷ []) × IsHex hex bytes
Says text words Said.Seal = words ≡ codes "seal" ∷ []
Says text words (Said.Reopen bytes) = (hex : List ℕ) × (words ≡ codes "reopen" ∷ hex ∷ []) × IsHex hex bytes
Says text words (Said.Tape tape) = (words ≡ codes "tape" ∷ map decimal tape) × IsTape tape
Says text words (Said.Load entry) = (rest : List (List ℕ)) × (words ≡ codes "load" ∷ rest) × SpellsLoad rest entry
Says text words (Said.Step what) = SpellsStep words what
Says text words Said.Twin = (text ≡ TextOf.Twin) × (words ≡ codes "twin" ∷ [])
Says text words (Said.Op op) = (text ≡ TextOf.Twin) × ((rest : List (List ℕ)) × (words ≡ codes "op" ∷ rest) × SpellsOp rest op)

-- a word: printable bytes other than a space
pub record IsWord (word : List ℕ) : Type 0 where
  pub some : 0 < length word
  pub bytes : All (λ b. (33 ≤ b) × (b ≤ 126)) word

-- words joined by single spaces
abbrev pub spelled : List (List ℕ) → List ℕ
spelled ws = join_with_byte 32 ws

-- the same as a line of a text
abbrev pub spelled_line : List (List ℕ) → List ℕ
spelled_line ws = spelled ws ++ 10 ∷ []
