-- Parsing a single line without its context: what it says, or the fault with the smallest number that its words have.
use Rattle.std.specs.Prelude.{ℕ, ◌==◌, ◌&&◌, nat_le, Bool, List, [], ◌∷◌, slice_index, codes, Option, Some, None, Result, Ok, Err, if◌then◌else◌}
use Rattle.std.specs.List.{list_all}
use Rattle.std.specs.Str.{bytes_eq}
use Rattle.tao_base.specs.declared.calls.Op.{Op}
use Rattle.tao_base.specs.declared.parameters.Form.{Form}
use Rattle.tao_base.specs.declared.parameters.Form.TheVariants.{One, Two, Turn}
use Rattle.tao_base.specs.declared.storage.Entry.{Entry}
use Rattle.tao_text.specs.declared.faults.TextKind.{TextKind}
use Rattle.tao_text.specs.declared.faults.TextKind.TheVariants.{NotText, Word}
use Rattle.tao_text.specs.declared.said.Said.{Said}
use Rattle.tao_text.specs.declared.script.What.{What}
use Rattle.tao_text.specs.declared.text.TextOf.{TextOf}
use Rattle.tao_text.specs.Values.{number_of, hex_of}
use Rattle.tao_text.specs.Words.{words}

infixl 10 ◌>>=◌
-- the next step, if the first gave a value
abbrev pub ◌>>=◌ : {A B : Type 0} → Result A TextKind → (A → Result B TextKind) → Result B TextKind
Ok x >>= f = f x
Err kind >>= f = Err kind

-- `tree L Z B N k`
unfoldable pub tree_line : List (List ℕ) → Result Said TextKind
tree_line (l ∷ z ∷ b ∷ n ∷ k ∷ []) = do
  l ← number_of l
  z ← number_of z
  b ← number_of b
  n ← number_of n
  k ← number_of k
  Ok (Said.Tree l z b n k)
tree_line _ = Err Word

-- the form that a word names, `1`, `2` or `turn`; any other word gives the fault Word
abbrev pub form_named : List ℕ → Result Form TextKind
form_named name =
    if bytes_eq name (codes "1") then Ok One
    else if bytes_eq name (codes "2") then Ok Two
    else if bytes_eq name (codes "turn") then Ok Turn
    else Err Word

-- `form 1`, `form 2` or `form turn`
unfoldable pub form_line : List (List ℕ) → Result Form TextKind
form_line (name ∷ []) = form_named name
form_line _ = Err Word

-- `key HEX` or `reopen HEX`
unfoldable pub value_line : List (List ℕ) → Result (List ℕ) TextKind
value_line (hex ∷ []) = hex_of hex
value_line _ = Err Word

-- what a word says that stands alone, as `seal`
unfoldable pub alone : {A : Type 0} → A → List (List ℕ) → Result A TextKind
alone x [] = Ok x
alone x (word ∷ words) = Err Word

-- the numbers that the words are, or the fault Number if one isn't
unfoldable pub numbers_of : List (List ℕ) → Result (List ℕ) TextKind
numbers_of [] = Ok []
numbers_of (word ∷ words) = do
  n ← number_of word
  ns ← numbers_of words
  Ok (n ∷ ns)

-- `tape W W ..`, one word or more
unfoldable pub tape_line : List (List ℕ) → Result (List ℕ) TextKind
tape_line [] = Err Word
tape_line (word ∷ words) = numbers_of (word ∷ words)

-- `load ID HEX`
unfoldable pub load_line : List (List ℕ) → Result Entry TextKind
load_line (id ∷ hex ∷ []) = do
  id ← number_of id
  value ← hex_of hex
  Ok (record { id = id; value = value })
load_line _ = Err Word

-- `C read ID`, from the client's word and those after `read`
unfoldable pub read_words : List ℕ → List (List ℕ) → Result (ℕ × Op) TextKind
read_words client (id ∷ []) = do
  client ← number_of client
  id ← number_of id
  Ok (client, Op.Read id)
read_words client _ = Err Word

-- `C write ID HEX`, from the client's word and those after `write`
unfoldable pub write_words : List ℕ → List (List ℕ) → Result (ℕ × Op) TextKind
write_words client (id ∷ hex ∷ []) = do
  client ← number_of client
  id ← number_of id
  value ← hex_of hex
  Ok (client, Op.Write id value)
write_words client _ = Err Word

-- `C pad`, from the client's word and those after `pad`, of which there must be none
unfoldable pub pad_words : List ℕ → List (List ℕ) → Result (ℕ × Op) TextKind
pad_words client [] = do
  client ← number_of client
  Ok (client, Op.Pad)
pad_words client (word ∷ words) = Err Word

-- after `do` or `a`: `C read ID`, `C write ID HEX` or `C pad`
unfoldable pub call_line : List (List ℕ) → Result (ℕ × Op) TextKind
call_line (client ∷ name ∷ words) =
    if bytes_eq name (codes "read") then read_words client words
    else if bytes_eq name (codes "write") then write_words client words
    else if bytes_eq name (codes "pad") then pad_words client words
    else Err Word
call_line _ = Err Word

-- `read I` or `read I D`
unfoldable pub read_line : List (List ℕ) → Result What TextKind
read_line (fetch ∷ []) = do
  fetch ← number_of fetch
  Ok (What.Read fetch None)
read_line (fetch ∷ depth ∷ []) = do
  fetch ← number_of fetch
  depth ← number_of depth
  Ok (What.Read fetch (Some depth))
read_line _ = Err Word

-- `put V` or `put V NODE`
unfoldable pub put_line : List (List ℕ) → Result What TextKind
put_line (version ∷ []) = do
  version ← number_of version
  Ok (What.Put version None)
put_line (version ∷ node ∷ []) = do
  version ← number_of version
  node ← number_of node
  Ok (What.Put version (Some node))
put_line _ = Err Word

-- `done I` or `ack V`
unfoldable pub number_line : List (List ℕ) → Result ℕ TextKind
number_line (number ∷ []) = number_of number
number_line _ = Err Word

-- a step, from its first word and those after it
unfoldable pub step_behind : List ℕ → List (List ℕ) → Result What TextKind
step_behind name words =
    if bytes_eq name (codes "do") then (call_line words >>= λ call. Ok (What.Do call.0 call.1))
    else if bytes_eq name (codes "a") then (call_line words >>= λ call. Ok (What.A call.0 call.1))
    else if bytes_eq name (codes "read") then read_line words
    else if bytes_eq name (codes "done") then (number_line words >>= λ fetch. Ok (What.Done fetch))
    else if bytes_eq name (codes "put") then put_line words
    else if bytes_eq name (codes "ack") then (number_line words >>= λ version. Ok (What.Ack version))
    else Err Word

-- after `op`: `read ID`, `write ID HEX` or `pad`
unfoldable pub op_line : List (List ℕ) → Result Op TextKind
op_line [] = Err Word
op_line (name ∷ words) =
    if bytes_eq name (codes "read") then (number_line words >>= λ id. Ok (Op.Read id))
    else if bytes_eq name (codes "write") then (load_line words >>= λ entry. Ok (Op.Write entry.id entry.value))
    else if bytes_eq name (codes "pad") then alone Op.Pad words
    else Err Word

-- a line that all texts know, from its first word and those after it
unfoldable pub said_behind : List ℕ → List (List ℕ) → Result Said TextKind
said_behind name words =
    if bytes_eq name (codes "tree") then tree_line words
    else if bytes_eq name (codes "form") then (form_line words >>= λ form. Ok (Said.Form form))
    else if bytes_eq name (codes "key") then (value_line words >>= λ bytes. Ok (Said.Key bytes))
    else if bytes_eq name (codes "seal") then alone Said.Seal words
    else if bytes_eq name (codes "reopen") then (value_line words >>= λ bytes. Ok (Said.Reopen bytes))
    else if bytes_eq name (codes "tape") then (tape_line words >>= λ tape. Ok (Said.Tape tape))
    else if bytes_eq name (codes "load") then (load_line words >>= λ entry. Ok (Said.Load entry))
    else (step_behind name words >>= λ what. Ok (Said.Step what))

-- a line of a twin input
unfoldable pub twin_behind : List ℕ → List (List ℕ) → Result Said TextKind
twin_behind name words =
    if bytes_eq name (codes "twin") then alone Said.Twin words
    else if bytes_eq name (codes "op") then (op_line words >>= λ op. Ok (Said.Op op))
    else said_behind name words

-- a line of a kind of text
unfoldable pub line_behind : TextOf → List ℕ → List (List ℕ) → Result Said TextKind
line_behind TextOf.Script name words = said_behind name words
line_behind TextOf.Twin name words = twin_behind name words
line_behind TextOf.Ops name words = said_behind name words
line_behind TextOf.Store name words = said_behind name words

-- all bytes are printable
unfoldable pub is_text : List ℕ → Bool
is_text line = list_all (λ b. nat_le 32 b && nat_le b 126) line

-- None without words or for a comment
abbrev pub words_said : TextOf → List (List ℕ) → Result (Option Said) TextKind
words_said text [] = Ok None
words_said text (name ∷ words) = if slice_index name 0 == 35 then Ok None else (line_behind text name words >>= λ said. Ok (Some said))

-- what a line says, unless it is skipped
unfoldable pub line_said : TextOf → List ℕ → Result (Option Said) TextKind
line_said text line = if is_text line then words_said text (words line) else Err NotText
