-- Words as numbers and as bytes.
use Rattle.std.specs.Prelude.{◌≡◌, ◌⊎◌, ℕ, ◌^◌, ◌&&◌, nat_lt, List, Option, Some, None, Result, Ok, Err, if◌then◌else◌, decimal}
use Rattle.std.specs.Option.{ok_or}
use Rattle.std.specs.Str.{bytes_eq}
use Rattle.std.specs.Str.Parse.{digits_value}
use Rattle.hex.specs.Hex.{decode_of}
use Rattle.hex.specs.declared.error.FromHexError.{FromHexError}
use Rattle.tao_text.specs.declared.faults.TextKind.{TextKind}
use Rattle.tao_text.specs.declared.faults.TextKind.TheVariants.{Number, Hex, Memory}

-- the number below the limit that the word is in decimal
unfoldable pub number_below : ℕ → List ℕ → Option ℕ
number_below limit word = let n = digits_value 10 word in if bytes_eq word (decimal n) && nat_lt n limit then Some n else None

-- a Number is below 2 ^ 32
unfoldable pub number_of : List ℕ → Result ℕ TextKind
number_of word = ok_or (number_below (2 ^ 32) word) Number

-- the bytes, or the fault Hex for any decoding error
abbrev pub or_no_hex : Result (List ℕ) FromHexError → Result (List ℕ) TextKind
or_no_hex (Ok bytes) = Ok bytes
or_no_hex (Err e) = Err Hex

-- the bytes whose hex the word is, in either case
unfoldable pub hex_of : List ℕ → Result (List ℕ) TextKind
hex_of word = or_no_hex (decode_of word)

-- a function returns what is read, or memory ran out
abbrev pub Gives : {X Y : Type 0} → (X → Y) → Result X TextKind → Result Y TextKind → Type 0
Gives view (Ok x) read = read ≡ Ok (view x)
Gives view (Err kind) read = (kind ≡ Memory) ⊎ (read ≡ Err kind)

-- the same for a function that takes no memory
abbrev pub Reads : {X Y : Type 0} → (X → Y) → Result X TextKind → Result Y TextKind → Type 0
Reads view (Ok x) read = read ≡ Ok (view x)
Reads view (Err kind) read = read ≡ Err kind
