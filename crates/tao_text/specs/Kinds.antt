-- The names of the faults of a text.
use Rattle.std.specs.Prelude.{ℕ, List, ◌++◌, codes, decimal}
use Rattle.tao_text.specs.declared.faults.TextKind.{TextKind}
use Rattle.tao_text.specs.declared.faults.TextKind.TheVariants.{NotText, Word, Number, Hex, Length, Range, Order, TapeShort, TooLong, Memory}

-- the name of a kind of fault
abbrev pub kind_name : TextKind → List ℕ
kind_name NotText = codes "NotText"
kind_name Word = codes "Word"
kind_name Number = codes "Number"
kind_name Hex = codes "Hex"
kind_name Length = codes "Length"
kind_name Range = codes "Range"
kind_name Order = codes "Order"
kind_name TapeShort = codes "TapeShort"
kind_name TooLong = codes "TooLong"
kind_name Memory = codes "Memory"

-- a fault as it is printed: `line LINE: KIND`
abbrev pub fault_text : ℕ → TextKind → List ℕ
fault_text line kind = codes "line " ++ decimal line ++ codes ": " ++ kind_name kind

-- of several kinds the one with the smallest number is reported
abbrev pub kind_number : TextKind → ℕ
kind_number NotText = 1
kind_number Word = 2
kind_number Number = 3
kind_number Hex = 4
kind_number Length = 5
kind_number Range = 6
kind_number Order = 7
kind_number TapeShort = 8
kind_number TooLong = 9
kind_number Memory = 10
