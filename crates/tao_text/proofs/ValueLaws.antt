-- Numbers are read from decimal, and bytes from hex.
use Rattle.std.proofs.Common.{◌≡◌, ◌≢◌, ◌↔◌, ℕ, ◌%◌, ◌^◌, true, List, length, get_or, Option, Some, None, Result, Ok, Err, is_ok, refl, sym, ap, ◌∙◌, arith}
use Rattle.std.specs.Char.{is_ascii_hexdigit}
use Rattle.std.specs.List.{list_all}
use Rattle.std.specs.Option.{ok_or}
use Rattle.std.proofs.lemmas.List.Sums.{AllPass-from_list_all, list_all-from_AllPass}
use Rattle.hex.specs.Hex.{decode_of, is_hex_digit}
use Rattle.hex.specs.declared.error.FromHexError.{FromHexError}
use Rattle.hex.proofs.HexLemmas.{decode_of-digits, decode_of-ok}
use Rattle.tao_text.specs.declared.faults.TextKind.{TextKind}
use Rattle.tao_text.specs.declared.faults.TextKind.TheVariants.{Number, Hex}
use Rattle.tao_text.specs.Spelling.{IsNumber, IsHex}
use Rattle.tao_text.specs.Values.{number_below, number_of, hex_of, or_no_hex}
use Rattle.tao_text.proofs.HexCase.{in_lower, from_lower}
use Rattle.tao_text.proofs.Numbers.{number_found, number_only}

some_number : (o : Option ℕ) (n : ℕ) → ok_or o Number ≡ Ok n → o ≡ Some n
some_number (Some m) n h = cc h
some_number None n h = cc h

pub number_is : (word : List ℕ) (n : ℕ) → number_of word ≡ Ok n → IsNumber word n
unfolding number_of
number_is word n h = number_found (2 ^ 32) word n (some_number (number_below (2 ^ 32) word) n h)

pub number_reads : (word : List ℕ) (n : ℕ) → IsNumber word n → number_of word ≡ Ok n
unfolding number_of
number_reads word n is = ap (λ (o : Option ℕ). ok_or o Number) (number_only (2 ^ 32) word n (omega arith) is.0 is.1)

only_number : (o : Option ℕ) (kind : TextKind) → ok_or o Number ≡ Err kind → kind ≡ Number
only_number (Some m) kind h = cc h
only_number None kind h = cc h

pub no_number_fault : (word : List ℕ) (kind : TextKind) → number_of word ≡ Err kind → kind ≡ Number
unfolding number_of
no_number_fault word kind h = only_number (number_below (2 ^ 32) word) kind h

ok_bytes : (r : Result (List ℕ) FromHexError) (bytes : List ℕ) → or_no_hex r ≡ Ok bytes → r ≡ Ok bytes
ok_bytes (Ok xs) bytes h = cc h
ok_bytes (Err e) bytes h = cc h

pub hex_is : (word bytes : List ℕ) → hex_of word ≡ Ok bytes → IsHex word bytes
unfolding hex_of
hex_is word bytes h = in_lower word bytes (ok_bytes (decode_of word) bytes h)

pub hex_reads : (word bytes : List ℕ) → IsHex word bytes → hex_of word ≡ Ok bytes
unfolding hex_of
hex_reads word bytes is = ap or_no_hex (from_lower word bytes is.0 is.1)

only_hex : (r : Result (List ℕ) FromHexError) (kind : TextKind) → or_no_hex r ≡ Err kind → kind ≡ Hex
only_hex (Ok xs) kind h = cc h
only_hex (Err e) kind h = cc h

pub no_hex_fault : (word : List ℕ) (kind : TextKind) → hex_of word ≡ Err kind → kind ≡ Hex
unfolding hex_of
no_hex_fault word kind h = only_hex (decode_of word) kind h

-- a word is hex if it has an even number of digits

same_digits : (c : ℕ) → is_ascii_hexdigit c ≡ is_hex_digit c
same_digits c = grind (arith)

some_bytes : (r : Result (List ℕ) FromHexError) → is_ok (or_no_hex r) ≡ true → (bytes : List ℕ) × (r ≡ Ok bytes)
some_bytes (Ok bytes) h = (bytes, refl)
some_bytes (Err e) h = cc h

pub even_hex : (word : List ℕ) → length word % 2 ≡ 0 → (list_all is_ascii_hexdigit word ≡ true) ↔ (is_ok (hex_of word) ≡ true)
unfolding hex_of
even_hex word even = (
  λ h.
      let digits = AllPass-from_list_all is_ascii_hexdigit word h in
      let bytes = decode_of-digits word even (λ k d lt. sym (same_digits (get_or word k d)) ∙ digits k d lt) in
      ap (λ (r : Result (List ℕ) FromHexError). is_ok (or_no_hex r)) bytes.1,
  λ h.
      let bytes = some_bytes (decode_of word) h in
      list_all-from_AllPass is_ascii_hexdigit word (λ k d lt. same_digits (get_or word k d) ∙ (decode_of-ok word bytes.0 bytes.1).1 k d lt),
)

pub odd_hex : (word : List ℕ) → length word % 2 ≢ 0 → ¬ (is_ok (hex_of word) ≡ true)
unfolding hex_of
odd_hex word odd h = let bytes = some_bytes (decode_of word) h in odd (decode_of-ok word bytes.0 bytes.1).0
