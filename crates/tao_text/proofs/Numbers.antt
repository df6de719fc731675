-- Which words are numbers, and which number.
use Rattle.std.proofs.Common.{◌≡◌, ℕ, ◌^◌, ◌<◌, ◌≤◌, ◌&&◌, Bool, true, false, nat_lt, List, [], ◌∷◌, length, get_or, Option, Some, None, Result, Ok, Err, refl, sym, ap, subst, ◌∙◌, arith, inl, inr}
use Rattle.std.specs.Prelude.{decimal}
use Rattle.std.specs.Option.{ok_or}
use Rattle.std.specs.Result.{result_ok}
use Rattle.std.specs.Str.{bytes_eq, IsUtf8}
use Rattle.std.specs.Str.Parse.{digits_value, ParsesUnsigned, AllDigits}
use Rattle.std.proofs.lemmas.Bool.{and_parts, cases_lt, false_from_ne_true, ltb-true, lt-ltb}
use Rattle.std.proofs.lemmas.Fmt.{decimal_is_IsNumeral, decimal-digits_value, decimal_digit, decimal_nonempty, first_decimal, IsAscii-decimal}
use Rattle.std.proofs.lemmas.Option.{cond_some, none-some, same_Some}
use Rattle.std.proofs.lemmas.Str.{IsUtf8-from_ascii}
use Rattle.std.proofs.lemmas.Str.Parse.{numerals_by_value, tells_digits, parse_plain, digit_at, IsNumeralModel}
use Rattle.std.proofs.lemmas.Slice.Eq.{bytes_eq-Decides}
use Rattle.tao_text.specs.Values.{number_below, number_of}
use Rattle.tao_text.specs.declared.faults.TextKind.TheVariants.{Number}

-- a word is the decimal form of the number that is read
pub number_found : (limit : ℕ) (word : List ℕ) (n : ℕ) → number_below limit word ≡ Some n → (word ≡ decimal n) × (n < limit)
unfolding number_below
number_found limit word n h =
    let value = digits_value 10 word in
    let parts = cond_some (bytes_eq word (decimal value) && nat_lt value limit) value n h in
    let both = and_parts (bytes_eq word (decimal value)) (nat_lt value limit) parts.0 in
    let spelled : word ≡ decimal value = (bytes_eq-Decides word (decimal value)).0 both.0 in
    let small : value < limit = ltb-true value limit both.1 in
    (spelled ∙ ap decimal parts.1, omega (arith, parts.1))

-- and the decimal form of a number is read as it
pub number_only : (limit : ℕ) (word : List ℕ) (n : ℕ) → limit ≤ 2 ^ 64 → word ≡ decimal n → n < limit → number_below limit word ≡ Some n
unfolding number_below
number_only limit word n most spelled small =
    let wide : n < 2 ^ 64 = omega arith in
    let value : digits_value 10 word ≡ n = ap (digits_value 10) spelled ∙ (decimal_is_IsNumeral n wide).1 in
    let same : bytes_eq word (decimal n) ≡ true = (bytes_eq-Decides word (decimal n)).1 spelled in
    rw (value, same, lt-ltb n limit small) refl

-- a word that isn't the decimal form of any number gives none
none_spelled : (limit : ℕ) (word : List ℕ) → ((n : ℕ) → n < limit → word ≡ decimal n → ⊥) → number_below limit word ≡ None
unfolding number_below
none_spelled limit word never =
    let value = digits_value 10 word in
    let test : Bool = bytes_eq word (decimal value) && nat_lt value limit in
    let fails : test ≡ false = false_from_ne_true test (λ passes.
    let both = and_parts (bytes_eq word (decimal value)) (nat_lt value limit) passes in
    never value (ltb-true value limit both.1) ((bytes_eq-Decides word (decimal value)).0 both.0)) in
    rw fails refl

-- the first digit of a number, and how many there are if it is zero
record IsPlain (word : List ℕ) : Type 0 where
  some : 0 < length word
  digit_low : 48 ≤ get_or word 0 0
  digit_high : get_or word 0 0 ≤ 57
  one_zero : get_or word 0 0 ≡ 48 → length word ≡ 1

plain : (n : ℕ) → n < 2 ^ 64 → IsPlain (decimal n)
plain n small =
    let some = decimal_nonempty n small in
    let digit = digit_at (decimal n) 0 (decimal_is_IsNumeral n small).0.1 some in
    record {
      some = some;
      digit_low = omega (arith, digit);
      digit_high = omega (arith, digit);
      one_zero = λ zero.
          elim (cases_lt 0 n) [
            | inl more ↦ absurd (omega (arith, first_decimal n more small))
            | inr none ↦
                let e : n ≡ 0 = omega arith in
                rw e (ap length (decimal_digit 0 (omega arith)))
          ];
    }

no_number : (word : List ℕ) → (IsPlain word → ⊥) → number_below (2 ^ 64) word ≡ None
no_number word not_plain = none_spelled (2 ^ 64) word (λ n small spelled. not_plain (subst IsPlain (sym spelled) (plain n small)))

pub none_empty : (word : List ℕ) → length word ≡ 0 → number_below (2 ^ 64) word ≡ None
none_empty word h = no_number word (λ is. omega (arith, is.some))

pub none_plus : (word : List ℕ) → get_or word 0 0 ≡ 43 → number_below (2 ^ 64) word ≡ None
none_plus word h = no_number word (λ is. omega (arith, is.digit_low))

pub none_zeros : (word : List ℕ) → get_or word 0 0 ≡ 48 → (length word ≡ 1 → ⊥) → number_below (2 ^ 64) word ≡ None
none_zeros word h more = no_number word (λ is. more (is.one_zero h))

pub none_no_text : (word : List ℕ) → (IsUtf8 word → ⊥) → number_below (2 ^ 64) word ≡ None
none_no_text word h =
    none_spelled (2 ^ 64) word (λ n small spelled. h (subst IsUtf8 (sym spelled) (IsUtf8-from_ascii (decimal n) (IsAscii-decimal n small))))

own : IsNumeralModel (AllDigits 10) (digits_value 10)
own = numerals_by_value (AllDigits 10) tells_digits

-- what `parse` reads, but for a plus and leading zeros
pub parsed : {E : Type 0} (word : List ℕ) (r : Result ℕ E) → ParsesUnsigned 64 10 word r → (get_or word 0 0 ≡ 43 → ⊥) → (get_or word 0 0 ≡ 48 → ⊥) → result_ok r ≡ number_below (2 ^ 64) word
parsed {E} word (Ok n) h no_plus no_zero =
    let is : (AllDigits 10 word × (0 < length word) × (digits_value 10 word < 2 ^ 64)) × (n ≡ digits_value 10 word) = parse_plain own {E = E} 64 word (Ok n) h no_plus in
    let spelled : decimal (digits_value 10 word) ≡ word = decimal-digits_value own word is.0.0 is.0.1 (λ zero. absurd (no_zero zero)) is.0.2 in
    let small : n < 2 ^ 64 = omega (arith, is.1, is.0.2) in
    sym (number_only (2 ^ 64) word n (omega arith) (sym spelled ∙ ap decimal (sym is.1)) small)
parsed {E} word (Err e) h no_plus no_zero =
    let is : (AllDigits 10 word × (0 < length word) × (digits_value 10 word < 2 ^ 64)) → ⊥ = parse_plain own {E = E} 64 word (Err e) h no_plus in
    sym (none_spelled (2 ^ 64) word (λ n small spelled.
    let numeral = decimal_is_IsNumeral n small in
    let value : digits_value 10 (decimal n) < 2 ^ 64 = omega (arith, numeral.1) in
    is (subst (λ (w : List ℕ). AllDigits 10 w × (0 < length w) × (digits_value 10 w < 2 ^ 64)) (sym spelled) (numeral.0.1, numeral.0.0, value))))

pub zero_alone : (word : List ℕ) → get_or word 0 0 ≡ 48 → length word ≡ 1 → number_below (2 ^ 64) word ≡ Some 0
zero_alone [] h len = absurd (omega arith)
zero_alone (b ∷ []) h len = number_only (2 ^ 64) (b ∷ []) 0 (omega arith) (ap (λ (x : ℕ). x ∷ []) h ∙ sym (decimal_digit 0 (omega arith))) (omega arith)
zero_alone (b ∷ d ∷ bytes) h len = absurd (omega arith)

-- when a 64-bit number is a Number
pub number_small : (word : List ℕ) (n : ℕ) → number_below (2 ^ 64) word ≡ Some n → n < 2 ^ 32 → number_of word ≡ Ok n
unfolding number_of
number_small word n h small = ap (λ (o : Option ℕ). ok_or o Number) (number_only (2 ^ 32) word n (omega arith) (number_found (2 ^ 64) word n h).0 small)

none_small : (word : List ℕ) → ((n : ℕ) → number_below (2 ^ 64) word ≡ Some n → 2 ^ 32 ≤ n) → number_of word ≡ Err Number
unfolding number_of
none_small word large = ap (λ (o : Option ℕ). ok_or o Number) (none_spelled (2 ^ 32) word (λ n small spelled.
    omega (arith, large n (number_only (2 ^ 64) word n (omega arith) spelled (omega arith)))))

pub number_large : (word : List ℕ) (n : ℕ) → number_below (2 ^ 64) word ≡ Some n → (n < 2 ^ 32 → ⊥) → number_of word ≡ Err Number
number_large word n h large = none_small word (λ m e. let same : n ≡ m = same_Some n m (sym h ∙ e) in omega (arith, large))

pub number_none : (word : List ℕ) → number_below (2 ^ 64) word ≡ None → number_of word ≡ Err Number
number_none word h = none_small word (λ m e. absurd (none-some m (sym h ∙ e)))
