-- Hex in either case: what decodes to some bytes is, in lower case, their lower-case hex.
use Rattle.std.proofs.Common.{◌≡◌, ◌==◌, ℕ, zero, suc, ◌+◌, ◌*◌, ◌/◌, ◌%◌, ◌<◌, ◌≤◌, ◌&&◌, inl, inr, Bool, true, List, [], ◌∷◌, length, map, slice_index, Option, Some, None, Result, Ok, Err, refl, sym, ap, subst, ◌∙◌, arith}
use Rattle.std.specs.Char.{to_ascii_lowercase}
use Rattle.std.specs.Str.{str_to_ascii_lowercase}
use Rattle.std.proofs.lemmas.Bool.{and_parts, cases_lt, eqb-true}
use Rattle.std.proofs.lemmas.List.{length-map}
use Rattle.std.proofs.lemmas.Str.Ascii.{lowercase_is}
use Rattle.hex.specs.Hex.{IsBytes, decode_of, decode_pairs, digit_or_error, hex_digit_value, encode_lower, encode_with, lower_digits, pair_value, value_at, ◌>>=◌}
use Rattle.hex.specs.declared.error.FromHexError.{FromHexError}
use Rattle.hex.proofs.HexLemmas.{IsDigits-lower_digits, decode_of-even, decode_of-ok, length-encode_with}
use Rattle.hex.proofs.Pairs.{decode_pairs-ok_pair, cons_byte}

-- the value of a hex digit is the place of its lower case in the table
abbrev same_digit : ℕ → Option ℕ → Bool
same_digit c None = true
same_digit c (Some v) = to_ascii_lowercase c == slice_index lower_digits v

-- each character below n
abbrev all_same : ℕ → Bool
all_same zero = true
all_same (suc n) = same_digit n (hex_digit_value n) && all_same n

all_same-at : (n c : ℕ) → all_same n ≡ true → c < n → same_digit c (hex_digit_value c) ≡ true
all_same-at zero c h lt = absurd (omega arith)
all_same-at (suc n) c h lt =
    let parts = and_parts (same_digit n (hex_digit_value n)) (all_same n) h in
    elim (cases_lt c n) [
      | inl below ↦ all_same-at n c parts.1 below
      | inr top ↦
          let e : c ≡ n = omega arith in
          rw e parts.0
    ]

digit_small : (c v : ℕ) → hex_digit_value c ≡ Some v → c < 103
digit_small c v h = grind (arith)

pub lower_digit : (c v : ℕ) → hex_digit_value c ≡ Some v → to_ascii_lowercase c ≡ slice_index lower_digits v
lower_digit c v h =
    let test : same_digit c (Some v) ≡ true = ap (same_digit c) (sym h) ∙ all_same-at 103 c refl (digit_small c v h) in
    eqb-true (to_ascii_lowercase c) (slice_index lower_digits v) test

raised : (c d : ℕ) → 65 ≤ c → c ≤ 90 → hex_digit_value (c + 32) ≡ Some d → hex_digit_value c ≡ Some d
raised c d low high h = grind arith

lower_value : (c d : ℕ) → hex_digit_value (to_ascii_lowercase c) ≡ Some d → hex_digit_value c ≡ Some d
lower_value c d h =
    elim (cases_lt c 65) [
      | inl below ↦ subst (λ (x : ℕ). hex_digit_value x ≡ Some d) ((lowercase_is c).1 below) h
      | inr from ↦ elim (cases_lt 90 c) [
        | inl above ↦ subst (λ (x : ℕ). hex_digit_value x ≡ Some d) ((lowercase_is c).2 above) h
        | inr to ↦ raised c d from to (subst (λ (x : ℕ). hex_digit_value x ≡ Some d) ((lowercase_is c).0 (from, to)) h)
      ]
    ]

digit_of_lower : (c d : ℕ) → d < 16 → to_ascii_lowercase c ≡ slice_index lower_digits d → hex_digit_value c ≡ Some d
digit_of_lower c d small same = lower_value c d (ap hex_digit_value same ∙ IsDigits-lower_digits d small)

bind_ok : {A B : Type 0} (r : Result A FromHexError) (f : A → Result B FromHexError) (y : B) → (r >>= f) ≡ Ok y → (x : A) × (r ≡ Ok x) × (f x ≡ Ok y)
bind_ok (Ok x) f y h = (x, refl, h)
bind_ok (Err e) f y h = cc h

digit_read : (c i : ℕ) (o : Option ℕ) (v : ℕ) → digit_or_error c i o ≡ Ok v → o ≡ Some v
digit_read c i (Some w) v h = cc h
digit_read c i None v h = cc h

ok_list : (xs ys : List ℕ) → ◌≡◌ {A = Result (List ℕ) FromHexError} (Ok xs) (Ok ys) → xs ≡ ys
ok_list xs ys h = cc h

ok_number : (x y : ℕ) → ◌≡◌ {A = Result ℕ FromHexError} (Ok x) (Ok y) → x ≡ y
ok_number x y h = cc h

small_value : (c v : ℕ) → hex_digit_value c ≡ Some v → v < 16
small_value c v h = grind arith

-- what decodes, in lower case
pairs_in_lower : (i : ℕ) (word bytes : List ℕ) → decode_pairs i word ≡ Ok bytes → map to_ascii_lowercase word ≡ encode_with lower_digits bytes
unfolding decode_pairs encode_with
pairs_in_lower i [] bytes h = rw (sym (ok_list [] bytes h)) refl
pairs_in_lower i (a ∷ []) bytes h = cc h
pairs_in_lower i (a ∷ b ∷ rest) bytes h =
    let pair = bind_ok (pair_value a b i) (λ byte. decode_pairs (i + 2) rest >>= λ more. Ok (byte ∷ more)) bytes h in
    let high = bind_ok (value_at a i) (λ h. value_at b (i + 1) >>= λ l. Ok (h * 16 + l)) pair.0 pair.1 in
    let low = bind_ok (value_at b (i + 1)) (λ l. Ok (high.0 * 16 + l)) pair.0 high.2 in
    let more = bind_ok (decode_pairs (i + 2) rest) (λ more. Ok (pair.0 ∷ more)) bytes pair.2 in
    let a_is = digit_read a i (hex_digit_value a) high.0 high.1 in
    let b_is = digit_read b (i + 1) (hex_digit_value b) low.0 low.1 in
    let a_small = small_value a high.0 a_is in
    let b_small = small_value b low.0 b_is in
    let byte : high.0 * 16 + low.0 ≡ pair.0 = ok_number (high.0 * 16 + low.0) pair.0 low.2 in
    let first : pair.0 / 16 ≡ high.0 = omega arith in
    let second : pair.0 % 16 ≡ low.0 = omega arith in
    let all : pair.0 ∷ more.0 ≡ bytes = ok_list (pair.0 ∷ more.0) bytes more.2 in
    let tail = pairs_in_lower (i + 2) rest more.0 more.1 in
    rw (sym all) (rw (lower_digit a high.0 a_is, lower_digit b low.0 b_is, first, second, tail) refl)

-- what is some bytes' hex in lower case decodes to them
pairs_from_lower : (i : ℕ) (word bytes : List ℕ) → IsBytes bytes → map to_ascii_lowercase word ≡ encode_with lower_digits bytes → decode_pairs i word ≡ Ok bytes
unfolding decode_pairs encode_with
pairs_from_lower i [] [] small h = refl
pairs_from_lower i [] (x ∷ xs) small h = cc h
pairs_from_lower i (a ∷ []) [] small h = cc h
pairs_from_lower i (a ∷ []) (x ∷ xs) small h = absurd cc
pairs_from_lower i (a ∷ b ∷ rest) [] small h = cc h
pairs_from_lower i (a ∷ b ∷ rest) (x ∷ xs) small h =
    let fits : x < 256 = small 0 in
    let a_low : to_ascii_lowercase a ≡ slice_index lower_digits (x / 16) = cc in
    let b_low : to_ascii_lowercase b ≡ slice_index lower_digits (x % 16) = cc in
    let tail_low : map to_ascii_lowercase rest ≡ encode_with lower_digits xs = cc in
    let ha : value_at a i ≡ Ok (x / 16) = ap (digit_or_error a i) (digit_of_lower a (x / 16) (omega arith) a_low) in
    let hb : value_at b (i + 1) ≡ Ok (x % 16) = ap (digit_or_error b (i + 1)) (digit_of_lower b (x % 16) (omega arith) b_low) in
    let pair : pair_value a b i ≡ Ok (x / 16 * 16 + x % 16) = rw (ha, hb) refl in
    let whole : x / 16 * 16 + x % 16 ≡ x = omega arith in
    decode_pairs-ok_pair i a b (x / 16 * 16 + x % 16) rest pair ∙ ap (cons_byte (x / 16 * 16 + x % 16)) (pairs_from_lower (i + 2) rest xs (λ k. small (suc k)) tail_low) ∙ ap (λ (v : ℕ). Ok (v ∷ xs)) whole

pub in_lower : (word bytes : List ℕ) → decode_of word ≡ Ok bytes → (str_to_ascii_lowercase word ≡ encode_lower bytes) × IsBytes bytes
in_lower word bytes h =
    let ok = decode_of-ok word bytes h in
    (pairs_in_lower 0 word bytes (sym (decode_of-even word ok.0) ∙ h), ok.3)

pub from_lower : (word bytes : List ℕ) → str_to_ascii_lowercase word ≡ encode_lower bytes → IsBytes bytes → decode_of word ≡ Ok bytes
from_lower word bytes same small =
    let long : length word ≡ 2 * length bytes = sym (length-map word to_ascii_lowercase) ∙ ap length same ∙ length-encode_with lower_digits bytes in
    decode_of-even word (omega arith) ∙ pairs_from_lower 0 word bytes small same
