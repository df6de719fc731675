-- What an image holds after pieces of a line were appended.
use Rattle.std.proofs.Common.{◌≡◌, ℕ, ◌+◌, ◌≤◌, List, [], ◌∷◌, ◌++◌, length, take, drop, slice_index, ◌/◌, ◌%◌, refl, sym, ap, ◌∙◌, append_assoc, length-append, arith}
use Rattle.std.proofs.Math.Seq.{take-append_seam}
use Rattle.std.proofs.lemmas.List.{length-take, take-append-le, take-append-drop, take-take}
use Rattle.hex.specs.Hex.{encode_lower, encode_with, lower_digits}
use Rattle.tao_text.specs.Lines.{Extends}

-- an extension of an image and a piece extends the image
pub extends_through : (old piece new : List ℕ) → Extends (old ++ piece) new → Extends old new
extends_through old piece new h =
    let len : length (old ++ piece) ≡ length old + length piece = length-append old piece in
    let k : length old ≤ length (old ++ piece) = omega arith in
    let inner : take (length old) (take (length (old ++ piece)) new) ≡ take (length old) new = take-take (length old) (length (old ++ piece)) new k in
    sym inner ∙ ap (take (length old)) h ∙ take-append_seam old piece

-- one more piece extends it further
pub extends_further : (old image piece : List ℕ) → Extends old image → Extends old (image ++ piece)
extends_further old image piece h =
    let whole : length (take (length old) image) ≡ length old = ap length h in
    let fits : length old ≤ length image = omega (arith, length-take (length old) image) in
    take-append-le (length old) image piece fits ∙ h

encode_with-append : (t xs ys : List ℕ) → encode_with t (xs ++ ys) ≡ encode_with t xs ++ encode_with t ys
unfolding encode_with
encode_with-append t [] ys = refl
encode_with-append t (b ∷ xs) ys = ap (λ (rest : List ℕ). slice_index t (b / 16) ∷ slice_index t (b % 16) ∷ rest) (encode_with-append t xs ys)

-- the hex of a list is that of a prefix and that of the rest
hex_in_two : (n : ℕ) (xs : List ℕ) → encode_lower xs ≡ encode_lower (take n xs) ++ encode_lower (drop n xs)
hex_in_two n xs = ap encode_lower (sym (take-append-drop n xs)) ∙ encode_with-append lower_digits (take n xs) (drop n xs)

-- the hex of a prefix may be appended first
pub hex_goes_on : (n : ℕ) (out rest all : List ℕ) → out ++ encode_lower rest ≡ all → (out ++ encode_lower (take n rest)) ++ encode_lower (drop n rest) ≡ all
hex_goes_on n out rest all h = append_assoc out (encode_lower (take n rest)) (encode_lower (drop n rest)) ∙ ap (λ (text : List ℕ). out ++ text) (sym (hex_in_two n rest)) ∙ h
