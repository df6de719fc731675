-- The header of a bucket, taken apart and put together.
use Rattle.std.proofs.Common.{◌≡◌, ℕ, ◌+◌, ◌^◌, ◌<◌, ◌≤◌, List, [], ◌∷◌, ◌++◌, length, get_or, take, drop, refl, sym, ap₂, ◌∙◌, arith}
use Rattle.std.specs.Int.{w32, w64, to_be_bytes, from_be_bytes}
use Rattle.std.proofs.lemmas.Nat.{be_bytes_4, be_bytes_8, from_be_bytes-to_be_bytes_4, from_be_bytes-to_be_bytes_8}
use Rattle.std.proofs.lemmas.List.{length-take-le, length-drop}
use Rattle.tao_base.specs.Links.{header_node}
use Rattle.tao_bucket.specs.Encoding.{header}
use Rattle.tao_bucket.specs.Reading.{header_version, header_nonce}
use Rattle.tao_bucket.proofs.Pieces.{take_parts}
use Rattle.tao_bucket.proofs.Taken.{IsBytes, bytes_take, bytes_drop}

first_four : (bytes : List ℕ) → 4 ≤ length bytes → take 4 bytes ≡ get_or bytes 0 0 ∷ get_or bytes 1 0 ∷ get_or bytes 2 0 ∷ get_or bytes 3 0 ∷ []
first_four [] h = absurd (omega arith)
first_four (a ∷ []) h = absurd (omega arith)
first_four (a ∷ b ∷ []) h = absurd (omega arith)
first_four (a ∷ b ∷ c ∷ []) h = absurd (omega arith)
first_four (a ∷ b ∷ c ∷ d ∷ rest) h = refl

number_4 : (n : ℕ) (bytes : List ℕ) → IsBytes bytes → n + 4 ≤ length bytes → to_be_bytes w32 (from_be_bytes w32 (take 4 (drop n bytes))) ≡ take 4 (drop n bytes)
number_4 n bytes fit long =
    be_bytes_4 (take 4 (drop n bytes)) _ (length-take-le 4 (drop n bytes) (omega (arith, length-drop n bytes))) (bytes_take 4 (drop n bytes) (bytes_drop n bytes fit)) refl

number_8 : (n : ℕ) (bytes : List ℕ) → IsBytes bytes → n + 8 ≤ length bytes → to_be_bytes w64 (from_be_bytes w64 (take 8 (drop n bytes))) ≡ take 8 (drop n bytes)
number_8 n bytes fit long =
    be_bytes_8 (take 8 (drop n bytes)) _ (length-take-le 8 (drop n bytes) (omega (arith, length-drop n bytes))) (bytes_take 8 (drop n bytes) (bytes_drop n bytes fit)) refl

-- the first 20 bytes are the header of what they say
pub header_taken : (format : ℕ) (bytes : List ℕ) → IsBytes bytes → 20 ≤ length bytes → get_or bytes 0 0 ≡ format → get_or bytes 1 0 ≡ 0 → get_or bytes 2 0 ≡ 0 → get_or bytes 3 0 ≡ 0
    → take 20 bytes ≡ header format (header_node bytes) (header_version bytes) (header_nonce bytes)
header_taken format bytes fit long f p q r =
    let four : take 4 bytes ≡ format ∷ 0 ∷ 0 ∷ 0 ∷ [] = first_four bytes (omega arith) ∙ cc in
    let join = λ (xs ys : List ℕ). xs ++ ys in
    take_parts 12 8 bytes
    ∙ ap₂ join
    (take_parts 8 4 bytes
    ∙ ap₂ join (take_parts 4 4 bytes ∙ ap₂ join four (sym (number_4 4 bytes fit (omega arith)))) (sym (number_4 8 bytes fit (omega arith))))
    (sym (number_8 12 bytes fit (omega arith)))

below_4 : (bytes : List ℕ) → IsBytes bytes → from_be_bytes w32 bytes < 2 ^ 32
below_4 bytes fit = omega (arith, fit 0, fit 1, fit 2, fit 3)

below_8 : (bytes : List ℕ) → IsBytes bytes → from_be_bytes w64 bytes < 2 ^ 64
below_8 bytes fit = omega (arith, fit 0, fit 1, fit 2, fit 3, fit 4, fit 5, fit 6, fit 7)

pub node_below : (bytes : List ℕ) → IsBytes bytes → header_node bytes < 2 ^ 32
node_below bytes fit = below_4 (take 4 (drop 4 bytes)) (bytes_take 4 (drop 4 bytes) (bytes_drop 4 bytes fit))

pub version_below : (bytes : List ℕ) → IsBytes bytes → header_version bytes < 2 ^ 32
version_below bytes fit = below_4 (take 4 (drop 8 bytes)) (bytes_take 4 (drop 8 bytes) (bytes_drop 8 bytes fit))

pub nonce_below : (bytes : List ℕ) → IsBytes bytes → header_nonce bytes < 2 ^ 64
nonce_below bytes fit = below_8 (take 8 (drop 12 bytes)) (bytes_take 8 (drop 12 bytes) (bytes_drop 12 bytes fit))

-- a header gives its numbers again
pub node_again : (format node version nonce : ℕ) (rest : List ℕ) → node < 2 ^ 32 → header_node (header format node version nonce ++ rest) ≡ node
node_again format node version nonce rest small = from_be_bytes-to_be_bytes_4 node small

pub version_again : (format node version nonce : ℕ) (rest : List ℕ) → version < 2 ^ 32 → header_version (header format node version nonce ++ rest) ≡ version
version_again format node version nonce rest small = from_be_bytes-to_be_bytes_4 version small

pub nonce_again : (format node version nonce : ℕ) (rest : List ℕ) → nonce < 2 ^ 64 → header_nonce (header format node version nonce ++ rest) ≡ nonce
nonce_again format node version nonce rest small = from_be_bytes-to_be_bytes_8 nonce small
