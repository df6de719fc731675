-- Images of buckets that are written one behind another.
use Rattle.std.proofs.Common.{◌≡◌, ℕ, zero, suc, ◌+◌, ◌-◌, ◌*◌, ◌<◌, ◌≤◌, List, [], ◌∷◌, ◌++◌, length, get_or, take, drop, sym, ap, ap₂, ◌∙◌, arith}
use Rattle.std.specs.Int.{w32, from_be_bytes}
use Rattle.std.specs.List.{flat_map, AllByRecursion}
use Rattle.std.proofs.lemmas.List.{take_at, drop_at, drop-drop, drop-take, take-take, length-append}
use Rattle.tao_base.specs.Images.{bucket_in}
use Rattle.tao_base.specs.Links.{header_node}

-- the header of a bucket is within it
pub header_within : (len at : ℕ) (image : List ℕ) → 8 ≤ len → header_node (take len (drop at image)) ≡ header_node (drop at image)
header_within len at image h =
    let rest : 4 + (len - 4) ≡ len = omega arith in
    ap (λ m. from_be_bytes w32 (take 4 (drop 4 (take m (drop at image))))) (sym rest)
    ∙ ap (λ b. from_be_bytes w32 (take 4 b)) (drop-take 4 (len - 4) (drop at image))
    ∙ ap (from_be_bytes w32) (take-take 4 (len - 4) (drop 4 (drop at image)) (omega arith))

-- the bytes from the second bucket on
later_bucket : (len i : ℕ) (first rest : List ℕ) → length first ≡ len → drop (suc i * len) (first ++ rest) ≡ drop (i * len) rest
later_bucket len i first rest long =
    let place : suc i * len ≡ len + i * len = omega arith in
    ap (λ n. drop n (first ++ rest)) place ∙ sym (drop-drop (i * len) len (first ++ rest)) ∙ ap (drop (i * len)) (drop_at first rest len long)

module _ {X : Type 0} (bytes : X → List ℕ) (len : ℕ) where
  -- as long as its buckets together
  pub length_joined : (xs : List X) → AllByRecursion (λ x. length (bytes x) ≡ len) xs → length (flat_map bytes xs) ≡ length xs * len
  length_joined [] all = omega arith
  length_joined (x ∷ xs) all =
      let count : len + length xs * len ≡ suc (length xs) * len = omega arith in
      length-append (bytes x) (flat_map bytes xs) ∙ ap₂ ◌+◌ all.0 (length_joined xs all.1) ∙ count

  -- from bucket i on, the image has bucket i and what follows
  pub joined_from : (xs : List X) (i : ℕ) (d : X) → AllByRecursion (λ x. length (bytes x) ≡ len) xs → i < length xs
      → drop (i * len) (flat_map bytes xs) ≡ bytes (get_or xs i d) ++ flat_map bytes (drop (suc i) xs)
  joined_from [] i d all within = absurd (omega arith)
  joined_from (x ∷ xs) zero d all within = ap (λ n. drop n (bytes x ++ flat_map bytes xs)) (let none : 0 * len ≡ 0 = omega arith in none)
  joined_from (x ∷ xs) (suc i) d all within = later_bucket len i (bytes x) (flat_map bytes xs) all.0 ∙ joined_from xs i d all.1 (omega arith)

  pub bucket_joined : (xs : List X) (i : ℕ) (d : X) → AllByRecursion (λ x. length (bytes x) ≡ len) xs → length (bytes (get_or xs i d)) ≡ len → i < length xs
      → bucket_in len (flat_map bytes xs) i ≡ bytes (get_or xs i d)
  bucket_joined xs i d all long within =
      ap (take len) (joined_from xs i d all within) ∙ take_at (bytes (get_or xs i d)) (flat_map bytes (drop (suc i) xs)) len long
