-- A padded key byte by byte, and the length of a tag.
use Rattle.std.proofs.Common.{◌≡◌, ℕ, ◌-◌, ◌≤◌, ◌<◌, List, ◌++◌, length, get_or, replicate, map, bit_xor, refl, sym, ap, ◌∙◌, inl, inr, arith}
use Rattle.std.specs.Int.Bits.{xor_zero_l}
use Rattle.std.proofs.lemmas.Bool.{cases_lt}
use Rattle.std.proofs.lemmas.List.{ext_get_or, get_or-map, get_or_append_left, get_or-append_right, get_or-replicate, length-append, length-replicate, length-map}
use Rattle.sha2.proofs.Facts256.{length-sha256}
use Rattle.tao_tag.specs.Tags.{padded, hmac}

abbrev zero_bytes : ℕ → List ℕ
zero_bytes n = replicate n 0

length_filled : (key : List ℕ) → length key ≤ 64 → length (key ++ zero_bytes (64 - length key)) ≡ 64
length_filled key h = let zeros : length (zero_bytes (64 - length key)) ≡ 64 - length key = length-replicate {A = ℕ} (64 - length key) 0 in omega (arith, length-append key (zero_bytes (64 - length key)))

pub padded_by_bytes : (key block : List ℕ) (pad : ℕ) → length key ≤ 64 → length block ≡ 64
    → ((k : ℕ) → k < length key → get_or block k 0 ≡ bit_xor (get_or key k 0) pad)
    → ((k : ℕ) → length key ≤ k → k < 64 → get_or block k 0 ≡ pad)
    → block ≡ padded key pad
unfolding padded
padded_by_bytes key block pad few long front rest =
    let whole = key ++ zero_bytes (64 - length key) in
    let len = length_filled key few in
    ext_get_or 0 block (map (λ k. bit_xor k pad) whole) (long ∙ sym len ∙ sym (length-map whole (λ k. bit_xor k pad)))
    (λ k h.
    let in_whole : k < length whole = omega arith in
    let of_map = get_or-map (λ b. bit_xor b pad) whole k 0 0 in_whole in
    elim (cases_lt k (length key)) [
      | inl lt ↦ front k lt ∙ ap (λ b. bit_xor b pad) (sym (get_or_append_left key (zero_bytes (64 - length key)) 0 k lt)) ∙ sym of_map
      | inr le ↦
          let zero_there : get_or whole k 0 ≡ 0 =
          get_or-append_right key (zero_bytes (64 - length key)) (length key) k 0 refl le ∙ get_or-replicate {A = ℕ} (64 - length key) (k - length key) 0 0 (omega arith)
          in
          rest k le (omega arith) ∙ sym (of_map ∙ ap (λ b. bit_xor b pad) zero_there ∙ xor_zero_l pad)
    ])

pub length_hmac : (key text : List ℕ) → length (hmac key text) ≡ 32
unfolding hmac
length_hmac key text = length-sha256 _
