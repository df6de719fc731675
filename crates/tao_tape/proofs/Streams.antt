-- The bytes of a stream by its words, and bytes that are xored with it.
use Rattle.std.proofs.Common.{◌≡◌, ℕ, zero, suc, ◌+◌, ◌-◌, ◌*◌, ◌/◌, ◌%◌, ◌^◌, ◌≤◌, ◌<◌, List, length, get_or, slice_index, bit_xor, sym, ap, ap₂, ◌∙◌, inl, inr, arith}
use Rattle.std.specs.Int.{w32, to_le_bytes}
use Rattle.std.specs.Int.Bits.{xor_assoc, xor_self, xor_zero_r}
use Rattle.std.proofs.lemmas.Bool.{cases_lt}
use Rattle.std.proofs.lemmas.Nat.{xor_of_8}
use Rattle.std.proofs.lemmas.List.{ext_get_or, get_or_past}
use Rattle.std.proofs.lemmas.List.FromFn.{get_or-map-range_with_len, length-map-range_with_len, fill_by_all}
use Rattle.rand_chacha.specs.ChaCha.{ChaCha, next_word, key_of}
use Rattle.tao_tape.specs.Keystream.{stream_word, stream_byte, xored_byte, xored}

-- stream n of a key, at word i
abbrev pub stream_at : List ℕ → ℕ → ℕ → ChaCha
stream_at key n i = record { key = key_of key; stream = n; word_pos = i }

mod_small : (k : ℕ) → k < 2 ^ 68 → k % 2 ^ 68 ≡ k
mod_small k h = omega arith

pub drawn_word : (key : List ℕ) (n i : ℕ) (before after : ChaCha) (word : ℕ) → before ≡ stream_at key n i → (word, after) ≡ next_word 10 before → word ≡ stream_word key n i
drawn_word key n i before after word at next = ap (λ (p : ℕ × ChaCha). p.0) next ∙ ap (λ (g : ChaCha). (next_word 10 g).0) at

pub drawn_stream : (key : List ℕ) (n i : ℕ) (before after : ChaCha) (word : ℕ) → before ≡ stream_at key n i → i + 1 < 2 ^ 68 → (word, after) ≡ next_word 10 before → after ≡ stream_at key n (i + 1)
drawn_stream key n i before after word at small next =
    ap (λ (p : ℕ × ChaCha). p.1) next ∙ ap (λ (g : ChaCha). (next_word 10 g).1) at ∙ ap (stream_at key n) (mod_small (i + 1) small)

-- byte c of word i
pub byte_of_word : (key : List ℕ) (n i c : ℕ) → c < 4 → stream_byte key n (4 * i + c) ≡ slice_index (to_le_bytes w32 (stream_word key n i)) c
unfolding stream_byte
byte_of_word key n i c h =
    let q : (4 * i + c) / 4 ≡ i = omega arith in
    let r : (4 * i + c) % 4 ≡ c = omega arith in
    ap₂ (λ a b. slice_index (to_le_bytes w32 (stream_word key n a)) b) q r

-- the bytes of word i are xored, from `at` on, as many as there are
pub xored_more : (key : List ℕ) (n i at : ℕ) (old before after word : List ℕ) → at ≡ 4 * i → word ≡ to_le_bytes w32 (stream_word key n i)
    → ((t : ℕ) → t < 4 * i → get_or before t 0 ≡ xored_byte key n old t)
    → ((t : ℕ) → 4 * i ≤ t → get_or before t 0 ≡ get_or old t 0)
    → ((c : ℕ) → c < 4 → at + c < length old → get_or after (at + c) 0 ≡ bit_xor (get_or before (at + c) 0) (get_or word c 0))
    → ((t : ℕ) → t < at → get_or after t 0 ≡ get_or before t 0)
    → (t : ℕ) → t < 4 * (i + 1) → t < length old → get_or after t 0 ≡ xored_byte key n old t
xored_more key n i at old before after word here w done rest within below t h in_old =
    elim (cases_lt t (4 * i)) [
      | inl lt ↦ below t (omega arith) ∙ done t lt
      | inr le ↦
          let c_in : t - 4 * i < 4 = omega arith in
          let place : at + (t - 4 * i) ≡ t = omega arith in
          let same : 4 * i + (t - 4 * i) ≡ t = omega arith in
          let byte = byte_of_word key n i (t - 4 * i) c_in in
          rw place at (within (t - 4 * i) c_in (omega arith))
          ∙ ap₂ bit_xor (rest t le) (ap (λ (b : List ℕ). get_or b (t - 4 * i) 0) w ∙ sym (rw same at byte))
    ]

-- bytes of the same length, each of them xored
pub all_xored : (key : List ℕ) (n : ℕ) (old new : List ℕ) → length new ≡ length old
    → ((t : ℕ) → t < length old → get_or new t 0 ≡ xored_byte key n old t) → new ≡ xored key n old
unfolding xored
all_xored key n old new len each = fill_by_all (xored_byte key n old) new (length old) 0 len each

pub length_xored : (key : List ℕ) (n : ℕ) (bytes : List ℕ) → length (xored key n bytes) ≡ length bytes
unfolding xored
length_xored key n bytes = length-map-range_with_len (xored_byte key n bytes) 0 (length bytes)

pub at_xored : (key : List ℕ) (n : ℕ) (bytes : List ℕ) (t : ℕ) → t < length bytes → get_or (xored key n bytes) t 0 ≡ xored_byte key n bytes t
unfolding xored
at_xored key n bytes t h = get_or-map-range_with_len (xored_byte key n bytes) 0 (length bytes) t t 0 h (omega arith)

xor_again : (a b : ℕ) → bit_xor (bit_xor a b) b ≡ a
xor_again a b = xor_assoc a b b ∙ ap (λ x. bit_xor a x) (xor_self b) ∙ xor_zero_r a

pub xored_again : (key : List ℕ) (n : ℕ) (bytes : List ℕ) → xored key n (xored key n bytes) ≡ bytes
xored_again key n bytes =
    let one = length_xored key n bytes in
    let two = length_xored key n (xored key n bytes) in
    ext_get_or 0 (xored key n (xored key n bytes)) bytes (two ∙ one)
    (λ t h.
    let outer : t < length (xored key n bytes) = omega arith in
    let inner : t < length bytes = omega arith in
    at_xored key n (xored key n bytes) t outer ∙ ap (λ x. bit_xor x (stream_byte key n t)) (at_xored key n bytes t inner) ∙ xor_again (get_or bytes t 0) (stream_byte key n t))

byte_fits : (word c : ℕ) → get_or (to_le_bytes w32 word) c 0 < 256
byte_fits word zero = omega arith
byte_fits word (suc zero) = omega arith
byte_fits word (suc (suc zero)) = omega arith
byte_fits word (suc (suc (suc zero))) = omega arith
byte_fits word (suc (suc (suc (suc c)))) = omega arith

-- bytes that are xored are bytes
pub xored_fits : (key : List ℕ) (n : ℕ) (bytes : List ℕ) → ((t : ℕ) → get_or bytes t 0 < 256) → (t : ℕ) → get_or (xored key n bytes) t 0 < 256
unfolding stream_byte
xored_fits key n bytes fit t =
    let len = length_xored key n bytes in
    elim (cases_lt t (length bytes)) [
      | inl lt ↦
          let same = at_xored key n bytes t lt in
          let below : xored_byte key n bytes t < 2 ^ 8 = xor_of_8 (get_or bytes t 0) (stream_byte key n t) (fit t) (byte_fits (stream_word key n (t / 4)) (t % 4)) in
          rw same below
      | inr le ↦ rw (get_or_past (xored key n bytes) t 0 (omega arith)) (omega arith)
    ]
