-- The keystreams of a key, by `rand_chacha`'s ChaCha20: stream n has the key and, as its nonce, n.
use Rattle.std.specs.Prelude.{ℕ, ◌/◌, ◌%◌, List, length, map, slice_index, bit_xor}
use Rattle.std.specs.List.{range_with_len}
use Rattle.std.specs.Int.{w32, to_le_bytes}
use Rattle.rand_chacha.specs.ChaCha.{word_at, key_of}

-- word j of stream n
abbrev pub stream_word : List ℕ → ℕ → ℕ → ℕ
stream_word key n j = word_at 10 (key_of key) n j

-- byte t of stream n, whose words are written little-endian
unfoldable pub stream_byte : List ℕ → ℕ → ℕ → ℕ
stream_byte key n t = slice_index (to_le_bytes w32 (stream_word key n (t / 4))) (t % 4)

-- byte t of these bytes, xored with byte t of stream n
abbrev pub xored_byte : List ℕ → ℕ → List ℕ → ℕ → ℕ
xored_byte key n bytes t = bit_xor (slice_index bytes t) (stream_byte key n t)

-- the bytes, each xored with the byte of stream n at its place
unfoldable pub xored : List ℕ → ℕ → List ℕ → List ℕ
xored key n bytes = map (xored_byte key n bytes) (range_with_len 0 (length bytes))
