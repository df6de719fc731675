-- The keyed tag of a text: HMAC (RFC 2104) with SHA-256.
use Rattle.std.specs.Prelude.{ℕ, ◌-◌, List, [], ◌∷◌, ◌++◌, length, map, replicate, bit_xor}
use Rattle.sha2.specs.Sha256.{sha256}

-- the key, padded with zero bytes to a block of 64, each byte xored with this one
unfoldable pub padded : List ℕ → ℕ → List ℕ
padded key pad = map (λ k. bit_xor k pad) (key ++ replicate (64 - length key) 0)

-- the tag of a text under a key of at most 64 bytes (the RFC hashes a longer key first; here it is used as it is)
unfoldable pub hmac : List ℕ → List ℕ → List ℕ
hmac key text = sha256 (padded key 0x5c ++ sha256 (padded key 0x36 ++ text))

-- the key under which a store's buckets are tagged
unfoldable pub tag_key : List ℕ → List ℕ
tag_key key = hmac key (1 ∷ [])
