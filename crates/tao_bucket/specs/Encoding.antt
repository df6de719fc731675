-- The one encoding of each bucket in form.
use Rattle.std.specs.Prelude.{◌≡◌, ◌==◌, ◌⊎◌, ℕ, ◌+◌, ◌-◌, ◌*◌, ◌^◌, ◌<◌, List, [], ◌∷◌, ◌++◌, length, replicate, if◌then◌else◌}
use Rattle.std.specs.List.{flat_map}
use Rattle.std.specs.Int.{w32, w64, to_be_bytes}
use Rattle.tao_base.specs.Buckets.{AreInForm}
use Rattle.tao_base.specs.Limits.{Shape}
use Rattle.tao_base.specs.declared.parameters.Form.{Form}
use Rattle.tao_base.specs.declared.parameters.Form.TheVariants.{One, Two, Turn}
use Rattle.tao_base.specs.declared.storage.Bucket.{Bucket}
use Rattle.tao_base.specs.declared.storage.Entry.{Entry}
use Rattle.tao_tag.specs.Tags.{hmac, tag_key}
use Rattle.tao_tape.specs.Keystream.{xored}

-- which block an entry is of
abbrev pub id_of : Entry → ℕ
id_of entry = entry.id

-- the bytes of an entry's block
abbrev pub value_of : Entry → List ℕ
value_of entry = entry.value

-- a value of b bytes
abbrev pub IsBlock : ℕ → List ℕ → Type 0
IsBlock b value = length value ≡ b

-- an entry whose value has b bytes
abbrev pub HasBlock : ℕ → Entry → Type 0
HasBlock b entry = length entry.value ≡ b

-- the formats that a store of this form writes
abbrev pub IsWritten : Form → ℕ → Type 0
IsWritten One format = format ≡ 1
IsWritten Two format = format ≡ 2
IsWritten Turn format = (format ≡ 1) ⊎ (format ≡ 2)

-- the format of a node's bucket of this version: the load has version 0
abbrev pub format_of : Form → ℕ → ℕ
format_of One version = 1
format_of Two version = 2
format_of Turn version = if version == 0 then 1 else 2

-- the first 20 bytes
abbrev pub header : ℕ → ℕ → ℕ → ℕ → List ℕ
header format node version nonce = (format ∷ 0 ∷ 0 ∷ 0 ∷ []) ++ to_be_bytes w32 node ++ to_be_bytes w32 version ++ to_be_bytes w64 nonce

-- the slot of an entry
abbrev pub slot_of : Entry → List ℕ
slot_of entry = to_be_bytes w32 (entry.id + 1) ++ entry.value

-- the slots in clear: those of the entries, and zero bytes in the rest
unfoldable pub slots_of : ℕ → ℕ → List Entry → List ℕ
slots_of z b entries = flat_map slot_of entries ++ replicate ((z - length entries) * (4 + b)) 0

-- the header, and the slots xored with the keystream of the bucket's nonce
abbrev pub body : List ℕ → Shape → ℕ → Bucket → List ℕ
body key s format bucket = header format bucket.node bucket.version bucket.nonce ++ xored key bucket.nonce (slots_of s.z s.b bucket.entries)

-- what stands behind a body: nothing, the tag, or the place where the other buckets of the store have a tag
abbrev pub tail : List ℕ → Form → ℕ → List ℕ → List ℕ
tail key One format body = []
tail key Two format body = hmac (tag_key key) body
tail key Turn format body = if format == 2 then hmac (tag_key key) body else replicate 32 0

-- the encoding of a bucket under the key, in a format of the store
unfoldable pub encoded : List ℕ → Shape → ℕ → Bucket → List ℕ
encoded key s format bucket = body key s format bucket ++ tail key s.form format (body key s format bucket)

-- the tag of a bucket: that of its header and slots in format 2
unfoldable pub tag_of : List ℕ → Shape → Bucket → List ℕ
tag_of key s bucket = hmac (tag_key key) (body key s 2 bucket)

-- These bytes are the encoding of the bucket under the key, in a format of the store.
pub record Encodes (key : List ℕ) (s : Shape) (format : ℕ) (bucket : Bucket) (bytes : List ℕ) : Type 0 where
  pub entries : AreInForm s bucket.entries
  pub node : bucket.node < 2 ^ 32
  pub version : bucket.version < 2 ^ 32
  pub nonce : bucket.nonce < 2 ^ 64
  pub written : bytes ≡ encoded key s format bucket
