-- What is assumed of a bucket that comes back against the written one, and what reading ensures of its tag.
use Rattle.std.specs.Prelude.{◌≡◌, ◌≢◌, ◌⊎◌, ℕ, List}
use Rattle.tao_base.specs.Limits.{Shape}
use Rattle.tao_base.specs.declared.storage.Bucket.{Bucket}
use Rattle.tao_bucket.specs.Encoding.{format_of, tag_of}

-- The bucket isn't a forgery of the written one: without a tag it has its entries, and with one it is it or has another tag.
pub record IsUnforged (key : List ℕ) (s : Shape) (bucket written : Bucket) : Type 0 where
  pub untagged : format_of s.form written.version ≡ 1 → bucket.entries ≡ written.entries
  pub tagged : format_of s.form written.version ≡ 2 → (bucket ≡ written) ⊎ (tag_of key s bucket ≢ tag_of key s written)

-- the bucket has the tag of the written one, where that has one
abbrev pub HasTagOf : List ℕ → Shape → Bucket → Bucket → Type 0
HasTagOf key s bucket written = format_of s.form written.version ≡ 2 → tag_of key s bucket ≡ tag_of key s written
