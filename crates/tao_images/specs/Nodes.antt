-- The bytes of a node against its latest write: the first reason to refuse them, and what they hold where there is none.
use Rattle.std.specs.Prelude.{◌≡◌, ◌≢◌, ◌==◌, ℕ, not, ◌&&◌, List, drop, Option, Some, None, if◌then◌else◌}
use Rattle.std.specs.Option.{option_or, option_map}
use Rattle.tao_base.specs.Limits.{Shape, slots_len}
use Rattle.tao_base.specs.declared.storage.Bucket.{Bucket}
use Rattle.tao_base.specs.declared.storage.BucketFault.TheVariants.{Tag}
use Rattle.tao_bucket.specs.Encoding.{Encodes, format_of, tag_of}
use Rattle.tao_base.specs.Transfers.{same}
use Rattle.tao_bucket.specs.Reading.{bucket_fault, header_version}
use Rattle.tao_images.specs.declared.nodes.Refused.{Refused}
use Rattle.tao_images.specs.declared.nodes.Refused.TheVariants.{Damaged, Stale}

-- another version than the wanted one
abbrev pub version_refusal : ℕ → ℕ → List ℕ → Option Refused
version_refusal version node bytes = if header_version bytes == version then None else Some (Stale node version (header_version bytes))

-- another tag than the wanted one, in format 2
abbrev pub tag_refusal : Shape → ℕ → List ℕ → ℕ → List ℕ → Option Refused
tag_refusal s format tag node bytes = if format == 2 && not (same (drop (slots_len s.z s.b) bytes) tag) then Some (Damaged node Tag) else None

-- The first reason to refuse these bytes as those of a node's latest write, which had this version and this tag.
unfoldable pub node_refusal : List ℕ → Shape → ℕ → List ℕ → ℕ → List ℕ → Option Refused
node_refusal key s version tag node bytes =
    option_or (option_map (Damaged node) (bucket_fault key s node (format_of s.form version) bytes))
    (option_or (version_refusal version node bytes) (tag_refusal s (format_of s.form version) tag node bytes))

-- These bytes hold this bucket of the node, of the wanted version and, in format 2, with the wanted tag.
pub record Holds (key : List ℕ) (s : Shape) (wanted : ℕ) (tag : List ℕ) (at : ℕ) (bytes : List ℕ) (bucket : Bucket) : Type 0 where
  pub node : bucket.node ≡ at
  pub version : bucket.version ≡ wanted
  pub encoded : Encodes key s (format_of s.form wanted) bucket bytes
  pub tagged : format_of s.form wanted ≡ 2 → tag_of key s bucket ≡ tag

-- the refusal is of this node, and a stale bucket has another version than the wanted one
abbrev pub IsRefusalOf : ℕ → ℕ → Refused → Type 0
IsRefusalOf node version (Damaged at fault) = at ≡ node
IsRefusalOf node version (Stale at wanted found) = (at ≡ node) × (wanted ≡ version) × (found ≢ version)
