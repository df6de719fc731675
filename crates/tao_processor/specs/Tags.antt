-- The tags that a processor keeps.
use Rattle.std.specs.Prelude.{◌≡◌, ◌≢◌, ◌==◌, ℕ, ◌<◌, Bool, List, [], length, drop, Some, slice_index}
use Rattle.std.specs.List.{slice_index_or}
use Rattle.tao_base.specs.Limits.{Shape, slots_len}
use Rattle.tao_base.specs.Tree.{node_count}
use Rattle.tao_base.specs.declared.storage.Bucket.{Bucket}
use Rattle.tao_base.specs.declared.storage.Order.{Order}
use Rattle.tao_bucket.specs.Encoding.{format_of, tag_of}
use Rattle.tao_images.specs.Paths.{piece}
use Rattle.tao_model.specs.Residence.{bucket_of}

-- whether the buckets of a version have tags
abbrev pub has_tag : Shape → ℕ → Bool
has_tag s version = format_of s.form version == 2

-- the tag at the place of a node
abbrev pub tag_at : List (List ℕ) → ℕ → List ℕ
tag_at tags node = slice_index_or tags node []

-- a place for each node, if any version has tags
abbrev pub HasPlaces : Shape → List (List ℕ) → Type 0
HasPlaces s tags = format_of s.form 1 ≡ 2 → node_count s.l < length tags

-- the tags of a load, if it has tags
pub record HasTagsOf (key : List ℕ) (s : Shape) (loaded : List Bucket) (tags : List (List ℕ)) : Type 0 where
  pub places : HasPlaces s tags
  pub own : (w : ℕ) (x : Bucket) → format_of s.form 0 ≡ 2 → bucket_of w loaded ≡ Some x → tag_at tags w ≡ tag_of key s x

-- so many nodes of an order, the first, have the tags that stand behind their buckets, and all other nodes theirs of before
pub record SetsTags (s : Shape) (order : Order) (count : ℕ) (tags tags' : List (List ℕ)) : Type 0 where
  pub as_many : length tags' ≡ length tags
  pub own : (k : ℕ) → k < count → tag_at tags' (slice_index order.nodes k) ≡ drop (slots_len s.z s.b) (piece s order.image k)
  pub others : (w : ℕ) → ((k : ℕ) → k < count → slice_index order.nodes k ≢ w) → tag_at tags' w ≡ tag_at tags w

-- all nodes of the order have them, if its version has tags
pub record KeepsTagsOf (s : Shape) (order : Order) (tags tags' : List (List ℕ)) : Type 0 where
  pub tagged : format_of s.form order.version ≡ 2 → SetsTags s order (length order.nodes) tags tags'
  pub untagged : format_of s.form order.version ≢ 2 → tags' ≡ tags
