-- The tags that a proxy keeps, one for each node of the tree. A record's events are oldest first.
use Rattle.std.specs.Prelude.{◌≡◌, ℕ, ◌≤◌, Bool, true, false, List, [], reverse, Some, is_some}
use Rattle.std.specs.Option.{option_map_or}
use Rattle.tao_base.specs.declared.calls.Op.{Op}
use Rattle.tao_base.specs.declared.session.Cause.{Cause}
use Rattle.tao_base.specs.declared.session.Event.{Event}
use Rattle.tao_base.specs.declared.session.Event.TheVariants.{Arrive, Done, Issue, Acked, Fault}
use Rattle.tao_base.specs.declared.storage.Bucket.{Bucket}
use Rattle.tao_base.specs.Session.{Opening}
use Rattle.tao_base.specs.Tree.{node_count}
use Rattle.tao_model.specs.Residence.{bucket_of, newest_write, newest_version}
use Rattle.tao_model.specs.Lawful.{IsOpening, OpensWithLoad}
use Rattle.tao_model.specs.OneMore.{with_one_more}

-- Each node whose latest version has a tag has it here. Which versions have tags, and which tag a bucket has, are parameters.
abbrev pub TellsTags : (ℕ → Bool) → (Bucket → List ℕ) → Opening → List Event → (ℕ → List ℕ) → Type 0
TellsTags has_tag tag o es tags = (w : ℕ) → 1 ≤ w → w ≤ node_count o.shape.l → has_tag (newest_version es w) ≡ true → tags w ≡ option_map_or tag (newest_write o es w) []

-- the tags of a write-back's nodes are replaced, if its version has tags; the others stay
pub record ReplacesTags (has_tag : ℕ → Bool) (tag : Bucket → List ℕ) (version : ℕ) (buckets : List Bucket) (tags tags' : ℕ → List ℕ) : Type 0 where
  pub others : (w : ℕ) → is_some (bucket_of w buckets) ≡ false → tags' w ≡ tags w
  pub own : (w : ℕ) (x : Bucket) → has_tag version ≡ true → bucket_of w buckets ≡ Some x → tags' w ≡ tag x

-- How one more event changes them: a write-back replaces those of its nodes.
pub record TagsMove (has_tag : ℕ → Bool) (tag : Bucket → List ℕ) (o : Opening) (events : List Event) (tags : ℕ → List ℕ) : Type 0 where
  pub arrive : (client : ℕ) (op : Op) (word : ℕ) → TellsTags has_tag tag o (with_one_more events (Arrive client op word)) tags
  pub done : (i : ℕ) (taken : List Bucket) → TellsTags has_tag tag o (with_one_more events (Done i taken)) tags
  pub issue : (version nonce : ℕ) (buckets : List Bucket) (tags' : ℕ → List ℕ) → ReplacesTags has_tag tag version buckets tags tags'
      → TellsTags has_tag tag o (with_one_more events (Issue version nonce buckets)) tags'
  pub acked : (version : ℕ) → TellsTags has_tag tag o (with_one_more events (Acked version)) tags
  pub fault : (cause : Cause) → TellsTags has_tag tag o (with_one_more events (Fault cause)) tags

-- this holds for all tags that tell a record
abbrev pub TagsAreTold : Type 0
TagsAreTold = (has_tag : ℕ → Bool) (tag : Bucket → List ℕ) (o : Opening) (events : List Event) (tags : ℕ → List ℕ) → TellsTags has_tag tag o (reverse events) tags
    → TagsMove has_tag tag o events tags

-- at the start each node has the tag of its loaded bucket, if version 0 has tags
abbrev pub TagsAtStart : Type 0
TagsAtStart = (has_tag : ℕ → Bool) (tag : Bucket → List ℕ) (o : Opening) (tags : ℕ → List ℕ) → IsOpening o → OpensWithLoad o
    → ((w : ℕ) (x : Bucket) → has_tag 0 ≡ true → bucket_of w o.loaded ≡ Some x → tags w ≡ tag x) → TellsTags has_tag tag o [] tags
