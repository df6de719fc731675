-- Laws of answers: which are refused, what their refusals cause, and what those that are taken add to the record.
use Rattle.std.specs.Prelude.{◌≡◌, ◌↔◌, ℕ, ◌+◌, ◌<◌, ◌^◌, Bool, true, not, List, ◌∷◌, filter, reverse, Some, None, All}
use Rattle.tao_base.specs.declared.session.Event.TheVariants.{Done}
use Rattle.tao_base.specs.declared.storage.Bucket.{Bucket}
use Rattle.tao_base.specs.Limits.{Shape, IsShape}
use Rattle.tao_base.specs.Session.{History}
use Rattle.tao_bucket.specs.Encoding.{format_of, tag_of}
use Rattle.tao_model.specs.Events.{arrived, dones, issues, acks, is_under_way}
use Rattle.tao_model.specs.Residence.{is_resident, Unaltered, HasEntriesOf}
use Rattle.tao_model.specs.Lawful.{OpensWithLoad, FollowsLawfully, MayFail, MayBeDone}
use Rattle.tao_model.specs.Trace.{nodes_in}
use Rattle.tao_images.specs.declared.nodes.Refused.{Refused}
use Rattle.tao_images.specs.Answers.{first_met, fetch_refusal, leaf_refusal, IsAnswered, IsLeafAnswered, buckets_fetched, buckets_scanned, AreFetched, AreScanned, cause_of, IsUnaltered}
use Rattle.tao_images.specs.Honesty.{IsUnforged, HasTagOf}
use Rattle.tao_images.specs.Paths.{AreBytes, AreReadFrom}

-- The answer to a fetch is taken exactly if it holds the latest version of each node that the proxy doesn't hold.
abbrev pub FetchIsTaken : Type 0
FetchIsTaken = (key : List ℕ) (h : History) (i : ℕ) (path : List ℕ) → IsShape h.opening.shape → AreBytes path → (fetch_refusal key h i path ≡ None) ↔ IsAnswered key h i path

-- So is the answer to the closing scan at a leaf.
abbrev pub LeafIsTaken : Type 0
LeafIsTaken = (key : List ℕ) (h : History) (leaf : ℕ) (path : List ℕ) → IsShape h.opening.shape → AreBytes path → (leaf_refusal key h leaf path ≡ None) ↔ IsLeafAnswered key h leaf path

-- What is read from an answer to a fetch that is taken.
abbrev pub FetchIsRead : Type 0
FetchIsRead = (key : List ℕ) (h : History) (i : ℕ) (path : List ℕ) → AreBytes path → fetch_refusal key h i path ≡ None
    → AreFetched key h i path (buckets_fetched key h i path)

-- What is read from an answer to the closing scan that is taken.
abbrev pub LeafIsRead : Type 0
LeafIsRead = (key : List ℕ) (h : History) (leaf : ℕ) (path : List ℕ) → leaf < 2 ^ h.opening.shape.l → AreBytes path → leaf_refusal key h leaf path ≡ None
    → AreScanned key h leaf path (buckets_scanned key h leaf path)

-- each bucket has its node's latest version and, in format 2, that version's tag
pub record AreLatest (key : List ℕ) (s : Shape) (version : ℕ → ℕ) (tag : ℕ → List ℕ) (buckets : List Bucket) : Type 0 where
  pub versions : All (λ bucket. bucket.version ≡ version bucket.node) buckets
  pub tags : All (λ bucket. format_of s.form bucket.version ≡ 2 → tag_of key s bucket ≡ tag bucket.node) buckets

-- Buckets that are read have the latest versions of their nodes, and the tags.
abbrev pub ReadIsLatest : Type 0
ReadIsLatest = (key : List ℕ) (s : Shape) (skipped : ℕ → Bool) (version : ℕ → ℕ) (tag : ℕ → List ℕ) (leaf : ℕ) (path : List ℕ) (buckets : List Bucket)
    → AreReadFrom key s skipped version tag leaf path buckets → AreLatest key s version tag buckets

-- At a leaf the scan reads those of its first met nodes that the proxy doesn't hold.
abbrev pub ScanReadsFirstMet : Type 0
ScanReadsFirstMet = (key : List ℕ) (h : History) (leaf : ℕ) (path : List ℕ) (buckets : List Bucket) → AreScanned key h leaf path buckets
    → nodes_in buckets ≡ filter (λ node. not (is_resident h.opening (reverse h.events) node)) (first_met h.opening.shape.l leaf)

-- ---- what follows in the record

-- A session may end with the refusal of an answer to a fetch that is under way.
abbrev pub FetchMayFail : Type 0
FetchMayFail = (key : List ℕ) (h : History) (i : ℕ) (path : List ℕ) (refused : Refused) → is_under_way (reverse h.events) i ≡ true → fetch_refusal key h i path ≡ Some refused
    → MayFail h.opening (reverse h.events) (cause_of i refused)

-- When all is done and acknowledged, it may end with the refusal of an answer to the closing scan, whose fetches are numbered from 2^32 on.
abbrev pub LeafMayFail : Type 0
LeafMayFail = (key : List ℕ) (h : History) (leaf : ℕ) (path : List ℕ) (refused : Refused) → leaf < 2 ^ h.opening.shape.l → dones (reverse h.events) ≡ arrived (reverse h.events)
    → acks (reverse h.events) ≡ issues (reverse h.events) → leaf_refusal key h leaf path ≡ Some refused → MayFail h.opening (reverse h.events) (cause_of (2 ^ 32 + leaf) refused)

-- The Done of a fetch under way may have the buckets that were read from its answer.
abbrev pub FetchMayBeDone : Type 0
FetchMayBeDone = (key : List ℕ) (h : History) (i : ℕ) (path : List ℕ) (taken : List Bucket) → is_under_way (reverse h.events) i ≡ true → AreFetched key h i path taken
    → MayBeDone h.opening (reverse h.events) i taken

-- Its buckets have the tags of their nodes' latest versions, as those of earlier Dones.
abbrev pub DoneHasTags : Type 0
DoneHasTags = (key : List ℕ) (h : History) (i : ℕ) (path : List ℕ) (taken : List Bucket) → OpensWithLoad h.opening → FollowsLawfully h.opening (reverse h.events)
    → Unaltered (HasTagOf key h.opening.shape) h.opening (reverse h.events) → AreFetched key h i path taken
    → Unaltered (HasTagOf key h.opening.shape) h.opening (Done i taken ∷ reverse h.events)

-- ---- forgeries

-- The written bucket is no forgery of itself.
abbrev pub WrittenIsUnforged : Type 0
WrittenIsUnforged = (key : List ℕ) (s : Shape) (written : Bucket) → IsUnforged key s written written

-- Where no fetched bucket is a forgery and each has its tag, all have the entries of their nodes' latest versions.
abbrev pub UnalteredIsHonest : Type 0
UnalteredIsHonest = (key : List ℕ) (h : History) → IsUnaltered key h → Unaltered (HasTagOf key h.opening.shape) h.opening (reverse h.events)
    → Unaltered HasEntriesOf h.opening (reverse h.events)
