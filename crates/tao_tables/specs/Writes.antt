-- What was written, for the tables that a proxy keeps. A record's events are oldest first.
use Rattle.std.specs.Prelude.{◌≡◌, ℕ, ◌≤◌, ◌==◌, List, reverse, Some}
use Rattle.std.specs.List.{list_any}
use Rattle.tao_base.specs.declared.session.Event.{Event}
use Rattle.tao_base.specs.declared.session.Event.TheVariants.{Issue}
use Rattle.tao_base.specs.declared.storage.Bucket.{Bucket}
use Rattle.tao_base.specs.Session.{Opening}
use Rattle.tao_base.specs.Tree.{node_count}
use Rattle.tao_model.specs.Residence.{is_issued, newest_write, newest_version}
use Rattle.tao_model.specs.Trace.{nodes_in}
use Rattle.tao_base.specs.Buckets.{IsInForm}
use Rattle.tao_model.specs.Lawful.{OpensWithLoad, FollowsLawfully}
use Rattle.tao_model.specs.WholeRecords.{IsAt}

-- The nodes of a version are those of its write-back, wherever that stands in the record.
abbrev pub IssuedIs : Type 0
IssuedIs = (o : Opening) (events : List Event) (p version nonce : ℕ) (buckets : List Bucket) (w : ℕ) → FollowsLawfully o (reverse events)
    → IsAt events p (Issue version nonce buckets) → is_issued (reverse events) version w ≡ list_any (λ v. v == w) (nodes_in buckets)

-- the bucket of a node's latest version: there is one, of this node and version, in form
pub record IsNewestWrite (o : Opening) (es : List Event) (w : ℕ) : Type 0 where
  pub bucket : Bucket
  pub there : newest_write o es w ≡ Some bucket
  pub node : bucket.node ≡ w
  pub version : bucket.version ≡ newest_version es w
  pub in_form : IsInForm o.shape bucket

-- this holds for each node of the tree
abbrev pub NewestWrite : Type 0
NewestWrite = (o : Opening) (events : List Event) (w : ℕ) → OpensWithLoad o → FollowsLawfully o (reverse events) → 1 ≤ w → w ≤ node_count o.shape.l
    → IsNewestWrite o (reverse events) w
