-- The row of each arrival: the leaf that it fetches and its own word. A record's events are oldest first.
use Rattle.std.specs.Prelude.{◌≡◌, ℕ, ◌+◌, ◌<◌, true, false, List, [], reverse, slice_index}
use Rattle.tao_base.specs.declared.calls.Op.{Op}
use Rattle.tao_base.specs.declared.session.Cause.{Cause}
use Rattle.tao_base.specs.declared.session.Event.{Event}
use Rattle.tao_base.specs.declared.session.Event.TheVariants.{Arrive, Done, Issue, Acked, Fault}
use Rattle.tao_base.specs.declared.storage.Bucket.{Bucket}
use Rattle.tao_base.specs.Session.{Opening}
use Rattle.tao_base.specs.Tree.{leaf_of}
use Rattle.tao_model.specs.Events.{arrived, names, word_of}
use Rattle.tao_model.specs.Requests.{real_now, word_for, fetched_leaf, position}
use Rattle.tao_model.specs.Lawful.{FollowsLawfully}
use Rattle.tao_model.specs.OneMore.{with_one_more}
use Rattle.tao_tables.specs.Positions.{TellsPositions}

-- as many rows as arrivals, each with the leaf that its arrival fetches and the word that came with it
pub record TellsRows (o : Opening) (es : List Event) (count : ℕ) (leaf word : ℕ → ℕ) : Type 0 where
  pub counts : count ≡ arrived es
  pub leaves : (i : ℕ) → i < count → leaf i ≡ fetched_leaf o es i
  pub words : (i : ℕ) → i < count → word i ≡ word_of es i

-- one more row, of this leaf and this word; the others stay
pub record AddsRow (count : ℕ) (leaf word leaf' word' : ℕ → ℕ) (at own : ℕ) : Type 0 where
  pub leaves : (i : ℕ) → i < count → leaf' i ≡ leaf i
  pub words : (i : ℕ) → i < count → word' i ≡ word i
  pub leaf_new : leaf' count ≡ at
  pub word_new : word' count ≡ own

-- How one more event changes them: an arrival adds its row.
pub record RowsMove (o : Opening) (events : List Event) (count : ℕ) (leaf word : ℕ → ℕ) : Type 0 where
  pub arrive : (client : ℕ) (op : Op) (own : ℕ) (leaf' word' : ℕ → ℕ) → FollowsLawfully o (with_one_more events (Arrive client op own))
      → AddsRow count leaf word leaf' word' (fetched_leaf o (with_one_more events (Arrive client op own)) count) own
      → TellsRows o (with_one_more events (Arrive client op own)) (count + 1) leaf' word'
  pub done : (i : ℕ) (taken : List Bucket) → TellsRows o (with_one_more events (Done i taken)) count leaf word
  pub issue : (version nonce : ℕ) (buckets : List Bucket) → TellsRows o (with_one_more events (Issue version nonce buckets)) count leaf word
  pub acked : (version : ℕ) → TellsRows o (with_one_more events (Acked version)) count leaf word
  pub fault : (cause : Cause) → TellsRows o (with_one_more events (Fault cause)) count leaf word

-- this holds for all rows that tell a record
abbrev pub RowsAreTold : Type 0
RowsAreTold = (o : Opening) (events : List Event) (count : ℕ) (leaf word : ℕ → ℕ) → TellsRows o (reverse events) count leaf word → RowsMove o events count leaf word

-- at the start there are none
abbrev pub RowsAtStart : Type 0
RowsAtStart = (o : Opening) (leaf word : ℕ → ℕ) → TellsRows o [] 0 leaf word

-- The leaf of a new arrival: that of its block's position if it is real, else that of its own word.
pub record ArrivalLeaf (o : Opening) (es now : List Event) (op : Op) (word : ℕ) : Type 0 where
  pub real : (b : ℕ) → names b op ≡ true → real_now es op ≡ true → fetched_leaf o now (arrived es) ≡ position o es b
  pub fake : real_now es op ≡ false → fetched_leaf o now (arrived es) ≡ leaf_of o.shape.l word

-- this holds for each lawful arrival
abbrev pub ArrivalFetches : Type 0
ArrivalFetches = (o : Opening) (events : List Event) (client : ℕ) (op : Op) (word : ℕ) → FollowsLawfully o (with_one_more events (Arrive client op word))
    → ArrivalLeaf o (reverse events) (with_one_more events (Arrive client op word)) op word

-- Its leaf by the words of the positions: the leaf of its block's word if it is real, else of its own.
abbrev pub NewArrivalsLeaf : Type 0
NewArrivalsLeaf = (o : Opening) (events : List Event) (client : ℕ) (op : Op) (word : ℕ) (words : List ℕ) → TellsPositions o (reverse events) words
    → FollowsLawfully o (with_one_more events (Arrive client op word))
    → fetched_leaf o (with_one_more events (Arrive client op word)) (arrived (reverse events))
    ≡ leaf_of o.shape.l (word_for (λ b. slice_index words b) word (real_now (reverse events) op) op)
