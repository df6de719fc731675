-- The words of the blocks' positions, as a proxy keeps them, and how one more event changes them. A record's events are oldest first.
use Rattle.std.specs.Prelude.{◌≡◌, ℕ, ◌<◌, if◌then◌else◌, List, [], length, reverse, slice_index, slice_set}
use Rattle.tao_base.specs.declared.calls.Op.{Op}
use Rattle.tao_base.specs.declared.session.Cause.{Cause}
use Rattle.tao_base.specs.declared.session.Event.{Event}
use Rattle.tao_base.specs.declared.session.Event.TheVariants.{Arrive, Done, Issue, Acked, Fault}
use Rattle.tao_base.specs.declared.storage.Bucket.{Bucket}
use Rattle.tao_base.specs.Session.{Opening}
use Rattle.tao_base.specs.Tree.{leaf_of}
use Rattle.tao_model.specs.Events.{word_of, word_at}
use Rattle.tao_model.specs.Requests.{is_real, position, position_word}
use Rattle.tao_model.specs.Lawful.{IsOpening, FollowsLawfully}
use Rattle.tao_model.specs.OneMore.{with_one_more}
use Rattle.tao_held.specs.Held.{block_on}

-- each block has the word of its position
pub record TellsPositions (o : Opening) (es : List Event) (words : List ℕ) : Type 0 where
  pub len : length words ≡ o.shape.n
  pub each : (b : ℕ) → b < o.shape.n → slice_index words b ≡ word_at o es (position_word o es b)

-- the words once the path of an arrival is admitted: the block of a real one gets its word
abbrev pub words_done : List Event → ℕ → List ℕ → List ℕ
words_done es i words = if is_real es i then slice_set words (block_on es i) (word_of es i) else words

-- How one more event changes them: only the Done of a real arrival changes a word. `leaves` says that the words give the positions.
pub record PositionsMove (o : Opening) (events : List Event) (words : List ℕ) : Type 0 where
  pub leaves : (b : ℕ) → b < o.shape.n → leaf_of o.shape.l (slice_index words b) ≡ position o (reverse events) b
  pub arrive : (client : ℕ) (op : Op) (word : ℕ) → FollowsLawfully o (with_one_more events (Arrive client op word)) → TellsPositions o (with_one_more events (Arrive client op word)) words
  pub done : (i : ℕ) (taken : List Bucket) → FollowsLawfully o (with_one_more events (Done i taken))
      → TellsPositions o (with_one_more events (Done i taken)) (words_done (reverse events) i words)
  pub issue : (version nonce : ℕ) (buckets : List Bucket) → TellsPositions o (with_one_more events (Issue version nonce buckets)) words
  pub acked : (version : ℕ) → TellsPositions o (with_one_more events (Acked version)) words
  pub fault : (cause : Cause) → TellsPositions o (with_one_more events (Fault cause)) words

-- this holds for all words that tell a record's positions
abbrev pub PositionsAreTold : Type 0
PositionsAreTold = (o : Opening) (events : List Event) (words : List ℕ) → TellsPositions o (reverse events) words → PositionsMove o events words

-- at the start these are the first words
abbrev pub PositionsAtStart : Type 0
PositionsAtStart = (o : Opening) → IsOpening o → TellsPositions o [] o.words
