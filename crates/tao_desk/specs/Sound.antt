-- What holds of a desk and of its record after each call.
use Rattle.std.specs.Prelude.{◌≡◌, ℕ, ◌+◌, ◌<◌, ◌≤◌, true, List, reverse}
use Rattle.tao_base.specs.Session.{Opening, History}
use Rattle.tao_base.specs.declared.session.Event.{Event}
use Rattle.tao_base.specs.Tree.{node_count}
use Rattle.tao_base.specs.Buckets.{Rises}
use Rattle.tao_model.specs.Events.{arrived, word_at}
use Rattle.tao_model.specs.Lawful.{IsLawful}
use Rattle.tao_laws.specs.SettledValues.{settled_value}
use Rattle.tao_model.specs.Replies.{plain_reply}
use Rattle.tao_model.specs.Requests.{position, is_settled}
use Rattle.tao_model.specs.Residence.{is_resident, last_touch, newest_version, Unaltered}
use Rattle.tao_flush.specs.Blocks.{IsStash, AreNodeEntries}
use Rattle.tao_model.specs.FreshCopy.{FreshCopy}
use Rattle.tao_held.specs.Held.{held, served_answer, newest_entries, is_recent, WritesHeld}
use Rattle.tao_contents.specs.CleanLaws.{CleanResidents}
use Rattle.tao_fresh.specs.FreshLaws.{present, FreshWritesOf}
use Rattle.tao_tables.specs.Tables.{cover_count}
use Rattle.tao_images.specs.Answers.{IsUnaltered}
use Rattle.tao_images.specs.Honesty.{HasTagOf}
use Rattle.tao_holdings.specs.Holding.{HoldingsState, is_held, contents_in, count_in, touch_in, version_in, leaf_by}
use Rattle.tao_desk.specs.State.{DeskState}

-- A session's record: lawful, on the tape's words, with true write-backs of what is held, and with the tags of what was written. If no
-- fetched bucket was forged, all writes are fresh and each settled arrival is answered as by a plain array.
pub record IsSoundRecord (word : List ℕ → ℕ → ℕ) (key source : List ℕ) (h : History) : Type 0 where
  pub lawful : IsLawful h
  pub words : (j : ℕ) → j < h.opening.shape.n + arrived (reverse h.events) → word_at h.opening (reverse h.events) j ≡ word source j
  pub writes : WritesHeld h.opening (reverse h.events)
  pub tags : Unaltered (HasTagOf key h.opening.shape) h.opening (reverse h.events)
  pub fresh_writes : IsUnaltered key h → FreshWritesOf h.opening (reverse h.events)
  pub answers : IsUnaltered key h → (i : ℕ) → i < arrived (reverse h.events) → is_settled (reverse h.events) i ≡ true
      → served_answer h.opening (reverse h.events) i ≡ plain_reply h.opening (reverse h.events) i

-- the numbers of each node are the record's: fetches under way that cover it, its last touch, its newest version
pub record TellsNumbers (o : Opening) (es : List Event) (st : HoldingsState) : Type 0 where
  pub counts : (w : ℕ) → count_in st w ≡ cover_count o es w
  pub touches : (w : ℕ) → touch_in st w ≡ last_touch o es w
  pub versions : (w : ℕ) → version_in st w ≡ newest_version es w

-- the present contents of all nodes, and the stash, are entries of this store in rising id
pub record AreContentsInForm (o : Opening) (es : List Event) : Type 0 where
  pub nodes : (w : ℕ) → 1 ≤ w → w ≤ node_count o.shape.l → AreNodeEntries o.shape (present o es w)
  pub rising : (w : ℕ) → 1 ≤ w → w ≤ node_count o.shape.l → Rises 0 (present o es w)
  pub stash : IsStash o.shape (held o es 0)

-- A desk: its record is sound, all that it holds is as the record tells, and if no fetched bucket was forged, each block has one
-- newest copy.
pub record IsSound (word : List ℕ → ℕ → ℕ) (d : DeskState) : Type 0 where
  pub about : IsSoundRecord word d.key d.source d.history
  pub residents : (w : ℕ) → is_held d.holdings w ≡ is_resident d.history.opening (reverse d.history.events) w
  pub contents : (w : ℕ) → contents_in d.holdings w ≡ held d.history.opening (reverse d.history.events) w
  pub positions : (b : ℕ) → b < d.history.opening.shape.n → leaf_by d.holdings b ≡ position d.history.opening (reverse d.history.events) b
  pub numbers : TellsNumbers d.history.opening (reverse d.history.events) d.holdings
  pub in_form : AreContentsInForm d.history.opening (reverse d.history.events)
  pub clean : CleanResidents (λ w. is_resident d.history.opening (reverse d.history.events) w) (λ w. is_recent d.history.opening (reverse d.history.events) w)
      (λ w. held d.history.opening (reverse d.history.events) w) (λ w. newest_entries d.history.opening (reverse d.history.events) w)
  pub fresh : IsUnaltered d.key d.history
      → FreshCopy d.history.opening.shape (λ b. position d.history.opening (reverse d.history.events) b) (λ b. settled_value d.history.opening (reverse d.history.events) b)
      (present d.history.opening (reverse d.history.events))
