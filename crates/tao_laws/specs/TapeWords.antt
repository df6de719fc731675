-- Laws of words: no word of the tape is used twice. A record's events are oldest first.
use Rattle.std.specs.Prelude.{◌≢◌, ℕ, ◌+◌, ◌<◌, ◌≤◌, List, [], ◌∷◌, reverse, ⊤}
use Rattle.tao_base.specs.declared.session.Event.{Event}
use Rattle.tao_base.specs.declared.session.Event.TheVariants.{Arrive, Done, Issue, Acked, Fault}
use Rattle.tao_base.specs.Session.{Opening}
use Rattle.tao_model.specs.Events.{arrived}
use Rattle.tao_model.specs.Requests.{next_word, word_used}
use Rattle.tao_model.specs.Lawful.{FollowsLawfully, IsInRange}

-- The store accepts each operation. The events are newest first.
abbrev pub AreInRange : Opening → List Event → Type 0
AreInRange o [] = ⊤
AreInRange o (Arrive client op word ∷ es) = AreInRange o es × IsInRange o.shape op
AreInRange o (Done arrival taken ∷ es) = AreInRange o es
AreInRange o (Issue version nonce buckets ∷ es) = AreInRange o es
AreInRange o (Acked version ∷ es) = AreInRange o es
AreInRange o (Fault cause ∷ es) = AreInRange o es

-- In a record that follows lawfully, all operations are in range.
abbrev pub LawfulIsInRange : Type 0
LawfulIsInRange = (o : Opening) (events : List Event) → FollowsLawfully o (reverse events) → AreInRange o (reverse events)

-- The places that n arrivals use and the next places of the blocks are pairwise distinct and on the tape.
pub record AreDistinct (blocks n : ℕ) (used next : ℕ → ℕ) : Type 0 where
  pub used_once : (i j : ℕ) → i < j → j < n → used i ≢ used j
  pub next_once : (b c : ℕ) → b < c → c < blocks → next b ≢ next c
  pub apart : (i b : ℕ) → i < n → b < blocks → used i ≢ next b
  pub used_below : (i : ℕ) → i < n → used i < blocks + n
  pub next_below : (b : ℕ) → b < blocks → next b < blocks + n

-- This holds if the operations are in range.
abbrev pub DistinctWords : Type 0
DistinctWords = (o : Opening) (events : List Event) → AreInRange o (reverse events)
    → AreDistinct o.shape.n (arrived (reverse events)) (word_used o (reverse events)) (next_word o (reverse events))

-- An arrival's word is on the tape when it comes: its own word or an earlier one.
abbrev pub WordsAreKnown : Type 0
WordsAreKnown = (o : Opening) (events : List Event) (i : ℕ) → AreInRange o (reverse events) → i < arrived (reverse events)
    → word_used o (reverse events) i ≤ o.shape.n + i
