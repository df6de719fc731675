-- A session replayed with other operations, and a second session that plays it. Events, moves and steps are newest first.
use Rattle.std.specs.Prelude.{◌≡◌, ℕ, ◌+◌, ◌<◌, false, if◌then◌else◌, List, [], ◌∷◌, ◌++◌, reverse, take, length, slice_index, slice_index_or}
use Rattle.tao_base.specs.declared.calls.Op.{Op}
use Rattle.tao_base.specs.declared.session.Event.{Event}
use Rattle.tao_base.specs.Session.{Opening}
use Rattle.tao_model.specs.Events.{arrived, word_at}
use Rattle.tao_model.specs.Shapes.{steps_of, IsOneShape, HasMovedWords}
use Rattle.tao_model.specs.Lawful.{FollowsLawfully}
use Rattle.tao_laws.specs.TwoPlays.{LeavesAgree, HasEqualTraces}
use Rattle.tao_laws.specs.Retold.{retold, retold_place}
use Rattle.tao_laws.specs.TapeWords.{AreInRange}
use Rattle.tao_text.specs.declared.script.What.{What}
use Rattle.tao_text.specs.Breaks.{is_arrival}
use Rattle.tao_schedule.specs.Moves.{Move}
use Rattle.tao_schedule.specs.Steps.{is_misplaced, is_full, ArePlayed}
use Rattle.tao_schedule.specs.Drains.{AreDrained}
use Rattle.tao_schedule.specs.Alike.{AreAlike}

-- the tape of the replay: the operations are in range, and each word is where it goes
pub record IsTwinTape (asks : ℕ → Op) (tape : ℕ → ℕ) (o : Opening) (es : List Event) : Type 0 where
  pub in_range : AreInRange o (retold asks es)
  pub moved : (place : ℕ) → place < o.shape.n + arrived es → tape (retold_place asks o es place) ≡ word_at o es place

-- a session has these operations and the words of this tape
pub record IsTold (asks : ℕ → Op) (tape : ℕ → ℕ) (o : Opening) (es : List Event) : Type 0 where
  pub asked : retold asks es ≡ es
  pub words : (place : ℕ) → place < o.shape.n + arrived es → word_at o es place ≡ tape place

-- A prefix of a lawful session fetches the same leaves as a session of the same steps with the replay's operations and tape.
abbrev pub TwinLeaves : Type 0
TwinLeaves = (asks : ℕ → Op) (tape : ℕ → ℕ) (o : Opening) (later es : List Event) (other : Opening) (others : List Event)
    → FollowsLawfully o (later ++ es) → IsTwinTape asks tape o (later ++ es) → o.shape ≡ other.shape → steps_of es ≡ steps_of others → IsTold asks tape other others
    → LeavesAgree o es other others

-- how many arrivals these steps have
abbrev pub arrivals_in : List What → ℕ
arrivals_in [] = 0
arrivals_in (what ∷ steps) = if is_arrival what then arrivals_in steps + 1 else arrivals_in steps

-- a step with this operation instead of its own
abbrev pub with_op : Op → What → What
with_op x (What.Do client op) = What.Do client x
with_op x (What.A client op) = What.A client x
with_op x (What.Read fetch depth) = What.Read fetch depth
with_op x (What.Done fetch) = What.Done fetch
with_op x (What.Put version bucket) = What.Put version bucket
with_op x (What.Ack version) = What.Ack version

-- the steps with another operation for each arrival
abbrev pub retold_steps : (ℕ → Op) → List What → List What
retold_steps asks [] = []
retold_steps asks (what ∷ steps) = with_op (asks (arrivals_in steps)) what ∷ retold_steps asks steps

-- The second of two plays takes its first words and each arrival's word from the tape, in order.
pub record TakesTape (tape : ℕ → ℕ) (o : Opening) (word : ℕ → ℕ) : Type 0 where
  pub first : (block : ℕ) → block < o.shape.n → slice_index o.words block ≡ tape block
  pub next : (i : ℕ) → word i ≡ tape (o.shape.n + i)

-- A session that has played these steps of the replay is alike to the prefix of the first session that has played them.
abbrev pub TwinIsAlike : Type 0
TwinIsAlike = (asks : ℕ → Op) (tape : ℕ → ℕ) (o : Opening) (word : ℕ → ℕ) (steps : List What) (ms : List Move) (later es : List Event)
    (other : Opening) (words : ℕ → ℕ) (ns : List Move) (others : List Event)
    → FollowsLawfully o (later ++ es) → IsTwinTape asks tape o (later ++ es) → o.shape ≡ other.shape → TakesTape tape other words → FollowsLawfully other others
    → ArePlayed o word steps ms es → ArePlayed other words (retold_steps asks steps) ns others → AreAlike o ms es other ns others

-- So a step that the first one has played is neither misplaced nor full when the second comes to it.
abbrev pub TwinMeetsNoFault : Type 0
TwinMeetsNoFault = (asks : ℕ → Op) (tape : ℕ → ℕ) (o : Opening) (word : ℕ → ℕ) (rest : List What) (what : What) (steps : List What) (ms : List Move) (later es : List Event)
    (other : Opening) (words : ℕ → ℕ) (ns : List Move) (others : List Event)
    → FollowsLawfully o (later ++ es) → IsTwinTape asks tape o (later ++ es) → o.shape ≡ other.shape → TakesTape tape other words → FollowsLawfully other others
    → ArePlayed o word (rest ++ what ∷ steps) ms es → ArePlayed other words (retold_steps asks steps) ns others
    → (is_misplaced other ns others (with_op (asks (arrivals_in steps)) what) ≡ false) × (is_full other others (with_op (asks (arrivals_in steps)) what) ≡ false)

-- a script with another operation for each arrival, the oldest step first; n arrivals come before
abbrev pub retold_script : (ℕ → Op) → ℕ → List What → List What
retold_script asks n [] = []
retold_script asks n (what ∷ rest) = with_op (asks n) what ∷ retold_script asks (if is_arrival what then n + 1 else n) rest

-- The same for scripts, the oldest step first: if the first play has played the whole script, every step of the replay is allowed.
abbrev pub TwinScriptIsAllowed : Type 0
TwinScriptIsAllowed = (asks : ℕ → Op) (tape : ℕ → ℕ) (o : Opening) (word : ℕ → ℕ) (script : List What) (k : ℕ) (what : What) (ms : List Move) (later es : List Event)
    (other : Opening) (words : ℕ → ℕ) (ns : List Move) (others : List Event)
    → FollowsLawfully o (later ++ es) → IsTwinTape asks tape o (later ++ es) → o.shape ≡ other.shape → TakesTape tape other words → FollowsLawfully other others
    → ArePlayed o word (reverse script) ms es → k < length script → ArePlayed other words (reverse (take k (retold_script asks 0 script))) ns others
    → (is_misplaced other ns others (slice_index_or (retold_script asks 0 script) k what) ≡ false)
    × (is_full other others (slice_index_or (retold_script asks 0 script) k what) ≡ false)

-- two plays look alike: the same steps, the first one's words moved, the same stores sent again, and the same trace
pub record LooksAlike (o : Opening) (es : List Event) (again : List ℕ) (other : Opening) (others : List Event) (too : List ℕ) : Type 0 where
  pub again_same : again ≡ too
  pub one_shape : IsOneShape (record { opening = o; events = reverse es }) (record { opening = other; events = reverse others })
  pub moved : HasMovedWords o es other others
  pub traces : HasEqualTraces (record { opening = o; events = reverse es }) (record { opening = other; events = reverse others })

-- Two drained plays look alike to the server if the second replays the first one's steps with its words moved.
abbrev pub TwinsLookAlike : Type 0
TwinsLookAlike = (asks : ℕ → Op) (tape : ℕ → ℕ) (o : Opening) (word : ℕ → ℕ) (steps : List What) (ms : List Move) (es : List Event) (again : List ℕ) (later : List Move) (now : List Event)
    (other : Opening) (words : ℕ → ℕ) (ns : List Move) (others : List Event) (too : List ℕ) (newer : List Move) (thus : List Event)
    → FollowsLawfully o now → IsTwinTape asks tape o now → o.shape ≡ other.shape → TakesTape tape other words → FollowsLawfully other thus
    → ArePlayed o word steps ms es → AreDrained o ms es again later now
    → ArePlayed other words (retold_steps asks steps) ns others → AreDrained other ns others too newer thus
    → LooksAlike o now again other thus too
