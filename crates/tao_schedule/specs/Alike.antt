-- Sessions that look alike to the server, whatever their operations. Moves and events are newest first.
use Rattle.std.specs.Prelude.{◌≡◌, ℕ, true, false, ◌||◌, List, ◌∷◌, ◌++◌, map}
use Rattle.tao_base.specs.declared.session.Event.{Event}
use Rattle.tao_base.specs.Session.{Opening}
use Rattle.tao_model.specs.Shapes.{steps_of}
use Rattle.tao_model.specs.Lawful.{FollowsLawfully}
use Rattle.tao_laws.specs.TwoPlays.{LeavesAgree}
use Rattle.tao_text.specs.declared.script.What.{What}
use Rattle.tao_schedule.specs.Moves.{Move, seen}
use Rattle.tao_schedule.specs.Schedules.{IsSchedule}
use Rattle.tao_schedule.specs.Steps.{is_misplaced, is_full, moves_of, rest_of, seen_step, asked_behind, IsStep, ArePlayed}

-- a session so far: its moves are allowed, and its events lawful
pub record IsSession (o : Opening) (ms : List Move) (es : List Event) : Type 0 where
  pub schedule : IsSchedule o ms es
  pub follows : FollowsLawfully o es

-- equal parameters and leaves, and equal moves except for the operations and words of arrivals
pub record AreAlike (o : Opening) (ms : List Move) (es : List Event) (other : Opening) (ns : List Move) (others : List Event) : Type 0 where
  pub shape : o.shape ≡ other.shape
  pub leaves : LeavesAgree o es other others
  pub moves : map seen ms ≡ map seen ns

-- Sessions that are alike have the same steps.
abbrev pub AlikeSteps : Type 0
AlikeSteps = (o : Opening) (ms : List Move) (es : List Event) (other : Opening) (ns : List Move) (others : List Event)
    → IsSession o ms es → IsSession other ns others → AreAlike o ms es other ns others → steps_of es ≡ steps_of others

-- a step in two sessions: equally misplaced, equally full, with the same rest and, if it isn't misplaced, the same moves
pub record IsStepAlike (o : Opening) (ms : List Move) (es : List Event) (other : Opening) (ns : List Move) (others : List Event) (what : What) : Type 0 where
  pub misplaced : is_misplaced o ms es what ≡ is_misplaced other ns others what
  pub full : is_full o es what ≡ is_full other others what
  pub rest : rest_of o es what ≡ rest_of other others what
  pub moves : (word : ℕ) → is_misplaced o ms es what ≡ false → moves_of o ms es word what ≡ moves_of other ns others word what

-- In sessions that are alike every step is alike.
abbrev pub AlikeTests : Type 0
AlikeTests = (o : Opening) (ms : List Move) (es : List Event) (other : Opening) (ns : List Move) (others : List Event) (what : What)
    → IsSession o ms es → IsSession other ns others → AreAlike o ms es other ns others → IsStepAlike o ms es other ns others what

-- Whether a step is misplaced or full doesn't depend on its operation.
abbrev pub TestsNeedNoOp : Type 0
TestsNeedNoOp = (o : Opening) (ms : List Move) (es : List Event) (what : What)
    → (is_misplaced o ms es (seen_step what) ≡ is_misplaced o ms es what) × (is_full o es (seen_step what) ≡ is_full o es what)

-- Playing a step of a schedule gives a schedule.
abbrev pub StepGoesOn : Type 0
StepGoesOn = (o : Opening) (word : ℕ → ℕ) (ms : List Move) (es : List Event) (what : What) (later : List Move) (now : List Event)
    → IsSchedule o ms es → IsStep o word ms es what later now → IsSchedule o later now

-- A step that was played was neither misplaced nor full.
abbrev pub PlayedIsAllowed : Type 0
PlayedIsAllowed = (o : Opening) (word : ℕ → ℕ) (ms : List Move) (es : List Event) (what : What) (later : List Move) (now : List Event)
    → IsStep o word ms es what later now → (is_misplaced o ms es what ≡ false) × (is_full o es what ≡ false)

-- Sessions stay alike by the same step, whatever its operation and word, if the new arrival (if any) fetches the same leaf.
abbrev pub AlikeGoOn : Type 0
AlikeGoOn = (o : Opening) (word : ℕ → ℕ) (ms : List Move) (es : List Event) (what : What) (later : List Move) (now : List Event)
    (other : Opening) (words : ℕ → ℕ) (ns : List Move) (others : List Event) (which : What) (newer : List Move) (thus : List Event)
    → IsSchedule o ms es → IsSchedule other ns others → FollowsLawfully o now → FollowsLawfully other thus
    → AreAlike o ms es other ns others → seen_step what ≡ seen_step which → IsStep o word ms es what later now → IsStep other words ns others which newer thus
    → LeavesAgree o (asked_behind word es what) other (asked_behind words others which) → AreAlike o later now other newer thus

-- One script has one schedule: two sessions of the same steps and words have the same moves and are alike.
abbrev pub OneSchedule : Type 0
OneSchedule = (o : Opening) (word : ℕ → ℕ) (steps : List What) (ms : List Move) (es : List Event) (other : Opening) (ns : List Move) (others : List Event)
    → o.shape ≡ other.shape → o.words ≡ other.words → FollowsLawfully o es → FollowsLawfully other others
    → ArePlayed o word steps ms es → ArePlayed other word steps ns others → (ms ≡ ns) × AreAlike o ms es other ns others

-- a prefix of a played session: its moves and events, and the events after it
pub record IsPlayedFront (o : Opening) (word : ℕ → ℕ) (steps : List What) (es : List Event) : Type 0 where
  pub moves : List Move
  pub events : List Event
  pub later : List Event
  pub played : ArePlayed o word steps moves events
  pub split : es ≡ later ++ events

-- A session that has played more steps has a prefix that played these.
abbrev pub PlayedFront : Type 0
PlayedFront = (o : Opening) (word : ℕ → ℕ) (rest steps : List What) (ms : List Move) (es : List Event) → ArePlayed o word (rest ++ steps) ms es
    → IsPlayedFront o word steps es

-- So a step that is misplaced or full after these steps always is: no session of the same words plays it.
abbrev pub MisplacedStays : Type 0
MisplacedStays = (o : Opening) (word : ℕ → ℕ) (rest steps : List What) (what : What) (ms : List Move) (es : List Event) (other : Opening) (ns : List Move) (others : List Event)
    → o.shape ≡ other.shape → o.words ≡ other.words → FollowsLawfully o es → FollowsLawfully other others
    → ArePlayed o word steps ms es → (is_misplaced o ms es what || is_full o es what) ≡ true → ArePlayed other word (rest ++ what ∷ steps) ns others → ⊥
