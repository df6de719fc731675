-- Laws of two plays of one schedule: records with equal parameters and steps, whose operations may differ. Events are oldest first.
use Rattle.std.specs.Prelude.{◌≡◌, ℕ, ◌+◌, ◌<◌, Bool, List, reverse, take}
use Rattle.tao_base.specs.declared.session.Event.{Event}
use Rattle.tao_base.specs.Session.{Opening, History}
use Rattle.tao_model.specs.Events.{arrived}
use Rattle.tao_model.specs.Requests.{is_real, next_word, word_used, fetched_leaf}
use Rattle.tao_model.specs.Replies.{ops}
use Rattle.tao_model.specs.Lawful.{FollowsLawfully}
use Rattle.tao_model.specs.Trace.{requests, request_trace}
use Rattle.tao_model.specs.Shapes.{IsOneShape, twin_permutation, HasMovedWords}
use Rattle.tao_laws.specs.TapeWords.{AreInRange}

-- Both agree on which arrivals are real, the place that each uses, and the next place of each block.
pub record HasSameKinds (first second : History) : Type 0 where
  pub real : (i : ℕ) → is_real (reverse first.events) i ≡ is_real (reverse second.events) i
  pub used : (i : ℕ) → word_used first.opening (reverse first.events) i ≡ word_used second.opening (reverse second.events) i
  pub next : (block : ℕ) → next_word first.opening (reverse first.events) block ≡ next_word second.opening (reverse second.events) block

-- Two records of one shape with the same operations agree in this, whatever their words are.
abbrev pub KindsNeedNoWord : Type 0
KindsNeedNoWord = (first second : History) → IsOneShape first second → ops first.events ≡ ops second.events → HasSameKinds first second

-- where a place of the first tape goes in the second
abbrev pub moved : History → History → ℕ → ℕ
moved first second place = twin_permutation first.opening (reverse first.events) second.opening (reverse second.events) place

-- the numbers below n are permuted
pub record IsOneToOne (n : ℕ) (move : ℕ → ℕ) : Type 0 where
  pub within : (place : ℕ) → place < n → move place < n
  pub once : (place other : ℕ) → place < n → other < n → move place ≡ move other → place ≡ other
  pub onto : (place : ℕ) → place < n → (known : ℕ) × (known < n) × (move known ≡ place)

-- The twin permutation permutes the places of the tape. It takes an arrival's place in the first play to its place in the second.
pub record IsTwin (first second : History) : Type 0 where
  pub one_to_one : IsOneToOne (first.opening.shape.n + arrived (reverse first.events)) (moved first second)
  pub used : (i : ℕ) → i < arrived (reverse first.events) → moved first second (word_used first.opening (reverse first.events) i) ≡ word_used second.opening (reverse second.events) i

-- Two records of one shape with operations in range have such a twin permutation.
abbrev pub PermutationIsOneToOne : Type 0
PermutationIsOneToOne = (first second : History) → AreInRange first.opening (reverse first.events) → AreInRange second.opening (reverse second.events)
    → IsOneShape first second → IsTwin first second

-- the arrivals of the first fetch the same leaves in the second; the events are newest first
abbrev pub LeavesAgree : Opening → List Event → Opening → List Event → Type 0
LeavesAgree o es other others = (i : ℕ) → i < arrived es → fetched_leaf o es i ≡ fetched_leaf other others i

-- The server sees the same: the leaf of each fetch, the requests of each prefix, and the whole traces.
pub record HasEqualTraces (first second : History) : Type 0 where
  pub leaves : LeavesAgree first.opening (reverse first.events) second.opening (reverse second.events)
  pub fronts : (count : ℕ) → requests first.opening (reverse (take count first.events)) ≡ requests second.opening (reverse (take count second.events))
  pub whole : (again : List ℕ) (scanned : Bool) → request_trace first again scanned ≡ request_trace second again scanned

-- If the second tape has the first one's words, moved by the permutation, the server sees the same.
abbrev pub EqualTraces : Type 0
EqualTraces = (first second : History) → FollowsLawfully first.opening (reverse first.events) → FollowsLawfully second.opening (reverse second.events)
    → IsOneShape first second → HasMovedWords first.opening (reverse first.events) second.opening (reverse second.events) → HasEqualTraces first second

-- Then the server sees the same, if both fetch the same leaves.
abbrev pub LeavesTellTraces : Type 0
LeavesTellTraces = (first second : History) → FollowsLawfully first.opening (reverse first.events) → FollowsLawfully second.opening (reverse second.events)
    → IsOneShape first second → LeavesAgree first.opening (reverse first.events) second.opening (reverse second.events) → HasEqualTraces first second
