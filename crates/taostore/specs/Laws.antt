-- What follows from how the program ends: each answer has its cause, and each cause has its answer.
use Rattle.std.specs.Prelude.{◌≡◌, ◌⊎◌, ℕ, List, [], ◌∷◌, codes, Option, IsNone}
use Rattle.std.specs.Io.KnownBytes.{Keeps}
use Rattle.tao_base.specs.Causes.{Rose}
use Rattle.tao_record.specs.State.{RecordState}
use Rattle.tao_text.specs.declared.script.Script.{Script}
use Rattle.taostore.specs.Endings.{EndsAs, PlayEnds, RefusedEnds, HoldsPlayed, HoldsUnplayed, TakesPlayed, TakesUnplayed, kept_history}
use Rattle.taostore.specs.Output.{PutsMore}
use Rattle.taostore.specs.Words.{AskToPlay, AreRefused}

module _ {S K : Type 0} (left : S → Option (List ℕ)) (faults : S → ℕ) (put : K → Option (List ℕ)) (sunk : K → ℕ) where
  module _ (words : List (List ℕ)) (source source' : S) (sink sink' : K) (status : ℕ) where
    -- how the program ends by its words, which are refused or ask to play
    pub record ProgramEnds (kept : Option RecordState) : Type 0 where
      pub refused : AreRefused words → EndsAs put sunk sink sink' (RefusedEnds left faults source source' (kept_history kept)) status
      pub play : AskToPlay words → EndsAs put sunk sink sink' (PlayEnds left faults source source' (kept_history kept)) status

    -- each answer has its cause
    pub record AnswersHaveCauses : Type 0 where
      pub known : (status ≡ 0) ⊎ ((status ≡ 2) ⊎ ((status ≡ 3) ⊎ ((status ≡ 4) ⊎ ((status ≡ 5) ⊎ (status ≡ 8)))))
      pub done : status ≡ 0 → AskToPlay words × ((script : Script) × TakesPlayed left faults source source' script)
      pub refused : status ≡ 2 → AreRefused words
      pub unplayed : status ≡ 3 → AskToPlay words × TakesUnplayed left faults source source'
      pub source_failed : status ≡ 4 → Rose (faults source) (faults source')
      pub sink_failed : status ≡ 5 → Rose (sunk sink) (sunk sink')
      pub unfailed : (status ≡ 0) ⊎ ((status ≡ 2) ⊎ (status ≡ 3)) → (faults source' ≡ faults source) × (sunk sink' ≡ sunk sink)

    -- each cause has its answer, if memory suffices: the words first, then the source, then the grammar; the sink's before all
    pub record CausesHaveAnswers : Type 0 where
      pub refused : AreRefused words → ¬ Rose (sunk sink) (sunk sink') → status ≡ 2
      pub unfailed : AskToPlay words → ¬ Rose (faults source) (faults source') → ¬ Rose (sunk sink) (sunk sink')
          → (status ≡ 0) ⊎ ((status ≡ 3) ⊎ (status ≡ 8))
      pub source_failed : AskToPlay words → ¬ (faults source' ≡ faults source) → ¬ Rose (sunk sink) (sunk sink')
          → (status ≡ 4) ⊎ (status ≡ 8)
      pub unplayed : AskToPlay words → HoldsUnplayed left source → ¬ Rose (faults source) (faults source') → ¬ Rose (sunk sink) (sunk sink')
          → (status ≡ 3) ⊎ (status ≡ 8)
      pub played : AskToPlay words → (script : Script) → HoldsPlayed left source script → ¬ Rose (faults source) (faults source')
          → ¬ Rose (sunk sink) (sunk sink') → (status ≡ 0) ⊎ (status ≡ 8)
      pub sink_failed : ¬ (sunk sink' ≡ sunk sink) → status ≡ 5

    -- what was put before stays, and refused words take and keep nothing
    pub record TouchesLittle (kept : Option RecordState) : Type 0 where
      pub appended : PutsMore put sink sink'
      pub untouched : AreRefused words → Keeps (left source) (left source') × (faults source' ≡ faults source)
      pub none : AreRefused words → IsNone kept

  -- `play_top` ends as the program does on the one word `play`
  abbrev pub PlayIsProgram : Type 0
  PlayIsProgram = (source source' : S) (sink sink' : K) (status : ℕ) (kept : Option RecordState)
      → EndsAs put sunk sink sink' (PlayEnds left faults source source' (kept_history kept)) status
      → ProgramEnds (codes "play" ∷ []) source source' sink sink' status kept

  -- however the program ends
  abbrev pub HaveCauses : Type 0
  HaveCauses = (words : List (List ℕ)) (source source' : S) (sink sink' : K) (status : ℕ) (kept : Option RecordState)
      → ProgramEnds words source source' sink sink' status kept
      → AnswersHaveCauses words source source' sink sink' status

  abbrev pub HaveAnswers : Type 0
  HaveAnswers = (words : List (List ℕ)) (source source' : S) (sink sink' : K) (status : ℕ) (kept : Option RecordState)
      → ProgramEnds words source source' sink sink' status kept
      → CausesHaveAnswers words source source' sink sink' status

  abbrev pub TouchLittle : Type 0
  TouchLittle = (words : List (List ℕ)) (source source' : S) (sink sink' : K) (status : ℕ) (kept : Option RecordState)
      → ProgramEnds words source source' sink sink' status kept
      → TouchesLittle words source source' sink sink' status kept
