-- How the commands end: each with a last line and a status, and with what has then become of the source.
use Rattle.std.specs.Prelude.{◌≡◌, ◌⊎◌, ℕ, ◌+◌, ◌^◌, List, [], ◌∷◌, ◌++◌, take, reverse, codes, decimal, Option, Some, None, IfSome, ⊤}
use Rattle.std.specs.Option.{option_map}
use Rattle.std.specs.Io.KnownBytes.{Consumes, IsAtEnd, Keeps}
use Rattle.tao_base.specs.Session.{History}
use Rattle.tao_model.specs.Lawful.{FollowsLawfully}
use Rattle.tao_model.specs.Replies.{array_now}
use Rattle.tao_model.specs.Transcript.{transcript}
use Rattle.tao_record.specs.State.{RecordState}
use Rattle.tao_text.specs.Kinds.{kind_name}
use Rattle.tao_text.specs.Texts.{FirstBreak, IsScriptText}
use Rattle.tao_text.specs.declared.faults.TextFault.{TextFault}
use Rattle.tao_text.specs.declared.faults.TextKind.{TextKind}
use Rattle.tao_trace.specs.WholeLines.{AreFirstLines}
use Rattle.tao_text.specs.declared.script.Script.{Script}
use Rattle.tao_base.specs.Causes.{Rose}
use Rattle.taostore.specs.declared.output.End.{End}
use Rattle.taostore.specs.declared.output.End.TheVariants.{Done, Refused, Broken, Unbuilt, SourceFailed, NoMemory}
use Rattle.taostore.specs.Input.{TakesPrefix, TakesInput}
use Rattle.tao_base.specs.Transfers.{PutsAll, PutsPart}
use Rattle.taostore.specs.Playing.{IsPlayed}
use Rattle.taostore.specs.declared.session.Played.{Played}
use Rattle.taostore.specs.declared.session.Played.TheVariants.{Whole, Part, Nothing}
use Rattle.taostore.specs.Unbuilt.{unbuilt_line}

-- the exit status
abbrev pub status_of : End → ℕ
status_of Done = 0
status_of Refused = 2
status_of (Broken fault) = 3
status_of (Unbuilt line) = 3
status_of SourceFailed = 4
status_of NoMemory = 8

-- the last line of a script that isn't played: the line at which that shows, and why
abbrev pub break_line : ℕ → List ℕ → List ℕ
break_line line name = codes "end 3 " ++ (decimal line ++ (codes " " ++ (name ++ 10 ∷ [])))

-- the last line
abbrev pub end_line : End → List ℕ
end_line Done = codes "end 0" ++ 10 ∷ []
end_line Refused = codes "end 2" ++ 10 ∷ []
end_line (Broken fault) = break_line fault.line (kind_name fault.kind)
end_line (Unbuilt line) = break_line line (codes "Unbuilt")
end_line SourceFailed = codes "end 4" ++ 10 ∷ []
end_line NoMemory = codes "end 8" ++ 10 ∷ []

-- How a command ends: a field for each status, with its cause and what was written. `Cause end text` is the command's own: why it may end so,
-- what it has then taken and kept, and the text that it writes.
module _ {K : Type 0} (put : K → Option (List ℕ)) (faults : K → ℕ) (old new : K) (Cause : End → List ℕ → Type 0) where
  -- there is a cause to end so, and the text was written whole
  abbrev pub Writes : End → Type 0
  Writes end = (text : List ℕ) × Cause end text × PutsAll put faults old new text

  pub record EndsAs (status : ℕ) : Type 0 where
    pub done : status ≡ 0 → Writes Done
    pub refused : status ≡ 2 → Writes Refused
    pub unplayed : status ≡ 3 → ((fault : TextFault) × Writes (Broken fault)) ⊎ ((line : ℕ) × Writes (Unbuilt line))
    pub source_failed : status ≡ 4 → Writes SourceFailed
    -- of the text of one of the other ends only a part was written
    pub sink_failed : status ≡ 5 → (end : End) × (text : List ℕ) × Cause end text × PutsPart put faults old new text
    pub no_memory : status ≡ 8 → Writes NoMemory
    pub known : (status ≡ 0) ⊎ ((status ≡ 2) ⊎ ((status ≡ 3) ⊎ ((status ≡ 4) ⊎ ((status ≡ 5) ⊎ (status ≡ 8)))))

-- the end of a call whose text wasn't read: its first break, or memory ran out
abbrev pub IsEndOf : TextFault → End → Type 0
IsEndOf fault end = ((fault.kind ≡ TextKind.Memory) × (end ≡ NoMemory)) ⊎ ((¬ (fault.kind ≡ TextKind.Memory)) × (end ≡ Broken fault))

-- what is kept of the session, if it was opened
abbrev pub kept_history : Option RecordState → Option History
kept_history kept = option_map (λ r. r.history) kept

-- how the text of a session ends that was played to its end: with its whole transcript, or where memory runs out with whole lines of it
abbrev pub SessionEnds : History → List (List ℕ) → End → List ℕ → Type 0
SessionEnds h blocks Done text = text ≡ transcript h 0 (Some blocks) (end_line Done)
SessionEnds h blocks Refused text = ⊥
SessionEnds h blocks (Broken fault) text = ⊥
SessionEnds h blocks (Unbuilt line) text = ⊥
SessionEnds h blocks SourceFailed text = ⊥
SessionEnds h blocks NoMemory text = (lines : List ℕ) × AreFirstLines lines (transcript h 0 (Some blocks) [])
    × (text ≡ lines ++ end_line NoMemory)

-- the array after all arrivals of a session
abbrev pub final_array : History → List (List ℕ)
final_array session = array_now session.opening (reverse session.events)

-- what playing came to was kept, and its text ends so
abbrev pub PlayedEnds : Played → Option History → End → List ℕ → Type 0
PlayedEnds (Whole session blocks) kept end text = (kept ≡ Some session.history) × SessionEnds session.history blocks end text
PlayedEnds (Part session) kept end text = (kept ≡ Some session.history) × (end ≡ NoMemory) × (text ≡ end_line NoMemory)
PlayedEnds Nothing kept end text = (kept ≡ None) × (end ≡ NoMemory) × (text ≡ end_line NoMemory)

-- a session that was played to its end went on lawfully
abbrev pub IsLawfullyPlayed : Played → Type 0
IsLawfullyPlayed (Whole session blocks) = FollowsLawfully session.history.opening (reverse session.history.events)
IsLawfullyPlayed (Part session) = ⊤
IsLawfullyPlayed Nothing = ⊤

-- all was played: the record is kept, and its text ends so
pub record KeepsAll (script : Script) (kept : Option History) (end : End) (text : List ℕ) : Type 0 where
  pub session : History
  pub keeps : kept ≡ Some session
  pub played : IsPlayed script script.steps session
  pub told : SessionEnds session (final_array session) end text

-- memory ran out before all was played: if a record is kept, it is that of the first steps; nothing of it is told
pub record KeepsPart (script : Script) (kept : Option History) (text : List ℕ) : Type 0 where
  pub part : IfSome kept (λ session. (count : ℕ) × IsPlayed script (take count script.steps) session)
  pub told : text ≡ end_line NoMemory

-- how the play of a script ends, what it keeps, and its text
abbrev pub ScriptEnds : Script → Option History → End → List ℕ → Type 0
ScriptEnds script kept Done text = KeepsAll script kept Done text
ScriptEnds script kept Refused text = ⊥
ScriptEnds script kept (Broken fault) text = ⊥
ScriptEnds script kept (Unbuilt line) text = ⊥
ScriptEnds script kept SourceFailed text = ⊥
ScriptEnds script kept NoMemory text = KeepsPart script kept text ⊎ KeepsAll script kept NoMemory text

module _ {S : Type 0} (left : S → Option (List ℕ)) (faults : S → ℕ) (old new : S) where
  -- all that the source had left is the text of the script
  pub record TakesScript (script : Script) : Type 0 where
    pub bytes : List ℕ
    pub taken : Consumes (left old) (left new) bytes
    pub at_end : IsAtEnd (left new)
    pub unfailed : faults new ≡ faults old
    pub read : IsScriptText bytes script

  -- what the source had left, or the first 2 ^ 24 + 1 bytes of it, is no script, with this first break
  pub record TakesBroken (fault : TextFault) : Type 0 where
    pub bytes : List ℕ
    pub taken : TakesInput left old new (2 ^ 24 + 1) bytes
    pub unfailed : faults new ≡ faults old
    pub broken : FirstBreak bytes fault

  -- what was taken is no script, or one that can't be played yet
  abbrev pub TakesUnplayed : Type 0
  TakesUnplayed = ((fault : TextFault) × TakesBroken fault)
      ⊎ ((script : Script) × (line : ℕ) × TakesScript script × (unbuilt_line script ≡ Some line))

  -- what was taken is a script that can be played
  abbrev pub TakesPlayed : Script → Type 0
  TakesPlayed script = TakesScript script × (unbuilt_line script ≡ None)

  -- refused words are told, and nothing is taken or kept
  pub record RefusedEnds (kept : Option History) (end : End) (text : List ℕ) : Type 0 where
    pub refusal : end ≡ Refused
    pub untouched : Keeps (left old) (left new)
    pub unfailed : faults new ≡ faults old
    pub none : kept ≡ None
    pub told : text ≡ end_line Refused

  -- why a play ends so: what it has taken and kept, and its text
  abbrev pub PlayEnds : Option History → End → List ℕ → Type 0
  PlayEnds kept Done text = (script : Script) × TakesPlayed script × ScriptEnds script kept Done text
  PlayEnds kept Refused text = ⊥
  PlayEnds kept (Broken fault) text = TakesBroken fault × (kept ≡ None) × (text ≡ end_line (Broken fault))
  PlayEnds kept (Unbuilt line) text = ((script : Script) × TakesScript script × (unbuilt_line script ≡ Some line))
      × (kept ≡ None) × (text ≡ end_line (Unbuilt line))
  PlayEnds kept SourceFailed text = TakesPrefix left old new × Rose (faults old) (faults new)
      × (kept ≡ None) × (text ≡ end_line SourceFailed)
  PlayEnds kept NoMemory text = TakesPrefix left old new
      × (((kept ≡ None) × (text ≡ end_line NoMemory)) ⊎ ((script : Script) × TakesPlayed script × ScriptEnds script kept NoMemory text))

-- what the source holds is the text of this script, and it can be played
abbrev pub HoldsPlayed : {S : Type 0} → (S → Option (List ℕ)) → S → Script → Type 0
HoldsPlayed left source script = (bytes : List ℕ) × (left source ≡ Some bytes) × IsScriptText bytes script × (unbuilt_line script ≡ None)

-- what the source holds is no script, or the text of one that can't be played yet
abbrev pub HoldsUnplayed : {S : Type 0} → (S → Option (List ℕ)) → S → Type 0
HoldsUnplayed left source = (bytes : List ℕ) × (left source ≡ Some bytes)
    × (((fault : TextFault) × FirstBreak bytes fault) ⊎ ((script : Script) × (line : ℕ) × IsScriptText bytes script × (unbuilt_line script ≡ Some line)))
