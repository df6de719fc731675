-- A script ends as what playing came to, and a play ends as its script.
use Rattle.std.proofs.Math.Seq.{take-length}
use Rattle.std.proofs.Common.{◌≡◌, inl, inr, ℕ, List, Option, Some, IfSome, Result, Ok, Err, OnOk, OnErr, sym, ap, ◌∙◌, subst, take, length, reverse}
use Rattle.tao_base.specs.Session.{History}
use Rattle.tao_base.specs.declared.failures.NoMemory as failures
use Rattle.tao_plain_desk.specs.Whole.{DeskState, IsSound, started}
use Rattle.tao_model.specs.Replies.{array_now}
use Rattle.tao_text.specs.declared.script.Script.{Script}
use Rattle.tao_text.specs.declared.script.Step.{Step}
use Rattle.taostore.specs.declared.output.End.{End}
use Rattle.taostore.specs.declared.output.End.TheVariants.{Done, Refused, Broken, Unbuilt, SourceFailed, NoMemory}
use Rattle.taostore.specs.declared.session.Played.{Played}
use Rattle.taostore.specs.declared.session.Played.TheVariants.{Whole, Part, Nothing}
use Rattle.taostore.specs.Endings.{EndsAs, IsLawfullyPlayed, KeepsPart, PlayEnds, PlayedEnds, ScriptEnds, SessionEnds, TakesPlayed, final_array}
use Rattle.taostore.specs.Playing.{Closes, IsPart, IsPlayed, PlaysScript, PlaysSteps, first_blocks, tape_of}
use Rattle.taostore.proofs.Ends.{ends_for}

module _ (script : Script) (kept : Option History) where
  -- all was played
  whole_ends : (session : History) (end : End) (text : List ℕ) → kept ≡ Some session → IsPlayed script script.steps session → SessionEnds session (final_array session) end text
      → ScriptEnds script kept end text
  whole_ends session Done text keeps played told = record { session = session; keeps = keeps; played = played; told = told }
  whole_ends session Refused text keeps played told = absurd told
  whole_ends session (Broken fault) text keeps played told = absurd told
  whole_ends session (Unbuilt line) text keeps played told = absurd told
  whole_ends session SourceFailed text keeps played told = absurd told
  whole_ends session NoMemory text keeps played told = inr (record { session = session; keeps = keeps; played = played; told = told })

  -- memory ran out before
  part_ends : (end : End) (text : List ℕ) → KeepsPart script kept text → end ≡ NoMemory → ScriptEnds script kept end text
  part_ends end text keeps is = subst (λ e. ScriptEnds script kept e text) (sym is) (inl keeps)

  played_ends : (played : Played) → PlaysScript script played → (end : End) (text : List ℕ) → PlayedEnds played kept end text → ScriptEnds script kept end text
  played_ends (Whole session blocks) plays end text ends =
      whole_ends session.history end text ends.0 plays.0 (subst (λ array. SessionEnds session.history array end text) plays.1 ends.1)
  played_ends (Part session) plays end text ends =
      part_ends end text
      (record { part = subst (λ (k : Option History). IfSome k (λ h. (count : ℕ) × IsPlayed script (take count script.steps) h)) (sym ends.0) plays; told = ends.2 }) ends.1
  played_ends Nothing plays end text ends =
      part_ends end text (record { part = subst (λ (k : Option History). IfSome k (λ h. (count : ℕ) × IsPlayed script (take count script.steps) h)) (sym ends.0) tt; told = ends.2 }) ends.1

  pub ends_played_so : {K : Type 0} (put : K → Option (List ℕ)) (faults : K → ℕ) (old new : K) (played : Played) (status : ℕ) → PlaysScript script played
      → EndsAs put faults old new (PlayedEnds played kept) status → EndsAs put faults old new (ScriptEnds script kept) status
  ends_played_so put faults old new played status plays ends = ends_for put faults old new (PlayedEnds played kept) (ScriptEnds script kept) status (played_ends played plays) ends

  module _ {S : Type 0} (left : S → Option (List ℕ)) (faults : S → ℕ) (old new : S) (taken : TakesPlayed left faults old new script) where
    script_ends : (end : End) (text : List ℕ) → ScriptEnds script kept end text → PlayEnds left faults old new kept end text
    script_ends Done text ends = (script, taken, ends)
    script_ends Refused text ends = absurd ends
    script_ends (Broken fault) text ends = absurd ends
    script_ends (Unbuilt line) text ends = absurd ends
    script_ends SourceFailed text ends = absurd ends
    script_ends NoMemory text ends = ((taken.0.bytes, taken.0.taken), inr (script, taken, ends))

    pub ends_as_script : {K : Type 0} (put : K → Option (List ℕ)) (sunk : K → ℕ) (from to : K) (status : ℕ) → EndsAs put sunk from to (ScriptEnds script kept) status
        → EndsAs put sunk from to (PlayEnds left faults old new kept) status
    ends_as_script put sunk from to status ends = ends_for put sunk from to (ScriptEnds script kept) (PlayEnds left faults old new kept) status script_ends ends

-- a session whose record is sound was played lawfully
pub lawfully_played : (script : Script) (played : Played) → PlaysScript script played → IsLawfullyPlayed played
lawfully_played script (Whole session blocks) plays = plays.0.sound.follows
lawfully_played script (Part session) plays = tt
lawfully_played script Nothing plays = tt

module _ (script : Script) (desk : DeskState) (steps : List Step) (after : History)
    (at : desk ≡ started script.params (tape_of script) (first_blocks script.params.n script.params.b script.loads)) (all : steps ≡ script.steps) (sound : IsSound after) where
  is_played : (some : List Step) → PlaysSteps desk.tape some desk.history after → IsPlayed script some after
  is_played some plays = record { sound = sound; played = subst (λ (d : DeskState). PlaysSteps d.tape some d.history after) at plays }

  stopped : (played : Played) → (count : ℕ) × PlaysSteps desk.tape (take count steps) desk.history after → IsPart after played → PlaysScript script played
  stopped (Whole session blocks) plays part = absurd part
  stopped (Part session) plays part =
      (plays.0, subst (λ (l : List Step). IsPlayed script (take plays.0 l) session.history) all (subst (IsPlayed script (take plays.0 steps)) (sym part) (is_played (take plays.0 steps) plays.1)))
  stopped Nothing plays part = absurd part

  closed : (played : Played) → PlaysSteps desk.tape steps desk.history after → Closes after played → PlaysScript script played
  closed (Whole session blocks) plays closes = (
    subst (λ (l : List Step). IsPlayed script l session.history) all (subst (IsPlayed script steps) (sym closes.0) (is_played steps plays)),
    closes.1 ∙ ap (λ (h : History). array_now h.opening (reverse h.events)) (sym closes.0),
  )
  closed (Part session) plays closes =
      stopped (Part session) (length steps, subst (λ (l : List Step). PlaysSteps desk.tape l desk.history after) (sym (take-length steps)) plays) closes
  closed Nothing plays closes = absurd closes

  -- what playing came to, by whether all steps were played
  pub stops_so : (result : Result (Unit {0}) failures.NoMemory) (played : Played) → OnOk result (PlaysSteps desk.tape steps desk.history after)
      → OnErr result ((count : ℕ) × PlaysSteps desk.tape (take count steps) desk.history after) → OnOk result (Closes after played) → OnErr result (IsPart after played) → PlaysScript script played
  stops_so (Ok u) played plays some closes part = closed played plays closes
  stops_so (Err e) played plays some closes part = stopped played some part
