-- What a source held can be played or it can't: what was taken to the end as the one was not held as the other.
use Rattle.std.proofs.Common.{◌≡◌, ◌⊎◌, inl, inr, ℕ, ◌+◌, ◌≤◌, ◌^◌, List, ◌++◌, length, Option, Some, None, Result, Ok, Err, sym, ap, ◌∙◌, subst, arith, length-append}
use Rattle.std.proofs.lemmas.List.{append-nil}
use Rattle.std.specs.Io.KnownBytes.{Consumes, IsAtEnd}
use Rattle.tao_base.specs.Session.{History}
use Rattle.tao_text.specs.declared.faults.TextFault.{TextFault}
use Rattle.tao_text.specs.declared.script.Script.{Script}
use Rattle.tao_text.specs.Texts.{FirstBreak, IsScriptText}
use Rattle.tao_text.proofs.TextLaws.{breaks_read, script_reads}
use Rattle.taostore.specs.Endings.{HoldsPlayed, HoldsUnplayed, PlayEnds, TakesBroken, TakesPlayed, TakesScript, TakesUnplayed, status_of}
use Rattle.tao_base.specs.Causes.{Rose}
use Rattle.taostore.specs.declared.output.End.{End}
use Rattle.taostore.specs.declared.output.End.TheVariants.{Done, Refused, Broken, Unbuilt, SourceFailed, NoMemory}
use Rattle.taostore.specs.Output.{Finishes}
use Rattle.taostore.specs.Unbuilt.{unbuilt_line}

ok_err : {A : Type 0} (script : Script) (fault : TextFault) → ◌≡◌ {A = Result Script TextFault} (Ok script) (Err fault) → A
ok_err script fault h = absurd cc

some_none : {X : Type 0} {A : Type 0} (x : X) → Some x ≡ None → A
some_none x h = absurd cc

same_ok : (x y : Script) → ◌≡◌ {A = Result Script TextFault} (Ok x) (Ok y) → x ≡ y
same_ok x y h = cc h

-- a text is that of one script, and breaks nowhere
one_script : (bytes : List ℕ) (script other : Script) → IsScriptText bytes script → IsScriptText bytes other → script ≡ other
one_script bytes script other is is' = same_ok script other (sym (script_reads bytes script is) ∙ script_reads bytes other is')

no_break : {A : Type 0} (bytes : List ℕ) (script : Script) (fault : TextFault) → IsScriptText bytes script → FirstBreak bytes fault → A
no_break bytes script fault is breaks = ok_err script fault (sym (script_reads bytes script is) ∙ breaks_read bytes fault breaks)

no_more : (held bytes : List ℕ) (rest : Option (List ℕ)) → Consumes (Some held) rest bytes → length bytes ≤ length held
no_more held bytes None c = absurd c
no_more held bytes (Some ys) c =
    let len : length held ≡ length bytes + length ys = ap length c ∙ length-append bytes ys in omega arith

all_held : (held bytes : List ℕ) (rest : Option (List ℕ)) → Consumes (Some held) rest bytes → IsAtEnd rest → bytes ≡ held
all_held held bytes None c end = absurd c
all_held held bytes (Some ys) c end = sym (c ∙ ap (λ (l : List ℕ). bytes ++ l) end ∙ append-nil bytes)

module _ {S : Type 0} (left : S → Option (List ℕ)) (faults : S → ℕ) (old new : S) where
  taken_is_held : (script : Script) (held : List ℕ) → left old ≡ Some held → TakesScript left faults old new script → IsScriptText held script
  taken_is_held script held at t =
      let took : Consumes (Some held) (left new) t.bytes = subst (λ o. Consumes o (left new) t.bytes) at t.taken in
      subst (λ bytes. IsScriptText bytes script) (all_held held t.bytes (left new) took t.at_end) t.read

  broken_is_held : (fault : TextFault) (held : List ℕ) → left old ≡ Some held → length held ≤ 2 ^ 24 → TakesBroken left faults old new fault → FirstBreak held fault
  broken_is_held fault held at few t =
      let took : Consumes (Some held) (left new) t.bytes = subst (λ o. Consumes o (left new) t.bytes) at t.taken.taken in
      let below : length t.bytes ≤ length held = no_more held t.bytes (left new) took in
      subst (λ bytes. FirstBreak bytes fault) (all_held held t.bytes (left new) took (t.taken.whole (omega (arith, few, below)))) t.broken

  pub held_is_read : (script : Script) → HoldsPlayed left old script → TakesUnplayed left faults old new → ⊥
  held_is_read script (held, at, is, none) (inl (fault, t)) = no_break held script fault is (broken_is_held fault held at is.few t)
  held_is_read script (held, at, is, none) (inr (other, line, t, some)) =
      some_none line (sym some ∙ ap unbuilt_line (one_script held other script (taken_is_held other held at t) is) ∙ none)

  pub held_is_unread : (script : Script) → HoldsUnplayed left old → TakesPlayed left faults old new script → ⊥
  held_is_unread script (held, at, inl (fault, breaks)) (t, none) = no_break held script fault (taken_is_held script held at t) breaks
  held_is_unread script (held, at, inr (other, line, is, some)) (t, none) =
      some_none line (sym some ∙ ap unbuilt_line (one_script held other script is (taken_is_held script held at t)) ∙ none)

  module _ {K : Type 0} (put : K → Option (List ℕ)) (sunk : K → ℕ) (from to : K) (kept : Option History) where
    -- without a fault a play ends with 0, 3 or 8
    pub ends_unfailed : (end : End) (text : List ℕ) (result : ℕ) → PlayEnds left faults old new kept end text → Finishes put sunk from to (status_of end) text result
        → ¬ Rose (faults old) (faults new) → ¬ Rose (sunk from) (sunk to) → (result ≡ 0) ⊎ ((result ≡ 3) ⊎ (result ≡ 8))
    ends_unfailed end text result ends (inr part) sound dry = absurd (dry part.1.rose)
    ends_unfailed Done text result ends (inl all) sound dry = inl all.0
    ends_unfailed Refused text result ends (inl all) sound dry = absurd ends
    ends_unfailed (Broken fault) text result ends (inl all) sound dry = inr (inl all.0)
    ends_unfailed (Unbuilt line) text result ends (inl all) sound dry = inr (inl all.0)
    ends_unfailed SourceFailed text result ends (inl all) sound dry = absurd (sound ends.1)
    ends_unfailed NoMemory text result ends (inl all) sound dry = inr (inr all.0)

    -- where the source failed, a play ends with 4 or 8
    pub ends_source : (end : End) (text : List ℕ) (result : ℕ) → PlayEnds left faults old new kept end text → Finishes put sunk from to (status_of end) text result
        → ¬ (faults new ≡ faults old) → ¬ Rose (sunk from) (sunk to) → (result ≡ 4) ⊎ (result ≡ 8)
    ends_source end text result ends (inr part) failed dry = absurd (dry part.1.rose)
    ends_source Done text result ends (inl all) failed dry = absurd (failed ends.1.0.unfailed)
    ends_source Refused text result ends (inl all) failed dry = absurd ends
    ends_source (Broken fault) text result ends (inl all) failed dry = absurd (failed ends.0.unfailed)
    ends_source (Unbuilt line) text result ends (inl all) failed dry = absurd (failed ends.0.1.unfailed)
    ends_source SourceFailed text result ends (inl all) failed dry = inl all.0
    ends_source NoMemory text result ends (inl all) failed dry = inr all.0

    -- where the source held no script that can be played, a play ends with 3 or 8
    pub ends_unplayed : (end : End) (text : List ℕ) (result : ℕ) → HoldsUnplayed left old → PlayEnds left faults old new kept end text → Finishes put sunk from to (status_of end) text result
        → ¬ Rose (faults old) (faults new) → ¬ Rose (sunk from) (sunk to) → (result ≡ 3) ⊎ (result ≡ 8)
    ends_unplayed end text result holds ends (inr part) sound dry = absurd (dry part.1.rose)
    ends_unplayed Done text result holds ends (inl all) sound dry = absurd (held_is_unread ends.0 holds ends.1)
    ends_unplayed Refused text result holds ends (inl all) sound dry = absurd ends
    ends_unplayed (Broken fault) text result holds ends (inl all) sound dry = inl all.0
    ends_unplayed (Unbuilt line) text result holds ends (inl all) sound dry = inl all.0
    ends_unplayed SourceFailed text result holds ends (inl all) sound dry = absurd (sound ends.1)
    ends_unplayed NoMemory text result holds ends (inl all) sound dry = inr all.0

    -- where the source held a script that can be played, a play ends with 0 or 8
    pub ends_played : (script : Script) (end : End) (text : List ℕ) (result : ℕ) → HoldsPlayed left old script → PlayEnds left faults old new kept end text
        → Finishes put sunk from to (status_of end) text result → ¬ Rose (faults old) (faults new) → ¬ Rose (sunk from) (sunk to) → (result ≡ 0) ⊎ (result ≡ 8)
    ends_played script end text result holds ends (inr part) sound dry = absurd (dry part.1.rose)
    ends_played script Done text result holds ends (inl all) sound dry = inl all.0
    ends_played script Refused text result holds ends (inl all) sound dry = absurd ends
    ends_played script (Broken fault) text result holds ends (inl all) sound dry = absurd (held_is_read script holds (inl (fault, ends.0)))
    ends_played script (Unbuilt line) text result holds ends (inl all) sound dry = absurd (held_is_read script holds (inr (ends.0.0, line, ends.0.1, ends.0.2)))
    ends_played script SourceFailed text result holds ends (inl all) sound dry = absurd (sound ends.1)
    ends_played script NoMemory text result holds ends (inl all) sound dry = inr all.0
