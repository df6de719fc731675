-- Each answer of the program has its cause, and each cause its answer.
use Rattle.std.proofs.Common.{◌≡◌, ◌⊎◌, inl, inr, ℕ, ◌<◌, List, Option, Some, None, refl, ap, ◌∙◌, arith}
use Rattle.std.specs.Prelude.{IsNone}
use Rattle.tao_base.specs.Causes.{Rose}
use Rattle.tao_base.specs.Session.{History}
use Rattle.tao_record.specs.State.{RecordState}
use Rattle.taostore.specs.declared.output.End.{End}
use Rattle.taostore.specs.declared.output.End.TheVariants.{Done, Refused, Broken, Unbuilt, SourceFailed, NoMemory}
use Rattle.taostore.specs.Endings.{PlayEnds, RefusedEnds, kept_history, status_of}
use Rattle.taostore.specs.Laws.{ProgramEnds, AnswersHaveCauses, CausesHaveAnswers, TouchesLittle, HaveCauses, HaveAnswers, TouchLittle, PlayIsProgram}
use Rattle.tao_base.specs.Transfers.{PutsAll, PutsPart}
use Rattle.taostore.specs.Output.{Finishes, PutsMore}
use Rattle.taostore.specs.Words.{AskToPlay, AreRefused}
use Rattle.taostore.proofs.Ends.{ends_so, end_puts_more, end_fails}
use Rattle.taostore.proofs.Inputs.{ends_unfailed, ends_source, ends_unplayed, ends_played}
use Rattle.taostore.proofs.WordLemmas.{asked_or_refused}

none_kept : (kept : Option RecordState) → kept_history kept ≡ None → IsNone kept
none_kept None h = refl
none_kept (Some r) h = cc h

module _ {S K : Type 0} (left : S → Option (List ℕ)) (faults : S → ℕ) (put : K → Option (List ℕ)) (sunk : K → ℕ)
    (words : List (List ℕ)) (source source' : S) (sink sink' : K) (status : ℕ) where
  low : 3 < status → (status ≡ 0) ⊎ ((status ≡ 2) ⊎ (status ≡ 3)) → ⊥
  low high (inl is) = omega (arith, high, is)
  low high (inr (inl is)) = omega (arith, high, is)
  low high (inr (inr is)) = omega (arith, high, is)

  -- the sink failed
  failed_causes : (text : List ℕ) → status ≡ 5 → PutsPart put sunk sink sink' text → AnswersHaveCauses left faults put sunk words source source' sink sink' status
  failed_causes text is part = record {
    known = inr (inr (inr (inr (inl is))));
    done = λ h. absurd (omega (arith, h, is));
    refused = λ h. absurd (omega (arith, h, is));
    unplayed = λ h. absurd (omega (arith, h, is));
    source_failed = λ h. absurd (omega (arith, h, is));
    sink_failed = λ h. part.rose;
    unfailed = λ h. absurd (low (omega (arith, is)) h);
  }

  refused_two : (kept : Option History) (end : End) (text : List ℕ) → RefusedEnds left faults source source' kept end text → Finishes put sunk sink sink' (status_of end) text status
      → ((status ≡ 2) × PutsAll put sunk sink sink' text) ⊎ ((status ≡ 5) × PutsPart put sunk sink sink' text)
  refused_two kept end text ends (inl all) = inl (all.0 ∙ ap status_of ends.refusal, all.1)
  refused_two kept end text ends (inr part) = inr part

  refused_causes : (kept : Option History) (text : List ℕ) (end : End) → AreRefused words → RefusedEnds left faults source source' kept end text
      → ((status ≡ 2) × PutsAll put sunk sink sink' text) ⊎ ((status ≡ 5) × PutsPart put sunk sink sink' text) → AnswersHaveCauses left faults put sunk words source source' sink sink' status
  refused_causes kept text end refused ends (inr part) = failed_causes text part.0 part.1
  refused_causes kept text end refused ends (inl all) =
      let is = all.0 in
      record {
        known = inr (inl is);
        done = λ h. absurd (omega (arith, h, is));
        refused = λ h. refused;
        unplayed = λ h. absurd (omega (arith, h, is));
        source_failed = λ h. absurd (omega (arith, h, is));
        sink_failed = λ h. absurd (omega (arith, h, is));
        unfailed = λ h. (ends.unfailed, all.1.unfailed);
      }

  play_causes : (kept : Option History) (text : List ℕ) (end : End) → AskToPlay words → PlayEnds left faults source source' kept end text → Finishes put sunk sink sink' (status_of end) text status
      → AnswersHaveCauses left faults put sunk words source source' sink sink' status
  play_causes kept text end asked ends (inr part) = failed_causes text part.0 part.1
  play_causes kept text Done asked ends (inl all) =
      let is = all.0 in
      record {
        known = inl is;
        done = λ h. (asked, (ends.0, ends.1));
        refused = λ h. absurd (omega (arith, h, is));
        unplayed = λ h. absurd (omega (arith, h, is));
        source_failed = λ h. absurd (omega (arith, h, is));
        sink_failed = λ h. absurd (omega (arith, h, is));
        unfailed = λ h. (ends.1.0.unfailed, all.1.unfailed);
      }
  play_causes kept text Refused asked ends (inl all) = absurd ends
  play_causes kept text (Broken fault) asked ends (inl all) =
      let is = all.0 in
      record {
        known = inr (inr (inl is));
        done = λ h. absurd (omega (arith, h, is));
        refused = λ h. absurd (omega (arith, h, is));
        unplayed = λ h. (asked, inl (fault, ends.0));
        source_failed = λ h. absurd (omega (arith, h, is));
        sink_failed = λ h. absurd (omega (arith, h, is));
        unfailed = λ h. (ends.0.unfailed, all.1.unfailed);
      }
  play_causes kept text (Unbuilt line) asked ends (inl all) =
      let is = all.0 in
      record {
        known = inr (inr (inl is));
        done = λ h. absurd (omega (arith, h, is));
        refused = λ h. absurd (omega (arith, h, is));
        unplayed = λ h. (asked, inr (ends.0.0, line, ends.0.1, ends.0.2));
        source_failed = λ h. absurd (omega (arith, h, is));
        sink_failed = λ h. absurd (omega (arith, h, is));
        unfailed = λ h. (ends.0.1.unfailed, all.1.unfailed);
      }
  play_causes kept text SourceFailed asked ends (inl all) =
      let is = all.0 in
      record {
        known = inr (inr (inr (inl is)));
        done = λ h. absurd (omega (arith, h, is));
        refused = λ h. absurd (omega (arith, h, is));
        unplayed = λ h. absurd (omega (arith, h, is));
        source_failed = λ h. ends.1;
        sink_failed = λ h. absurd (omega (arith, h, is));
        unfailed = λ h. absurd (low (omega (arith, is)) h);
      }
  play_causes kept text NoMemory asked ends (inl all) =
      let is = all.0 in
      record {
        known = inr (inr (inr (inr (inr is))));
        done = λ h. absurd (omega (arith, h, is));
        refused = λ h. absurd (omega (arith, h, is));
        unplayed = λ h. absurd (omega (arith, h, is));
        source_failed = λ h. absurd (omega (arith, h, is));
        sink_failed = λ h. absurd (omega (arith, h, is));
        unfailed = λ h. absurd (low (omega (arith, is)) h);
      }

  refused_answer : (kept : Option History) (end : End) (text : List ℕ) → RefusedEnds left faults source source' kept end text → Finishes put sunk sink sink' (status_of end) text status
      → ¬ Rose (sunk sink) (sunk sink') → status ≡ 2
  refused_answer kept end text ends (inl all) dry = all.0 ∙ ap status_of ends.refusal
  refused_answer kept end text ends (inr part) dry = absurd (dry part.1.rose)

  module _ (kept : Option RecordState) (e : ProgramEnds left faults put sunk words source source' sink sink' status kept) where
    causes_by : AskToPlay words ⊎ AreRefused words → AnswersHaveCauses left faults put sunk words source source' sink sink' status
    causes_by (inl asked) =
        let so = ends_so put sunk sink sink' (PlayEnds left faults source source' (kept_history kept)) status (e.play asked) in
        play_causes (kept_history kept) so.1 so.0 asked so.2 so.3
    causes_by (inr refused) =
        let so = ends_so put sunk sink sink' (RefusedEnds left faults source source' (kept_history kept)) status (e.refused refused) in
        refused_causes (kept_history kept) so.1 so.0 refused so.2 (refused_two (kept_history kept) so.0 so.1 so.2 so.3)

    answers_by : AskToPlay words ⊎ AreRefused words → CausesHaveAnswers left faults put sunk words source source' sink sink' status
    answers_by (inl asked) =
        let so = ends_so put sunk sink sink' (PlayEnds left faults source source' (kept_history kept)) status (e.play asked) in
        record {
          refused = λ refused. absurd (refused asked);
          unfailed = λ asks. ends_unfailed left faults source source' put sunk sink sink' (kept_history kept) so.0 so.1 status so.2 so.3;
          source_failed = λ asks. ends_source left faults source source' put sunk sink sink' (kept_history kept) so.0 so.1 status so.2 so.3;
          unplayed = λ asks holds. ends_unplayed left faults source source' put sunk sink sink' (kept_history kept) so.0 so.1 status holds so.2 so.3;
          played = λ asks script holds. ends_played left faults source source' put sunk sink sink' (kept_history kept) script so.0 so.1 status holds so.2 so.3;
          sink_failed = end_fails put sunk sink sink' (PlayEnds left faults source source' (kept_history kept)) status (e.play asked);
        }
    answers_by (inr refused) =
        let so = ends_so put sunk sink sink' (RefusedEnds left faults source source' (kept_history kept)) status (e.refused refused) in
        record {
          refused = λ again. refused_answer (kept_history kept) so.0 so.1 so.2 so.3;
          unfailed = λ asked. absurd (refused asked);
          source_failed = λ asked. absurd (refused asked);
          unplayed = λ asked. absurd (refused asked);
          played = λ asked. absurd (refused asked);
          sink_failed = end_fails put sunk sink sink' (RefusedEnds left faults source source' (kept_history kept)) status (e.refused refused);
        }

    more_by : AskToPlay words ⊎ AreRefused words → PutsMore put sink sink'
    more_by (inl asked) = end_puts_more put sunk sink sink' (PlayEnds left faults source source' (kept_history kept)) status (e.play asked)
    more_by (inr refused) = end_puts_more put sunk sink sink' (RefusedEnds left faults source source' (kept_history kept)) status (e.refused refused)

    refusal : AreRefused words → (end : End) × (text : List ℕ) × RefusedEnds left faults source source' (kept_history kept) end text
    refusal refused =
        let so = ends_so put sunk sink sink' (RefusedEnds left faults source source' (kept_history kept)) status (e.refused refused) in
        (so.0, so.1, so.2)

    touches_little : TouchesLittle left faults put sunk words source source' sink sink' status kept
    touches_little = record {
      appended = more_by (asked_or_refused words);
      untouched = λ refused. let ends = (refusal refused).2 in (ends.untouched, ends.unfailed);
      none = λ refused. none_kept kept (refusal refused).2.none;
    }

module _ {S K : Type 0} (left : S → Option (List ℕ)) (faults : S → ℕ) (put : K → Option (List ℕ)) (sunk : K → ℕ) where
  pub have_causes : HaveCauses left faults put sunk
  have_causes words source source' sink sink' status kept e = causes_by left faults put sunk words source source' sink sink' status kept e (asked_or_refused words)

  pub have_answers : HaveAnswers left faults put sunk
  have_answers words source source' sink sink' status kept e = answers_by left faults put sunk words source source' sink sink' status kept e (asked_or_refused words)

  pub touch_little : TouchLittle left faults put sunk
  touch_little words source source' sink sink' status kept e = touches_little left faults put sunk words source source' sink sink' status kept e

  pub play_is_program : PlayIsProgram left faults put sunk
  play_is_program source source' sink sink' status kept ends = record { refused = λ refused. absurd (refused refl); play = λ asked. ends }
