-- The lines that are printed one after another are those of the transcript.
use Rattle.std.proofs.Common.{◌≡◌, ℕ, zero, suc, ◌<◌, ◌≤◌, List, [], ◌∷◌, ◌++◌, length, reverse, take, drop, get_or, refl, sym, ap, ◌∙◌, arith, add-one, append_assoc, append-nil}
use Rattle.std.proofs.Math.Seq.{take-suc, drop-cons, drop-length}
use Rattle.tao_base.specs.declared.session.Event.{Event}
use Rattle.tao_base.specs.declared.session.Event.TheVariants.{Acked}
use Rattle.tao_base.specs.Session.{History}
use Rattle.tao_model.specs.Transcript.{lines_from, opening_lines, closing_lines}
use Rattle.tao_model.proofs.Stays.{newest_first}
use Rattle.tao_trace.specs.Printing.{events_before, sent_once, lines_at, lines_before, LinesGoOn, TextIsPrinted}
use Rattle.tao_trace.proofs.Following.{lines_are}
use Rattle.tao_trace.proofs.Ranges.{texts_more}

pub lines_go_on : LinesGoOn
lines_go_on h again place = texts_more (lines_at h again) 0 place place (omega arith)

-- the event at a place
abbrev event_at : History → ℕ → Event
event_at h place = get_or h.events place (Acked 0)

before_next : (h : History) (place : ℕ) → place < length h.events → events_before h (suc place) ≡ event_at h place ∷ events_before h place
before_next h place below = ap reverse (take-suc h.events place (Acked 0) below) ∙ newest_first (take place h.events) (event_at h place)

printed : (h : History) (again place : ℕ) → place ≤ length h.events
    → lines_from h.opening (sent_once h again) [] h.events
    ≡ lines_before h again place ++ lines_from h.opening (sent_once h again) (events_before h place) (drop place h.events)
printed h again zero w = refl
printed h again (suc place) w =
    printed h again place (omega arith)
    ∙ ap (λ (l : List ℕ). lines_before h again place ++ l) step
    ∙ sym (append_assoc (lines_before h again place) (lines_at h again place) later)
    ∙ ap (λ (l : List ℕ). l ++ later) (sym (lines_go_on h again place) ∙ ap (lines_before h again) (add-one place))
  where
    below : place < length h.events
    below = omega arith

    rest : List Event
    rest = drop (suc place) h.events

    later : List ℕ
    later = lines_from h.opening (sent_once h again) (events_before h (suc place)) rest

    step : lines_from h.opening (sent_once h again) (events_before h place) (drop place h.events) ≡ lines_at h again place ++ later
    step = ap (lines_from h.opening (sent_once h again) (events_before h place)) (drop-cons h.events place (Acked 0) below)
        ∙ ap (λ (a : List ℕ). a ++ lines_from h.opening (sent_once h again) (event_at h place ∷ events_before h place) rest)
        (sym (lines_are h again place (Acked 0) (event_at h place) below refl))
        ∙ ap (λ (l : List Event). lines_at h again place ++ lines_from h.opening (sent_once h again) l rest) (sym (before_next h place below))

all_printed : (h : History) (again : ℕ) → lines_from h.opening (sent_once h again) [] h.events ≡ lines_before h again (length h.events)
all_printed h again =
    printed h again (length h.events) (omega arith)
    ∙ ap (λ (l : List Event). lines_before h again (length h.events) ++ lines_from h.opening (sent_once h again) (events_before h (length h.events)) l) (drop-length h.events)
    ∙ append-nil (lines_before h again (length h.events))

pub text_is_printed : TextIsPrinted
text_is_printed h again final end = ap (λ (l : List ℕ). ((opening_lines h.opening ++ l) ++ closing_lines final) ++ end) (all_printed h again)
