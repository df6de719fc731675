-- How far a transcript was printed, and what comes next.
use Rattle.std.specs.Prelude.{◌≡◌, ℕ, ◌+◌, ◌-◌, List, [], ◌∷◌, ◌++◌, length, reverse, take, drop, Option}
use Rattle.std.specs.List.{flat_map, range_with_len}
use Rattle.tao_base.specs.declared.session.Event.{Event}
use Rattle.tao_base.specs.Session.{Opening, History}
use Rattle.tao_model.specs.declared.trace.Request.{Request}
use Rattle.tao_model.specs.Trace.{requests}
use Rattle.tao_model.specs.Transcript.{event_lines, again_before, acks_in, opening_lines, closing_lines, transcript}

-- a record, how many of its events were printed, and how many of its last acknowledgements are of stores that were sent again
pub record PrinterState : Type 0 where
  pub history : History
  pub place : ℕ
  pub again : ℕ

-- the events before a place, newest first
abbrev pub events_before : History → ℕ → List Event
events_before h place = reverse (take place h.events)

-- the events that a printer has printed, newest first
abbrev pub printed : PrinterState → List Event
printed t = events_before t.history t.place

-- the printer behind its next event
abbrev pub gone_on : PrinterState → PrinterState
gone_on t = record t { place = t.place + 1 }

-- these are the requests of the events that were gone over
abbrev pub IsTraced : PrinterState → List Request → Type 0
IsTraced t trace = trace ≡ requests t.history.opening (printed t)

-- how many of the acknowledgements are of stores that were sent once
abbrev pub sent_once : History → ℕ → ℕ
sent_once h again = acks_in h.events - again

-- The lines of the first of the events left, behind those before it. A store that was sent again has its line before its acknowledgement.
abbrev pub first_lines : Opening → ℕ → List Event → List Event → List ℕ
first_lines o once before [] = []
first_lines o once before (e ∷ rest) = again_before once before e ++ event_lines o before e

-- the lines of the event at a place
unfoldable pub lines_at : History → ℕ → ℕ → List ℕ
lines_at h again place = first_lines h.opening (sent_once h again) (events_before h place) (drop place h.events)

-- a printer that has printed nothing yet
abbrev pub at_start : History → ℕ → PrinterState
at_start h again = record { history = h; place = 0; again = again }

-- the lines of all events before a place
abbrev pub lines_before : History → ℕ → ℕ → List ℕ
lines_before h again place = flat_map (lines_at h again) (range_with_len 0 place)

-- one event more has its lines behind those
abbrev pub LinesGoOn : Type 0
LinesGoOn = (h : History) (again place : ℕ) → lines_before h again (place + 1) ≡ lines_before h again place ++ lines_at h again place

-- The whole text: the opening, the lines of all events, the close, and the end.
abbrev pub TextIsPrinted : Type 0
TextIsPrinted = (h : History) (again : ℕ) (final : Option (List (List ℕ))) (end : List ℕ)
    → transcript h again final end ≡ ((opening_lines h.opening ++ lines_before h again (length h.events)) ++ closing_lines final) ++ end
