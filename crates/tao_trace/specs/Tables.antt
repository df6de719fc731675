-- What a printer knows of the events that it has printed: of each arrival, of each block, and which arrivals are done.
use Rattle.std.specs.Prelude.{◌≡◌, ℕ, ◌+◌, ◌-◌, ◌==◌, ◌<◌, ◌≤◌, Bool, true, false, ◌&&◌, if◌then◌else◌, List, [], ◌∷◌, ◌++◌, length, map, All, reverse, Option, Some, None, codes}
use Rattle.std.specs.List.{slice_index_or}
use Rattle.std.specs.Option.{option_map}
use Rattle.tao_base.specs.declared.calls.Op.{Op}
use Rattle.tao_base.specs.declared.calls.Op.TheVariants.{Read, Write, Pad}
use Rattle.tao_base.specs.declared.session.Event.{Event}
use Rattle.tao_base.specs.declared.session.Event.TheVariants.{Arrive, Done, Issue, Acked, Fault}
use Rattle.tao_base.specs.declared.storage.Bucket.{Bucket}
use Rattle.tao_base.specs.Limits.{session_limit}
use Rattle.tao_base.specs.Session.{Opening, History}
use Rattle.tao_base.specs.Array.{block_at}
use Rattle.tao_base.specs.Lines.{words_line}
use Rattle.tao_model.specs.declared.trace.Request.TheVariants.{Again}
use Rattle.tao_model.specs.Events.{arrived, issues, acks, names, is_done, is_pad, client_of, word_of, word_at}
use Rattle.tao_model.specs.Greatest.{IsLast}
use Rattle.tao_model.specs.Requests.{real_now, next_word}
use Rattle.tao_model.specs.LookBacks.{is_real_on}
use Rattle.tao_model.specs.Replies.{array_now, plain_reply}
use Rattle.tao_model.specs.Trace.{nodes_in, again_of}
use Rattle.tao_model.specs.Transcript.{event_lines, again_line, again_before}
use Rattle.tao_model.specs.Lawful.{FollowsLawfully}
use Rattle.tao_sequence.specs.Release.{is_done_in}
use Rattle.tao_trace.specs.Places.{PlacesState, ArePlaces}
use Rattle.tao_trace.specs.Printing.{PrinterState, events_before, sent_once, lines_at}
use Rattle.tao_trace.specs.declared.tables.Told.{Told}
use Rattle.tao_trace.specs.declared.tables.Sent.{Sent}

-- what an arrival is answered; a pad isn't
abbrev pub reply_of : Opening → List Event → ℕ → Option (List ℕ)
reply_of o es i = if is_pad es i then None else Some (plain_reply o es i)

-- what is kept of an arrival
pub record IsTold (o : Opening) (es : List Event) (i : ℕ) (row : Told) : Type 0 where
  pub client : row.client ≡ client_of es i
  pub word : row.word ≡ word_of es i
  pub reply : option_map (λ value. value.now) row.reply ≡ reply_of o es i

-- the tables fit these events, the newest first: a row for each arrival, the value of each block, and the places of the tape
pub record AreTables (o : Opening) (es : List Event) (told : List Told) (values : List (List ℕ)) (places : PlacesState) : Type 0 where
  pub arrivals : length told ≡ arrived es
  pub each : (i : ℕ) (d : Told) → i < length told → IsTold o es i (slice_index_or told i d)
  pub array : values ≡ array_now o es
  pub tape : ArePlaces o es places

-- whether an event is an acknowledgement
abbrev pub is_ack : Event → Bool
is_ack (Arrive client op word) = false
is_ack (Done arrival taken) = false
is_ack (Issue version nonce buckets) = false
is_ack (Acked version) = true
is_ack (Fault cause) = false

-- what is kept of a write-back: its line and its request, if its store is sent again
pub record IsSent (es : List Event) (version : ℕ) (row : Sent) : Type 0 where
  pub line : again_line es version ≡ words_line (codes "again") (version ∷ row.nonce ∷ nodes_in row.buckets.now)
  pub request : again_of es version ≡ Again version row.nonce (nodes_in row.buckets.now) ∷ []

-- A row for each write-back: that of version v is at v - 1.
pub record AreSent (es : List Event) (sent : List Sent) : Type 0 where
  pub writes : length sent ≡ issues es
  pub each : (i : ℕ) (d : Sent) → i < length sent → IsSent es (i + 1) (slice_index_or sent i d)

-- The write-backs before the place, and how many acknowledgements of stores that were sent once are still to come.
pub record FitSent (h : History) (place again : ℕ) (sent : List Sent) (once : ℕ) : Type 0 where
  pub rows : AreSent (events_before h place) sent
  pub limit : once ≡ sent_once h again - acks (events_before h place)

-- the record is lawful, and the tables fit its events before the place
pub record Fit (h : History) (place : ℕ) (told : List Told) (values : List (List ℕ)) (places : PlacesState) : Type 0 where
  pub within : place ≤ length h.events
  pub follows : FollowsLawfully h.opening (reverse h.events)
  pub tables : AreTables h.opening (events_before h place) told values places

-- an event comes next
pub record IsNext (h : History) (place : ℕ) (e : Event) : Type 0 where
  pub below : place < length h.events
  pub before : events_before h (place + 1) ≡ e ∷ events_before h place
  pub lines : (again : ℕ) → lines_at h again place ≡ again_before (sent_once h again) (events_before h place) e ++ event_lines h.opening (events_before h place) e
  pub follows : FollowsLawfully h.opening (e ∷ events_before h place)

-- the tables of the arrivals and blocks, and those of the write-backs
pub record FitAll (h : History) (place again : ℕ) (told : List Told) (values : List (List ℕ)) (places : PlacesState) (sent : List Sent) (once : ℕ) : Type 0 where
  pub arrivals : Fit h place told values places
  pub writes : FitSent h place again sent once

-- this event is the next one to print
abbrev pub NextOf : PrinterState → Event → Type 0
NextOf t e = IsNext t.history t.place e

-- the Done of this arrival is the next event to print
abbrev pub IsDoneNext : PrinterState → ℕ → Type 0
IsDoneNext t arrival = (taken : List Bucket) × NextOf t (Done arrival taken)

-- an arrival with this operation and this word is the next event
abbrev pub IsArrivalNext : PrinterState → Op → ℕ → Type 0
IsArrivalNext t op word = (client : ℕ) × NextOf t (Arrive client op word)

-- ---- one more arrival

-- the answer to an operation, where a pad has none
abbrev pub reply_for : List (List ℕ) → Op → Option (List ℕ)
reply_for blocks (Read id) = Some (block_at blocks id)
reply_for blocks (Write id value) = Some (block_at blocks id)
reply_for blocks Pad = None

-- the word whose leaf is fetched by a new arrival
abbrev pub word_fetched : Opening → List Event → Op → ℕ → ℕ
word_fetched o es (Read id) word = if real_now es (Read id) then word_at o es (next_word o es id) else word
word_fetched o es (Write id value) word = if real_now es (Read id) then word_at o es (next_word o es id) else word
word_fetched o es Pad word = word
