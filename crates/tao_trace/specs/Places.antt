-- Which arrivals are real, and which places of the tape they use.
use Rattle.std.specs.Prelude.{◌≡◌, ℕ, ◌-◌, ◌<◌, nat_lt, Bool, true, false, ◌||◌, if◌then◌else◌, List, length, replicate, slice_index, slice_set}
use Rattle.std.specs.List.{range_with_len}
use Rattle.tao_base.specs.declared.calls.Op.{Op}
use Rattle.tao_base.specs.declared.calls.Op.TheVariants.{Read, Write, Pad}
use Rattle.tao_base.specs.declared.session.Event.{Event}
use Rattle.tao_base.specs.Limits.{Shape, session_limit}
use Rattle.tao_base.specs.Session.{Opening}
use Rattle.tao_model.specs.Events.{is_done}
use Rattle.tao_model.specs.Requests.{next_word, word_for}
use Rattle.tao_sequence.specs.Release.{is_done_in}

-- of each block the place of the word that its next real arrival uses, and a flag for each arrival, up where it is done
pub record PlacesState : Type 0 where
  pub next : List ℕ
  pub done : List Bool

-- before the first arrival: each block's own place, and all flags down
abbrev pub first_places : Shape → PlacesState
first_places s = record { next = range_with_len 0 s.n; done = replicate (session_limit s) false }

-- Whether no real arrival on the block is under way. The places behind those of the blocks are those of the arrivals.
abbrev pub is_free_in : PlacesState → ℕ → Bool
is_free_in p block = nat_lt (slice_index p.next block) (length p.next) || is_done_in p.done (slice_index p.next block - length p.next)

-- whether an arrival of this operation is real
abbrev pub is_real_in : PlacesState → Op → Bool
is_real_in p (Read id) = is_free_in p id
is_real_in p (Write id value) = is_free_in p id
is_real_in p Pad = false

-- the place that an arrival of this operation uses, from that of its own word
abbrev pub place_in : PlacesState → Op → ℕ → ℕ
place_in p op own = word_for (slice_index p.next) own (is_real_in p op) op

-- behind an arrival with this place: if it is real, the next one on its block uses that
abbrev pub with_arrival : PlacesState → Op → ℕ → PlacesState
with_arrival p (Read id) own = if is_free_in p id then record p { next = slice_set p.next id own } else p
with_arrival p (Write id value) own = if is_free_in p id then record p { next = slice_set p.next id own } else p
with_arrival p Pad own = p

-- behind a Done
abbrev pub with_done : PlacesState → ℕ → PlacesState
with_done p arrival = record p { done = slice_set p.done arrival true }

-- a flag for each arrival that a session may have, up where it is done
pub record AreFlags (o : Opening) (es : List Event) (flags : List Bool) : Type 0 where
  pub len : length flags ≡ session_limit o.shape
  pub each : (i : ℕ) → is_done_in flags i ≡ is_done es i

-- these are the places and the flags behind these events, the newest first
pub record ArePlaces (o : Opening) (es : List Event) (places : PlacesState) : Type 0 where
  pub blocks : length places.next ≡ o.shape.n
  pub each : (block : ℕ) → block < o.shape.n → slice_index places.next block ≡ next_word o es block
  pub dones : AreFlags o es places.done
