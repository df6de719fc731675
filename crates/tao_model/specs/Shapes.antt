-- Two plays of one schedule: what two records share, and where the words of the first tape go in the second.
use Rattle.std.specs.Prelude.{◌≡◌, ℕ, ◌+◌, ◌<◌, ◌==◌, not, List, ◌++◌, map, filter, slice_index, Option, Some, None}
use Rattle.std.specs.List.{filter_map, list_any, position_or_len, range_with_len}
use Rattle.tao_base.specs.declared.session.Event.{Event}
use Rattle.tao_base.specs.declared.session.Event.TheVariants.{Arrive, Done, Issue, Acked, Fault}
use Rattle.tao_base.specs.Session.{Opening, History}
use Rattle.tao_model.specs.Events.{arrived, word_at}
use Rattle.tao_model.specs.Requests.{word_used}

-- a step of a schedule: a client asks, an arrival's path is admitted, a version is written, a version is acknowledged
pub data Step : Type 0 where
  asks : ℕ → Step
  takes_in : ℕ → Step
  writes : ℕ → Step
  acknowledges : ℕ → Step

-- a Fault is no step
abbrev pub step_of : Event → Option Step
step_of (Arrive client op word) = Some (asks client)
step_of (Done arrival taken) = Some (takes_in arrival)
step_of (Issue version nonce buckets) = Some (writes version)
step_of (Acked version) = Some (acknowledges version)
step_of (Fault cause) = None

-- the steps of a record in its own order: no operation, no word and no contents
abbrev pub steps_of : List Event → List Step
steps_of events = filter_map step_of events

-- two records of one shape: the same parameters and the same steps
pub record IsOneShape (first second : History) : Type 0 where
  pub parameters : first.opening.shape ≡ second.opening.shape
  pub steps : steps_of first.events ≡ steps_of second.events

-- ---- the twin permutation; the events are newest first

-- the places of the tape that arrivals use, in the order of arrival
abbrev pub used_places : Opening → List Event → List ℕ
used_places o es = map (word_used o es) (range_with_len 0 (arrived es))

-- the places that no arrival uses, rising
abbrev pub unused_places : Opening → List Event → List ℕ
unused_places o es = filter (λ place. not (list_any (λ used. used == place) (used_places o es))) (range_with_len 0 (o.shape.n + arrived es))

-- all places of the tape: those that arrivals use, in the order of arrival, then the unused ones, rising
abbrev pub all_places : Opening → List Event → List ℕ
all_places o es = used_places o es ++ unused_places o es

-- Where a place of the first play goes in the second: the place that an arrival uses goes to the one that it uses there.
-- The unused places go to the unused ones, both rising.
abbrev pub twin_permutation : Opening → List Event → Opening → List Event → ℕ → ℕ
twin_permutation o es other others place = slice_index (all_places other others) (position_or_len (λ known. known == place) (all_places o es))

-- the second tape has each word of the first where the permutation puts it
abbrev pub HasMovedWords : Opening → List Event → Opening → List Event → Type 0
HasMovedWords o es other others = (place : ℕ) → place < o.shape.n + arrived es → word_at other others (twin_permutation o es other others place) ≡ word_at o es place
