-- Two worked schedules in which fetches and write-backs overlap.
use Rattle.std.specs.Prelude.{◌≡◌, ℕ, true, false, List, [], ◌∷◌, map, reverse, take, None}
use Rattle.tao_base.specs.declared.calls.Op.TheVariants.{Read, Write}
use Rattle.tao_base.specs.declared.parameters.Form.TheVariants.{One}
use Rattle.tao_base.specs.declared.session.Event.TheVariants.{Arrive, Done, Issue, Acked}
use Rattle.tao_base.specs.Limits.{shape}
use Rattle.tao_base.specs.Session.{History}
use Rattle.tao_model.specs.Worked.{bucket, entry, opening, history, kept_under_a_fetch, zero, all_b}
use Rattle.tao_text.specs.declared.script.What.{What}
use Rattle.tao_schedule.specs.Moves.{Move, Arrives, Serves, Completes, Applies, Acknowledges, server_version, served_version}
use Rattle.tao_schedule.specs.Schedules.{IsSchedule}
use Rattle.tao_schedule.specs.Steps.{is_misplaced, moves_of}
use Rattle.tao_schedule.specs.Drains.{drain_parts, outstanding, again_moves}

-- the first so many of a list, newest first
abbrev pub front : {X : Type 0} → List X → ℕ → List X
front items count = reverse (take count items)

-- A write and a read of one block are under way at once, and one write-back covers both.
abbrev pub write_under_a_read : History
write_under_a_read = history
    (opening (shape 1 1 4 1 2 One) (1 ∷ []) (zero ∷ []) (bucket 1 0 1 [] ∷ bucket 2 0 2 [] ∷ bucket 3 0 3 (entry 0 zero ∷ []) ∷ []))
    (Arrive 0 (Write 0 all_b) 0
    ∷ Arrive 1 (Read 0) 1
    ∷ Done 0 (bucket 1 0 1 [] ∷ bucket 3 0 3 (entry 0 zero ∷ []) ∷ [])
    ∷ Done 1 []
    ∷ Issue 1 4 (bucket 1 1 4 (entry 0 all_b ∷ []) ∷ bucket 3 1 5 [] ∷ [])
    ∷ Acked 1 ∷ [])

-- its moves, the oldest first: both paths are read before one is admitted, and the drain sends the store again
abbrev pub both_moves : List Move
both_moves = Arrives 0 (Write 0 all_b) 0 ∷ Arrives 1 (Read 0) 1 ∷ Serves 0 1 ∷ Serves 0 3 ∷ Serves 1 1 ∷ Serves 1 3 ∷ Completes 0 ∷ Completes 1 ∷ Applies 1 1 ∷ Applies 1 3 ∷ Acknowledges 1 ∷ []

-- the moves of the record whose root is kept under a fetch: the first write-back is applied while the second fetch is under way
abbrev pub kept_moves : List Move
kept_moves = Arrives 0 (Read 0) 1 ∷ Serves 0 1 ∷ Serves 0 2 ∷ Serves 0 4 ∷ Completes 0 ∷ Arrives 1 (Read 1) 2 ∷ Applies 1 1 ∷ Applies 1 2 ∷ Applies 1 4 ∷ Acknowledges 1 ∷ Serves 1 1 ∷ Serves 1 3 ∷ Serves 1 7 ∷ Completes 1 ∷ Applies 2 1 ∷ Applies 2 3 ∷ Applies 2 7 ∷ Acknowledges 2 ∷ []

-- Which steps of both sessions are misplaced on the way, the moves of steps, what was read, and what a drain does.
pub record AreOverlapping : Type 0 where
  pub early : map (is_misplaced write_under_a_read.opening (front both_moves 4) (front write_under_a_read.events 2)) (What.Done 0 ∷ What.Done 1 ∷ What.Read 1 None ∷ What.Put 1 None ∷ []) ≡ false ∷ true ∷ false ∷ true ∷ []
  pub fake_reads : moves_of write_under_a_read.opening (front both_moves 4) (front write_under_a_read.events 2) 0 (What.Read 1 None) ≡ Serves 1 1 ∷ Serves 1 3 ∷ []
  pub nothing_due : outstanding (front write_under_a_read.events 3) ≡ []
  pub finishing : drain_parts (front write_under_a_read.events 3) ≡ What.Read 1 None ∷ What.Done 1 ∷ []
  pub sent : again_moves (front write_under_a_read.events 5) 1 ≡ Applies 1 1 ∷ Applies 1 3 ∷ Acknowledges 1 ∷ []
  pub putting : map (is_misplaced kept_under_a_fetch.opening (front kept_moves 6) (front kept_under_a_fetch.events 4)) (What.Put 1 None ∷ What.Ack 1 ∷ What.Done 1 ∷ What.Put 2 None ∷ []) ≡ false ∷ true ∷ true ∷ true ∷ []
  pub puts : moves_of kept_under_a_fetch.opening (front kept_moves 6) (front kept_under_a_fetch.events 4) 0 (What.Put 1 None) ≡ Applies 1 1 ∷ Applies 1 2 ∷ Applies 1 4 ∷ []
  pub read : map (served_version (reverse kept_moves) 1) (1 ∷ 3 ∷ 7 ∷ []) ≡ 1 ∷ 0 ∷ 0 ∷ []
  pub server : map (server_version (reverse kept_moves)) (1 ∷ 2 ∷ 3 ∷ 4 ∷ 7 ∷ []) ≡ 2 ∷ 1 ∷ 2 ∷ 1 ∷ 2 ∷ []

-- All moves of both are allowed, and lead to their records.
pub record OverlapsAreAllowed : Type 0 where
  pub both : IsSchedule write_under_a_read.opening (reverse both_moves) (reverse write_under_a_read.events)
  pub kept : IsSchedule kept_under_a_fetch.opening (reverse kept_moves) (reverse kept_under_a_fetch.events)
