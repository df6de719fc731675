-- A worked schedule: two write-backs, the later acknowledged first, and its state on the way.
use Rattle.std.specs.Prelude.{◌≡◌, ℕ, Bool, true, false, List, [], ◌∷◌, map, reverse, take, Some, None}
use Rattle.tao_base.specs.declared.calls.Op.TheVariants.{Read, Write}
use Rattle.tao_base.specs.declared.session.Event.{Event}
use Rattle.tao_model.specs.Worked.{write_backs_out_of_order, all_b}
use Rattle.tao_text.specs.declared.script.What.{What}
use Rattle.tao_schedule.specs.Moves.{Move, Arrives, Serves, Completes, Applies, Acknowledges, server_version, served_version}
use Rattle.tao_schedule.specs.Schedules.{IsSchedule}
use Rattle.tao_schedule.specs.Steps.{is_misplaced, moves_of, rest_of}
use Rattle.tao_schedule.specs.Drains.{drain_parts, outstanding, again_moves}

-- the moves, the oldest first: node 1 of version 2 is put before that of version 1
abbrev pub worked_moves : List Move
worked_moves = Arrives 0 (Read 0) 0 ∷ Serves 0 1 ∷ Serves 0 2 ∷ Completes 0
    ∷ Arrives 0 (Write 1 all_b) 1 ∷ Serves 1 1 ∷ Serves 1 3 ∷ Completes 1
    ∷ Applies 2 1 ∷ Applies 2 3 ∷ Acknowledges 2
    ∷ Applies 1 1 ∷ Applies 1 2 ∷ Acknowledges 1
    ∷ Arrives 1 (Read 1) 0 ∷ Serves 2 1 ∷ Serves 2 3 ∷ Completes 2
    ∷ Applies 3 1 ∷ Applies 3 3 ∷ Acknowledges 3 ∷ []

-- the first so many moves, newest first
abbrev pub front_moves : ℕ → List Move
front_moves count = reverse (take count worked_moves)

-- the same for the events
abbrev pub front_events : ℕ → List Event
front_events count = reverse (take count write_backs_out_of_order.events)

-- which of these steps are misplaced after so many moves and events
abbrev pub misplaced_at : ℕ → ℕ → List What → List Bool
misplaced_at moves events steps = map (is_misplaced write_backs_out_of_order.opening (front_moves moves) (front_events events)) steps

-- Which steps are misplaced on the way, the moves of steps, the server's versions now and at each read, and what a drain
-- would do.
pub record IsWorked : Type 0 where
  pub reading : misplaced_at 6 4 (What.Read 1 None ∷ What.Read 1 (Some 0) ∷ What.Read 1 (Some 1) ∷ What.Done 1 ∷ What.Read 0 None ∷ What.Read 2 None ∷ What.Done 0 ∷ What.A 0 (Read 0) ∷ [])
      ≡ false ∷ true ∷ false ∷ true ∷ true ∷ true ∷ true ∷ false ∷ []
  pub taking : misplaced_at 7 4 (What.Read 1 None ∷ What.Read 1 (Some 1) ∷ What.Done 1 ∷ []) ≡ false ∷ true ∷ false ∷ []
  pub putting : misplaced_at 9 6 (What.Put 1 None ∷ What.Put 2 (Some 1) ∷ What.Put 2 (Some 3) ∷ What.Put 2 (Some 2) ∷ What.Put 3 None ∷ What.Put 0 None ∷ What.Ack 2 ∷ What.Ack 1 ∷ [])
      ≡ false ∷ true ∷ false ∷ true ∷ true ∷ true ∷ true ∷ true ∷ []
  pub acknowledging : misplaced_at 10 6 (What.Put 2 None ∷ What.Ack 2 ∷ What.Ack 1 ∷ []) ≡ false ∷ false ∷ true ∷ []
  pub acknowledged : misplaced_at 11 7 (What.Put 2 None ∷ What.Ack 2 ∷ What.Put 1 (Some 1) ∷ []) ≡ true ∷ true ∷ false ∷ []
  pub reads : moves_of write_backs_out_of_order.opening (front_moves 6) (front_events 4) 0 (What.Read 1 None) ≡ Serves 1 3 ∷ []
  pub puts : moves_of write_backs_out_of_order.opening (front_moves 9) (front_events 6) 0 (What.Put 1 None) ≡ Applies 1 1 ∷ Applies 1 2 ∷ []
  pub rest : rest_of write_backs_out_of_order.opening (front_events 8) (What.Do 1 (Read 1)) ≡ What.Read 2 None ∷ What.Done 2 ∷ What.Put 3 None ∷ What.Ack 3 ∷ []
  pub server : map (server_version (front_moves 14)) (1 ∷ 2 ∷ 3 ∷ []) ≡ 2 ∷ 1 ∷ 2 ∷ []
  pub served : map (served_version (reverse worked_moves) 1) (1 ∷ 3 ∷ []) ≡ 0 ∷ 0 ∷ []
  pub served_later : map (served_version (reverse worked_moves) 2) (1 ∷ 3 ∷ []) ≡ 2 ∷ 2 ∷ []
  pub drained : drain_parts (front_events 4) ≡ What.Read 1 None ∷ What.Done 1 ∷ []
  pub again : again_moves (front_events 6) 1 ≡ Applies 1 1 ∷ Applies 1 2 ∷ Acknowledges 1 ∷ []
  pub sent : outstanding (front_events 6) ≡ 1 ∷ 2 ∷ []
  pub sent_later : outstanding (front_events 7) ≡ 1 ∷ []

-- All moves are allowed and lead to the worked record.
abbrev pub WorkedSchedule : Type 0
WorkedSchedule = IsSchedule write_backs_out_of_order.opening (reverse worked_moves) (reverse write_backs_out_of_order.events)
