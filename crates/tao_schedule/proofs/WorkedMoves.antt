-- The worked schedule, by computing.
use Rattle.std.proofs.Common.{ℕ, [], ◌∷◌, reverse, take, drop, refl, sym, ap, ◌∙◌, subst, arith, inr}
use Rattle.std.proofs.lemmas.List.{take-append-drop, reverse-append}
use Rattle.tao_model.specs.Lawful.{FollowsLawfully}
use Rattle.tao_model.specs.Worked.{write_backs_out_of_order, all_b, zero, bucket, entry}
use Rattle.tao_model.proofs.LawfulToWhole.{earlier_follows}
use Rattle.tao_model.proofs.WorkedRecords.{worked_are_lawful}
use Rattle.tao_text.specs.declared.script.What.{What}
use Rattle.tao_schedule.specs.Schedules.{Goes, IsSchedule}
use Rattle.tao_schedule.specs.Steps.{is_misplaced, is_full, moves_of, rest_of}
use Rattle.tao_schedule.specs.Drains.{drain_parts}
use Rattle.tao_schedule.specs.Worked.{IsWorked, WorkedSchedule, front_moves, front_events}
use Rattle.tao_schedule.proofs.AllowedMoves.{placed_may_go}

pub worked_steps : IsWorked
unfolding is_misplaced moves_of rest_of drain_parts
worked_steps = record {
  reading = refl;
  taking = refl;
  putting = refl;
  acknowledging = refl;
  acknowledged = refl;
  reads = refl;
  puts = refl;
  rest = refl;
  server = refl;
  served = refl;
  served_later = refl;
  drained = refl;
  again = refl;
  sent = refl;
  sent_later = refl;
}

abbrev Front : ℕ → ℕ → Type 0
Front moves events = IsSchedule write_backs_out_of_order.opening (front_moves moves) (front_events events)

lawful_front : (count : ℕ) → FollowsLawfully write_backs_out_of_order.opening (front_events count)
lawful_front count =
    earlier_follows write_backs_out_of_order.opening (reverse (drop count write_backs_out_of_order.events)) (front_events count)
    (subst (FollowsLawfully write_backs_out_of_order.opening)
    (ap reverse (sym (take-append-drop count write_backs_out_of_order.events)) ∙ reverse-append (take count write_backs_out_of_order.events) (drop count write_backs_out_of_order.events))
    worked_are_lawful.out_of_order.follows)

w0 : Front 0 0
unfolding IsSchedule
w0 = refl

w1 : Front 1 1
unfolding IsSchedule Goes is_misplaced is_full
w1 = (front_events 0, w0, (omega arith, refl))

w2 : Front 2 1
unfolding IsSchedule Goes is_misplaced is_full
w2 = (front_events 1, w1, (refl, refl, refl, refl))

w3 : Front 3 1
unfolding IsSchedule Goes is_misplaced is_full
w3 = (front_events 1, w2, (refl, refl, refl, refl))

w4 : Front 4 3
unfolding IsSchedule Goes is_misplaced is_full
w4 = (front_events 1, w3, (refl, (placed_may_go write_backs_out_of_order.opening (front_moves 3) (front_events 1) (What.Done 0) (lawful_front 1) tt refl refl).1, (omega arith, (bucket 1 0 1 [] ∷ bucket 2 0 2 (entry 0 zero ∷ []) ∷ []), inr (1, 4, (bucket 1 1 4 [] ∷ bucket 2 1 5 (entry 0 zero ∷ []) ∷ []), refl))))

w5 : Front 5 4
unfolding IsSchedule Goes is_misplaced is_full
w5 = (front_events 3, w4, (omega arith, refl))

w6 : Front 6 4
unfolding IsSchedule Goes is_misplaced is_full
w6 = (front_events 4, w5, (refl, refl, refl, refl))

w7 : Front 7 4
unfolding IsSchedule Goes is_misplaced is_full
w7 = (front_events 4, w6, (refl, refl, refl, refl))

w8 : Front 8 6
unfolding IsSchedule Goes is_misplaced is_full
w8 = (front_events 4, w7, (refl, (placed_may_go write_backs_out_of_order.opening (front_moves 7) (front_events 4) (What.Done 1) (lawful_front 4) tt refl refl).1, (omega arith, (bucket 3 0 3 (entry 1 zero ∷ []) ∷ []), inr (2, 6, (bucket 1 2 6 [] ∷ bucket 3 2 7 (entry 1 all_b ∷ []) ∷ []), refl))))

w9 : Front 9 6
unfolding IsSchedule Goes is_misplaced is_full
w9 = (front_events 6, w8, (refl, refl, refl))

w10 : Front 10 6
unfolding IsSchedule Goes is_misplaced is_full
w10 = (front_events 6, w9, (refl, refl, refl))

w11 : Front 11 7
unfolding IsSchedule Goes is_misplaced is_full
w11 = (front_events 6, w10, placed_may_go write_backs_out_of_order.opening (front_moves 10) (front_events 6) (What.Ack 2) (lawful_front 6) tt refl refl)

w12 : Front 12 7
unfolding IsSchedule Goes is_misplaced is_full
w12 = (front_events 7, w11, (refl, refl, refl))

w13 : Front 13 7
unfolding IsSchedule Goes is_misplaced is_full
w13 = (front_events 7, w12, (refl, refl, refl))

w14 : Front 14 8
unfolding IsSchedule Goes is_misplaced is_full
w14 = (front_events 7, w13, placed_may_go write_backs_out_of_order.opening (front_moves 13) (front_events 7) (What.Ack 1) (lawful_front 7) tt refl refl)

w15 : Front 15 9
unfolding IsSchedule Goes is_misplaced is_full
w15 = (front_events 8, w14, (omega arith, refl))

w16 : Front 16 9
unfolding IsSchedule Goes is_misplaced is_full
w16 = (front_events 9, w15, (refl, refl, refl, refl))

w17 : Front 17 9
unfolding IsSchedule Goes is_misplaced is_full
w17 = (front_events 9, w16, (refl, refl, refl, refl))

w18 : Front 18 11
unfolding IsSchedule Goes is_misplaced is_full
w18 = (front_events 9, w17, (refl, (placed_may_go write_backs_out_of_order.opening (front_moves 17) (front_events 9) (What.Done 2) (lawful_front 9) tt refl refl).1, (omega arith, (bucket 1 2 6 [] ∷ bucket 3 2 7 (entry 1 all_b ∷ []) ∷ []), inr (3, 8, (bucket 1 3 8 (entry 1 all_b ∷ []) ∷ bucket 3 3 9 [] ∷ []), refl))))

w19 : Front 19 11
unfolding IsSchedule Goes is_misplaced is_full
w19 = (front_events 11, w18, (refl, refl, refl))

w20 : Front 20 11
unfolding IsSchedule Goes is_misplaced is_full
w20 = (front_events 11, w19, (refl, refl, refl))

w21 : Front 21 12
unfolding IsSchedule Goes is_misplaced is_full
w21 = (front_events 11, w20, placed_may_go write_backs_out_of_order.opening (front_moves 20) (front_events 11) (What.Ack 3) (lawful_front 11) tt refl refl)

pub worked_schedule : WorkedSchedule
worked_schedule = w21
