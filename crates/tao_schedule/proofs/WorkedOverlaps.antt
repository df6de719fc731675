-- The schedules that overlap, by computing.
use Rattle.std.proofs.Common.{ℕ, List, [], ◌∷◌, reverse, take, drop, refl, sym, ap, ◌∙◌, subst, arith, inl, inr}
use Rattle.std.proofs.lemmas.List.{take-append-drop, reverse-append}
use Rattle.tao_base.specs.Session.{History}
use Rattle.tao_model.specs.Lawful.{FollowsLawfully, IsLawful}
use Rattle.tao_model.specs.Worked.{kept_under_a_fetch, all_b, zero, bucket, entry}
use Rattle.tao_model.proofs.LawfulTests.{lawful_by}
use Rattle.tao_model.proofs.LawfulToWhole.{earlier_follows}
use Rattle.tao_model.proofs.WorkedRecords.{worked_are_lawful}
use Rattle.tao_text.specs.declared.script.What.{What}
use Rattle.tao_schedule.specs.Moves.{Move}
use Rattle.tao_schedule.specs.Schedules.{Goes, IsSchedule}
use Rattle.tao_schedule.specs.Steps.{is_misplaced, is_full, moves_of}
use Rattle.tao_schedule.specs.Drains.{drain_parts}
use Rattle.tao_schedule.specs.WorkedOverlaps.{AreOverlapping, OverlapsAreAllowed, front, write_under_a_read, both_moves, kept_moves}
use Rattle.tao_schedule.proofs.AllowedMoves.{placed_may_go}

pub are_overlapping : AreOverlapping
unfolding is_misplaced moves_of drain_parts
are_overlapping = record {
  early = refl;
  fake_reads = refl;
  nothing_due = refl;
  finishing = refl;
  sent = refl;
  putting = refl;
  puts = refl;
  read = refl;
  server = refl;
}

both_lawful : IsLawful write_under_a_read
both_lawful = lawful_by write_under_a_read refl refl refl refl

kept_lawful : IsLawful kept_under_a_fetch
kept_lawful = worked_are_lawful.kept

lawful_part : (h : History) → IsLawful h → (count : ℕ) → FollowsLawfully h.opening (front h.events count)
lawful_part h is count =
    earlier_follows h.opening (reverse (drop count h.events)) (front h.events count)
    (subst (FollowsLawfully h.opening) (ap reverse (sym (take-append-drop count h.events)) ∙ reverse-append (take count h.events) (drop count h.events)) is.follows)

abbrev Front : History → List Move → ℕ → ℕ → Type 0
Front h moves m e = IsSchedule h.opening (front moves m) (front h.events e)

b0 : Front write_under_a_read both_moves 0 0
unfolding IsSchedule
b0 = refl

b1 : Front write_under_a_read both_moves 1 1
unfolding IsSchedule Goes is_misplaced is_full
b1 = ((front write_under_a_read.events 0), b0, (omega arith, refl))

b2 : Front write_under_a_read both_moves 2 2
unfolding IsSchedule Goes is_misplaced is_full
b2 = ((front write_under_a_read.events 1), b1, (omega arith, refl))

b3 : Front write_under_a_read both_moves 3 2
unfolding IsSchedule Goes is_misplaced is_full
b3 = ((front write_under_a_read.events 2), b2, (refl, refl, refl, refl))

b4 : Front write_under_a_read both_moves 4 2
unfolding IsSchedule Goes is_misplaced is_full
b4 = ((front write_under_a_read.events 2), b3, (refl, refl, refl, refl))

b5 : Front write_under_a_read both_moves 5 2
unfolding IsSchedule Goes is_misplaced is_full
b5 = ((front write_under_a_read.events 2), b4, (refl, refl, refl, refl))

b6 : Front write_under_a_read both_moves 6 2
unfolding IsSchedule Goes is_misplaced is_full
b6 = ((front write_under_a_read.events 2), b5, (refl, refl, refl, refl))

b7 : Front write_under_a_read both_moves 7 3
unfolding IsSchedule Goes is_misplaced is_full
b7 = ((front write_under_a_read.events 2), b6, (refl, (placed_may_go write_under_a_read.opening (front both_moves 6) (front write_under_a_read.events 2) (What.Done 0) (lawful_part write_under_a_read both_lawful 2) tt refl refl).1, (omega arith, (bucket 1 0 1 [] ∷ bucket 3 0 3 (entry 0 zero ∷ []) ∷ []), inl refl)))

b8 : Front write_under_a_read both_moves 8 5
unfolding IsSchedule Goes is_misplaced is_full
b8 = ((front write_under_a_read.events 3), b7, (refl, (placed_may_go write_under_a_read.opening (front both_moves 7) (front write_under_a_read.events 3) (What.Done 1) (lawful_part write_under_a_read both_lawful 3) tt refl refl).1, (omega arith, [], inr (1, 4, (bucket 1 1 4 (entry 0 all_b ∷ []) ∷ bucket 3 1 5 [] ∷ []), refl))))

b9 : Front write_under_a_read both_moves 9 5
unfolding IsSchedule Goes is_misplaced is_full
b9 = ((front write_under_a_read.events 5), b8, (refl, refl, refl))

b10 : Front write_under_a_read both_moves 10 5
unfolding IsSchedule Goes is_misplaced is_full
b10 = ((front write_under_a_read.events 5), b9, (refl, refl, refl))

b11 : Front write_under_a_read both_moves 11 6
unfolding IsSchedule Goes is_misplaced is_full
b11 = ((front write_under_a_read.events 5), b10, placed_may_go write_under_a_read.opening (front both_moves 10) (front write_under_a_read.events 5) (What.Ack 1) (lawful_part write_under_a_read both_lawful 5) tt refl refl)

k0 : Front kept_under_a_fetch kept_moves 0 0
unfolding IsSchedule
k0 = refl

k1 : Front kept_under_a_fetch kept_moves 1 1
unfolding IsSchedule Goes is_misplaced is_full
k1 = ((front kept_under_a_fetch.events 0), k0, (omega arith, refl))

k2 : Front kept_under_a_fetch kept_moves 2 1
unfolding IsSchedule Goes is_misplaced is_full
k2 = ((front kept_under_a_fetch.events 1), k1, (refl, refl, refl, refl))

k3 : Front kept_under_a_fetch kept_moves 3 1
unfolding IsSchedule Goes is_misplaced is_full
k3 = ((front kept_under_a_fetch.events 1), k2, (refl, refl, refl, refl))

k4 : Front kept_under_a_fetch kept_moves 4 1
unfolding IsSchedule Goes is_misplaced is_full
k4 = ((front kept_under_a_fetch.events 1), k3, (refl, refl, refl, refl))

k5 : Front kept_under_a_fetch kept_moves 5 3
unfolding IsSchedule Goes is_misplaced is_full
k5 = ((front kept_under_a_fetch.events 1), k4, (refl, (placed_may_go kept_under_a_fetch.opening (front kept_moves 4) (front kept_under_a_fetch.events 1) (What.Done 0) (lawful_part kept_under_a_fetch kept_lawful 1) tt refl refl).1, (omega arith, (bucket 1 0 1 [] ∷ bucket 2 0 2 [] ∷ bucket 4 0 4 (entry 0 zero ∷ []) ∷ []), inr (1, 8, (bucket 1 1 8 [] ∷ bucket 2 1 9 (entry 0 zero ∷ []) ∷ bucket 4 1 10 [] ∷ []), refl))))

k6 : Front kept_under_a_fetch kept_moves 6 4
unfolding IsSchedule Goes is_misplaced is_full
k6 = ((front kept_under_a_fetch.events 3), k5, (omega arith, refl))

k7 : Front kept_under_a_fetch kept_moves 7 4
unfolding IsSchedule Goes is_misplaced is_full
k7 = ((front kept_under_a_fetch.events 4), k6, (refl, refl, refl))

k8 : Front kept_under_a_fetch kept_moves 8 4
unfolding IsSchedule Goes is_misplaced is_full
k8 = ((front kept_under_a_fetch.events 4), k7, (refl, refl, refl))

k9 : Front kept_under_a_fetch kept_moves 9 4
unfolding IsSchedule Goes is_misplaced is_full
k9 = ((front kept_under_a_fetch.events 4), k8, (refl, refl, refl))

k10 : Front kept_under_a_fetch kept_moves 10 5
unfolding IsSchedule Goes is_misplaced is_full
k10 = ((front kept_under_a_fetch.events 4), k9, placed_may_go kept_under_a_fetch.opening (front kept_moves 9) (front kept_under_a_fetch.events 4) (What.Ack 1) (lawful_part kept_under_a_fetch kept_lawful 4) tt refl refl)

k11 : Front kept_under_a_fetch kept_moves 11 5
unfolding IsSchedule Goes is_misplaced is_full
k11 = ((front kept_under_a_fetch.events 5), k10, (refl, refl, refl, refl))

k12 : Front kept_under_a_fetch kept_moves 12 5
unfolding IsSchedule Goes is_misplaced is_full
k12 = ((front kept_under_a_fetch.events 5), k11, (refl, refl, refl, refl))

k13 : Front kept_under_a_fetch kept_moves 13 5
unfolding IsSchedule Goes is_misplaced is_full
k13 = ((front kept_under_a_fetch.events 5), k12, (refl, refl, refl, refl))

k14 : Front kept_under_a_fetch kept_moves 14 7
unfolding IsSchedule Goes is_misplaced is_full
k14 = ((front kept_under_a_fetch.events 5), k13, (refl, (placed_may_go kept_under_a_fetch.opening (front kept_moves 13) (front kept_under_a_fetch.events 5) (What.Done 1) (lawful_part kept_under_a_fetch kept_lawful 5) tt refl refl).1, (omega arith, (bucket 3 0 3 [] ∷ bucket 7 0 7 (entry 1 zero ∷ []) ∷ []), inr (2, 11, (bucket 1 2 11 [] ∷ bucket 3 2 12 (entry 1 zero ∷ []) ∷ bucket 7 2 13 [] ∷ []), refl))))

k15 : Front kept_under_a_fetch kept_moves 15 7
unfolding IsSchedule Goes is_misplaced is_full
k15 = ((front kept_under_a_fetch.events 7), k14, (refl, refl, refl))

k16 : Front kept_under_a_fetch kept_moves 16 7
unfolding IsSchedule Goes is_misplaced is_full
k16 = ((front kept_under_a_fetch.events 7), k15, (refl, refl, refl))

k17 : Front kept_under_a_fetch kept_moves 17 7
unfolding IsSchedule Goes is_misplaced is_full
k17 = ((front kept_under_a_fetch.events 7), k16, (refl, refl, refl))

k18 : Front kept_under_a_fetch kept_moves 18 8
unfolding IsSchedule Goes is_misplaced is_full
k18 = ((front kept_under_a_fetch.events 7), k17, placed_may_go kept_under_a_fetch.opening (front kept_moves 17) (front kept_under_a_fetch.events 7) (What.Ack 2) (lawful_part kept_under_a_fetch kept_lawful 7) tt refl refl)

pub overlaps_are_allowed : OverlapsAreAllowed
overlaps_are_allowed = record { both = b11; kept = k18 }
