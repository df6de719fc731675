-- Counts of a worked record, and a worked record retold with other operations.
use Rattle.std.specs.Prelude.{◌≡◌, ℕ, ◌+◌, ◌==◌, if◌then◌else◌, [], ◌∷◌, map, reverse}
use Rattle.std.specs.List.{range_with_len}
use Rattle.tao_base.specs.declared.calls.Op.{Op}
use Rattle.tao_base.specs.declared.calls.Op.TheVariants.{Read, Write}
use Rattle.tao_base.specs.declared.session.Event.TheVariants.{Arrive}
use Rattle.tao_model.specs.Events.{is_done, is_acked}
use Rattle.tao_model.specs.Worked.{all_b, overlapping_requests, write_backs_out_of_order}
use Rattle.tao_model.specs.WorkedPlays.{four_blocks, reads_of_one}
use Rattle.tao_model.specs.WorkedProgress.{first_events}
use Rattle.tao_laws.specs.Counted.{count_below}
use Rattle.tao_laws.specs.Retold.{retold, retold_place}

-- Three arrivals of which two are done, and two write-backs of which one is acknowledged.
pub record CountsAreTold : Type 0 where
  pub none : count_below (is_done (first_events overlapping_requests 3)) 3 ≡ 0
  pub two : count_below (is_done (first_events overlapping_requests 5)) 3 ≡ 2
  pub all : count_below (is_done (first_events overlapping_requests 6)) 3 ≡ 3
  pub one : count_below (λ u. is_acked (first_events write_backs_out_of_order 7) (u + 1)) 2 ≡ 1

-- the other operations: arrival i reads block i, but the last one writes its block
abbrev pub each_its_own : ℕ → Op
each_its_own i = if i == 3 then Write 3 all_b else Read i

-- Four reads of one block, retold as reads and a write of four blocks: the events, and where each place of the tape goes.
pub record RetoldIsTold : Type 0 where
  pub events : retold each_its_own (reverse reads_of_one)
      ≡ Arrive 3 (Write 3 all_b) 0 ∷ Arrive 2 (Read 2) 1 ∷ Arrive 1 (Read 1) 2 ∷ Arrive 0 (Read 0) 3 ∷ []
  pub places : map (retold_place each_its_own (four_blocks (0 ∷ 1 ∷ 2 ∷ 3 ∷ [])) (reverse reads_of_one)) (range_with_len 0 8)
      ≡ 0 ∷ 4 ∷ 5 ∷ 6 ∷ 7 ∷ 1 ∷ 2 ∷ 3 ∷ []
