-- How far worked records have come after some of their events.
use Rattle.std.specs.Prelude.{◌≡◌, ℕ, Bool, true, false, List, [], ◌∷◌, ◌++◌, map, reverse, take, Some, None}
use Rattle.std.specs.List.{range_with_len}
use Rattle.tao_base.specs.declared.session.Cause.TheVariants.{Link}
use Rattle.tao_base.specs.declared.session.Event.{Event}
use Rattle.tao_base.specs.declared.session.Event.TheVariants.{Fault}
use Rattle.tao_base.specs.Session.{History}
use Rattle.tao_model.specs.Events.{has_fault, cause_in, is_under_way, is_outstanding}
use Rattle.tao_model.specs.Requests.{is_settled}
use Rattle.tao_model.specs.Residence.{newest_version}
use Rattle.tao_model.specs.LookBacks.{written_at}
use Rattle.tao_model.specs.Worked.{bucket, entry, zero, overlapping_requests, write_backs_out_of_order}

-- the first so many events of a record, newest first
abbrev pub first_events : History → ℕ → List Event
first_events h count = reverse (take count h.events)

-- which of the arrivals 0 to 3 pass a test of three overlapping requests, after so many events
abbrev pub overlapping : (List Event → ℕ → Bool) → ℕ → List Bool
overlapping test count = map (test (first_events overlapping_requests count)) (range_with_len 0 4)

-- which of the versions 0 to 3 are outstanding after so many events of the write-backs out of order
abbrev pub outstanding_after : ℕ → List Bool
outstanding_after count = map (is_outstanding (first_events write_backs_out_of_order count)) (range_with_len 0 4)

-- Three requests of one block overlap, and their paths come in reverse order: what is under way, and what is settled. Of two write-backs
-- the later is acknowledged first: what is outstanding, and the versions of the three nodes.
pub record ProgressIsTold : Type 0 where
  pub some_arrived : overlapping is_under_way 2 ≡ true ∷ true ∷ false ∷ false ∷ []
  pub last_is_done : overlapping is_under_way 4 ≡ true ∷ true ∷ false ∷ false ∷ []
  pub all_done : overlapping is_under_way 6 ≡ false ∷ false ∷ false ∷ false ∷ []
  pub real_not_done : overlapping is_settled 5 ≡ false ∷ false ∷ false ∷ false ∷ []
  pub real_is_done : overlapping is_settled 6 ≡ true ∷ true ∷ true ∷ true ∷ []
  pub one_issued : outstanding_after 3 ≡ false ∷ true ∷ false ∷ false ∷ []
  pub both_issued : outstanding_after 6 ≡ false ∷ true ∷ true ∷ false ∷ []
  pub later_acknowledged : outstanding_after 7 ≡ false ∷ true ∷ false ∷ false ∷ []
  pub both_acknowledged : outstanding_after 8 ≡ false ∷ false ∷ false ∷ false ∷ []
  pub versions : map (newest_version (first_events write_backs_out_of_order 8)) (1 ∷ 2 ∷ 3 ∷ []) ≡ 2 ∷ 1 ∷ 2 ∷ []

-- What was written at node 2 of the write-backs out of order: the load and version 1, and nothing under version 2.
pub record WritesAreTold : Type 0 where
  pub loaded : written_at write_backs_out_of_order.opening write_backs_out_of_order.events 0 2 ≡ Some (bucket 2 0 2 (entry 0 zero ∷ []))
  pub written : written_at write_backs_out_of_order.opening write_backs_out_of_order.events 1 2 ≡ Some (bucket 2 1 5 (entry 0 zero ∷ []))
  pub left_out : written_at write_backs_out_of_order.opening write_backs_out_of_order.events 2 2 ≡ None

-- A record that goes on has no cause; one that ends with a Fault has its cause.
pub record EndsAreTold : Type 0 where
  pub none : cause_in (reverse write_backs_out_of_order.events) ≡ None
  pub running : has_fault (reverse write_backs_out_of_order.events) ≡ false
  pub cause : cause_in (reverse (write_backs_out_of_order.events ++ Fault (Link 7) ∷ [])) ≡ Some (Link 7)
  pub ended : has_fault (reverse (write_backs_out_of_order.events ++ Fault (Link 7) ∷ [])) ≡ true
