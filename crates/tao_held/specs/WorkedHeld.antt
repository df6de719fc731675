-- What is held, found and answered in worked records.
use Rattle.std.specs.Prelude.{◌≡◌, ℕ, ◌+◌, List, [], ◌∷◌, map, reverse, take}
use Rattle.std.specs.List.{range_with_len}
use Rattle.tao_base.specs.declared.storage.Entry.{Entry}
use Rattle.tao_base.specs.Session.{History}
use Rattle.tao_base.specs.declared.calls.Op.TheVariants.{Read}
use Rattle.tao_base.specs.declared.parameters.Form.TheVariants.{One}
use Rattle.tao_base.specs.declared.session.Event.{Event}
use Rattle.tao_base.specs.declared.session.Event.TheVariants.{Arrive, Done}
use Rattle.tao_base.specs.Limits.{shape}
use Rattle.tao_model.specs.Worked.{entry, zero, one_read, no_write_back_before_the_period, overlapping_requests, read_write_read, all_a, all_b, bucket, opening, history, full_path}
use Rattle.tao_held.specs.Held.{held, found_value, served_answer, IsOfProxy}

-- the stash and the nodes up to this one after so many events
abbrev pub held_after : History → ℕ → ℕ → List (List Entry)
held_after h count nodes = map (held h.opening (reverse (take count h.events))) (range_with_len 0 (nodes + 1))

-- one read: first nothing, after the Done the block in the root, and nothing once it is acknowledged
pub record OneReadHolds : Type 0 where
  pub before : held_after one_read 1 3 ≡ [] ∷ [] ∷ [] ∷ [] ∷ []
  pub fetched : held_after one_read 2 3 ≡ [] ∷ (entry 0 zero ∷ []) ∷ [] ∷ [] ∷ []
  pub written : held_after one_read 3 3 ≡ [] ∷ (entry 0 zero ∷ []) ∷ [] ∷ [] ∷ []
  pub let_go : held_after one_read 4 3 ≡ [] ∷ [] ∷ [] ∷ [] ∷ []
  pub found : found_value one_read.opening (reverse one_read.events) 0 ≡ zero
  pub answered : served_answer one_read.opening (reverse one_read.events) 0 ≡ zero

-- two fetches of a period of three
pub record TwoFetchesHold : Type 0 where
  pub fetched : held_after no_write_back_before_the_period 4 3 ≡ [] ∷ (entry 0 zero ∷ []) ∷ [] ∷ [] ∷ []
  pub answered : served_answer no_write_back_before_the_period.opening (reverse no_write_back_before_the_period.events) 1 ≡ zero

-- a write between two reads, and three requests of one block under way at once
pub record WritesAreAnswered : Type 0 where
  pub written : held_after read_write_read 11 7 ≡ [] ∷ (entry 0 all_b ∷ []) ∷ [] ∷ [] ∷ [] ∷ [] ∷ [] ∷ [] ∷ []
  pub one_by_one : map (served_answer read_write_read.opening (reverse read_write_read.events)) (range_with_len 0 3) ≡ all_a ∷ all_a ∷ all_b ∷ []
  pub at_once : map (served_answer overlapping_requests.opening (reverse overlapping_requests.events)) (range_with_len 0 3) ≡ all_a ∷ all_a ∷ all_a ∷ []

-- Two worked records are a proxy's: their write-backs are true.
pub record WorkedAreOfProxy : Type 0 where
  pub one_by_one : IsOfProxy read_write_read.opening (reverse read_write_read.events)
  pub at_once : IsOfProxy overlapping_requests.opening (reverse overlapping_requests.events)

-- The bucket of the leaf was altered: it has an entry of block 3, whose copy is in the stash.
abbrev pub altered_path : List Event
altered_path =
    Arrive 0 (Read 3) 3
    ∷ Done 0 (bucket 1 0 1 (entry 2 zero ∷ []) ∷ bucket 2 0 2 (entry 1 zero ∷ []) ∷ bucket 4 0 4 (entry 3 all_a ∷ []) ∷ []) ∷ []

-- The same path as it was written; the new position leaves block 3 no free slot.
abbrev pub waiting_path : List Event
waiting_path =
    Arrive 0 (Read 3) 0
    ∷ Done 0 (bucket 1 0 1 (entry 2 zero ∷ []) ∷ bucket 2 0 2 (entry 1 zero ∷ []) ∷ bucket 4 0 4 (entry 0 zero ∷ []) ∷ []) ∷ []

-- Two reads of one block, one after another, with no write-back.
abbrev pub read_again : History
read_again = history
    (opening (shape 1 1 4 1 3 One) (0 ∷ []) (all_a ∷ [])
    (bucket 1 0 1 [] ∷ bucket 2 0 2 (entry 0 all_a ∷ []) ∷ bucket 3 0 3 [] ∷ []))
    (Arrive 0 (Read 0) 1
    ∷ Done 0 (bucket 1 0 1 [] ∷ bucket 2 0 2 (entry 0 all_a ∷ []) ∷ [])
    ∷ Arrive 0 (Read 0) 0
    ∷ Done 1 (bucket 3 0 3 [] ∷ []) ∷ [])

-- The copy in the stash counts, a held node isn't fetched again, and a block without a free slot stays in the stash.
pub record CopiesThatCount : Type 0 where
  pub stash : served_answer full_path.opening (reverse altered_path) 0 ≡ zero
  pub placed : held_after (history full_path.opening altered_path) 2 4 ≡ [] ∷ (entry 3 zero ∷ []) ∷ (entry 2 zero ∷ []) ∷ [] ∷ (entry 1 zero ∷ []) ∷ []
  pub resident : served_answer read_again.opening (reverse read_again.events) 1 ≡ all_a
  pub waits : held_after (history full_path.opening waiting_path) 2 0 ≡ (entry 3 zero ∷ []) ∷ []
