-- The worked records, by computing.
use Rattle.std.proofs.Common.{[], ◌∷◌, reverse, take, refl}
use Rattle.tao_model.specs.Worked.{bucket, entry, zero, all_a, all_b, read_write_read, overlapping_requests}
use Rattle.tao_model.proofs.WorkedRecords.{worked_are_lawful}
use Rattle.tao_held.specs.WorkedHeld.{OneReadHolds, TwoFetchesHold, WritesAreAnswered, CopiesThatCount, WorkedAreOfProxy}
use Rattle.tao_held.specs.Held.{held, served_answer, found_value}
use Rattle.tao_held.proofs.TrueWrites.{all_held}

pub one_read_holds : OneReadHolds
unfolding held found_value served_answer
one_read_holds = record { before = refl; fetched = refl; written = refl; let_go = refl; found = refl; answered = refl }

pub two_fetches_hold : TwoFetchesHold
unfolding held served_answer found_value
two_fetches_hold = record { fetched = refl; answered = refl }

pub writes_are_answered : WritesAreAnswered
unfolding held found_value served_answer
writes_are_answered = record { written = refl; one_by_one = refl; at_once = refl }

pub copies_that_count : CopiesThatCount
unfolding held found_value served_answer
copies_that_count = record { stash = refl; placed = refl; resident = refl; waits = refl }

pub worked_are_of_proxy : WorkedAreOfProxy
unfolding held
worked_are_of_proxy = record {
  one_by_one = record {
    opens = worked_are_lawful.write.opens;
    follows = worked_are_lawful.write.follows;
    writes = (
      (
        (
          tt,
          all_held read_write_read.opening (reverse (take 2 read_write_read.events)) (bucket 1 1 8 (entry 0 all_a ∷ []) ∷ bucket 2 1 9 [] ∷ bucket 4 1 10 [] ∷ []) (refl, (refl, (refl, tt))),
        ),
        all_held read_write_read.opening (reverse (take 6 read_write_read.events)) (bucket 1 2 11 (entry 0 all_b ∷ []) ∷ bucket 3 2 12 [] ∷ bucket 6 2 13 [] ∷ []) (refl, (refl, (refl, tt))),
      ),
      all_held read_write_read.opening (reverse (take 10 read_write_read.events)) (bucket 1 3 14 (entry 0 all_b ∷ []) ∷ bucket 2 3 15 [] ∷ bucket 5 3 16 [] ∷ []) (refl, (refl, (refl, tt))),
    );
  };
  at_once = record {
    opens = worked_are_lawful.overlapping.opens;
    follows = worked_are_lawful.overlapping.follows;
    writes = (
      tt,
      all_held overlapping_requests.opening (reverse (take 6 overlapping_requests.events))
          (bucket 1 1 8 [] ∷ bucket 2 1 9 (entry 0 all_a ∷ []) ∷ bucket 3 1 10 [] ∷ bucket 4 1 11 [] ∷ bucket 6 1 12 [] ∷ bucket 7 1 13 (entry 1 zero ∷ []) ∷ [])
          (refl, (refl, (refl, (refl, (refl, (refl, tt)))))),
    );
  };
}
