-- Worked proxies' records, by computing.
use Rattle.std.proofs.Common.{◌≡◌, ℕ, List, [], ◌∷◌, reverse, take, length, slice_index, All, IfSome, refl, ap, arith}
use Rattle.std.specs.Prelude.{slice_index_or}
use Rattle.std.specs.List.{AllByRecursion}
use Rattle.std.proofs.lemmas.Bool.{ltb-true}
use Rattle.std.proofs.lemmas.List.Elements.{All-from_recursion}
use Rattle.tao_base.specs.declared.session.Event.{Event}
use Rattle.tao_base.specs.declared.storage.Bucket.{Bucket}
use Rattle.tao_base.specs.declared.storage.Entry.{Entry}
use Rattle.tao_base.specs.Session.{Opening}
use Rattle.tao_model.specs.Residence.{newest_write, HasEntriesOf}
use Rattle.tao_model.specs.Lawful.{IsLawful}
use Rattle.tao_model.specs.Worked.{bucket, entry, all_a, all_b, history}
use Rattle.tao_model.proofs.LawfulTests.{lawful_by}
use Rattle.tao_held.specs.Held.{held, found_value, served_answer, WritesHeld, IsOfProxy}
use Rattle.tao_held.specs.WorkedProxies.{two_leaves, overlapping_write, read_with, written_back, OverlappingWriteHolds, VersionsAreTold, AlteredIsAnswered, OnlyTrueWrites}

-- each bucket has the entries that were held at its node
pub all_held : (o : Opening) (es : List Event) (buckets : List Bucket) → AllByRecursion (λ bucket. bucket.entries ≡ held o es bucket.node) buckets
    → All (λ bucket. bucket.entries ≡ held o es bucket.node) buckets
all_held o es buckets each = All-from_recursion (λ bucket. bucket.entries ≡ held o es bucket.node) buckets each

-- each bucket has the entries that were last written at its node
all_honest : (count : ℕ) (taken : List Bucket)
    → AllByRecursion (λ x. IfSome (newest_write two_leaves (reverse (take count overlapping_write.events)) x.node) (HasEntriesOf x)) taken
    → All (λ x. IfSome (newest_write two_leaves (reverse (take count overlapping_write.events)) x.node) (HasEntriesOf x)) taken
all_honest count taken each = All-from_recursion (λ x. IfSome (newest_write two_leaves (reverse (take count overlapping_write.events)) x.node) (HasEntriesOf x)) taken each

-- a lawful record with true write-backs
of_proxy : (events : List Event) → IsLawful (history two_leaves events) → WritesHeld two_leaves (reverse events) → IsOfProxy two_leaves (reverse events)
of_proxy events lawful writes = record { opens = lawful.opens; follows = lawful.follows; writes = writes }

-- the first byte of the first entry's value
first_byte : List Entry → ℕ
first_byte entries = slice_index (slice_index_or entries 0 (entry 0 [])).value 0

pub overlapping_write_holds : OverlappingWriteHolds
unfolding held found_value served_answer
overlapping_write_holds = record {
  of_proxy = of_proxy overlapping_write.events (lawful_by overlapping_write refl refl refl refl) (
    (tt, all_held two_leaves (reverse (take 4 overlapping_write.events)) (bucket 1 1 4 (entry 0 all_b ∷ []) ∷ bucket 2 1 5 [] ∷ []) (refl, (refl, tt))),
    all_held two_leaves (reverse (take 10 overlapping_write.events)) (bucket 1 2 6 (entry 0 all_b ∷ []) ∷ bucket 3 2 7 (entry 1 (0 ∷ 0 ∷ 0 ∷ 0 ∷ []) ∷ []) ∷ []) (refl, (refl, tt)),
  );
  honest = (
    (
      (
        (
          tt,
          all_honest 2 (bucket 1 0 1 [] ∷ bucket 2 0 2 (entry 0 all_a ∷ []) ∷ []) (refl, (refl, tt)),
        ),
        all_honest 3 [] tt,
      ),
      all_honest 8 (bucket 1 1 4 (entry 0 all_b ∷ []) ∷ bucket 3 0 3 (entry 1 (0 ∷ 0 ∷ 0 ∷ 0 ∷ []) ∷ []) ∷ []) (refl, (refl, tt)),
    ),
    all_honest 9 [] tt,
  );
  answered = refl;
  found_before = refl;
  found_after = refl;
  held_once_read = refl;
  held_till_written = refl;
  held_no_more = refl;
  held_again = refl;
}

pub versions_are_told : VersionsAreTold
versions_are_told = record {
  loaded = refl;
  written = refl;
  in_the_end = refl;
  untouched = refl;
  touched = refl;
  written_back = refl;
  touched_again = refl;
}

pub altered_is_answered : AlteredIsAnswered
unfolding held found_value served_answer first_byte
altered_is_answered = record {
  as_it_came = refl;
  kept_so = refl;
  of_proxy = of_proxy (read_with (entry 0 all_b ∷ [])) (lawful_by (history two_leaves (read_with (entry 0 all_b ∷ []))) refl refl refl refl) tt;
  altered = λ is. let wrong : 98 ≡ 97 = ap first_byte (is.1 1 (bucket 0 0 0 []) (ltb-true 1 2 refl)) in omega arith;
  taken_out = refl;
  of_proxy_too = of_proxy (read_with []) (lawful_by (history two_leaves (read_with [])) refl refl refl refl) tt;
  altered_too = λ is. let wrong : 0 ≡ 1 = ap length (is.1 1 (bucket 0 0 0 []) (ltb-true 1 2 refl)) in omega arith;
}

pub only_true_writes : OnlyTrueWrites
unfolding held first_byte
only_true_writes = record {
  true_one = of_proxy (written_back (entry 0 all_b ∷ []) []) (lawful_by (history two_leaves (written_back (entry 0 all_b ∷ []) [])) refl refl refl refl)
      (tt, all_held two_leaves (reverse (take 4 overlapping_write.events)) (bucket 1 1 4 (entry 0 all_b ∷ []) ∷ bucket 2 1 5 [] ∷ []) (refl, (refl, tt)));
  lawful = (lawful_by (history two_leaves (written_back (entry 0 all_a ∷ []) [])) refl refl refl refl).follows;
  old_value = λ is. let wrong : 97 ≡ 98 = ap first_byte (is.writes.1 0 (bucket 0 0 0 []) (ltb-true 0 2 refl)) in omega arith;
  left_out = λ is. let wrong : 0 ≡ 1 = ap length (is.writes.1 0 (bucket 0 0 0 []) (ltb-true 0 2 refl)) in omega arith;
  moved = λ is. let wrong : 0 ≡ 1 = ap length (is.writes.1 0 (bucket 0 0 0 []) (ltb-true 0 2 refl)) in omega arith;
  twice = λ is. let wrong : 1 ≡ 0 = ap length (is.writes.1 1 (bucket 0 0 0 []) (ltb-true 1 2 refl)) in omega arith;
}
