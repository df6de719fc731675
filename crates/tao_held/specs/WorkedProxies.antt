-- Proxies' records worked out by hand, with periods of two: a write that overlaps a read, a pad, altered buckets, untrue write-backs.
use Rattle.std.specs.Prelude.{◌≡◌, ℕ, Bool, true, false, List, [], ◌∷◌, ◌++◌, map, reverse, take}
use Rattle.std.specs.List.{range_with_len}
use Rattle.tao_base.specs.declared.storage.Entry.{Entry}
use Rattle.tao_base.specs.declared.calls.Op.TheVariants.{Read, Write, Pad}
use Rattle.tao_base.specs.declared.parameters.Form.TheVariants.{One}
use Rattle.tao_base.specs.declared.session.Event.{Event}
use Rattle.tao_base.specs.declared.session.Event.TheVariants.{Arrive, Done, Issue, Acked}
use Rattle.tao_base.specs.Limits.{shape}
use Rattle.tao_base.specs.Session.{Opening, History}
use Rattle.tao_model.specs.Residence.{Unaltered, HasEntriesOf}
use Rattle.tao_model.specs.Lawful.{FollowsLawfully}
use Rattle.tao_model.specs.Worked.{bucket, entry, zero, all_a, all_b, opening, history}
use Rattle.tao_held.specs.Held.{found_value, served_answer, newest_entries, IsOfProxy, is_recent}
use Rattle.tao_held.specs.WorkedHeld.{held_after}

-- block 0 at the first leaf, which is node 2, and block 1 at the other, node 3
abbrev pub two_leaves : Opening
two_leaves = opening (shape 1 1 4 2 2 One) (0 ∷ 1 ∷ []) (all_a ∷ zero ∷ [])
    (bucket 1 0 1 [] ∷ bucket 2 0 2 (entry 0 all_a ∷ []) ∷ bucket 3 0 3 (entry 1 zero ∷ []) ∷ [])

-- ---- a write that overlaps a read, and a pad

-- The write arrives while the read of its block is under way, so it is fake: the read's Done settles both, and the new value goes into the root.
-- In the second period the block is read again, beside a pad.
abbrev pub overlapping_write : History
overlapping_write = history two_leaves
    (Arrive 0 (Read 0) 1
    ∷ Arrive 1 (Write 0 all_b) 0
    ∷ Done 0 (bucket 1 0 1 [] ∷ bucket 2 0 2 (entry 0 all_a ∷ []) ∷ [])
    ∷ Done 1 []
    ∷ Issue 1 4 (bucket 1 1 4 (entry 0 all_b ∷ []) ∷ bucket 2 1 5 [] ∷ [])
    ∷ Acked 1
    ∷ Arrive 0 (Read 0) 0
    ∷ Arrive 1 Pad 1
    ∷ Done 2 (bucket 1 1 4 (entry 0 all_b ∷ []) ∷ bucket 3 0 3 (entry 1 zero ∷ []) ∷ [])
    ∷ Done 3 []
    ∷ Issue 2 6 (bucket 1 2 6 (entry 0 all_b ∷ []) ∷ bucket 3 2 7 (entry 1 zero ∷ []) ∷ [])
    ∷ Acked 2 ∷ [])

-- the latest versions of the nodes from the root to this one, after so many events
abbrev pub newest_after : ℕ → ℕ → List (List Entry)
newest_after count nodes = map (newest_entries two_leaves (reverse (take count overlapping_write.events))) (range_with_len 1 nodes)

-- which of them were touched since the last write-back
abbrev pub recent_after : ℕ → ℕ → List Bool
recent_after count nodes = map (is_recent two_leaves (reverse (take count overlapping_write.events))) (range_with_len 1 nodes)

-- Both of the first period are answered what was there before the write, the later read what was written, and the pad nothing.
pub record OverlappingWriteHolds : Type 0 where
  pub of_proxy : IsOfProxy two_leaves (reverse overlapping_write.events)
  pub honest : Unaltered HasEntriesOf two_leaves (reverse overlapping_write.events)
  pub answered : map (served_answer two_leaves (reverse overlapping_write.events)) (range_with_len 0 4) ≡ all_a ∷ all_a ∷ all_b ∷ [] ∷ []
  pub found_before : found_value two_leaves (reverse overlapping_write.events) 0 ≡ all_a
  pub found_after : found_value two_leaves (reverse overlapping_write.events) 2 ≡ all_b
  pub held_once_read : held_after overlapping_write 3 3 ≡ [] ∷ (entry 0 all_b ∷ []) ∷ [] ∷ [] ∷ []
  pub held_till_written : held_after overlapping_write 5 3 ≡ [] ∷ (entry 0 all_b ∷ []) ∷ [] ∷ [] ∷ []
  pub held_no_more : held_after overlapping_write 6 3 ≡ [] ∷ [] ∷ [] ∷ [] ∷ []
  pub held_again : held_after overlapping_write 9 3 ≡ [] ∷ (entry 0 all_b ∷ []) ∷ [] ∷ (entry 1 zero ∷ []) ∷ []

-- A write-back replaces its nodes' versions. A Done makes its path recent, and a write-back ends that.
pub record VersionsAreTold : Type 0 where
  pub loaded : newest_after 4 3 ≡ [] ∷ (entry 0 all_a ∷ []) ∷ (entry 1 zero ∷ []) ∷ []
  pub written : newest_after 5 3 ≡ (entry 0 all_b ∷ []) ∷ [] ∷ (entry 1 zero ∷ []) ∷ []
  pub in_the_end : newest_after 12 3 ≡ (entry 0 all_b ∷ []) ∷ [] ∷ (entry 1 zero ∷ []) ∷ []
  pub untouched : recent_after 2 3 ≡ false ∷ false ∷ false ∷ []
  pub touched : recent_after 3 3 ≡ true ∷ true ∷ false ∷ []
  pub written_back : recent_after 5 3 ≡ false ∷ false ∷ false ∷ []
  pub touched_again : recent_after 9 3 ≡ true ∷ false ∷ true ∷ []

-- ---- altered buckets

-- a read of block 0 whose leaf came with these entries
abbrev pub read_with : List Entry → List Event
read_with entries = Arrive 0 (Read 0) 1 ∷ Done 0 (bucket 1 0 1 [] ∷ bucket 2 0 2 entries ∷ []) ∷ []

-- The block is found and answered as it came, and a block that was taken out as zeros. Both are proxies' records, but not honest ones.
pub record AlteredIsAnswered : Type 0 where
  pub as_it_came : served_answer two_leaves (reverse (read_with (entry 0 all_b ∷ []))) 0 ≡ all_b
  pub kept_so : held_after (history two_leaves (read_with (entry 0 all_b ∷ []))) 2 3 ≡ [] ∷ (entry 0 all_b ∷ []) ∷ [] ∷ [] ∷ []
  pub of_proxy : IsOfProxy two_leaves (reverse (read_with (entry 0 all_b ∷ [])))
  pub altered : Unaltered HasEntriesOf two_leaves (reverse (read_with (entry 0 all_b ∷ []))) → ⊥
  pub taken_out : served_answer two_leaves (reverse (read_with [])) 0 ≡ zero
  pub of_proxy_too : IsOfProxy two_leaves (reverse (read_with []))
  pub altered_too : Unaltered HasEntriesOf two_leaves (reverse (read_with [])) → ⊥

-- ---- untrue write-backs

-- the first period, whose write-back has these entries in the root and these in the leaf
abbrev pub written_back : List Entry → List Entry → List Event
written_back root leaf = take 4 overlapping_write.events ++ Issue 1 4 (bucket 1 1 4 root ∷ bucket 2 1 5 leaf ∷ []) ∷ []

-- Only a write-back of just what is held is true, though others may be lawful: not the old value, not the block left out or moved.
pub record OnlyTrueWrites : Type 0 where
  pub true_one : IsOfProxy two_leaves (reverse (written_back (entry 0 all_b ∷ []) []))
  pub lawful : FollowsLawfully two_leaves (reverse (written_back (entry 0 all_a ∷ []) []))
  pub old_value : IsOfProxy two_leaves (reverse (written_back (entry 0 all_a ∷ []) [])) → ⊥
  pub left_out : IsOfProxy two_leaves (reverse (written_back [] [])) → ⊥
  pub moved : IsOfProxy two_leaves (reverse (written_back [] (entry 0 all_b ∷ []))) → ⊥
  pub twice : IsOfProxy two_leaves (reverse (written_back (entry 0 all_b ∷ []) (entry 0 all_b ∷ []))) → ⊥
