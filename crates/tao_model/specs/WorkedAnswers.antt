-- Honest answers and altered ones, in a worked record.
use Rattle.std.specs.Prelude.{List, [], ◌∷◌, ◌++◌, reverse, take}
use Rattle.tao_base.specs.declared.session.Event.{Event}
use Rattle.tao_base.specs.declared.session.Event.TheVariants.{Done}
use Rattle.tao_base.specs.declared.storage.Bucket.{Bucket}
use Rattle.tao_model.specs.Residence.{Unaltered, HasEntriesOf}
use Rattle.tao_model.specs.Worked.{bucket, entry, zero, all_a, all_b, read_write_read}

-- read, write, read, up to the third fetch, which takes in these buckets
abbrev pub third_takes : List Bucket → List Event
third_takes taken = take 9 read_write_read.events ++ Done 2 taken ∷ []

-- the third fetch is honest, and so were the two before it
abbrev pub IsHonestThird : List Bucket → Type 0
IsHonestThird taken = Unaltered HasEntriesOf read_write_read.opening (reverse (third_takes taken))

-- The third fetch finds in the root what was written second, in node 2 what was written first, and in the leaf what was loaded. Each bucket
-- has to have just those entries, whatever its version and its nonce are.
pub record AnswersAreTold : Type 0 where
  pub whole : Unaltered HasEntriesOf read_write_read.opening (reverse read_write_read.events)
  pub honest : IsHonestThird (bucket 1 2 11 (entry 0 all_b ∷ []) ∷ bucket 2 1 9 [] ∷ bucket 5 0 5 [] ∷ [])
  pub entries_alone : IsHonestThird (bucket 1 0 0 (entry 0 all_b ∷ []) ∷ bucket 2 0 0 [] ∷ bucket 5 7 7 [] ∷ [])
  pub older : IsHonestThird (bucket 1 1 8 (entry 0 all_a ∷ []) ∷ bucket 2 1 9 [] ∷ bucket 5 0 5 [] ∷ []) → ⊥
  pub lost : IsHonestThird (bucket 1 2 11 [] ∷ bucket 2 1 9 [] ∷ bucket 5 0 5 [] ∷ []) → ⊥
  pub added : IsHonestThird (bucket 1 2 11 (entry 0 all_b ∷ []) ∷ bucket 2 1 9 (entry 1 zero ∷ []) ∷ bucket 5 0 5 [] ∷ []) → ⊥
  pub added_last : IsHonestThird (bucket 1 2 11 (entry 0 all_b ∷ []) ∷ bucket 2 1 9 [] ∷ bucket 5 0 5 (entry 1 zero ∷ []) ∷ []) → ⊥
  pub other_value : HasEntriesOf (bucket 1 2 11 (entry 0 all_a ∷ [])) (bucket 1 2 11 (entry 0 all_b ∷ [])) → ⊥
  pub other_block : HasEntriesOf (bucket 1 2 11 (entry 1 all_b ∷ [])) (bucket 1 2 11 (entry 0 all_b ∷ [])) → ⊥
