-- Which answers are honest, in a worked record.
use Rattle.std.proofs.Common.{◌≡◌, ℕ, List, [], ◌∷◌, reverse, take, length, slice_index, All, IfSome, refl, ap, arith}
use Rattle.std.specs.Prelude.{slice_index_or}
use Rattle.std.specs.List.{AllByRecursion}
use Rattle.std.proofs.lemmas.Bool.{ltb-true}
use Rattle.std.proofs.lemmas.List.Elements.{All-from_recursion}
use Rattle.tao_base.specs.declared.storage.Bucket.{Bucket}
use Rattle.tao_base.specs.declared.storage.Entry.{Entry}
use Rattle.tao_model.specs.Residence.{newest_write, Unaltered, HasEntriesOf}
use Rattle.tao_model.specs.Worked.{bucket, entry, all_a, all_b, read_write_read}
use Rattle.tao_model.specs.WorkedAnswers.{IsHonestThird, AnswersAreTold}

-- a bucket has the entries that were last written at its node, after so many events
abbrev IsHonest : ℕ → Bucket → Type 0
IsHonest count x = IfSome (newest_write read_write_read.opening (reverse (take count read_write_read.events)) x.node) (HasEntriesOf x)

all_honest : (count : ℕ) (taken : List Bucket) → AllByRecursion (IsHonest count) taken → All (IsHonest count) taken
all_honest count taken each = All-from_recursion (IsHonest count) taken each

-- the first two fetches are honest
first_two : Unaltered HasEntriesOf read_write_read.opening (reverse (take 9 read_write_read.events))
first_two = (
  (
    tt,
    all_honest 1 (bucket 1 0 1 [] ∷ bucket 2 0 2 [] ∷ bucket 4 0 4 (entry 0 all_a ∷ []) ∷ []) (refl, (refl, (refl, tt))),
  ),
  all_honest 5 (bucket 1 1 8 (entry 0 all_a ∷ []) ∷ bucket 3 0 3 [] ∷ bucket 6 0 6 [] ∷ []) (refl, (refl, (refl, tt))),
)

third : (taken : List Bucket) → AllByRecursion (IsHonest 9) taken → IsHonestThird taken
third taken each = (first_two, all_honest 9 taken each)

-- the first byte of the first entry's value
first_byte : List Entry → ℕ
first_byte entries = slice_index (slice_index_or entries 0 (entry 0 [])).value 0

-- the id of the first entry's block
first_id : List Entry → ℕ
first_id entries = (slice_index_or entries 0 (entry 0 [])).id

pub answers_are_told : AnswersAreTold
unfolding first_byte first_id
answers_are_told = record {
  whole = third (bucket 1 2 11 (entry 0 all_b ∷ []) ∷ bucket 2 1 9 [] ∷ bucket 5 0 5 [] ∷ []) (refl, (refl, (refl, tt)));
  honest = third (bucket 1 2 11 (entry 0 all_b ∷ []) ∷ bucket 2 1 9 [] ∷ bucket 5 0 5 [] ∷ []) (refl, (refl, (refl, tt)));
  entries_alone = third (bucket 1 0 0 (entry 0 all_b ∷ []) ∷ bucket 2 0 0 [] ∷ bucket 5 7 7 [] ∷ []) (refl, (refl, (refl, tt)));
  older = λ is. let wrong : 97 ≡ 98 = ap first_byte (is.1 0 (bucket 0 0 0 []) (ltb-true 0 3 refl)) in omega arith;
  lost = λ is. let wrong : 0 ≡ 1 = ap length (is.1 0 (bucket 0 0 0 []) (ltb-true 0 3 refl)) in omega arith;
  added = λ is. let wrong : 1 ≡ 0 = ap length (is.1 1 (bucket 0 0 0 []) (ltb-true 1 3 refl)) in omega arith;
  added_last = λ is. let wrong : 1 ≡ 0 = ap length (is.1 2 (bucket 0 0 0 []) (ltb-true 2 3 refl)) in omega arith;
  other_value = λ same. let wrong : 97 ≡ 98 = ap first_byte same in omega arith;
  other_block = λ same. let wrong : 1 ≡ 0 = ap first_id same in omega arith;
}
