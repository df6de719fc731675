-- Entries and blocks, one after another.
use Rattle.std.proofs.Common.{◌≡◌, ℕ, ◌+◌, ◌<◌, ◌≤◌, List, [], ◌∷◌, ◌++◌, length, get_or, set, map, take, drop, Option, Some, None, sym, ap, ap₂, subst, ◌∙◌, append_assoc, add-zero, arith}
use Rattle.std.specs.List.{All, filter_map, range_with_len}
use Rattle.std.specs.Option.{option_to_list}
use Rattle.std.proofs.lemmas.List.{map_more, length-append, get_or-drop, drop-drop, drop-set-lt}
use Rattle.std.proofs.lemmas.List.Elements.{All-same, All-append, All-map}
use Rattle.tao_base.specs.declared.storage.Entry.{Entry}
use Rattle.tao_bucket.specs.Encoding.{value_of, IsBlock, HasBlock}
use Rattle.tao_bucket.specs.Reading.{slot_at, entry_of, entry_at}
use Rattle.tao_bucket.proofs.Firsts.{given_more}

one_at_most : {X : Type 0} (o : Option X) → length (option_to_list o) ≤ 1
one_at_most None = omega arith
one_at_most (Some x) = omega arith

pub few_more : {X : Type 0} (xs ys : List X) (o : Option X) (i : ℕ) → ys ≡ xs ++ option_to_list o → length xs ≤ i → length ys ≤ i + 1
few_more xs ys o i more few = omega (arith, ap length more, length-append xs (option_to_list o), one_at_most o)

-- the entry of slot i is put
pub entries_more : (b i : ℕ) (slots slot : List ℕ) (before after : List Entry) → slot ≡ slot_at b slots i
    → before ≡ filter_map (entry_at b slots) (range_with_len 0 i) → after ≡ before ++ option_to_list (entry_of slot)
    → after ≡ filter_map (entry_at b slots) (range_with_len 0 (i + 1))
unfolding entry_at
entries_more b i slots slot before after here so_far put =
    put ∙ ap₂ (λ (xs ys : List Entry). xs ++ ys) so_far (ap (λ s. option_to_list (entry_of s)) here) ∙ sym (given_more (entry_at b slots) i)

same_place : (i : ℕ) (now old : List Entry) (d : Entry) → drop i now ≡ drop i old → get_or now i d ≡ get_or old i d
same_place i now old d same =
    sym (rw add-zero at (get_or-drop i now 0 d)) ∙ ap (λ (es : List Entry). get_or es 0 d) same ∙ rw add-zero at (get_or-drop i old 0 d)

-- entry i is written over
pub rest_more : (i : ℕ) (now old : List Entry) (e : Entry) → drop i now ≡ drop i old → drop (i + 1) (set now i e) ≡ drop (i + 1) old
rest_more i now old e same =
    drop-set-lt (i + 1) now i e (omega arith) ∙ sym (drop-drop 1 i now) ∙ ap (drop 1) same ∙ drop-drop 1 i old

-- the block of entry i is taken
pub blocks_more : (i : ℕ) (start before after : List (List ℕ)) (value : List ℕ) (old now : List Entry) (d : Entry) → i < length old
    → drop i now ≡ drop i old → before ≡ start ++ map value_of (take i old) → value ≡ value_of (get_or now i d) → after ≡ before ++ value ∷ []
    → after ≡ start ++ map value_of (take (i + 1) old)
blocks_more i start before after value old now d within same so_far here put =
    put ∙ ap₂ (λ (xs : List (List ℕ)) v. xs ++ v ∷ []) so_far (here ∙ ap value_of (same_place i now old d same))
    ∙ append_assoc start (map value_of (take i old)) (value_of (get_or old i d) ∷ [])
    ∙ ap (λ (vs : List (List ℕ)). start ++ vs) (sym (map_more value_of old i d within))

-- the blocks of entries, and those that there were
pub all_blocks : (a b : ℕ) (spare now : List (List ℕ)) (entries : List Entry) → a ≡ b → now ≡ spare ++ map value_of entries → All (IsBlock a) spare → All (HasBlock a) entries → All (IsBlock b) now
all_blocks a b spare now entries same parts spare_values entry_values =
    All-same (IsBlock b) now (spare ++ map value_of entries) parts
    (All-append (IsBlock b) spare (map value_of entries)
    (subst (λ n. All (IsBlock n) spare) same spare_values)
    (All-map (IsBlock b) value_of entries (subst (λ n. All (HasBlock n) entries) same entry_values)))
