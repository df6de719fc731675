-- Slots without a fault are those of the entries that they give.
use Rattle.std.proofs.Common.{◌≡◌, ℕ, zero, suc, ◌+◌, ◌-◌, ◌*◌, ◌<◌, ◌≤◌, true, eqb, ltb, List, [], ◌∷◌, ◌++◌, length, get_or, take, drop, map, Option, Some, None, refl, sym, ap, ap₂, subst, ◌∙◌, append_assoc, inl, inr, arith}
use Rattle.std.specs.List.{All, filter_map, flat_map, list_all, range_with_len}
use Rattle.std.specs.List.Sorted.{IsStrictlyIncreasing}
use Rattle.std.specs.Option.{option_to_list}
use Rattle.std.specs.Int.{w32, to_be_bytes}
use Rattle.std.proofs.lemmas.Bool.{cases_lt, and_parts, ltb-true, eqb-true, cond-true, cond-false, ne_eqb}
use Rattle.std.proofs.lemmas.Nat.{be_bytes_4, mul-le}
use Rattle.std.proofs.lemmas.List.{append-nil, take_all, take-append-drop, length-take, length-take-le, length-drop, length_push, get_or-take, get_or-drop, get_or_past, get_or_append_left, get_or_push, get_or-map, map_push, length-map, replicate-append-replicate}
use Rattle.std.proofs.lemmas.List.Elements.{All-nil, All-push}
use Rattle.std.proofs.lemmas.List.Concat.{flat_map-append}
use Rattle.tao_base.specs.Limits.{Shape}
use Rattle.tao_base.specs.declared.storage.Entry.{Entry}
use Rattle.tao_base.specs.Buckets.{AreInForm}
use Rattle.tao_bucket.specs.Encoding.{HasBlock, id_of, slot_of, slots_of}
use Rattle.tao_bucket.specs.Reading.{slot_at, id_field, may_follow, field_before, fault_at, slots_fault, entry_of, entry_at, entries_of}
use Rattle.tao_bucket.proofs.Faults.{IsFaultless, faultless}
use Rattle.tao_bucket.proofs.Firsts.{given_more, all_none}
use Rattle.tao_bucket.proofs.Pieces.{zeros, take_parts}
use Rattle.tao_bucket.proofs.Rising.{rises_all}

-- ---- bytes

abbrev pub IsBytes : List ℕ → Type 0
IsBytes bytes = (i : ℕ) → get_or bytes i 0 < 256

pub bytes_drop : (n : ℕ) (bytes : List ℕ) → IsBytes bytes → IsBytes (drop n bytes)
bytes_drop n bytes h i = rw get_or-drop (h (n + i))

pub bytes_take : (n : ℕ) (bytes : List ℕ) → IsBytes bytes → IsBytes (take n bytes)
bytes_take n bytes h i =
    elim (cases_lt i n) [
      | inl lt ↦ rw get_or-take (h i)
      | inr le ↦ rw (get_or_past (take n bytes) i 0 (omega (arith, length-take n bytes))) (omega arith)
    ]

-- ---- one slot

all_zero : (bytes : List ℕ) → list_all (λ byte. eqb byte 0) bytes ≡ true → bytes ≡ zeros (length bytes)
all_zero [] h = refl
all_zero (x ∷ xs) h =
    let both = and_parts (eqb x 0) (list_all (λ byte. eqb byte 0) xs) h in
    ap₂ (λ y ys. y ∷ ys) (eqb-true x 0 both.0) (all_zero xs both.1)

-- the first four bytes of a slot are those of its id field
field_bytes : (slot : List ℕ) → IsBytes slot → 4 ≤ length slot → to_be_bytes w32 (id_field slot) ≡ take 4 slot
field_bytes slot bytes long = be_bytes_4 (take 4 slot) (id_field slot) (length-take-le 4 slot long) (bytes_take 4 slot bytes) refl

-- a dummy's slot
dummy_slot : (b : ℕ) (slot : List ℕ) → IsBytes slot → length slot ≡ 4 + b → id_field slot ≡ 0 → list_all (λ byte. eqb byte 0) (drop 4 slot) ≡ true → slot ≡ zeros (4 + b)
dummy_slot b slot bytes len none rest =
    let front : take 4 slot ≡ zeros 4 = sym (field_bytes slot bytes (omega arith)) ∙ ap (to_be_bytes w32) none in
    let behind : drop 4 slot ≡ zeros b = all_zero (drop 4 slot) rest ∙ ap zeros (omega (arith, length-drop 4 slot)) in
    sym (take-append-drop 4 slot) ∙ ap₂ (λ (xs ys : List ℕ). xs ++ ys) front behind ∙ replicate-append-replicate {A = ℕ} 4 b 0

-- the entry that a slot gives
abbrev entry_in : List ℕ → Entry
entry_in slot = record { id = id_field slot - 1; value = drop 4 slot }

entry_slot : (slot : List ℕ) → IsBytes slot → 4 ≤ length slot → 0 < id_field slot → slot_of (entry_in slot) ≡ slot
entry_slot slot bytes long some =
    let field : id_field slot - 1 + 1 ≡ id_field slot = omega arith in
    ap (λ (xs : List ℕ). xs ++ drop 4 slot) (ap (to_be_bytes w32) field ∙ field_bytes slot bytes long) ∙ take-append-drop 4 slot

gives_entry : (slot : List ℕ) → 0 < id_field slot → entry_of slot ≡ Some (entry_in slot)
unfolding entry_of
gives_entry slot some = cond-false (eqb (id_field slot) 0) None _ (ne_eqb (id_field slot) 0 (λ e. omega arith))

gives_none : (slot : List ℕ) → id_field slot ≡ 0 → entry_of slot ≡ None
unfolding entry_of
gives_none slot none = cond-true (eqb (id_field slot) 0) None _ (ap (λ f. eqb f 0) none)

-- ---- one slot after another

take_slot : (b i : ℕ) (slots : List ℕ) → take (suc i * (4 + b)) slots ≡ take (i * (4 + b)) slots ++ slot_at b slots i
take_slot b i slots =
    let more : suc i * (4 + b) ≡ i * (4 + b) + (4 + b) = omega arith in ap (λ n. take n slots) more ∙ take_parts (i * (4 + b)) (4 + b) slots

length_slot_at : (b z i : ℕ) (slots : List ℕ) → length slots ≡ z * (4 + b) → i < z → length (slot_at b slots i) ≡ 4 + b
length_slot_at b z i slots len within =
    let enough : suc i * (4 + b) ≤ z * (4 + b) = mul-le (suc i) (4 + b) z (4 + b) (omega arith) (omega arith) in
    omega (arith, length-take (4 + b) (drop (i * (4 + b)) slots), length-drop (i * (4 + b)) slots)

-- the last of i entries, where the slot before place i has this id field
abbrev Ends : List Entry → ℕ → Option ℕ → Type 0
Ends es i None = i ≡ 0
Ends es i (Some zero) = Unit {0}
Ends es i (Some (suc id)) = (length es ≡ i) × (0 < i) × ((d : Entry) → (get_or es (i - 1) d).id ≡ id)

-- the first i slots are those of the entries that they give
record Front (s : Shape) (slots : List ℕ) (i : ℕ) (es : List Entry) : Type 0 where
  front : take (i * (4 + s.b)) slots ≡ flat_map slot_of es ++ zeros ((i - length es) * (4 + s.b))
  few : length es ≤ i
  ends : Ends es i (field_before s.b slots i)
  rising : IsStrictlyIncreasing (map id_of es)
  ids : All (λ e. e.id < s.n) es
  values : All (HasBlock s.b) es

-- the entry of a slot that may follow comes at place i, behind all others
place_of : (es : List Entry) (i field : ℕ) (before : Option ℕ) → length es ≤ i → Ends es i before → may_follow before field ≡ true → length es ≡ i
place_of es i field None few ends follows = omega arith
place_of es i field (Some zero) few ends follows = absurd cc
place_of es i field (Some (suc id)) few ends follows = ends.0

-- and its id is greater than the last
last_below : (es : List Entry) (i field : ℕ) (before : Option ℕ) → Ends es i before → may_follow before field ≡ true → 0 < i → (d : Entry) → (get_or es (i - 1) d).id < field - 1
last_below es i field None ends follows some d = absurd (omega arith)
last_below es i field (Some zero) ends follows some d = absurd cc
last_below es i field (Some (suc id)) ends follows some d =
    let up : suc id < field = ltb-true (suc id) field (and_parts (ltb 0 (suc id)) (ltb (suc id) field) follows).1 in
    let last : (get_or es (i - 1) d).id ≡ id = ends.2 d in
    omega arith

push_rising : (xs : List ℕ) (y : ℕ) → IsStrictlyIncreasing xs → (0 < length xs → get_or xs (length xs - 1) 0 < y) → IsStrictlyIncreasing (xs ++ y ∷ [])
push_rising xs y rising last k within =
    let len = length_push xs y in
    let low : get_or (xs ++ y ∷ []) k 0 ≡ get_or xs k 0 = get_or_append_left xs (y ∷ []) 0 k (omega arith) in
    elim (cases_lt (k + 1) (length xs)) [
      | inl lt ↦
          let high : get_or (xs ++ y ∷ []) (k + 1) 0 ≡ get_or xs (k + 1) 0 = get_or_append_left xs (y ∷ []) 0 (k + 1) lt in
          let up : get_or xs k 0 < get_or xs (k + 1) 0 = rising k lt in
          omega arith
      | inr le ↦
          let end : length xs ≡ k + 1 = omega arith in
          let high : get_or (xs ++ y ∷ []) (k + 1) 0 ≡ y = get_or_push xs y 0 (k + 1) end in
          let place : length xs - 1 ≡ k = omega arith in
          let up : get_or xs k 0 < y = rw place at (last (omega arith)) in
          omega arith
    ]

last_id : (es : List Entry) (i y : ℕ) (d : Entry) → length es ≡ i → 0 < i → (get_or es (i - 1) d).id < y → get_or (map id_of es) (length (map id_of es) - 1) 0 < y
last_id es i y d count some below =
    let place : length (map id_of es) - 1 ≡ i - 1 = ap (λ n. n - 1) (length-map es id_of ∙ count) in
    let same = get_or-map id_of es (i - 1) d 0 (omega arith) in
    let here : get_or (map id_of es) (length (map id_of es) - 1) 0 ≡ (get_or es (i - 1) d).id = ap (λ k. get_or (map id_of es) k 0) place ∙ same in
    omega arith

module _ (s : Shape) (slots : List ℕ) (bytes : IsBytes slots) (len : length slots ≡ s.z * (4 + s.b)) where
  abbrev slot : ℕ → List ℕ
  slot i = slot_at s.b slots i

  long : (i : ℕ) → i < s.z → length (slot i) ≡ 4 + s.b
  long i within = length_slot_at s.b s.z i slots len within

  slot_bytes : (i : ℕ) → IsBytes (slot i)
  slot_bytes i = bytes_take (4 + s.b) (drop (i * (4 + s.b)) slots) (bytes_drop (i * (4 + s.b)) slots bytes)

  -- a dummy leaves the entries
  dummy_more : (i : ℕ) (es : List Entry) → i < s.z → Front s slots i es → id_field (slot i) ≡ 0 → list_all (λ byte. eqb byte 0) (drop 4 (slot i)) ≡ true → Front s slots (suc i) es
  dummy_more i es within before none rest =
      let few = before.few in
      let up : suc i - length es ≡ suc (i - length es) = omega arith in
      let number : (i - length es) * (4 + s.b) + (4 + s.b) ≡ suc (i - length es) * (4 + s.b) = omega arith in
      record {
        front =
            take_slot s.b i slots
            ∙ ap₂ (λ (xs ys : List ℕ). xs ++ ys) before.front (dummy_slot s.b (slot i) (slot_bytes i) (long i within) none rest)
            ∙ append_assoc (flat_map slot_of es) (zeros ((i - length es) * (4 + s.b))) (zeros (4 + s.b))
            ∙ ap (λ (xs : List ℕ). flat_map slot_of es ++ xs)
            (replicate-append-replicate {A = ℕ} ((i - length es) * (4 + s.b)) (4 + s.b) 0 ∙ ap zeros (number ∙ ap (λ n. n * (4 + s.b)) (sym up)));
        few = omega arith;
        ends = subst (λ field. Ends es (suc i) (Some field)) (sym none) tt;
        rising = before.rising;
        ids = before.ids;
        values = before.values;
      }

  -- an entry comes behind the others
  entry_more : (i : ℕ) (es : List Entry) → i < s.z → Front s slots i es → 0 < id_field (slot i) → id_field (slot i) ≤ s.n → may_follow (field_before s.b slots i) (id_field (slot i)) ≡ true
      → Front s slots (suc i) (es ++ entry_in (slot i) ∷ [])
  entry_more i es within before some small follows =
      let place : length es ≡ i = place_of es i (id_field (slot i)) (field_before s.b slots i) before.few before.ends follows in
      let count = length_push es (entry_in (slot i)) in
      let is_slot = entry_slot (slot i) (slot_bytes i) (omega (arith, long i within)) some in
      let none : (i - length es) * (4 + s.b) ≡ 0 = let no : i - length es ≡ 0 = omega arith in ap (λ n. n * (4 + s.b)) no ∙ omega arith in
      let still_none : (suc i - length (es ++ entry_in (slot i) ∷ [])) * (4 + s.b) ≡ 0 =
      let no : suc i - length (es ++ entry_in (slot i) ∷ []) ≡ 0 = omega arith in ap (λ n. n * (4 + s.b)) no ∙ omega arith
      in
      let field : id_field (slot i) ≡ suc (id_field (slot i) - 1) = omega arith in
      let last_place : suc i - 1 ≡ i = omega arith in
      record {
        front =
            take_slot s.b i slots
            ∙ ap₂ (λ (xs ys : List ℕ). xs ++ ys) (before.front ∙ ap (λ n. flat_map slot_of es ++ zeros n) none ∙ append-nil (flat_map slot_of es)) (sym is_slot)
            ∙ ap (λ (xs : List ℕ). flat_map slot_of es ++ xs) (sym (append-nil (slot_of (entry_in (slot i)))))
            ∙ sym (flat_map-append slot_of es (entry_in (slot i) ∷ []))
            ∙ sym (ap (λ n. flat_map slot_of (es ++ entry_in (slot i) ∷ []) ++ zeros n) still_none ∙ append-nil (flat_map slot_of (es ++ entry_in (slot i) ∷ [])));
        few = omega arith;
        ends =
            subst (λ f. Ends (es ++ entry_in (slot i) ∷ []) (suc i) (Some f)) (sym field)
            (omega arith, omega arith, λ d. ap (λ k. (get_or (es ++ entry_in (slot i) ∷ []) k d).id) last_place ∙ ap id_of (get_or_push es (entry_in (slot i)) d i place));
        rising =
            subst IsStrictlyIncreasing (sym (map_push id_of es (entry_in (slot i))))
            (push_rising (map id_of es) (id_field (slot i) - 1) before.rising
            (λ more. last_id es i (id_field (slot i) - 1) (entry_in (slot i)) place (omega (arith, length-map es id_of)) (last_below es i (id_field (slot i)) (field_before s.b slots i) before.ends follows (omega (arith, length-map es id_of)) (entry_in (slot i)))));
        ids = All-push (λ e. e.id < s.n) es (entry_in (slot i)) before.ids (omega arith);
        values = All-push (HasBlock s.b) es (entry_in (slot i)) before.values (omega (arith, long i within, length-drop 4 (slot i)));
      }

  -- the first i slots, of which none has a fault
  front_of : (i : ℕ) → i ≤ s.z → ((k : ℕ) → k < i → fault_at s.n s.b slots k ≡ None) → Front s slots i (filter_map (entry_at s.b slots) (range_with_len 0 i))
  unfolding fault_at entry_at
  front_of zero within none = record {
    front = let no : 0 * (4 + s.b) ≡ 0 = omega arith in let still : (0 - 0) * (4 + s.b) ≡ 0 = omega arith in ap (λ n. take n slots) no ∙ sym (ap zeros still);
    few = omega arith;
    ends = refl;
    rising = λ k h. absurd (omega arith);
    ids = All-nil (λ e. e.id < s.n);
    values = All-nil (HasBlock s.b);
  }
  front_of (suc i) within none =
      let count : i + 1 ≡ suc i = omega arith in
      let before = front_of i (omega arith) (λ k h. none k (omega arith)) in
      let more = rw count at (given_more (entry_at s.b slots) i) in
      let fine : IsFaultless s.n (field_before s.b slots i) (id_field (slot i)) (list_all (λ byte. eqb byte 0) (drop 4 (slot i))) =
      faultless s.n (id_field (slot i)) (field_before s.b slots i) _ (none i (omega arith))
      in
      elim (cases_lt 0 (id_field (slot i))) [
        | inl some ↦
            subst (Front s slots (suc i)) (sym (more ∙ ap (λ o. filter_map (entry_at s.b slots) (range_with_len 0 i) ++ option_to_list o) (gives_entry (slot i) some)))
            (entry_more i (filter_map (entry_at s.b slots) (range_with_len 0 i)) (omega arith) before some fine.within (fine.follows some))
        | inr none ↦
            let no_field : id_field (slot i) ≡ 0 = omega arith in
            subst (Front s slots (suc i))
            (sym (more ∙ ap (λ o. filter_map (entry_at s.b slots) (range_with_len 0 i) ++ option_to_list o) (gives_none (slot i) no_field) ∙ append-nil (filter_map (entry_at s.b slots) (range_with_len 0 i))))
            (dummy_more i (filter_map (entry_at s.b slots) (range_with_len 0 i)) (omega arith) before no_field (fine.dummy no_field))
      ]

-- what is left of this for all slots
pub slots_taken : (s : Shape) (slots : List ℕ) → IsBytes slots → length slots ≡ s.z * (4 + s.b) → slots_fault s.n s.z s.b slots ≡ None
    → AreInForm s (entries_of s.z s.b slots) × (slots ≡ slots_of s.z s.b (entries_of s.z s.b slots))
unfolding slots_of
slots_taken s slots bytes len none =
    let all = front_of s slots bytes len s.z (omega arith) (all_none (fault_at s.n s.b slots) s.z none) in
    (record { few = all.few; rising = rises_all _ all.rising; ids = all.ids; values = all.values }, sym (take_all (s.z * (4 + s.b)) slots (omega arith)) ∙ all.front)
