-- Slots of entries in form have no fault, and give the entries again.
use Rattle.std.proofs.Common.{◌≡◌, ℕ, zero, suc, ◌+◌, ◌-◌, ◌*◌, ◌^◌, ◌<◌, ◌≤◌, true, eqb, List, [], ◌++◌, length, get_or, take, drop, map, Some, None, refl, sym, ap, ap₂, ◌∙◌, inl, inr, arith}
use Rattle.std.specs.List.{AllByRecursion, filter_map, flat_map, list_all, range_with_len}
use Rattle.std.specs.Option.{option_to_list}
use Rattle.std.specs.Int.{w32, from_be_bytes}
use Rattle.std.proofs.lemmas.Bool.{cases_lt, lt-ltb, and_from, cond-true, cond-false, ne_eqb}
use Rattle.std.proofs.lemmas.Nat.{from_be_bytes-to_be_bytes_4}
use Rattle.std.proofs.lemmas.List.{take-replicate, drop-replicate, take_more, take_all, append-nil, get_or-map, length-map}
use Rattle.std.proofs.lemmas.List.Elements.{recursion_from_All}
use Rattle.tao_base.specs.Limits.{Shape}
use Rattle.tao_base.specs.declared.storage.Entry.{Entry}
use Rattle.tao_base.specs.Buckets.{AreInForm}
use Rattle.tao_bucket.specs.Encoding.{HasBlock, id_of, slot_of, slots_of}
use Rattle.tao_bucket.specs.Reading.{slot_at, id_field, may_follow, field_before, fault_at, slots_fault, first_of, entry_of, entry_at, entries_of}
use Rattle.tao_bucket.proofs.Faults.{fault_by, dummy_by, entry_by}
use Rattle.tao_bucket.proofs.Firsts.{given_more, none_more}
use Rattle.tao_bucket.proofs.Pieces.{zeros, entry_slot, zero_slot}
use Rattle.tao_bucket.proofs.Rising.{strictly}

pub field_of_entry : (e : Entry) → e.id + 1 < 2 ^ 32 → id_field (slot_of e) ≡ e.id + 1
field_of_entry e small = from_be_bytes-to_be_bytes_4 (e.id + 1) small

pub field_of_zeros : (b : ℕ) → id_field (zeros (4 + b)) ≡ 0
field_of_zeros b = ap (from_be_bytes w32) (take-replicate {X = ℕ} 4 (4 + b) 0 (omega arith))

zeros_are_zero : (b : ℕ) → list_all (λ byte. eqb byte 0) (zeros b) ≡ true
zeros_are_zero zero = refl
zeros_are_zero (suc b) = zeros_are_zero b

rest_of_zeros : (b : ℕ) → drop 4 (zeros (4 + b)) ≡ zeros b
rest_of_zeros b = drop-replicate {X = ℕ} 4 (4 + b) 0 ∙ ap zeros (omega arith)

-- an entry's slot, and a dummy's
pub entry_again : (e : Entry) → e.id + 1 < 2 ^ 32 → entry_of (slot_of e) ≡ Some e
unfolding entry_of
entry_again e small =
    let field = field_of_entry e small in
    cond-false (eqb (id_field (slot_of e)) 0) None _ (ne_eqb (id_field (slot_of e)) 0 (λ none. omega arith))
    ∙ ap (λ id. Some (record { id = id; value = e.value })) (ap (λ f. f - 1) field ∙ omega arith)

pub dummy_again : (b : ℕ) → entry_of (zeros (4 + b)) ≡ None
unfolding entry_of
dummy_again b = cond-true (eqb (id_field (zeros (4 + b))) 0) None _ (ap (λ f. eqb f 0) (field_of_zeros b))

module _ (s : Shape) (es : List Entry) (form : AreInForm s es) (small : s.n < 2 ^ 32) where
  blocks : AllByRecursion (HasBlock s.b) es
  blocks = recursion_from_All (HasBlock s.b) es form.values

  abbrev slots : List ℕ
  slots = flat_map slot_of es ++ zeros ((s.z - length es) * (4 + s.b))

  at_entry : (k : ℕ) (d : Entry) → k < length es → slot_at s.b slots k ≡ slot_of (get_or es k d)
  at_entry k d within = entry_slot s.b es (zeros ((s.z - length es) * (4 + s.b))) k d blocks within

  at_dummy : (k : ℕ) → length es ≤ k → k < s.z → slot_at s.b slots k ≡ zeros (4 + s.b)
  at_dummy k behind within = zero_slot s.b es k (k - length es) (s.z - length es) blocks (omega arith) (omega arith)

  small_id : (k : ℕ) (d : Entry) → k < length es → (get_or es k d).id < s.n
  small_id k d within = form.ids k d within

  field_at : (k : ℕ) (d : Entry) → k < length es → id_field (slot_at s.b slots k) ≡ (get_or es k d).id + 1
  field_at k d within = ap id_field (at_entry k d within) ∙ field_of_entry (get_or es k d) (omega (arith, small_id k d within))

  rises : (j : ℕ) (d : Entry) → j + 1 < length es → (get_or es j d).id < (get_or es (j + 1) d).id
  rises j d within =
      let len : length (map id_of es) ≡ length es = length-map es id_of in
      let low = get_or-map id_of es j d 0 (omega arith) in
      let high = get_or-map id_of es (j + 1) d 0 within in
      let up : get_or (map id_of es) j 0 < get_or (map id_of es) (j + 1) 0 = strictly 0 es form.rising j (omega arith) in
      omega arith

  follows_at : (k : ℕ) (d : Entry) → k < length es → may_follow (field_before s.b slots k) ((get_or es k d).id + 1) ≡ true
  follows_at zero d within = refl
  follows_at (suc j) d within =
      let before = field_at j d (omega arith) in
      let next : j + 1 ≡ suc j = omega arith in
      let up : (get_or es j d).id < (get_or es (suc j) d).id = rw next at (rises j d (omega arith)) in
      and_from _ _ (lt-ltb 0 (id_field (slot_at s.b slots j)) (omega arith)) (lt-ltb (id_field (slot_at s.b slots j)) ((get_or es (suc j) d).id + 1) (omega arith))

  no_fault : (d : Entry) (k : ℕ) → k < s.z → fault_at s.n s.b slots k ≡ None
  unfolding fault_at
  no_fault d k within =
      elim (cases_lt k (length es)) [
        | inl lt ↦
            ap (λ f. fault_by s.n (field_before s.b slots k) f (list_all (λ byte. eqb byte 0) (drop 4 (slot_at s.b slots k)))) (field_at k d lt)
            ∙ entry_by s.n (get_or es k d).id (field_before s.b slots k) _ (small_id k d lt) (follows_at k d lt)
        | inr le ↦
            ap (λ slot. fault_by s.n (field_before s.b slots k) (id_field slot) (list_all (λ byte. eqb byte 0) (drop 4 slot))) (at_dummy k le within)
            ∙ ap₂ (fault_by s.n (field_before s.b slots k)) (field_of_zeros s.b) (ap (list_all (λ byte. eqb byte 0)) (rest_of_zeros s.b) ∙ zeros_are_zero s.b)
            ∙ dummy_by s.n (field_before s.b slots k)
      ]

  no_faults : (d : Entry) (i : ℕ) → i ≤ s.z → filter_map (fault_at s.n s.b slots) (range_with_len 0 i) ≡ []
  no_faults d zero within = refl
  no_faults d (suc i) within =
      let count : i + 1 ≡ suc i = omega arith in
      rw count at (none_more (fault_at s.n s.b slots) i (no_faults d i (omega arith)) (no_fault d i (omega arith)))

  entries_again : (d : Entry) (i : ℕ) → i ≤ s.z → filter_map (entry_at s.b slots) (range_with_len 0 i) ≡ take i es
  unfolding entry_at
  entries_again d zero within = refl
  entries_again d (suc i) within =
      let count : i + 1 ≡ suc i = omega arith in
      let before = entries_again d i (omega arith) in
      let more = rw count at (given_more (entry_at s.b slots) i) in
      elim (cases_lt i (length es)) [
        | inl lt ↦
            more
            ∙ ap₂ (λ (xs : List Entry) o. xs ++ option_to_list o) before (ap entry_of (at_entry i d lt) ∙ entry_again (get_or es i d) (omega (arith, small_id i d lt)))
            ∙ sym (rw count at (take_more es i d lt))
        | inr le ↦
            more
            ∙ ap₂ (λ (xs : List Entry) o. xs ++ option_to_list o) before (ap entry_of (at_dummy i le (omega arith)) ∙ dummy_again s.b)
            ∙ append-nil (take i es) ∙ take_all i es le ∙ sym (take_all (suc i) es (omega arith))
      ]

-- what is left of this for slots as they are written
pub slots_again : (s : Shape) (es : List Entry) → AreInForm s es → s.n < 2 ^ 32
    → (slots_fault s.n s.z s.b (slots_of s.z s.b es) ≡ None) × (entries_of s.z s.b (slots_of s.z s.b es) ≡ es)
unfolding slots_of
slots_again s es form small =
    let d : Entry = record { id = 0; value = [] } in
    (ap first_of (no_faults s es form small d s.z (omega arith)), entries_again s es form small d s.z (omega arith) ∙ take_all s.z es form.few)
