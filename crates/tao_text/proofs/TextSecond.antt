-- From the line `twin` on: the loads and operations of the second play.
use Rattle.std.proofs.Common.{◌≡◌, ◌≢◌, ◌==◌, ◌&&◌, ◌||◌, ℕ, suc, ◌+◌, ◌-◌, ◌<◌, Bool, true, false, List, [], ◌∷◌, ◌++◌, length, get_or, Option, Some, None, IfSome, MatchOption, All, refl, sym, ap, subst, ◌∙◌, arith, length-append, append_assoc}
use Rattle.std.specs.Prelude.{Contains, filter_map}
use Rattle.std.specs.List.{position_or_len}
use Rattle.std.proofs.Math.Seq.{drop-append-add, take-append_seam}
use Rattle.std.proofs.lemmas.Bool.{and_parts, and_from, eqb-true, eq-eqb}
use Rattle.std.proofs.lemmas.List.Elements.{All-contains, All-head, All-nil, All-push, All-tail, Contains-append_right}
use Rattle.tao_base.specs.declared.calls.Op.{Op}
use Rattle.tao_base.specs.declared.storage.Entry.{Entry}
use Rattle.tao_text.specs.declared.draft.Draft.{Draft}
use Rattle.tao_text.specs.declared.draft.Second.{Second}
use Rattle.tao_text.specs.declared.said.Said.{Said}
use Rattle.tao_text.specs.declared.text.TextOf.{TextOf}
use Rattle.tao_text.specs.Breaks.{MayStandBehind, place_of}
use Rattle.tao_text.specs.Parts.{Item, first_play, has_twin, is_twin, load_of, op_of, second_play}
use Rattle.tao_text.specs.Scripts.{is_above}
use Rattle.tao_text.specs.Texts.{IsEntryOf, IsOpOf, arrivals_in}
use Rattle.tao_text.proofs.TextAdds.{all_below, arrivals_left, rising_loads, shape_left}
use Rattle.tao_text.proofs.TextDrafts.{Before, IsDraftOf, IsSecond, IsSecondOf}
use Rattle.tao_text.proofs.TextParts.{above_all, all_given, filtered_more, filtered_same, given_all, gives_nothing, item_of, last_load, nothing_given}
use Rattle.tao_text.proofs.TextStands.{below_behind, no_such}

-- where the second play begins

not_twin : (said : Said) → place_of said < 6 → is_twin said ≡ false
not_twin Said.Twin before = absurd (omega arith)
not_twin said before = refl

pub no_twin : (items : List Item) → Before items 6 → has_twin items ≡ false
no_twin [] before = refl
no_twin (item ∷ items) before =
    rw (not_twin item.said (All-head (λ item. place_of item.said < 6) item items before), no_twin items (All-tail (λ item. place_of item.said < 6) item items before)) refl

or_true : (b : Bool) → (b || true) ≡ true
or_true true = refl
or_true false = refl

pub with_twin : (front : List Item) (at : ℕ) (back : List Item) → has_twin (front ++ item_of at Said.Twin ∷ back) ≡ true
with_twin [] at back = refl
with_twin (item ∷ front) at back = rw (with_twin front at back) (or_true (is_twin item.said))

twin_place : (front : List Item) (at : ℕ) (back : List Item) → Before front 6 → position_or_len (λ item. is_twin item.said) (front ++ item_of at Said.Twin ∷ back) ≡ length front
twin_place [] at back before = refl
twin_place (item ∷ front) at back before =
    rw (not_twin item.said (All-head (λ item. place_of item.said < 6) item front before), twin_place front at back (All-tail (λ item. place_of item.said < 6) item front before)) (omega arith)

pub first_is : (front : List Item) (at : ℕ) (back : List Item) → Before front 6 → first_play (front ++ item_of at Said.Twin ∷ back) ≡ front
first_is front at back before = rw (twin_place front at back before) (take-append_seam front (item_of at Said.Twin ∷ back))

pub second_is : (front : List Item) (at : ℕ) (back : List Item) → Before front 6 → second_play (front ++ item_of at Said.Twin ∷ back) ≡ back
second_is front at back before = rw (twin_place front at back before) (drop-append-add front (item_of at Said.Twin ∷ back) 1)

twin_in : (items front : List Item) (at : ℕ) (back : List Item) → items ≡ front ++ item_of at Said.Twin ∷ back → Contains items (item_of at Said.Twin)
twin_in items front at back are = subst (λ (items : List Item). Contains items (item_of at Said.Twin)) (sym are) (Contains-append_right front (item_of at Said.Twin ∷ back) (item_of at Said.Twin) (0, omega arith, refl))

-- nothing before a later line stands behind it
pub too_late : (items front : List Item) (at : ℕ) (back : List Item) → items ≡ front ++ item_of at Said.Twin ∷ back → Before items 6 → ⊥
too_late items front at back are before =
    let six : 6 < 6 = All-contains (λ item. place_of item.said < 6) items (item_of at Said.Twin) before (twin_in items front at back are) in
    omega arith

-- the line `twin`

no_op : (said : Said) → place_of said < 6 → op_of said ≡ None
no_op (Said.Op op) before = absurd (omega arith)
no_op said before = refl

module _ (text : TextOf) (items : List Item) (d : Draft) where
  -- a draft is what it is of the first play whatever its second play
  pub same_first : (second : Option Second) → IsDraftOf text items d → IsDraftOf text items (record d { second = second })
  same_first second is =
      record {
        says = is.says;
        limits = is.limits;
        has_key = is.has_key;
        arrivals = is.arrivals;
        words_left = is.words_left;
        above = is.above;
        first = is.first;
        arrivals_left = is.arrivals_left;
        few = is.few;
        steps_taken = is.steps_taken;
        tape_taken = is.tape_taken;
      }

  -- the second play before its first line
  abbrev pub begun : Second
  begun = record { loads = []; ops = []; ops_left = arrivals_in d.script.steps }

  pub twin_draft : (number : ℕ) → text ≡ TextOf.Twin → IsDraftOf text items d → IsSecondOf text (items ++ item_of number Said.Twin ∷ []) (record d { second = Some begun }) begun
  twin_draft number twin is =
      record {
        twin = twin;
        front = items;
        at = number;
        back = [];
        items_are = refl;
        is = same_first (Some begun) is;
        only = All-nil (λ item. IsSecond item.said);
        params = is.says.params ∙ sym (shape_left items number Said.Twin refl refl);
        arrivals = arrivals_left items number Said.Twin refl ∙ is.arrivals;
        counted =
            ap length (filtered_same (λ item. op_of item.said) items (item_of number Said.Twin) refl)
            ∙ gives_nothing (λ item. op_of item.said) items (λ k d lt. no_op (get_or items k d).said (is.first k d lt));
        each = omega arith;
        loads = refl;
        ops = refl;
        loads_within = All-nil (IsEntryOf d.script.params);
        ops_within = All-nil (IsOpOf d.script.params);
        rising = λ k within. absurd (omega arith);
        above = λ id h. All-nil (λ entry. entry.id < id);
      }

-- loads and operations

behind_second : (id : ℕ) (said : Said) → IsSecond said → op_of said ≡ None → IfSome (load_of said) (λ entry. entry.id < id) → MatchOption (load_of said) (place_of said < 4) (λ last. last.id < id)
behind_second id (Said.Load entry) only none below = below
behind_second id (Said.Op op) only none below = absurd (no_such op none)
behind_second id said only none below = absurd only

no_op_behind : (id : ℕ) (said : Said) → MatchOption (load_of said) (place_of said < 4) (λ last. last.id < id) → op_of said ≡ None
no_op_behind id (Said.Op op) h = absurd (omega arith)
no_op_behind id said h = refl

-- whether a load may come next in the second play
abbrev pub may_load_second : Second → Entry → Bool
may_load_second second entry = length second.ops == 0 && is_above (last_load second.loads) entry.id

module _ (text : TextOf) (items : List Item) (d : Draft) (second : Second) (is : IsSecondOf text items d second) where
  pub is_second : second_play items ≡ is.back
  is_second = ap second_play is.items_are ∙ second_is is.front is.at is.back is.is.first

  pub has_second : has_twin items ≡ true
  has_second = ap has_twin is.items_are ∙ with_twin is.front is.at is.back

  pub second_load_stands : (entry : Entry) → may_load_second second entry ≡ true → All (λ item. MayStandBehind (Said.Load entry) item.said) is.back
  second_load_stands entry h =
      let p = and_parts (length second.ops == 0) (is_above (last_load second.loads) entry.id) h in
      let none = nothing_given (λ item. op_of item.said) is.back (sym (ap length is.ops) ∙ eqb-true (length second.ops) 0 p.0) in
      let below = all_given (λ last. last.id < entry.id) (λ item. load_of item.said) is.back (subst (All (λ last. last.id < entry.id)) is.loads (is.above entry.id p.1)) in
      λ k d lt. behind_second entry.id (get_or is.back k d).said (is.only k d lt) (none k d lt) (below k d lt)

  pub second_load_follows : (entry : Entry) → All (λ item. MayStandBehind (Said.Load entry) item.said) is.back → may_load_second second entry ≡ true
  second_load_follows entry behind =
      let below = given_all (λ last. last.id < entry.id) (λ item. load_of item.said) is.back (λ k d lt. below_behind entry.id (get_or is.back k d).said (behind k d lt)) in
      let none = gives_nothing (λ item. op_of item.said) is.back (λ k d lt. no_op_behind entry.id (get_or is.back k d).said (behind k d lt)) in
      and_from (length second.ops == 0) (is_above (last_load second.loads) entry.id)
      (eq-eqb (length second.ops) 0 (ap length is.ops ∙ none))
      (above_all second.loads entry.id (subst (All (λ last. last.id < entry.id)) (sym is.loads) below))

  pushed : (item : Item) → items ++ item ∷ [] ≡ is.front ++ item_of is.at Said.Twin ∷ (is.back ++ item ∷ [])
  pushed item = ap (λ (items : List Item). items ++ item ∷ []) is.items_are ∙ append_assoc is.front (item_of is.at Said.Twin ∷ is.back) (item ∷ [])

  -- the second play with one more load, and with one more operation
  abbrev pub loaded : Entry → Second
  loaded entry = record second { loads = second.loads ++ entry ∷ [] }

  abbrev pub asked : Op → Second
  asked op = record second { ops = second.ops ++ op ∷ []; ops_left = second.ops_left - 1 }

  pub second_load : (number : ℕ) (entry : Entry) → may_load_second second entry ≡ true → IsEntryOf d.script.params entry
      → IsSecondOf text (items ++ item_of number (Said.Load entry) ∷ []) (record d { second = Some (loaded entry) }) (loaded entry)
  second_load number entry may within =
      let said = Said.Load entry in
      let below = is.above entry.id (and_parts (length second.ops == 0) (is_above (last_load second.loads) entry.id) may).1 in
      record {
        twin = is.twin;
        front = is.front;
        at = is.at;
        back = is.back ++ item_of number said ∷ [];
        items_are = pushed (item_of number said);
        is = same_first text is.front d (Some (loaded entry)) is.is;
        only = All-push (λ item. IsSecond item.said) is.back (item_of number said) is.only tt;
        params = is.params ∙ sym (shape_left items number said refl refl);
        arrivals = arrivals_left items number said refl ∙ is.arrivals;
        counted = ap length (filtered_same (λ item. op_of item.said) items (item_of number said) refl) ∙ is.counted;
        each = is.each;
        loads = ap (λ (loads : List Entry). loads ++ entry ∷ []) is.loads ∙ sym (filtered_more (λ item. load_of item.said) is.back (item_of number said) entry refl);
        ops = is.ops ∙ sym (filtered_same (λ item. op_of item.said) is.back (item_of number said) refl);
        loads_within = All-push (IsEntryOf d.script.params) second.loads entry is.loads_within within;
        ops_within = is.ops_within;
        rising = rising_loads second.loads entry is.rising below;
        above = all_below second.loads entry below;
      }

  pub second_op : (number : ℕ) (op : Op) → second.ops_left ≢ 0 → IsOpOf d.script.params op → IsSecondOf text (items ++ item_of number (Said.Op op) ∷ []) (record d { second = Some (asked op) }) (asked op)
  second_op number op left within =
      let said = Said.Op op in
      let long : length (second.ops ++ op ∷ []) ≡ length second.ops + 1 = length-append second.ops (op ∷ []) in
      let each = is.each in
      record {
        twin = is.twin;
        front = is.front;
        at = is.at;
        back = is.back ++ item_of number said ∷ [];
        items_are = pushed (item_of number said);
        is = same_first text is.front d (Some (asked op)) is.is;
        only = All-push (λ item. IsSecond item.said) is.back (item_of number said) is.only tt;
        params = is.params ∙ sym (shape_left items number said refl refl);
        arrivals = arrivals_left items number said refl ∙ is.arrivals;
        counted =
            ap length (filtered_more (λ item. op_of item.said) items (item_of number said) op refl)
            ∙ length-append (filter_map (λ item. op_of item.said) items) (op ∷ [])
            ∙ ap (λ (n : ℕ). n + 1) is.counted
            ∙ sym long;
        each = omega arith;
        loads = is.loads ∙ sym (filtered_same (λ item. load_of item.said) is.back (item_of number said) refl);
        ops = ap (λ (ops : List Op). ops ++ op ∷ []) is.ops ∙ sym (filtered_more (λ item. op_of item.said) is.back (item_of number said) op refl);
        loads_within = is.loads_within;
        ops_within = All-push (IsOpOf d.script.params) second.ops op is.ops_within within;
        rising = is.rising;
        above = is.above;
      }
