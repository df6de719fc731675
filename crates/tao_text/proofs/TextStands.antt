-- A line is allowed exactly where the draft's tests let it.
use Rattle.std.proofs.Common.{◌≡◌, ◌==◌, ◌&&◌, ℕ, ◌<◌, ◌≤◌, Bool, true, is_none, List, length, get_or, Option, Some, None, IfSome, MatchOption, All, refl, sym, subst, arith}
use Rattle.std.proofs.lemmas.Bool.{and_parts, and_from, eqb-true, eq-eqb}
use Rattle.tao_base.specs.declared.storage.Entry.{Entry}
use Rattle.tao_text.specs.declared.draft.Draft.{Draft}
use Rattle.tao_text.specs.declared.said.Said.{Said}
use Rattle.tao_text.specs.declared.text.TextOf.{TextOf}
use Rattle.tao_text.specs.Breaks.{MayStandBehind, place_of}
use Rattle.tao_text.specs.Parts.{Item, form_of, key_of, load_of, step_of, tape_of}
use Rattle.tao_text.specs.Scripts.{is_above, no_form, no_key, no_loads, no_tape}
use Rattle.tao_text.proofs.TextDrafts.{Before, IsDraftOf, form_lacks, key_lacks, lacks_form, lacks_key, lacks_loads, lacks_steps, lacks_tape, loads_lack, no_steps, tape_lacks}
use Rattle.tao_text.proofs.TextParts.{above_all, all_given, given_all, last_load}

-- a line that has no part of a place or a later one stands before it

pub no_such : {A : Type 0} (x : A) → ◌≡◌ {A = Option A} (Some x) None → ⊥
no_such x h = cc h

before_tape : (said : Said) → place_of said < 6 → tape_of said ≡ None → load_of said ≡ None → step_of said ≡ None → place_of said < 3
before_tape (Said.Tape tape) first none load step = absurd (no_such tape none)
before_tape (Said.Load entry) first none load step = absurd (no_such entry load)
before_tape (Said.Step what) first none load step = absurd (no_such what step)
before_tape said first none load step = omega arith

before_key : (said : Said) → place_of said < 6 → key_of said ≡ None → tape_of said ≡ None → load_of said ≡ None → step_of said ≡ None → place_of said < 2
before_key (Said.Key bytes) first none tape load step = absurd (no_such bytes none)
before_key (Said.Tape words) first none tape load step = absurd (no_such words tape)
before_key (Said.Load entry) first none tape load step = absurd (no_such entry load)
before_key (Said.Step what) first none tape load step = absurd (no_such what step)
before_key said first none tape load step = omega arith

before_form : (said : Said) → place_of said < 6 → form_of said ≡ None → key_of said ≡ None → tape_of said ≡ None → load_of said ≡ None → step_of said ≡ None → place_of said < 1
before_form (Said.Form form) first none key tape load step = absurd (no_such form none)
before_form (Said.Key bytes) first none key tape load step = absurd (no_such bytes key)
before_form (Said.Tape words) first none key tape load step = absurd (no_such words tape)
before_form (Said.Load entry) first none key tape load step = absurd (no_such entry load)
before_form (Said.Step what) first none key tape load step = absurd (no_such what step)
before_form said first none key tape load step = omega arith

-- and a line that stands before a place has no part of it

no_step_before : (said : Said) → place_of said < 5 → step_of said ≡ None
no_step_before (Said.Step what) h = absurd (omega arith)
no_step_before said h = refl

no_load_before : (said : Said) → place_of said < 4 → load_of said ≡ None
no_load_before (Said.Load entry) h = absurd (omega arith)
no_load_before said h = refl

no_tape_before : (said : Said) → place_of said < 3 → tape_of said ≡ None
no_tape_before (Said.Tape tape) h = absurd (omega arith)
no_tape_before said h = refl

no_key_before : (said : Said) → place_of said < 2 → key_of said ≡ None
no_key_before (Said.Key bytes) h = absurd (omega arith)
no_key_before said h = refl

no_form_before : (said : Said) → place_of said < 1 → form_of said ≡ None
no_form_before (Said.Form form) h = absurd (omega arith)
no_form_before said h = refl

-- before a load there are no steps, and loads of smaller ids alone

load_behind : (id : ℕ) (said : Said) → place_of said < 6 → step_of said ≡ None → IfSome (load_of said) (λ entry. entry.id < id) → MatchOption (load_of said) (place_of said < 4) (λ last. last.id < id)
load_behind id (Said.Load entry) first step below = below
load_behind id (Said.Step what) first step below = absurd (no_such what step)
load_behind id said first step below = omega arith

no_step_behind : (id : ℕ) (said : Said) → MatchOption (load_of said) (place_of said < 4) (λ last. last.id < id) → step_of said ≡ None
no_step_behind id (Said.Step what) h = absurd (omega arith)
no_step_behind id said h = refl

pub below_behind : (id : ℕ) (said : Said) → MatchOption (load_of said) (place_of said < 4) (λ last. last.id < id) → IfSome (load_of said) (λ entry. entry.id < id)
below_behind id (Said.Load entry) h = h
below_behind id said h = tt

-- when a line is allowed

-- whether a load may come next in the first play
abbrev pub may_load : Draft → Entry → Bool
may_load d entry = length d.script.steps == 0 && is_above (last_load d.script.loads) entry.id

pub sooner : (items : List Item) (place later : ℕ) → place ≤ later → Before items place → Before items later
sooner items place later h before = λ k d lt. let p = before k d lt in omega arith

module _ (text : TextOf) (items : List Item) (d : Draft) (is : IsDraftOf text items d) where
  no_loads_parts : no_tape d ≡ true → no_loads d ≡ true
  no_loads_parts h = (and_parts _ (no_loads d) h).1

  no_tape_parts : no_key d ≡ true → no_tape d ≡ true
  no_tape_parts h = (and_parts _ (no_tape d) h).1

  no_key_parts : no_form d ≡ true → no_key d ≡ true
  no_key_parts h = (and_parts _ (no_key d) h).1

  loads_follow : is_none d.second ≡ true → Before items 4 → no_loads d ≡ true
  loads_follow none before = loads_lack text items d is none (λ k d lt. no_load_before (get_or items k d).said (before k d lt)) (λ k d lt. no_step_before (get_or items k d).said (sooner items 4 5 (omega arith) before k d lt))

  pub tape_stands : no_tape d ≡ true → Before items 3
  tape_stands h =
      let tape = lacks_tape text items d is h in
      let rest = lacks_loads text items d is (no_loads_parts h) in
      λ k d lt. before_tape (get_or items k d).said (is.first k d lt) (tape k d lt) (rest.0 k d lt) (rest.1 k d lt)

  pub tape_follows : is_none d.second ≡ true → Before items 3 → no_tape d ≡ true
  tape_follows none before = tape_lacks text items d is (λ k d lt. no_tape_before (get_or items k d).said (before k d lt)) (loads_follow none (sooner items 3 4 (omega arith) before))

  pub key_stands : no_key d ≡ true → Before items 2
  key_stands h =
      let key = lacks_key text items d is h in
      let tape = lacks_tape text items d is (no_tape_parts h) in
      let rest = lacks_loads text items d is (no_loads_parts (no_tape_parts h)) in
      λ k d lt. before_key (get_or items k d).said (is.first k d lt) (key k d lt) (tape k d lt) (rest.0 k d lt) (rest.1 k d lt)

  pub key_follows : is_none d.second ≡ true → Before items 2 → no_key d ≡ true
  key_follows none before = key_lacks text items d is (λ k d lt. no_key_before (get_or items k d).said (before k d lt)) (tape_follows none (sooner items 2 3 (omega arith) before))

  pub form_stands : no_form d ≡ true → Before items 1
  form_stands h =
      let form = lacks_form text items d is h in
      let key = lacks_key text items d is (no_key_parts h) in
      let tape = lacks_tape text items d is (no_tape_parts (no_key_parts h)) in
      let rest = lacks_loads text items d is (no_loads_parts (no_tape_parts (no_key_parts h))) in
      λ k d lt. before_form (get_or items k d).said (is.first k d lt) (form k d lt) (key k d lt) (tape k d lt) (rest.0 k d lt) (rest.1 k d lt)

  pub form_follows : is_none d.second ≡ true → Before items 1 → no_form d ≡ true
  form_follows none before = form_lacks text items d is (λ k d lt. no_form_before (get_or items k d).said (before k d lt)) (key_follows none (sooner items 1 2 (omega arith) before))

  pub load_stands : (entry : Entry) → may_load d entry ≡ true → All (λ item. MayStandBehind (Said.Load entry) item.said) items
  load_stands entry h =
      let p = and_parts (length d.script.steps == 0) (is_above (last_load d.script.loads) entry.id) h in
      let steps = lacks_steps text items d is (eqb-true (length d.script.steps) 0 p.0) in
      let below = all_given (λ last. last.id < entry.id) (λ item. load_of item.said) items (subst (All (λ last. last.id < entry.id)) is.says.loads (is.above entry.id p.1)) in
      λ k d lt. load_behind entry.id (get_or items k d).said (is.first k d lt) (steps k d lt) (below k d lt)

  pub load_follows : (entry : Entry) → All (λ item. MayStandBehind (Said.Load entry) item.said) items → may_load d entry ≡ true
  load_follows entry behind =
      let below = given_all (λ last. last.id < entry.id) (λ item. load_of item.said) items (λ k d lt. below_behind entry.id (get_or items k d).said (behind k d lt)) in
      and_from (length d.script.steps == 0) (is_above (last_load d.script.loads) entry.id)
      (eq-eqb (length d.script.steps) 0 (no_steps text items d is (λ k d lt. no_step_behind entry.id (get_or items k d).said (behind k d lt))))
      (above_all d.script.loads entry.id (subst (All (λ last. last.id < entry.id)) (sym is.says.loads) below))
