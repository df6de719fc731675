-- The draft with one more line, before the line `twin`.
use Rattle.std.proofs.Common.{◌≡◌, ◌==◌, ◌&&◌, ℕ, ◌+◌, ◌-◌, ◌^◌, ◌<◌, ◌≤◌, true, false, cond, nat_lt, List, [], ◌∷◌, ◌++◌, length, map, replicate, Option, Some, None, is_some, IfSome, IsSome, All, count_by, unwrap_or, Ok, refl, sym, ap, ap₂, subst, ◌∙◌, arith}
use Rattle.std.specs.Prelude.{IsTrue, filter_map}
use Rattle.std.specs.List.Sorted.{IsStrictlyIncreasing}
use Rattle.std.specs.Option.{option_map}
use Rattle.std.specs.Result.{result_ok}
use Rattle.std.proofs.lemmas.Bool.{and_parts, ltb-true}
use Rattle.std.proofs.lemmas.List.{map-append}
use Rattle.std.proofs.lemmas.List.Elements.{All-map, All-nil, All-push}
use Rattle.std.proofs.lemmas.Option.{same_Some}
use Rattle.tao_base.specs.Limits.{Shape, in_form, shape_of, tree_len}
use Rattle.tao_base.specs.declared.parameters.Form.{Form}
use Rattle.tao_base.specs.declared.storage.Entry.{Entry}
use Rattle.tao_text.specs.declared.draft.Draft.{Draft}
use Rattle.tao_text.specs.declared.said.Said.{Said}
use Rattle.tao_text.specs.declared.script.Step.{Step}
use Rattle.tao_text.specs.declared.script.What.{What}
use Rattle.tao_text.specs.declared.text.TextOf.{TextOf}
use Rattle.tao_text.specs.Breaks.{arrivals_said, is_arrival, limit_in, place_of, takes_step, takes_tape}
use Rattle.tao_text.specs.Parts.{Item, first_line, first_said, form_of, key_of, load_of, shape_said, step_of, tape_of, tree_of, with_form}
use Rattle.tao_text.specs.Scripts.{empty_draft, is_above, no_form, no_key, no_tape}
use Rattle.tao_text.specs.Spelling.{IsTape}
use Rattle.tao_text.specs.Texts.{IsEntryOf, IsStepOf, arrivals_in, step_at}
use Rattle.tao_text.proofs.LimitLaws.{form_keeps, shape_keeps}
use Rattle.tao_text.proofs.TextDrafts.{IsDraftOf, lacks_form, lacks_key, lacks_tape, left_of}
use Rattle.tao_text.proofs.TextParts.{count_push, filtered_more, filtered_same, first_lacks, first_new, first_same, item_of, last_load, last_pushed, rising_push}
use Rattle.tao_text.proofs.TextStands.{may_load}

-- a line that says nothing of a part leaves it

module _ (items : List Item) (number : ℕ) (said : Said) where
  line_left : {A : Type 0} (part : Said → Option A) (o : Option ℕ) → part said ≡ None → o ≡ option_map (λ at. at.0) (first_line part items) → o ≡ option_map (λ at. at.0) (first_line part (items ++ item_of number said ∷ []))
  line_left part o none h = h ∙ ap (option_map (λ at. at.0)) (sym (first_same part items number said none))

  value_left : {A : Type 0} (part : Said → Option A) → part said ≡ None → first_said part (items ++ item_of number said ∷ []) ≡ first_said part items
  value_left part none = ap (option_map (λ at. at.1)) (first_same part items number said none)

  pub shape_left : tree_of said ≡ None → form_of said ≡ None → shape_said (items ++ item_of number said ∷ []) ≡ shape_said items
  shape_left tree form = ap₂ (λ (f : Option Form) (t : Option Shape). option_map (with_form f) t) (value_left form_of form) (value_left tree_of tree)

  pub arrivals_left : step_of said ≡ None → arrivals_said (items ++ item_of number said ∷ []) ≡ arrivals_said items
  arrivals_left none = ap (count_by is_arrival) (filtered_same (λ item. step_of item.said) items (item_of number said) none)

  key_left : key_of said ≡ None → is_some (first_line key_of (items ++ item_of number said ∷ [])) ≡ is_some (first_line key_of items)
  key_left none = ap is_some (first_same key_of items number said none)

pub some_shape : (o : Option Shape) (s : Shape) → Some s ≡ o → IsSome o
some_shape o s h = ap is_some (sym h)

-- the line `tree`

pub no_value : {A : Type 0} (x : A) → ◌≡◌ {A = Option A} (Some x) None → ⊥
no_value x h = cc h

none_used : (size : Option ℕ) → size ≡ left_of size 0
none_used None = refl
none_used (Some m) = let same : m ≡ m - 0 = omega arith in ap Some same

none_yet : (size : Option ℕ) → IfSome size (λ m. 0 ≤ m)
none_yet None = tt
none_yet (Some m) = omega arith

limit_form : (text : TextOf) (s : Shape) (form : Form) → limit_in text s ≡ limit_in text (in_form s form)
limit_form TextOf.Script s form = refl
limit_form TextOf.Twin s form = refl
limit_form TextOf.Ops s form = refl
limit_form TextOf.Store s form = refl

pub first_draft : (text : TextOf) (number l z b n k : ℕ) (s : Shape) → shape_of l z b n k ≡ Ok s → IsDraftOf text ([] ++ item_of number (Said.Tree l z b n k) ∷ []) (empty_draft text number s)
first_draft text number l z b n k s made =
    let tree : first_line tree_of ([] ++ item_of number (Said.Tree l z b n k) ∷ []) ≡ Some (number, s) = first_new tree_of [] number (Said.Tree l z b n k) s refl (ap result_ok made) in
    record {
      says =
          record {
            params = sym (ap (λ (o : Option (ℕ × Shape)). option_map (with_form None) (option_map (λ at. at.1) o)) tree);
            tree_line = sym (ap (option_map (λ at. at.0)) tree);
            form_line = refl;
            key = refl;
            seal = refl;
            reopen = refl;
            tape = refl;
            loads = refl;
            steps = refl;
          };
      limits =
          record {
            params = shape_keeps l z b n k s made;
            key = refl;
            tape = tt;
            loads = All-nil (IsEntryOf s);
            rising = λ k within. absurd (omega arith);
            steps = All-nil (λ step. IsStepOf s step.what);
          };
      has_key = refl;
      arrivals = refl;
      words_left = refl;
      above = λ id h. All-nil (λ entry. entry.id < id);
      first = All-push (λ item. place_of item.said < 6) [] (item_of number (Said.Tree l z b n k)) (All-nil (λ item. place_of item.said < 6)) (omega arith);
      arrivals_left = none_used (limit_in text s);
      few = none_yet (limit_in text s);
      steps_taken = All-nil (λ step. IsTrue (takes_step text step.what));
      tape_taken = tt;
    }

-- a line `form`

with_new_form : (f : Option Form) (t : Option Shape) (s : Shape) (form : Form) → f ≡ None → Some s ≡ option_map (with_form f) t → Some (in_form s form) ≡ option_map (with_form (Some form)) t
with_new_form None None s form none h = absurd (no_value s h)
with_new_form None (Some t) s form none h = ap (λ (x : Shape). Some (in_form x form)) (same_Some s t h)
with_new_form (Some f) t s form none h = absurd (no_value f none)

no_arrivals : (steps : List Step) → length steps ≡ 0 → arrivals_in steps ≡ 0
no_arrivals [] none = refl
no_arrivals (step ∷ steps) none = absurd (omega arith)

pub all_below : (loads : List Entry) (entry : Entry) → All (λ last. last.id < entry.id) loads → (id : ℕ) → is_above (last_load (loads ++ entry ∷ [])) id ≡ true → All (λ last. last.id < id) (loads ++ entry ∷ [])
all_below loads entry below id h =
    let less : entry.id < id = ltb-true entry.id id (sym (ap (λ (o : Option Entry). is_above o id) (last_pushed loads entry)) ∙ h) in
    All-push (λ last. last.id < id) loads entry (λ k d lt. let p = below k d lt in omega arith) less

pub rising_loads : (loads : List Entry) (entry : Entry) → IsStrictlyIncreasing (map (λ entry. entry.id) loads) → All (λ last. last.id < entry.id) loads → IsStrictlyIncreasing (map (λ entry. entry.id) (loads ++ entry ∷ []))
rising_loads loads entry rising below =
    subst IsStrictlyIncreasing (sym (map-append (λ entry. entry.id) loads (entry ∷ []))) (rising_push (map (λ entry. entry.id) loads) entry.id rising (All-map (λ id. id < entry.id) (λ entry. entry.id) loads below))

pub not_past : (most n : ℕ) → n ≤ most → ¬ (most < n)
not_past most n h past = omega arith

module _ (text : TextOf) (items : List Item) (d : Draft) (number : ℕ) (is : IsDraftOf text items d) where
  some_so_far : IsSome (shape_said items)
  some_so_far = some_shape (shape_said items) d.script.params is.says.params

  pub form_draft : (form : Form) → no_form d ≡ true → length d.script.steps ≡ 0 → nat_lt (2 ^ 29) (tree_len (in_form d.script.params form)) ≡ false
      → IsDraftOf text (items ++ item_of number (Said.Form form) ∷ []) (record d { script = record d.script { params = in_form d.script.params form; form_line = Some number } })
  form_draft form may none small =
      let said = Said.Form form in
      let no_form : first_line form_of items ≡ None = first_lacks form_of items (lacks_form text items d is may) in
      let new : first_line form_of (items ++ item_of number said ∷ []) ≡ Some (number, form) = first_new form_of items number said form no_form refl in
      record {
        says =
            record {
              params =
                  with_new_form (first_said form_of items) (first_said tree_of items) d.script.params form (ap (option_map (λ at. at.1)) no_form) is.says.params
                  ∙ ap₂ (λ (f : Option Form) (t : Option Shape). option_map (with_form f) t) (sym (ap (option_map (λ at. at.1)) new)) (sym (value_left items number said tree_of refl));
              tree_line = line_left items number said tree_of (Some d.script.tree_line) refl is.says.tree_line;
              form_line = sym (ap (option_map (λ at. at.0)) new);
              key = is.says.key ∙ ap (λ (o : Option (List ℕ)). unwrap_or o (replicate 32 0)) (sym (value_left items number said key_of refl));
              seal = is.says.seal;
              reopen = is.says.reopen;
              tape = is.says.tape ∙ sym (value_left items number said tape_of refl);
              loads = is.says.loads ∙ sym (filtered_same (λ item. load_of item.said) items (item_of number said) refl);
              steps = is.says.steps ∙ sym (filtered_same step_at items (item_of number said) refl);
            };
        limits =
            record {
              params = form_keeps d.script.params form is.limits.params small;
              key = is.limits.key;
              tape = is.limits.tape;
              loads = is.limits.loads;
              rising = is.limits.rising;
              steps = λ k d lt. absurd (omega arith);
            };
        has_key = is.has_key ∙ sym (key_left items number said refl);
        arrivals = arrivals_left items number said refl ∙ is.arrivals;
        words_left = is.words_left;
        above = is.above;
        first = All-push (λ item. place_of item.said < 6) items (item_of number said) is.first (omega arith);
        arrivals_left = is.arrivals_left ∙ ap (λ (size : Option ℕ). left_of size (arrivals_in d.script.steps)) (limit_form text d.script.params form);
        few = subst (λ (size : Option ℕ). IfSome size (λ limit. arrivals_in d.script.steps ≤ limit)) (limit_form text d.script.params form) is.few;
        steps_taken = is.steps_taken;
        tape_taken = is.tape_taken;
      }

  pub key_draft : (bytes : List ℕ) → no_key d ≡ true → length bytes ≡ 32
      → IsDraftOf text (items ++ item_of number (Said.Key bytes) ∷ []) (record d { script = record d.script { key = bytes }; has_key = true })
  key_draft bytes may long =
      let said = Said.Key bytes in
      let new : first_line key_of (items ++ item_of number said ∷ []) ≡ Some (number, bytes) = first_new key_of items number said bytes (first_lacks key_of items (lacks_key text items d is may)) refl in
      record {
        says =
            record {
              params = is.says.params ∙ sym (shape_left items number said refl refl);
              tree_line = line_left items number said tree_of (Some d.script.tree_line) refl is.says.tree_line;
              form_line = line_left items number said form_of d.script.form_line refl is.says.form_line;
              key = sym (ap (λ (o : Option (ℕ × List ℕ)). unwrap_or (option_map (λ at. at.1) o) (replicate 32 0)) new);
              seal = is.says.seal;
              reopen = is.says.reopen;
              tape = is.says.tape ∙ sym (value_left items number said tape_of refl);
              loads = is.says.loads ∙ sym (filtered_same (λ item. load_of item.said) items (item_of number said) refl);
              steps = is.says.steps ∙ sym (filtered_same step_at items (item_of number said) refl);
            };
        limits = record { params = is.limits.params; key = long; tape = is.limits.tape; loads = is.limits.loads; rising = is.limits.rising; steps = is.limits.steps };
        has_key = sym (ap is_some new);
        arrivals = arrivals_left items number said refl ∙ is.arrivals;
        words_left = is.words_left;
        above = is.above;
        first = All-push (λ item. place_of item.said < 6) items (item_of number said) is.first (omega arith);
        arrivals_left = is.arrivals_left;
        few = is.few;
        steps_taken = is.steps_taken;
        tape_taken = is.tape_taken;
      }

  pub tape_draft : (tape : List ℕ) → IsTape tape → takes_tape text ≡ true → no_tape d ≡ true → length d.script.steps ≡ 0 → d.script.params.n ≤ length tape
      → IsDraftOf text (items ++ item_of number (Said.Tape tape) ∷ []) (record d { script = record d.script { tape = Some tape }; words_left = Some (length tape - d.script.params.n) })
  tape_draft tape words takes may none long =
      let said = Said.Tape tape in
      let new : first_line tape_of (items ++ item_of number said ∷ []) ≡ Some (number, tape) = first_new tape_of items number said tape (first_lacks tape_of items (lacks_tape text items d is may)) refl in
      let unused : arrivals_in d.script.steps ≡ 0 = no_arrivals d.script.steps none in
      let used : d.script.params.n + arrivals_in d.script.steps ≡ d.script.params.n = omega arith in
      record {
        says =
            record {
              params = is.says.params ∙ sym (shape_left items number said refl refl);
              tree_line = line_left items number said tree_of (Some d.script.tree_line) refl is.says.tree_line;
              form_line = line_left items number said form_of d.script.form_line refl is.says.form_line;
              key = is.says.key ∙ ap (λ (o : Option (List ℕ)). unwrap_or o (replicate 32 0)) (sym (value_left items number said key_of refl));
              seal = is.says.seal;
              reopen = is.says.reopen;
              tape = sym (ap (option_map (λ at. at.1)) new);
              loads = is.says.loads ∙ sym (filtered_same (λ item. load_of item.said) items (item_of number said) refl);
              steps = is.says.steps ∙ sym (filtered_same step_at items (item_of number said) refl);
            };
        limits = record { params = is.limits.params; key = is.limits.key; tape = (words, rw used long); loads = is.limits.loads; rising = is.limits.rising; steps = is.limits.steps };
        has_key = is.has_key ∙ sym (key_left items number said refl);
        arrivals = arrivals_left items number said refl ∙ is.arrivals;
        words_left = ap (λ (n : ℕ). Some (length tape - n)) (sym used);
        above = is.above;
        first = All-push (λ item. place_of item.said < 6) items (item_of number said) is.first (omega arith);
        arrivals_left = is.arrivals_left;
        few = is.few;
        steps_taken = is.steps_taken;
        tape_taken = takes;
      }

  pub load_draft : (entry : Entry) → may_load d entry ≡ true → IsEntryOf d.script.params entry
      → IsDraftOf text (items ++ item_of number (Said.Load entry) ∷ []) (record d { script = record d.script { loads = d.script.loads ++ entry ∷ [] } })
  load_draft entry may within =
      let said = Said.Load entry in
      let below = is.above entry.id (and_parts (length d.script.steps == 0) (is_above (last_load d.script.loads) entry.id) may).1 in
      record {
        says =
            record {
              params = is.says.params ∙ sym (shape_left items number said refl refl);
              tree_line = line_left items number said tree_of (Some d.script.tree_line) refl is.says.tree_line;
              form_line = line_left items number said form_of d.script.form_line refl is.says.form_line;
              key = is.says.key ∙ ap (λ (o : Option (List ℕ)). unwrap_or o (replicate 32 0)) (sym (value_left items number said key_of refl));
              seal = is.says.seal;
              reopen = is.says.reopen;
              tape = is.says.tape ∙ sym (value_left items number said tape_of refl);
              loads = ap (λ (loads : List Entry). loads ++ entry ∷ []) is.says.loads ∙ sym (filtered_more (λ item. load_of item.said) items (item_of number said) entry refl);
              steps = is.says.steps ∙ sym (filtered_same step_at items (item_of number said) refl);
            };
        limits =
            record {
              params = is.limits.params;
              key = is.limits.key;
              tape = is.limits.tape;
              loads = All-push (IsEntryOf d.script.params) d.script.loads entry is.limits.loads within;
              rising = rising_loads d.script.loads entry is.limits.rising below;
              steps = is.limits.steps;
            };
        has_key = is.has_key ∙ sym (key_left items number said refl);
        arrivals = arrivals_left items number said refl ∙ is.arrivals;
        words_left = is.words_left;
        above = all_below d.script.loads entry below;
        first = All-push (λ item. place_of item.said < 6) items (item_of number said) is.first (omega arith);
        arrivals_left = is.arrivals_left;
        few = is.few;
        steps_taken = is.steps_taken;
        tape_taken = is.tape_taken;
      }

  abbrev pub step_of_line : What → Step
  step_of_line what = record { line = number; what = what }

  -- the draft with one more step
  abbrev pub with_step : What → Option ℕ → Option ℕ → Draft
  with_step what words arrivals = record d { script = record d.script { steps = d.script.steps ++ step_of_line what ∷ [] }; words_left = words; arrivals_left = arrivals }

  pub step_draft : (what : What) (words arrivals : Option ℕ) → IsStepOf d.script.params what → takes_step text what ≡ true
      → words ≡ left_of (option_map length d.script.tape) (d.script.params.n + arrivals_in (d.script.steps ++ step_of_line what ∷ []))
      → IfSome d.script.tape (λ tape. IsTape tape × (d.script.params.n + arrivals_in (d.script.steps ++ step_of_line what ∷ []) ≤ length tape))
      → arrivals ≡ left_of (limit_in text d.script.params) (arrivals_in (d.script.steps ++ step_of_line what ∷ []))
      → IfSome (limit_in text d.script.params) (λ limit. arrivals_in (d.script.steps ++ step_of_line what ∷ []) ≤ limit)
      → IsDraftOf text (items ++ item_of number (Said.Step what) ∷ []) (with_step what words arrivals)
  step_draft what words arrivals within takes words_are room arrivals_are few =
      let said = Said.Step what in
      record {
        says =
            record {
              params = is.says.params ∙ sym (shape_left items number said refl refl);
              tree_line = line_left items number said tree_of (Some d.script.tree_line) refl is.says.tree_line;
              form_line = line_left items number said form_of d.script.form_line refl is.says.form_line;
              key = is.says.key ∙ ap (λ (o : Option (List ℕ)). unwrap_or o (replicate 32 0)) (sym (value_left items number said key_of refl));
              seal = is.says.seal;
              reopen = is.says.reopen;
              tape = is.says.tape ∙ sym (value_left items number said tape_of refl);
              loads = is.says.loads ∙ sym (filtered_same (λ item. load_of item.said) items (item_of number said) refl);
              steps = ap (λ (steps : List Step). steps ++ step_of_line what ∷ []) is.says.steps ∙ sym (filtered_more step_at items (item_of number said) (step_of_line what) refl);
            };
        limits =
            record {
              params = is.limits.params;
              key = is.limits.key;
              tape = room;
              loads = is.limits.loads;
              rising = is.limits.rising;
              steps = All-push (λ step. IsStepOf d.script.params step.what) d.script.steps (step_of_line what) is.limits.steps within;
            };
        has_key = is.has_key ∙ sym (key_left items number said refl);
        arrivals =
            ap (count_by is_arrival) (filtered_more (λ item. step_of item.said) items (item_of number said) what refl)
            ∙ count_push is_arrival (filter_map (λ item. step_of item.said) items) what
            ∙ ap (λ (n : ℕ). n + cond (is_arrival what) 1 0) is.arrivals
            ∙ sym (count_push (λ (step : Step). is_arrival step.what) d.script.steps (step_of_line what));
        words_left = words_are;
        above = is.above;
        first = All-push (λ item. place_of item.said < 6) items (item_of number said) is.first (omega arith);
        arrivals_left = arrivals_are;
        few = few;
        steps_taken = All-push (λ step. IsTrue (takes_step text step.what)) d.script.steps (step_of_line what) is.steps_taken takes;
        tape_taken = is.tape_taken;
      }
