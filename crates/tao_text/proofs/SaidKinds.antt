-- Which fault the words of a line have without their context.
use Rattle.std.proofs.Common.{◌≡◌, ◌⊎◌, inl, inr, ℕ, List, slice_index_or, Option, Some, None, Result, Err, refl, sym, ap, subst, ◌∙◌}
use Rattle.std.specs.Prelude.{Any, Contains}
use Rattle.std.proofs.lemmas.List.Elements.{All-contains}
use Rattle.tao_text.specs.declared.faults.TextKind.{TextKind}
use Rattle.tao_text.specs.declared.faults.TextKind.TheVariants.{Word, Number, Hex}
use Rattle.tao_text.specs.declared.said.Said.{Said}
use Rattle.tao_text.specs.declared.text.TextOf.{TextOf}
use Rattle.tao_text.specs.Breaks.{HasNoForm, HasNoHex, HasNoNumber}
use Rattle.tao_text.specs.LineForms.{Part, IsOfForm, line_forms, numbers_in, values_in}
use Rattle.tao_text.proofs.SaidFaults.{NoHex, NoNumber, fault_in, fault_of, numbers_show, values_fault, values_show}
use Rattle.tao_text.proofs.SaidTable.{FormedBy}
use Rattle.tao_text.proofs.SaidTexts.{FindsIn, behind_in, formed_in, of_form_in}

-- the fault found at the places of a form, and what it shows
data Cause (form : List Part) (words : List (List ℕ)) (fault : Option TextKind) : Type 0 where
  number : fault ≡ Some Number → Any NoNumber (numbers_in form words) → Cause form words fault
  hex : fault ≡ Some Hex → (¬ Any NoNumber (numbers_in form words)) → Any NoHex (values_in form words) → Cause form words fault
  none : fault ≡ None → (¬ Any NoNumber (numbers_in form words)) → (¬ Any NoHex (values_in form words)) → Cause form words fault

cause_in : (form : List Part) (words : List (List ℕ)) → Cause form words (fault_in form words)
cause_in form words =
    elim (numbers_show (numbers_in form words) (values_fault (values_in form words))) [
      | inl found ↦ number found.0 found.1
      | inr fine ↦ elim (values_show (values_in form words)) [
        | inl found ↦ hex (fine.0 ∙ found.0) fine.1 found.1
        | inr all ↦ none (fine.0 ∙ all.0) fine.1 all.1
      ]
    ]

cause : (text : TextOf) (words : List (List ℕ)) (form : List Part) → Contains (line_forms text) form → IsOfForm words form → Cause form words (fault_of (behind_in text words))
cause text words form at is = subst (Cause form words) (sym (All-contains (FindsIn text words) (line_forms text) form (of_form_in text words) at is)) (cause_in form words)

-- each fault of the words is found, if none with a smaller number is

without_form : (text : TextOf) (words : List (List ℕ)) (read : Result Said TextKind) → FormedBy (line_forms text) words read → HasNoForm text words → fault_of read ≡ Some Word
without_form text words read (FormedBy.unformed h) bad = ap (λ (r : Result Said TextKind). fault_of r) h
without_form text words read (FormedBy.has form at is) bad = absurd (All-contains (λ f. ¬ IsOfForm words f) (line_forms text) form bad at is)

pub no_form_found : (text : TextOf) (words : List (List ℕ)) → HasNoForm text words → fault_of (behind_in text words) ≡ Some Word
no_form_found text words bad = without_form text words (behind_in text words) (formed_in text words) bad

number_first : (form : List Part) (words : List (List ℕ)) (fault : Option TextKind) → Cause form words fault → Any NoNumber (numbers_in form words) → fault ≡ Some Number
number_first form words fault (number is any) bad = is
number_first form words fault (hex is numbers any) bad = absurd (numbers bad)
number_first form words fault (none is numbers values) bad = absurd (numbers bad)

pub no_number_found : (text : TextOf) (words : List (List ℕ)) → HasNoNumber text words → fault_of (behind_in text words) ≡ Some Number
no_number_found text words (k, form, inside, at, (is, bad)) = number_first form words (fault_of (behind_in text words)) (cause text words form (k, inside, at) is) bad

hex_next : (form : List Part) (words : List (List ℕ)) (fault : Option TextKind) → Cause form words fault → Any NoHex (values_in form words) → (fault ≡ Some Number) ⊎ (fault ≡ Some Hex)
hex_next form words fault (number is any) bad = inl is
hex_next form words fault (hex is numbers any) bad = inr is
hex_next form words fault (none is numbers values) bad = absurd (values bad)

pub no_hex_found : (text : TextOf) (words : List (List ℕ)) → HasNoHex text words → (fault_of (behind_in text words) ≡ Some Number) ⊎ (fault_of (behind_in text words) ≡ Some Hex)
no_hex_found text words (k, form, inside, at, (is, bad)) = hex_next form words (fault_of (behind_in text words)) (cause text words form (k, inside, at) is) bad

-- and what is found is a fault of the words

pub data Fault (text : TextOf) (words : List (List ℕ)) (kind : TextKind) : Type 0 where
  no_form : kind ≡ Word → HasNoForm text words → Fault text words kind
  no_number : kind ≡ Number → HasNoNumber text words → Fault text words kind
  no_hex : kind ≡ Hex → HasNoHex text words → Fault text words kind

not_word : (form : List Part) (words : List (List ℕ)) (fault : Option TextKind) → Cause form words fault → fault ≡ Some Word → ⊥
not_word form words fault (number is any) word = absurd cc
not_word form words fault (hex is numbers any) word = absurd cc
not_word form words fault (none is numbers values) word = absurd cc

word_found : (text : TextOf) (words : List (List ℕ)) → fault_of (behind_in text words) ≡ Some Word → HasNoForm text words
word_found text words word k d inside is = not_word (slice_index_or (line_forms text) k d) words (fault_of (behind_in text words)) (subst (Cause (slice_index_or (line_forms text) k d) words) (sym (of_form_in text words k d inside is)) (cause_in (slice_index_or (line_forms text) k d) words)) word

at_places : (text : TextOf) (words : List (List ℕ)) (kind : TextKind) (form : List Part) (fault : Option TextKind) → Contains (line_forms text) form → IsOfForm words form → Cause form words fault → fault ≡ Some kind → Fault text words kind
at_places text words kind form fault at is (number found any) h = let e : kind ≡ Number = cc in no_number e (at.0, form, at.1, at.2, (is, any))
at_places text words kind form fault at is (hex found numbers any) h = let e : kind ≡ Hex = cc in no_hex e (at.0, form, at.1, at.2, (is, any))
at_places text words kind form fault at is (none found numbers values) h = absurd cc

same_err : {A : Type 0} (kind other : TextKind) → ◌≡◌ {A = Result A TextKind} (Err kind) (Err other) → kind ≡ other
same_err kind other h = cc h

found_by : (text : TextOf) (words : List (List ℕ)) (read : Result Said TextKind) (kind : TextKind) → FormedBy (line_forms text) words read → behind_in text words ≡ read → read ≡ Err kind → Fault text words kind
found_by text words read kind (FormedBy.unformed h) is err = no_form (same_err {A = Said} kind Word (sym err ∙ h)) (word_found text words (ap (λ (r : Result Said TextKind). fault_of r) (is ∙ h)))
found_by text words read kind (FormedBy.has form at of_it) is err =
    at_places text words kind form (fault_of (behind_in text words)) at of_it (cause text words form at of_it) (ap (λ (r : Result Said TextKind). fault_of r) (is ∙ err))

pub found : (text : TextOf) (words : List (List ℕ)) (kind : TextKind) → behind_in text words ≡ Err kind → Fault text words kind
found text words kind err = found_by text words (behind_in text words) kind (formed_in text words) refl err
