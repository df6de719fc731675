-- Lines of each kind of text: those that all texts know, and `twin` and `op` in a twin input.
use Rattle.std.proofs.Common.{◌≡◌, inl, inr, ℕ, ◌++◌, List, [], ◌∷◌, Option, Some, None, Result, Ok, Err, refl, sym, ap, subst, ◌∙◌, arith}
use Rattle.std.specs.Prelude.{All, Contains, codes, decimal}
use Rattle.std.proofs.lemmas.List.Elements.{All-append, All-from_recursion, All-weaker, Contains-append_left, Contains-append_right}
use Rattle.tao_base.specs.declared.calls.Op.{Op}
use Rattle.tao_base.specs.declared.storage.Entry.{Entry}
use Rattle.tao_text.specs.declared.faults.TextKind.{TextKind}
use Rattle.tao_text.specs.declared.faults.TextKind.TheVariants.{Word}
use Rattle.tao_text.specs.declared.said.Said.{Said}
use Rattle.tao_text.specs.declared.text.TextOf.{TextOf}
use Rattle.tao_text.specs.Forms.{◌>>=◌, alone, line_behind, load_line, number_line, op_line, said_behind, step_behind, twin_behind}
use Rattle.tao_text.specs.LineForms.{Part, IsOfForm, line_forms, numbers_in, script_forms, twin_forms, values_in}
use Rattle.tao_text.specs.LineForms.Part.{Fixed, ANumber, AValue}
use Rattle.tao_text.specs.Spelling.{Says, SpellsOp}
use Rattle.tao_text.proofs.SaidFaults.{fault_in, fault_of, numbers_fault, numbers_show, values_fault, values_show}
use Rattle.tao_text.proofs.SaidForms.{Finds, behind, kept, load_fault, number_fault, of_form}
use Rattle.tao_text.proofs.SaidTable.{FormedBy, formed, line_formed, named, through}
use Rattle.tao_text.proofs.SaidWords.{line_is, load_reads, load_spells, made, number_line_is, reads, same_ok, words_are, words_read}

-- what the words of a line that isn't skipped say, in a text of this kind
abbrev pub behind_in : TextOf → List (List ℕ) → Result Said TextKind
behind_in text [] = Err Word
behind_in text (name ∷ words) = line_behind text name words

-- a line that all texts know says the same in each

twin_unknown : (name : List ℕ) (words : List (List ℕ)) → name ≡ codes "twin" → fault_of (said_behind name words) ≡ Some Word
unfolding said_behind step_behind
twin_unknown name words is = rw is refl

op_unknown : (name : List ℕ) (words : List (List ℕ)) → name ≡ codes "op" → fault_of (said_behind name words) ≡ Some Word
unfolding said_behind step_behind
op_unknown name words is = rw is refl

twin_same : (name : List ℕ) (words : List (List ℕ)) → ¬ (fault_of (said_behind name words) ≡ Some Word) → twin_behind name words ≡ said_behind name words
unfolding twin_behind
twin_same name words known =
    named (λ (r : Result Said TextKind). r ≡ said_behind name words) name (codes "twin") _ _ (λ is. absurd (known (twin_unknown name words is)))
    (named (λ (r : Result Said TextKind). r ≡ said_behind name words) name (codes "op") _ _ (λ is. absurd (known (op_unknown name words is))) refl)

in_text : (text : TextOf) (name : List ℕ) (words : List (List ℕ)) → ¬ (fault_of (said_behind name words) ≡ Some Word) → line_behind text name words ≡ said_behind name words
unfolding line_behind
in_text TextOf.Script name words known = refl
in_text TextOf.Twin name words known = twin_same name words known
in_text TextOf.Ops name words known = refl
in_text TextOf.Store name words known = refl

-- words of a form have the fault that is found at its places

-- in a text of this kind
abbrev pub FindsIn : TextOf → List (List ℕ) → List Part → Type 0
FindsIn text words form = IsOfForm words form → fault_of (behind_in text words) ≡ fault_in form words

not_word : (form : List Part) (words : List (List ℕ)) → ¬ (fault_in form words ≡ Some Word)
not_word form words word =
    elim (numbers_show (numbers_in form words) (values_fault (values_in form words))) [
      | inl found ↦ absurd (cc (found.0, word))
      | inr fine ↦ elim (values_show (values_in form words)) [
        | inl found ↦ absurd (cc (fine.0, found.0, word))
        | inr all ↦ absurd (cc (fine.0, all.0, word))
      ]
    ]

finds_in : (text : TextOf) (words : List (List ℕ)) (form : List Part) → Finds words form → FindsIn text words form
finds_in text [] form finds is = finds is
finds_in text (name ∷ words) form finds is = ap (λ (r : Result Said TextKind). fault_of r) (in_text text name words (λ word. not_word form (name ∷ words) (sym (finds is) ∙ word))) ∙ finds is

of_twin : (words : List (List ℕ)) → FindsIn TextOf.Twin words (Fixed (codes "twin") ∷ [])
unfolding line_behind twin_behind alone
of_twin (name ∷ []) is = rw is.0 refl
of_twin words is = absurd (search is)

op_read_fault : (id : List ℕ) → fault_of (op_line (codes "read" ∷ id ∷ [])) ≡ numbers_fault (id ∷ []) None
unfolding op_line
op_read_fault id = kept _ Op.Read _ (number_fault id)

op_write_fault : (id hex : List ℕ) → fault_of (op_line (codes "write" ∷ id ∷ hex ∷ [])) ≡ numbers_fault (id ∷ []) (values_fault (hex ∷ []))
unfolding op_line
op_write_fault id hex = kept _ (λ (entry : Entry). Op.Write entry.id entry.value) _ (load_fault id hex)

of_op_read : (words : List (List ℕ)) → FindsIn TextOf.Twin words (Fixed (codes "op") ∷ Fixed (codes "read") ∷ ANumber ∷ [])
unfolding line_behind twin_behind
of_op_read (name ∷ call ∷ id ∷ []) is = rw (is.0, is.1.0) (kept _ Said.Op _ (op_read_fault id))
of_op_read words is = absurd (search is)

of_op_write : (words : List (List ℕ)) → FindsIn TextOf.Twin words (Fixed (codes "op") ∷ Fixed (codes "write") ∷ ANumber ∷ AValue ∷ [])
unfolding line_behind twin_behind
of_op_write (name ∷ call ∷ id ∷ hex ∷ []) is = rw (is.0, is.1.0) (kept _ Said.Op _ (op_write_fault id hex))
of_op_write words is = absurd (search is)

of_op_pad : (words : List (List ℕ)) → FindsIn TextOf.Twin words (Fixed (codes "op") ∷ Fixed (codes "pad") ∷ [])
unfolding line_behind twin_behind op_line alone
of_op_pad (name ∷ call ∷ []) is = rw (is.0, is.1.0) refl
of_op_pad words is = absurd (search is)

twin_found : (words : List (List ℕ)) → All (FindsIn TextOf.Twin words) twin_forms
unfolding twin_forms
twin_found words = All-from_recursion (FindsIn TextOf.Twin words) twin_forms (of_twin words, (of_op_read words, (of_op_write words, (of_op_pad words, tt))))

all_found : (text : TextOf) (words : List (List ℕ)) → All (FindsIn text words) script_forms
all_found text words = All-weaker (Finds words) (FindsIn text words) (finds_in text words) script_forms (of_form words)

pub of_form_in : (text : TextOf) (words : List (List ℕ)) → All (FindsIn text words) (line_forms text)
of_form_in TextOf.Script words = all_found TextOf.Script words
of_form_in TextOf.Twin words = All-append (FindsIn TextOf.Twin words) script_forms twin_forms (all_found TextOf.Twin words) (twin_found words)
of_form_in TextOf.Ops words = all_found TextOf.Ops words
of_form_in TextOf.Store words = all_found TextOf.Store words

-- words that haven't the fault Word have a form

-- what hasn't the fault Word has one of the forms of a twin input
abbrev Formed : {A : Type 0} → List (List ℕ) → Result A TextKind → Type 0
Formed words read = FormedBy (line_forms TextOf.Twin) words read

wider : {A : Type 0} (words : List (List ℕ)) (read : Result A TextKind) → FormedBy script_forms words read → Formed words read
wider words read (FormedBy.unformed none) = FormedBy.unformed none
wider words read (FormedBy.has form at is) = FormedBy.has form (Contains-append_left script_forms twin_forms form at) is

added : (form : List Part) → Contains twin_forms form → Contains (line_forms TextOf.Twin) form
added form at = Contains-append_right script_forms twin_forms form at

twin_formed : (name : List ℕ) (words : List (List ℕ)) → name ≡ codes "twin" → Formed (name ∷ words) (alone Said.Twin words)
unfolding alone twin_forms
twin_formed name [] is = FormedBy.has _ (added (Fixed (codes "twin") ∷ []) (0, omega arith, refl)) (is, tt)
twin_formed name (word ∷ words) is = FormedBy.unformed refl

op_read_formed : (name call : List ℕ) (words : List (List ℕ)) → name ≡ codes "op" → call ≡ codes "read" → Formed (name ∷ call ∷ words) (number_line words)
unfolding number_line twin_forms
op_read_formed name call (id ∷ []) is read = FormedBy.has _ (added (Fixed (codes "op") ∷ Fixed (codes "read") ∷ ANumber ∷ []) (1, omega arith, refl)) (is, (read, tt))
op_read_formed name call words is read = FormedBy.unformed refl

op_write_formed : (name call : List ℕ) (words : List (List ℕ)) → name ≡ codes "op" → call ≡ codes "write" → Formed (name ∷ call ∷ words) (load_line words)
unfolding load_line twin_forms
op_write_formed name call (id ∷ hex ∷ []) is write = FormedBy.has _ (added (Fixed (codes "op") ∷ Fixed (codes "write") ∷ ANumber ∷ AValue ∷ []) (2, omega arith, refl)) (is, (write, tt))
op_write_formed name call words is write = FormedBy.unformed refl

op_pad_formed : (name call : List ℕ) (words : List (List ℕ)) → name ≡ codes "op" → call ≡ codes "pad" → Formed (name ∷ call ∷ words) (alone Op.Pad words)
unfolding alone twin_forms
op_pad_formed name call [] is pad = FormedBy.has _ (added (Fixed (codes "op") ∷ Fixed (codes "pad") ∷ []) (3, omega arith, refl)) (is, (pad, tt))
op_pad_formed name call (word ∷ words) is pad = FormedBy.unformed refl

op_formed : (name : List ℕ) (words : List (List ℕ)) → name ≡ codes "op" → Formed (name ∷ words) (op_line words)
unfolding op_line
op_formed name [] is = FormedBy.unformed refl
op_formed name (call ∷ words) is =
    named (Formed (name ∷ call ∷ words)) call (codes "read") _ _ (λ read. through _ _ _ _ (op_read_formed name call words is read))
    (named (Formed (name ∷ call ∷ words)) call (codes "write") _ _ (λ write. through _ _ _ _ (op_write_formed name call words is write))
    (named (Formed (name ∷ call ∷ words)) call (codes "pad") _ _ (op_pad_formed name call words is) (FormedBy.unformed refl)))

named_formed : (name : List ℕ) (words : List (List ℕ)) → Formed (name ∷ words) (twin_behind name words)
unfolding twin_behind
named_formed name words =
    named (Formed (name ∷ words)) name (codes "twin") _ _ (twin_formed name words)
    (named (Formed (name ∷ words)) name (codes "op") _ _ (λ is. through _ _ _ _ (op_formed name words is)) (wider (name ∷ words) (said_behind name words) (line_formed name words)))

pub formed_in : (text : TextOf) (words : List (List ℕ)) → FormedBy (line_forms text) words (behind_in text words)
unfolding line_behind
formed_in TextOf.Script [] = FormedBy.unformed refl
formed_in TextOf.Script (name ∷ words) = line_formed name words
formed_in TextOf.Twin [] = FormedBy.unformed refl
formed_in TextOf.Twin (name ∷ words) = named_formed name words
formed_in TextOf.Ops [] = FormedBy.unformed refl
formed_in TextOf.Ops (name ∷ words) = line_formed name words
formed_in TextOf.Store [] = FormedBy.unformed refl
formed_in TextOf.Store (name ∷ words) = line_formed name words

-- what is read is what the words say

known : (text : TextOf) (words : List (List ℕ)) (said : Said) → Says TextOf.Script words said → Says text words said
known text words (Said.Tree l z b n k) says = says
known text words (Said.Form form) says = says
known text words (Said.Key bytes) says = says
known text words Said.Seal says = says
known text words (Said.Reopen bytes) says = says
known text words (Said.Tape tape) says = says
known text words (Said.Load entry) says = says
known text words (Said.Step what) says = says
known text words Said.Twin says = absurd cc
known text words (Said.Op op) says = absurd cc

twin_is : (name : List ℕ) (words : List (List ℕ)) (said : Said) → name ≡ codes "twin" → alone Said.Twin words ≡ Ok said → Says TextOf.Twin (name ∷ words) said
unfolding alone
twin_is name [] said is h = subst (λ (s : Said). Says TextOf.Twin (name ∷ []) s) (same_ok Said.Twin said h) (refl, rw is refl)
twin_is name (word ∷ words) said is h = absurd cc

op_write_is : (words : List (List ℕ)) (entry : Entry) → load_line words ≡ Ok entry → SpellsOp (codes "write" ∷ words) (Op.Write entry.id entry.value)
op_write_is words entry h = let is = load_spells words entry h in (is.0, ap (λ (rest : List (List ℕ)). codes "write" ∷ rest) is.1, is.2, is.3)

op_read_is : (words : List (List ℕ)) (id : ℕ) → number_line words ≡ Ok id → SpellsOp (codes "read" ∷ words) (Op.Read id)
op_read_is words id h = let is = number_line_is words id h in (rw is.0 refl, is.1)

op_pad_is : (words : List (List ℕ)) (op : Op) → alone Op.Pad words ≡ Ok op → SpellsOp (codes "pad" ∷ words) op
unfolding alone
op_pad_is [] op h = subst (λ (op : Op). SpellsOp (codes "pad" ∷ []) op) (same_ok Op.Pad op h) refl
op_pad_is (word ∷ words) op h = absurd cc

op_is : (words : List (List ℕ)) (op : Op) → op_line words ≡ Ok op → SpellsOp words op
unfolding op_line
op_is [] op h = absurd cc
op_is (call ∷ words) op h =
    let Goes = λ (r : Result Op TextKind). r ≡ Ok op → SpellsOp (call ∷ words) op in
    let Spells = λ (op : Op). SpellsOp (call ∷ words) op in
    named Goes call (codes "read") _ _ (λ is. made Spells (number_line words) Op.Read op (λ id h. rw is (op_read_is words id h)))
    (named Goes call (codes "write") _ _ (λ is. made Spells (load_line words) (λ (entry : Entry). Op.Write entry.id entry.value) op (λ entry h. rw is (op_write_is words entry h)))
    (named Goes call (codes "pad") _ _ (λ is h. rw is (op_pad_is words op h)) (λ h. absurd cc))) h

twin_line_is : (name : List ℕ) (words : List (List ℕ)) (said : Said) → twin_behind name words ≡ Ok said → Says TextOf.Twin (name ∷ words) said
unfolding twin_behind
twin_line_is name words said h =
    let Goes = λ (r : Result Said TextKind). r ≡ Ok said → Says TextOf.Twin (name ∷ words) said in
    named Goes name (codes "twin") _ _ (twin_is name words said)
    (named Goes name (codes "op") _ _ (λ is. made (λ (s : Said). Says TextOf.Twin (name ∷ words) s) (op_line words) Said.Op said (λ op h. (refl, (words, rw is refl, op_is words op h))))
    (λ h. known TextOf.Twin (name ∷ words) said (line_is name words said h))) h

pub words_are_in : (text : TextOf) (words : List (List ℕ)) (said : Said) → behind_in text words ≡ Ok said → Says text words said
unfolding line_behind
words_are_in text [] said h = absurd cc
words_are_in TextOf.Script (name ∷ words) said h = line_is name words said h
words_are_in TextOf.Twin (name ∷ words) said h = twin_line_is name words said h
words_are_in TextOf.Ops (name ∷ words) said h = known TextOf.Ops (name ∷ words) said (line_is name words said h)
words_are_in TextOf.Store (name ∷ words) said h = known TextOf.Store (name ∷ words) said (line_is name words said h)

-- what the words say is read

no_fault : (r : Result Said TextKind) (said : Said) → r ≡ Ok said → ¬ (fault_of r ≡ Some Word)
no_fault (Ok other) said h fault = absurd cc
no_fault (Err kind) said h fault = absurd cc

read_in : (text : TextOf) (words : List (List ℕ)) (said : Said) → behind words ≡ Ok said → behind_in text words ≡ Ok said
read_in text [] said h = absurd cc
read_in text (name ∷ words) said h = in_text text name words (no_fault (said_behind name words) said h) ∙ h

op_reads : (words : List (List ℕ)) (op : Op) → SpellsOp words op → op_line words ≡ Ok op
unfolding op_line number_line alone
op_reads words (Op.Read id) is = ap op_line is.0 ∙ rw (reads id is.1) refl
op_reads words (Op.Write id value) is = ap op_line is.1 ∙ rw (load_reads (decimal id ∷ is.0 ∷ []) (record { id = id; value = value }) (is.0, refl, is.2, is.3)) refl
op_reads words Op.Pad is = ap op_line is

twin_reads : (text : TextOf) (words : List (List ℕ)) (said : Said) → text ≡ TextOf.Twin → behind_in TextOf.Twin words ≡ Ok said → behind_in text words ≡ Ok said
twin_reads text words said is h = rw is h

twin_line_reads : (words : List (List ℕ)) → words ≡ codes "twin" ∷ [] → behind_in TextOf.Twin words ≡ Ok Said.Twin
unfolding line_behind twin_behind alone
twin_line_reads words is = ap (behind_in TextOf.Twin) is

op_line_reads : (words rest : List (List ℕ)) (op : Op) → words ≡ codes "op" ∷ rest → SpellsOp rest op → behind_in TextOf.Twin words ≡ Ok (Said.Op op)
unfolding line_behind twin_behind
op_line_reads words rest op is spells = ap (behind_in TextOf.Twin) is ∙ rw (op_reads rest op spells) refl

pub words_read_in : (text : TextOf) (words : List (List ℕ)) (said : Said) → Says text words said → behind_in text words ≡ Ok said
words_read_in text words (Said.Tree l z b n k) is = read_in text words (Said.Tree l z b n k) (words_read words (Said.Tree l z b n k) is)
words_read_in text words (Said.Form form) is = read_in text words (Said.Form form) (words_read words (Said.Form form) is)
words_read_in text words (Said.Key bytes) is = read_in text words (Said.Key bytes) (words_read words (Said.Key bytes) is)
words_read_in text words Said.Seal is = read_in text words Said.Seal (words_read words Said.Seal is)
words_read_in text words (Said.Reopen bytes) is = read_in text words (Said.Reopen bytes) (words_read words (Said.Reopen bytes) is)
words_read_in text words (Said.Tape tape) is = read_in text words (Said.Tape tape) (words_read words (Said.Tape tape) is)
words_read_in text words (Said.Load entry) is = read_in text words (Said.Load entry) (words_read words (Said.Load entry) is)
words_read_in text words (Said.Step what) is = read_in text words (Said.Step what) (words_read words (Said.Step what) is)
words_read_in text words Said.Twin is = twin_reads text words Said.Twin is.0 (twin_line_reads words is.1)
words_read_in text words (Said.Op op) is = twin_reads text words (Said.Op op) is.0 (op_line_reads words is.1.0 op is.1.1 is.1.2)
