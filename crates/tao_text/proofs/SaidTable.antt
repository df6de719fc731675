-- Words that haven't the fault Word have one of the forms that all texts know.
use Rattle.std.proofs.Common.{◌≡◌, ℕ, cond, List, [], ◌∷◌, Result, Err, refl, arith}
use Rattle.std.specs.Prelude.{Contains, codes}
use Rattle.std.specs.Str.{bytes_eq}
use Rattle.std.proofs.lemmas.Bool.{cond_both}
use Rattle.std.proofs.lemmas.Slice.Eq.{bytes_eq-Decides}
use Rattle.tao_text.specs.declared.faults.TextKind.{TextKind}
use Rattle.tao_text.specs.declared.faults.TextKind.TheVariants.{Word}
use Rattle.tao_text.specs.declared.said.Said.{Said}
use Rattle.tao_text.specs.Forms.{◌>>=◌, alone, call_line, form_line, load_line, number_line, pad_words, put_line, read_line, read_words, said_behind, step_behind, tape_line, tree_line, value_line, write_words}
use Rattle.tao_text.specs.LineForms.{Part, IsOfForm, script_forms}
use Rattle.tao_text.specs.LineForms.Part.{Fixed, ANumber, AValue, TheNumbers}
use Rattle.tao_text.proofs.SaidForms.{behind}

-- a name is the wanted one, or it isn't
pub named : {A : Type 0} (P : A → Type 0) (name wanted : List ℕ) (x y : A) → (name ≡ wanted → P x) → P y → P (cond (bytes_eq name wanted) x y)
named P name wanted x y here later = cond_both (bytes_eq name wanted) x y P (λ same. here ((bytes_eq-Decides name wanted).0 same)) (λ other. later)

-- and the other way round: what hasn't the fault Word has a form
pub data FormedBy {A : Type 0} (forms : List (List Part)) (words : List (List ℕ)) (read : Result A TextKind) : Type 0 where
  unformed : read ≡ Err Word → FormedBy forms words read
  has : (form : List Part) → Contains forms form → IsOfForm words form → FormedBy forms words read

pub through : {A B : Type 0} (forms : List (List Part)) (words : List (List ℕ)) (read : Result A TextKind) (f : A → Result B TextKind) → FormedBy forms words read → FormedBy forms words (read >>= f)
through forms words read f (unformed none) = unformed (rw none refl)
through forms words read f (has form at is) = has form at is

abbrev pub Formed : {A : Type 0} → List (List ℕ) → Result A TextKind → Type 0
Formed words read = FormedBy script_forms words read

-- the forms stand in the table

at_tree : Contains script_forms (Fixed (codes "tree") ∷ ANumber ∷ ANumber ∷ ANumber ∷ ANumber ∷ ANumber ∷ [])
unfolding script_forms
at_tree = (0, omega arith, refl)

at_form_one : Contains script_forms (Fixed (codes "form") ∷ Fixed (codes "1") ∷ [])
unfolding script_forms
at_form_one = (1, omega arith, refl)

at_form_two : Contains script_forms (Fixed (codes "form") ∷ Fixed (codes "2") ∷ [])
unfolding script_forms
at_form_two = (2, omega arith, refl)

at_form_turn : Contains script_forms (Fixed (codes "form") ∷ Fixed (codes "turn") ∷ [])
unfolding script_forms
at_form_turn = (3, omega arith, refl)

at_key : Contains script_forms (Fixed (codes "key") ∷ AValue ∷ [])
unfolding script_forms
at_key = (4, omega arith, refl)

at_seal : Contains script_forms (Fixed (codes "seal") ∷ [])
unfolding script_forms
at_seal = (5, omega arith, refl)

at_reopen : Contains script_forms (Fixed (codes "reopen") ∷ AValue ∷ [])
unfolding script_forms
at_reopen = (6, omega arith, refl)

at_tape : Contains script_forms (Fixed (codes "tape") ∷ TheNumbers ∷ [])
unfolding script_forms
at_tape = (7, omega arith, refl)

at_load : Contains script_forms (Fixed (codes "load") ∷ ANumber ∷ AValue ∷ [])
unfolding script_forms
at_load = (8, omega arith, refl)

at_read : Contains script_forms (Fixed (codes "read") ∷ ANumber ∷ [])
unfolding script_forms
at_read = (15, omega arith, refl)

at_read_at : Contains script_forms (Fixed (codes "read") ∷ ANumber ∷ ANumber ∷ [])
unfolding script_forms
at_read_at = (16, omega arith, refl)

at_done : Contains script_forms (Fixed (codes "done") ∷ ANumber ∷ [])
unfolding script_forms
at_done = (17, omega arith, refl)

at_put : Contains script_forms (Fixed (codes "put") ∷ ANumber ∷ [])
unfolding script_forms
at_put = (18, omega arith, refl)

at_put_at : Contains script_forms (Fixed (codes "put") ∷ ANumber ∷ ANumber ∷ [])
unfolding script_forms
at_put_at = (19, omega arith, refl)

at_ack : Contains script_forms (Fixed (codes "ack") ∷ ANumber ∷ [])
unfolding script_forms
at_ack = (20, omega arith, refl)

-- all forms of `do`, or of `a`
record CallForms (wanted : List ℕ) : Type 0 where
  read : Contains script_forms (Fixed wanted ∷ ANumber ∷ Fixed (codes "read") ∷ ANumber ∷ [])
  write : Contains script_forms (Fixed wanted ∷ ANumber ∷ Fixed (codes "write") ∷ ANumber ∷ AValue ∷ [])
  pad : Contains script_forms (Fixed wanted ∷ ANumber ∷ Fixed (codes "pad") ∷ [])

do_forms : CallForms (codes "do")
unfolding script_forms
do_forms = record { read = (9, omega arith, refl); write = (10, omega arith, refl); pad = (11, omega arith, refl) }

a_forms : CallForms (codes "a")
unfolding script_forms
a_forms = record { read = (12, omega arith, refl); write = (13, omega arith, refl); pad = (14, omega arith, refl) }

tree_formed : (name : List ℕ) (words : List (List ℕ)) → name ≡ codes "tree" → Formed (name ∷ words) (tree_line words)
unfolding tree_line
tree_formed name (l ∷ z ∷ b ∷ n ∷ k ∷ []) is = has _ at_tree (is, tt)
tree_formed name words is = unformed refl

form_formed : (name : List ℕ) (words : List (List ℕ)) → name ≡ codes "form" → Formed (name ∷ words) (form_line words)
unfolding form_line
form_formed name (form ∷ []) is =
    named (Formed (name ∷ form ∷ [])) form (codes "1") _ _ (λ one. has _ at_form_one (is, (one, tt)))
    (named (Formed (name ∷ form ∷ [])) form (codes "2") _ _ (λ two. has _ at_form_two (is, (two, tt)))
    (named (Formed (name ∷ form ∷ [])) form (codes "turn") _ _ (λ turn. has _ at_form_turn (is, (turn, tt))) (unformed refl)))
form_formed name words is = unformed refl

value_formed : (name wanted : List ℕ) (words : List (List ℕ)) → Contains script_forms (Fixed wanted ∷ AValue ∷ []) → name ≡ wanted → Formed (name ∷ words) (value_line words)
unfolding value_line
value_formed name wanted (hex ∷ []) at is = has _ at (is, tt)
value_formed name wanted words at is = unformed refl

seal_formed : (name : List ℕ) (words : List (List ℕ)) → name ≡ codes "seal" → Formed (name ∷ words) (alone Said.Seal words)
unfolding alone
seal_formed name [] is = has _ at_seal (is, tt)
seal_formed name (word ∷ words) is = unformed refl

tape_formed : (name : List ℕ) (words : List (List ℕ)) → name ≡ codes "tape" → Formed (name ∷ words) (tape_line words)
unfolding tape_line
tape_formed name [] is = unformed refl
tape_formed name (word ∷ words) is = has _ at_tape (is, tt)

load_formed : (name : List ℕ) (words : List (List ℕ)) → name ≡ codes "load" → Formed (name ∷ words) (load_line words)
unfolding load_line
load_formed name (id ∷ hex ∷ []) is = has _ at_load (is, tt)
load_formed name words is = unformed refl

call_read_formed : (name wanted client call : List ℕ) (words : List (List ℕ)) → Contains script_forms (Fixed wanted ∷ ANumber ∷ Fixed (codes "read") ∷ ANumber ∷ []) → name ≡ wanted → call ≡ codes "read"
    → Formed (name ∷ client ∷ call ∷ words) (read_words client words)
unfolding read_words
call_read_formed name wanted client call (id ∷ []) at is read = has _ at (is, (read, tt))
call_read_formed name wanted client call words at is read = unformed refl

call_write_formed : (name wanted client call : List ℕ) (words : List (List ℕ)) → Contains script_forms (Fixed wanted ∷ ANumber ∷ Fixed (codes "write") ∷ ANumber ∷ AValue ∷ []) → name ≡ wanted → call ≡ codes "write"
    → Formed (name ∷ client ∷ call ∷ words) (write_words client words)
unfolding write_words
call_write_formed name wanted client call (id ∷ hex ∷ []) at is write = has _ at (is, (write, tt))
call_write_formed name wanted client call words at is write = unformed refl

call_pad_formed : (name wanted client call : List ℕ) (words : List (List ℕ)) → Contains script_forms (Fixed wanted ∷ ANumber ∷ Fixed (codes "pad") ∷ []) → name ≡ wanted → call ≡ codes "pad"
    → Formed (name ∷ client ∷ call ∷ words) (pad_words client words)
unfolding pad_words
call_pad_formed name wanted client call [] at is pad = has _ at (is, (pad, tt))
call_pad_formed name wanted client call (word ∷ words) at is pad = unformed refl

call_formed : (name wanted : List ℕ) (words : List (List ℕ)) → CallForms wanted → name ≡ wanted → Formed (name ∷ words) (call_line words)
unfolding call_line
call_formed name wanted (client ∷ call ∷ words) at is =
    named (Formed (name ∷ client ∷ call ∷ words)) call (codes "read") _ _ (call_read_formed name wanted client call words at.read is)
    (named (Formed (name ∷ client ∷ call ∷ words)) call (codes "write") _ _ (call_write_formed name wanted client call words at.write is)
    (named (Formed (name ∷ client ∷ call ∷ words)) call (codes "pad") _ _ (call_pad_formed name wanted client call words at.pad is) (unformed refl)))
call_formed name wanted words at is = unformed refl

read_formed : (name : List ℕ) (words : List (List ℕ)) → name ≡ codes "read" → Formed (name ∷ words) (read_line words)
unfolding read_line
read_formed name (fetch ∷ []) is = has _ at_read (is, tt)
read_formed name (fetch ∷ depth ∷ []) is = has _ at_read_at (is, tt)
read_formed name words is = unformed refl

number_formed : (name wanted : List ℕ) (words : List (List ℕ)) → Contains script_forms (Fixed wanted ∷ ANumber ∷ []) → name ≡ wanted → Formed (name ∷ words) (number_line words)
unfolding number_line
number_formed name wanted (number ∷ []) at is = has _ at (is, tt)
number_formed name wanted words at is = unformed refl

put_formed : (name : List ℕ) (words : List (List ℕ)) → name ≡ codes "put" → Formed (name ∷ words) (put_line words)
unfolding put_line
put_formed name (version ∷ []) is = has _ at_put (is, tt)
put_formed name (version ∷ node ∷ []) is = has _ at_put_at (is, tt)
put_formed name words is = unformed refl

step_formed : (name : List ℕ) (words : List (List ℕ)) → Formed (name ∷ words) (step_behind name words)
unfolding step_behind
step_formed name words =
    named (Formed (name ∷ words)) name (codes "do") _ _ (λ is. through _ _ _ _ (call_formed name (codes "do") words do_forms is))
    (named (Formed (name ∷ words)) name (codes "a") _ _ (λ is. through _ _ _ _ (call_formed name (codes "a") words a_forms is))
    (named (Formed (name ∷ words)) name (codes "read") _ _ (read_formed name words)
    (named (Formed (name ∷ words)) name (codes "done") _ _ (λ is. through _ _ _ _ (number_formed name (codes "done") words at_done is))
    (named (Formed (name ∷ words)) name (codes "put") _ _ (put_formed name words)
    (named (Formed (name ∷ words)) name (codes "ack") _ _ (λ is. through _ _ _ _ (number_formed name (codes "ack") words at_ack is)) (unformed refl))))))

pub line_formed : (name : List ℕ) (words : List (List ℕ)) → Formed (name ∷ words) (said_behind name words)
unfolding said_behind
line_formed name words =
    named (Formed (name ∷ words)) name (codes "tree") _ _ (tree_formed name words)
    (named (Formed (name ∷ words)) name (codes "form") _ _ (λ is. through _ _ _ _ (form_formed name words is))
    (named (Formed (name ∷ words)) name (codes "key") _ _ (λ is. through _ _ _ _ (value_formed name (codes "key") words at_key is))
    (named (Formed (name ∷ words)) name (codes "seal") _ _ (seal_formed name words)
    (named (Formed (name ∷ words)) name (codes "reopen") _ _ (λ is. through _ _ _ _ (value_formed name (codes "reopen") words at_reopen is))
    (named (Formed (name ∷ words)) name (codes "tape") _ _ (λ is. through _ _ _ _ (tape_formed name words is))
    (named (Formed (name ∷ words)) name (codes "load") _ _ (λ is. through _ _ _ _ (load_formed name words is)) (through _ _ _ _ (step_formed name words))))))))

pub formed : (words : List (List ℕ)) → Formed words (behind words)
formed [] = unformed refl
formed (name ∷ words) = line_formed name words
