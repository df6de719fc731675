-- Words of a form that all texts know have the fault that is found at its places.
use Rattle.std.proofs.Common.{◌≡◌, ℕ, List, [], ◌∷◌, Option, None, Result, Ok, Err, refl, ◌∙◌}
use Rattle.std.specs.Prelude.{All, codes}
use Rattle.std.proofs.lemmas.List.Elements.{All-from_recursion}
use Rattle.tao_base.specs.declared.calls.Op.{Op}
use Rattle.tao_text.specs.declared.faults.TextKind.{TextKind}
use Rattle.tao_text.specs.declared.faults.TextKind.TheVariants.{Word}
use Rattle.tao_text.specs.declared.said.Said.{Said}
use Rattle.tao_text.specs.declared.script.What.{What}
use Rattle.tao_text.specs.Forms.{◌>>=◌, alone, call_line, form_line, load_line, number_line, pad_words, put_line, read_line, read_words, said_behind, step_behind, tape_line, tree_line, value_line, write_words}
use Rattle.tao_text.specs.LineForms.{Part, IsOfForm, script_forms}
use Rattle.tao_text.specs.LineForms.Part.{Fixed, ANumber, AValue, TheNumbers}
use Rattle.tao_text.specs.Values.{number_of, hex_of}
use Rattle.tao_text.proofs.SaidFaults.{all_numbers_fault, fault_in, fault_of, last_fault, numbers_fault, or_none, step_fault, values_fault}

-- what the words of a line that isn't skipped say
abbrev pub behind : List (List ℕ) → Result Said TextKind
behind [] = Err Word
behind (name ∷ words) = said_behind name words

-- words of this form have the fault that is found at its places
abbrev pub Finds : List (List ℕ) → List Part → Type 0
Finds words form = IsOfForm words form → fault_of (behind words) ≡ fault_in form words

-- `tree`

tree_fault : (l z b n k : List ℕ) → fault_of (tree_line (l ∷ z ∷ b ∷ n ∷ k ∷ [])) ≡ numbers_fault (l ∷ z ∷ b ∷ n ∷ k ∷ []) None
unfolding tree_line
tree_fault l z b n k = step_fault (number_of l) _ _ (λ l. step_fault (number_of z) _ _ (λ z. step_fault (number_of b) _ _ (λ b. step_fault (number_of n) _ _ (λ n. step_fault (number_of k) _ _ (λ k. refl)))))

-- the others

value_fault : (hex : List ℕ) → fault_of (value_line (hex ∷ [])) ≡ values_fault (hex ∷ [])
unfolding value_line
value_fault hex = or_none (fault_of (hex_of hex))

tape_fault : (word : List ℕ) (words : List (List ℕ)) → fault_of (tape_line (word ∷ words)) ≡ numbers_fault (word ∷ words) None
unfolding tape_line
tape_fault word words = all_numbers_fault (word ∷ words)

pub load_fault : (id hex : List ℕ) → fault_of (load_line (id ∷ hex ∷ [])) ≡ numbers_fault (id ∷ []) (values_fault (hex ∷ []))
unfolding load_line
load_fault id hex = step_fault (number_of id) _ _ (λ id. step_fault (hex_of hex) _ _ (λ value. refl))

call_read_fault : (client id : List ℕ) → fault_of (call_line (client ∷ codes "read" ∷ id ∷ [])) ≡ numbers_fault (client ∷ id ∷ []) None
unfolding call_line read_words
call_read_fault client id = step_fault (number_of client) _ _ (λ client. step_fault (number_of id) _ _ (λ id. refl))

call_write_fault : (client id hex : List ℕ) → fault_of (call_line (client ∷ codes "write" ∷ id ∷ hex ∷ [])) ≡ numbers_fault (client ∷ id ∷ []) (values_fault (hex ∷ []))
unfolding call_line write_words
call_write_fault client id hex = step_fault (number_of client) _ _ (λ client. step_fault (number_of id) _ _ (λ id. step_fault (hex_of hex) _ _ (λ value. refl)))

call_pad_fault : (client : List ℕ) → fault_of (call_line (client ∷ codes "pad" ∷ [])) ≡ numbers_fault (client ∷ []) None
unfolding call_line pad_words
call_pad_fault client = step_fault (number_of client) _ _ (λ client. refl)

read_fault : (fetch : List ℕ) → fault_of (read_line (fetch ∷ [])) ≡ numbers_fault (fetch ∷ []) None
unfolding read_line
read_fault fetch = step_fault (number_of fetch) _ _ (λ fetch. refl)

read_at_fault : (fetch depth : List ℕ) → fault_of (read_line (fetch ∷ depth ∷ [])) ≡ numbers_fault (fetch ∷ depth ∷ []) None
unfolding read_line
read_at_fault fetch depth = step_fault (number_of fetch) _ _ (λ fetch. step_fault (number_of depth) _ _ (λ depth. refl))

pub number_fault : (number : List ℕ) → fault_of (number_line (number ∷ [])) ≡ numbers_fault (number ∷ []) None
unfolding number_line
number_fault number = or_none (fault_of (number_of number))

put_fault : (version : List ℕ) → fault_of (put_line (version ∷ [])) ≡ numbers_fault (version ∷ []) None
unfolding put_line
put_fault version = step_fault (number_of version) _ _ (λ version. refl)

put_at_fault : (version node : List ℕ) → fault_of (put_line (version ∷ node ∷ [])) ≡ numbers_fault (version ∷ node ∷ []) None
unfolding put_line
put_at_fault version node = step_fault (number_of version) _ _ (λ version. step_fault (number_of node) _ _ (λ node. refl))

-- what is said of a value has the value's fault
pub kept : {A B : Type 0} (r : Result A TextKind) (f : A → B) (fault : Option TextKind) → fault_of r ≡ fault → fault_of (r >>= λ x. Ok (f x)) ≡ fault
kept r f fault h = last_fault r (λ x. Ok (f x)) (λ x. refl) ∙ h

-- each form

of_tree : (words : List (List ℕ)) → Finds words (Fixed (codes "tree") ∷ ANumber ∷ ANumber ∷ ANumber ∷ ANumber ∷ ANumber ∷ [])
unfolding said_behind
of_tree (name ∷ l ∷ z ∷ b ∷ n ∷ k ∷ []) is = rw is.0 (tree_fault l z b n k)
of_tree words is = absurd (search is)

of_form_one : (words : List (List ℕ)) → Finds words (Fixed (codes "form") ∷ Fixed (codes "1") ∷ [])
unfolding said_behind form_line
of_form_one (name ∷ form ∷ []) is = rw (is.0, is.1.0) (refl)
of_form_one words is = absurd (search is)

of_form_two : (words : List (List ℕ)) → Finds words (Fixed (codes "form") ∷ Fixed (codes "2") ∷ [])
unfolding said_behind form_line
of_form_two (name ∷ form ∷ []) is = rw (is.0, is.1.0) (refl)
of_form_two words is = absurd (search is)

of_form_turn : (words : List (List ℕ)) → Finds words (Fixed (codes "form") ∷ Fixed (codes "turn") ∷ [])
unfolding said_behind form_line
of_form_turn (name ∷ form ∷ []) is = rw (is.0, is.1.0) (refl)
of_form_turn words is = absurd (search is)

of_key : (words : List (List ℕ)) → Finds words (Fixed (codes "key") ∷ AValue ∷ [])
unfolding said_behind
of_key (name ∷ hex ∷ []) is = rw is.0 (kept _ Said.Key _ (value_fault hex))
of_key words is = absurd (search is)

of_seal : (words : List (List ℕ)) → Finds words (Fixed (codes "seal") ∷ [])
unfolding said_behind alone
of_seal (name ∷ []) is = rw is.0 (refl)
of_seal words is = absurd (search is)

of_reopen : (words : List (List ℕ)) → Finds words (Fixed (codes "reopen") ∷ AValue ∷ [])
unfolding said_behind
of_reopen (name ∷ hex ∷ []) is = rw is.0 (kept _ Said.Reopen _ (value_fault hex))
of_reopen words is = absurd (search is)

of_tape : (words : List (List ℕ)) → Finds words (Fixed (codes "tape") ∷ TheNumbers ∷ [])
unfolding said_behind
of_tape (name ∷ word ∷ words) is = rw is.0 (kept _ Said.Tape _ (tape_fault word words))
of_tape words is = absurd (search is)

of_load : (words : List (List ℕ)) → Finds words (Fixed (codes "load") ∷ ANumber ∷ AValue ∷ [])
unfolding said_behind
of_load (name ∷ id ∷ hex ∷ []) is = rw is.0 (kept _ Said.Load _ (load_fault id hex))
of_load words is = absurd (search is)

of_do_read : (words : List (List ℕ)) → Finds words (Fixed (codes "do") ∷ ANumber ∷ Fixed (codes "read") ∷ ANumber ∷ [])
unfolding said_behind step_behind
of_do_read (name ∷ client ∷ call ∷ id ∷ []) is = rw (is.0, is.1.0) (kept _ Said.Step _ (kept _ (λ (call : ℕ × Op). What.Do call.0 call.1) _ (call_read_fault client id)))
of_do_read words is = absurd (search is)

of_do_write : (words : List (List ℕ)) → Finds words (Fixed (codes "do") ∷ ANumber ∷ Fixed (codes "write") ∷ ANumber ∷ AValue ∷ [])
unfolding said_behind step_behind
of_do_write (name ∷ client ∷ call ∷ id ∷ hex ∷ []) is = rw (is.0, is.1.0) (kept _ Said.Step _ (kept _ (λ (call : ℕ × Op). What.Do call.0 call.1) _ (call_write_fault client id hex)))
of_do_write words is = absurd (search is)

of_do_pad : (words : List (List ℕ)) → Finds words (Fixed (codes "do") ∷ ANumber ∷ Fixed (codes "pad") ∷ [])
unfolding said_behind step_behind
of_do_pad (name ∷ client ∷ call ∷ []) is = rw (is.0, is.1.0) (kept _ Said.Step _ (kept _ (λ (call : ℕ × Op). What.Do call.0 call.1) _ (call_pad_fault client)))
of_do_pad words is = absurd (search is)

of_a_read : (words : List (List ℕ)) → Finds words (Fixed (codes "a") ∷ ANumber ∷ Fixed (codes "read") ∷ ANumber ∷ [])
unfolding said_behind step_behind
of_a_read (name ∷ client ∷ call ∷ id ∷ []) is = rw (is.0, is.1.0) (kept _ Said.Step _ (kept _ (λ (call : ℕ × Op). What.A call.0 call.1) _ (call_read_fault client id)))
of_a_read words is = absurd (search is)

of_a_write : (words : List (List ℕ)) → Finds words (Fixed (codes "a") ∷ ANumber ∷ Fixed (codes "write") ∷ ANumber ∷ AValue ∷ [])
unfolding said_behind step_behind
of_a_write (name ∷ client ∷ call ∷ id ∷ hex ∷ []) is = rw (is.0, is.1.0) (kept _ Said.Step _ (kept _ (λ (call : ℕ × Op). What.A call.0 call.1) _ (call_write_fault client id hex)))
of_a_write words is = absurd (search is)

of_a_pad : (words : List (List ℕ)) → Finds words (Fixed (codes "a") ∷ ANumber ∷ Fixed (codes "pad") ∷ [])
unfolding said_behind step_behind
of_a_pad (name ∷ client ∷ call ∷ []) is = rw (is.0, is.1.0) (kept _ Said.Step _ (kept _ (λ (call : ℕ × Op). What.A call.0 call.1) _ (call_pad_fault client)))
of_a_pad words is = absurd (search is)

of_read : (words : List (List ℕ)) → Finds words (Fixed (codes "read") ∷ ANumber ∷ [])
unfolding said_behind step_behind
of_read (name ∷ fetch ∷ []) is = rw is.0 (kept _ Said.Step _ (read_fault fetch))
of_read words is = absurd (search is)

of_read_at : (words : List (List ℕ)) → Finds words (Fixed (codes "read") ∷ ANumber ∷ ANumber ∷ [])
unfolding said_behind step_behind
of_read_at (name ∷ fetch ∷ depth ∷ []) is = rw is.0 (kept _ Said.Step _ (read_at_fault fetch depth))
of_read_at words is = absurd (search is)

of_done : (words : List (List ℕ)) → Finds words (Fixed (codes "done") ∷ ANumber ∷ [])
unfolding said_behind step_behind
of_done (name ∷ fetch ∷ []) is = rw is.0 (kept _ Said.Step _ (kept _ What.Done _ (number_fault fetch)))
of_done words is = absurd (search is)

of_put : (words : List (List ℕ)) → Finds words (Fixed (codes "put") ∷ ANumber ∷ [])
unfolding said_behind step_behind
of_put (name ∷ version ∷ []) is = rw is.0 (kept _ Said.Step _ (put_fault version))
of_put words is = absurd (search is)

of_put_at : (words : List (List ℕ)) → Finds words (Fixed (codes "put") ∷ ANumber ∷ ANumber ∷ [])
unfolding said_behind step_behind
of_put_at (name ∷ version ∷ node ∷ []) is = rw is.0 (kept _ Said.Step _ (put_at_fault version node))
of_put_at words is = absurd (search is)

of_ack : (words : List (List ℕ)) → Finds words (Fixed (codes "ack") ∷ ANumber ∷ [])
unfolding said_behind step_behind
of_ack (name ∷ version ∷ []) is = rw is.0 (kept _ Said.Step _ (kept _ What.Ack _ (number_fault version)))
of_ack words is = absurd (search is)

-- all forms
pub of_form : (words : List (List ℕ)) → All (Finds words) script_forms
unfolding script_forms
of_form words = All-from_recursion (Finds words) script_forms (of_tree words, (of_form_one words, (of_form_two words, (of_form_turn words, (of_key words, (of_seal words, (of_reopen words, (of_tape words, (of_load words, (of_do_read words, (of_do_write words, (of_do_pad words, (of_a_read words, (of_a_write words, (of_a_pad words, (of_read words, (of_read_at words, (of_done words, (of_put words, (of_put_at words, (of_ack words, tt)))))))))))))))))))))
