-- Words of a line that all texts know are read as what they say.
use Rattle.std.proofs.Common.{◌≡◌, ℕ, ◌^◌, ◌<◌, List, [], ◌∷◌, length, map, Some, None, Result, Ok, Err, refl, sym, ap, subst, ◌∙◌, arith, suc}
use Rattle.std.specs.Prelude.{All, codes, decimal}
use Rattle.std.specs.List.{AllByRecursion}
use Rattle.std.proofs.lemmas.List.{length-map}
use Rattle.std.proofs.lemmas.List.Elements.{All-from_recursion, recursion_from_All}
use Rattle.tao_base.specs.declared.calls.Op.{Op}
use Rattle.tao_base.specs.declared.parameters.Form.{Form}
use Rattle.tao_base.specs.declared.parameters.Form.TheVariants.{One, Two, Turn}
use Rattle.tao_base.specs.declared.storage.Entry.{Entry}
use Rattle.tao_text.specs.declared.faults.TextKind.{TextKind}
use Rattle.tao_text.specs.declared.said.Said.{Said}
use Rattle.tao_text.specs.declared.script.What.{What}
use Rattle.tao_text.specs.declared.text.TextOf.{TextOf}
use Rattle.tao_text.specs.Forms.{◌>>=◌, alone, call_line, form_line, load_line, number_line, numbers_of, pad_words, put_line, read_line, read_words, said_behind, step_behind, tape_line, tree_line, value_line, write_words}
use Rattle.tao_text.specs.Spelling.{IsHex, Says, SpellsCall, SpellsLoad, SpellsStep}
use Rattle.tao_text.specs.Values.{number_of, hex_of}
use Rattle.tao_text.proofs.SaidForms.{behind}
use Rattle.tao_text.proofs.SaidTable.{named}
use Rattle.tao_text.proofs.ValueLaws.{number_is, number_reads, hex_is, hex_reads}

pub bind_ok : {A B : Type 0} (r : Result A TextKind) (f : A → Result B TextKind) (y : B) → (r >>= f) ≡ Ok y → (x : A) × (r ≡ Ok x) × (f x ≡ Ok y)
bind_ok (Ok x) f y h = (x, refl, h)
bind_ok (Err kind) f y h = cc h

pub same_ok : {A : Type 0} (x y : A) → ◌≡◌ {A = Result A TextKind} (Ok x) (Ok y) → x ≡ y
same_ok x y h = cc h

-- a word is read as a number, or as a value, before the words after it

pub number_then : {B P : Type 0} (word : List ℕ) (f : ℕ → Result B TextKind) (y : B) → (number_of word >>= f) ≡ Ok y → ((n : ℕ) → word ≡ decimal n → n < 2 ^ 32 → f n ≡ Ok y → P) → P
number_then word f y h goes = let n = bind_ok (number_of word) f y h in let is = number_is word n.0 n.1 in goes n.0 is.0 is.1 n.2

pub value_then : {B P : Type 0} (word : List ℕ) (f : List ℕ → Result B TextKind) (y : B) → (hex_of word >>= f) ≡ Ok y → ((bytes : List ℕ) → IsHex word bytes → f bytes ≡ Ok y → P) → P
value_then word f y h goes = let bytes = bind_ok (hex_of word) f y h in goes bytes.0 (hex_is word bytes.0 bytes.1) bytes.2

-- what is read is what the words say

tree_is : (name : List ℕ) (words : List (List ℕ)) (said : Said) → name ≡ codes "tree" → tree_line words ≡ Ok said → Says TextOf.Script (name ∷ words) said
unfolding tree_line
tree_is name (lw ∷ zw ∷ bw ∷ nw ∷ kw ∷ []) said is h =
    number_then lw _ said h (λ l l_is l_small h. number_then zw _ said h (λ z z_is z_small h. number_then bw _ said h (λ b b_is b_small h.
    number_then nw _ said h (λ n n_is n_small h. number_then kw _ said h (λ k k_is k_small h.
    let small : All (λ m. m < 2 ^ 32) (l ∷ z ∷ b ∷ n ∷ k ∷ []) = All-from_recursion (λ m. m < 2 ^ 32) (l ∷ z ∷ b ∷ n ∷ k ∷ []) (l_small, (z_small, (b_small, (n_small, (k_small, tt))))) in
    subst (λ (s : Said). Says TextOf.Script (name ∷ lw ∷ zw ∷ bw ∷ nw ∷ kw ∷ []) s) (same_ok (Said.Tree l z b n k) said h) (rw (is, l_is, z_is, b_is, n_is, k_is) refl, small))))))
tree_is name words said is h = absurd cc

form_is : (name : List ℕ) (words : List (List ℕ)) (form : Form) → name ≡ codes "form" → form_line words ≡ Ok form → Says TextOf.Script (name ∷ words) (Said.Form form)
unfolding form_line
form_is name (word ∷ []) form is h =
    named (λ (r : Result Form TextKind). r ≡ Ok form → Says TextOf.Script (name ∷ word ∷ []) (Said.Form form)) word (codes "1") _ _ (λ one h. rw (is, one, sym (same_ok One form h)) refl)
    (named (λ (r : Result Form TextKind). r ≡ Ok form → Says TextOf.Script (name ∷ word ∷ []) (Said.Form form)) word (codes "2") _ _ (λ two h. rw (is, two, sym (same_ok Two form h)) refl)
    (named (λ (r : Result Form TextKind). r ≡ Ok form → Says TextOf.Script (name ∷ word ∷ []) (Said.Form form)) word (codes "turn") _ _ (λ turn h. rw (is, turn, sym (same_ok Turn form h)) refl) (λ h. absurd cc))) h
form_is name words form is h = absurd cc

key_is : (name : List ℕ) (words : List (List ℕ)) (bytes : List ℕ) → name ≡ codes "key" → value_line words ≡ Ok bytes → Says TextOf.Script (name ∷ words) (Said.Key bytes)
unfolding value_line
key_is name (hex ∷ []) bytes is h = (hex, rw is refl, hex_is hex bytes h)
key_is name words bytes is h = absurd cc

reopen_is : (name : List ℕ) (words : List (List ℕ)) (bytes : List ℕ) → name ≡ codes "reopen" → value_line words ≡ Ok bytes → Says TextOf.Script (name ∷ words) (Said.Reopen bytes)
unfolding value_line
reopen_is name (hex ∷ []) bytes is h = (hex, rw is refl, hex_is hex bytes h)
reopen_is name words bytes is h = absurd cc

seal_is : (name : List ℕ) (words : List (List ℕ)) (said : Said) → name ≡ codes "seal" → alone Said.Seal words ≡ Ok said → Says TextOf.Script (name ∷ words) said
unfolding alone
seal_is name [] said is h = subst (λ (s : Said). Says TextOf.Script (name ∷ []) s) (same_ok Said.Seal said h) (rw is refl)
seal_is name (word ∷ words) said is h = absurd cc

all_numbers : (word : List ℕ) (words : List (List ℕ)) (n : ℕ) (others ns : List ℕ) → word ≡ decimal n → n < 2 ^ 32 → (words ≡ map decimal others) × AllByRecursion (λ n. n < 2 ^ 32) others → n ∷ others ≡ ns
    → ((word ∷ words) ≡ map decimal ns) × AllByRecursion (λ n. n < 2 ^ 32) ns
all_numbers word words n others ns is small are all = subst (λ (ns : List ℕ). ((word ∷ words) ≡ map decimal ns) × AllByRecursion (λ n. n < 2 ^ 32) ns) all (rw (is, are.0) refl, (small, are.1))

numbers_are : (words : List (List ℕ)) (ns : List ℕ) → numbers_of words ≡ Ok ns → (words ≡ map decimal ns) × AllByRecursion (λ n. n < 2 ^ 32) ns
unfolding numbers_of
numbers_are [] ns h = rw (sym (same_ok [] ns h)) (refl, tt)
numbers_are (word ∷ words) ns h =
    number_then word _ ns h (λ n is small h.
    let others = bind_ok (numbers_of words) _ ns h in
    let are = numbers_are words others.0 others.1 in
    all_numbers word words n others.0 ns is small are (same_ok (n ∷ others.0) ns others.2))

tape_is : (name : List ℕ) (words : List (List ℕ)) (tape : List ℕ) → name ≡ codes "tape" → tape_line words ≡ Ok tape → Says TextOf.Script (name ∷ words) (Said.Tape tape)
unfolding tape_line
tape_is name [] tape is h = absurd cc
tape_is name (word ∷ words) tape is h =
    let are = numbers_are (word ∷ words) tape h in
    let long : suc (length words) ≡ length tape = ap length are.0 ∙ length-map tape decimal in
    (rw (is, are.0) refl, (omega arith, All-from_recursion (λ n. n < 2 ^ 32) tape are.1))

pub load_spells : (words : List (List ℕ)) (entry : Entry) → load_line words ≡ Ok entry → SpellsLoad words entry
unfolding load_line
load_spells (id ∷ hex ∷ []) entry h =
    number_then id _ entry h (λ number number_is small h. value_then hex _ entry h (λ value value_is h.
    let spells : SpellsLoad (id ∷ hex ∷ []) (record { id = number; value = value }) = (hex, rw number_is refl, small, value_is) in
    subst (λ (e : Entry). SpellsLoad (id ∷ hex ∷ []) e) (same_ok (record { id = number; value = value }) entry h) spells))
load_spells words entry h = absurd cc

load_is : (name : List ℕ) (words : List (List ℕ)) (entry : Entry) → name ≡ codes "load" → load_line words ≡ Ok entry → Says TextOf.Script (name ∷ words) (Said.Load entry)
load_is name words entry is h = (words, rw is refl, load_spells words entry h)

call_read_is : (cw : List ℕ) (words : List (List ℕ)) (call : ℕ × Op) → read_words cw words ≡ Ok call → SpellsCall (cw ∷ codes "read" ∷ words) call.0 call.1
unfolding read_words
call_read_is cw (iw ∷ []) call h =
    number_then cw _ call h (λ client client_is client_small h. number_then iw _ call h (λ id id_is id_small h.
    subst (λ (x : ℕ × Op). SpellsCall (cw ∷ codes "read" ∷ iw ∷ []) x.0 x.1) (same_ok (client, Op.Read id) call h) (rw (client_is, id_is) refl, client_small, id_small)))
call_read_is cw words call h = absurd cc

call_write_is : (cw : List ℕ) (words : List (List ℕ)) (call : ℕ × Op) → write_words cw words ≡ Ok call → SpellsCall (cw ∷ codes "write" ∷ words) call.0 call.1
unfolding write_words
call_write_is cw (iw ∷ hex ∷ []) call h =
    number_then cw _ call h (λ client client_is client_small h. number_then iw _ call h (λ id id_is id_small h. value_then hex _ call h (λ value value_is h.
    subst (λ (x : ℕ × Op). SpellsCall (cw ∷ codes "write" ∷ iw ∷ hex ∷ []) x.0 x.1) (same_ok (client, Op.Write id value) call h) (hex, rw (client_is, id_is) refl, client_small, id_small, value_is))))
call_write_is cw words call h = absurd cc

call_pad_is : (cw : List ℕ) (words : List (List ℕ)) (call : ℕ × Op) → pad_words cw words ≡ Ok call → SpellsCall (cw ∷ codes "pad" ∷ words) call.0 call.1
unfolding pad_words
call_pad_is cw [] call h =
    number_then cw _ call h (λ client client_is client_small h.
    subst (λ (x : ℕ × Op). SpellsCall (cw ∷ codes "pad" ∷ []) x.0 x.1) (same_ok (client, Op.Pad) call h) (rw client_is refl, client_small))
call_pad_is cw (word ∷ words) call h = absurd cc

call_is : (words : List (List ℕ)) (call : ℕ × Op) → call_line words ≡ Ok call → SpellsCall words call.0 call.1
unfolding call_line
call_is (cw ∷ name ∷ words) call h =
    named (λ (r : Result (ℕ × Op) TextKind). r ≡ Ok call → SpellsCall (cw ∷ name ∷ words) call.0 call.1) name (codes "read") _ _ (λ is h. rw is (call_read_is cw words call h))
    (named (λ (r : Result (ℕ × Op) TextKind). r ≡ Ok call → SpellsCall (cw ∷ name ∷ words) call.0 call.1) name (codes "write") _ _ (λ is h. rw is (call_write_is cw words call h))
    (named (λ (r : Result (ℕ × Op) TextKind). r ≡ Ok call → SpellsCall (cw ∷ name ∷ words) call.0 call.1) name (codes "pad") _ _ (λ is h. rw is (call_pad_is cw words call h)) (λ h. absurd cc))) h
call_is words call h = absurd cc

do_is : (name : List ℕ) (words : List (List ℕ)) (call : ℕ × Op) → name ≡ codes "do" → call_line words ≡ Ok call → SpellsStep (name ∷ words) (What.Do call.0 call.1)
do_is name words call is h = (words, rw is refl, call_is words call h)

a_is : (name : List ℕ) (words : List (List ℕ)) (call : ℕ × Op) → name ≡ codes "a" → call_line words ≡ Ok call → SpellsStep (name ∷ words) (What.A call.0 call.1)
a_is name words call is h = (words, rw is refl, call_is words call h)

read_is : (name : List ℕ) (words : List (List ℕ)) (what : What) → name ≡ codes "read" → read_line words ≡ Ok what → SpellsStep (name ∷ words) what
unfolding read_line
read_is name (fw ∷ []) what is h =
    number_then fw _ what h (λ fetch fetch_is fetch_small h.
    subst (λ (w : What). SpellsStep (name ∷ fw ∷ []) w) (same_ok (What.Read fetch None) what h) (rw (is, fetch_is) refl, fetch_small))
read_is name (fw ∷ dw ∷ []) what is h =
    number_then fw _ what h (λ fetch fetch_is fetch_small h. number_then dw _ what h (λ depth depth_is depth_small h.
    subst (λ (w : What). SpellsStep (name ∷ fw ∷ dw ∷ []) w) (same_ok (What.Read fetch (Some depth)) what h) (rw (is, fetch_is, depth_is) refl, fetch_small, depth_small)))
read_is name words what is h = absurd cc

pub number_line_is : (words : List (List ℕ)) (n : ℕ) → number_line words ≡ Ok n → (words ≡ decimal n ∷ []) × (n < 2 ^ 32)
unfolding number_line
number_line_is (word ∷ []) n h = let is = number_is word n h in (rw is.0 refl, is.1)
number_line_is words n h = absurd cc

done_is : (name : List ℕ) (words : List (List ℕ)) (n : ℕ) → name ≡ codes "done" → number_line words ≡ Ok n → SpellsStep (name ∷ words) (What.Done n)
done_is name words n is h = let number = number_line_is words n h in (rw (is, number.0) refl, number.1)

put_is : (name : List ℕ) (words : List (List ℕ)) (what : What) → name ≡ codes "put" → put_line words ≡ Ok what → SpellsStep (name ∷ words) what
unfolding put_line
put_is name (vw ∷ []) what is h =
    number_then vw _ what h (λ version version_is version_small h.
    subst (λ (w : What). SpellsStep (name ∷ vw ∷ []) w) (same_ok (What.Put version None) what h) (rw (is, version_is) refl, version_small))
put_is name (vw ∷ nw ∷ []) what is h =
    number_then vw _ what h (λ version version_is version_small h. number_then nw _ what h (λ node node_is node_small h.
    subst (λ (w : What). SpellsStep (name ∷ vw ∷ nw ∷ []) w) (same_ok (What.Put version (Some node)) what h) (rw (is, version_is, node_is) refl, version_small, node_small)))
put_is name words what is h = absurd cc

ack_is : (name : List ℕ) (words : List (List ℕ)) (n : ℕ) → name ≡ codes "ack" → number_line words ≡ Ok n → SpellsStep (name ∷ words) (What.Ack n)
ack_is name words n is h = let number = number_line_is words n h in (rw (is, number.0) refl, number.1)

-- a value made of something that was read
pub made : {A B : Type 0} (P : B → Type 0) (r : Result A TextKind) (f : A → B) (y : B) → ((x : A) → r ≡ Ok x → P (f x)) → (r >>= λ x. Ok (f x)) ≡ Ok y → P y
made P r f y goes h = let x = bind_ok r (λ x. Ok (f x)) y h in subst P (same_ok (f x.0) y x.2) (goes x.0 x.1)

step_is : (name : List ℕ) (words : List (List ℕ)) (what : What) → step_behind name words ≡ Ok what → SpellsStep (name ∷ words) what
unfolding step_behind
step_is name words what h =
    let Goes = λ (r : Result What TextKind). r ≡ Ok what → SpellsStep (name ∷ words) what in
    let Spells = λ (w : What). SpellsStep (name ∷ words) w in
    named Goes name (codes "do") _ _ (λ is. made Spells (call_line words) (λ call. What.Do call.0 call.1) what (λ call. do_is name words call is))
    (named Goes name (codes "a") _ _ (λ is. made Spells (call_line words) (λ call. What.A call.0 call.1) what (λ call. a_is name words call is))
    (named Goes name (codes "read") _ _ (read_is name words what)
    (named Goes name (codes "done") _ _ (λ is. made Spells (number_line words) What.Done what (λ n. done_is name words n is))
    (named Goes name (codes "put") _ _ (put_is name words what)
    (named Goes name (codes "ack") _ _ (λ is. made Spells (number_line words) What.Ack what (λ n. ack_is name words n is)) (λ h. absurd cc)))))) h

pub line_is : (name : List ℕ) (words : List (List ℕ)) (said : Said) → said_behind name words ≡ Ok said → Says TextOf.Script (name ∷ words) said
unfolding said_behind
line_is name words said h =
    let Goes = λ (r : Result Said TextKind). r ≡ Ok said → Says TextOf.Script (name ∷ words) said in
    let Spells = λ (s : Said). Says TextOf.Script (name ∷ words) s in
    named Goes name (codes "tree") _ _ (tree_is name words said)
    (named Goes name (codes "form") _ _ (λ is. made Spells (form_line words) Said.Form said (λ form. form_is name words form is))
    (named Goes name (codes "key") _ _ (λ is. made Spells (value_line words) Said.Key said (λ bytes. key_is name words bytes is))
    (named Goes name (codes "seal") _ _ (seal_is name words said)
    (named Goes name (codes "reopen") _ _ (λ is. made Spells (value_line words) Said.Reopen said (λ bytes. reopen_is name words bytes is))
    (named Goes name (codes "tape") _ _ (λ is. made Spells (tape_line words) Said.Tape said (λ tape. tape_is name words tape is))
    (named Goes name (codes "load") _ _ (λ is. made Spells (load_line words) Said.Load said (λ entry. load_is name words entry is))
    (made Spells (step_behind name words) Said.Step said (step_is name words)))))))) h

pub words_are : (words : List (List ℕ)) (said : Said) → behind words ≡ Ok said → Says TextOf.Script words said
words_are [] said h = absurd cc
words_are (name ∷ words) said h = line_is name words said h

-- what the words say is read

numbers_read : (ns : List ℕ) → AllByRecursion (λ n. n < 2 ^ 32) ns → numbers_of (map decimal ns) ≡ Ok ns
unfolding numbers_of
numbers_read [] small = refl
numbers_read (n ∷ ns) small = rw (number_reads (decimal n) n (refl, small.0), numbers_read ns small.1) refl

tape_reads : (tape : List ℕ) → 0 < length tape → AllByRecursion (λ n. n < 2 ^ 32) tape → tape_line (map decimal tape) ≡ Ok tape
unfolding tape_line
tape_reads [] some small = absurd (omega arith)
tape_reads (n ∷ ns) some small = numbers_read (n ∷ ns) small

pub load_reads : (words : List (List ℕ)) (entry : Entry) → SpellsLoad words entry → load_line words ≡ Ok entry
unfolding load_line
load_reads words entry is =
    ap load_line is.1 ∙ rw (number_reads (decimal entry.id) entry.id (refl, is.2), hex_reads is.0 entry.value is.3) refl

call_reads : (words : List (List ℕ)) (client : ℕ) (op : Op) → SpellsCall words client op → call_line words ≡ Ok (client, op)
unfolding call_line read_words write_words pad_words
call_reads words client (Op.Read id) is =
    ap call_line is.0 ∙ rw (number_reads (decimal client) client (refl, is.1), number_reads (decimal id) id (refl, is.2)) refl
call_reads words client (Op.Write id value) is =
    ap call_line is.1 ∙ rw (number_reads (decimal client) client (refl, is.2), number_reads (decimal id) id (refl, is.3), hex_reads is.0 value is.4) refl
call_reads words client Op.Pad is = ap call_line is.0 ∙ rw (number_reads (decimal client) client (refl, is.1)) refl

-- a number in decimal
pub reads : (n : ℕ) → n < 2 ^ 32 → number_of (decimal n) ≡ Ok n
reads n small = number_reads (decimal n) n (refl, small)

step_reads : (words : List (List ℕ)) (what : What) → SpellsStep words what → behind words ≡ Ok (Said.Step what)
unfolding said_behind step_behind read_line put_line number_line
step_reads words (What.Do client op) is = ap behind is.1 ∙ rw (call_reads is.0 client op is.2) refl
step_reads words (What.A client op) is = ap behind is.1 ∙ rw (call_reads is.0 client op is.2) refl
step_reads words (What.Read fetch None) is = ap behind is.0 ∙ rw (reads fetch is.1) refl
step_reads words (What.Read fetch (Some depth)) is = ap behind is.0 ∙ rw (reads fetch is.1, reads depth is.2) refl
step_reads words (What.Done fetch) is = ap behind is.0 ∙ rw (reads fetch is.1) refl
step_reads words (What.Put version None) is = ap behind is.0 ∙ rw (reads version is.1) refl
step_reads words (What.Put version (Some node)) is = ap behind is.0 ∙ rw (reads version is.1, reads node is.2) refl
step_reads words (What.Ack version) is = ap behind is.0 ∙ rw (reads version is.1) refl

form_reads : (words : List (List ℕ)) (form : Form) → Says TextOf.Script words (Said.Form form) → behind words ≡ Ok (Said.Form form)
unfolding said_behind form_line
form_reads words One is = ap behind is
form_reads words Two is = ap behind is
form_reads words Turn is = ap behind is

pub words_read : (words : List (List ℕ)) (said : Said) → Says TextOf.Script words said → behind words ≡ Ok said
unfolding said_behind tree_line value_line alone
words_read words (Said.Tree l z b n k) is =
    let small = recursion_from_All (λ m. m < 2 ^ 32) (l ∷ z ∷ b ∷ n ∷ k ∷ []) is.1 in
    ap behind is.0 ∙ rw (reads l small.0, reads z small.1.0, reads b small.1.1.0, reads n small.1.1.1.0, reads k small.1.1.1.1.0) refl
words_read words (Said.Form form) is = form_reads words form is
words_read words (Said.Key bytes) is = ap behind is.1 ∙ rw (hex_reads is.0 bytes is.2) refl
words_read words Said.Seal is = ap behind is
words_read words (Said.Reopen bytes) is = ap behind is.1 ∙ rw (hex_reads is.0 bytes is.2) refl
words_read words (Said.Tape tape) is = ap behind is.0 ∙ rw (tape_reads tape is.1.0 (recursion_from_All (λ n. n < 2 ^ 32) tape is.1.1)) refl
words_read words (Said.Load entry) is = ap behind is.1 ∙ rw (load_reads is.0 entry is.2) refl
words_read words (Said.Step what) is = step_reads words what is
words_read words Said.Twin is = absurd cc
words_read words (Said.Op op) is = absurd cc
