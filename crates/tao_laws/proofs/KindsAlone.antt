-- The steps and operations determine which arrivals are real and the places they use. All lists are newest first.
use Rattle.std.proofs.Common.{◌≡◌, ℕ, zero, suc, ◌+◌, Bool, not, ◌&&◌, ◌||◌, List, [], ◌∷◌, ◌++◌, reverse, Option, Some, None, refl, sym, ap, ◌∙◌, nat_eq}
use Rattle.std.specs.List.{filter_map, cons_option}
use Rattle.std.proofs.lemmas.List.{reverse-append, append-nil}
use Rattle.std.proofs.lemmas.List.Elements.{filter_map-append}
use Rattle.tao_base.specs.declared.calls.Op.{Op}
use Rattle.tao_base.specs.declared.calls.Op.TheVariants.{Read, Write, Pad}
use Rattle.tao_base.specs.declared.session.Event.{Event}
use Rattle.tao_base.specs.declared.session.Event.TheVariants.{Arrive, Done, Issue, Acked, Fault}
use Rattle.tao_base.specs.Session.{Opening}
use Rattle.tao_model.specs.Events.{arrived, is_done, is_on}
use Rattle.tao_model.specs.Requests.{any_below, is_free, is_real, real_now, next_word, word_for, word_used}
use Rattle.tao_model.specs.Replies.{op_of, ops}
use Rattle.tao_model.specs.Shapes.{Step, asks, takes_in, writes, acknowledges, step_of, steps_of}
use Rattle.tao_laws.specs.TwoPlays.{KindsNeedNoWord}

-- ---- what is picked from the end of a list

pub picked_back : {Y : Type 0} (pick : Event → Option Y) (events : List Event) → filter_map pick (reverse events) ≡ reverse (filter_map pick events)
picked_back pick [] = refl
picked_back {Y = Y} pick (e ∷ events) =
    ap (filter_map pick) (reverse-append (e ∷ []) events) ∙ filter_map-append pick (reverse events) (e ∷ [])
    ∙ ap (λ l. l ++ cons_option (pick e) []) (picked_back pick events) ∙ either (pick e)
  where
    either : (o : Option Y) → reverse (filter_map pick events) ++ cons_option o [] ≡ reverse (cons_option o (filter_map pick events))
    either None = append-nil (reverse (filter_map pick events))
    either (Some y) = sym (reverse-append (y ∷ []) (filter_map pick events))

-- ---- the events without words and contents

abbrev bare_of : Event → Option Event
bare_of (Arrive client op word) = Some (Arrive client op 0)
bare_of (Done arrival taken) = Some (Done arrival [])
bare_of (Issue version nonce buckets) = Some (Issue version 0 [])
bare_of (Acked version) = Some (Acked version)
bare_of (Fault cause) = None

abbrev bare : List Event → List Event
bare es = filter_map bare_of es

arrived_bare : (es : List Event) → arrived (bare es) ≡ arrived es
arrived_bare [] = refl
arrived_bare (Arrive client op word ∷ es) = ap (λ n. n + 1) (arrived_bare es)
arrived_bare (Done arrival taken ∷ es) = arrived_bare es
arrived_bare (Issue version nonce buckets ∷ es) = arrived_bare es
arrived_bare (Acked version ∷ es) = arrived_bare es
arrived_bare (Fault cause ∷ es) = arrived_bare es

on_bare : (es : List Event) (i block : ℕ) → is_on (bare es) i block ≡ is_on es i block
on_bare [] i block = refl
on_bare (Arrive client op word ∷ es) i block = rw (arrived_bare es, on_bare es i block) refl
on_bare (Done arrival taken ∷ es) i block = on_bare es i block
on_bare (Issue version nonce buckets ∷ es) i block = on_bare es i block
on_bare (Acked version ∷ es) i block = on_bare es i block
on_bare (Fault cause ∷ es) i block = on_bare es i block

done_bare : (es : List Event) (i : ℕ) → is_done (bare es) i ≡ is_done es i
done_bare [] i = refl
done_bare (Arrive client op word ∷ es) i = done_bare es i
done_bare (Done arrival taken ∷ es) i = ap (λ t. nat_eq arrival i || t) (done_bare es i)
done_bare (Issue version nonce buckets ∷ es) i = done_bare es i
done_bare (Acked version ∷ es) i = done_bare es i
done_bare (Fault cause ∷ es) i = done_bare es i

any_same : (passes tests : ℕ → Bool) → ((i : ℕ) → passes i ≡ tests i) → (n : ℕ) → any_below passes n ≡ any_below tests n
any_same passes tests same zero = refl
any_same passes tests same (suc n) = rw (same n, any_same passes tests same n) refl

-- whether an operation would be real, from the tests only
free_same : (on on_too : ℕ → ℕ → Bool) (real real_too finished finished_too : ℕ → Bool) (n : ℕ) (op : Op) → ((i block : ℕ) → on i block ≡ on_too i block)
    → ((i : ℕ) → real i ≡ real_too i) → ((i : ℕ) → finished i ≡ finished_too i) → is_free on real finished n op ≡ is_free on_too real_too finished_too n op
free_same on on_too real real_too finished finished_too n op on_same real_same finished_same = either op
  where
    block_same : (block : ℕ) → any_below (λ i. on i block && (real i && not (finished i))) n ≡ any_below (λ i. on_too i block && (real_too i && not (finished_too i))) n
    block_same block = any_same (λ i. on i block && (real i && not (finished i))) (λ i. on_too i block && (real_too i && not (finished_too i)))
        (λ i. rw (on_same i block, real_same i, finished_same i) refl) n

    either : (op : Op) → is_free on real finished n op ≡ is_free on_too real_too finished_too n op
    either (Read id) = ap not (block_same id)
    either (Write id value) = ap not (block_same id)
    either Pad = refl

now_from : (es : List Event) → ((i : ℕ) → is_real (bare es) i ≡ is_real es i) → (op : Op) → real_now (bare es) op ≡ real_now es op
now_from es real op =
    free_same (is_on (bare es)) (is_on es) (is_real (bare es)) (is_real es) (is_done (bare es)) (is_done es) (arrived (bare es)) op (on_bare es) real (done_bare es)
    ∙ ap (λ n. is_free (is_on es) (is_real es) (is_done es) n op) (arrived_bare es)

real_bare : (es : List Event) (i : ℕ) → is_real (bare es) i ≡ is_real es i
real_bare [] i = refl
real_bare (Arrive client op word ∷ es) i = rw (now_from es (λ j. real_bare es j) op, real_bare es i, arrived_bare es) refl
real_bare (Done arrival taken ∷ es) i = real_bare es i
real_bare (Issue version nonce buckets ∷ es) i = real_bare es i
real_bare (Acked version ∷ es) i = real_bare es i
real_bare (Fault cause ∷ es) i = real_bare es i

now_bare : (es : List Event) (op : Op) → real_now (bare es) op ≡ real_now es op
now_bare es op = now_from es (λ i. real_bare es i) op

-- openings with equally many blocks
next_bare : (o other : Opening) → o.shape.n ≡ other.shape.n → (es : List Event) (block : ℕ) → next_word o (bare es) block ≡ next_word other es block
next_bare o other same [] block = refl
next_bare o other same (Arrive client op word ∷ es) block = rw (now_bare es op, arrived_bare es, next_bare o other same es block, same) refl
next_bare o other same (Done arrival taken ∷ es) block = next_bare o other same es block
next_bare o other same (Issue version nonce buckets ∷ es) block = next_bare o other same es block
next_bare o other same (Acked version ∷ es) block = next_bare o other same es block
next_bare o other same (Fault cause ∷ es) block = next_bare o other same es block

word_for_same : (next next_too : ℕ → ℕ) (new : ℕ) (real : Bool) (op : Op) → ((block : ℕ) → next block ≡ next_too block) → word_for next new real op ≡ word_for next_too new real op
word_for_same next next_too new real (Read id) same = rw (same id) refl
word_for_same next next_too new real (Write id value) same = rw (same id) refl
word_for_same next next_too new real Pad same = refl

-- the word that a new arrival would use
word_bare : (o other : Opening) → o.shape.n ≡ other.shape.n → (es : List Event) (op : Op)
    → word_for (next_word o (bare es)) (o.shape.n + arrived (bare es)) (real_now (bare es) op) op ≡ word_for (next_word other es) (other.shape.n + arrived es) (real_now es op) op
word_bare o other same es op =
    word_for_same (next_word o (bare es)) (next_word other es) (o.shape.n + arrived (bare es)) (real_now (bare es) op) op (next_bare o other same es)
    ∙ rw (now_bare es op, arrived_bare es, same) refl

used_bare : (o other : Opening) → o.shape.n ≡ other.shape.n → (es : List Event) (i : ℕ) → word_used o (bare es) i ≡ word_used other es i
used_bare o other same [] i = refl
used_bare o other same (Arrive client op word ∷ es) i = rw (word_bare o other same es op, used_bare o other same es i, arrived_bare es) refl
used_bare o other same (Done arrival taken ∷ es) i = used_bare o other same es i
used_bare o other same (Issue version nonce buckets ∷ es) i = used_bare o other same es i
used_bare o other same (Acked version ∷ es) i = used_bare o other same es i
used_bare o other same (Fault cause ∷ es) i = used_bare o other same es i

-- ---- these events, rebuilt from the steps and the operations

abbrev weave : List Step → List Op → List Event
weave [] ops = []
weave (asks client ∷ steps) [] = []
weave (asks client ∷ steps) (op ∷ ops) = Arrive client op 0 ∷ weave steps ops
weave (takes_in arrival ∷ steps) ops = Done arrival [] ∷ weave steps ops
weave (writes version ∷ steps) ops = Issue version 0 [] ∷ weave steps ops
weave (acknowledges version ∷ steps) ops = Acked version ∷ weave steps ops

woven : (es : List Event) → bare es ≡ weave (steps_of es) (ops es)
woven [] = refl
woven (Arrive client op word ∷ es) = ap (λ l. Arrive client op 0 ∷ l) (woven es)
woven (Done arrival taken ∷ es) = ap (λ l. Done arrival [] ∷ l) (woven es)
woven (Issue version nonce buckets ∷ es) = ap (λ l. Issue version 0 [] ∷ l) (woven es)
woven (Acked version ∷ es) = ap (λ l. Acked version ∷ l) (woven es)
woven (Fault cause ∷ es) = woven es

-- the steps, starting from the newest
pub same_steps : (events others : List Event) → steps_of events ≡ steps_of others → steps_of (reverse events) ≡ steps_of (reverse others)
same_steps events others steps = picked_back step_of events ∙ ap reverse steps ∙ sym (picked_back step_of others)

same_bare : (events others : List Event) → steps_of events ≡ steps_of others → ops events ≡ ops others → bare (reverse events) ≡ bare (reverse others)
same_bare events others steps operations =
    woven (reverse events)
    ∙ ap (λ s. weave s (ops (reverse events))) (same_steps events others steps)
    ∙ ap (weave (steps_of (reverse others))) (picked_back op_of events ∙ ap reverse operations ∙ sym (picked_back op_of others))
    ∙ sym (woven (reverse others))

pub kinds_need_no_word : KindsNeedNoWord
kinds_need_no_word first second one operations = record {
  real = λ i. sym (real_bare (reverse first.events) i) ∙ ap (λ l. is_real l i) same ∙ real_bare (reverse second.events) i;
  used = λ i. sym (used_bare first.opening first.opening refl (reverse first.events) i) ∙ ap (λ l. word_used first.opening l i) same
      ∙ used_bare first.opening second.opening blocks (reverse second.events) i;
  next = λ block. sym (next_bare first.opening first.opening refl (reverse first.events) block) ∙ ap (λ l. next_word first.opening l block) same
      ∙ next_bare first.opening second.opening blocks (reverse second.events) block;
}
  where
    same : bare (reverse first.events) ≡ bare (reverse second.events)
    same = same_bare first.events second.events one.steps operations

    blocks : first.opening.shape.n ≡ second.opening.shape.n
    blocks = ap (λ s. s.n) one.parameters
