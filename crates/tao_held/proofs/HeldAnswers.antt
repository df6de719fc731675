-- Answers don't change, and are those of the plain operations. The events `es` are newest first.
use Rattle.std.proofs.Common.{◌≡◌, ℕ, ◌+◌, ◌<◌, ◌≤◌, Bool, true, false, ◌||◌, cond, List, [], ◌∷◌, ◌++◌, reverse, length, take, drop, set, refl, sym, ap, ◌∙◌, arith, inl, inr, ◌⊎◌, nat_eq}
use Rattle.std.proofs.lemmas.Bool.{cases_lt, cases_eq, lt-ltb, le-ltb, eq-eqb, ne_eqb, true≢false}
use Rattle.std.proofs.lemmas.List.{reverse-append, reverse-reverse, get_or-set_same, get_or-set_other, length_push, take-append-le, drop-append-le, drop_all, take_all, drop-take}
use Rattle.std.proofs.lemmas.List.Sums.{fold_push}
use Rattle.tao_base.specs.declared.calls.Op.{Op}
use Rattle.tao_base.specs.declared.calls.Op.TheVariants.{Read, Write, Pad}
use Rattle.tao_base.specs.declared.session.Event.{Event}
use Rattle.tao_base.specs.declared.session.Event.TheVariants.{Arrive, Done, Issue, Acked, Fault}
use Rattle.tao_base.specs.Session.{Opening}
use Rattle.tao_base.specs.Array.{array_step, array_after, block_at}
use Rattle.tao_model.specs.Events.{arrived, is_done, is_pad}
use Rattle.tao_model.specs.Requests.{settler, is_settled}
use Rattle.tao_model.specs.Replies.{op_of, ops}
use Rattle.tao_model.specs.Lawful.{FollowsLawfully}
use Rattle.tao_model.proofs.Stays.{pad_stays, settler_stays}
use Rattle.tao_model.proofs.Places.{arrived_grows}
use Rattle.tao_model.proofs.DonesInOrder.{picked_more, picked_same}
use Rattle.tao_model.proofs.PlainArrays.{ops_listed}
use Rattle.tao_model.proofs.LawfulToWhole.{done_kept}
use Rattle.tao_model.proofs.PlainArrays.{length_step}
use Rattle.tao_model.proofs.Growth.{done_stays}
use Rattle.tao_held.specs.Held.{held, found_in, found_value, served_answer, block_of, block_on, op_value, value_since, value_between}
use Rattle.tao_held.specs.HeldLaws.{AnswersStay, FoundStays, SinceIsFold, BetweenIsFold}

-- ---- one more event

pub block_stays : (es : List Event) (e : Event) (j : ℕ) → j < arrived es → block_on (e ∷ es) j ≡ block_on es j
block_stays es (Arrive client op word) j h = ap (λ t. cond t (block_of op) (block_on es j)) (ne_eqb j (arrived es) (λ same. omega arith))
block_stays es (Done arrival taken) j h = refl
block_stays es (Issue version nonce buckets) j h = refl
block_stays es (Acked version) j h = refl
block_stays es (Fault cause) j h = refl

pub between_stays : (es : List Event) (e : Event) (block i j : ℕ) (v : List ℕ) → j ≤ arrived es → value_between (e ∷ es) block i j v ≡ value_between es block i j v
between_stays es (Arrive client op word) block i j v h =
    ap (λ t. cond t (value_since (Arrive client op word ∷ es) block i v) (value_between es block i j v)) (le-ltb (arrived es) j h)
between_stays es (Done arrival taken) block i j v h = refl
between_stays es (Issue version nonce buckets) block i j v h = refl
between_stays es (Acked version) block i j v h = refl
between_stays es (Fault cause) block i j v h = refl

pub found_stays_once : (o : Opening) (es : List Event) (e : Event) (i : ℕ) → FollowsLawfully o (e ∷ es) → is_done es i ≡ true → found_value o (e ∷ es) i ≡ found_value o es i
unfolding found_value
found_stays_once o es (Arrive client op word) i f done = refl
found_stays_once o es (Done arrival taken) i f done = ap (λ t. cond t (found_in o es (λ w. held o es w) i taken) (found_value o es i))
    (ne_eqb arrival i (λ same. true≢false (sym done ∙ ap (is_done es) (sym same) ∙ f.2.1.under_way)))
found_stays_once o es (Issue version nonce buckets) i f done = refl
found_stays_once o es (Acked version) i f done = refl
found_stays_once o es (Fault cause) i f done = refl

settled_kept : (es : List Event) (e : Event) (j : ℕ) → j < arrived es → is_settled es j ≡ true → is_settled (e ∷ es) j ≡ true
settled_kept es e j there settled =
    ap (λ p. p || is_done (e ∷ es) (settler (e ∷ es) j)) (pad_stays es e j there) ∙ ap (λ k. is_pad es j || is_done (e ∷ es) k) (settler_stays es e j there) ∙ either (is_pad es j) settled
  where
    either : (t : Bool) → (t || is_done es (settler es j)) ≡ true → (t || is_done (e ∷ es) (settler es j)) ≡ true
    either true is = refl
    either false is = done_kept (settler es j) e es is

pub served_stays_once : (o : Opening) (es : List Event) (e : Event) (j : ℕ) → FollowsLawfully o (e ∷ es) → j < arrived es → is_settled es j ≡ true
    → served_answer o (e ∷ es) j ≡ served_answer o es j
unfolding served_answer
served_stays_once o es e j f there settled =
    ap (λ t. cond t [] (value_between (e ∷ es) (block_on (e ∷ es) j) (settler (e ∷ es) j) j (found_value o (e ∷ es) (settler (e ∷ es) j)))) (pad_stays es e j there)
    ∙ either (is_pad es j) settled
  where
    either : (t : Bool) → (t || is_done es (settler es j)) ≡ true
        → cond t [] (value_between (e ∷ es) (block_on (e ∷ es) j) (settler (e ∷ es) j) j (found_value o (e ∷ es) (settler (e ∷ es) j)))
        ≡ cond t [] (value_between es (block_on es j) (settler es j) j (found_value o es (settler es j)))
    either true is = refl
    either false done =
        ap (λ b. value_between (e ∷ es) b (settler (e ∷ es) j) j (found_value o (e ∷ es) (settler (e ∷ es) j))) (block_stays es e j there)
        ∙ ap (λ i. value_between (e ∷ es) (block_on es j) i j (found_value o (e ∷ es) i)) (settler_stays es e j there)
        ∙ between_stays es e (block_on es j) (settler es j) j (found_value o (e ∷ es) (settler es j)) (omega arith)
        ∙ ap (value_between es (block_on es j) (settler es j) j) (found_stays_once o es e (settler es j) f done)

-- ---- later events

settled_later : (later es : List Event) (j : ℕ) → j < arrived es → is_settled es j ≡ true → is_settled (later ++ es) j ≡ true
settled_later [] es j there settled = settled
settled_later (e ∷ later) es j there settled = settled_kept (later ++ es) e j (let more = arrived_grows later es in omega arith) (settled_later later es j there settled)

served_later : (o : Opening) (later es : List Event) (j : ℕ) → FollowsLawfully o (later ++ es) → j < arrived es → is_settled es j ≡ true
    → served_answer o (later ++ es) j ≡ served_answer o es j
served_later o [] es j f there settled = refl
served_later o (e ∷ later) es j f there settled =
    served_stays_once o (later ++ es) e j f (let more = arrived_grows later es in omega arith) (settled_later later es j there settled) ∙ served_later o later es j f.0 there settled

pub answers_stay : AnswersStay
answers_stay o events later j = rw (reverse-append events later) (λ f there settled. served_later o (reverse later) (reverse events) j f there settled)

found_later : (o : Opening) (later es : List Event) (i : ℕ) → FollowsLawfully o (later ++ es) → is_done es i ≡ true → found_value o (later ++ es) i ≡ found_value o es i
found_later o [] es i f done = refl
found_later o (e ∷ later) es i f done = found_stays_once o (later ++ es) e i f (done_stays later es i done) ∙ found_later o later es i f.0 done

pub found_stays : FoundStays
found_stays o events later i = rw (reverse-append events later) (λ f done. found_later o (reverse later) (reverse events) i f done)

-- ---- the plain array

pub op_at : (xs : List (List ℕ)) (block : ℕ) (op : Op) → block < length xs → block_at (array_step xs op) block ≡ op_value block op (block_at xs block)
op_at xs block (Read id) low = refl
op_at xs block (Write id value) low = either (cases_eq id block)
  where
    either : (id ≡ block) ⊎ (id ≡ block → ⊥) → block_at (set xs id value) block ≡ cond (nat_eq id block) value (block_at xs block)
    either (inl same) = ap (λ j. block_at (set xs j value) block) same ∙ get_or-set_same xs block value [] low
        ∙ sym (ap (λ t. cond t value (block_at xs block)) (eq-eqb id block same))
    either (inr other) = get_or-set_other xs id block value [] (λ same. other (sym same)) ∙ sym (ap (λ t. cond t value (block_at xs block)) (ne_eqb id block other))
op_at xs block Pad low = refl

length_after : (xs : List (List ℕ)) (list : List Op) → length (array_after xs list) ≡ length xs
length_after xs [] = refl
length_after xs (op ∷ list) = length_after (array_step xs op) list ∙ length_step xs op

-- the operations after one more arrival
one_more_op : (es : List Event) (client : ℕ) (op : Op) (word : ℕ) → ops (reverse (Arrive client op word ∷ es)) ≡ ops (reverse es) ++ op ∷ []
one_more_op es client op word = picked_more op_of es (Arrive client op word)

-- the value of a block after some of the operations
abbrev at_end : List (List ℕ) → ℕ → List Op → List ℕ
at_end blocks block list = block_at (array_after blocks list) block

pub since_fold : (es : List Event) (blocks : List (List ℕ)) (block i : ℕ) → block < length blocks
    → value_since es block i (block_at blocks block) ≡ block_at (array_after blocks (drop i (ops (reverse es)))) block
since_fold [] blocks block i low = ap (at_end blocks block) (sym (drop_all i [] (omega arith)))
since_fold (Arrive client op word ∷ es) blocks block i low = either (cases_lt (arrived es) i) (since_fold es blocks block i low)
  where
    len : length (ops (reverse es)) ≡ arrived es
    len = ops_listed es

    either : (arrived es < i) ⊎ (i ≤ arrived es) → value_since es block i (block_at blocks block) ≡ at_end blocks block (drop i (ops (reverse es)))
        → value_since (Arrive client op word ∷ es) block i (block_at blocks block) ≡ at_end blocks block (drop i (ops (reverse (Arrive client op word ∷ es))))
    either (inl late) ih =
        ap (λ t. cond t (block_at blocks block) (op_value block op (value_since es block i (block_at blocks block)))) (lt-ltb (arrived es) i late)
        ∙ ap (at_end blocks block) (sym (drop_all i (ops (reverse es) ++ op ∷ []) (let more = length_push (ops (reverse es)) op in omega (arith, len)))
        ∙ ap (drop i) (sym (one_more_op es client op word)))
    either (inr early) ih =
        ap (λ t. cond t (block_at blocks block) (op_value block op (value_since es block i (block_at blocks block)))) (le-ltb (arrived es) i early)
        ∙ ap (op_value block op) ih
        ∙ sym (op_at (array_after blocks (drop i (ops (reverse es)))) block op (let long = length_after blocks (drop i (ops (reverse es))) in omega (arith, long)))
        ∙ ap (λ xs. block_at xs block) (sym (fold_push array_step blocks (drop i (ops (reverse es))) op))
        ∙ ap (at_end blocks block) (sym (drop-append-le i (ops (reverse es)) (op ∷ []) (omega (arith, len))) ∙ ap (drop i) (sym (one_more_op es client op word)))
since_fold (Done arrival taken ∷ es) blocks block i low = since_fold es blocks block i low ∙ ap (λ l. at_end blocks block (drop i l)) (sym (picked_same op_of es (Done arrival taken) refl))
since_fold (Issue version nonce buckets ∷ es) blocks block i low =
    since_fold es blocks block i low ∙ ap (λ l. at_end blocks block (drop i l)) (sym (picked_same op_of es (Issue version nonce buckets) refl))
since_fold (Acked version ∷ es) blocks block i low = since_fold es blocks block i low ∙ ap (λ l. at_end blocks block (drop i l)) (sym (picked_same op_of es (Acked version) refl))
since_fold (Fault cause ∷ es) blocks block i low = since_fold es blocks block i low ∙ ap (λ l. at_end blocks block (drop i l)) (sym (picked_same op_of es (Fault cause) refl))

pub between_fold : (es : List Event) (blocks : List (List ℕ)) (block i j : ℕ) → block < length blocks
    → value_between es block i j (block_at blocks block) ≡ block_at (array_after blocks (drop i (take j (ops (reverse es))))) block
between_fold [] blocks block i j low = ap (at_end blocks block) (sym (ap (drop i) (take_all j [] (omega arith)) ∙ drop_all i [] (omega arith)))
between_fold (Arrive client op word ∷ es) blocks block i j low = either (cases_lt (arrived es) j) (between_fold es blocks block i j low)
  where
    len : length (ops (reverse es)) ≡ arrived es
    len = ops_listed es

    either : (arrived es < j) ⊎ (j ≤ arrived es) → value_between es block i j (block_at blocks block) ≡ at_end blocks block (drop i (take j (ops (reverse es))))
        → value_between (Arrive client op word ∷ es) block i j (block_at blocks block) ≡ at_end blocks block (drop i (take j (ops (reverse (Arrive client op word ∷ es)))))
    either (inl before) ih =
        ap (λ t. cond t (value_since (Arrive client op word ∷ es) block i (block_at blocks block)) (value_between es block i j (block_at blocks block))) (lt-ltb (arrived es) j before)
        ∙ since_fold (Arrive client op word ∷ es) blocks block i low
        ∙ ap (λ l. at_end blocks block (drop i l)) (sym (take_all j (ops (reverse (Arrive client op word ∷ es))) (let more = ops_listed (Arrive client op word ∷ es) in omega arith)))
    either (inr past) ih =
        ap (λ t. cond t (value_since (Arrive client op word ∷ es) block i (block_at blocks block)) (value_between es block i j (block_at blocks block))) (le-ltb (arrived es) j past)
        ∙ ih
        ∙ ap (λ l. at_end blocks block (drop i l)) (sym (take-append-le j (ops (reverse es)) (op ∷ []) (omega (arith, len))) ∙ ap (take j) (sym (one_more_op es client op word)))
between_fold (Done arrival taken ∷ es) blocks block i j low =
    between_fold es blocks block i j low ∙ ap (λ l. at_end blocks block (drop i (take j l))) (sym (picked_same op_of es (Done arrival taken) refl))
between_fold (Issue version nonce buckets ∷ es) blocks block i j low =
    between_fold es blocks block i j low ∙ ap (λ l. at_end blocks block (drop i (take j l))) (sym (picked_same op_of es (Issue version nonce buckets) refl))
between_fold (Acked version ∷ es) blocks block i j low =
    between_fold es blocks block i j low ∙ ap (λ l. at_end blocks block (drop i (take j l))) (sym (picked_same op_of es (Acked version) refl))
between_fold (Fault cause ∷ es) blocks block i j low =
    between_fold es blocks block i j low ∙ ap (λ l. at_end blocks block (drop i (take j l))) (sym (picked_same op_of es (Fault cause) refl))

pub since_is_fold : SinceIsFold
since_is_fold events blocks block i low = since_fold (reverse events) blocks block i low ∙ ap (λ told. at_end blocks block (drop i (ops told))) (reverse-reverse events)

pub between_is_fold : BetweenIsFold
between_is_fold events blocks block i k low =
    between_fold (reverse events) blocks block i (i + k) low ∙ ap (λ told. at_end blocks block (drop i (take (i + k) (ops told)))) (reverse-reverse events)
    ∙ ap (at_end blocks block) (drop-take i k (ops events))
