-- What is found and answered is the plain array's reply. The events `es` are newest first.
use Rattle.std.proofs.Common.{◌≡◌, ℕ, ◌<◌, ◌≤◌, Bool, true, false, ◌||◌, cond, List, [], ◌∷◌, reverse, refl, sym, ap, ◌∙◌, subst, arith, inl, inr, ◌⊎◌, nat_eq}
use Rattle.std.proofs.lemmas.Bool.{cases_lt, eq-eqb, eqb-true, true≢false}
use Rattle.tao_base.specs.declared.calls.Op.{Op}
use Rattle.tao_base.specs.declared.calls.Op.TheVariants.{Read, Write, Pad}
use Rattle.tao_base.specs.declared.session.Event.{Event}
use Rattle.tao_base.specs.declared.session.Event.TheVariants.{Arrive, Done, Issue, Acked, Fault}
use Rattle.tao_base.specs.Session.{Opening}
use Rattle.tao_base.specs.Array.{array_reply}
use Rattle.tao_model.specs.Events.{arrived, is_done, is_on, is_pad, is_pad_op}
use Rattle.tao_model.specs.Requests.{is_real, settler, is_settled}
use Rattle.tao_model.specs.Residence.{Unaltered, HasEntriesOf}
use Rattle.tao_model.specs.Replies.{array_now, plain_reply}
use Rattle.tao_model.specs.Lawful.{FollowsLawfully, OpensWithLoad}
use Rattle.tao_model.proofs.Stays.{real_stays, reply_stays, pad_stays}
use Rattle.tao_model.proofs.Places.{done_arrived}
use Rattle.tao_laws.proofs.OpenArrivals.{pad_or_on, settles, settler_real_on}
use Rattle.tao_laws.proofs.RightValues.{right_from}
use Rattle.tao_held.specs.Held.{held, found_in, found_value, served_answer, block_on, value_between, WritesHeld}
use Rattle.tao_held.proofs.Blocks.{on_is}
use Rattle.tao_fresh.specs.FreshLaws.{FoundIsPlain, AnswersAreRight}
use Rattle.tao_fresh.proofs.SettledMoves.{plain_between_from, on_first}
use Rattle.tao_fresh.proofs.WrittenBuckets.{honest_from}
use Rattle.tao_fresh.proofs.FreshCopies.{open_one, found_settled, fresh_from}

pub found_plain : (o : Opening) (es : List Event) (i : ℕ) → OpensWithLoad o → FollowsLawfully o es → WritesHeld o es → Unaltered HasEntriesOf o es
    → is_done es i ≡ true → is_real es i ≡ true → found_value o es i ≡ plain_reply o es i
unfolding found_value
found_plain o [] i opens f h u done real = absurd (true≢false (sym done))
found_plain o (Arrive client op word ∷ es) i opens f h u done real = either (cases_lt i (arrived es))
    (λ older. found_plain o es i opens f.0 h u done (sym (real_stays es (Arrive client op word) i older) ∙ real))
  where
    either : (i < arrived es) ⊎ (arrived es ≤ i) → (i < arrived es → found_value o es i ≡ plain_reply o es i) → found_value o es i ≡ plain_reply o (Arrive client op word ∷ es) i
    either (inl older) ih = ih older ∙ sym (reply_stays o es (Arrive client op word) i older)
    either (inr newest) ih = absurd (true≢false (sym done ∙ done_arrived o es i f.0 newest))
found_plain o (Done arrival taken ∷ es) i opens f h u done real = either (nat_eq arrival i) refl done (λ earlier. found_plain o es i opens f.0 h u.0 earlier real)
  where
    found : is_real es arrival ≡ true → found_in o es (λ w. held o es w) arrival taken ≡ plain_reply o es arrival
    found is =
        found_settled o es arrival taken f.0 f.2.1 is (honest_from o es arrival taken opens f.2.1 u.1) (fresh_from o es opens f.0 h u.0)
        ∙ (right_from o es (block_on es arrival)).open_one arrival (open_one o es arrival taken f.2.1 is)

    either : (t : Bool) → nat_eq arrival i ≡ t → (t || is_done es i) ≡ true → (is_done es i ≡ true → found_value o es i ≡ plain_reply o es i)
        → cond t (found_in o es (λ w. held o es w) i taken) (found_value o es i) ≡ plain_reply o es i
    either true here done ih =
        let same : arrival ≡ i = eqb-true arrival i here in
        subst (λ k. found_in o es (λ w. held o es w) k taken ≡ plain_reply o es k) same (found (ap (is_real es) same ∙ real))
    either false other done ih = ih done
found_plain o (Issue version nonce buckets ∷ es) i opens f h u done real = found_plain o es i opens f.0 h.0 u done real
found_plain o (Acked version ∷ es) i opens f h u done real = found_plain o es i opens f.0 h u done real
found_plain o (Fault cause ∷ es) i opens f h u done real = found_plain o es i opens f.0 h u done real

pub found_is_plain : FoundIsPlain
found_is_plain o events i p u done real = found_plain o (reverse events) i p.opens p.follows p.writes u done real

-- ---- answers

pad_answer : (xs : List (List ℕ)) (op : Op) → is_pad_op op ≡ true → array_reply xs op ≡ []
pad_answer xs (Read id) is = absurd (true≢false (sym is))
pad_answer xs (Write id value) is = absurd (true≢false (sym is))
pad_answer xs Pad is = refl

pub pad_reply : (o : Opening) (es : List Event) (j : ℕ) → j < arrived es → is_pad es j ≡ true → plain_reply o es j ≡ []
pad_reply o [] j there pad = absurd (omega arith)
pad_reply o (Arrive client op word ∷ es) j there pad = either (cases_lt j (arrived es)) (λ older. pad_reply o es j older (sym (pad_stays es (Arrive client op word) j older) ∙ pad))
  where
    either : (j < arrived es) ⊎ (arrived es ≤ j) → (j < arrived es → plain_reply o es j ≡ []) → plain_reply o (Arrive client op word ∷ es) j ≡ []
    either (inl older) ih = reply_stays o es (Arrive client op word) j older ∙ ih older
    either (inr newest) ih =
        let here : nat_eq j (arrived es) ≡ true = eq-eqb j (arrived es) (omega arith) in
        ap (λ t. cond t (array_reply (array_now o es) op) (plain_reply o es j)) here
        ∙ pad_answer (array_now o es) op (sym (ap (λ t. cond t (is_pad_op op) (is_pad es j)) here) ∙ pad)
pad_reply o (Done arrival taken ∷ es) j there pad = pad_reply o es j there pad
pad_reply o (Issue version nonce buckets ∷ es) j there pad = pad_reply o es j there pad
pad_reply o (Acked version ∷ es) j there pad = pad_reply o es j there pad
pad_reply o (Fault cause ∷ es) j there pad = pad_reply o es j there pad

pub answer_right : (o : Opening) (es : List Event) (j : ℕ) → OpensWithLoad o → FollowsLawfully o es → WritesHeld o es → Unaltered HasEntriesOf o es
    → j < arrived es → is_settled es j ≡ true → served_answer o es j ≡ plain_reply o es j
unfolding served_answer
answer_right o es j opens f h u there settled = either (is_pad es j) refl settled
  where
    on_block : is_pad es j ≡ false → is_done es (settler es j) ≡ true → (is_pad es j ≡ true) ⊎ ((block : ℕ) × (is_on es j block ≡ true))
        → value_between es (block_on es j) (settler es j) j (found_value o es (settler es j)) ≡ plain_reply o es j
    on_block no_pad done (inl pad) = absurd (true≢false (sym pad ∙ no_pad))
    on_block no_pad done (inr on) =
        let within = (settles es j on.0 there on.1).0 in
        let both = settler_real_on es j on.0 there on.1 in
        ap (λ b. value_between es b (settler es j) j (found_value o es (settler es j))) (on_is es j on.0 there on.1)
        ∙ ap (value_between es on.0 (settler es j) j) (found_plain o es (settler es j) opens f h u done both.0)
        ∙ sym (plain_between_from o es on.0 (settler es j) j (on_first o es j on.0 f there on.1) (omega arith) there both.1 on.1)

    either : (t : Bool) → is_pad es j ≡ t → (t || is_done es (settler es j)) ≡ true
        → cond t [] (value_between es (block_on es j) (settler es j) j (found_value o es (settler es j))) ≡ plain_reply o es j
    either true pad is = sym (pad_reply o es j there pad)
    either false no_pad is = on_block no_pad is (pad_or_on es j there)

pub answers_are_right : AnswersAreRight
answers_are_right o events j p u there settled = answer_right o (reverse events) j p.opens p.follows p.writes u there settled
