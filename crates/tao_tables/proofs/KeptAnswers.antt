-- Answers under events that settle none. The events `es` are newest first.
use Rattle.std.proofs.Common.{◌≡◌, ℕ, ◌<◌, ◌≤◌, Bool, true, false, ◌||◌, List, [], ◌∷◌, ◌++◌, reverse, length, Some, is_some, refl, sym, ap, ◌∙◌, subst, arith, inl, inr, ◌⊎◌, nat_eq}
use Rattle.std.proofs.lemmas.Bool.{cases_lt, cases_eq, eq-eqb, ne_eqb, true≢false}
use Rattle.tao_base.specs.declared.calls.Op.{Op}
use Rattle.tao_base.specs.declared.calls.Op.TheVariants.{Read, Write, Pad}
use Rattle.tao_base.specs.declared.session.Event.{Event}
use Rattle.tao_base.specs.declared.session.Event.TheVariants.{Arrive, Done, Issue, Acked, Fault}
use Rattle.tao_base.specs.declared.storage.Bucket.{Bucket}
use Rattle.tao_base.specs.Session.{Opening}
use Rattle.tao_model.specs.Events.{arrived, is_done, is_on, is_pad}
use Rattle.tao_model.specs.Requests.{is_real, settler, is_settled}
use Rattle.tao_model.specs.Lawful.{FollowsLawfully}
use Rattle.tao_model.proofs.Stays.{newest_first, pad_stays, settler_stays}
use Rattle.tao_model.proofs.Growth.{leading_is}
use Rattle.tao_laws.proofs.OpenArrivals.{pad_or_on, settler_real_on, released_is_settled}
use Rattle.tao_requests.specs.declared.request.Kind.{Kind}
use Rattle.tao_requests.specs.declared.request.Request.{Request}
use Rattle.tao_requests.specs.State.{kind_now, request_at, request_of, first_answer}
use Rattle.tao_requests.specs.Laws.{Follows}
use Rattle.tao_requests.proofs.Followed.{Following, following, as_many, follows_arrive}
use Rattle.tao_requests.proofs.NewRequests.{new_at, old_at}
use Rattle.tao_held.specs.Held.{served_answer}
use Rattle.tao_held.proofs.HeldAnswers.{served_stays_once}
use Rattle.tao_tables.specs.Answers.{AreServed}
use Rattle.tao_tables.specs.Served.{ServedElse, ServedAtStart, ReleasedIsServed}

-- an event that settles nothing and adds no arrival
kept : (o : Opening) (es : List Event) (e : Event) (requests : List Request) → FollowsLawfully o (e ∷ es) → AreServed o es requests → arrived (e ∷ es) ≡ arrived es
    → ((j : ℕ) → j < arrived es → is_settled (e ∷ es) j ≡ true → is_settled es j ≡ true) → AreServed o (e ∷ es) requests
kept o es e requests f served same back j there settled =
    let low : j < arrived es = omega (arith, same) in
    served j low (back j low settled) ∙ ap Some (sym (served_stays_once o es e j f low (back j low settled)))

-- a fake arrival settles none
fake_settles_none : (es : List Event) (i : ℕ) (taken : List Bucket) → is_real es i ≡ false → (j : ℕ) → j < arrived es → is_settled (Done i taken ∷ es) j ≡ true → is_settled es j ≡ true
fake_settles_none es i taken fake j there now = by_pad (is_pad es j) refl now (pad_or_on es j there)
  where
    by_block : (p : Bool) (block : ℕ) → is_on es j block ≡ true → (i ≡ settler es j) ⊎ (i ≡ settler es j → ⊥) → (p || (nat_eq i (settler es j) || is_done es (settler es j))) ≡ true
        → (p || is_done es (settler es j)) ≡ true
    by_block p block on (inl same) now = absurd (true≢false (sym (ap (is_real es) same ∙ (settler_real_on es j block there on).0) ∙ fake))
    by_block p block on (inr other) now = sym (ap (λ t. p || (t || is_done es (settler es j))) (ne_eqb i (settler es j) other)) ∙ now

    by_pad : (p : Bool) → is_pad es j ≡ p → (p || (nat_eq i (settler es j) || is_done es (settler es j))) ≡ true → (is_pad es j ≡ true) ⊎ ((block : ℕ) × (is_on es j block ≡ true))
        → (p || is_done es (settler es j)) ≡ true
    by_pad true is now place = refl
    by_pad false is now (inl pad) = absurd (true≢false (sym pad ∙ is))
    by_pad false is now (inr place) = by_block false place.0 place.1 (cases_eq i (settler es j)) now

-- ---- an arrival

-- a pad's answer is there at once, and it is the record's
pad_served : (o : Opening) (es : List Event) (client : ℕ) (op : Op) (word : ℕ) → is_some (first_answer op) ≡ true
    → first_answer op ≡ Some (served_answer o (Arrive client op word ∷ es) (arrived es))
unfolding served_answer
pad_served o es client (Read block) word none = absurd (true≢false (sym none))
pad_served o es client (Write block value) word none = absurd (true≢false (sym none))
pad_served o es client Pad word there = rw (eq-eqb (arrived es) (arrived es) refl) refl

arrival_served : (o : Opening) (es : List Event) (client : ℕ) (op : Op) (word : ℕ) (kind : Kind) (requests : List Request) → FollowsLawfully o (Arrive client op word ∷ es)
    → Following es requests → Following (Arrive client op word ∷ es) (requests ++ request_of op kind ∷ []) → AreServed o es requests
    → AreServed o (Arrive client op word ∷ es) (requests ++ request_of op kind ∷ [])
arrival_served o es client op word kind requests f follows now served j there settled = either (cases_lt j (arrived es))
  where
    many : length requests ≡ arrived es
    many = as_many es requests follows

    here : request_at (requests ++ request_of op kind ∷ []) (arrived es) ≡ request_of op kind
    here = ap (request_at (requests ++ request_of op kind ∷ [])) (sym many) ∙ new_at requests (request_of op kind)

    before : j < arrived es → is_settled es j ≡ true
    before low = sym (ap (λ p. p || is_done es (settler (Arrive client op word ∷ es) j)) (pad_stays es (Arrive client op word) j low)
        ∙ ap (λ k. is_pad es j || is_done es k) (settler_stays es (Arrive client op word) j low)) ∙ settled

    either : (j < arrived es) ⊎ (arrived es ≤ j) → (request_at (requests ++ request_of op kind ∷ []) j).answer ≡ Some (served_answer o (Arrive client op word ∷ es) j)
    either (inl low) =
        ap (λ r. r.answer) (old_at requests (request_of op kind) j (λ same. omega (arith, many))) ∙ served j low (before low)
        ∙ ap Some (sym (served_stays_once o es (Arrive client op word) j f low (before low)))
    either (inr high) =
        let same : j ≡ arrived es = omega arith in
        let answered : is_some (first_answer op) ≡ true = sym (ap (λ r. is_some r.answer) here) ∙ now.settled (arrived es) (omega arith)
        ∙ sym (ap (is_settled (Arrive client op word ∷ es)) same) ∙ settled in
        ap (λ k. (request_at (requests ++ request_of op kind ∷ []) k).answer) same ∙ ap (λ r. r.answer) here ∙ pad_served o es client op word answered
        ∙ ap (λ k. Some (served_answer o (Arrive client op word ∷ es) k)) (sym same)

pub served_else : ServedElse
served_else o events requests follows served = record {
  arrive = λ client op word. with_follows client op word (follows_arrive o events requests client op word);
  fake = λ i taken. rw (newest_first events (Done i taken)) (λ f fake. kept o (reverse events) (Done i taken) requests f served refl (fake_settles_none (reverse events) i taken fake));
  issue = λ version nonce buckets. rw (newest_first events (Issue version nonce buckets))
      (λ f. kept o (reverse events) (Issue version nonce buckets) requests f served refl (λ j there settled. settled));
  acked = λ version. rw (newest_first events (Acked version)) (λ f. kept o (reverse events) (Acked version) requests f served refl (λ j there settled. settled));
  fault = λ cause. rw (newest_first events (Fault cause)) (λ f. kept o (reverse events) (Fault cause) requests f served refl (λ j there settled. settled));
}
  where
    with_follows : (client : ℕ) (op : Op) (word : ℕ)
        → (FollowsLawfully o (reverse events) → Follows events requests → Follows (events ++ Arrive client op word ∷ []) (requests ++ request_of op (kind_now requests op) ∷ []))
        → FollowsLawfully o (reverse (events ++ Arrive client op word ∷ []))
        → AreServed o (reverse (events ++ Arrive client op word ∷ [])) (requests ++ request_of op (kind_now requests op) ∷ [])
    with_follows client op word more f =
        let f' : FollowsLawfully o (Arrive client op word ∷ reverse events) = subst (FollowsLawfully o) (newest_first events (Arrive client op word)) f in
        let now : Following (Arrive client op word ∷ reverse events) (requests ++ request_of op (kind_now requests op) ∷ []) =
        subst (λ es. Following es (requests ++ request_of op (kind_now requests op) ∷ [])) (newest_first events (Arrive client op word))
        (following (events ++ Arrive client op word ∷ []) (requests ++ request_of op (kind_now requests op) ∷ []) (more f'.0 follows)) in
        subst (λ es. AreServed o es (requests ++ request_of op (kind_now requests op) ∷ [])) (sym (newest_first events (Arrive client op word)))
        (arrival_served o (reverse events) client op word (kind_now requests op) requests f' (following events requests follows) now served)

pub served_at_start : ServedAtStart
served_at_start o j there settled = absurd (omega arith)

pub released_is_served : ReleasedIsServed
released_is_served o events requests i served low =
    let within = (leading_is (is_done (reverse events)) (arrived (reverse events))).within in
    served i (omega arith) (released_is_settled events i low)
