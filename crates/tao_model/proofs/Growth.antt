-- The released count is the greatest, and never falls. The events are newest first.
use Rattle.std.proofs.Common.{◌≡◌, ℕ, zero, suc, ◌+◌, ◌<◌, ◌≤◌, Bool, true, false, ◌&&◌, ◌||◌, cond, List, [], ◌∷◌, ◌++◌, reverse, refl, sym, ap, ◌∙◌, subst, arith, inl, inr, ◌⊎◌, nat_eq}
use Rattle.std.proofs.lemmas.Bool.{ne_eqb, eq-eqb, cases_lt, cases_eq, true≢false}
use Rattle.std.proofs.lemmas.List.{reverse-append}
use Rattle.tao_base.specs.declared.session.Event.{Event}
use Rattle.tao_base.specs.declared.session.Event.TheVariants.{Arrive, Done, Issue, Acked, Fault}
use Rattle.tao_base.specs.Session.{Opening}
use Rattle.tao_model.specs.Events.{arrived, client_of, is_done}
use Rattle.tao_model.specs.Requests.{is_real, settler, word_used}
use Rattle.tao_model.specs.Replies.{leading, released, plain_reply}
use Rattle.tao_model.specs.Stays.{ArrivalsStay, ReleasedGrows, UsedStays}
use Rattle.tao_model.proofs.Stays.{client_stays, real_stays, used_stays, reply_stays, settler_stays}
use Rattle.tao_model.proofs.Places.{stays_later, leaf_stays_later, arrived_grows}

-- how far a test passes: for all numbers below, and then it fails or the range ends
pub record IsLeading (passes : ℕ → Bool) (n r : ℕ) : Type 0 where
  pub within : r ≤ n
  pub below : (i : ℕ) → i < r → passes i ≡ true
  pub next : r < n → passes r ≡ false

leading_step : (passes : ℕ → Bool) (n r : ℕ) (p : Bool) → passes n ≡ p → IsLeading passes n r → IsLeading passes (n + 1) (cond (p && nat_eq r n) (n + 1) r)
leading_step passes n r false is l = record {
  within = let w = l.within in omega arith;
  below = l.below;
  next = λ h. stop (cases_lt r n);
}
  where
    stop : (r < n) ⊎ (n ≤ r) → passes r ≡ false
    stop (inl k) = l.next k
    stop (inr k) = let w = l.within in let same : r ≡ n = omega arith in ap passes same ∙ is
leading_step passes n r true is l = either (cases_eq r n)
  where
    either : (r ≡ n) ⊎ (r ≡ n → ⊥) → IsLeading passes (n + 1) (cond (nat_eq r n) (n + 1) r)
    either (inl same) = rw (eq-eqb r n same) (record {
      within = omega arith;
      below = λ i h. pass i (cases_lt i n) h;
      next = λ h. absurd (omega arith);
    })
      where
        pass : (i : ℕ) → (i < n) ⊎ (n ≤ i) → i < n + 1 → passes i ≡ true
        pass i (inl k) h = l.below i (omega arith)
        pass i (inr k) h = let at : i ≡ n = omega arith in ap passes at ∙ is
    either (inr other) = rw (ne_eqb r n other) (record {
      within = let w = l.within in omega arith;
      below = l.below;
      next = λ h. let w = l.within in l.next (omega (arith, other));
    })

pub leading_is : (passes : ℕ → Bool) (n : ℕ) → IsLeading passes n (leading passes n)
leading_is passes zero = record { within = omega arith; below = λ i h. absurd (omega arith); next = λ h. absurd (omega arith) }
leading_is passes (suc n) = subst (λ k. IsLeading passes k (leading passes (suc n))) (omega arith)
    (leading_step passes n (leading passes n) (passes n) refl (leading_is passes n))

-- a weaker test over a longer range passes at least as far
pub leading_grows : (f g : ℕ → Bool) (m n r s : ℕ) → IsLeading f m r → IsLeading g n s → m ≤ n → ((i : ℕ) → f i ≡ true → g i ≡ true) → r ≤ s
leading_grows f g m n r s a b le more = either (cases_lt s r)
  where
    either : (s < r) ⊎ (r ≤ s) → r ≤ s
    either (inl less) =
        let w = a.within in
        let stops : g s ≡ false = b.next (omega arith) in
        absurd (true≢false (sym (more s (a.below s less)) ∙ stops))
    either (inr h) = h

pub done_stays : (later es : List Event) (i : ℕ) → is_done es i ≡ true → is_done (later ++ es) i ≡ true
done_stays [] es i h = h
done_stays (Arrive client op word ∷ later) es i h = done_stays later es i h
done_stays (Done arrival taken ∷ later) es i h = rw (done_stays later es i h) (or_true (nat_eq arrival i))
  where
    or_true : (b : Bool) → (b || true) ≡ true
    or_true true = refl
    or_true false = refl
done_stays (Issue version nonce buckets ∷ later) es i h = done_stays later es i h
done_stays (Acked version ∷ later) es i h = done_stays later es i h
done_stays (Fault cause ∷ later) es i h = done_stays later es i h

pub released_grows_later : (later es : List Event) → released es ≤ released (later ++ es)
released_grows_later later es = leading_grows (is_done es) (is_done (later ++ es)) (arrived es) (arrived (later ++ es)) (released es) (released (later ++ es))
    (leading_is (is_done es) (arrived es)) (leading_is (is_done (later ++ es)) (arrived (later ++ es))) (arrived_grows later es) (λ i h. done_stays later es i h)

pub used_stays_later : (o : Opening) (later es : List Event) (i : ℕ) → i < arrived es → word_used o (later ++ es) i ≡ word_used o es i
used_stays_later o later es i h = stays_later (λ l. word_used o l i) (i + 1) (λ l e k. used_stays o l e i (omega arith)) later es (omega arith)

pub words_stay : UsedStays
words_stay o events later i h = ap (λ l. word_used o l i) (reverse-append events later) ∙ used_stays_later o (reverse later) (reverse events) i h

pub reply_stays_later : (o : Opening) (later es : List Event) (i : ℕ) → i < arrived es → plain_reply o (later ++ es) i ≡ plain_reply o es i
reply_stays_later o later es i h = stays_later (λ l. plain_reply o l i) (i + 1) (λ l e k. reply_stays o l e i (omega arith)) later es (omega arith)

pub arrivals_stay : ArrivalsStay
arrivals_stay o events later i f h = rw (reverse-append events later) (record {
  client = stays_later (λ l. client_of l i) (i + 1) (λ l e k. client_stays l e i (omega arith)) (reverse later) (reverse events) (omega arith);
  real = stays_later (λ l. is_real l i) (i + 1) (λ l e k. real_stays l e i (omega arith)) (reverse later) (reverse events) (omega arith);
  word = used_stays_later o (reverse later) (reverse events) i h;
  leaf = leaf_stays_later o (reverse later) (reverse events) i f h;
  reply = reply_stays_later o (reverse later) (reverse events) i h;
  settler = stays_later (λ l. settler l i) (i + 1) (λ l e k. settler_stays l e i (omega arith)) (reverse later) (reverse events) (omega arith);
})

pub released_grows : ReleasedGrows
released_grows events later = rw (reverse-append events later) (released_grows_later (reverse later) (reverse events))
