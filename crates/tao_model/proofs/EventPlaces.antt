-- Places in a list of events, and the events before them.
use Rattle.std.proofs.Common.{◌≡◌, ℕ, zero, suc, ◌+◌, ◌<◌, ◌≤◌, Bool, true, false, List, [], ◌∷◌, ◌++◌, reverse, length, take, drop, Some, refl, sym, ap, ◌∙◌, arith, inl, inr, ◌⊎◌, add-one}
use Rattle.std.proofs.lemmas.Bool.{cases_eq, true≢false}
use Rattle.std.proofs.lemmas.Option.{same_Some, slice_get_within, get_or_from_slice_get}
use Rattle.std.proofs.lemmas.List.{reverse-append, take_more, take_all, take-append-drop, drop_more}
use Rattle.tao_base.specs.declared.session.Event.{Event}
use Rattle.tao_model.specs.WholeRecords.{IsAt, before}
use Rattle.tao_model.proofs.RealArrivals.{looked_back}

pub before_more : (events : List Event) (p : ℕ) (e : Event) → IsAt events p e → before events (p + 1) ≡ e ∷ before events p
before_more events p e at =
    ap reverse (take_more events p e (slice_get_within events p e at) ∙ ap (λ x. take p events ++ x ∷ []) (get_or_from_slice_get events p e e at))
    ∙ reverse-append (take p events) (e ∷ [])

pub before_all : (events : List Event) → before events (length events) ≡ reverse events
before_all events = ap reverse (take_all (length events) events (omega arith))

-- the reversed record ends with the event and those before it
pub at_split : (events : List Event) (p : ℕ) (e : Event) → IsAt events p e → reverse events ≡ reverse (drop (p + 1) events) ++ e ∷ before events p
at_split events p e at =
    ap reverse (sym (take-append-drop p events) ∙ ap (λ l. take p events ++ l) (drop_more events p e (slice_get_within events p e at)
    ∙ ap (λ x. x ∷ drop (p + 1) events) (get_or_from_slice_get events p e e at)))
    ∙ looked_back (take p events) (drop (p + 1) events) e

-- every place of the list has an event
pub some_at : (events : List Event) (p : ℕ) → p < length events → (e : Event) × IsAt events p e
some_at [] p h = absurd (omega arith)
some_at (e ∷ events) zero h = (e, refl)
some_at (e ∷ events) (suc p) h = some_at events p (omega arith)

pub one_at : (events : List Event) (p : ℕ) (e f : Event) → IsAt events p e → IsAt events p f → e ≡ f
one_at events p e f at there = same_Some e f (sym at ∙ there)

-- the newest event before a place is the one at the previous place
pub newest_at : (events : List Event) (p : ℕ) (e : Event) (es : List Event) → p ≤ length events → before events p ≡ e ∷ es
    → (q : ℕ) × (p ≡ q + 1) × IsAt events q e × (es ≡ before events q)
newest_at events zero e es within h = absurd (nil_cons e es h)
  where
    nil_cons : (x : Event) (xs : List Event) → [] ≡ x ∷ xs → ⊥
    nil_cons x xs k = cc
newest_at events (suc q) e es within h =
    let there = some_at events q (omega arith) in
    let more : there.0 ∷ before events q ≡ e ∷ es = sym (before_more events q there.0 there.1) ∙ ap (before events) (add-one q) ∙ h in
    let parts = cons_parts there.0 e (before events q) es more in
    (q, omega arith, there.1 ∙ ap (λ x. Some x) parts.0, sym parts.1)
  where
    cons_parts : (x y : Event) (xs ys : List Event) → x ∷ xs ≡ y ∷ ys → (x ≡ y) × (xs ≡ ys)
    cons_parts x y xs ys k = (cc, cc)

-- ---- tests of the events before a place

-- If only an event of one kind can make a test pass, and it passes before a place, such an event comes earlier.
pub found_before : (passes : List Event → Bool) (Is : Event → Type 0) → passes [] ≡ false
    → ((e : Event) (es : List Event) → passes (e ∷ es) ≡ true → Is e ⊎ (passes es ≡ true)) → (events : List Event) (p : ℕ) → p ≤ length events
    → passes (before events p) ≡ true → (q : ℕ) × (e : Event) × (q < p) × IsAt events q e × Is e
found_before passes Is none step events zero within h = absurd (true≢false (sym h ∙ none))
found_before passes Is none step events (suc p) within h = either there.0 there.1 (step there.0 (before events p) (ap passes (sym more) ∙ h))
    (λ rest. found_before passes Is none step events p (omega arith) rest)
  where
    there : (e : Event) × IsAt events p e
    there = some_at events p (omega arith)

    more : before events (suc p) ≡ there.0 ∷ before events p
    more = ap (before events) (sym (add-one p)) ∙ before_more events p there.0 there.1

    either : (e : Event) → IsAt events p e → Is e ⊎ (passes (before events p) ≡ true)
        → (passes (before events p) ≡ true → (q : ℕ) × (f : Event) × (q < p) × IsAt events q f × Is f) → (q : ℕ) × (f : Event) × (q < suc p) × IsAt events q f × Is f
    either e at (inl is) ih = (p, e, omega arith, at, is)
    either e at (inr earlier) ih = let rest = ih earlier in let less = rest.2 in (rest.0, rest.1, omega arith, rest.3, rest.4)

-- a test that passes from an event on passes before every later place
pub passes_before : (passes : List Event → Bool) → ((e : Event) (es : List Event) → passes es ≡ true → passes (e ∷ es) ≡ true)
    → (events : List Event) (q : ℕ) (e : Event) → IsAt events q e → passes (e ∷ before events q) ≡ true → (p : ℕ) → q < p → p ≤ length events → passes (before events p) ≡ true
passes_before passes stays events q e at h zero less within = absurd (omega arith)
passes_before passes stays events q e at h (suc p) less within = either (cases_eq q p) (λ later. passes_before passes stays events q e at h p later (omega arith))
  where
    there : (f : Event) × IsAt events p f
    there = some_at events p (omega arith)

    more : before events (suc p) ≡ there.0 ∷ before events p
    more = ap (before events) (sym (add-one p)) ∙ before_more events p there.0 there.1

    either : (q ≡ p) ⊎ (q ≡ p → ⊥) → (q < p → passes (before events p) ≡ true) → passes (before events (suc p)) ≡ true
    either (inl same) ih = ap passes (ap (λ k. before events (suc k)) (sym same) ∙ ap (before events) (sym (add-one q)) ∙ before_more events q e at) ∙ h
    either (inr other) ih = ap passes more ∙ stays there.0 (before events p) (ih (omega (arith, other)))
