-- The order of the queues after one more request, and after settling a block's requests, for plain functions.
use Rattle.std.proofs.Common.{◌≡◌, ℕ, ◌<◌, ◌≤◌, Bool, true, false, Option, Some, None, refl, ap, sym, ◌∙◌, arith, inl, inr, ◌⊎◌}
use Rattle.std.proofs.lemmas.Bool.{true≢false, cases_eq, cases_lt}
use Rattle.tao_requests.specs.Queues.{InOrder}

pub differ : (x : Bool) → x ≡ true → x ≡ false → ⊥
differ x e f = true≢false (sym e ∙ f)

pub none_some : {X : Type 0} (k : X) (o : Option X) → o ≡ None → o ≡ Some k → ⊥
none_some k o e f = let h : None ≡ Some k = sym e ∙ f in cc

pub some_same : {X : Type 0} (k n : X) (o : Option X) → o ≡ Some n → o ≡ Some k → n ≡ k
some_same k n o e f = let h : Some n ≡ Some k = sym e ∙ f in cc

-- request n is new and waits, on block b; there is none after it; the others are unchanged
pub record OneMore (b n : ℕ) (on on' : ℕ → ℕ → Bool) (waits waits' is_real is_real' : ℕ → Bool) : Type 0 where
  pub was_none : (block i : ℕ) → n ≤ i → on block i ≡ false
  pub on_here : on' b n ≡ true
  pub on_else : (block : ℕ) → (block ≡ b → ⊥) → on' block n ≡ false
  pub on_old : (block i : ℕ) → (i ≡ n → ⊥) → on' block i ≡ on block i
  pub waits_here : waits' n ≡ true
  pub waits_old : (i : ℕ) → (i ≡ n → ⊥) → waits' i ≡ waits i
  pub real_old : (i : ℕ) → (i ≡ n → ⊥) → is_real' i ≡ is_real i

-- a request that was on a block before isn't the new one, and stays on it
pub below_new : (b n : ℕ) (on on' : ℕ → ℕ → Bool) (waits waits' is_real is_real' : ℕ → Bool) → OneMore b n on on' waits waits' is_real is_real'
    → (block i : ℕ) → on block i ≡ true → i < n
below_new b n on on' waits waits' is_real is_real' m block i h = below (cases_lt i n)
  where
    below : (i < n) ⊎ (n ≤ i) → i < n
    below (inl low) = low
    below (inr high) = absurd (differ (on block i) h (m.was_none block i high))

-- a request on a block is the new one on its block, or was on it before
abbrev pub IsNewOrOld : ℕ → ℕ → (ℕ → ℕ → Bool) → ℕ → ℕ → Type 0
IsNewOrOld b n on block i = ((block ≡ b) × (i ≡ n)) ⊎ ((i < n) × (on block i ≡ true))

pub new_or_old : (b n : ℕ) (on on' : ℕ → ℕ → Bool) (waits waits' is_real is_real' : ℕ → Bool) → OneMore b n on on' waits waits' is_real is_real'
    → (block i : ℕ) → on' block i ≡ true → IsNewOrOld b n on block i
new_or_old b n on on' waits waits' is_real is_real' m block i h = which (cases_eq i n) (cases_eq block b)
  where
    which : (i ≡ n) ⊎ (i ≡ n → ⊥) → (block ≡ b) ⊎ (block ≡ b → ⊥) → IsNewOrOld b n on block i
    which (inl e) (inl f) = inl (f, e)
    which (inl e) (inr f) = absurd (differ (on' block n) (sym (ap (on' block) e) ∙ h) (m.on_else block f))
    which (inr e) f = inr (below_new b n on on' waits waits' is_real is_real' m block i (sym (m.on_old block i e) ∙ h), sym (m.on_old block i e) ∙ h)

-- a request that isn't new and wasn't on the block isn't on it
pub still_off : (b n : ℕ) (on on' : ℕ → ℕ → Bool) (waits waits' is_real is_real' : ℕ → Bool) → OneMore b n on on' waits waits' is_real is_real'
    → (block i : ℕ) → ((block ≡ b) × (i ≡ n) → ⊥) → on block i ≡ false → on' block i ≡ false
still_off b n on on' waits waits' is_real is_real' m block i other h = which (cases_eq i n) (cases_eq block b)
  where
    which : (i ≡ n) ⊎ (i ≡ n → ⊥) → (block ≡ b) ⊎ (block ≡ b → ⊥) → on' block i ≡ false
    which (inl e) (inl f) = absurd (other (f, e))
    which (inl e) (inr f) = ap (on' block) e ∙ m.on_else block f
    which (inr e) f = m.on_old block i e ∙ h

-- The new request is the last in its block's queue, and the previous last one links to it. It is real if the queue was empty.
pub record NewLast (b n : ℕ) (is_real' : ℕ → Bool) (next next' last last' : ℕ → Option ℕ) : Type 0 where
  pub real_where_empty : last b ≡ None → is_real' n ≡ true
  pub fake_else : (k : ℕ) → last b ≡ Some k → is_real' n ≡ false
  pub next_here : next' n ≡ None
  pub next_link : (i : ℕ) → last b ≡ Some i → next' i ≡ Some n
  pub next_old : (i : ℕ) → (i ≡ n → ⊥) → (last b ≡ Some i → ⊥) → next' i ≡ next i
  pub last_here : last' b ≡ Some n
  pub last_else : (block : ℕ) → (block ≡ b → ⊥) → last' block ≡ last block

abbrev pub OnOneBlock : (ℕ → ℕ → Bool) → Type 0
OnOneBlock on = (block other i : ℕ) → on block i ≡ true → on other i ≡ true → block ≡ other

-- an old request that waits: it was the last in the new one's queue, or its link is unchanged
abbrev pub OldLink : ℕ → ℕ → (ℕ → Option ℕ) → (ℕ → Option ℕ) → (ℕ → Option ℕ) → ℕ → ℕ → Type 0
OldLink b n next next' last block i = ((block ≡ b) × (last b ≡ Some i) × (next' i ≡ Some n))
    ⊎ ((next' i ≡ next i) × (block ≡ b → (k : ℕ) × (last b ≡ Some k) × (i < k)))

pub old_link : (b n : ℕ) (on : ℕ → ℕ → Bool) (waits is_real is_real' : ℕ → Bool) (next next' last last' : ℕ → Option ℕ)
    → InOrder on waits is_real next last → OnOneBlock on → NewLast b n is_real' next next' last last'
    → (block i : ℕ) → i < n → on block i ≡ true → waits i ≡ true → OldLink b n next next' last block i
old_link b n on waits is_real is_real' next next' last last' h one l block i low o w = which (cases_eq block b) (last b) refl
  where
    behind : (k : ℕ) → block ≡ b → last b ≡ Some k → (i ≡ k → ⊥) → (i < k) ⊎ (k ≤ i) → i < k
    behind k f e other (inl x) = x
    behind k f e other (inr x) = absurd (differ (on block i) o (ap (λ y. on y i) f ∙ h.none_behind b k i e (omega (arith, other))))

    here : block ≡ b → (k : ℕ) → last b ≡ Some k → (i ≡ k) ⊎ (i ≡ k → ⊥) → OldLink b n next next' last block i
    here f k e (inl x) = let at : last b ≡ Some i = e ∙ ap (λ y. Some y) (sym x) in inl (f, at, l.next_link i at)
    here f k e (inr x) = inr (l.next_old i (λ y. omega arith) (λ y. x (some_same k i (last b) y e)), λ g. (k, e, behind k f e x (cases_lt i k)))

    which : (block ≡ b) ⊎ (block ≡ b → ⊥) → (last_b : Option ℕ) → last b ≡ last_b → OldLink b n next next' last block i
    which (inl f) None e = absurd (differ (waits i) w (h.quiet block i (ap last f ∙ e) o))
    which (inl f) (Some k) e = here f k e (cases_eq i k)
    which (inr f) last_b e = inr (l.next_old i (λ y. omega arith) (λ y. f (one block b i o (h.last_on b i y))), λ g. absurd (f g))

-- one more request keeps the queues in order
pub enters : (b n : ℕ) (on on' : ℕ → ℕ → Bool) (waits waits' is_real is_real' : ℕ → Bool) (next next' last last' : ℕ → Option ℕ)
    → InOrder on waits is_real next last → OnOneBlock on → OneMore b n on on' waits waits' is_real is_real' → NewLast b n is_real' next next' last last'
    → InOrder on' waits' is_real' next' last'
enters b n on on' waits waits' is_real is_real' next next' last last' h one m l = record {
  quiet = λ block i e o. quiet block i e (is block i o) (cases_eq block b);
  last_on = λ block k e. last_on block k e (cases_eq block b);
  last_waits = λ block k e. last_waits block k e (cases_eq block b);
  none_behind = λ block k j e low. none_behind block k j e low (cases_eq block b);
  real_one = λ block k e. real_one block k e (cases_eq block b) (last b) refl;
  before = λ block i j oi r w oj low. before block i j r w (is block i oi) (is block j oj) low (last b) refl;
  after = λ block i j oi w oj low. after block i j w (is block i oi) (is block j oj) low;
  none = λ block i k o w e low. none block i k e low (link block i w (is block i o));
  later = λ block i k o w e. later block i k e (link block i w (is block i o));
  next_on = λ block i k o w e. next_on block i k e (link block i w (is block i o));
  between = λ block i k j o w e low high. between block i k j e low high (link block i w (is block i o));
}
  where
    is : (block i : ℕ) → on' block i ≡ true → IsNewOrOld b n on block i
    is = new_or_old b n on on' waits waits' is_real is_real' m

    old_on : (block k : ℕ) → on block k ≡ true → on' block k ≡ true
    old_on block k o = m.on_old block k (λ x. let low : k < n = below_new b n on on' waits waits' is_real is_real' m block k o in omega arith) ∙ o

    old_waits : (block k : ℕ) → on block k ≡ true → waits' k ≡ waits k
    old_waits block k o = m.waits_old k (λ x. let low : k < n = below_new b n on on' waits waits' is_real is_real' m block k o in omega arith)

    old_real : (block k : ℕ) → on block k ≡ true → is_real' k ≡ is_real k
    old_real block k o = m.real_old k (λ x. let low : k < n = below_new b n on on' waits waits' is_real is_real' m block k o in omega arith)

    off : (block i : ℕ) → ((block ≡ b) × (i ≡ n) → ⊥) → on block i ≡ false → on' block i ≡ false
    off = still_off b n on on' waits waits' is_real is_real' m

    quiet : (block i : ℕ) → last' block ≡ None → IsNewOrOld b n on block i → (block ≡ b) ⊎ (block ≡ b → ⊥) → waits' i ≡ false
    quiet block i e o (inl f) = absurd (none_some n (last' block) e (ap last' f ∙ l.last_here))
    quiet block i e (inl o) (inr f) = absurd (f o.0)
    quiet block i e (inr o) (inr f) = old_waits block i o.1 ∙ h.quiet block i (sym (l.last_else block f) ∙ e) o.1

    new_last : (block k : ℕ) → block ≡ b → last' block ≡ Some k → n ≡ k
    new_last block k f e = some_same k n (last' b) l.last_here (ap last' (sym f) ∙ e)

    last_on : (block k : ℕ) → last' block ≡ Some k → (block ≡ b) ⊎ (block ≡ b → ⊥) → on' block k ≡ true
    last_on block k e (inl f) = ap (λ x. on' x k) f ∙ (ap (on' b) (sym (new_last block k f e)) ∙ m.on_here)
    last_on block k e (inr f) = old_on block k (h.last_on block k (sym (l.last_else block f) ∙ e))

    last_waits : (block k : ℕ) → last' block ≡ Some k → (block ≡ b) ⊎ (block ≡ b → ⊥) → waits' k ≡ true
    last_waits block k e (inl f) = ap waits' (sym (new_last block k f e)) ∙ m.waits_here
    last_waits block k e (inr f) = let was : last block ≡ Some k = sym (l.last_else block f) ∙ e in old_waits block k (h.last_on block k was) ∙ h.last_waits block k was

    none_behind : (block k j : ℕ) → last' block ≡ Some k → k < j → (block ≡ b) ⊎ (block ≡ b → ⊥) → on' block j ≡ false
    none_behind block k j e low (inl f) = let same : n ≡ k = new_last block k f e in
        off block j (λ x. let y : j ≡ n = x.1 in omega arith) (m.was_none block j (omega arith))
    none_behind block k j e low (inr f) = off block j (λ x. f x.0) (h.none_behind block k j (sym (l.last_else block f) ∙ e) low)

    old_one : (block k : ℕ) → last block ≡ Some k → (i : ℕ) × (on' block i ≡ true) × (is_real' i ≡ true) × (waits' i ≡ true)
    old_one block k e = let r = h.real_one block k e in
        (r.0, old_on block r.0 r.1, old_real block r.0 r.1 ∙ r.2, old_waits block r.0 r.1 ∙ r.3)

    real_one : (block k : ℕ) → last' block ≡ Some k → (block ≡ b) ⊎ (block ≡ b → ⊥) → (last_b : Option ℕ) → last b ≡ last_b
        → (i : ℕ) × (on' block i ≡ true) × (is_real' i ≡ true) × (waits' i ≡ true)
    real_one block k e (inl f) None was = (n, ap (λ x. on' x n) f ∙ m.on_here, l.real_where_empty was, m.waits_here)
    real_one block k e (inl f) (Some j) was = old_one block j (ap last f ∙ was)
    real_one block k e (inr f) last_b was = old_one block k (sym (l.last_else block f) ∙ e)

    before : (block i j : ℕ) → is_real' i ≡ true → waits' i ≡ true → IsNewOrOld b n on block i → IsNewOrOld b n on block j → j < i
        → (last_b : Option ℕ) → last b ≡ last_b → waits' j ≡ false
    before block i j r w (inl p) (inl q) low last_b e = absurd (let x : i ≡ n = p.1 in let y : j ≡ n = q.1 in omega arith)
    before block i j r w (inl p) (inr q) low None e = old_waits block j q.1 ∙ h.quiet block j (ap last p.0 ∙ e) q.1
    before block i j r w (inl p) (inr q) low (Some k) e = absurd (differ (is_real' i) r (ap is_real' p.1 ∙ l.fake_else k e))
    before block i j r w (inr p) (inl q) low last_b e = absurd (let x : i < n = p.0 in let y : j ≡ n = q.1 in omega arith)
    before block i j r w (inr p) (inr q) low last_b e =
        old_waits block j q.1 ∙ h.before block i j p.1 (sym (old_real block i p.1) ∙ r) (sym (old_waits block i p.1) ∙ w) q.1 low

    after : (block i j : ℕ) → waits' i ≡ true → IsNewOrOld b n on block i → IsNewOrOld b n on block j → i < j → waits' j ≡ true
    after block i j w p (inl q) low = ap waits' q.1 ∙ m.waits_here
    after block i j w (inl p) (inr q) low = absurd (let x : i ≡ n = p.1 in let y : j < n = q.0 in omega arith)
    after block i j w (inr p) (inr q) low = old_waits block j q.1 ∙ h.after block i j p.1 (sym (old_waits block i p.1) ∙ w) q.1 low

    Link : ℕ → ℕ → Type 0
    Link block i = ((block ≡ b) × (i ≡ n)) ⊎ ((i < n) × (on block i ≡ true) × (waits i ≡ true) × OldLink b n next next' last block i)

    link : (block i : ℕ) → waits' i ≡ true → IsNewOrOld b n on block i → Link block i
    link block i w (inl p) = inl p
    link block i w (inr p) = let was : waits i ≡ true = sym (old_waits block i p.1) ∙ w in
        inr (p.0, p.1, was, old_link b n on waits is_real is_real' next next' last last' h one l block i p.0 p.1 was)

    none : (block i k : ℕ) → next' i ≡ None → i < k → Link block i → on' block k ≡ false
    none block i k e low (inl p) = let x : i ≡ n = p.1 in off block k (λ y. let z : k ≡ n = y.1 in omega arith) (m.was_none block k (omega arith))
    none block i k e low (inr (x, o, w, inl p)) = absurd (none_some n (next' i) e p.2)
    none block i k e low (inr (x, o, w, inr p)) = off block k (λ y. last_is_there (p.1 y.0) y.0) (h.none block i k o w (sym p.0 ∙ e) low)
      where
        last_is_there : (j : ℕ) × (last b ≡ Some j) × (i < j) → block ≡ b → ⊥
        last_is_there q f = differ (on b q.0) (h.last_on b q.0 q.1) (ap (λ z. on z q.0) (sym f) ∙ h.none block i q.0 o w (sym p.0 ∙ e) q.2)

    later : (block i k : ℕ) → next' i ≡ Some k → Link block i → i < k
    later block i k e (inl p) = absurd (none_some k (next' n) l.next_here (ap next' (sym p.1) ∙ e))
    later block i k e (inr (x, o, w, inl p)) = let same : n ≡ k = some_same k n (next' i) p.2 e in omega arith
    later block i k e (inr (x, o, w, inr p)) = h.later block i k o w (sym p.0 ∙ e)

    next_on : (block i k : ℕ) → next' i ≡ Some k → Link block i → on' block k ≡ true
    next_on block i k e (inl p) = absurd (none_some k (next' n) l.next_here (ap next' (sym p.1) ∙ e))
    next_on block i k e (inr (x, o, w, inl p)) = ap (λ y. on' y k) p.0 ∙ (ap (on' b) (sym (some_same k n (next' i) p.2 e)) ∙ m.on_here)
    next_on block i k e (inr (x, o, w, inr p)) = old_on block k (h.next_on block i k o w (sym p.0 ∙ e))

    between : (block i k j : ℕ) → next' i ≡ Some k → i < j → j < k → Link block i → on' block j ≡ false
    between block i k j e low high (inl p) = absurd (none_some k (next' n) l.next_here (ap next' (sym p.1) ∙ e))
    between block i k j e low high (inr (x, o, w, inl p)) = let same : n ≡ k = some_same k n (next' i) p.2 e in
        off block j (λ y. let z : j ≡ n = y.1 in omega arith) (ap (λ y. on y j) p.0 ∙ h.none_behind b i j p.1 low)
    between block i k j e low high (inr (x, o, w, inr p)) =
        let y : k < n = below_new b n on on' waits waits' is_real is_real' m block k (h.next_on block i k o w (sym p.0 ∙ e)) in
        off block j (λ z. let same : j ≡ n = z.1 in omega arith) (h.between block i k j o w (sym p.0 ∙ e) low high)

-- the order depends only on the functions' values
pub same_order : (on on' : ℕ → ℕ → Bool) (waits waits' is_real is_real' : ℕ → Bool) (next next' last : ℕ → Option ℕ) → InOrder on waits is_real next last
    → ((block i : ℕ) → on' block i ≡ on block i) → ((i : ℕ) → waits' i ≡ waits i) → ((i : ℕ) → is_real' i ≡ is_real i) → ((i : ℕ) → waits i ≡ true → next' i ≡ next i)
    → InOrder on' waits' is_real' next' last
same_order on on' waits waits' is_real is_real' next next' last h on_same waits_same real_same next_same = record {
  quiet = λ block i e o. waits_same i ∙ h.quiet block i e (on_was block i o);
  last_on = λ block k e. on_same block k ∙ h.last_on block k e;
  last_waits = λ block k e. waits_same k ∙ h.last_waits block k e;
  none_behind = λ block k j e low. on_same block j ∙ h.none_behind block k j e low;
  real_one = λ block k e. let r = h.real_one block k e in (r.0, on_same block r.0 ∙ r.1, real_same r.0 ∙ r.2, waits_same r.0 ∙ r.3);
  before = λ block i j o r w p low. waits_same j ∙ h.before block i j (on_was block i o) (sym (real_same i) ∙ r) (waits_was i w) (on_was block j p) low;
  after = λ block i j o w p low. waits_same j ∙ h.after block i j (on_was block i o) (waits_was i w) (on_was block j p) low;
  none = λ block i k o w e low. on_same block k ∙ h.none block i k (on_was block i o) (waits_was i w) (next_was i w e) low;
  later = λ block i k o w e. h.later block i k (on_was block i o) (waits_was i w) (next_was i w e);
  next_on = λ block i k o w e. on_same block k ∙ h.next_on block i k (on_was block i o) (waits_was i w) (next_was i w e);
  between = λ block i k j o w e low high. on_same block j ∙ h.between block i k j (on_was block i o) (waits_was i w) (next_was i w e) low high;
}
  where
    on_was : (block i : ℕ) → on' block i ≡ true → on block i ≡ true
    on_was block i o = sym (on_same block i) ∙ o

    waits_was : (i : ℕ) → waits' i ≡ true → waits i ≡ true
    waits_was i w = sym (waits_same i) ∙ w

    next_was : {o : Option ℕ} (i : ℕ) → waits' i ≡ true → next' i ≡ o → next i ≡ o
    next_was i w e = sym (next_same i (waits_was i w)) ∙ e

-- the waiting requests on block b, from the real one i on, are settled
pub record Settles (b i : ℕ) (on : ℕ → ℕ → Bool) (waits waits' : ℕ → Bool) (last last' : ℕ → Option ℕ) : Type 0 where
  pub waits_gone : (j : ℕ) → i ≤ j → on b j ≡ true → waits' j ≡ false
  pub waits_old : (j : ℕ) → (i ≤ j → on b j ≡ true → ⊥) → waits' j ≡ waits j
  pub last_gone : last' b ≡ None
  pub last_else : (block : ℕ) → (block ≡ b → ⊥) → last' block ≡ last block

-- settling keeps the queues in order
pub leaves : (b n : ℕ) (on : ℕ → ℕ → Bool) (waits waits' is_real : ℕ → Bool) (next last last' : ℕ → Option ℕ)
    → InOrder on waits is_real next last → OnOneBlock on → Settles b n on waits waits' last last'
    → on b n ≡ true → is_real n ≡ true → waits n ≡ true → InOrder on waits' is_real next last'
leaves b n on waits waits' is_real next last last' h one m here real waiting = record {
  quiet = λ block i e o. quiet block i e o (cases_eq block b);
  last_on = λ block k e. h.last_on block k (was block k e);
  last_waits = λ block k e. let o : on block k ≡ true = h.last_on block k (was block k e) in other block k (apart block k e) o ∙ h.last_waits block k (was block k e);
  none_behind = λ block k j e. h.none_behind block k j (was block k e);
  real_one = λ block k e. let r = h.real_one block k (was block k e) in (r.0, r.1, r.2, other block r.0 (apart block k e) r.1 ∙ r.3);
  before = λ block i j oi r w oj low. before j (h.before block i j oi r (waited i w) oj low);
  after = λ block i j oi w oj low. other block j (λ f. gone block i f oi w) oj ∙ h.after block i j oi (waited i w) oj low;
  none = λ block i k o w. h.none block i k o (waited i w);
  later = λ block i k o w. h.later block i k o (waited i w);
  next_on = λ block i k o w. h.next_on block i k o (waited i w);
  between = λ block i k j o w. h.between block i k j o (waited i w);
}
  where
    apart : (block k : ℕ) → last' block ≡ Some k → block ≡ b → ⊥
    apart block k e f = none_some k (last' b) m.last_gone (ap last' (sym f) ∙ e)

    was : (block k : ℕ) → last' block ≡ Some k → last block ≡ Some k
    was block k e = sym (m.last_else block (apart block k e)) ∙ e

    other : (block j : ℕ) → (block ≡ b → ⊥) → on block j ≡ true → waits' j ≡ waits j
    other block j f o = m.waits_old j (λ low q. f (one block b j o q))

    settled : (j : ℕ) → on b j ≡ true → waits' j ≡ false
    settled j o = which (cases_lt j n)
      where
        which : (j < n) ⊎ (n ≤ j) → waits' j ≡ false
        which (inl low) = m.waits_old j (λ x. omega arith) ∙ h.before b n j here real waiting o low
        which (inr high) = m.waits_gone j high o

    gone : (block i : ℕ) → block ≡ b → on block i ≡ true → waits' i ≡ true → ⊥
    gone block i f o w = differ (waits' i) w (settled i (ap (λ x. on x i) (sym f) ∙ o))

    before : (j : ℕ) → waits j ≡ false → waits' j ≡ false
    before j w = stays (on b j) refl
      where
        stays : (x : Bool) → on b j ≡ x → waits' j ≡ false
        stays true e = settled j e
        stays false e = m.waits_old j (λ low q. differ (on b j) q e) ∙ w

    waited : (i : ℕ) → waits' i ≡ true → waits i ≡ true
    waited i w = is (waits i) refl
      where
        is : (x : Bool) → waits i ≡ x → waits i ≡ true
        is true e = e
        is false e = absurd (differ (waits' i) w (before i e))

    quiet : (block i : ℕ) → last' block ≡ None → on block i ≡ true → (block ≡ b) ⊎ (block ≡ b → ⊥) → waits' i ≡ false
    quiet block i e o (inl f) = settled i (ap (λ x. on x i) (sym f) ∙ o)
    quiet block i e o (inr f) = before i (h.quiet block i (sym (m.last_else block f) ∙ e) o)
