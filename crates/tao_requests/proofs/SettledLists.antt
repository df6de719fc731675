-- Settling from a number on: one more request, and skipping requests on other blocks.
use Rattle.std.proofs.Common.{◌≡◌, ℕ, zero, suc, ◌+◌, ◌<◌, ◌≤◌, Bool, true, false, List, [], ◌∷◌, length, map, refl, ap, sym, ◌∙◌, arith, inl, inr, ◌⊎◌}
use Rattle.std.proofs.Math.ListN.{set}
use Rattle.std.proofs.lemmas.Bool.{true≢false, cases_lt}
use Rattle.tao_requests.specs.declared.request.Request.{Request}
use Rattle.tao_model.specs.Events.{names}
use Rattle.tao_requests.specs.State.{request_at}
use Rattle.tao_requests.specs.Settling.{answered, value_after, settled_from, value_from}
use Rattle.tao_requests.specs.Queues.{is_on_at}

pub on_within : (block n : ℕ) (rs : List Request) → is_on_at rs block n ≡ true → n < length rs
on_within block n [] h = absurd (true≢false (sym h))
on_within block zero (r ∷ rs) h = omega arith
on_within block (suc n) (r ∷ rs) h = omega (arith, on_within block n rs h)

-- a request on the block is answered, and the rest is settled from the value after it
pub settled_on : (n block : ℕ) (v : List ℕ) (rs : List Request) → is_on_at rs block n ≡ true
    → settled_from n block v rs ≡ settled_from (suc n) block (value_after v (request_at rs n).op) (set rs n (answered (request_at rs n) v))
settled_on n block v [] on = absurd (true≢false (sym on))
settled_on zero block v (r ∷ rs) on = rw on refl
settled_on (suc n) block v (r ∷ rs) on = ap (λ list. r ∷ list) (settled_on n block v rs on)

pub value_on : (n block : ℕ) (v : List ℕ) (rs : List Request) → is_on_at rs block n ≡ true
    → value_from n block v rs ≡ value_from (suc n) block (value_after v (request_at rs n).op) (set rs n (answered (request_at rs n) v))
value_on n block v [] on = absurd (true≢false (sym on))
value_on zero block v (r ∷ rs) on = rw on refl
value_on (suc n) block v (r ∷ rs) on = value_on n block v rs on

-- a request on another block is unchanged
pub settled_other : (n block : ℕ) (v : List ℕ) (rs : List Request) → is_on_at rs block n ≡ false → settled_from n block v rs ≡ settled_from (suc n) block v rs
settled_other zero block v [] off = refl
settled_other (suc n) block v [] off = refl
settled_other zero block v (r ∷ rs) off = rw off refl
settled_other (suc n) block v (r ∷ rs) off = ap (λ list. r ∷ list) (settled_other n block v rs off)

pub value_other : (n block : ℕ) (v : List ℕ) (rs : List Request) → is_on_at rs block n ≡ false → value_from n block v rs ≡ value_from (suc n) block v rs
value_other zero block v [] off = refl
value_other (suc n) block v [] off = refl
value_other zero block v (r ∷ rs) off = rw off refl
value_other (suc n) block v (r ∷ rs) off = value_other n block v rs off

-- the same for all requests up to the next one on the block
pub settled_up_to : (more n block : ℕ) (v : List ℕ) (rs : List Request) → ((m : ℕ) → n ≤ m → m < n + more → is_on_at rs block m ≡ false)
    → settled_from n block v rs ≡ settled_from (n + more) block v rs
settled_up_to zero n block v rs off = let same : n + 0 ≡ n = omega arith in rw same refl
settled_up_to (suc more) n block v rs off =
    let same : n + suc more ≡ suc n + more = omega arith in
    settled_other n block v rs (off n (omega arith) (omega arith))
    ∙ (settled_up_to more (suc n) block v rs (λ m low high. off m (omega arith) (omega arith))
    ∙ ap (λ k. settled_from k block v rs) (sym same))

pub value_up_to : (more n block : ℕ) (v : List ℕ) (rs : List Request) → ((m : ℕ) → n ≤ m → m < n + more → is_on_at rs block m ≡ false)
    → value_from n block v rs ≡ value_from (n + more) block v rs
value_up_to zero n block v rs off = let same : n + 0 ≡ n = omega arith in rw same refl
value_up_to (suc more) n block v rs off =
    let same : n + suc more ≡ suc n + more = omega arith in
    value_other n block v rs (off n (omega arith) (omega arith))
    ∙ (value_up_to more (suc n) block v rs (λ m low high. off m (omega arith) (omega arith))
    ∙ ap (λ k. value_from k block v rs) (sym same))

-- past the last request nothing is settled
pub settled_past : (n block : ℕ) (v : List ℕ) (rs : List Request) → length rs ≤ n → settled_from n block v rs ≡ rs
settled_past zero block v [] h = refl
settled_past (suc n) block v [] h = refl
settled_past zero block v (r ∷ rs) h = absurd (omega arith)
settled_past (suc n) block v (r ∷ rs) h = ap (λ list. r ∷ list) (settled_past n block v rs (omega arith))

pub value_past : (n block : ℕ) (v : List ℕ) (rs : List Request) → length rs ≤ n → value_from n block v rs ≡ v
value_past zero block v [] h = refl
value_past (suc n) block v [] h = refl
value_past zero block v (r ∷ rs) h = absurd (omega arith)
value_past (suc n) block v (r ∷ rs) h = value_past n block v rs (omega arith)

-- no request on the block is left
pub settled_none : (n block : ℕ) (v : List ℕ) (rs : List Request) → ((m : ℕ) → n ≤ m → is_on_at rs block m ≡ false) → settled_from n block v rs ≡ rs
settled_none n block v rs off = settled_up_to (length rs) n block v rs (λ m low high. off m low) ∙ settled_past (n + length rs) block v rs (omega arith)

pub value_none : (n block : ℕ) (v : List ℕ) (rs : List Request) → ((m : ℕ) → n ≤ m → is_on_at rs block m ≡ false) → value_from n block v rs ≡ v
value_none n block v rs off = value_up_to (length rs) n block v rs (λ m low high. off m low) ∙ value_past (n + length rs) block v rs (omega arith)

-- ---- one request of the settled list

-- a request on another block, or before the first, is unchanged
pub settled_off : (n block : ℕ) (v : List ℕ) (rs : List Request) (j : ℕ) → (n ≤ j → is_on_at rs block j ≡ true → ⊥) → request_at (settled_from n block v rs) j ≡ request_at rs j
settled_off zero block v [] j h = refl
settled_off (suc n) block v [] j h = refl
settled_off zero block v (r ∷ rs) zero h = off (names block r.op) refl
  where
    off : (x : Bool) → names block r.op ≡ x → request_at (settled_from zero block v (r ∷ rs)) zero ≡ r
    off true e = absurd (h (omega arith) e)
    off false e = rw e refl
settled_off zero block v (r ∷ rs) (suc j) h = off (λ w. settled_off zero block w rs j (λ low on. h (omega arith) on)) (names block r.op) refl
  where
    off : ((w : List ℕ) → request_at (settled_from zero block w rs) j ≡ request_at rs j) → (x : Bool) → names block r.op ≡ x
        → request_at (settled_from zero block v (r ∷ rs)) (suc j) ≡ request_at rs j
    off ih true e = rw e (ih (value_after v r.op))
    off ih false e = rw e (ih v)
settled_off (suc n) block v (r ∷ rs) zero h = refl
settled_off (suc n) block v (r ∷ rs) (suc j) h = settled_off n block v rs j (λ low on. h (omega arith) on)

-- a request on the block, from the first on, has an answer
pub settled_there : (n block : ℕ) (v : List ℕ) (rs : List Request) (j : ℕ) → n ≤ j → is_on_at rs block j ≡ true
    → (w : List ℕ) × (request_at (settled_from n block v rs) j ≡ answered (request_at rs j) w)
settled_there n block v [] j low on = absurd (true≢false (sym on))
settled_there zero block v (r ∷ rs) zero low on = (v, rw on refl)
settled_there zero block v (r ∷ rs) (suc j) low on = there (λ w. settled_there zero block w rs j (omega arith) on) (names block r.op) refl
  where
    there : ((u : List ℕ) → (w : List ℕ) × (request_at (settled_from zero block u rs) j ≡ answered (request_at rs j) w)) → (x : Bool) → names block r.op ≡ x
        → (w : List ℕ) × (request_at (settled_from zero block v (r ∷ rs)) (suc j) ≡ answered (request_at rs j) w)
    there ih true e = rw e (ih (value_after v r.op))
    there ih false e = rw e (ih v)
settled_there (suc n) block v (r ∷ rs) zero low on = absurd (omega arith)
settled_there (suc n) block v (r ∷ rs) (suc j) low on = settled_there n block v rs j (omega arith) on

-- operation and kind are unchanged
pub record IsSameBut (new old : Request) : Type 0 where
  pub op : new.op ≡ old.op
  pub kind : new.kind ≡ old.kind

pub settled_same : (n block : ℕ) (v : List ℕ) (rs : List Request) (j : ℕ) → IsSameBut (request_at (settled_from n block v rs) j) (request_at rs j)
settled_same n block v rs j = which (cases_lt j n) (is_on_at rs block j) refl
  where
    which : (j < n) ⊎ (n ≤ j) → (x : Bool) → is_on_at rs block j ≡ x → IsSameBut (request_at (settled_from n block v rs) j) (request_at rs j)
    which (inl low) x e = let is = settled_off n block v rs j (λ high on. omega arith) in record { op = ap (λ r. r.op) is; kind = ap (λ r. r.kind) is }
    which (inr high) true e = let is = settled_there n block v rs j high e in record { op = ap (λ r. r.op) is.1; kind = ap (λ r. r.kind) is.1 }
    which (inr high) false e = let is = settled_off n block v rs j (λ low on. true≢false (sym on ∙ e)) in record { op = ap (λ r. r.op) is; kind = ap (λ r. r.kind) is }

pub settled_len : (n block : ℕ) (v : List ℕ) (rs : List Request) → length (settled_from n block v rs) ≡ length rs
settled_len zero block v [] = refl
settled_len (suc n) block v [] = refl
settled_len zero block v (r ∷ rs) = len (λ w. settled_len zero block w rs) (names block r.op) refl
  where
    len : ((w : List ℕ) → length (settled_from zero block w rs) ≡ length rs) → (x : Bool) → names block r.op ≡ x
        → length (settled_from zero block v (r ∷ rs)) ≡ length (r ∷ rs)
    len ih true e = rw e (ap suc (ih (value_after v r.op)))
    len ih false e = rw e (ap suc (ih v))
settled_len (suc n) block v (r ∷ rs) = ap suc (settled_len n block v rs)

pub settled_ops : (n block : ℕ) (v : List ℕ) (rs : List Request) → map (λ r. r.op) (settled_from n block v rs) ≡ map (λ r. r.op) rs
settled_ops zero block v [] = refl
settled_ops (suc n) block v [] = refl
settled_ops zero block v (r ∷ rs) = same (λ w. settled_ops zero block w rs) (names block r.op) refl
  where
    same : ((w : List ℕ) → map (λ q. q.op) (settled_from zero block w rs) ≡ map (λ q. q.op) rs) → (x : Bool) → names block r.op ≡ x
        → map (λ q. q.op) (settled_from zero block v (r ∷ rs)) ≡ map (λ q. q.op) (r ∷ rs)
    same ih true e = rw e (ap (λ l. r.op ∷ l) (ih (value_after v r.op)))
    same ih false e = rw e (ap (λ l. r.op ∷ l) (ih v))
settled_ops (suc n) block v (r ∷ rs) = ap (λ l. r.op ∷ l) (settled_ops n block v rs)
