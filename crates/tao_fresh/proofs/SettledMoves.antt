-- How each event changes the settled values. The events `es` are newest first.
use Rattle.std.proofs.Common.{◌≡◌, ℕ, zero, suc, ◌<◌, ◌≤◌, Bool, true, false, ◌&&◌, ◌||◌, cond, List, [], ◌∷◌, reverse, length, refl, sym, ap, ◌∙◌, arith, inl, inr, ◌⊎◌, nat_eq}
use Rattle.std.proofs.lemmas.Bool.{cases_lt, lt-ltb, le-ltb, eq-eqb, ne_eqb, true≢false, and_from}
use Rattle.tao_base.specs.declared.calls.Op.{Op}
use Rattle.tao_base.specs.declared.session.Event.{Event}
use Rattle.tao_base.specs.declared.session.Event.TheVariants.{Arrive, Done, Issue, Acked, Fault}
use Rattle.tao_base.specs.declared.storage.Bucket.{Bucket}
use Rattle.tao_base.specs.Session.{Opening}
use Rattle.tao_base.specs.Array.{array_step, array_reply, block_at}
use Rattle.tao_model.specs.Events.{arrived, is_done, is_on, names}
use Rattle.tao_model.specs.Requests.{is_real}
use Rattle.tao_model.specs.Replies.{array_now, plain_reply}
use Rattle.tao_model.specs.Lawful.{FollowsLawfully}
use Rattle.tao_model.proofs.Stays.{on_stays, real_stays, reply_stays, newest_first}
use Rattle.tao_model.proofs.LawfulToWhole.{follows_opening}
use Rattle.tao_fresh.specs.FreshLaws.{SettledMoves, SettledStays, PlainBetween}
use Rattle.tao_model.proofs.Places.{done_arrived}
use Rattle.tao_model.proofs.RealArrivals.{free_means, real_newest, on_newest}
use Rattle.tao_laws.specs.SettledValues.{settled_value}
use Rattle.tao_laws.specs.OpenRequests.{IsOpen, IsQuiet}
use Rattle.tao_laws.proofs.OpenArrivals.{one_open}
use Rattle.tao_laws.proofs.RightValues.{right_from, step_other, reply_at, length_now}
use Rattle.tao_held.proofs.HeldAnswers.{op_at}
use Rattle.tao_held.proofs.Blocks.{named_newest, on_below}
use Rattle.tao_held.specs.Held.{op_value, value_since, value_between}

-- ---- a block has a real arrival under way or is quiet

open_or_none : (on real finished : ℕ → Bool) (n : ℕ)
    → ((k : ℕ) × (k < n) × (on k ≡ true) × (real k ≡ true) × (finished k ≡ false)) ⊎ ((k : ℕ) → k < n → on k ≡ true → real k ≡ true → finished k ≡ true)
open_or_none on real finished zero = inr (λ k low is_on is_real. absurd (omega arith))
open_or_none on real finished (suc n) = either (open_or_none on real finished n)
  where
    more : (on n ≡ true → real n ≡ true → finished n ≡ true) → ((k : ℕ) → k < n → on k ≡ true → real k ≡ true → finished k ≡ true)
        → (k : ℕ) → k < suc n → on k ≡ true → real k ≡ true → finished k ≡ true
    more here none k low p q = which (cases_lt k n)
      where
        which : (k < n) ⊎ (n ≤ k) → finished k ≡ true
        which (inl less) = none k less p q
        which (inr last) = let at : k ≡ n = omega arith in ap finished at ∙ here (ap on (sym at) ∙ p) (ap real (sym at) ∙ q)

    newest : (a b c : Bool) → on n ≡ a → real n ≡ b → finished n ≡ c → ((k : ℕ) → k < n → on k ≡ true → real k ≡ true → finished k ≡ true)
        → ((k : ℕ) × (k < suc n) × (on k ≡ true) × (real k ≡ true) × (finished k ≡ false)) ⊎ ((k : ℕ) → k < suc n → on k ≡ true → real k ≡ true → finished k ≡ true)
    newest true true false p q r none = inl (n, omega arith, p, q, r)
    newest true true true p q r none = inr (more (λ x y. r) none)
    newest true false c p q r none = inr (more (λ x y. absurd (true≢false (sym y ∙ q))) none)
    newest false b c p q r none = inr (more (λ x y. absurd (true≢false (sym x ∙ p))) none)

    either : ((k : ℕ) × (k < n) × (on k ≡ true) × (real k ≡ true) × (finished k ≡ false)) ⊎ ((k : ℕ) → k < n → on k ≡ true → real k ≡ true → finished k ≡ true)
        → ((k : ℕ) × (k < suc n) × (on k ≡ true) × (real k ≡ true) × (finished k ≡ false)) ⊎ ((k : ℕ) → k < suc n → on k ≡ true → real k ≡ true → finished k ≡ true)
    either (inl found) = let low = found.1 in inl (found.0, omega arith, found.2, found.3, found.4)
    either (inr none) = newest (on n) (real n) (finished n) refl refl refl none

open_or_quiet : (es : List Event) (block : ℕ) → ((i : ℕ) × IsOpen es block i) ⊎ IsQuiet es block
open_or_quiet es block = either (open_or_none (λ i. is_on es i block) (λ i. is_real es i) (λ i. is_done es i) (arrived es))
  where
    either : ((k : ℕ) × (k < arrived es) × (is_on es k block ≡ true) × (is_real es k ≡ true) × (is_done es k ≡ false)) ⊎ IsQuiet es block
        → ((i : ℕ) × IsOpen es block i) ⊎ IsQuiet es block
    either (inl k) = inl (k.0, record { arrived = k.1; on = k.2; real = k.3; under_way = k.4 })
    either (inr quiet) = inr quiet

-- ---- the plain array at one block

-- no arrival from number i on has come yet
since_low : (es : List Event) (block i : ℕ) (v : List ℕ) → arrived es ≤ i → value_since es block i v ≡ v
since_low [] block i v low = refl
since_low (Arrive client op word ∷ es) block i v low =
    ap (λ t. cond t v (op_value block op (value_since es block i v))) (lt-ltb (arrived es) i (omega arith))
since_low (Done arrival taken ∷ es) block i v low = since_low es block i v low
since_low (Issue version nonce buckets ∷ es) block i v low = since_low es block i v low
since_low (Acked version ∷ es) block i v low = since_low es block i v low
since_low (Fault cause ∷ es) block i v low = since_low es block i v low

since_newest : (es : List Event) (client : ℕ) (op : Op) (word block i : ℕ) (v : List ℕ) → i ≤ arrived es
    → value_since (Arrive client op word ∷ es) block i v ≡ op_value block op (value_since es block i v)
since_newest es client op word block i v high = ap (λ t. cond t v (op_value block op (value_since es block i v))) (le-ltb (arrived es) i high)

-- the newest arrival's plain reply
reply_newest : (o : Opening) (es : List Event) (client : ℕ) (op : Op) (word block i : ℕ) → i ≡ arrived es → names block op ≡ true
    → plain_reply o (Arrive client op word ∷ es) i ≡ block_at (array_now o es) block
reply_newest o es client op word block i at named =
    ap (λ t. cond t (array_reply (array_now o es) op) (plain_reply o es i)) (eq-eqb i (arrived es) at) ∙ reply_at (array_now o es) block op named

-- the array at the block is an arrival's reply after the operations from that arrival on
pub now_since : (o : Opening) (es : List Event) (block i : ℕ) → block < length o.first → i < arrived es → is_on es i block ≡ true
    → block_at (array_now o es) block ≡ value_since es block i (plain_reply o es i)
now_since o [] block i low there on = absurd (omega arith)
now_since o (Arrive client op word ∷ es) block i low there on = either (cases_lt i (arrived es))
    (λ older. now_since o es block i low older (sym (on_stays es (Arrive client op word) i block older) ∙ on))
  where
    grown : (r : List ℕ) → block_at (array_now o es) block ≡ value_since es block i r
        → block_at (array_step (array_now o es) op) block ≡ value_since (Arrive client op word ∷ es) block i r
    grown r before = op_at (array_now o es) block op (let long = length_now o es in omega (arith, long)) ∙ ap (op_value block op) before
        ∙ sym (since_newest es client op word block i r (omega arith))

    either : (i < arrived es) ⊎ (arrived es ≤ i) → (i < arrived es → block_at (array_now o es) block ≡ value_since es block i (plain_reply o es i))
        → block_at (array_step (array_now o es) op) block ≡ value_since (Arrive client op word ∷ es) block i (plain_reply o (Arrive client op word ∷ es) i)
    either (inl older) ih = grown (plain_reply o (Arrive client op word ∷ es) i)
        (ih older ∙ ap (value_since es block i) (sym (reply_stays o es (Arrive client op word) i older)))
    either (inr newest) ih =
        let at : i ≡ arrived es = omega arith in
        grown (plain_reply o (Arrive client op word ∷ es) i)
        (sym (reply_newest o es client op word block i at (named_newest es client op word block i at on))
        ∙ sym (since_low es block i (plain_reply o (Arrive client op word ∷ es) i) newest))
now_since o (Done arrival taken ∷ es) block i low there on = now_since o es block i low there on
now_since o (Issue version nonce buckets ∷ es) block i low there on = now_since o es block i low there on
now_since o (Acked version ∷ es) block i low there on = now_since o es block i low there on
now_since o (Fault cause ∷ es) block i low there on = now_since o es block i low there on

-- before arrival j, all arrivals count
between_low : (es : List Event) (block i j : ℕ) (v : List ℕ) → arrived es ≤ j → value_between es block i j v ≡ value_since es block i v
between_low [] block i j v low = refl
between_low (Arrive client op word ∷ es) block i j v low =
    ap (λ t. cond t (value_since (Arrive client op word ∷ es) block i v) (value_between es block i j v)) (lt-ltb (arrived es) j (omega arith))
between_low (Done arrival taken ∷ es) block i j v low = between_low es block i j v low
between_low (Issue version nonce buckets ∷ es) block i j v low = between_low es block i j v low
between_low (Acked version ∷ es) block i j v low = between_low es block i j v low
between_low (Fault cause ∷ es) block i j v low = between_low es block i j v low

pub plain_between_from : (o : Opening) (es : List Event) (block i j : ℕ) → block < length o.first → i ≤ j → j < arrived es → is_on es i block ≡ true → is_on es j block ≡ true
    → plain_reply o es j ≡ value_between es block i j (plain_reply o es i)
plain_between_from o [] block i j low le there on on_j = absurd (omega arith)
plain_between_from o (Arrive client op word ∷ es) block i j low le there on on_j = either (cases_lt j (arrived es))
    (λ older. plain_between_from o es block i j low le older (sym (on_stays es (Arrive client op word) i block (omega arith)) ∙ on) (sym (on_stays es (Arrive client op word) j block older) ∙ on_j))
  where
    passed : (r : List ℕ) → j ≤ arrived es → value_between es block i j r ≡ value_between (Arrive client op word ∷ es) block i j r
    passed r high = sym (ap (λ t. cond t (value_since (Arrive client op word ∷ es) block i r) (value_between es block i j r)) (le-ltb (arrived es) j high))

    -- the newest is j
    at_newest : j ≡ arrived es → (i < arrived es) ⊎ (arrived es ≤ i)
        → plain_reply o (Arrive client op word ∷ es) j ≡ value_between es block i j (plain_reply o (Arrive client op word ∷ es) i)
    at_newest at (inl older) =
        reply_newest o es client op word block j at (named_newest es client op word block j at on_j)
        ∙ now_since o es block i low older (sym (on_stays es (Arrive client op word) i block older) ∙ on)
        ∙ ap (value_since es block i) (sym (reply_stays o es (Arrive client op word) i older))
        ∙ sym (between_low es block i j (plain_reply o (Arrive client op word ∷ es) i) (omega arith))
    at_newest at (inr newest) =
        let same : j ≡ i = omega arith in
        ap (plain_reply o (Arrive client op word ∷ es)) same
        ∙ sym (since_low es block i (plain_reply o (Arrive client op word ∷ es) i) newest)
        ∙ sym (between_low es block i j (plain_reply o (Arrive client op word ∷ es) i) (omega arith))

    either : (j < arrived es) ⊎ (arrived es ≤ j) → (j < arrived es → plain_reply o es j ≡ value_between es block i j (plain_reply o es i))
        → plain_reply o (Arrive client op word ∷ es) j ≡ value_between (Arrive client op word ∷ es) block i j (plain_reply o (Arrive client op word ∷ es) i)
    either (inl older) ih = reply_stays o es (Arrive client op word) j older ∙ ih older
        ∙ ap (value_between es block i j) (sym (reply_stays o es (Arrive client op word) i (omega arith)))
        ∙ passed (plain_reply o (Arrive client op word ∷ es) i) (omega arith)
    either (inr newest) ih = at_newest (omega arith) (cases_lt i (arrived es)) ∙ passed (plain_reply o (Arrive client op word ∷ es) i) (omega arith)
plain_between_from o (Done arrival taken ∷ es) block i j low le there on on_j = plain_between_from o es block i j low le there on on_j
plain_between_from o (Issue version nonce buckets ∷ es) block i j low le there on on_j = plain_between_from o es block i j low le there on on_j
plain_between_from o (Acked version ∷ es) block i j low le there on on_j = plain_between_from o es block i j low le there on on_j
plain_between_from o (Fault cause ∷ es) block i j low le there on on_j = plain_between_from o es block i j low le there on on_j

-- ---- the settled value at a Done

-- the real arrival's own block
pub settled_real : (o : Opening) (es : List Event) (i : ℕ) (taken : List Bucket) (block : ℕ) → block < length o.first → IsOpen es block i
    → settled_value o (Done i taken ∷ es) block ≡ value_since es block i (settled_value o es block)
settled_real o es i taken block low h =
    (right_from o (Done i taken ∷ es) block).quiet quiet ∙ now_since o es block i low h.arrived h.on ∙ ap (value_since es block i) (sym ((right_from o es block).open_one i h))
  where
    quiet : IsQuiet (Done i taken ∷ es) block
    quiet k there on real = either (is_done es k) refl
      where
        either : (t : Bool) → is_done es k ≡ t → (nat_eq i k || is_done es k) ≡ true
        either true done = ap (λ t. nat_eq i k || t) done ∙ later (nat_eq i k)
          where
            later : (t : Bool) → (t || true) ≡ true
            later true = refl
            later false = refl
        either false open_too =
            ap (λ t. t || is_done es k) (eq-eqb i k (one_open es block i k h (record { arrived = there; on = on; real = real; under_way = open_too })))

-- any other block
pub settled_other : (o : Opening) (es : List Event) (i : ℕ) (taken : List Bucket) (block : ℕ) → (is_real es i && is_on es i block) ≡ false
    → settled_value o (Done i taken ∷ es) block ≡ settled_value o es block
settled_other o es i taken block other = either (open_or_quiet es block)
  where
    later : (x y : Bool) → y ≡ true → (x || y) ≡ true
    later true y e = refl
    later false y e = e

    either : ((k : ℕ) × IsOpen es block k) ⊎ IsQuiet es block → settled_value o (Done i taken ∷ es) block ≡ settled_value o es block
    either (inl k) =
        let h = k.1 in
        let apart : nat_eq i k.0 ≡ false = ne_eqb i k.0 (λ same. true≢false (sym (and_from (is_real es i) (is_on es i block) (ap (is_real es) same ∙ h.real) (ap (λ a. is_on es a block) same ∙ h.on)) ∙ other)) in
        (right_from o (Done i taken ∷ es) block).open_one k.0
        (record { arrived = h.arrived; on = h.on; real = h.real; under_way = ap (λ t. t || is_done es k.0) apart ∙ h.under_way })
        ∙ sym ((right_from o es block).open_one k.0 h)
    either (inr quiet) = (right_from o (Done i taken ∷ es) block).quiet (λ a there on real. later (nat_eq i a) (is_done es a) (quiet a there on real))
        ∙ sym ((right_from o es block).quiet quiet)

-- ---- at an arrival

pub settled_arrive : (o : Opening) (es : List Event) (client : ℕ) (op : Op) (word block : ℕ) → FollowsLawfully o es
    → settled_value o (Arrive client op word ∷ es) block ≡ settled_value o es block
settled_arrive o es client op word block f = either (open_or_quiet es block)
  where
    at_quiet : IsQuiet es block → (t : Bool) → names block op ≡ t → settled_value o (Arrive client op word ∷ es) block ≡ block_at (array_now o es) block
    at_quiet quiet true named =
        (right_from o (Arrive client op word ∷ es) block).open_one (arrived es) (record {
          arrived = omega arith;
          on = on_newest es client op word block ∙ named;
          real = real_newest es client op word ∙ (free_means (is_on es) (is_real es) (is_done es) (arrived es) block op named).1 quiet;
          under_way = done_arrived o es (arrived es) f (omega arith);
        })
        ∙ reply_newest o es client op word block (arrived es) refl named
    at_quiet quiet false other = (right_from o (Arrive client op word ∷ es) block).quiet (λ k there on real. still k there on real (cases_lt k (arrived es)))
        ∙ step_other (array_now o es) block op other
      where
        still : (k : ℕ) → k < arrived (Arrive client op word ∷ es) → is_on (Arrive client op word ∷ es) k block ≡ true → is_real (Arrive client op word ∷ es) k ≡ true
            → (k < arrived es) ⊎ (arrived es ≤ k) → is_done es k ≡ true
        still k there on real (inl older) =
            quiet k older (sym (on_stays es (Arrive client op word) k block older) ∙ on) (sym (real_stays es (Arrive client op word) k older) ∙ real)
        still k there on real (inr newest) = absurd (true≢false (sym (named_newest es client op word block k (omega arith) on) ∙ other))

    either : ((k : ℕ) × IsOpen es block k) ⊎ IsQuiet es block → settled_value o (Arrive client op word ∷ es) block ≡ settled_value o es block
    either (inl k) =
        let h = k.1 in
        let low = h.arrived in
        (right_from o (Arrive client op word ∷ es) block).open_one k.0 (record {
          arrived = omega arith;
          on = on_stays es (Arrive client op word) k.0 block low ∙ h.on;
          real = real_stays es (Arrive client op word) k.0 low ∙ h.real;
          under_way = h.under_way;
        })
        ∙ reply_stays o es (Arrive client op word) k.0 low ∙ sym ((right_from o es block).open_one k.0 h)
    either (inr quiet) = at_quiet quiet (names block op) refl ∙ sym ((right_from o es block).quiet quiet)

-- ---- the laws

pub on_first : (o : Opening) (es : List Event) (i block : ℕ) → FollowsLawfully o es → i < arrived es → is_on es i block ≡ true → block < length o.first
on_first o es i block f there on = let opening = follows_opening o es f in let long = opening.blocks in let low = on_below o es i block f there on in omega (arith, long)

pub settled_moves : SettledMoves
settled_moves o events i taken = rw (newest_first events (Done i taken)) (λ f. record {
  own = λ block real on. settled_real o (reverse events) i taken block (on_first o (reverse events) i block f.0 f.2.1.arrived on)
      (record { arrived = f.2.1.arrived; on = on; real = real; under_way = f.2.1.under_way });
  other = λ block other. settled_other o (reverse events) i taken block other;
})

pub settled_stays : SettledStays
settled_stays o events client op word block = rw (newest_first events (Arrive client op word)) (λ f. settled_arrive o (reverse events) client op word block f.0)

pub plain_between : PlainBetween
plain_between o events block i j f le there on on_j =
    plain_between_from o (reverse events) block i j (on_first o (reverse events) j block f there on_j) le there on on_j
