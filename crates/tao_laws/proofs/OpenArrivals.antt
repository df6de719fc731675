-- Real arrivals under way, and what waits for them. The events `es` are newest first.
use Rattle.std.proofs.Common.{◌≡◌, ℕ, ◌+◌, ◌<◌, ◌≤◌, true, false, List, [], ◌∷◌, reverse, Some, refl, sym, ap, ◌∙◌, subst, arith, inl, inr, ◌⊎◌, nat_lt}
use Rattle.std.proofs.lemmas.Bool.{cases_lt, cases_order, eq-eqb, lt-ltb, le-ltb, true≢false, and_parts, and_from, or_left, or_right, or_from}
use Rattle.std.proofs.lemmas.List.{reverse-reverse}
use Rattle.tao_base.specs.declared.calls.Op.{Op}
use Rattle.tao_base.specs.declared.calls.Op.TheVariants.{Read, Write, Pad}
use Rattle.tao_base.specs.declared.session.Event.{Event}
use Rattle.tao_base.specs.declared.session.Event.TheVariants.{Arrive, Done, Issue, Acked, Fault}
use Rattle.tao_model.specs.Greatest.{IsLast}
use Rattle.tao_model.specs.Events.{arrived, is_done, is_on, is_pad, is_pad_op, names}
use Rattle.tao_model.specs.Requests.{is_real, settler, is_settled}
use Rattle.tao_model.specs.Replies.{released}
use Rattle.tao_model.specs.LookBacks.{is_real_on}
use Rattle.tao_model.proofs.Stays.{on_stays, pad_stays}
use Rattle.tao_model.proofs.Growth.{leading_is}
use Rattle.tao_model.proofs.RealArrivals.{earlier_done, on_newest}
use Rattle.tao_model.proofs.LastReal.{settler_is_last}
use Rattle.tao_laws.specs.OpenRequests.{IsOpen, IsQuiet, OneReal, IsQueueFrom, QueueOfBlock, QuietIsSettled, ReleasedIsSettled}

-- ---- at most one real arrival is open

-- no later arrival on the block of an open one is real
open_is_last : (es : List Event) (block i j : ℕ) → IsOpen es block i → i < j → j < arrived es → is_on es j block ≡ true → is_real es j ≡ true → ⊥
open_is_last es block i j h less there on real = true≢false (sym (earlier_done es j i block there on real less h.on h.real) ∙ h.under_way)

pub one_open : (es : List Event) (block i j : ℕ) → IsOpen es block i → IsOpen es block j → i ≡ j
one_open es block i j h k = either (cases_order i j)
  where
    either : (i ≡ j) ⊎ ((i < j) ⊎ (j < i)) → i ≡ j
    either (inl same) = same
    either (inr (inl less)) = absurd (open_is_last es block i j h less k.arrived k.on k.real)
    either (inr (inr more)) = absurd (open_is_last es block j i k more h.arrived h.on h.real)

pub one_real : OneReal
one_real events block i j h k = one_open (reverse events) block i j h k

-- ---- an arrival is a pad or on a block

pub on_no_pad : (block : ℕ) (op : Op) → names block op ≡ true → is_pad_op op ≡ false
on_no_pad block (Read id) h = refl
on_no_pad block (Write id value) h = refl
on_no_pad block Pad h = absurd (true≢false (sym h))

pad_newest : (es : List Event) (client : ℕ) (op : Op) (word : ℕ) → is_pad (Arrive client op word ∷ es) (arrived es) ≡ is_pad_op op
pad_newest es client op word = rw (eq-eqb (arrived es) (arrived es) refl) refl

pub no_pad : (es : List Event) (i block : ℕ) → i < arrived es → is_on es i block ≡ true → is_pad es i ≡ false
no_pad [] i block there on = absurd (omega arith)
no_pad (Arrive client op word ∷ es) i block there on = either (cases_lt i (arrived es)) (λ older. no_pad es i block older (sym (on_stays es (Arrive client op word) i block older) ∙ on))
  where
    either : (i < arrived es) ⊎ (arrived es ≤ i) → (i < arrived es → is_pad es i ≡ false) → is_pad (Arrive client op word ∷ es) i ≡ false
    either (inl older) ih = pad_stays es (Arrive client op word) i older ∙ ih older
    either (inr newest) ih =
        let at : i ≡ arrived es = omega arith in
        let named : names block op ≡ true = sym (on_newest es client op word block) ∙ ap (λ k. is_on (Arrive client op word ∷ es) k block) (sym at) ∙ on in
        ap (is_pad (Arrive client op word ∷ es)) at ∙ pad_newest es client op word ∙ on_no_pad block op named
no_pad (Done arrival taken ∷ es) i block there on = no_pad es i block there on
no_pad (Issue version nonce buckets ∷ es) i block there on = no_pad es i block there on
no_pad (Acked version ∷ es) i block there on = no_pad es i block there on
no_pad (Fault cause ∷ es) i block there on = no_pad es i block there on

pad_or_named : (op : Op) → (is_pad_op op ≡ true) ⊎ ((block : ℕ) × (names block op ≡ true))
pad_or_named (Read id) = inr (id, eq-eqb id id refl)
pad_or_named (Write id value) = inr (id, eq-eqb id id refl)
pad_or_named Pad = inl refl

pub pad_or_on : (es : List Event) (i : ℕ) → i < arrived es → (is_pad es i ≡ true) ⊎ ((block : ℕ) × (is_on es i block ≡ true))
pad_or_on [] i there = absurd (omega arith)
pad_or_on (Arrive client op word ∷ es) i there = either (cases_lt i (arrived es)) (λ older. pad_or_on es i older)
  where
    older_one : i < arrived es → (is_pad es i ≡ true) ⊎ ((block : ℕ) × (is_on es i block ≡ true))
        → (is_pad (Arrive client op word ∷ es) i ≡ true) ⊎ ((block : ℕ) × (is_on (Arrive client op word ∷ es) i block ≡ true))
    older_one older (inl pad) = inl (pad_stays es (Arrive client op word) i older ∙ pad)
    older_one older (inr on) = inr (on.0, on_stays es (Arrive client op word) i on.0 older ∙ on.1)

    newest_one : i ≡ arrived es → (is_pad_op op ≡ true) ⊎ ((block : ℕ) × (names block op ≡ true))
        → (is_pad (Arrive client op word ∷ es) i ≡ true) ⊎ ((block : ℕ) × (is_on (Arrive client op word ∷ es) i block ≡ true))
    newest_one at (inl pad) = inl (ap (is_pad (Arrive client op word ∷ es)) at ∙ pad_newest es client op word ∙ pad)
    newest_one at (inr on) = inr (on.0, ap (λ k. is_on (Arrive client op word ∷ es) k on.0) at ∙ on_newest es client op word on.0 ∙ on.1)

    either : (i < arrived es) ⊎ (arrived es ≤ i) → (i < arrived es → (is_pad es i ≡ true) ⊎ ((block : ℕ) × (is_on es i block ≡ true)))
        → (is_pad (Arrive client op word ∷ es) i ≡ true) ⊎ ((block : ℕ) × (is_on (Arrive client op word ∷ es) i block ≡ true))
    either (inl older) ih = older_one older (ih older)
    either (inr newest) ih = newest_one (omega arith) (pad_or_named op)
pad_or_on (Done arrival taken ∷ es) i there = pad_or_on es i there
pad_or_on (Issue version nonce buckets ∷ es) i there = pad_or_on es i there
pad_or_on (Acked version ∷ es) i there = pad_or_on es i there
pad_or_on (Fault cause ∷ es) i there = pad_or_on es i there

-- ---- what settles an arrival

-- the settler is real and on the block, and no real arrival on the block is between
pub settles : (es : List Event) (j block : ℕ) → j < arrived es → is_on es j block ≡ true → IsLast (is_real_on es block) (j + 1) (Some (settler es j))
settles es j block there on =
    subst (λ l. IsLast (is_real_on l block) (j + 1) (Some (settler l j))) (reverse-reverse es)
    (settler_is_last (reverse es) j block (subst (λ l. j < arrived l) (sym (reverse-reverse es)) there) (subst (λ l. is_on l j block ≡ true) (sym (reverse-reverse es)) on))

-- a settler is real and on the block
pub settler_real_on : (es : List Event) (j block : ℕ) → j < arrived es → is_on es j block ≡ true → (is_real es (settler es j) ≡ true) × (is_on es (settler es j) block ≡ true)
settler_real_on es j block there on = and_parts (is_real es (settler es j)) (is_on es (settler es j) block) (settles es j block there on).1

waits_for : (es : List Event) (block i j : ℕ) → IsOpen es block i → j < arrived es → is_on es j block ≡ true → i ≤ j → settler es j ≡ i
waits_for es block i j h there on le = either (cases_order (settler es j) i)
  where
    either : (settler es j ≡ i) ⊎ ((settler es j < i) ⊎ (i < settler es j)) → settler es j ≡ i
    either (inl same) = same
    either (inr (inl less)) = absurd (true≢false (sym (and_from (is_real es i) (is_on es i block) h.real h.on) ∙ (settles es j block there on).2 i less (omega arith)))
    either (inr (inr more)) =
        let within = (settles es j block there on).0 in
        let real_on = settler_real_on es j block there on in
        absurd (open_is_last es block i (settler es j) h more (omega arith) real_on.1 real_on.0)

settled_before : (es : List Event) (block i j : ℕ) → IsOpen es block i → j < arrived es → is_on es j block ≡ true → is_settled es j ≡ nat_lt j i
settled_before es block i j h there on = either (cases_lt j i)
  where
    either : (j < i) ⊎ (i ≤ j) → is_settled es j ≡ nat_lt j i
    either (inl before) =
        let within = (settles es j block there on).0 in
        let real_on = settler_real_on es j block there on in
        or_right (is_pad es j) (is_done es (settler es j)) (earlier_done es i (settler es j) block h.arrived h.on h.real (omega arith) real_on.1 real_on.0)
        ∙ sym (lt-ltb j i before)
    either (inr behind) =
        or_from (is_pad es j) (is_done es (settler es j)) (no_pad es j block there on) (ap (is_done es) (waits_for es block i j h there on behind) ∙ h.under_way)
        ∙ sym (le-ltb j i behind)

pub queue_from : (es : List Event) (block i : ℕ) → IsOpen es block i → IsQueueFrom es block i
queue_from es block i h = record {
  waits = λ j there on le. waits_for es block i j h there on le;
  settled = λ j there on. settled_before es block i j h there on;
}

pub queue_of_block : QueueOfBlock
queue_of_block events block i h = queue_from (reverse events) block i h

pub quiet_settled : (es : List Event) (block i : ℕ) → IsQuiet es block → i < arrived es → is_on es i block ≡ true → is_settled es i ≡ true
quiet_settled es block i quiet there on =
    let within = (settles es i block there on).0 in
    let real_on = settler_real_on es i block there on in
    or_right (is_pad es i) (is_done es (settler es i)) (quiet (settler es i) (omega arith) real_on.1 real_on.0)

pub quiet_is_settled : QuietIsSettled
quiet_is_settled events block i quiet there on = quiet_settled (reverse events) block i quiet there on

-- ---- released

pub released_from : (es : List Event) (i : ℕ) → i < released es → is_settled es i ≡ true
released_from es i h = either (pad_or_on es i there)
  where
    there : i < arrived es
    there = let within = (leading_is (is_done es) (arrived es)).within in omega arith

    either : (is_pad es i ≡ true) ⊎ ((block : ℕ) × (is_on es i block ≡ true)) → is_settled es i ≡ true
    either (inl pad) = or_left (is_pad es i) (is_done es (settler es i)) pad
    either (inr on) =
        let within = (settles es i on.0 there on.1).0 in
        or_right (is_pad es i) (is_done es (settler es i)) ((leading_is (is_done es) (arrived es)).below (settler es i) (omega arith))

pub released_is_settled : ReleasedIsSettled
released_is_settled events i h = released_from (reverse events) i h
