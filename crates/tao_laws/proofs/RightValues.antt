-- The settled value of a block and the plain array. The events `es` are newest first.
use Rattle.std.proofs.Common.{◌≡◌, ℕ, ◌<◌, ◌≤◌, Bool, true, false, cond, List, [], ◌∷◌, reverse, length, set, refl, sym, ap, ◌∙◌, arith, inl, inr, ◌⊎◌, nat_lt}
use Rattle.std.proofs.lemmas.Bool.{cases_lt, cases_eq, lt-ltb, le-ltb, eqb-true, eq-eqb, true≢false}
use Rattle.std.proofs.lemmas.List.{length-set, get_or-set_same, get_or-set_other, get_or_past}
use Rattle.tao_base.specs.declared.calls.Op.{Op}
use Rattle.tao_base.specs.declared.calls.Op.TheVariants.{Read, Write, Pad}
use Rattle.tao_base.specs.declared.session.Event.{Event}
use Rattle.tao_base.specs.declared.session.Event.TheVariants.{Arrive, Done, Issue, Acked, Fault}
use Rattle.tao_base.specs.Session.{Opening}
use Rattle.tao_base.specs.Array.{array_step, array_reply, block_at}
use Rattle.tao_model.specs.Events.{arrived, is_on, names}
use Rattle.tao_model.specs.Requests.{is_settled}
use Rattle.tao_model.specs.Replies.{array_now, plain_reply}
use Rattle.tao_model.proofs.Stays.{on_stays, reply_stays}
use Rattle.tao_model.proofs.RealArrivals.{on_newest}
use Rattle.tao_model.proofs.PlainArrays.{length_step}
use Rattle.tao_laws.specs.SettledValues.{array_where}
use Rattle.tao_laws.specs.OpenRequests.{IsRightValue, RightValue}
use Rattle.tao_laws.proofs.OpenArrivals.{queue_from, quiet_settled}

-- ---- one step of the array, at one block

put_alike : (xs ys : List (List ℕ)) (id block : ℕ) (value : List ℕ) → length xs ≡ length ys → block_at xs block ≡ block_at ys block → block_at (set xs id value) block ≡ block_at (set ys id value) block
put_alike xs ys id block value len h = either (cases_eq id block) (cases_lt block (length xs))
  where
    either : (id ≡ block) ⊎ (id ≡ block → ⊥) → (block < length xs) ⊎ (length xs ≤ block) → block_at (set xs id value) block ≡ block_at (set ys id value) block
    either (inr other) within = get_or-set_other xs id block value [] (λ same. other (sym same)) ∙ h ∙ sym (get_or-set_other ys id block value [] (λ same. other (sym same)))
    either (inl same) (inl within) = rw same (get_or-set_same xs block value [] within ∙ sym (get_or-set_same ys block value [] (omega (arith, len))))
    either (inl same) (inr past) =
        let long = length-set xs id value in
        let long_too = length-set ys id value in
        get_or_past (set xs id value) block [] (omega arith) ∙ sym (get_or_past (set ys id value) block [] (omega (arith, len)))

step_alike : (xs ys : List (List ℕ)) (block : ℕ) (op : Op) → length xs ≡ length ys → block_at xs block ≡ block_at ys block → block_at (array_step xs op) block ≡ block_at (array_step ys op) block
step_alike xs ys block (Read id) len h = h
step_alike xs ys block (Write id value) len h = put_alike xs ys id block value len h
step_alike xs ys block Pad len h = h

pub step_other : (xs : List (List ℕ)) (block : ℕ) (op : Op) → names block op ≡ false → block_at (array_step xs op) block ≡ block_at xs block
step_other xs block (Read id) h = refl
step_other xs block (Write id value) h = get_or-set_other xs id block value [] (λ same. true≢false (sym (eq-eqb id block (sym same)) ∙ h))
step_other xs block Pad h = refl

-- an operation on another block, whether it passes or not
either_other : (t : Bool) (xs : List (List ℕ)) (block : ℕ) (op : Op) → names block op ≡ false → block_at (cond t (array_step xs op) xs) block ≡ block_at xs block
either_other true xs block op h = step_other xs block op h
either_other false xs block op h = refl

pub reply_at : (xs : List (List ℕ)) (block : ℕ) (op : Op) → names block op ≡ true → array_reply xs op ≡ block_at xs block
reply_at xs block (Read id) h = ap (block_at xs) (eqb-true id block h)
reply_at xs block (Write id value) h = ap (block_at xs) (eqb-true id block h)
reply_at xs block Pad h = absurd (true≢false (sym h))

-- ---- lengths

length_where : (passes : ℕ → Bool) (o : Opening) (es : List Event) → length (array_where passes o es) ≡ length o.first
length_where passes o [] = refl
length_where passes o (Arrive client op word ∷ es) = either (passes (arrived es)) (length_where passes o es)
  where
    either : (t : Bool) → length (array_where passes o es) ≡ length o.first → length (cond t (array_step (array_where passes o es) op) (array_where passes o es)) ≡ length o.first
    either true ih = length_step (array_where passes o es) op ∙ ih
    either false ih = ih
length_where passes o (Done arrival taken ∷ es) = length_where passes o es
length_where passes o (Issue version nonce buckets ∷ es) = length_where passes o es
length_where passes o (Acked version ∷ es) = length_where passes o es
length_where passes o (Fault cause ∷ es) = length_where passes o es

pub length_now : (o : Opening) (es : List Event) → length (array_now o es) ≡ length o.first
length_now o [] = refl
length_now o (Arrive client op word ∷ es) = length_step (array_now o es) op ∙ length_now o es
length_now o (Done arrival taken ∷ es) = length_now o es
length_now o (Issue version nonce buckets ∷ es) = length_now o es
length_now o (Acked version ∷ es) = length_now o es
length_now o (Fault cause ∷ es) = length_now o es

-- ---- if all arrivals on a block pass

all_pass : (passes : ℕ → Bool) (o : Opening) (es : List Event) (block : ℕ) → ((j : ℕ) → j < arrived es → is_on es j block ≡ true → passes j ≡ true)
    → block_at (array_where passes o es) block ≡ block_at (array_now o es) block
all_pass passes o [] block h = refl
all_pass passes o (Arrive client op word ∷ es) block h = either (names block op) refl
    (all_pass passes o es block (λ j there on. h j (omega arith) (on_stays es (Arrive client op word) j block there ∙ on)))
  where
    either : (t : Bool) → names block op ≡ t → block_at (array_where passes o es) block ≡ block_at (array_now o es) block
        → block_at (cond (passes (arrived es)) (array_step (array_where passes o es) op) (array_where passes o es)) block ≡ block_at (array_step (array_now o es) op) block
    either true named ih = rw (h (arrived es) (omega arith) (on_newest es client op word block ∙ named))
        (step_alike (array_where passes o es) (array_now o es) block op (length_where passes o es ∙ sym (length_now o es)) ih)
    either false other ih = either_other (passes (arrived es)) (array_where passes o es) block op other ∙ ih ∙ sym (step_other (array_now o es) block op other)
all_pass passes o (Done arrival taken ∷ es) block h = all_pass passes o es block h
all_pass passes o (Issue version nonce buckets ∷ es) block h = all_pass passes o es block h
all_pass passes o (Acked version ∷ es) block h = all_pass passes o es block h
all_pass passes o (Fault cause ∷ es) block h = all_pass passes o es block h

-- ---- if exactly the arrivals on a block before one of them pass

earlier_pass : (passes : ℕ → Bool) (o : Opening) (es : List Event) (block i : ℕ) → i < arrived es → is_on es i block ≡ true
    → ((j : ℕ) → j < arrived es → is_on es j block ≡ true → passes j ≡ nat_lt j i) → block_at (array_where passes o es) block ≡ plain_reply o es i
earlier_pass passes o [] block i there on h = absurd (omega arith)
earlier_pass passes o (Arrive client op word ∷ es) block i there on h = either (cases_lt i (arrived es))
    (λ older. earlier_pass passes o es block i older (sym (on_stays es (Arrive client op word) i block older) ∙ on)
    (λ j below is. h j (omega arith) (on_stays es (Arrive client op word) j block below ∙ is)))
  where
    -- the newest comes later
    later : i < arrived es → (t : Bool) → names block op ≡ t
        → block_at (cond (passes (arrived es)) (array_step (array_where passes o es) op) (array_where passes o es)) block ≡ block_at (array_where passes o es) block
    later older true named = rw (h (arrived es) (omega arith) (on_newest es client op word block ∙ named) ∙ le-ltb (arrived es) i (omega arith)) refl
    later older false other = either_other (passes (arrived es)) (array_where passes o es) block op other

    -- the newest is the one
    same_one : i ≡ arrived es → block_at (cond (passes (arrived es)) (array_step (array_where passes o es) op) (array_where passes o es)) block
        ≡ plain_reply o (Arrive client op word ∷ es) i
    same_one at =
        let named : names block op ≡ true = sym (on_newest es client op word block) ∙ ap (λ k. is_on (Arrive client op word ∷ es) k block) (sym at) ∙ on in
        let stops : passes (arrived es) ≡ false = h (arrived es) (omega arith) (on_newest es client op word block ∙ named) ∙ le-ltb (arrived es) i (omega arith) in
        ap (λ t. block_at (cond t (array_step (array_where passes o es) op) (array_where passes o es)) block) stops
        ∙ all_pass passes o es block (λ j below is. h j (omega arith) (on_stays es (Arrive client op word) j block below ∙ is) ∙ lt-ltb j i (omega arith))
        ∙ sym (reply_at (array_now o es) block op named)
        ∙ sym (ap (λ t. cond t (array_reply (array_now o es) op) (plain_reply o es i)) (eq-eqb i (arrived es) at))

    either : (i < arrived es) ⊎ (arrived es ≤ i) → (i < arrived es → block_at (array_where passes o es) block ≡ plain_reply o es i)
        → block_at (cond (passes (arrived es)) (array_step (array_where passes o es) op) (array_where passes o es)) block ≡ plain_reply o (Arrive client op word ∷ es) i
    either (inl older) ih = later older (names block op) refl ∙ ih older ∙ sym (reply_stays o es (Arrive client op word) i older)
    either (inr newest) ih = same_one (omega arith)
earlier_pass passes o (Done arrival taken ∷ es) block i there on h = earlier_pass passes o es block i there on h
earlier_pass passes o (Issue version nonce buckets ∷ es) block i there on h = earlier_pass passes o es block i there on h
earlier_pass passes o (Acked version ∷ es) block i there on h = earlier_pass passes o es block i there on h
earlier_pass passes o (Fault cause ∷ es) block i there on h = earlier_pass passes o es block i there on h

pub right_from : (o : Opening) (es : List Event) (block : ℕ) → IsRightValue o es block
right_from o es block = record {
  open_one = λ i h. earlier_pass (is_settled es) o es block i h.arrived h.on (queue_from es block i h).settled;
  quiet = λ quiet. all_pass (is_settled es) o es block (λ j there on. quiet_settled es block j quiet there on);
}

pub right_value : RightValue
right_value o events block = right_from o (reverse events) block
