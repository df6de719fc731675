-- The block that an arrival is on. The events `es` are newest first.
use Rattle.std.proofs.Common.{◌≡◌, ℕ, ◌<◌, ◌≤◌, true, cond, List, [], ◌∷◌, refl, sym, ap, ◌∙◌, arith, inl, inr, ◌⊎◌, nat_eq}
use Rattle.std.proofs.lemmas.Bool.{cases_lt, eq-eqb, ne_eqb, eqb-true, true≢false}
use Rattle.tao_base.specs.declared.calls.Op.{Op}
use Rattle.tao_base.specs.declared.calls.Op.TheVariants.{Read, Write, Pad}
use Rattle.tao_base.specs.declared.session.Event.{Event}
use Rattle.tao_base.specs.declared.session.Event.TheVariants.{Arrive, Done, Issue, Acked, Fault}
use Rattle.tao_base.specs.Session.{Opening}
use Rattle.tao_model.specs.Events.{arrived, is_on, names}
use Rattle.tao_model.specs.Requests.{is_real, real_now}
use Rattle.tao_model.specs.Lawful.{FollowsLawfully}
use Rattle.tao_model.proofs.Stays.{on_stays, real_stays}
use Rattle.tao_model.proofs.OneMoreEvent.{names_below}
use Rattle.tao_model.proofs.RealArrivals.{real_newest, on_newest}
use Rattle.tao_held.specs.Held.{block_of, block_on}

pub named_newest : (es : List Event) (client : ℕ) (op : Op) (word block i : ℕ) → i ≡ arrived es → is_on (Arrive client op word ∷ es) i block ≡ true → names block op ≡ true
named_newest es client op word block i at on = sym (on_newest es client op word block) ∙ ap (λ k. is_on (Arrive client op word ∷ es) k block) (sym at) ∙ on

named_is : (block : ℕ) (op : Op) → names block op ≡ true → block_of op ≡ block
named_is block (Read id) named = eqb-true id block named
named_is block (Write id value) named = eqb-true id block named
named_is block Pad named = absurd (true≢false (sym named))

pub on_is : (es : List Event) (i block : ℕ) → i < arrived es → is_on es i block ≡ true → block_on es i ≡ block
on_is [] i block there on = absurd (omega arith)
on_is (Arrive client op word ∷ es) i block there on = either (cases_lt i (arrived es)) (λ older. on_is es i block older (sym (on_stays es (Arrive client op word) i block older) ∙ on))
  where
    either : (i < arrived es) ⊎ (arrived es ≤ i) → (i < arrived es → block_on es i ≡ block) → cond (nat_eq i (arrived es)) (block_of op) (block_on es i) ≡ block
    either (inl older) ih = ap (λ t. cond t (block_of op) (block_on es i)) (ne_eqb i (arrived es) (λ same. omega arith)) ∙ ih older
    either (inr newest) ih =
        let at : i ≡ arrived es = omega arith in
        ap (λ t. cond t (block_of op) (block_on es i)) (eq-eqb i (arrived es) at)
        ∙ named_is block op (sym (on_newest es client op word block) ∙ ap (λ k. is_on (Arrive client op word ∷ es) k block) (sym at) ∙ on)
on_is (Done arrival taken ∷ es) i block there on = on_is es i block there on
on_is (Issue version nonce buckets ∷ es) i block there on = on_is es i block there on
on_is (Acked version ∷ es) i block there on = on_is es i block there on
on_is (Fault cause ∷ es) i block there on = on_is es i block there on

real_names : (es : List Event) (op : Op) → real_now es op ≡ true → names (block_of op) op ≡ true
real_names es (Read id) real = eq-eqb id id refl
real_names es (Write id value) real = eq-eqb id id refl
real_names es Pad real = absurd (true≢false (sym real))

pub real_on : (es : List Event) (i : ℕ) → i < arrived es → is_real es i ≡ true → is_on es i (block_on es i) ≡ true
real_on [] i there real = absurd (omega arith)
real_on (Arrive client op word ∷ es) i there real = either (cases_lt i (arrived es)) (λ older. real_on es i older (sym (real_stays es (Arrive client op word) i older) ∙ real))
  where
    either : (i < arrived es) ⊎ (arrived es ≤ i) → (i < arrived es → is_on es i (block_on es i) ≡ true)
        → is_on (Arrive client op word ∷ es) i (cond (nat_eq i (arrived es)) (block_of op) (block_on es i)) ≡ true
    either (inl older) ih =
        ap (λ t. is_on (Arrive client op word ∷ es) i (cond t (block_of op) (block_on es i))) (ne_eqb i (arrived es) (λ same. omega arith))
        ∙ on_stays es (Arrive client op word) i (block_on es i) older ∙ ih older
    either (inr newest) ih =
        let at : i ≡ arrived es = omega arith in
        ap (λ t. is_on (Arrive client op word ∷ es) i (cond t (block_of op) (block_on es i))) (eq-eqb i (arrived es) at)
        ∙ ap (λ k. is_on (Arrive client op word ∷ es) k (block_of op)) at
        ∙ on_newest es client op word (block_of op)
        ∙ real_names es op (sym (real_newest es client op word) ∙ ap (is_real (Arrive client op word ∷ es)) (sym at) ∙ real)
real_on (Done arrival taken ∷ es) i there real = real_on es i there real
real_on (Issue version nonce buckets ∷ es) i there real = real_on es i there real
real_on (Acked version ∷ es) i there real = real_on es i there real
real_on (Fault cause ∷ es) i there real = real_on es i there real

-- in a lawful record an arrival is on a block of the store
pub on_below : (o : Opening) (es : List Event) (i block : ℕ) → FollowsLawfully o es → i < arrived es → is_on es i block ≡ true → block < o.shape.n
on_below o [] i block f there on = absurd (omega arith)
on_below o (Arrive client op word ∷ es) i block f there on = either (cases_lt i (arrived es)) (λ older. on_below o es i block f.0 older (sym (on_stays es (Arrive client op word) i block older) ∙ on))
  where
    either : (i < arrived es) ⊎ (arrived es ≤ i) → (i < arrived es → block < o.shape.n) → block < o.shape.n
    either (inl older) ih = ih older
    either (inr newest) ih = names_below o block op (named_newest es client op word block i (omega arith) on) f.2.3
on_below o (Done arrival taken ∷ es) i block f there on = on_below o es i block f.0 there on
on_below o (Issue version nonce buckets ∷ es) i block f there on = on_below o es i block f.0 there on
on_below o (Acked version ∷ es) i block f there on = on_below o es i block f.0 there on
on_below o (Fault cause ∷ es) i block f there on = on_below o es i block f.0 there on
