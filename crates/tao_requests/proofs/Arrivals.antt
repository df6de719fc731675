-- The arrivals of a record: what each asks for, and what settles it. The events `es` are newest first.
use Rattle.std.proofs.Common.{◌≡◌, ℕ, ◌+◌, ◌<◌, ◌≤◌, Bool, true, false, ◌&&◌, List, [], ◌∷◌, reverse, Some, refl, ap, sym, ◌∙◌, subst, arith, inl, inr, ◌⊎◌, get_or}
use Rattle.std.proofs.lemmas.Bool.{true≢false, ne_eqb, eq-eqb, cases_lt, cases_eq}
use Rattle.std.proofs.lemmas.List.{reverse-reverse, get_or_append_left, get_or_push}
use Rattle.tao_base.specs.declared.calls.Op.{Op}
use Rattle.tao_base.specs.declared.calls.Op.TheVariants.{Read, Write, Pad}
use Rattle.tao_base.specs.declared.session.Event.{Event}
use Rattle.tao_base.specs.declared.session.Event.TheVariants.{Arrive, Done, Issue, Acked, Fault}
use Rattle.tao_model.specs.Greatest.{IsLast}
use Rattle.tao_model.specs.Events.{arrived, is_on, is_pad, names, is_pad_op}
use Rattle.tao_model.specs.Requests.{is_real, real_now, settler}
use Rattle.tao_model.specs.Replies.{op_of, ops}
use Rattle.tao_model.specs.LookBacks.{is_real_on}
use Rattle.tao_model.proofs.DonesInOrder.{picked_more, picked_same}
use Rattle.tao_model.proofs.LastReal.{settler_is_last}
use Rattle.tao_model.proofs.PlainArrays.{ops_listed}

-- ---- the operation of an arrival

pub on_listed : (es : List Event) (i block : ℕ) → i < arrived es → is_on es i block ≡ names block (get_or (ops (reverse es)) i Pad)
on_listed [] i block below = absurd (omega arith)
on_listed (Arrive client op word ∷ es) i block below =
    which (cases_eq i (arrived es)) (λ older. on_listed es i block older)
  where
    which : (i ≡ arrived es) ⊎ (i ≡ arrived es → ⊥) → (i < arrived es → is_on es i block ≡ names block (get_or (ops (reverse es)) i Pad))
        → is_on (Arrive client op word ∷ es) i block ≡ names block (get_or (ops (reverse (Arrive client op word ∷ es))) i Pad)
    which (inl e) ih = rw (eq-eqb i (arrived es) e) (ap (names block) (sym (get_or_push (ops (reverse es)) op Pad i (ops_listed es ∙ sym e))
        ∙ ap (λ l. get_or l i Pad) (sym (picked_more op_of es (Arrive client op word)))))
    which (inr e) ih = rw (ne_eqb i (arrived es) e) (ih (omega (arith, e)) ∙ ap (names block) (sym (get_or_append_left (ops (reverse es)) (op ∷ []) Pad i (omega (arith, e, ops_listed es)))
        ∙ ap (λ l. get_or l i Pad) (sym (picked_more op_of es (Arrive client op word)))))
on_listed (Done arrival taken ∷ es) i block below = on_listed es i block below ∙ ap (λ l. names block (get_or l i Pad)) (sym (picked_same op_of es (Done arrival taken) refl))
on_listed (Issue version nonce buckets ∷ es) i block below = on_listed es i block below ∙ ap (λ l. names block (get_or l i Pad)) (sym (picked_same op_of es (Issue version nonce buckets) refl))
on_listed (Acked version ∷ es) i block below = on_listed es i block below ∙ ap (λ l. names block (get_or l i Pad)) (sym (picked_same op_of es (Acked version) refl))
on_listed (Fault cause ∷ es) i block below = on_listed es i block below ∙ ap (λ l. names block (get_or l i Pad)) (sym (picked_same op_of es (Fault cause) refl))

pub pad_listed : (es : List Event) (i : ℕ) → i < arrived es → is_pad es i ≡ is_pad_op (get_or (ops (reverse es)) i Pad)
pad_listed [] i below = absurd (omega arith)
pad_listed (Arrive client op word ∷ es) i below =
    which (cases_eq i (arrived es)) (λ older. pad_listed es i older)
  where
    which : (i ≡ arrived es) ⊎ (i ≡ arrived es → ⊥) → (i < arrived es → is_pad es i ≡ is_pad_op (get_or (ops (reverse es)) i Pad))
        → is_pad (Arrive client op word ∷ es) i ≡ is_pad_op (get_or (ops (reverse (Arrive client op word ∷ es))) i Pad)
    which (inl e) ih = rw (eq-eqb i (arrived es) e) (ap is_pad_op (sym (get_or_push (ops (reverse es)) op Pad i (ops_listed es ∙ sym e))
        ∙ ap (λ l. get_or l i Pad) (sym (picked_more op_of es (Arrive client op word)))))
    which (inr e) ih = rw (ne_eqb i (arrived es) e) (ih (omega (arith, e)) ∙ ap is_pad_op (sym (get_or_append_left (ops (reverse es)) (op ∷ []) Pad i (omega (arith, e, ops_listed es)))
        ∙ ap (λ l. get_or l i Pad) (sym (picked_more op_of es (Arrive client op word)))))
pad_listed (Done arrival taken ∷ es) i below = pad_listed es i below ∙ ap (λ l. is_pad_op (get_or l i Pad)) (sym (picked_same op_of es (Done arrival taken) refl))
pad_listed (Issue version nonce buckets ∷ es) i below = pad_listed es i below ∙ ap (λ l. is_pad_op (get_or l i Pad)) (sym (picked_same op_of es (Issue version nonce buckets) refl))
pad_listed (Acked version ∷ es) i below = pad_listed es i below ∙ ap (λ l. is_pad_op (get_or l i Pad)) (sym (picked_same op_of es (Acked version) refl))
pad_listed (Fault cause ∷ es) i below = pad_listed es i below ∙ ap (λ l. is_pad_op (get_or l i Pad)) (sym (picked_same op_of es (Fault cause) refl))

-- ---- settlers

pub no_pad : (block : ℕ) (op : Op) → names block op ≡ true → is_pad_op op ≡ false
no_pad block (Read b) e = refl
no_pad block (Write b value) e = refl
no_pad block Pad e = absurd (true≢false (sym e))

pub settler_last : (es : List Event) (i block : ℕ) → i < arrived es → is_on es i block ≡ true → IsLast (is_real_on es block) (i + 1) (Some (settler es i))
settler_last es i block below on = subst (λ l. IsLast (is_real_on l block) (i + 1) (Some (settler l i))) (reverse-reverse es)
    (settler_is_last (reverse es) i block (subst (λ l. i < arrived l) (sym (reverse-reverse es)) below) (subst (λ l. is_on l i block ≡ true) (sym (reverse-reverse es)) on))

pub both : (x y : Bool) → (x && y) ≡ true → (x ≡ true) × (y ≡ true)
both true true e = (refl, refl)
both true false e = absurd (true≢false (sym e))
both false y e = absurd (true≢false (sym e))

pub and_both : (x y : Bool) → x ≡ true → y ≡ true → (x && y) ≡ true
and_both x y e f = rw (e, f) refl

-- a real arrival settles itself
pub settles_itself : (es : List Event) (i block : ℕ) → i < arrived es → is_on es i block ≡ true → is_real es i ≡ true → settler es i ≡ i
settles_itself es i block below on real = which (cases_lt (settler es i) i)
  where
    last : IsLast (is_real_on es block) (i + 1) (Some (settler es i))
    last = settler_last es i block below on

    which : (settler es i < i) ⊎ (i ≤ settler es i) → settler es i ≡ i
    which (inl low) = absurd (true≢false (sym (and_both (is_real es i) (is_on es i block) real on) ∙ last.2 i low (omega arith)))
    which (inr high) = let low : settler es i < i + 1 = last.0 in omega arith

pub pad_fake : (es : List Event) (i : ℕ) → is_real es i ≡ true → is_pad es i ≡ false
pad_fake [] i e = absurd (true≢false (sym e))
pad_fake (Arrive client op word ∷ es) i e = which (cases_eq i (arrived es)) (pad_fake es i)
  where
    free_no_pad : (x : Op) → real_now es x ≡ true → is_pad_op x ≡ false
    free_no_pad (Read b) r = refl
    free_no_pad (Write b value) r = refl
    free_no_pad Pad r = absurd (true≢false (sym r))

    which : (i ≡ arrived es) ⊎ (i ≡ arrived es → ⊥) → (is_real es i ≡ true → is_pad es i ≡ false) → is_pad (Arrive client op word ∷ es) i ≡ false
    which (inl at) ih = rw (eq-eqb i (arrived es) at) (free_no_pad op (sym (rw (eq-eqb i (arrived es) at) refl) ∙ e))
    which (inr at) ih = rw (ne_eqb i (arrived es) at) (ih (sym (rw (ne_eqb i (arrived es) at) refl) ∙ e))
pad_fake (Done arrival taken ∷ es) i e = pad_fake es i e
pad_fake (Issue version nonce buckets ∷ es) i e = pad_fake es i e
pad_fake (Acked version ∷ es) i e = pad_fake es i e
pad_fake (Fault cause ∷ es) i e = pad_fake es i e
