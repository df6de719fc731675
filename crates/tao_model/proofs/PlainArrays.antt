-- The plain array after a record's operations, and how far answers are released. The events `es` are newest first.
use Rattle.std.proofs.Common.{◌≡◌, ℕ, ◌+◌, ◌<◌, ◌≤◌, true, List, [], ◌∷◌, ◌++◌, reverse, length, take, get_or, fold, refl, sym, ap, ◌∙◌, arith, inl, inr, ◌⊎◌}
use Rattle.std.proofs.lemmas.Bool.{ne_eqb, eq-eqb, cases_lt, true≢false}
use Rattle.std.proofs.lemmas.List.{reverse-reverse, get_or_append_left, get_or_push, length_push, length-set, take-append-le, take_at}
use Rattle.std.proofs.lemmas.List.Sums.{fold_push}
use Rattle.tao_base.specs.declared.calls.Op.{Op}
use Rattle.tao_base.specs.declared.calls.Op.TheVariants.{Read, Write, Pad}
use Rattle.tao_base.specs.declared.session.Event.{Event}
use Rattle.tao_base.specs.declared.session.Event.TheVariants.{Arrive, Done, Issue, Acked, Fault}
use Rattle.tao_base.specs.Session.{Opening}
use Rattle.tao_base.specs.Array.{array_step, array_reply, array_after}
use Rattle.tao_model.specs.Events.{arrived, is_done}
use Rattle.tao_model.specs.Replies.{op_of, ops, array_now, plain_reply, released}
use Rattle.tao_model.specs.LookBacks.{OpsArrived, ArrayIsFold, ReplyIsPlain, ReleasedIsGreatest}
use Rattle.tao_model.proofs.DonesInOrder.{picked_more, picked_same}
use Rattle.tao_model.proofs.Growth.{IsLeading, leading_is}

pub length_step : (blocks : List (List ℕ)) (op : Op) → length (array_step blocks op) ≡ length blocks
length_step blocks (Read id) = refl
length_step blocks (Write id value) = length-set blocks id value
length_step blocks Pad = refl

pub ops_listed : (es : List Event) → length (ops (reverse es)) ≡ arrived es
ops_listed [] = refl
ops_listed (Arrive client op word ∷ es) = ap length (picked_more op_of es (Arrive client op word)) ∙ length_push (ops (reverse es)) op ∙ ap (λ n. n + 1) (ops_listed es)
ops_listed (Done arrival taken ∷ es) = ap length (picked_same op_of es (Done arrival taken) refl) ∙ ops_listed es
ops_listed (Issue version nonce buckets ∷ es) = ap length (picked_same op_of es (Issue version nonce buckets) refl) ∙ ops_listed es
ops_listed (Acked version ∷ es) = ap length (picked_same op_of es (Acked version) refl) ∙ ops_listed es
ops_listed (Fault cause ∷ es) = ap length (picked_same op_of es (Fault cause) refl) ∙ ops_listed es

pub ops_arrived : OpsArrived
ops_arrived events = ap (λ told. length (ops told)) (sym (reverse-reverse events)) ∙ ops_listed (reverse events)

pub array_folds : (o : Opening) (es : List Event) → array_now o es ≡ array_after o.first (ops (reverse es))
array_folds o [] = refl
array_folds o (Arrive client op word ∷ es) = ap (λ a. array_step a op) (array_folds o es) ∙ sym (fold_push array_step o.first (ops (reverse es)) op)
    ∙ ap (fold array_step o.first) (sym (picked_more op_of es (Arrive client op word)))
array_folds o (Done arrival taken ∷ es) = array_folds o es ∙ ap (fold array_step o.first) (sym (picked_same op_of es (Done arrival taken) refl))
array_folds o (Issue version nonce buckets ∷ es) = array_folds o es ∙ ap (fold array_step o.first) (sym (picked_same op_of es (Issue version nonce buckets) refl))
array_folds o (Acked version ∷ es) = array_folds o es ∙ ap (fold array_step o.first) (sym (picked_same op_of es (Acked version) refl))
array_folds o (Fault cause ∷ es) = array_folds o es ∙ ap (fold array_step o.first) (sym (picked_same op_of es (Fault cause) refl))

pub array_is_fold : ArrayIsFold
array_is_fold o events = array_folds o (reverse events) ∙ ap (λ told. array_after o.first (ops told)) (reverse-reverse events)

-- what the array answers the operation at this place of a list
abbrev answer_at : Opening → List Op → ℕ → Op → List ℕ
answer_at o list i d = array_reply (array_after o.first (take i list)) (get_or list i d)

reply_plain : (o : Opening) (es : List Event) (i : ℕ) (d : Op) → i < arrived es → plain_reply o es i ≡ answer_at o (ops (reverse es)) i d
reply_plain o [] i d h = absurd (omega arith)
reply_plain o (Arrive client op word ∷ es) i d h = either (cases_lt i (arrived es)) (λ older. reply_plain o es i d older)
  where
    more : ops (reverse (Arrive client op word ∷ es)) ≡ ops (reverse es) ++ op ∷ []
    more = picked_more op_of es (Arrive client op word)

    len : length (ops (reverse es)) ≡ arrived es
    len = ops_listed es

    either : (i < arrived es) ⊎ (arrived es ≤ i) → (i < arrived es → plain_reply o es i ≡ answer_at o (ops (reverse es)) i d)
        → plain_reply o (Arrive client op word ∷ es) i ≡ answer_at o (ops (reverse (Arrive client op word ∷ es))) i d
    either (inl older) ih = rw (ne_eqb i (arrived es) (λ same. omega arith))
        (ih older
        ∙ ap (λ l. array_reply (array_after o.first l) (get_or (ops (reverse es)) i d)) (sym (take-append-le i (ops (reverse es)) (op ∷ []) (let e = len in omega arith)))
        ∙ ap (array_reply (array_after o.first (take i (ops (reverse es) ++ op ∷ [])))) (sym (get_or_append_left (ops (reverse es)) (op ∷ []) d i (let e = len in omega arith)))
        ∙ ap (λ l. answer_at o l i d) (sym more))
    either (inr newest) ih =
        let at : length (ops (reverse es)) ≡ i = let e = len in omega arith in
        rw (eq-eqb i (arrived es) (omega arith))
        (ap (λ a. array_reply a op) (array_folds o es)
        ∙ ap (λ l. array_reply (array_after o.first l) op) (sym (take_at (ops (reverse es)) (op ∷ []) i at))
        ∙ ap (array_reply (array_after o.first (take i (ops (reverse es) ++ op ∷ [])))) (sym (get_or_push (ops (reverse es)) op d i at))
        ∙ ap (λ l. answer_at o l i d) (sym more))
reply_plain o (Done arrival taken ∷ es) i d h = reply_plain o es i d h ∙ ap (λ l. answer_at o l i d) (sym (picked_same op_of es (Done arrival taken) refl))
reply_plain o (Issue version nonce buckets ∷ es) i d h = reply_plain o es i d h ∙ ap (λ l. answer_at o l i d) (sym (picked_same op_of es (Issue version nonce buckets) refl))
reply_plain o (Acked version ∷ es) i d h = reply_plain o es i d h ∙ ap (λ l. answer_at o l i d) (sym (picked_same op_of es (Acked version) refl))
reply_plain o (Fault cause ∷ es) i d h = reply_plain o es i d h ∙ ap (λ l. answer_at o l i d) (sym (picked_same op_of es (Fault cause) refl))

pub reply_is_plain : ReplyIsPlain
reply_is_plain o events i d h = reply_plain o (reverse events) i d h ∙ ap (λ told. answer_at o (ops told) i d) (reverse-reverse events)

-- ---- released

pub released_is_greatest : ReleasedIsGreatest
released_is_greatest events r = (
  λ le. (let within = is.within in omega arith, λ i below. is.below i (omega arith)),
  λ h. back h.0 h.1 (cases_lt (released (reverse events)) r),
)
  where
    is : IsLeading (is_done (reverse events)) (arrived (reverse events)) (released (reverse events))
    is = leading_is (is_done (reverse events)) (arrived (reverse events))

    back : r ≤ arrived (reverse events) → ((i : ℕ) → i < r → is_done (reverse events) i ≡ true) → (released (reverse events) < r) ⊎ (r ≤ released (reverse events))
        → r ≤ released (reverse events)
    back within all (inr le) = le
    back within all (inl less) = absurd (true≢false (sym (all (released (reverse events)) less) ∙ is.next (omega arith)))
