-- Requests on a block are answered what the plain array answers.
use Rattle.std.proofs.Common.{◌≡◌, ℕ, zero, suc, ◌+◌, ◌<◌, Bool, true, false, List, [], ◌∷◌, length, map, take, drop, Some, refl, ap, sym, ◌∙◌, arith, length-set}
use Rattle.std.proofs.lemmas.Bool.{true≢false, eqb-true, eq-eqb}
use Rattle.std.proofs.lemmas.List.{get_or-set_same, get_or-set_other}
use Rattle.tao_base.specs.Array.{block_at, array_step, array_after, array_reply}
use Rattle.tao_base.specs.declared.calls.Op.{Op}
use Rattle.tao_base.specs.declared.calls.Op.TheVariants.{Read, Write, Pad}
use Rattle.tao_model.specs.Events.{names}
use Rattle.tao_model.proofs.PlainArrays.{length_step}
use Rattle.tao_requests.specs.declared.request.Request.{Request}
use Rattle.tao_requests.specs.State.{request_at}
use Rattle.tao_requests.specs.Settling.{value_after, answered_all, value_after_all, settled_from}
use Rattle.tao_requests.specs.Laws.{ops_from, AnswersArePlain, ValueIsPlain}

step_on : (blocks : List (List ℕ)) (block : ℕ) (op : Op) → block < length blocks → names block op ≡ true → block_at (array_step blocks op) block ≡ value_after (block_at blocks block) op
step_on blocks block (Read id) there on = refl
step_on blocks block (Write id value) there on =
    let same : id ≡ block = eqb-true id block on in
    rw same (get_or-set_same blocks block value [] there)
step_on blocks block Pad there on = absurd (true≢false (sym on))

step_off : (blocks : List (List ℕ)) (block : ℕ) (op : Op) → names block op ≡ false → block_at (array_step blocks op) block ≡ block_at blocks block
step_off blocks block (Read id) off = refl
step_off blocks block (Write id value) off = get_or-set_other blocks id block value [] (λ e. true≢false (sym (eq-eqb id block (sym e)) ∙ off))
step_off blocks block Pad off = refl

reply_on : (blocks : List (List ℕ)) (block : ℕ) (op : Op) → names block op ≡ true → array_reply blocks op ≡ block_at blocks block
reply_on blocks block (Read id) on = ap (block_at blocks) (eqb-true id block on)
reply_on blocks block (Write id value) on = ap (block_at blocks) (eqb-true id block on)
reply_on blocks block Pad on = absurd (true≢false (sym on))

abbrev AnswersHere : ℕ → List Request → ℕ → List (List ℕ) → Type 0
AnswersHere block rs k blocks = (request_at (answered_all block (block_at blocks block) rs) k).answer
    ≡ Some (array_reply (array_after blocks (take k (map (λ r. r.op) rs))) (request_at rs k).op)

answers_here : (block : ℕ) (rs : List Request) (k : ℕ) (blocks : List (List ℕ)) → block < length blocks → names block (request_at rs k).op ≡ true → AnswersHere block rs k blocks
answers_here block [] k blocks there on = absurd (true≢false (sym on))
answers_here block (r ∷ rs) zero blocks there on = rw on (ap (λ v. Some v) (sym (reply_on blocks block r.op on)))
answers_here block (r ∷ rs) (suc k) blocks there on =
    next (answers_here block rs k (array_step blocks r.op) (omega (arith, length_step blocks r.op)) on) (names block r.op) refl
  where
    next : AnswersHere block rs k (array_step blocks r.op) → (x : Bool) → names block r.op ≡ x → AnswersHere block (r ∷ rs) (suc k) blocks
    next ih true e = rw (e, ← step_on blocks block r.op there e) ih
    next ih false e = rw (e, ← step_off blocks block r.op e) ih

answers_from : (block first k m : ℕ) (rs : List Request) (blocks : List (List ℕ)) → m ≡ first + k → block < length blocks → names block (request_at rs m).op ≡ true
    → (request_at (settled_from first block (block_at blocks block) rs) m).answer ≡ Some (array_reply (array_after blocks (take k (ops_from first rs))) (request_at rs m).op)
answers_from block first k m [] blocks e there on = absurd (true≢false (sym on))
answers_from block zero k m (r ∷ rs) blocks e there on =
    let same : k ≡ m = omega arith in
    rw same (answers_here block (r ∷ rs) m blocks there on)
answers_from block (suc first) k zero (r ∷ rs) blocks e there on = absurd (omega arith)
answers_from block (suc first) k (suc m) (r ∷ rs) blocks e there on = answers_from block first k m rs blocks (omega arith) there on

pub answers_are_plain : AnswersArePlain
answers_are_plain blocks block first k rs there on = answers_from block first k (first + k) rs blocks refl there on

value_here : (block : ℕ) (rs : List Request) (blocks : List (List ℕ)) → block < length blocks
    → value_after_all block (block_at blocks block) rs ≡ block_at (array_after blocks (map (λ r. r.op) rs)) block
value_here block [] blocks there = refl
value_here block (r ∷ rs) blocks there = next (value_here block rs (array_step blocks r.op) (omega (arith, length_step blocks r.op))) (names block r.op) refl
  where
    next : value_after_all block (block_at (array_step blocks r.op) block) rs ≡ block_at (array_after (array_step blocks r.op) (map (λ q. q.op) rs)) block
        → (x : Bool) → names block r.op ≡ x → value_after_all block (block_at blocks block) (r ∷ rs) ≡ block_at (array_after blocks (map (λ q. q.op) (r ∷ rs))) block
    next ih true e = rw (e, ← step_on blocks block r.op there e) ih
    next ih false e = rw (e, ← step_off blocks block r.op e) ih

pub value_is_plain : ValueIsPlain
value_is_plain blocks block first rs there = value_here block (drop first rs) blocks there
