-- How many tickets there may be, if each has a share of its own.
use Rattle.std.proofs.Common.{◌≡◌, ℕ, zero, suc, ◌+◌, ◌<◌, ◌≤◌, eqb, List, [], ◌∷◌, length, sym, ap, ◌∙◌, subst, true, false, true≢false, Bool, arith, eq-eqb, ne_eqb}
use mathlib.Core.Logic.{dite}
use native.Mathlib.Decide.{ℕ_discrete}
use Rattle.std.specs.Prelude.{◌||◌, if◌then◌else◌}
use Rattle.tao_turn.specs.Lists.{has, removed, missing}
use Rattle.tao_turn.proofs.ShareLemmas.{or_left, or_right, bool_false, removed_has}

within_either : (m n : ℕ) (more : List ℕ) (b : Bool) → length more ≤ n → length (if b then more else m ∷ more) ≤ n + 1
within_either m n more true le = omega arith
within_either m n more false le = omega arith

removed_within : (n : ℕ) (ms : List ℕ) → length (removed n ms) ≤ length ms
removed_within n [] = omega arith
removed_within n (m ∷ ms) = let le = within_either m (length ms) (removed n ms) (eqb n m) (removed_within n ms) in omega arith

removed_shorter : (n : ℕ) (ms : List ℕ) → has n ms ≡ true → length (removed n ms) < length ms
removed_shorter n [] h = absurd (true≢false (sym h))
removed_shorter n (m ∷ ms) h = dite (ℕ_discrete n m)
    (λ same. let gone = ap (λ (x : Bool). length (if x then removed n ms else m ∷ removed n ms)) (eq-eqb n m same) in let le = removed_within n ms in omega arith)
    (λ apart. let stays = ap (λ (x : Bool). length (if x then removed n ms else m ∷ removed n ms)) (ne_eqb n m apart) in
    let less = removed_shorter n ms (sym (ap (λ (x : Bool). x || has n ms) (ne_eqb n m apart)) ∙ h) in omega arith)

-- tickets that stand with a number each, no two with the same, are no more than the numbers
pub no_more : (P : ℕ → ℕ → Type 0) → ((t u n : ℕ) → P t n → P u n → t ≡ u) → (first count : ℕ) (ns : List ℕ)
    → ((t : ℕ) → first ≤ t → t < first + count → (n : ℕ) × (has n ns ≡ true) × P t n) → count ≤ length ns
no_more P one first zero ns with_number = omega arith
no_more P one first (suc count) ns with_number =
    let last = with_number (first + count) (omega arith) (omega arith) in
    let shorter : length (removed last.0 ns) < length ns = removed_shorter last.0 ns last.1 in
    let rest : count ≤ length (removed last.0 ns) = no_more P one first count (removed last.0 ns)
    (λ t lo hi. let x = with_number t lo (omega arith) in (
      x.0,
      removed_has last.0 x.0 ns x.1 (λ same. let twice : t ≡ first + count = one t (first + count) last.0 (subst (P t) same x.2) last.2 in omega arith),
      x.2,
    )) in
    omega arith

pub has_missing : (n : ℕ) (ms ns : List ℕ) → has n ns ≡ true → has n ms ≡ false → has n (missing ms ns) ≡ true
has_missing n [] ns h other = h
has_missing n (m ∷ ms) ns h other =
    removed_has m n (missing ms ns) (has_missing n ms ns h (bool_false (has n ms) (λ yes. true≢false (sym (or_right (eqb n m) (has n ms) yes) ∙ other))))
    (λ same. true≢false (sym (or_left (eqb n m) (has n ms) (eq-eqb n m same)) ∙ other))
