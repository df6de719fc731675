-- The views of all passes when one of them changes.
use Rattle.std.proofs.Common.{◌≡◌, ◌≢◌, ℕ, zero, suc, ◌+◌, ◌<◌, ◌≤◌, List, [], ◌∷◌, ◌++◌, length, get_or, set, sym, ap, ◌∙◌, subst, arith, ⊎_elim}
use mathlib.Core.Option.{some, some-injective, some-ne-none}
use lib.ListN.{get_elem?}
use Rattle.std.specs.List.{sum_by}
use Rattle.std.proofs.lemmas.List.Sums.{sum_by-set, sum_by_push, get_or-le-sum_by}
use Rattle.crossbeam_queue.proofs.Lists.{at_set}
use Rattle.tao_orders.specs.Shares.{weight}
use Rattle.tao_orders.specs.Rule.{took_times, taken, weights}
use Rattle.tao_orders.specs.declared.hand.Hand.{Hand}

pub below : {A : Type 0} (l : List A) (i : ℕ) (a : A) → get_elem? l i ≡ some a → i < length l
below [] i a e = absurd (some-ne-none a (sym e))
below (x ∷ xs) zero a e = omega arith
below (x ∷ xs) (suc i) a e = let h = below xs i a e in omega arith

get_or_at : {A : Type 0} (l : List A) (i : ℕ) (a d : A) → get_elem? l i ≡ some a → get_or l i d ≡ a
get_or_at [] i a d e = absurd (some-ne-none a (sym e))
get_or_at (x ∷ xs) zero a d e = some-injective x a e
get_or_at (x ∷ xs) (suc i) a d e = get_or_at xs i a d e

-- a sum over all views, after a change of one
set_total : (f : Hand → ℕ) (views : List Hand) (pass : ℕ) (v w : Hand) → get_elem? views pass ≡ some v → sum_by f (set views pass w) + f v ≡ sum_by f views + f w
set_total f views pass v w at =
    ap (λ (u : Hand). sum_by f (set views pass w) + f u) (sym (get_or_at views pass v w at)) ∙ sum_by-set f views pass w w (below views pass v at)

-- what all took
pub taken_set : (n : ℕ) (views : List Hand) (pass : ℕ) (v w : Hand) → get_elem? views pass ≡ some v → taken n (set views pass w) + took_times n v ≡ taken n views + took_times n w
taken_set n views pass v w at = set_total (took_times n) views pass v w at

pub taken_more : (n : ℕ) (views : List Hand) (w : Hand) → taken n (views ++ w ∷ []) ≡ taken n views + took_times n w
taken_more n views w = sum_by_push (took_times n) views w

-- the shares of all
pub weights_set : (n : ℕ) (views : List Hand) (pass : ℕ) (v w : Hand) → get_elem? views pass ≡ some v → weights n (set views pass w) + weight n v.share ≡ weights n views + weight n w.share
weights_set n views pass v w at = set_total (λ u. weight n u.share) views pass v w at

pub weights_more : (n : ℕ) (views : List Hand) (w : Hand) → weights n (views ++ w ∷ []) ≡ weights n views + weight n w.share
weights_more n views w = sum_by_push (λ (u : Hand). weight n u.share) views w

-- one pass has no more than all
pub own_total : (f : Hand → ℕ) (views : List Hand) (pass : ℕ) (v : Hand) → get_elem? views pass ≡ some v → f v ≤ sum_by f views
own_total f views pass v at = subst (λ (u : Hand). f u ≤ sum_by f views) (get_or_at views pass v v at) (get_or-le-sum_by f views pass v (below views pass v at))

pub own_taken : (n : ℕ) (views : List Hand) (pass : ℕ) (v : Hand) → get_elem? views pass ≡ some v → took_times n v ≤ taken n views
own_taken n views pass v at = own_total (took_times n) views pass v at

-- a fact of each view, when one changes
pub every : (F : ℕ → Hand → Type 0) (views : List Hand) (pass : ℕ) (w : Hand) → F pass w → ((j : ℕ) (u : Hand) → j ≢ pass → get_elem? views j ≡ some u → F j u) → (j : ℕ) (u : Hand) → get_elem? (set views pass w) j ≡ some u → F j u
every F views pass w mine others j u e = ⊎_elim (λ (x : (j ≡ pass) × (w ≡ u)). subst (λ (y : ℕ × Hand). F y.0 y.1) (λ i. (sym x.0 i, x.1 i)) mine)
    (λ (x : (j ≢ pass) × (get_elem? views j ≡ some u)). others j u x.0 x.1) (at_set views pass j w u e)
