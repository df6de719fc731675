-- The shares of passes: a split, a join, and the pass that has the whole.
use Rattle.std.proofs.Common.{◌≡◌, ℕ, zero, suc, ◌+◌, ◌-◌, ◌*◌, ◌^◌, ◌<◌, List, [], ◌∷◌, ◌++◌, length, map, refl, sym, ap, arith}
use mathlib.Core.Option.{some, some-injective, some-ne-none}
use lib.ListN.{get_elem?}
use Rattle.std.proofs.lemmas.Nat.{pow_pos}
use Rattle.std.proofs.Math.Nat.{pow-suc}
use Rattle.std.proofs.lemmas.List.Sums.{sum_by-cons, sum_by-append}
use Rattle.tao_orders.specs.Shares.{weight, IsWhole, AreParts, JoinedIsWhole, half, other_half}
use Rattle.tao_orders.specs.Works.{number_of, times}
use Rattle.tao_orders.specs.Rule.{took_times, taken, weights, Each}
use Rattle.tao_orders.specs.declared.hand.Hand.{Hand}
use Rattle.tao_orders.proofs.ViewLemmas.{own_total}

weight_first : (n d : ℕ) (ds : List ℕ) → weight n (d ∷ ds) ≡ 2 ^ (n - d) + weight n ds
weight_first n d ds = sum_by-cons (λ d. 2 ^ (n - d)) d ds

pub weight-append : (n : ℕ) (first second : List ℕ) → weight n (first ++ second) ≡ weight n first + weight n second
weight-append n first second = sum_by-append (λ d. 2 ^ (n - d)) first second

twice : (n d : ℕ) → d < n → 2 ^ (n - (d + 1)) + 2 ^ (n - (d + 1)) ≡ 2 ^ (n - d)
twice n d lt =
    let k : ℕ = n - (d + 1) in
    let e : n - d ≡ suc k = omega arith in
    let p : 2 ^ suc k ≡ 2 ^ k * 2 = pow-suc 2 k in omega (arith, ap (λ (m : ℕ). 2 ^ m) e, p)

pub first_whole : IsWhole (0 ∷ [])
first_whole = (0, λ n le. let one = weight_first n 0 [] in let e : 2 ^ (n - 0) ≡ 2 ^ n = ap (λ (m : ℕ). 2 ^ m) (omega arith) in omega arith)

pub halves : (share : List ℕ) → 0 < length share → AreParts share (other_half share) (half share)
halves [] owns = absurd (omega arith)
halves (d ∷ ds) owns = (
  d + 1,
  λ n le.
      let a = weight_first n (d + 1) ds in
      let b = weight_first n (d + 1) [] in
      let c = weight_first n d ds in
      let t = twice n d (omega arith) in omega arith,
)

pub whole_again : JoinedIsWhole
whole_again share first second joined split join whole = (
  split.0 + join.0 + whole.0,
  λ n le.
      let a = split.1 n (omega arith) in
      let b = join.1 n (omega arith) in
      let c = whole.1 n (omega arith) in omega arith,
)

no_weight : (n : ℕ) (share : List ℕ) → weight n share ≡ 0 → share ≡ []
no_weight n [] e = refl
no_weight n (d ∷ ds) e = let s = weight_first n d ds in let p = pow_pos (n - d) in absurd (omega arith)

none_taken : (n k : ℕ) (views : List Hand) → weights n views ≡ 0 → Each views (λ pass v. v.share ≡ [] → v.took ≡ []) → taken k views ≡ 0
none_taken n k [] none owned = refl
none_taken n k (v ∷ views) none owned =
    let s = sum_by-cons (λ (u : Hand). weight n u.share) v views in
    let t = sum_by-cons (took_times k) v views in
    let rest = none_taken n k views (omega arith) (λ pass u at. owned (suc pass) u at) in
    let nothing : took_times k v ≡ 0 = ap (λ l. times k (map number_of l)) (owned 0 v refl (no_weight n v.share (omega arith))) in omega arith

-- a pass with all shares took all
pub alone : (n k : ℕ) (views : List Hand) (pass : ℕ) (v : Hand) → get_elem? views pass ≡ some v → weight n v.share ≡ weights n views → Each views (λ pass v. v.share ≡ [] → v.took ≡ [])
    → taken k views ≡ took_times k v
alone n k [] pass v at whole owned = absurd (some-ne-none v (sym at))
alone n k (u ∷ views) zero v at whole owned =
    let same : u ≡ v = some-injective u v at in
    let s = sum_by-cons (λ (w : Hand). weight n w.share) u views in
    let t = sum_by-cons (took_times k) u views in
    let own : weight n u.share ≡ weight n v.share = ap (λ (w : Hand). weight n w.share) same in
    let took : took_times k u ≡ took_times k v = ap (took_times k) same in
    let rest = none_taken n k views (omega arith) (λ pass w there. owned (suc pass) w there) in omega arith
alone n k (u ∷ views) (suc pass) v at whole owned =
    let s = sum_by-cons (λ (w : Hand). weight n w.share) u views in
    let t = sum_by-cons (took_times k) u views in
    let own = own_total (λ (w : Hand). weight n w.share) views pass v at in
    let rest = alone n k views pass v at (omega arith) (λ pass w there. owned (suc pass) w there) in
    let nothing : took_times k u ≡ 0 = ap (λ l. times k (map number_of l)) (owned 0 u refl (no_weight n u.share (omega arith))) in omega arith
