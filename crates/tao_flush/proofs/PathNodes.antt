-- The nodes of a path, and the greatest of them that passes a test.
use Rattle.std.proofs.Common.{◌≡◌, ℕ, ◌+◌, ◌*◌, ◌^◌, ◌<◌, ◌≤◌, Bool, true, false, length, Option, Some, None, nat_eq, refl, sym, ap, ◌∙◌, arith, inl, inr, ◌⊎◌}
use Rattle.std.proofs.Math.Pow.{pow_mono}
use Rattle.std.proofs.lemmas.Nat.{pow-add}
use Rattle.std.proofs.lemmas.Bool.{cases_order, eq-eqb, true≢false, false_from_ne_true}
use Rattle.std.proofs.lemmas.List.FromFn.{get_or-map-range_with_len, length-map-range_with_len}
use Rattle.tao_base.specs.Tree.{node_at, node_count, path, is_on_path}
use Rattle.tao_base.proofs.TreeLemmas.{node_low, node_high, on_path_member, on_path_depth}
use Rattle.tao_model.specs.Passes.{deepest}
use Rattle.tao_model.specs.Greatest.{IsLast}
use Rattle.tao_model.proofs.GreatestNumbers.{one_greatest}
use Rattle.tao_model.proofs.OnePass.{deepest_is}
use Rattle.tao_model.proofs.FallingPaths.{has, on_path_has}

-- the node at this depth, or the stash
abbrev pub node_or_stash : ℕ → ℕ → Option ℕ → ℕ
node_or_stash l at None = 0
node_or_stash l at (Some depth) = node_at l at depth

pub node_rises : (l at d e : ℕ) → at < 2 ^ l → d < e → e ≤ l → node_at l at d < node_at l at e
node_rises l at d e small less within =
    let high = node_high l at d small (omega arith) in
    let low = node_low l at e within in
    let up : 2 ^ (d + 1) ≤ 2 ^ e = pow_mono (omega arith) in
    let twice : 2 ^ (d + 1) ≡ 2 ^ d * 2 ^ 1 = pow-add 2 d 1 in
    omega arith

pub node_within : (l at d : ℕ) → at < 2 ^ l → d ≤ l → node_at l at d ≤ node_count l
node_within l at d small within =
    let high = node_high l at d small within in
    let up : 2 ^ (d + 1) ≤ 2 ^ (l + 1) = pow_mono (omega arith) in
    let twice : 2 ^ (d + 1) ≡ 2 ^ d * 2 ^ 1 = pow-add 2 d 1 in
    omega arith

-- a node of a path is there at a depth
pub depth_of : (l at w : ℕ) → has w (path l at) ≡ true → (d : ℕ) × (d ≤ l) × (node_at l at d ≡ w)
depth_of l at w on =
    let found = (on_path_member l at w).0 (on_path_has l at w ∙ on) in
    let len : length (path l at) ≡ l + 1 = length-map-range_with_len (node_at l at) 0 (l + 1) in
    let low = found.1 in
    let within : found.0 < l + 1 = omega arith in
    (found.0, omega arith, sym (get_or-map-range_with_len (node_at l at) 0 (l + 1) found.0 found.0 w within (omega arith)) ∙ found.2)

pub on_own_path : (l at d : ℕ) → at < 2 ^ l → d ≤ l → has (node_at l at d) (path l at) ≡ true
on_own_path l at d small within =
    sym (on_path_has l at (node_at l at d))
    ∙ on_path_depth l at (node_at l at d) d small (node_within l at d small within) (node_low l at d within) (node_high l at d small within)
    ∙ eq-eqb (node_at l at d) (node_at l at d) refl

-- whether a node of one path is on another
pub on_other_path : (l at leaf d : ℕ) → at < 2 ^ l → leaf < 2 ^ l → d ≤ l → is_on_path l leaf (node_at l at d) ≡ nat_eq (node_at l leaf d) (node_at l at d)
on_other_path l at leaf d small other within =
    on_path_depth l leaf (node_at l at d) d other (node_within l at d small within) (node_low l at d within) (node_high l at d small within)

-- The greatest node that passes is the deepest one of the path that does, where no other node passes.
module _ (passes : ℕ → Bool) (l at : ℕ) (small : at < 2 ^ l) (on : (w : ℕ) → passes w ≡ true → has w (path l at) ≡ true) where
  none_above : (low : ℕ) → ((d : ℕ) → d ≤ l → low < node_at l at d → passes (node_at l at d) ≡ false) → (w : ℕ) → low < w → passes w ≡ false
  none_above low fails w above = false_from_ne_true (passes w) (λ is.
      let (d, within, here) = depth_of l at w (on w is) in
      true≢false (sym is ∙ ap passes (sym here) ∙ fails d within (omega arith)))

  pub deepest_on_path : (last : Option ℕ) → IsLast (λ d. passes (node_at l at d)) (l + 1) last → deepest passes (node_count l) ≡ node_or_stash l at last
  deepest_on_path None fails = one_greatest passes (node_count l) _ _ (deepest_is passes (node_count l)) (record {
    within = omega arith;
    here = inl refl;
    none = λ w above within. none_above 0 (λ d le low. fails d (omega arith)) w above;
  })
  deepest_on_path (Some depth) (below, is, deeper) = one_greatest passes (node_count l) _ _ (deepest_is passes (node_count l)) (record {
    within = node_within l at depth small (omega arith);
    here = inr is;
    none = λ w above within. none_above (node_at l at depth) (λ d le low. deeper d (is_deeper d le low (cases_order d depth)) (omega arith)) w above;
  })
    where
      is_deeper : (d : ℕ) → d ≤ l → node_at l at depth < node_at l at d → (d ≡ depth) ⊎ ((d < depth) ⊎ (depth < d)) → depth < d
      is_deeper d le low (inl same) = let e = ap (node_at l at) same in absurd (omega arith)
      is_deeper d le low (inr (inl shallower)) = let up = node_rises l at d depth small shallower (omega arith) in absurd (omega arith)
      is_deeper d le low (inr (inr deep)) = deep

pub last_alike : (f g : ℕ → Bool) (n : ℕ) (last : Option ℕ) → ((d : ℕ) → d < n → f d ≡ g d) → IsLast f n last → IsLast g n last
last_alike f g n None same fails = λ d below. sym (same d below) ∙ fails d below
last_alike f g n (Some depth) same (below, is, deeper) = (below, sym (same depth below) ∙ is, λ d above within. sym (same d within) ∙ deeper d above within)
