-- Shifts as powers, and a path as a list.
use Rattle.std.proofs.Common.{◌≡◌, ℕ, ◌+◌, ◌-◌, ◌*◌, ◌/◌, ◌%◌, ◌^◌, ◌<◌, ◌≤◌, Bool, true, false, IsTrue, length, slice_index_or, subst, ◌↔◌, Contains, nat_eq, refl, sym, ap, ◌∙◌, arith}
use Rattle.std.proofs.Math.Pow.{pow_mono}
use Rattle.std.proofs.lemmas.Bool.{eqb-true, eq-eqb}
use Rattle.std.proofs.lemmas.List.FromFn.{get_or-map-range_with_len, length-map-range_with_len}
use Rattle.std.proofs.lemmas.Map.Views.{Contains-from_any, list_any-from_Contains}
use Rattle.std.specs.Cmp.{nat_eq_equiv}
use Rattle.tao_base.specs.Tree.{is_on_path, node_at, node_count, path}
use Rattle.std.proofs.lemmas.Nat.{le-div, pow_pos, pow-add}
use Rattle.std.proofs.Math.Nat.{div-lt_iff_lt-mul}

pub one_shifted : (l : ℕ) → l ≤ 16 → 1 * 2 ^ l % 4294967296 ≡ 2 ^ l
one_shifted l h = let small : 2 ^ l ≤ 2 ^ 16 = pow_mono h in omega arith

pub one_le_node : (l leaf depth : ℕ) → 1 ≤ (2 ^ l + leaf) / 2 ^ (l - depth)
one_le_node l leaf depth =
    let h : l - depth ≤ l = omega arith in
    let low : 2 ^ (l - depth) ≤ 2 ^ l = pow_mono h in
    le-div 1 (2 ^ l + leaf) (2 ^ (l - depth)) (pow_pos (l - depth)) (omega arith)

-- a node of a path at a depth has that many bits after its first
pub node_low : (l leaf depth : ℕ) → depth ≤ l → 2 ^ depth ≤ node_at l leaf depth
node_low l leaf depth h =
    let whole : 2 ^ (depth + (l - depth)) ≡ 2 ^ depth * 2 ^ (l - depth) = pow-add 2 depth (l - depth) in
    let sum : depth + (l - depth) ≡ l = omega arith in
    let up : 2 ^ l ≡ 2 ^ depth * 2 ^ (l - depth) = sym (ap (λ e. 2 ^ e) sum) ∙ whole in
    le-div (2 ^ depth) (2 ^ l + leaf) (2 ^ (l - depth)) (pow_pos (l - depth)) (omega arith)

pub node_high : (l leaf depth : ℕ) → leaf < 2 ^ l → depth ≤ l → node_at l leaf depth < 2 * 2 ^ depth
node_high l leaf depth small h =
    let whole : 2 ^ (depth + (l - depth)) ≡ 2 ^ depth * 2 ^ (l - depth) = pow-add 2 depth (l - depth) in
    let sum : depth + (l - depth) ≡ l = omega arith in
    let up : 2 ^ l ≡ 2 ^ depth * 2 ^ (l - depth) = sym (ap (λ e. 2 ^ e) sum) ∙ whole in
    (div-lt_iff_lt-mul {k = 2 ^ (l - depth)} {x = 2 ^ l + leaf} {y = 2 * 2 ^ depth} (pow_pos (l - depth))).1 (omega arith)

-- the depth of a number in the tree
pub no_deeper : (d e n : ℕ) → n < 2 * 2 ^ d → 2 ^ e ≤ n → d < e → ⊥
no_deeper d e n high low deeper =
    let up : 2 ^ (d + 1) ≤ 2 ^ e = pow_mono (omega arith) in
    let twice : 2 ^ (d + 1) ≡ 2 ^ d * 2 ^ 1 = pow-add 2 d 1 in
    omega arith

pub one_depth : (d e n : ℕ) → 2 ^ d ≤ n → n < 2 * 2 ^ d → 2 ^ e ≤ n → n < 2 * 2 ^ e → d ≡ e
one_depth d e n dl dh el eh =
    let no_less = no_deeper d e n dh el in
    let no_more = no_deeper e d n eh dl in
    omega (arith, no_less, no_more)

pub depth_within : (l node depth : ℕ) → node ≤ node_count l → 2 ^ depth ≤ node → depth ≤ l
depth_within l node depth within low =
    let beyond : l < depth → ⊥ = λ deeper. let up : 2 ^ (l + 1) ≤ 2 ^ depth = pow_mono (omega arith) in let some = pow_pos (l + 1) in omega arith in
    omega (arith, beyond)

pub on_path_member : (l leaf node : ℕ) → IsTrue (is_on_path l leaf node) ↔ Contains (path l leaf) node
on_path_member l leaf node =
    (λ h. Contains-from_any eqb-true node (path l leaf) h, λ h. list_any-from_Contains nat_eq_equiv node (path l leaf) h)

same_tests : (a b : Bool) → (a ≡ true → b ≡ true) → (b ≡ true → a ≡ true) → a ≡ b
same_tests true b there back = sym (there refl)
same_tests false true there back = back refl
same_tests false false there back = refl

at_depth : (l leaf node k : ℕ) → k < length (path l leaf) → slice_index_or (path l leaf) k node ≡ node → (k ≤ l) × (node_at l leaf k ≡ node)
at_depth l leaf node k within here =
    let len : length (path l leaf) ≡ l + 1 = length-map-range_with_len (node_at l leaf) 0 (l + 1) in
    let k_in : k < l + 1 = omega arith in
    (omega arith, sym (get_or-map-range_with_len (node_at l leaf) 0 (l + 1) k k node k_in (omega arith)) ∙ here)

-- a node is on a path where it is the path's node at its own depth
pub on_path_depth : (l leaf node depth : ℕ) → leaf < 2 ^ l → node ≤ node_count l → 2 ^ depth ≤ node → node < 2 * 2 ^ depth
    → is_on_path l leaf node ≡ nat_eq (node_at l leaf depth) node
on_path_depth l leaf node depth small within low high =
    let shallow : depth ≤ l = depth_within l node depth within low in
    let depth_in : depth < l + 1 = omega arith in
    let len : length (path l leaf) ≡ l + 1 = length-map-range_with_len (node_at l leaf) 0 (l + 1) in
    let there : is_on_path l leaf node ≡ true → nat_eq (node_at l leaf depth) node ≡ true =
    λ on.
    let found = (on_path_member l leaf node).0 on in
    let at = at_depth l leaf node found.0 found.1 found.2 in
    let k_low : 2 ^ found.0 ≤ node = subst (λ w. 2 ^ found.0 ≤ w) at.1 (node_low l leaf found.0 at.0) in
    let k_high : node < 2 * 2 ^ found.0 = subst (λ w. w < 2 * 2 ^ found.0) at.1 (node_high l leaf found.0 small at.0) in
    let same : found.0 ≡ depth = one_depth found.0 depth node k_low k_high low high in
    eq-eqb (node_at l leaf depth) node (subst (λ d. node_at l leaf d ≡ node) same at.1)
    in
    let back : nat_eq (node_at l leaf depth) node ≡ true → is_on_path l leaf node ≡ true =
    λ same.
    (on_path_member l leaf node).1
    (depth, omega arith, get_or-map-range_with_len (node_at l leaf) 0 (l + 1) depth depth node depth_in (omega arith) ∙ eqb-true (node_at l leaf depth) node same)
    in
    same_tests (is_on_path l leaf node) (nat_eq (node_at l leaf depth) node) there back
