-- How far two paths go together, told by the bits in which their leaves differ.
use Rattle.std.proofs.Common.{◌≡◌, ℕ, ◌+◌, ◌-◌, ◌*◌, ◌/◌, ◌^◌, ◌<◌, ◌≤◌, false, List, [], length, nat_eq, nat_lt, refl, sym, ap, subst, ◌∙◌, arith, inl, inr, ◌⊎◌}
use Rattle.std.proofs.Math.Nat.{div-eq_of_lt, lt-div-mul-add}
use Rattle.std.proofs.Math.Pow.{pow_mono}
use Rattle.std.specs.Int.Bits.{bit_xor, xor_add_and, xor_self}
use Rattle.std.specs.Int.Count.{count_leading_zeros}
use Rattle.std.specs.List.{slice_index_or}
use Rattle.std.proofs.lemmas.Bool.{eq-eqb, ne_eqb, lt-ltb, le-ltb, cases_lt}
use Rattle.std.proofs.lemmas.Nat.{pow_pos, pow-add, xor_shr, xor_block, xor_lt, and_le_l, and_le_r, leading_length}
use Rattle.tao_base.specs.declared.storage.Entry.{Entry}
use Rattle.tao_base.specs.Limits.{Shape}
use Rattle.tao_base.specs.Tree.{node_at}
use Rattle.tao_flush.specs.Placing.{AreShared, fits}

same_bits : (a b : ℕ) → bit_xor a b ≡ 0 → a ≡ b
same_bits a b none = let sum = xor_add_and a b in let low = and_le_l a b in let other = and_le_r a b in omega arith

cut_same : (a b k : ℕ) → bit_xor a b < 2 ^ k → a / 2 ^ k ≡ b / 2 ^ k
cut_same a b k below = same_bits (a / 2 ^ k) (b / 2 ^ k) (sym (xor_shr a b k) ∙ div-eq_of_lt below)

differ_below : (a b k : ℕ) → a / 2 ^ k ≡ b / 2 ^ k → bit_xor a b < 2 ^ k
differ_below a b k same =
    let none : bit_xor a b / 2 ^ k ≡ 0 = xor_shr a b k ∙ ap (λ x. bit_xor x (b / 2 ^ k)) same ∙ xor_self (b / 2 ^ k) in
    let up : bit_xor a b < bit_xor a b / 2 ^ k * 2 ^ k + 2 ^ k = lt-div-mul-add (pow_pos k) in
    let less : bit_xor a b < 0 * 2 ^ k + 2 ^ k = rw none at up in
    omega arith

-- the first nodes above the leaves differ in the bits in which the leaves do
leaf_bits : (l at leaf : ℕ) → at < 2 ^ l → leaf < 2 ^ l → bit_xor (2 ^ l + leaf) (2 ^ l + at) ≡ bit_xor leaf at
leaf_bits l at leaf small other =
    let one : 1 * 2 ^ l ≡ 2 ^ l = omega arith in
    let none : bit_xor 1 1 * 2 ^ l + bit_xor leaf at ≡ bit_xor leaf at = rw (xor_self 1) (omega arith) in
    ap (λ top. bit_xor (top + leaf) (top + at)) (sym one) ∙ xor_block l 1 1 leaf at other small ∙ none

-- the leaves differ in their last m bits, and no fewer
shared : (l at leaf m : ℕ) → at < 2 ^ l → leaf < 2 ^ l → m ≤ l → bit_xor leaf at < 2 ^ m → 2 ^ m ≤ 2 * bit_xor leaf at + 1 → AreShared l at leaf (l - m)
shared l at leaf m small other low below above d within = either (cases_lt d (l - m + 1))
  where
    either : (d < l - m + 1) ⊎ (l - m + 1 ≤ d) → nat_eq (node_at l leaf d) (node_at l at d) ≡ nat_lt d (l - m + 1)
    either (inl before) =
        let up : 2 ^ m ≤ 2 ^ (l - d) = pow_mono (omega arith) in
        let bits = leaf_bits l at leaf small other in
        let fine : bit_xor (2 ^ l + leaf) (2 ^ l + at) < 2 ^ (l - d) = omega arith in
        rw (eq-eqb (node_at l leaf d) (node_at l at d) (cut_same (2 ^ l + leaf) (2 ^ l + at) (l - d) fine), lt-ltb d (l - m + 1) before) refl
    either (inr after) =
        rw (
          ne_eqb (node_at l leaf d) (node_at l at d) (λ same.
              let fine = differ_below (2 ^ l + leaf) (2 ^ l + at) (l - d) same in
              let bits = leaf_bits l at leaf small other in
              let up : 2 ^ (l - d + 1) ≤ 2 ^ m = pow_mono (omega arith) in
              let twice : 2 ^ (l - d + 1) ≡ 2 ^ (l - d) * 2 ^ 1 = pow-add 2 (l - d) 1 in
              omega arith),
          le-ltb d (l - m + 1) after,
        ) refl

-- how many that is
last_bits : (l at leaf : ℕ) → l ≤ 16 → at < 2 ^ l → leaf < 2 ^ l
    → (m : ℕ) × (32 - count_leading_zeros 32 (bit_xor leaf at) ≡ m) × (m ≤ l) × (bit_xor leaf at < 2 ^ m) × (2 ^ m ≤ 2 * bit_xor leaf at + 1)
last_bits l at leaf high small other =
    let top : 2 ^ l ≤ 2 ^ 16 = pow_mono high in
    let below : bit_xor leaf at < 2 ^ l = xor_lt l leaf at other small in
    let (m, sum, low, above) = leading_length 32 (bit_xor leaf at) (omega arith) in
    (m, omega arith, either m above (cases_lt m (l + 1)), low, above)
  where
    either : (m : ℕ) → 2 ^ m ≤ 2 * bit_xor leaf at + 1 → (m < l + 1) ⊎ (l + 1 ≤ m) → m ≤ l
    either m above (inl few) = omega arith
    either m above (inr many) =
        let below : bit_xor leaf at < 2 ^ l = xor_lt l leaf at other small in
        let up : 2 ^ (l + 1) ≤ 2 ^ m = pow_mono many in
        let twice : 2 ^ (l + 1) ≡ 2 ^ l * 2 ^ 1 = pow-add 2 l 1 in
        absurd (omega arith)

pub few_last_bits : (l at leaf : ℕ) → l ≤ 16 → at < 2 ^ l → leaf < 2 ^ l → 32 - count_leading_zeros 32 (bit_xor leaf at) ≤ l
few_last_bits l at leaf high small other = let (m, is, few, low, above) = last_bits l at leaf high small other in omega arith

pub shared_depth : (l at leaf : ℕ) → l ≤ 16 → at < 2 ^ l → leaf < 2 ^ l → AreShared l at leaf (l - (32 - count_leading_zeros 32 (bit_xor leaf at)))
shared_depth l at leaf high small other =
    let (m, is, few, low, above) = last_bits l at leaf high small other in
    subst (λ bits. AreShared l at leaf (l - bits)) (sym is) (shared l at leaf m small other few low above)

-- the node at a depth that both paths share has room, or hasn't; a deeper one isn't shared
pub shared_fits : (s : Shape) (at leaf depth d : ℕ) (lists : List (List Entry)) → AreShared s.l at leaf depth → d ≤ s.l → d ≤ depth
    → fits s at leaf lists d ≡ nat_lt (length (slice_index_or lists d [])) s.z
shared_fits s at leaf depth d lists both within low = rw (both d within, lt-ltb d (depth + 1) (omega arith)) refl

pub deeper_fails : (s : Shape) (at leaf depth d : ℕ) (lists : List (List Entry)) → AreShared s.l at leaf depth → d ≤ s.l → depth < d → fits s at leaf lists d ≡ false
deeper_fails s at leaf depth d lists both within deep = rw (both d within, le-ltb d (depth + 1) (omega arith)) refl
