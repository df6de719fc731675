-- The nodes that the paths of smaller leaves have.
use Rattle.std.proofs.Common.{◌≡◌, ℕ, ◌+◌, ◌-◌, ◌*◌, ◌/◌, ◌%◌, ◌^◌, ◌<◌, ◌≤◌, Bool, true, false, refl, sym, ap, ap₂, ◌∙◌, subst, arith, nat_lt, zero-add, inl, inr, ◌⊎◌}
use Rattle.std.specs.List.{range_with_len}
use Rattle.std.proofs.Math.Nat.{mul-div_cancel, div-mul-le_self, mod-eq_of_lt}
use Rattle.std.proofs.Math.Pow.{pow_mono}
use Rattle.std.proofs.lemmas.Bool.{eqb-true, eq-eqb, cases_lt, lt-ltb, ltb-true}
use Rattle.std.proofs.lemmas.List.Folds.{list_any_at, Any-from_list_any}
use Rattle.std.proofs.lemmas.List.FromFn.{get_or-range_with_len, length-range_with_len}
use Rattle.std.proofs.lemmas.Nat.{pow_pos, pow-add, mul-le}
use Rattle.tao_base.specs.Tree.{is_on_path, node_at, node_count}
use Rattle.tao_base.proofs.TreeLemmas.{depth_within, on_path_depth, one_shifted}
use Rattle.tao_images.specs.Answers.{is_met}

both_ways : (a b : Bool) → (a ≡ true → b ≡ true) → (b ≡ true → a ≡ true) → a ≡ b
both_ways true b there back = sym (there refl)
both_ways false true there back = back refl
both_ways false false there back = refl

pub depth_low : (l node depth : ℕ) → node ≤ node_count l → 2 ^ depth ≤ node → depth ≤ l
depth_low l node depth within low = depth_within l node depth within low

-- the leaves below a node are numbers of 32 bits
shifted : (l node depth : ℕ) → l ≤ 16 → node ≤ node_count l → 2 ^ depth ≤ node → node < 2 * 2 ^ depth → (2 ^ l ≤ node * 2 ^ (l - depth)) × (node * 2 ^ (l - depth) < 2 * 2 ^ l) × (2 * 2 ^ l < 4294967296)
shifted l node depth short within low high =
    let shallow = depth_within l node depth within low in
    let m : ℕ = 2 ^ (l - depth) in
    let some : 0 < m = pow_pos (l - depth) in
    let sum : depth + (l - depth) ≡ l = omega (arith, shallow) in
    let whole : 2 ^ l ≡ 2 ^ depth * m = sym (ap (λ e. 2 ^ e) sum) ∙ pow-add 2 depth (l - depth) in
    let least : 2 ^ depth * m ≤ node * m = mul-le (2 ^ depth) m node m low (omega arith) in
    let most : node * m + m ≤ 2 * 2 ^ depth * m =
    let up : (node + 1) * m ≤ 2 * 2 ^ depth * m = mul-le (node + 1) m (2 * 2 ^ depth) m (omega (arith, high)) (omega arith) in
    let one : (node + 1) * m ≡ node * m + m = omega arith in omega (arith, up, one) in
    let twice : 2 * 2 ^ depth * m ≡ 2 * (2 ^ depth * m) = omega arith in
    let small : 2 ^ l ≤ 2 ^ 16 = pow_mono short in
    (omega (arith, least, whole), omega (arith, most, twice, whole, some), omega (arith, small))

pub first_low : (l node depth : ℕ) → l ≤ 16 → node ≤ node_count l → 2 ^ depth ≤ node → node < 2 * 2 ^ depth → 1 * 2 ^ l % 4294967296 ≤ node * 2 ^ (l - depth) % 4294967296
first_low l node depth short within low high =
    let all = shifted l node depth short within low high in
    let one : 1 * 2 ^ l % 4294967296 ≡ 2 ^ l = one_shifted l short in
    let whole : node * 2 ^ (l - depth) % 4294967296 ≡ node * 2 ^ (l - depth) = mod-eq_of_lt (omega (arith, all.1, all.2)) in
    omega (arith, one, whole, all.0)

-- a node is on a smaller path exactly if the first leaf below it is smaller
pub met_first : (l leaf node depth : ℕ) → l ≤ 16 → node ≤ node_count l → 2 ^ depth ≤ node → node < 2 * 2 ^ depth
    → nat_lt (node * 2 ^ (l - depth) % 4294967296 - 1 * 2 ^ l % 4294967296) leaf ≡ is_met l leaf node
met_first l leaf node depth short within low high =
    let all = shifted l node depth short within low high in
    ap₂ (λ a b. nat_lt (a - b) leaf) (mod-eq_of_lt (omega (arith, all.1, all.2))) (one_shifted l short)
    ∙ both_ways (nat_lt (node * m - 2 ^ l) leaf) (is_met l leaf node) there back
  where
    m : ℕ
    m = 2 ^ (l - depth)

    some : 0 < m
    some = pow_pos (l - depth)

    least : 2 ^ l ≤ node * m
    least = (shifted l node depth short within low high).0

    most : node * m < 2 * 2 ^ l
    most = (shifted l node depth short within low high).1

    there : nat_lt (node * m - 2 ^ l) leaf ≡ true → is_met l leaf node ≡ true
    there less =
        let first : ℕ = node * m - 2 ^ l in
        let earlier : first < leaf = ltb-true first leaf less in
        let sum : 2 ^ l + first ≡ node * m = omega (arith, least) in
        let here : node_at l first depth ≡ node = ap (λ n. n / m) sum ∙ mul-div_cancel node some in
        let small : first < 2 ^ l = omega (arith, least, most) in
        let on : is_on_path l first node ≡ true = on_path_depth l first node depth small within low high ∙ eq-eqb (node_at l first depth) node here in
        let long = length-range_with_len 0 leaf in
        list_any_at (λ smaller. is_on_path l smaller node) (range_with_len 0 leaf) first 0 (omega (arith, long, earlier))
        (ap (λ smaller. is_on_path l smaller node) (get_or-range_with_len 0 leaf first 0 earlier ∙ zero-add first) ∙ on)

    back : is_met l leaf node ≡ true → nat_lt (node * m - 2 ^ l) leaf ≡ true
    back met =
        let found = Any-from_list_any (λ smaller. is_on_path l smaller node) (range_with_len 0 leaf) met in
        let smaller : ℕ = found.1 in
        let long = length-range_with_len 0 leaf in
        let counted : smaller ≡ 0 + found.0 = sym found.3 ∙ get_or-range_with_len 0 leaf found.0 smaller (omega (arith, long, found.2)) in
        let earlier : smaller < leaf = omega (arith, counted, long, found.2) in
        either smaller earlier found.4 (cases_lt smaller (2 ^ l))
      where
        either : (smaller : ℕ) → smaller < leaf → is_on_path l smaller node ≡ true → (smaller < 2 ^ l) ⊎ (2 ^ l ≤ smaller) → nat_lt (node * m - 2 ^ l) leaf ≡ true
        either smaller earlier on (inl small) =
            let here : node_at l smaller depth ≡ node = eqb-true (node_at l smaller depth) node (sym (on_path_depth l smaller node depth small within low high) ∙ on) in
            let below : node * m ≤ 2 ^ l + smaller = subst (λ n. n * m ≤ 2 ^ l + smaller) here (div-mul-le_self (2 ^ l + smaller) m) in
            lt-ltb (node * m - 2 ^ l) leaf (omega (arith, below, earlier, least))
        either smaller earlier on (inr past) = lt-ltb (node * m - 2 ^ l) leaf (omega (arith, past, earlier, least, most))

-- each node of the tree is on some path
pub all_met : (l node depth : ℕ) → l ≤ 16 → node ≤ node_count l → 2 ^ depth ≤ node → node < 2 * 2 ^ depth → is_met l (2 ^ l) node ≡ true
all_met l node depth short within low high =
    let all = shifted l node depth short within low high in
    let one : 1 * 2 ^ l % 4294967296 ≡ 2 ^ l = one_shifted l short in
    let whole : node * 2 ^ (l - depth) % 4294967296 ≡ node * 2 ^ (l - depth) = mod-eq_of_lt (omega (arith, all.1, all.2)) in
    sym (met_first l (2 ^ l) node depth short within low high)
    ∙ lt-ltb (node * 2 ^ (l - depth) % 4294967296 - 1 * 2 ^ l % 4294967296) (2 ^ l) (omega (arith, one, whole, all.0, all.1))
