-- Paths fall from the leaf to the root, and the greatest node is the first from the leaf up.
use Rattle.std.proofs.Common.{◌≡◌, ℕ, zero, suc, ◌+◌, ◌*◌, ◌^◌, ◌<◌, ◌≤◌, Bool, true, false, ◌&&◌, ◌||◌, cond, List, [], ◌∷◌, ◌++◌, map, reverse, length, refl, sym, ap, ◌∙◌, arith, inl, inr, ◌⊎◌, nat_eq, nat_lt, add-one}
use Rattle.std.specs.List.{list_any, range_with_len}
use Rattle.std.proofs.lemmas.Bool.{ne_eqb, eq-eqb, cases_eq, cases_Bool, and_parts, eqb-true, lt-ltb, or_cases, true≢false, false_from_ne_true}
use Rattle.std.proofs.lemmas.List.{reverse-append}
use Rattle.std.proofs.lemmas.List.FromFn.{map-range_with_len_more}
use Rattle.std.proofs.lemmas.Nat.{pow_pos, pow-add}
use Rattle.tao_base.specs.Tree.{node_count, node_at, path, is_on_path}
use Rattle.tao_base.proofs.TreeLemmas.{node_low, node_high}
use Rattle.tao_model.specs.Placement.{may_load}
use Rattle.tao_model.specs.Passes.{Falls, spot, first_passing}
use Rattle.tao_model.specs.Evictions.{PathFalls, SpotIsFirst, LoadSpot}
use Rattle.tao_model.specs.Greatest.{IsGreatest}
use Rattle.tao_model.proofs.GreatestNumbers.{one_greatest}
use Rattle.tao_model.proofs.OnePass.{deepest_is}

-- whether a list has a node
abbrev pub has : ℕ → List ℕ → Bool
has w nodes = list_any (λ v. nat_eq v w) nodes

pub has_below : (k w : ℕ) (nodes : List ℕ) → Falls k nodes → has w nodes ≡ true → (0 < w) × (w < k)
has_below k w [] f h = absurd (true≢false (sym h))
has_below k w (v ∷ nodes) f h = either (has_below v w nodes f.2) (or_cases (nat_eq v w) (has w nodes) h)
  where
    either : (has w nodes ≡ true → (0 < w) × (w < v)) → (nat_eq v w ≡ true) ⊎ (has w nodes ≡ true) → (0 < w) × (w < k)
    either ih (inl same) = let here = eqb-true v w same in let low = f.0 in let high = f.1 in (omega arith, omega arith)
    either ih (inr later) = let rest = ih later in let low = rest.0 in let high = rest.1 in let next = f.1 in (low, omega arith)

falls_weaker : (j k : ℕ) (nodes : List ℕ) → j ≤ k → Falls j nodes → Falls k nodes
falls_weaker j k [] h f = tt
falls_weaker j k (w ∷ nodes) h f = (f.0, let less = f.1 in omega arith, f.2)

-- ---- a list and its reverse have the same nodes

has_append : (w : ℕ) (xs ys : List ℕ) → has w (xs ++ ys) ≡ (has w xs || has w ys)
has_append w [] ys = refl
has_append w (x ∷ xs) ys = either (nat_eq x w) (has_append w xs ys)
  where
    either : (t : Bool) → has w (xs ++ ys) ≡ (has w xs || has w ys) → (t || has w (xs ++ ys)) ≡ ((t || has w xs) || has w ys)
    either true ih = refl
    either false ih = ih

or_turned : (x y : Bool) → (x || y) ≡ (y || x)
or_turned true true = refl
or_turned true false = refl
or_turned false true = refl
or_turned false false = refl

or_false : (x : Bool) → (x || false) ≡ x
or_false true = refl
or_false false = refl

pub has_reverse : (w : ℕ) (nodes : List ℕ) → has w (reverse nodes) ≡ has w nodes
has_reverse w [] = refl
has_reverse w (v ∷ nodes) = ap (has w) (reverse-append (v ∷ []) nodes) ∙ has_append w (reverse nodes) (v ∷ []) ∙ ap (λ t. t || (nat_eq v w || false)) (has_reverse w nodes)
    ∙ ap (λ t. has w nodes || t) (or_false (nat_eq v w)) ∙ or_turned (has w nodes) (nat_eq v w)

eq_turned : (a b : ℕ) → nat_eq a b ≡ nat_eq b a
eq_turned a b = either (cases_eq a b)
  where
    either : (a ≡ b) ⊎ (a ≡ b → ⊥) → nat_eq a b ≡ nat_eq b a
    either (inl same) = eq-eqb a b same ∙ sym (eq-eqb b a (sym same))
    either (inr other) = ne_eqb a b other ∙ sym (ne_eqb b a (λ same. other (sym same)))

any_turned : (w : ℕ) (nodes : List ℕ) → list_any (nat_eq w) nodes ≡ has w nodes
any_turned w [] = refl
any_turned w (v ∷ nodes) = ap (λ t. t || list_any (nat_eq w) nodes) (eq_turned w v) ∙ ap (λ t. nat_eq v w || t) (any_turned w nodes)

pub on_path_has : (l leaf w : ℕ) → is_on_path l leaf w ≡ has w (path l leaf)
on_path_has l leaf w = any_turned w (path l leaf)

-- ---- a path

top_falls : (l leaf depth k : ℕ) → leaf < 2 ^ l → depth ≤ l + 1 → 2 ^ depth ≤ k → Falls k (reverse (map (node_at l leaf) (range_with_len 0 depth)))
top_falls l leaf zero k small h le = tt
top_falls l leaf (suc depth) k small h le =
    let more : map (node_at l leaf) (range_with_len 0 (suc depth)) ≡ map (node_at l leaf) (range_with_len 0 depth) ++ node_at l leaf depth ∷ [] =
    ap (λ n. map (node_at l leaf) (range_with_len 0 n)) (sym (add-one depth)) ∙ map-range_with_len_more (node_at l leaf) 0 depth depth (omega arith) in
    let low = node_low l leaf depth (omega arith) in
    let high = node_high l leaf depth small (omega arith) in
    let some = pow_pos depth in
    let twice : 2 ^ (depth + 1) ≡ 2 ^ depth * 2 ^ 1 = pow-add 2 depth 1 in
    let at : 2 ^ (suc depth) ≡ 2 ^ (depth + 1) = ap (λ n. 2 ^ n) (sym (add-one depth)) in
    let rest : Falls (node_at l leaf depth) (reverse (map (node_at l leaf) (range_with_len 0 depth))) = top_falls l leaf depth (node_at l leaf depth) small (omega arith) low in
    rw (more, reverse-append (map (node_at l leaf) (range_with_len 0 depth)) (node_at l leaf depth ∷ [])) (omega arith, omega arith, rest)

pub path_falls : PathFalls
path_falls l leaf small = let some = pow_pos (l + 1) in top_falls l leaf (l + 1) (node_count l + 1) small (omega arith) (omega arith)

-- ---- the greatest is the first of a falling list

-- `passes` is false for every node that isn't in the list
first_is : (passes : ℕ → Bool) (m : ℕ) (nodes : List ℕ) → Falls (m + 1) nodes → ((w : ℕ) → 0 < w → w ≤ m → passes w ≡ true → has w nodes ≡ true)
    → IsGreatest passes m (first_passing passes nodes)
first_is passes m [] f on = record {
  within = omega arith;
  here = inl refl;
  none = λ w above within. false_from_ne_true (passes w) (λ is. true≢false (sym (on w above within is)));
}
first_is passes m (v ∷ nodes) f on = either (cases_Bool (passes v)) (λ fails. first_is passes m nodes (falls_weaker v (m + 1) nodes (let less = f.1 in omega arith) f.2) (λ w low within is. later w fails is (or_cases (nat_eq v w) (has w nodes) (on w low within is))))
  where
    later : (w : ℕ) → passes v ≡ false → passes w ≡ true → (nat_eq v w ≡ true) ⊎ (has w nodes ≡ true) → has w nodes ≡ true
    later w fails is (inl same) = absurd (true≢false (sym is ∙ ap passes (sym (eqb-true v w same)) ∙ fails))
    later w fails is (inr h) = h

    either : (passes v ≡ true) ⊎ (passes v ≡ false) → (passes v ≡ false → IsGreatest passes m (first_passing passes nodes)) → IsGreatest passes m (first_passing passes (v ∷ nodes))
    either (inr fails) ih = rw fails (ih fails)
    either (inl is) ih = rw is (record {
      within = let less = f.1 in omega arith;
      here = inr is;
      none = λ w above within. false_from_ne_true (passes w) (λ passed. let below = (has_below (v + 1) w (v ∷ nodes) (f.0, omega arith, f.2) (on w (omega arith) within passed)).1 in omega arith);
    })

pub spot_is_first : SpotIsFirst
spot_is_first may m z contents b nodes f on =
    one_greatest (λ w. may b w && nat_lt (length (contents w)) z) m (spot may m z contents b) (first_passing (λ w. may b w && nat_lt (length (contents w)) z) nodes)
    (deepest_is (λ w. may b w && nat_lt (length (contents w)) z) m)
    (first_is (λ w. may b w && nat_lt (length (contents w)) z) m nodes f
    (λ w low within is. on w low within (and_parts (may b w) (nat_lt (length (contents w)) z) is).0))

-- tests that agree on a list find the same first node
first_same : (p q : ℕ → Bool) (nodes : List ℕ) → ((w : ℕ) → has w nodes ≡ true → p w ≡ q w) → first_passing p nodes ≡ first_passing q nodes
first_same p q [] h = refl
first_same p q (v ∷ nodes) h =
    rw (h v (rw (eq-eqb v v refl) refl)) (ap (λ r. cond (q v) v r) (first_same p q nodes (λ w in_rest. h w (or_later (nat_eq v w) (has w nodes) in_rest))))
  where
    or_later : (x y : Bool) → y ≡ true → (x || y) ≡ true
    or_later true y e = refl
    or_later false y e = e

pub load_spot : LoadSpot
load_spot s leaf contents b below small =
    spot_is_first (may_load s leaf) (node_count s.l) s.z contents b (reverse (path s.l (leaf b))) (path_falls s.l (leaf b) small)
    (λ w low within may_lie. has_reverse w (path s.l (leaf b)) ∙ sym (on_path_has s.l (leaf b) w) ∙ (and_parts (nat_lt b s.n) (is_on_path s.l (leaf b) w) may_lie).1)
    ∙ first_same (λ w. may_load s leaf b w && nat_lt (length (contents w)) s.z) (λ w. nat_lt (length (contents w)) s.z) (reverse (path s.l (leaf b)))
    (λ w on. rw (lt-ltb b s.n below, on_path_has s.l (leaf b) w ∙ sym (has_reverse w (path s.l (leaf b))) ∙ on) refl)
