-- Numbers of the nodes of a path, changed one by one from the root on.
use Rattle.std.proofs.Common.{◌≡◌, ℕ, ◌+◌, ◌-◌, ◌*◌, ◌^◌, ◌<◌, ◌≤◌, Bool, true, false, ◌||◌, nat_eq, cond, List, [], ◌∷◌, length, get_or, set, map, refl, sym, ap, ◌∙◌, subst, ⊎_elim, arith, zero-add}
use Rattle.std.proofs.Math.Pow.{pow_mono}
use Rattle.std.proofs.lemmas.Bool.{cases_eq, cases_Bool, eqb-true, eq-eqb, ne_eqb}
use Rattle.std.proofs.lemmas.List.{get_or-set_same, get_or-set_other}
use Rattle.std.proofs.lemmas.List.Folds.{list_any-append}
use Rattle.std.proofs.lemmas.List.FromFn.{get_or-map-range_with_len, length-map-range_with_len, map-range_with_len_more}
use Rattle.std.proofs.lemmas.Map.Views.{Contains-from_any, list_any-from_Contains}
use Rattle.std.proofs.lemmas.Nat.{pow-add}
use Rattle.std.specs.Cmp.{nat_eq_equiv}
use Rattle.std.specs.List.{list_any, range_with_len}
use Rattle.tao_base.specs.Tree.{is_on_path, node_at}
use Rattle.tao_base.proofs.TreeLemmas.{node_low, node_high}

-- whether a node is among the first d of the path to a leaf
abbrev pub on_first : ℕ → ℕ → ℕ → ℕ → Bool
on_first l leaf d node = list_any (nat_eq node) (map (node_at l leaf) (range_with_len 0 d))

or_here : (a b : Bool) → b ≡ true → (a || (b || false)) ≡ true
or_here true b h = refl
or_here false true h = refl
or_here false false h = h

or_other : (a b : Bool) → b ≡ false → (a || (b || false)) ≡ a
or_other true b h = refl
or_other false true h = h
or_other false false h = refl

more : (l leaf d node : ℕ) → on_first l leaf (d + 1) node ≡ (on_first l leaf d node || (nat_eq node (node_at l leaf d) || false))
more l leaf d node =
    ap (λ (nodes : List ℕ). list_any (nat_eq node) nodes) (map-range_with_len_more (node_at l leaf) 0 d d (zero-add d))
    ∙ list_any-append (nat_eq node) (map (node_at l leaf) (range_with_len 0 d)) (node_at l leaf d ∷ [])

more_here : (l leaf d node : ℕ) → node ≡ node_at l leaf d → on_first l leaf (d + 1) node ≡ true
more_here l leaf d node same = more l leaf d node ∙ or_here (on_first l leaf d node) (nat_eq node (node_at l leaf d)) (eq-eqb node (node_at l leaf d) same)

more_other : (l leaf d node : ℕ) → (node ≡ node_at l leaf d → ⊥) → on_first l leaf (d + 1) node ≡ on_first l leaf d node
more_other l leaf d node other = more l leaf d node ∙ or_other (on_first l leaf d node) (nat_eq node (node_at l leaf d)) (ne_eqb node (node_at l leaf d) other)

-- the node at a depth isn't one of those above it
pub fresh : (l leaf d : ℕ) → leaf < 2 ^ l → d < l + 1 → on_first l leaf d (node_at l leaf d) ≡ false
fresh l leaf d small deep = ⊎_elim
    (λ on.
    let x : ℕ = node_at l leaf d in
    let xs : List ℕ = map (node_at l leaf) (range_with_len 0 d) in
    let found = Contains-from_any eqb-true (node_at l leaf d) (map (node_at l leaf) (range_with_len 0 d)) on in
    let len : length (map (node_at l leaf) (range_with_len 0 d)) ≡ d = length-map-range_with_len (node_at l leaf) 0 d in
    let place : found.0 < length (map (node_at l leaf) (range_with_len 0 d)) = found.1 in
    let k_in : found.0 < d = omega arith in
    let at : node_at l leaf found.0 ≡ node_at l leaf d =
    sym (get_or-map-range_with_len (node_at l leaf) 0 d found.0 found.0 (node_at l leaf d) k_in (zero-add found.0)) ∙ found.2 in
    let up : 2 ^ (found.0 + 1) ≤ 2 ^ d = pow_mono (omega arith) in
    let twice : 2 ^ (found.0 + 1) ≡ 2 ^ found.0 * 2 ^ 1 = pow-add 2 found.0 1 in
    let high : node_at l leaf found.0 < 2 * 2 ^ found.0 = node_high l leaf found.0 small (omega arith) in
    let low : 2 ^ d ≤ node_at l leaf d = node_low l leaf d (omega arith) in
    absurd (omega arith))
    (λ off. off)
    (cases_Bool (on_first l leaf d (node_at l leaf d)))

-- the node at a depth is on the path
pub on_own_path : (l leaf d : ℕ) → d < l + 1 → is_on_path l leaf (node_at l leaf d) ≡ true
on_own_path l leaf d deep =
    list_any-from_Contains nat_eq_equiv (node_at l leaf d) (map (node_at l leaf) (range_with_len 0 (l + 1))) (
      d,
      (let len : length (map (node_at l leaf) (range_with_len 0 (l + 1))) ≡ l + 1 = length-map-range_with_len (node_at l leaf) 0 (l + 1) in omega arith),
      get_or-map-range_with_len (node_at l leaf) 0 (l + 1) d d (node_at l leaf d) deep (zero-add d),
    )

below : (l leaf d : ℕ) → leaf < 2 ^ l → d < l + 1 → node_at l leaf d < 2 ^ (l + 1)
below l leaf d small deep =
    let up : 2 ^ (d + 1) ≤ 2 ^ (l + 1) = pow_mono (omega arith) in
    let twice : 2 ^ (d + 1) ≡ 2 ^ d * 2 ^ 1 = pow-add 2 d 1 in
    let high : node_at l leaf d < 2 * 2 ^ d = node_high l leaf d small (omega arith) in
    omega arith

-- the first d were raised by 1, lowered by 1, or set to this number
abbrev pub Raised : List ℕ → List ℕ → ℕ → ℕ → ℕ → Type 0
Raised old new l leaf d = (node : ℕ) → get_or new node 0 ≡ get_or old node 0 + cond (on_first l leaf d node) 1 0

abbrev pub Lowered : List ℕ → List ℕ → ℕ → ℕ → ℕ → Type 0
Lowered old new l leaf d = (node : ℕ) → get_or new node 0 + cond (on_first l leaf d node) 1 0 ≡ get_or old node 0

abbrev pub Marked : List ℕ → List ℕ → ℕ → ℕ → ℕ → ℕ → Type 0
Marked old new t l leaf d = (node : ℕ) → get_or new node 0 ≡ cond (on_first l leaf d node) t (get_or old node 0)

pub raised_more : (old new : List ℕ) (l leaf d x : ℕ) → leaf < 2 ^ l → d < l + 1 → x ≡ node_at l leaf d → length new ≡ 2 ^ (l + 1) → Raised old new l leaf d
    → Raised old (set new x (get_or new x 0 + 1)) l leaf (d + 1)
raised_more old new l leaf d x small deep is len raised = λ node.
    let high = below l leaf d small deep in
    let within : x < length new = omega arith in
    ⊎_elim
    (λ (same : node ≡ x).
    let one : on_first l leaf (d + 1) node ≡ true = more_here l leaf d node (same ∙ is) in
    let none : on_first l leaf d x ≡ false = ap (λ w. on_first l leaf d w) is ∙ fresh l leaf d small deep in
    let was : get_or new x 0 ≡ get_or old x 0 + 0 = raised x ∙ ap (λ (b : Bool). get_or old x 0 + cond b 1 0) none in
    let now : get_or (set new x (get_or new x 0 + 1)) node 0 ≡ get_or new x 0 + 1 =
    ap (λ w. get_or (set new x (get_or new x 0 + 1)) w 0) same ∙ get_or-set_same new x (get_or new x 0 + 1) 0 within in
    let back : get_or old node 0 ≡ get_or old x 0 = ap (λ w. get_or old w 0) same in
    subst (λ (b : Bool). get_or (set new x (get_or new x 0 + 1)) node 0 ≡ get_or old node 0 + cond b 1 0) (sym one) (omega arith))
    (λ other.
    get_or-set_other new x node (get_or new x 0 + 1) 0 other ∙ raised node
    ∙ ap (λ (b : Bool). get_or old node 0 + cond b 1 0) (sym (more_other l leaf d node (λ same. other (same ∙ sym is)))))
    (cases_eq node x)

pub lowered_more : (old new : List ℕ) (l leaf d x : ℕ) → leaf < 2 ^ l → d < l + 1 → x ≡ node_at l leaf d → length new ≡ 2 ^ (l + 1) → 1 ≤ get_or new x 0 → Lowered old new l leaf d
    → Lowered old (set new x (get_or new x 0 - 1)) l leaf (d + 1)
lowered_more old new l leaf d x small deep is len some lowered = λ node.
    let high = below l leaf d small deep in
    let within : x < length new = omega arith in
    ⊎_elim
    (λ (same : node ≡ x).
    let one : on_first l leaf (d + 1) node ≡ true = more_here l leaf d node (same ∙ is) in
    let none : on_first l leaf d x ≡ false = ap (λ w. on_first l leaf d w) is ∙ fresh l leaf d small deep in
    let was : get_or new x 0 + 0 ≡ get_or old x 0 = sym (ap (λ (b : Bool). get_or new x 0 + cond b 1 0) none) ∙ lowered x in
    let now : get_or (set new x (get_or new x 0 - 1)) node 0 ≡ get_or new x 0 - 1 =
    ap (λ w. get_or (set new x (get_or new x 0 - 1)) w 0) same ∙ get_or-set_same new x (get_or new x 0 - 1) 0 within in
    let back : get_or old node 0 ≡ get_or old x 0 = ap (λ w. get_or old w 0) same in
    subst (λ (b : Bool). get_or (set new x (get_or new x 0 - 1)) node 0 + cond b 1 0 ≡ get_or old node 0) (sym one) (omega arith))
    (λ other.
    let keep : get_or (set new x (get_or new x 0 - 1)) node 0 ≡ get_or new node 0 = get_or-set_other new x node (get_or new x 0 - 1) 0 other in
    let first : on_first l leaf (d + 1) node ≡ on_first l leaf d node = more_other l leaf d node (λ same. other (same ∙ sym is)) in
    ap (λ (b : Bool). get_or (set new x (get_or new x 0 - 1)) node 0 + cond b 1 0) first ∙ ap (λ n. n + cond (on_first l leaf d node) 1 0) keep ∙ lowered node)
    (cases_eq node x)

pub marked_more : (old new : List ℕ) (t l leaf d x : ℕ) → leaf < 2 ^ l → d < l + 1 → x ≡ node_at l leaf d → length new ≡ 2 ^ (l + 1) → Marked old new t l leaf d
    → Marked old (set new x t) t l leaf (d + 1)
marked_more old new t l leaf d x small deep is len marked = λ node.
    let high = below l leaf d small deep in
    let within : x < length new = omega arith in
    ⊎_elim
    (λ (same : node ≡ x).
    ap (λ w. get_or (set new x t) w 0) same ∙ get_or-set_same new x t 0 within
    ∙ sym (ap (λ (b : Bool). cond b t (get_or old node 0)) (more_here l leaf d node (same ∙ is))))
    (λ other.
    get_or-set_other new x node t 0 other ∙ marked node
    ∙ ap (λ (b : Bool). cond b t (get_or old node 0)) (sym (more_other l leaf d node (λ same. other (same ∙ sym is)))))
    (cases_eq node x)

pub next_lowered : (old new : List ℕ) (l leaf d x : ℕ) → leaf < 2 ^ l → d < l + 1 → x ≡ node_at l leaf d → ((node : ℕ) → is_on_path l leaf node ≡ true → 1 ≤ get_or old node 0)
    → Lowered old new l leaf d → 1 ≤ get_or new x 0
next_lowered old new l leaf d x small deep is some lowered =
    let none : on_first l leaf d x ≡ false = ap (λ w. on_first l leaf d w) is ∙ fresh l leaf d small deep in
    let was : get_or new x 0 + 0 ≡ get_or old x 0 = sym (ap (λ (b : Bool). get_or new x 0 + cond b 1 0) none) ∙ lowered x in
    let one : 1 ≤ get_or old x 0 = some x (ap (λ w. is_on_path l leaf w) is ∙ on_own_path l leaf d deep) in
    omega arith
