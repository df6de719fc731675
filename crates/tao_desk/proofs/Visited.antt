-- The nodes that a scan meets: each once, and in the end all.
use Rattle.std.proofs.Common.{◌≡◌, ℕ, zero, suc, ◌+◌, ◌*◌, ◌^◌, ◌<◌, ◌≤◌, Bool, true, false, not, ◌&&◌, ◌||◌, ◌⊎◌, inl, inr, List, [], ◌∷◌, ◌++◌, length, nat_eq, refl, sym, ap, ap₂, ◌∙◌, subst, arith, add-one}
use Rattle.std.specs.List.{range_with_len, flat_map, list_any, IsDistinct, AllByRecursion}
use Rattle.std.proofs.Math.Nat.{pow-suc}
use Rattle.std.proofs.lemmas.Bool.{cases_lt, eq-eqb, eqb-true, ne_eqb, and_parts, or_parts, or_cases, or_left, or_right, true≢false}
use Rattle.std.proofs.lemmas.Grind.{flat_map-append}
use Rattle.std.proofs.lemmas.List.{append-nil}
use Rattle.std.proofs.lemmas.List.Folds.{list_any-append}
use Rattle.std.proofs.lemmas.Map.Steps.{length-le_from_distinct_below}
use Rattle.tao_base.specs.Tree.{path, is_on_path, node_at, node_count}
use Rattle.tao_bucket.proofs.Firsts.{range_more}
use Rattle.tao_contents.proofs.Looks.{on_path_is_node}
use Rattle.tao_contents.proofs.WrittenBack.{on_path_within}
use Rattle.tao_flush.proofs.PathNodes.{node_rises}
use Rattle.tao_images.specs.Answers.{is_met, first_met, visited}
use Rattle.tao_laws.proofs.Listings.{HasOnce, has_append, has_filter, once_append, once_filter, once_image}
use Rattle.tao_model.proofs.FallingPaths.{has, on_path_has}
use Rattle.tao_processor.proofs.MetNodes.{all_met}

-- ---- one leaf more

met_more : (l n w : ℕ) → is_met l (n + 1) w ≡ (is_met l n w || is_on_path l n w)
met_more l n w =
    ap (λ ns. list_any (λ smaller. is_on_path l smaller w) ns) (range_more n) ∙ list_any-append (λ smaller. is_on_path l smaller w) (range_with_len 0 n) (n ∷ [])
    ∙ ap (λ t. is_met l n w || t) (or_false (is_on_path l n w))
  where
    or_false : (t : Bool) → (t || false) ≡ t
    or_false true = refl
    or_false false = refl

pub visited_more : (l n : ℕ) → visited l (n + 1) ≡ visited l n ++ first_met l n
visited_more l n =
    ap (λ ns. flat_map (first_met l) ns) (range_more n) ∙ flat_map-append (first_met l) (range_with_len 0 n) (n ∷ [])
    ∙ ap (λ ws. visited l n ++ ws) (append-nil (first_met l n))

-- a node is visited exactly if one of the paths has it
pub visited_met : (l n w : ℕ) → has w (visited l n) ≡ is_met l n w
visited_met l zero w = refl
visited_met l (suc n) w = subst (λ m. has w (visited l m) ≡ is_met l m w) (add-one n) (more (visited_met l n w))
  where
    either : (a b : Bool) → (a || (not a && b)) ≡ (a || b)
    either true b = refl
    either false b = refl

    more : has w (visited l n) ≡ is_met l n w → has w (visited l (n + 1)) ≡ is_met l (n + 1) w
    more before =
        ap (has w) (visited_more l n) ∙ has_append w (visited l n) (first_met l n)
        ∙ ap₂ (λ a b. a || b) before (has_filter (λ node. not (is_met l n node)) w (path l n) ∙ ap (λ t. not (is_met l n w) && t) (sym (on_path_has l n w)))
        ∙ either (is_met l n w) (is_on_path l n w) ∙ sym (met_more l n w)

-- ---- no node twice

once_path : (l leaf : ℕ) → leaf < 2 ^ l → HasOnce (path l leaf)
once_path l leaf small = once_image (node_at l leaf) 0 (l + 1) (λ i j low less high same. let up = node_rises l leaf i j small less (omega arith) in omega (arith, up, same))

pub once_visited : (l n : ℕ) → n ≤ 2 ^ l → HasOnce (visited l n)
once_visited l zero small = tt
once_visited l (suc n) small = subst (λ m. HasOnce (visited l m)) (add-one n) (more (once_visited l n (omega (arith, small))))
  where
    apart : (w : ℕ) → has w (visited l n) ≡ true → has w (first_met l n) ≡ false
    apart w before =
        has_filter (λ node. not (is_met l n node)) w (path l n) ∙ ap (λ t. not t && has w (path l n)) (sym (visited_met l n w) ∙ before)

    more : HasOnce (visited l n) → HasOnce (visited l (n + 1))
    more before =
        subst HasOnce (sym (visited_more l n))
        (once_append (visited l n) (first_met l n) before (once_filter (λ node. not (is_met l n node)) (path l n) (once_path l n (omega (arith, small)))) apart)

-- ---- all nodes

depth_of : (l w : ℕ) → 1 ≤ w → w < 2 * 2 ^ l → (d : ℕ) × (2 ^ d ≤ w) × (w < 2 * 2 ^ d)
depth_of zero w low high = (0, low, high)
depth_of (suc l) w low high = either (depth_of l w low) (cases_lt w (2 ^ suc l))
  where
    either : (w < 2 * 2 ^ l → (d : ℕ) × (2 ^ d ≤ w) × (w < 2 * 2 ^ d)) → (w < 2 ^ suc l) ⊎ (2 ^ suc l ≤ w) → (d : ℕ) × (2 ^ d ≤ w) × (w < 2 * 2 ^ d)
    either below (inl above) = below (let half = pow-suc 2 l in omega (arith, half, above))
    either below (inr here) = (suc l, here, high)

pub all_visited : (l w : ℕ) → l ≤ 16 → 1 ≤ w → w ≤ node_count l → has w (visited l (2 ^ l)) ≡ true
all_visited l w short low high =
    let twice : 2 ^ (l + 1) ≡ 2 ^ l * 2 = ap (λ n. 2 ^ n) (add-one l) ∙ pow-suc 2 l in
    let d = depth_of l w low (omega (arith, twice, low, high)) in
    visited_met l (2 ^ l) w ∙ all_met l w d.0 short high d.1 d.2

-- ---- how many

pub within_visited : (l n w : ℕ) → n ≤ 2 ^ l → has w (visited l n) ≡ true → (1 ≤ w) × (w ≤ node_count l)
within_visited l zero w small on = absurd (true≢false (sym on))
within_visited l (suc n) w small on =
    either (within_visited l n w (omega (arith, small)))
    (or_cases (has w (visited l n)) (has w (first_met l n)) (sym (ap (λ m. has w (visited l m)) (sym (add-one n)) ∙ ap (has w) (visited_more l n) ∙ has_append w (visited l n) (first_met l n)) ∙ on))
  where
    either : (has w (visited l n) ≡ true → (1 ≤ w) × (w ≤ node_count l)) → (has w (visited l n) ≡ true) ⊎ (has w (first_met l n) ≡ true) → (1 ≤ w) × (w ≤ node_count l)
    either before (inl there) = before there
    either before (inr here) =
        let on_path : is_on_path l n w ≡ true = on_path_has l n w ∙ (and_parts (not (is_met l n w)) (has w (path l n)) (sym (has_filter (λ node. not (is_met l n node)) w (path l n)) ∙ here)).1 in
        (on_path_is_node l n w on_path, on_path_within l n w (omega (arith, small)) on_path)

-- nodes of the tree, each once, are no more than there are
distinct : (ns : List ℕ) → HasOnce ns → IsDistinct nat_eq ns
unfolding IsDistinct
distinct [] once = tt
distinct (n ∷ ns) once = (others ns once.0, distinct ns once.1)
  where
    others : (ms : List ℕ) → has n ms ≡ false → AllByRecursion (λ m. nat_eq n m ≡ false) ms
    others [] off = tt
    others (m ∷ ms) off = let parts = or_parts (nat_eq m n) (has n ms) off in (ne_eqb n m (λ same. true≢false (sym (eq-eqb m n (sym same)) ∙ parts.0)), others ms parts.1)

turned : (q : ℕ) (ms : List ℕ) → list_any (nat_eq q) ms ≡ true → has q ms ≡ true
turned q [] on = on
turned q (m ∷ ms) on = either (turned q ms) (or_cases (nat_eq q m) (list_any (nat_eq q) ms) on)
  where
    either : (list_any (nat_eq q) ms ≡ true → has q ms ≡ true) → (nat_eq q m ≡ true) ⊎ (list_any (nat_eq q) ms ≡ true) → (nat_eq m q || has q ms) ≡ true
    either rest (inl same) = or_left (nat_eq m q) (has q ms) (eq-eqb m q (sym (eqb-true q m same)))
    either rest (inr later) = or_right (nat_eq m q) (has q ms) (rest later)

pub few_nodes : (m : ℕ) (ns : List ℕ) → HasOnce ns → ((w : ℕ) → has w ns ≡ true → w ≤ m) → length ns ≤ m + 1
few_nodes m ns once within = length-le_from_distinct_below ns (m + 1) (distinct ns once) (λ q on. let low = within q (turned q ns on) in omega (arith, low))
