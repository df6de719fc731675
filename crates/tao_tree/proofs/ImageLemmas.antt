-- An image that is applied bucket after bucket.
use Rattle.std.proofs.Common.{◌≡◌, ℕ, zero, suc, ◌+◌, ◌-◌, ◌*◌, ◌/◌, ◌%◌, ◌<◌, ◌≤◌, List, [], ◌∷◌, ◌++◌, length, map, fold, take, drop, slice_index, slice_set, Some, Bool, true, false, if◌then◌else◌, refl, sym, ap, ◌∙◌, subst, arith, length-append}
use Rattle.std.specs.List.{All, range_with_len}
use Rattle.std.proofs.lemmas.List.Elements.{All-cons, All-get_or, All-nil}
use Rattle.std.proofs.lemmas.List.FromFn.{map-range_with_len_more}
use Rattle.std.proofs.lemmas.List.Sums.{fold-append}
use Rattle.std.proofs.Math.Seq.{take-append_seam, drop-append_seam}
use Rattle.std.proofs.Math.Nat.{mul-mod_left, mul-div_left}
use Rattle.tao_base.specs.Images.{bucket_in}
use Rattle.tao_base.specs.Limits.{Shape, bucket_len}
use Rattle.tao_base.specs.Links.{IsSendable, header_node}
use Rattle.tao_base.specs.Tree.{node_count}
use Rattle.tao_base.specs.declared.storage.Order.{Order}
use Rattle.tao_base.proofs.ImageLemmas.{header_within}
use Rattle.tao_tree.specs.Nodes.{TreeState, applied, bucket_applied, holding, is_newer, version_at, IsTreeImage, reach_of}

-- a write leaves the parameters
pub applied_shape : (tree : TreeState) (version node : ℕ) (bytes : List ℕ) → (applied tree version node bytes).shape ≡ tree.shape
applied_shape tree version node bytes =
    elim (is_newer version (version_at tree node)) as (λ (newer : Bool). (if newer then record tree { held = slice_set tree.held (node - 1) (Some (holding version bytes)) } else tree).shape ≡ tree.shape)
    [ true ↦ refl | false ↦ refl ]

-- one more bucket of the image
pub applied_more : (version i n len node : ℕ) (first tree new : TreeState) (image bucket : List ℕ) → n ≡ len → tree ≡ fold (bucket_applied version) first (map (bucket_in len image) (range_with_len 0 i))
    → node ≡ header_node bucket → bucket ≡ take (i * n + n - i * n) (drop (i * n) image) → new ≡ applied tree version node bucket
    → new ≡ fold (bucket_applied version) first (map (bucket_in len image) (range_with_len 0 (i + 1)))
applied_more version i n len node first tree new image bucket same before w part now =
    let k : i * n + n - i * n ≡ n = omega arith in
    let here : bucket ≡ bucket_in len image i = part ∙ ap (λ m. take m (drop (i * n) image)) k ∙ ap (λ m. take m (drop (i * m) image)) same in
    let last : new ≡ bucket_applied version tree (bucket_in len image i) = now ∙ ap (λ v. applied tree version v bucket) w ∙ ap (bucket_applied version tree) here in
    last ∙ ap (λ t. bucket_applied version t (bucket_in len image i)) before
    ∙ sym (ap (fold (bucket_applied version) first) (map-range_with_len_more (bucket_in len image) 0 i i (omega arith)) ∙ fold-append (bucket_applied version) first (map (bucket_in len image) (range_with_len 0 i)) (bucket_in len image i ∷ []))

-- an order that may be sent is whole buckets of nodes of the tree
pub sendable_whole : (s : Shape) (order : Order) (image : List ℕ) → image ≡ order.image → 8 ≤ bucket_len s → IsSendable (reach_of s) order → IsTreeImage s image
sendable_whole s order image same h sendable =
    let len = bucket_len s in
    let size : length image ≡ length order.nodes * len = ap length same ∙ sendable.image in
    let count : length image / len ≡ length order.nodes = ap (λ n. n / len) size ∙ mul-div_left (length order.nodes) {n = len} (omega arith) in
    let head : (i : ℕ) → i < length order.nodes → header_node (bucket_in len image i) ≡ slice_index order.nodes i =
    λ i below. header_within len (i * len) image h ∙ ap (λ b. header_node (drop (i * len) b)) same ∙ sendable.headers i below in
    record {
      whole = ap (λ n. n % len) size ∙ mul-mod_left (length order.nodes) len;
      low = λ i below. let e = head i (omega arith) in let within = All-get_or (λ w. (1 ≤ w) × (w ≤ node_count s.l)) order.nodes i 0 (omega arith) sendable.nodes in omega (arith, e, within.0);
      high = λ i below. let e = head i (omega arith) in let within = All-get_or (λ w. (1 ≤ w) × (w ≤ node_count s.l)) order.nodes i 0 (omega arith) sendable.nodes in omega (arith, e, within.1);
    }

-- the nodes of two buckets that lie one behind another
pub two_headers : (len : ℕ) (first second : List ℕ) → 8 ≤ len → length first ≡ len → (i : ℕ) → i < 2
    → header_node (drop (i * len) (first ++ second)) ≡ slice_index (header_node first ∷ header_node second ∷ []) i
two_headers len first second h size zero below =
    let none : 0 * len ≡ 0 = omega arith in
    ap (λ n. header_node (drop n (first ++ second))) none ∙ sym (header_within len 0 (first ++ second) h) ∙ ap header_node (ap (λ n. take n (first ++ second)) (sym size) ∙ take-append_seam first second)
two_headers len first second h size (suc zero) below =
    let once : 1 * len ≡ length first = omega (arith, size) in
    ap (λ n. header_node (drop n (first ++ second))) once ∙ ap header_node (drop-append_seam first second)
two_headers len first second h size (suc (suc i)) below = absurd (omega arith)

-- one bucket of a node of the tree is an order that may be sent
pub sendable_one : (s : Shape) (order : Order) (bucket : List ℕ) (node : ℕ) → 1 ≤ node_count s.l → length bucket ≡ bucket_len s → node ≡ header_node bucket → (1 ≤ node) × (node ≤ node_count s.l)
    → order.nodes ≡ node ∷ [] → order.image ≡ bucket → IsSendable (reach_of s) order
sendable_one s order bucket node one size here in_tree nodes image =
    let count : length order.nodes ≡ 1 = ap length nodes in
    let once : length order.nodes * bucket_len s ≡ 1 * bucket_len s = ap (λ n. n * bucket_len s) count in
    let all : All (λ w. (1 ≤ w) × (w ≤ node_count s.l)) (node ∷ []) = All-cons (λ w. (1 ≤ w) × (w ≤ node_count s.l)) node [] in_tree (All-nil (λ w. (1 ≤ w) × (w ≤ node_count s.l))) in
    record {
      few = omega (arith, count, one);
      nodes = subst (All (λ w. (1 ≤ w) × (w ≤ node_count s.l))) (sym nodes) all;
      image = ap length image ∙ omega (arith, once, size);
      headers = λ i below.
          let first : i ≡ 0 = omega (arith, count, below) in
          let none : i * bucket_len s ≡ 0 = ap (λ n. n * bucket_len s) first ∙ omega arith in
          ap (λ n. header_node (drop n order.image)) none ∙ ap header_node image ∙ sym here ∙ sym (ap (λ ws. slice_index ws 0) nodes) ∙ ap (slice_index order.nodes) (sym first);
    }

-- two buckets of nodes of the tree are an order that may be sent
pub sendable_two : (s : Shape) (order : Order) (first second : List ℕ) (node next : ℕ) → 8 ≤ bucket_len s → 2 ≤ node_count s.l → length first ≡ bucket_len s → length second ≡ bucket_len s
    → node ≡ header_node first → next ≡ header_node second → (1 ≤ node) × (node ≤ node_count s.l) → (1 ≤ next) × (next ≤ node_count s.l)
    → order.nodes ≡ node ∷ next ∷ [] → order.image ≡ first ++ second → IsSendable (reach_of s) order
sendable_two s order first second node next h two size size_two here there in_tree in_tree_two nodes image =
    let count : length order.nodes ≡ 2 = ap length nodes in
    let twice : length order.nodes * bucket_len s ≡ 2 * bucket_len s = ap (λ n. n * bucket_len s) count in
    let both : order.nodes ≡ header_node first ∷ header_node second ∷ [] = nodes ∙ ap (λ w. w ∷ next ∷ []) here ∙ ap (λ w. header_node first ∷ w ∷ []) there in
    let all : All (λ w. (1 ≤ w) × (w ≤ node_count s.l)) (node ∷ next ∷ []) = All-cons (λ w. (1 ≤ w) × (w ≤ node_count s.l)) node (next ∷ []) in_tree (All-cons (λ w. (1 ≤ w) × (w ≤ node_count s.l)) next [] in_tree_two (All-nil (λ w. (1 ≤ w) × (w ≤ node_count s.l)))) in
    record {
      few = omega (arith, count, two);
      nodes = subst (All (λ w. (1 ≤ w) × (w ≤ node_count s.l))) (sym nodes) all;
      image = ap length image ∙ length-append first second ∙ omega (arith, twice, size, size_two);
      headers = λ i below. ap (λ b. header_node (drop (i * bucket_len s) b)) image ∙ two_headers (bucket_len s) first second h size i (omega (arith, count, below)) ∙ ap (λ ws. slice_index ws i) (sym both);
    }
