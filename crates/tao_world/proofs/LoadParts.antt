-- A tree that is loaded part after part, and an order that is applied bucket after bucket.
use Rattle.std.proofs.Common.{◌≡◌, ℕ, ◌+◌, ◌*◌, ◌/◌, ◌<◌, ◌≤◌, List, [], ◌∷◌, length, map, fold, take, drop, slice_index, All, refl, sym, ap, ◌∙◌, subst, arith}
use Rattle.std.specs.List.{range_with_len}
use Rattle.std.proofs.lemmas.List.{take_all, length-take, length-drop}
use Rattle.std.proofs.lemmas.List.Elements.{All-take, All-drop, All-nil, All-get_or}
use Rattle.std.proofs.lemmas.List.FromFn.{map-range_with_len_more}
use Rattle.std.proofs.lemmas.List.Sums.{fold-append}
use Rattle.std.proofs.Math.Nat.{mul-div_left}
use Rattle.std.proofs.Math.Seq.{take-add}
use Rattle.tao_base.specs.Buckets.{IsInForm}
use Rattle.tao_base.specs.Images.{bucket_in}
use Rattle.tao_base.specs.Limits.{Shape, IsShape, bucket_len}
use Rattle.tao_base.specs.Links.{IsSendable, FitsLinks, header_node}
use Rattle.tao_base.specs.Tree.{node_count}
use Rattle.tao_base.specs.declared.storage.Bucket.{Bucket}
use Rattle.tao_base.specs.declared.storage.Order.{Order}
use Rattle.tao_base.proofs.ImageLemmas.{header_within}
use Rattle.tao_bucket.specs.Encoding.{format_of}
use Rattle.tao_images.specs.Orders.{IsOrderOf}
use Rattle.tao_images.specs.Paths.{piece}
use Rattle.tao_tree.specs.Nodes.{TreeState, applied, bucket_applied, all_applied, reach_of}
use Rattle.tao_world.specs.Changes.{image_of}
use Rattle.tao_world.proofs.LoadedTrees.{applied_by_nodes, parts_join}

-- a link to the tree takes the order
pub sent : (s : Shape) (order : Order) → FitsLinks s order → IsSendable (reach_of s) order
sent s order fits = fits (reach_of s) (record { height = refl; bucket_len = refl; most = omega arith })

-- the bucket lies within the image
pub bucket_within : (len i count total : ℕ) → i < count → total ≡ count * len → i * len + len ≤ total
bucket_within len i count total below all = grind arith

pub cut_len : (len i : ℕ) (image : List ℕ) → i * len + len ≤ length image → length (bucket_in len image i) ≡ len
cut_len len i image within =
    let rest = length-drop (i * len) image in
    let cut = length-take len (drop (i * len) image) in
    omega arith

-- the node is one of the tree
pub node_within : (s : Shape) (order : Order) (i : ℕ) (nodes : List ℕ) → FitsLinks s order → i < length order.nodes → nodes ≡ order.nodes
    → (1 ≤ slice_index nodes i) × (slice_index nodes i ≤ node_count s.l)
node_within s order i nodes fits below same =
    subst (λ (ws : List ℕ). (1 ≤ slice_index ws i) × (slice_index ws i ≤ node_count s.l)) (sym same)
    (All-get_or (λ w. (1 ≤ w) × (w ≤ node_count s.l)) order.nodes i 0 below (sent s order fits).nodes)

module _ (order : Order) (first : TreeState) (fits : FitsLinks first.shape order) where
  -- the tree with the first buckets applied, so many
  abbrev pub with_first : ℕ → TreeState
  with_first i = fold (bucket_applied order.version) first (map (bucket_in (bucket_len first.shape) order.image) (range_with_len 0 i))

  named : (i : ℕ) → i < length order.nodes → header_node (bucket_in (bucket_len first.shape) order.image i) ≡ slice_index order.nodes i
  named i below = header_within (bucket_len first.shape) (i * bucket_len first.shape) order.image (omega arith) ∙ (sent first.shape order fits).headers i below

  pub bucket_more : (i : ℕ) (tree new : TreeState) → i < length order.nodes → tree.shape ≡ first.shape → tree ≡ with_first i
      → new ≡ applied tree order.version (slice_index order.nodes i) (piece tree.shape order.image i) → new ≡ with_first (i + 1)
  bucket_more i tree new below same before now =
      now ∙ ap (λ s. applied tree order.version (slice_index order.nodes i) (piece s order.image i)) same
      ∙ ap (λ w. applied tree order.version w (piece first.shape order.image i)) (sym (named i below))
      ∙ ap (λ t. bucket_applied order.version t (bucket_in (bucket_len first.shape) order.image i)) before
      ∙ sym
      (ap (fold (bucket_applied order.version) first) (map-range_with_len_more (bucket_in (bucket_len first.shape) order.image) 0 i i (omega arith))
      ∙ fold-append (bucket_applied order.version) first (map (bucket_in (bucket_len first.shape) order.image) (range_with_len 0 i)) (bucket_in (bucket_len first.shape) order.image i ∷ []))

  pub all_buckets : with_first (length order.nodes) ≡ all_applied first order.version order.image
  all_buckets =
      let count : length order.image / bucket_len first.shape ≡ length order.nodes =
      ap (λ n. n / bucket_len first.shape) (sent first.shape order fits).image ∙ mul-div_left (length order.nodes) {n = bucket_len first.shape} (omega arith) in
      ap with_first (sym count)

module _ (key : List ℕ) (s : Shape) (loaded : List Bucket) (first : TreeState) (shape : IsShape s) (same : first.shape ≡ s) (forms : All (IsInForm s) loaded) where
  -- the tree with the first buckets of the load, so many
  abbrev pub with_load : ℕ → TreeState
  with_load count = all_applied first 0 (image_of key s 0 (take count loaded))

  pub no_part : with_load 0 ≡ first
  no_part = applied_by_nodes key s (format_of s.form 0) shape 0 [] first same (All-nil (IsInForm s))

  pub part_more : (part : ℕ) (tree : TreeState) (order : Order) → tree ≡ with_load (256 * part) → IsOrderOf key s 0 (256 * part + 1) (take 256 (drop (256 * part) loaded)) order
      → all_applied tree order.version order.image ≡ with_load (256 * (part + 1))
  part_more part tree order before is =
      let next : 256 * part + 256 ≡ 256 * (part + 1) = omega arith in
      ap (λ (o : Order). all_applied tree o.version o.image) is
      ∙ ap (λ t. all_applied t 0 (image_of key s 0 (take 256 (drop (256 * part) loaded)))) before
      ∙ parts_join key s 0 (take (256 * part) loaded) (take 256 (drop (256 * part) loaded)) first shape same (All-take (IsInForm s) (256 * part) loaded forms)
      (All-take (IsInForm s) 256 (drop (256 * part) loaded) (All-drop (IsInForm s) (256 * part) loaded forms))
      ∙ ap (λ bs. all_applied first 0 (image_of key s 0 bs)) (sym (take-add (256 * part) 256 loaded) ∙ ap (λ n. take n loaded) next)

  pub all_parts : (parts : ℕ) → length loaded ≤ 256 * parts → with_load (256 * parts) ≡ all_applied first 0 (image_of key s 0 loaded)
  all_parts parts enough = ap (λ bs. all_applied first 0 (image_of key s 0 bs)) (take_all (256 * parts) loaded enough)
