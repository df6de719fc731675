-- The load, applied to an empty tree.
use Rattle.std.proofs.Common.{◌≡◌, ℕ, zero, suc, ◌+◌, ◌-◌, ◌*◌, ◌/◌, ◌<◌, ◌≤◌, true, false, ◌&&◌, cond, List, ◌∷◌, [], map, length, get_or, set, take, drop, replicate, All, Option, Some, None, refl, sym, ap, ap₂, ◌∙◌, subst, arith, nat_lt, inl, inr, ◌⊎◌, ◌++◌}
use Rattle.std.specs.List.{fold, flat_map, range_with_len, AllByRecursion}
use Rattle.std.specs.Prelude.{nat_le}
use Rattle.std.proofs.Math.Nat.{mul-div_cancel}
use Rattle.std.specs.Option.{option_map}
use Rattle.std.proofs.lemmas.Bool.{and_left, and_right, le-ltb, lt-leb, cases_lt}
use Rattle.std.proofs.lemmas.List.{append-nil, take_at, drop_at, drop-drop, length-map, get_or-map, length-replicate, length-set, get_or-set_same, get_or-set_other, get_or-replicate, get_or_past}
use Rattle.std.proofs.lemmas.List.FromFn.{get_or-range_with_len, length-range_with_len}
use Rattle.std.proofs.lemmas.List.Elements.{All-head, All-tail, All-append}
use Rattle.std.proofs.lemmas.List.Sums.{fold-append}
use Rattle.tao_base.specs.declared.storage.Bucket.{Bucket}
use Rattle.tao_base.specs.Buckets.{IsInForm}
use Rattle.tao_base.specs.Images.{bucket_in, buckets_in}
use Rattle.tao_base.specs.Limits.{Shape, IsShape, bucket_len}
use Rattle.tao_base.specs.Links.{header_node}
use Rattle.tao_base.specs.Session.{Opening}
use Rattle.tao_base.specs.Tree.{node_count}
use Rattle.tao_base.proofs.ImageLemmas.{length_joined}
use Rattle.tao_bucket.specs.Encoding.{encoded, format_of}
use Rattle.tao_bucket.proofs.Whole.{encoded_parts}
use Rattle.tao_model.specs.Events.{is_under_way, is_outstanding}
use Rattle.tao_model.specs.Residence.{bucket_of}
use Rattle.tao_model.specs.Trace.{nodes_in}
use Rattle.tao_laws.proofs.Listings.{HasOnce, once_range}
use Rattle.tao_images.proofs.OrderLemmas.{lengths}
use Rattle.tao_schedule.specs.Schedules.{IsSchedule}
use Rattle.tao_tree.specs.Nodes.{TreeState, Held, holding, held_at, held_version, version_at, bytes_at, bytes_of, empty_tree, is_newer, applied, bucket_applied, all_applied}
use Rattle.tao_world.specs.State.{row_at}
use Rattle.tao_world.specs.Shows.{Shows, ShowsNode, ShowsStore}
use Rattle.tao_world.specs.Changes.{Opens}
use Rattle.tao_world.specs.Laws.{OpensShows, begun, PartsJoin}
use Rattle.tao_world.proofs.WriteBacks.{found_at}
use Rattle.tao_world.proofs.AppliedWrites.{kept_shape}

-- ---- an image cut into its buckets

module _ {X : Type 0} (bytes : X → List ℕ) (len : ℕ) (some : 0 < len) (image : List ℕ) where
  cut_from : (xs : List X) (a : ℕ) → AllByRecursion (λ x. length (bytes x) ≡ len) xs → drop (a * len) image ≡ flat_map bytes xs
      → map (bucket_in len image) (range_with_len a (length xs)) ≡ map bytes xs
  cut_from [] a all is = refl
  cut_from (x ∷ xs) a all is =
      let next : (a + 1) * len ≡ a * len + len = omega arith in
      ap₂ (λ (b : List ℕ) bs. b ∷ bs) (ap (take len) is ∙ take_at (bytes x) (flat_map bytes xs) len all.0)
      (cut_from xs (a + 1) all.1 (ap (λ n. drop n image) next ∙ sym (drop-drop len (a * len) image) ∙ ap (drop len) is ∙ drop_at (bytes x) (flat_map bytes xs) len all.0))

cut : {X : Type 0} (bytes : X → List ℕ) (len : ℕ) (xs : List X) → 0 < len → AllByRecursion (λ x. length (bytes x) ≡ len) xs → buckets_in len (flat_map bytes xs) ≡ map bytes xs
cut bytes len xs some all =
    let count : length (flat_map bytes xs) / len ≡ length xs = ap (λ n. n / len) (length_joined bytes len xs all) ∙ mul-div_cancel (length xs) some in
    let none : 0 * len ≡ 0 = omega arith in
    ap (λ n. map (bucket_in len (flat_map bytes xs)) (range_with_len 0 n)) count ∙ cut_from bytes len some (flat_map bytes xs) xs 0 all (ap (λ n. drop n (flat_map bytes xs)) none)

-- ---- buckets applied one after another

module _ (key : List ℕ) (s : Shape) (format : ℕ) (shape : IsShape s) where
  abbrev put : ℕ → TreeState → Bucket → TreeState
  put version tree bucket = applied tree version bucket.node (encoded key s format bucket)

  by_nodes : (version : ℕ) (buckets : List Bucket) (tree : TreeState) → All (IsInForm s) buckets → fold (bucket_applied version) tree (map (encoded key s format) buckets) ≡ fold (put version) tree buckets
  by_nodes version [] tree forms = refl
  by_nodes version (b ∷ buckets) tree forms =
      let bytes = encoded key s format b in
      let named : header_node bytes ≡ b.node = ap header_node (sym (append-nil bytes)) ∙ (encoded_parts key s format b shape (All-head (IsInForm s) b buckets forms)).1 [] in
      ap (λ w. fold (bucket_applied version) (applied tree version w bytes) (map (encoded key s format) buckets)) named
      ∙ by_nodes version buckets (put version tree b) (All-tail (IsInForm s) b buckets forms)

  pub applied_by_nodes : (version : ℕ) (buckets : List Bucket) (tree : TreeState) → tree.shape ≡ s → All (IsInForm s) buckets
      → all_applied tree version (flat_map (encoded key s format) buckets) ≡ fold (put version) tree buckets
  applied_by_nodes version buckets tree same forms =
      ap (λ x. fold (bucket_applied version) tree (buckets_in (bucket_len x) (flat_map (encoded key s format) buckets))) same
      ∙ ap (fold (bucket_applied version) tree) (cut (encoded key s format) (bucket_len s) buckets (omega arith) (lengths key s format shape buckets forms))
      ∙ by_nodes version buckets tree forms

  put_shape : (version : ℕ) (buckets : List Bucket) (tree : TreeState) → (fold (put version) tree buckets).shape ≡ tree.shape
  put_shape version [] tree = refl
  put_shape version (b ∷ buckets) tree = put_shape version buckets (put version tree b) ∙ kept_shape tree version b.node (encoded key s format b) (is_newer version (version_at tree b.node))

  pub joins : (version : ℕ) (first rest : List Bucket) (tree : TreeState) → tree.shape ≡ s → All (IsInForm s) first → All (IsInForm s) rest
      → all_applied (all_applied tree version (flat_map (encoded key s format) first)) version (flat_map (encoded key s format) rest) ≡ all_applied tree version (flat_map (encoded key s format) (first ++ rest))
  joins version first rest tree same forms forms' =
      ap (λ t. all_applied t version (flat_map (encoded key s format) rest)) (applied_by_nodes version first tree same forms)
      ∙ applied_by_nodes version rest (fold (put version) tree first) (put_shape version first tree ∙ same) forms'
      ∙ sym (fold-append (put version) tree first rest)
      ∙ sym (applied_by_nodes version (first ++ rest) tree same (All-append (IsInForm s) first rest forms forms'))

  -- nodes from k on get the buckets, and those before stay
  record IsFilled (k : ℕ) (buckets : List Bucket) (before now : TreeState) : Type 0 where
    same_shape : now.shape ≡ before.shape
    earlier : (w : ℕ) → 1 ≤ w → w < k → held_at now w ≡ held_at before w
    own : (j : ℕ) (d : Bucket) → j < length buckets → held_at now (k + j) ≡ Some (holding 0 (encoded key s format (get_or buckets j d)))

  -- one more bucket, at node k
  abbrev with_first : ℕ → TreeState → Bucket → TreeState
  with_first k tree b = record tree { held = set tree.held (k - 1) (Some (holding 0 (encoded key s format b))) }

  filled_more : (b : Bucket) (buckets : List Bucket) (k : ℕ) (tree : TreeState) → b.node ≡ k → 1 ≤ k → k - 1 < length tree.held → held_at tree k ≡ None
      → IsFilled (k + 1) buckets (with_first k tree b) (fold (put 0) (with_first k tree b) buckets) → IsFilled k (b ∷ buckets) tree (fold (put 0) tree (b ∷ buckets))
  filled_more b buckets k tree node some room empty rest =
      subst (λ t. IsFilled k (b ∷ buckets) tree (fold (put 0) t buckets)) (sym first) (record {
        same_shape = rest.same_shape;
        earlier = λ w low less. rest.earlier w low (omega arith) ∙ get_or-set_other tree.held (k - 1) (w - 1) (Some (holding 0 (encoded key s format b))) None (λ same. omega arith);
        own = own;
      })
    where
      first : put 0 tree b ≡ with_first k tree b
      first = ap (λ w. applied tree 0 w (encoded key s format b)) node
          ∙ ap (λ v. cond (is_newer 0 v) (with_first k tree b) tree) (ap (option_map held_version) empty)

      own : (j : ℕ) (d : Bucket) → j < suc (length buckets)
          → held_at (fold (put 0) (with_first k tree b) buckets) (k + j) ≡ Some (holding 0 (encoded key s format (get_or (b ∷ buckets) j d)))
      own zero d low =
          let none : k + 0 ≡ k = omega arith in
          ap (held_at (fold (put 0) (with_first k tree b) buckets)) none ∙ rest.earlier k some (omega arith)
          ∙ get_or-set_same tree.held (k - 1) (Some (holding 0 (encoded key s format b))) None room
      own (suc j) d low =
          let next : k + suc j ≡ k + 1 + j = omega arith in
          ap (held_at (fold (put 0) (with_first k tree b) buckets)) next ∙ rest.own j d (omega arith)

  filled : (buckets : List Bucket) (k : ℕ) (tree : TreeState) → nodes_in buckets ≡ range_with_len k (length buckets) → 1 ≤ k → k - 1 + length buckets ≤ length tree.held
      → ((w : ℕ) → k ≤ w → held_at tree w ≡ None) → IsFilled k buckets tree (fold (put 0) tree buckets)
  filled [] k tree nodes some room empty = record { same_shape = refl; earlier = λ w low less. refl; own = λ j d low. absurd (omega arith) }
  filled (b ∷ buckets) k tree nodes some room empty =
      filled_more b buckets k tree (ap (λ l. get_or l 0 0) nodes) some (omega arith) (empty k (omega arith))
      (filled buckets (k + 1) (with_first k tree b) (ap (drop 1) nodes) (omega arith) (let long = length-set tree.held (k - 1) (Some (holding 0 (encoded key s format b))) in omega arith)
      (λ w low. get_or-set_other tree.held (k - 1) (w - 1) (Some (holding 0 (encoded key s format b))) None (λ same. omega arith) ∙ empty w (omega arith)))

-- ---- the start

none_under_way : (i : ℕ) → is_under_way [] i ≡ false
none_under_way i = and_left (nat_lt i 0) true (le-ltb i 0 (omega arith))

none_out : (v : ℕ) → is_outstanding [] v ≡ false
none_out v = either (cases_lt 0 v)
  where
    either : (0 < v) ⊎ (v ≤ 0) → (nat_lt 0 v && (nat_le v 0 && true)) ≡ false
    either (inl some) = and_right (nat_lt 0 v) (nat_le v 0 && true) (and_left (nat_le v 0) true (lt-leb v 0 some))
    either (inr none) = and_left (nat_lt 0 v) (nat_le v 0 && true) (le-ltb 0 v none)

no_stores : (key : List ℕ) (o : Opening) (v : ℕ) → ShowsStore [] key (begun o) v (row_at (None ∷ []) v)
no_stores key o zero = none_out 0
no_stores key o (suc v) = none_out (suc v)

begins : (o : Opening) → IsSchedule o [] []
unfolding IsSchedule
begins o = refl

module _ (key : List ℕ) (o : Opening) (tree : TreeState) (is : Opens key o tree) where
  nothing : Bucket
  nothing = record { node = 0; version = 0; nonce = 0; entries = [] }

  format : ℕ
  format = format_of o.shape.form 0

  count : length o.loaded ≡ node_count o.shape.l
  count = sym (length-map o.loaded (λ bucket. bucket.node)) ∙ ap length is.opens.numbered.nodes ∙ length-range_with_len 1 (node_count o.shape.l)

  load : IsFilled key o.shape (format_of o.shape.form 0) is.opening.shape 1 o.loaded (empty_tree o.shape) tree
  load =
      subst (IsFilled key o.shape (format_of o.shape.form 0) is.opening.shape 1 o.loaded (empty_tree o.shape))
      (sym (is.loaded ∙ applied_by_nodes key o.shape (format_of o.shape.form 0) is.opening.shape 0 o.loaded (empty_tree o.shape) refl is.opens.in_form))
      (filled key o.shape (format_of o.shape.form 0) is.opening.shape o.loaded 1 (empty_tree o.shape) (is.opens.numbered.nodes ∙ ap (range_with_len 1) (sym count)) (omega arith)
      (let long = length-replicate {A = Option Held} (node_count o.shape.l) None in omega (arith, count)) none)
    where
      none : (w : ℕ) → 1 ≤ w → held_at (empty_tree o.shape) w ≡ None
      none w low = either (cases_lt (w - 1) (node_count o.shape.l))
        where
          either : (w - 1 < node_count o.shape.l) ⊎ (node_count o.shape.l ≤ w - 1) → held_at (empty_tree o.shape) w ≡ None
          either (inl within) = get_or-replicate (node_count o.shape.l) (w - 1) None None within
          either (inr past) = get_or_past (replicate (node_count o.shape.l) None) (w - 1) None (let long = length-replicate {A = Option Held} (node_count o.shape.l) None in omega arith)

  module _ (w : ℕ) (low : 1 ≤ w) (high : w ≤ node_count o.shape.l) where
    within : w - 1 < length o.loaded
    within = omega (arith, count)

    held : held_at tree w ≡ Some (holding 0 (encoded key o.shape (format_of o.shape.form 0) (get_or o.loaded (w - 1) nothing)))
    held = let same : w ≡ 1 + (w - 1) = omega arith in ap (held_at tree) same ∙ load.own (w - 1) nothing within

    named : (get_or o.loaded (w - 1) nothing).node ≡ w
    named =
        let same : 1 + (w - 1) ≡ w = omega arith in
        sym (get_or-map (λ bucket. bucket.node) o.loaded (w - 1) nothing 0 within) ∙ ap (λ l. get_or l (w - 1) 0) is.opens.numbered.nodes
        ∙ get_or-range_with_len 1 (node_count o.shape.l) (w - 1) 0 (omega arith) ∙ same

    node : ShowsNode [] key (begun o) tree w
    unfolding bytes_at
    node = record {
      version = ap (option_map held_version) held;
      bytes = (
        get_or o.loaded (w - 1) nothing,
        ap (λ u. bucket_of u o.loaded) (sym named) ∙ found_at o.loaded (w - 1) nothing (subst HasOnce (sym is.opens.numbered.nodes) (once_range 1 (node_count o.shape.l))) within,
        ap (bytes_of (bucket_len tree.shape)) held,
      );
    }

  pub opens : Shows [] key (begun o) tree [] (None ∷ [])
  opens = record {
    schedule = begins o;
    lawful = record { opens = is.opens; follows = is.opening; owes = let some = is.opening.shape.period_low in omega arith };
    honest = tt;
    server = record { shape = load.same_shape; nodes = node };
    reads = record { places = omega arith; rows = none_under_way };
    puts = record { places = omega arith; rows = no_stores key o };
  }

pub parts_join : PartsJoin
parts_join key s version first rest tree shape same forms forms' = joins key s (format_of s.form version) shape version first rest tree same forms forms'

pub opens_shows : OpensShows
opens_shows key o tree is = opens key o tree is
