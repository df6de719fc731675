-- What the server answers holds the latest versions of the nodes that the proxy doesn't hold.
use Rattle.std.proofs.Common.{◌≡◌, ℕ, ◌+◌, ◌^◌, ◌<◌, ◌≤◌, Bool, true, false, not, ◌&&◌, List, [], reverse, length, get_or, All, Option, Some, IfSome, refl, sym, ap, ◌∙◌, subst, arith}
use Rattle.std.specs.List.{flat_map, AllByRecursion}
use Rattle.std.specs.Option.{option_map_or}
use Rattle.std.proofs.lemmas.Bool.{and_parts, or_parts, not-true}
use Rattle.std.proofs.lemmas.List.{length-map, get_or-map}
use Rattle.std.proofs.lemmas.List.Elements.{All-weaker, recursion_from_All}
use Rattle.std.proofs.lemmas.List.FromFn.{get_or-map-range_with_len, length-map-range_with_len}
use Rattle.tao_base.specs.declared.storage.Bucket.{Bucket}
use Rattle.tao_base.specs.Limits.{Shape, bucket_len}
use Rattle.tao_base.specs.Session.{History}
use Rattle.tao_base.specs.Tree.{node_at, node_count, path}
use Rattle.tao_base.proofs.ImageLemmas.{bucket_joined}
use Rattle.tao_base.proofs.TreeLemmas.{one_le_node}
use Rattle.tao_bucket.specs.Encoding.{Encodes, format_of, tag_of}
use Rattle.tao_bucket.proofs.Whole.{same_bucket}
use Rattle.tao_model.specs.Requests.{fetched_leaf}
use Rattle.tao_model.specs.Residence.{is_resident, newest_version, newest_write}
use Rattle.tao_model.specs.LookBacks.{written_at}
use Rattle.tao_model.specs.Lawful.{IsLawful}
use Rattle.tao_model.specs.Trace.{nodes_in}
use Rattle.tao_model.proofs.FallingPaths.{has}
use Rattle.tao_model.proofs.LawfulToWhole.{follows_opening}
use Rattle.tao_model.proofs.NewestWrites.{newest_is_greatest}
use Rattle.tao_laws.proofs.Listings.{has_filter, listed_at}
use Rattle.tao_laws.proofs.RecentNodes.{leaf_low}
use Rattle.tao_images.specs.Answers.{kept_tag, is_met, is_passed}
use Rattle.tao_images.specs.Paths.{piece, IsReadFrom, AreReadFrom, HoldsLatest}
use Rattle.tao_images.proofs.KnownLemmas.{node_within}
use Rattle.tao_schedule.specs.Moves.{Move, is_served, served_version, server_version}
use Rattle.tao_schedule.proofs.QuietServers.{server_is_newest}
use Rattle.tao_schedule.proofs.ServerVersions.{stays_in_step}
use Rattle.tao_tree.specs.Nodes.{TreeState, bytes_at, path_bytes}
use Rattle.tao_world.specs.State.{Reading, Sending, is_set_at}
use Rattle.tao_world.specs.Shows.{IsSameBucket, EncodesWritten, Shows, ShowsFetch, ShowsReading}
use Rattle.tao_world.specs.Laws.{HoldsNewest, IsNewestAnswer, AnswerIsNewest, LeafIsNewest, TreeIsNewest}
use Rattle.tao_world.proofs.ServedReads.{on_path}
use Rattle.tao_world.proofs.WrittenBuckets.{written_fine, written_encodes, written_len}

-- ---- one node

-- what was written under the latest version is the latest version
newest_held : (key : List ℕ) (h : History) (v node : ℕ) (bytes : List ℕ) → IsLawful h → EncodesWritten key h v node bytes → v ≡ newest_version (reverse h.events) node → HoldsNewest key h node bytes
newest_held key h v node bytes lawful is same =
    let fine = written_fine h v node is.0 lawful is.1 in
    let newest : newest_write h.opening (reverse h.events) node ≡ Some is.0 =
    (newest_is_greatest h.opening h.events node lawful.follows).bucket ∙ ap (λ u. written_at h.opening h.events u node) (sym same) ∙ is.1
    in
    record {
      bucket = is.0;
      newest = newest;
      holds = record {
        node = fine.1;
        version = fine.0.version ∙ same;
        encoded = subst (λ u. Encodes key h.opening.shape (format_of h.opening.shape.form u) is.0 bytes) same
            (subst (Encodes key h.opening.shape (format_of h.opening.shape.form v) is.0) (sym is.2) (written_encodes key h lawful v node is.0 is.1));
        tagged = λ two. sym (ap (λ x. option_map_or (tag_of key h.opening.shape) x []) newest);
      };
    }

-- ---- a path whose nodes, but for those that are skipped, have their latest versions

module _ (key : List ℕ) (h : History) (lawful : IsLawful h) (skipped : ℕ → Bool) (leaf : ℕ) (bytes : List ℕ)
    (latest : (d : ℕ) → d ≤ h.opening.shape.l → skipped (node_at h.opening.shape.l leaf d) ≡ false → HoldsNewest key h (node_at h.opening.shape.l leaf d) (piece h.opening.shape bytes d)) where
  latest_held : HoldsLatest key h.opening.shape skipped (newest_version (reverse h.events)) (kept_tag key h.opening (reverse h.events)) leaf bytes
  latest_held d within away = let n = latest d within away in (n.bucket, n.holds)

  module _ (taken : List Bucket) (read : AreReadFrom key h.opening.shape skipped (newest_version (reverse h.events)) (kept_tag key h.opening (reverse h.events)) leaf bytes taken) where
    -- the nodes of what is read aren't skipped
    not_skipped : (k : ℕ) (d : Bucket) → k < length taken → skipped (get_or taken k d).node ≡ false
    not_skipped k d low =
        let w = (get_or taken k d).node in
        let listed : has w (nodes_in taken) ≡ true =
        ap (λ u. has u (nodes_in taken)) (sym (get_or-map (λ (bucket : Bucket). bucket.node) taken k d 0 low))
        ∙ listed_at (nodes_in taken) k (let long = length-map taken (λ (bucket : Bucket). bucket.node) in omega arith)
        in
        let both : (not (skipped w) && has w (path h.opening.shape.l leaf)) ≡ true =
        sym (has_filter (λ u. not (skipped u)) w (path h.opening.shape.l leaf)) ∙ ap (has w) (sym read.nodes) ∙ listed
        in
        not-true (skipped w) (and_parts (not (skipped w)) (has w (path h.opening.shape.l leaf)) both).0

    newest : (bucket : Bucket) → skipped bucket.node ≡ false
        → IsReadFrom key h.opening.shape (newest_version (reverse h.events)) (kept_tag key h.opening (reverse h.events)) leaf bytes bucket
        → newest_write h.opening (reverse h.events) bucket.node ≡ Some bucket
    newest bucket away from =
        let n : HoldsNewest key h bucket.node (piece h.opening.shape bytes from.depth) =
        subst (λ w. HoldsNewest key h w (piece h.opening.shape bytes from.depth)) from.at (latest from.depth from.within (ap skipped from.at ∙ away))
        in
        n.newest
        ∙ ap Some (same_bucket key h.opening.shape (format_of h.opening.shape.form (newest_version (reverse h.events) bucket.node)) n.bucket bucket (piece h.opening.shape bytes from.depth)
        (follows_opening h.opening (reverse h.events) lawful.follows).shape n.holds.encoded from.holds.encoded)

    newest_read : All (λ bucket. newest_write h.opening (reverse h.events) bucket.node ≡ Some bucket) taken
    newest_read = λ k d low. newest (get_or taken k d) (not_skipped k d low) (read.each k d low)

-- ---- the answer to a fetch

module _ (ms : List Move) (key : List ℕ) (h : History) (tree : TreeState) (fetches : List (Option Reading)) (stores : List (Option Sending)) (i : ℕ) (reading : Reading)
    (shows : Shows ms key h tree fetches stores) (row : ShowsReading ms key h i reading) (whole : (d : ℕ) → d ≤ h.opening.shape.l → is_set_at reading.read d ≡ true) where
  abbrev leaf : ℕ
  leaf = fetched_leaf h.opening (reverse h.events) i

  -- every node of the path was read
  pub all_read : (d : ℕ) → d ≤ h.opening.shape.l → is_served ms i (node_at h.opening.shape.l (fetched_leaf h.opening (reverse h.events) i) d) ≡ true
  all_read d within = ap (λ x. is_served ms i (node_at h.opening.shape.l x d)) (sym row.leaf) ∙ sym (row.read d within) ∙ whole d within

  fetched_newest : (d : ℕ) → d ≤ h.opening.shape.l → is_resident h.opening (reverse h.events) (node_at h.opening.shape.l leaf d) ≡ false
      → HoldsNewest key h (node_at h.opening.shape.l leaf d) (piece h.opening.shape reading.bytes d)
  fetched_newest d within away =
      let node = node_at h.opening.shape.l leaf d in
      newest_held key h (served_version ms i node) node (piece h.opening.shape reading.bytes d) shows.lawful
      (subst (λ x. EncodesWritten key h (served_version ms i (node_at h.opening.shape.l x d)) (node_at h.opening.shape.l x d) (piece h.opening.shape reading.bytes d)) row.leaf (row.bytes d within (whole d within)))
      ((stays_in_step h.opening ms (reverse h.events) node shows.schedule shows.lawful.follows).served i row.under_way (on_path h.opening.shape.l leaf d (leaf_low h.opening (reverse h.events) i) within)
      (all_read d within) away)

  pub newest_answer : IsNewestAnswer key h i reading.bytes
  newest_answer = record {
    depths = fetched_newest;
    answered = latest_held key h shows.lawful (is_resident h.opening (reverse h.events)) leaf reading.bytes fetched_newest;
    honest = λ taken read. (
      shows.honest,
      All-weaker (λ bucket. newest_write h.opening (reverse h.events) bucket.node ≡ Some bucket) (λ bucket. IfSome (newest_write h.opening (reverse h.events) bucket.node) (IsSameBucket bucket))
          (λ bucket is. subst (λ x. IfSome x (IsSameBucket bucket)) (sym is) refl) taken
          (newest_read key h shows.lawful (is_resident h.opening (reverse h.events)) leaf reading.bytes fetched_newest taken read),
    );
  }

pub answer_is_newest : AnswerIsNewest
answer_is_newest ms key h tree fetches stores i reading shows found whole =
    newest_answer ms key h tree fetches stores i reading shows (subst (ShowsFetch ms key h i) found (shows.reads.rows i)) whole

-- ---- the closing scan

module _ (ms : List Move) (key : List ℕ) (h : History) (tree : TreeState) (fetches : List (Option Reading)) (stores : List (Option Sending)) (shows : Shows ms key h tree fetches stores) where
  pub tree_newest : (node : ℕ) → 1 ≤ node → node ≤ node_count h.opening.shape.l → server_version ms node ≡ newest_version (reverse h.events) node → HoldsNewest key h node (bytes_at tree node)
  tree_newest node low high same = newest_held key h (server_version ms node) node (bytes_at tree node) shows.lawful (shows.server.nodes node low high).bytes same

  node_len : (node : ℕ) → 1 ≤ node → node ≤ node_count h.opening.shape.l → length (bytes_at tree node) ≡ bucket_len h.opening.shape
  node_len node low high =
      let n = (shows.server.nodes node low high).bytes in ap length n.2 ∙ written_len key h shows.lawful (server_version ms node) node n.0 n.1

  module _ (at : ℕ) (small : at < 2 ^ h.opening.shape.l) where
    abbrev nodes : List ℕ
    nodes = path h.opening.shape.l at

    node_is : (d e : ℕ) → d ≤ h.opening.shape.l → get_or nodes d e ≡ node_at h.opening.shape.l at d
    node_is d e within = get_or-map-range_with_len (node_at h.opening.shape.l at) 0 (h.opening.shape.l + 1) d d e (omega arith) (omega arith)

    depth_len : (d : ℕ) → d ≤ h.opening.shape.l → length (bytes_at tree (node_at h.opening.shape.l at d)) ≡ bucket_len h.opening.shape
    depth_len d within = node_len (node_at h.opening.shape.l at d) (one_le_node h.opening.shape.l at d) (node_within h.opening.shape.l at d small within)

    count : length nodes ≡ h.opening.shape.l + 1
    count = length-map-range_with_len (node_at h.opening.shape.l at) 0 (h.opening.shape.l + 1)

    lens : AllByRecursion (λ w. length (bytes_at tree w) ≡ bucket_len h.opening.shape) nodes
    lens = recursion_from_All (λ w. length (bytes_at tree w) ≡ bucket_len h.opening.shape) nodes
        (λ d e low. let c = count in ap (λ w. length (bytes_at tree w)) (node_is d e (omega arith)) ∙ depth_len d (omega arith))

    piece_is : (d : ℕ) → d ≤ h.opening.shape.l → piece h.opening.shape (path_bytes tree at) d ≡ bytes_at tree (node_at h.opening.shape.l at d)
    piece_is d within =
        let c = count in
        ap (λ (s : Shape). piece h.opening.shape (flat_map (bytes_at tree) (path s.l at)) d) shows.server.shape
        ∙ bucket_joined (bytes_at tree) (bucket_len h.opening.shape) nodes d 0 lens (ap (λ w. length (bytes_at tree w)) (node_is d 0 within) ∙ depth_len d within) (omega arith)
        ∙ ap (bytes_at tree) (node_is d 0 within)

    pub scanned_newest : (d : ℕ) → d ≤ h.opening.shape.l → is_passed h.opening (reverse h.events) at (node_at h.opening.shape.l at d) ≡ false
        → HoldsNewest key h (node_at h.opening.shape.l at d) (piece h.opening.shape (path_bytes tree at) d)
    scanned_newest d within away =
        let node = node_at h.opening.shape.l at d in
        subst (HoldsNewest key h node) (sym (piece_is d within))
        (tree_newest node (one_le_node h.opening.shape.l at d) (node_within h.opening.shape.l at d small within)
        ((stays_in_step h.opening ms (reverse h.events) node shows.schedule shows.lawful.follows).away (or_parts (is_resident h.opening (reverse h.events) node) (is_met h.opening.shape.l at node) away).0))

pub leaf_is_newest : LeafIsNewest
leaf_is_newest ms key h tree fetches stores at shows small =
    let latest = scanned_newest ms key h tree fetches stores shows at small in
    record {
      answered = latest_held key h shows.lawful (is_passed h.opening (reverse h.events) at) at (path_bytes tree at) latest;
      newest = λ taken read. newest_read key h shows.lawful (is_passed h.opening (reverse h.events) at) at (path_bytes tree at) latest taken read;
    }

pub tree_is_newest : TreeIsNewest
tree_is_newest ms key h tree fetches stores node shows all low high =
    let same = server_is_newest h.opening ms (reverse h.events) node shows.schedule shows.lawful.follows all in
    ((shows.server.nodes node low high).version ∙ ap Some same, tree_newest ms key h tree fetches stores shows node low high same)
