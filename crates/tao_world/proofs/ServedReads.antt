-- A read of one node is one move.
use Rattle.std.proofs.Common.{◌≡◌, ℕ, ◌+◌, ◌*◌, ◌^◌, ◌<◌, ◌≤◌, true, false, ◌&&◌, ◌||◌, cond, List, ◌∷◌, reverse, length, set, Option, Some, refl, sym, ap, ap₂, ◌∙◌, subst, arith, inl, inr, ◌⊎◌, nat_eq, mul-le-mul_right}
use Rattle.std.proofs.lemmas.Bool.{cases_eq, eq-eqb, ne_eqb}
use Rattle.std.proofs.lemmas.List.{length-set}
use Rattle.tao_base.specs.declared.session.Event.{Event}
use Rattle.tao_base.specs.Limits.{bucket_len}
use Rattle.tao_base.specs.Session.{Opening, History}
use Rattle.tao_base.specs.Tree.{node_at, node_count, is_on_path}
use Rattle.tao_base.proofs.TreeLemmas.{one_le_node, node_low, node_high, one_depth, on_path_depth}
use Rattle.tao_model.specs.Events.{is_under_way}
use Rattle.tao_model.specs.Requests.{fetches}
use Rattle.tao_laws.proofs.RecentNodes.{leaf_low}
use Rattle.tao_images.specs.Paths.{piece}
use Rattle.tao_images.proofs.KnownLemmas.{node_within}
use Rattle.tao_schedule.specs.Moves.{Move, Serves, server_version, is_served, served_version}
use Rattle.tao_schedule.specs.Schedules.{Goes, IsSchedule}
use Rattle.tao_tree.specs.Nodes.{TreeState, bytes_at}
use Rattle.tao_world.specs.State.{Reading, is_set_at, row_at}
use Rattle.tao_world.specs.Shows.{EncodesWritten, Shows, ShowsNode, ShowsFetch, ShowsReading}
use Rattle.tao_world.specs.Changes.{with_bucket, bucket_put}
use Rattle.tao_world.specs.Laws.{ServesShows}
use Rattle.tao_world.proofs.Tables.{some_within, rows_set, flag_set, put_here, put_other}
use Rattle.tao_world.proofs.WrittenBuckets.{written_len}
use Rattle.tao_world.proofs.KeptShows.{moved_tree, moved_fetch, moved_store}

serves_goes : (o : Opening) (ms : List Move) (es : List Event) (i node : ℕ) → IsSchedule o ms es → is_under_way es i ≡ true → fetches o es i node ≡ true → is_served ms i node ≡ false
    → IsSchedule o (Serves i node ∷ ms) es
unfolding IsSchedule Goes
serves_goes o ms es i node s way on unread = (es, s, (way, on, unread, refl))

-- ---- the nodes of a path

pub on_path : (l leaf d : ℕ) → leaf < 2 ^ l → d ≤ l → is_on_path l leaf (node_at l leaf d) ≡ true
on_path l leaf d small within =
    on_path_depth l leaf (node_at l leaf d) d small (node_within l leaf d small within) (node_low l leaf d within) (node_high l leaf d small within)
    ∙ eq-eqb (node_at l leaf d) (node_at l leaf d) refl

same_depth : (l leaf d e : ℕ) → leaf < 2 ^ l → d ≤ l → e ≤ l → node_at l leaf d ≡ node_at l leaf e → d ≡ e
same_depth l leaf d e small within within' same =
    one_depth d e (node_at l leaf d) (node_low l leaf d within) (node_high l leaf d small within)
    (subst (λ w. 2 ^ e ≤ w) (sym same) (node_low l leaf e within')) (subst (λ w. w < 2 * 2 ^ e) (sym same) (node_high l leaf e small within'))

-- ---- the row

module _ (ms : List Move) (key : List ℕ) (h : History) (tree : TreeState) (i d : ℕ) (reading : Reading) (row : ShowsReading ms key h i reading)
    (depth : d ≤ h.opening.shape.l) (flags : length reading.read ≡ h.opening.shape.l + 1)
    (bytes : length reading.bytes ≡ (h.opening.shape.l + 1) * bucket_len h.opening.shape) where
  abbrev node : ℕ → ℕ
  node e = node_at h.opening.shape.l reading.leaf e

  small : reading.leaf < 2 ^ h.opening.shape.l
  small = subst (λ leaf. leaf < 2 ^ h.opening.shape.l) (sym row.leaf) (leaf_low h.opening (reverse h.events) i)

  flag : (e : ℕ) → is_set_at (set reading.read d true) e ≡ cond (nat_eq d e) true (is_set_at reading.read e)
  flag e = flag_set reading.read d e (omega arith)

  pub node_fetched : fetches h.opening (reverse h.events) i (node_at h.opening.shape.l reading.leaf d) ≡ true
  node_fetched = ap (λ leaf. is_on_path h.opening.shape.l leaf (node_at h.opening.shape.l reading.leaf d)) (sym row.leaf) ∙ on_path h.opening.shape.l reading.leaf d small depth

  pub low : 1 ≤ node_at h.opening.shape.l reading.leaf d
  low = one_le_node h.opening.shape.l reading.leaf d

  pub high : node_at h.opening.shape.l reading.leaf d ≤ node_count h.opening.shape.l
  high = node_within h.opening.shape.l reading.leaf d small depth

  within_bytes : d * bucket_len h.opening.shape + bucket_len h.opening.shape ≤ length reading.bytes
  within_bytes =
      let up : (d + 1) * bucket_len h.opening.shape ≤ (h.opening.shape.l + 1) * bucket_len h.opening.shape = mul-le-mul_right (bucket_len h.opening.shape) (omega arith) in
      let next : (d + 1) * bucket_len h.opening.shape ≡ d * bucket_len h.opening.shape + bucket_len h.opening.shape = omega arith in
      omega (arith, up, next, bytes)

  module _ (bucket : List ℕ) (long : length bucket ≡ bucket_len h.opening.shape)
      (is : EncodesWritten key h (server_version ms (node_at h.opening.shape.l reading.leaf d)) (node_at h.opening.shape.l reading.leaf d) bucket) where
    read : (e : ℕ) → e ≤ h.opening.shape.l → (d ≡ e) ⊎ (d ≡ e → ⊥) → is_set_at (set reading.read d true) e ≡ is_served (Serves i (node d) ∷ ms) i (node e)
    read e within (inl same) =
        flag e ∙ ap (λ t. cond t true (is_set_at reading.read e)) (eq-eqb d e same)
        ∙ sym (ap₂ (λ t u. (t && u) || is_served ms i (node e)) (eq-eqb i i refl) (eq-eqb (node d) (node e) (ap node same)))
    read e within (inr other) =
        flag e ∙ ap (λ t. cond t true (is_set_at reading.read e)) (ne_eqb d e other) ∙ row.read e within
        ∙ sym (ap₂ (λ t u. (t && u) || is_served ms i (node e)) (eq-eqb i i refl) (ne_eqb (node d) (node e) (λ same. other (same_depth h.opening.shape.l reading.leaf d e small depth within same))))

    held : (e : ℕ) → e ≤ h.opening.shape.l → (d ≡ e) ⊎ (d ≡ e → ⊥) → is_set_at (set reading.read d true) e ≡ true
        → EncodesWritten key h (served_version (Serves i (node d) ∷ ms) i (node e)) (node e) (piece h.opening.shape (bucket_put (bucket_len h.opening.shape) reading.bytes d bucket) e)
    held e within (inl same) on =
        subst (λ v. EncodesWritten key h v (node e) (piece h.opening.shape (bucket_put (bucket_len h.opening.shape) reading.bytes d bucket) e))
        (sym (ap₂ (λ t u. cond (t && u) (server_version ms (node e)) (served_version ms i (node e))) (eq-eqb i i refl) (eq-eqb (node d) (node e) (ap node same))))
        (subst (λ c. EncodesWritten key h (server_version ms (node c)) (node c) (piece h.opening.shape (bucket_put (bucket_len h.opening.shape) reading.bytes d bucket) c)) same
        (subst (EncodesWritten key h (server_version ms (node d)) (node d)) (sym (put_here (bucket_len h.opening.shape) reading.bytes d bucket long within_bytes)) is))
    held e within (inr other) on =
        subst (λ v. EncodesWritten key h v (node e) (piece h.opening.shape (bucket_put (bucket_len h.opening.shape) reading.bytes d bucket) e))
        (sym (ap₂ (λ t u. cond (t && u) (server_version ms (node e)) (served_version ms i (node e))) (eq-eqb i i refl)
        (ne_eqb (node d) (node e) (λ same. other (same_depth h.opening.shape.l reading.leaf d e small depth within same)))))
        (subst (EncodesWritten key h (served_version ms i (node e)) (node e)) (sym (put_other (bucket_len h.opening.shape) reading.bytes d bucket long within_bytes e (λ same. other (sym same))))
        (row.bytes e within (sym (flag e ∙ ap (λ t. cond t true (is_set_at reading.read e)) (ne_eqb d e other)) ∙ on)))

    pub own : ShowsReading (Serves i (node_at h.opening.shape.l reading.leaf d) ∷ ms) key h i (with_bucket h.opening.shape reading d bucket)
    own = record {
      under_way = row.under_way;
      arrival = row.arrival;
      leaf = row.leaf;
      read = λ e within. read e within (cases_eq d e);
      bytes = λ e within on. held e within (cases_eq d e) on;
    }

-- ---- the table

others : (ms : List Move) (key : List ℕ) (h : History) (i node j : ℕ) (row : Option Reading) → (j ≡ i → ⊥) → ShowsFetch ms key h j row → ShowsFetch (Serves i node ∷ ms) key h j row
others ms key h i node j row other is =
    let apart = ne_eqb i j (λ same. other (sym same)) in
    moved_fetch ms (Serves i node ∷ ms) key h j row (λ w. ap (λ t. (t && nat_eq node w) || is_served ms j w) apart)
    (λ w. ap (λ t. cond (t && nat_eq node w) (server_version ms w) (served_version ms j w)) apart) is

pub serves_shows : ServesShows
serves_shows ms key h tree fetches fetches' stores i d reading shows a =
    subst (λ rows. Shows later key h tree rows stores) (sym a.row) (record {
      schedule = serves_goes h.opening ms (reverse h.events) i node shows.schedule row.under_way (node_fetched ms key h tree i d reading row a.depth a.flags a.bytes) (sym (row.read d a.depth) ∙ a.unread);
      lawful = shows.lawful;
      honest = shows.honest;
      server = moved_tree ms later key h tree (λ w. refl) shows.server;
      reads = record {
        places = let long = length-set fetches i (Some (with_bucket h.opening.shape reading d (bytes_at tree node))) in let low = shows.reads.places in omega arith;
        rows = rows_set (ShowsFetch later key h) fetches i (Some (with_bucket h.opening.shape reading d (bytes_at tree node))) (some_within fetches i reading a.found)
            (own ms key h tree i d reading row a.depth a.flags a.bytes (bytes_at tree node) long here.bytes)
            (λ j other. others ms key h i node j (row_at fetches j) other (shows.reads.rows j));
      };
      puts = record { places = shows.puts.places; rows = λ v. moved_store ms later key h v (row_at stores v) (λ w. refl) (shows.puts.rows v) };
    })
  where
    node : ℕ
    node = node_at h.opening.shape.l reading.leaf d

    later : List Move
    later = Serves i node ∷ ms

    row : ShowsReading ms key h i reading
    row = subst (ShowsFetch ms key h i) a.found (shows.reads.rows i)

    here : ShowsNode ms key h tree node
    here = shows.server.nodes node (low ms key h tree i d reading row a.depth a.flags a.bytes) (high ms key h tree i d reading row a.depth a.flags a.bytes)

    long : length (bytes_at tree node) ≡ bucket_len h.opening.shape
    long = ap length here.bytes.2 ∙ written_len key h shows.lawful (server_version ms node) node here.bytes.0 here.bytes.1
