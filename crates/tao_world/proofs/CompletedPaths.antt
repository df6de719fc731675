-- A whole path that reaches the proxy is one move, with or without a write-back.
use Rattle.std.proofs.Common.{◌≡◌, ℕ, ◌+◌, ◌<◌, ◌≤◌, true, false, not, ◌&&◌, ◌||◌, List, ◌∷◌, ◌++◌, [], reverse, length, get_or, set, Option, Some, None, refl, sym, ap, ◌∙◌, subst, arith, nat_eq, nat_lt, inl, inr, ◌⊎◌, replicate}
use Rattle.std.specs.Prelude.{nat_le}
use Rattle.std.proofs.lemmas.Bool.{cases_lt, eq-eqb, eqb-true, ne_eqb, and_right, and_from, and_parts, or_cases, leb-true, le-leb, lt-leb, lt-ltb, not_from_false, false_from_ne_true, true≢false}
use Rattle.std.proofs.lemmas.List.{length-set, length-replicate}
use Rattle.std.proofs.lemmas.List.Elements.{Contains-append_right}
use Rattle.tao_base.specs.declared.session.Event.{Event}
use Rattle.tao_base.specs.declared.session.Event.TheVariants.{Done, Issue}
use Rattle.tao_base.specs.declared.storage.Bucket.{Bucket}
use Rattle.tao_base.specs.declared.storage.Order.{Order}
use Rattle.tao_base.specs.Session.{Opening, History}
use Rattle.tao_base.specs.Tree.{node_at}
use Rattle.tao_model.specs.Events.{arrived, issues, is_done, is_acked, is_under_way, is_outstanding}
use Rattle.tao_model.specs.Requests.{fetched_leaf, fetches}
use Rattle.tao_model.specs.Residence.{Unaltered}
use Rattle.tao_model.specs.Lawful.{IsLawful, FollowsLawfully}
use Rattle.tao_model.proofs.FallingPaths.{on_path_has}
use Rattle.tao_model.proofs.Stays.{newest_first}
use Rattle.tao_laws.proofs.CountedWork.{unacked_yet}
use Rattle.tao_laws.proofs.Listings.{image_has}
use Rattle.tao_images.specs.Answers.{with_event, AddsDone, AreFetched}
use Rattle.tao_images.specs.Orders.{IsOrderOf}
use Rattle.tao_schedule.specs.Moves.{Move, Arrives, Serves, Completes, Applies, Acknowledges, is_served, is_applied}
use Rattle.tao_schedule.specs.Schedules.{Goes, IsSchedule, TakesIn}
use Rattle.tao_tree.specs.Nodes.{TreeState}
use Rattle.tao_world.specs.State.{Reading, Sending, is_set_at, row_at}
use Rattle.tao_world.specs.Shows.{IsSameBucket, Shows, ShowsTree, ShowsFetch, ShowsReading, ShowsStore, ShowsSending}
use Rattle.tao_world.specs.Changes.{AddsStore, new_sending}
use Rattle.tao_world.specs.Laws.{CompletesShows}
use Rattle.tao_world.proofs.Tables.{some_within, rows_set, row_put, none_set, none_left}
use Rattle.tao_world.proofs.Places.{more_stores}
use Rattle.tao_world.proofs.KeptShows.{moved_tree, moved_fetch, moved_store, told_tree, told_fetch, told_store}
use Rattle.tao_world.proofs.NewestAnswers.{all_read, newest_answer}

completes_goes : (o : Opening) (ms : List Move) (es : List Event) (i : ℕ) (now : List Event) → IsSchedule o ms es → is_under_way es i ≡ true
    → ((node : ℕ) → fetches o es i node ≡ true → is_served ms i node ≡ true) → TakesIn o es i now → IsSchedule o (Completes i ∷ ms) now
unfolding IsSchedule Goes
completes_goes o ms es i now s way all takes = (es, s, (way, all, takes))

-- ---- a version that isn't issued yet wasn't applied

taken_issues : (o : Opening) (es : List Event) (i : ℕ) (now : List Event) → TakesIn o es i now → issues es ≤ issues now
taken_issues o es i now t = either t.2
  where
    either : ((now ≡ Done i t.1 ∷ es) ⊎ ((version : ℕ) × (nonce : ℕ) × (buckets : List Bucket) × (now ≡ Issue version nonce buckets ∷ Done i t.1 ∷ es))) → issues es ≤ issues now
    either (inl is) = let same = ap issues is in omega arith
    either (inr (version, nonce, buckets, is)) = let same = ap issues is in omega arith

out_within : (es : List Event) (v : ℕ) → is_outstanding es v ≡ true → v ≤ issues es
out_within es v out =
    let both = and_parts (nat_lt 0 v) (nat_le v (issues es) && not (is_acked es v)) out in
    leb-true v (issues es) (and_parts (nat_le v (issues es)) (not (is_acked es v)) both.1).0

applied_within : (o : Opening) (ms : List Move) (es : List Event) (v node : ℕ) → IsSchedule o ms es → is_applied ms v node ≡ true → v ≤ issues es
unfolding IsSchedule Goes
applied_within o [] es v node s on = absurd (true≢false (sym on))
applied_within o (Arrives client op word ∷ ms) es v node s on = subst (λ l. v ≤ issues l) (sym s.2.1) (applied_within o ms s.0 v node s.1 on)
applied_within o (Serves fetch served ∷ ms) es v node s on = subst (λ l. v ≤ issues l) (sym s.2.3) (applied_within o ms s.0 v node s.1 on)
applied_within o (Completes fetch ∷ ms) es v node s on =
    let before = applied_within o ms s.0 v node s.1 on in let grown = taken_issues o s.0 fetch es s.2.2 in omega arith
applied_within o (Applies version applied ∷ ms) es v node s on =
    subst (λ l. v ≤ issues l) (sym s.2.2) (either (or_cases (nat_eq version v && nat_eq applied node) (is_applied ms v node) on) (applied_within o ms s.0 v node s.1))
  where
    either : ((nat_eq version v && nat_eq applied node) ≡ true) ⊎ (is_applied ms v node ≡ true) → (is_applied ms v node ≡ true → v ≤ issues s.0) → v ≤ issues s.0
    either (inl now) ih =
        let same : version ≡ v = eqb-true version v (and_parts (nat_eq version v) (nat_eq applied node) now).0 in
        let low = out_within s.0 version s.2.0 in
        omega arith
    either (inr earlier) ih = ih earlier
applied_within o (Acknowledges version ∷ ms) es v node s on = subst (λ l. v ≤ issues l) (sym s.2.2) (applied_within o ms s.0 v node s.1 on)

-- ---- the Done

done_itself : (es : List Event) (i : ℕ) (taken : List Bucket) → is_under_way (Done i taken ∷ es) i ≡ false
done_itself es i taken = ap (λ t. nat_lt i (arrived es) && not (t || is_done es i)) (eq-eqb i i refl) ∙ and_right (nat_lt i (arrived es)) false refl

done_other : (es : List Event) (i : ℕ) (taken : List Bucket) (j : ℕ) → (j ≡ i → ⊥) → is_under_way (Done i taken ∷ es) j ≡ is_under_way es j
done_other es i taken j apart = ap (λ t. nat_lt j (arrived es) && not (t || is_done es j)) (ne_eqb i j (λ same. apart (sym same)))

-- ---- the write-back

issue_itself : (o : Opening) (es : List Event) (v nonce : ℕ) (buckets : List Bucket) → FollowsLawfully o es → v ≡ issues es + 1 → is_outstanding (Issue v nonce buckets ∷ es) v ≡ true
issue_itself o es v nonce buckets f next =
    and_from (nat_lt 0 v) (nat_le v (issues es + 1) && not (is_acked es v)) (lt-ltb 0 v (omega arith))
    (and_from (nat_le v (issues es + 1)) (not (is_acked es v)) (le-leb v (issues es + 1) (omega arith)) (not_from_false (is_acked es v) (unacked_yet o es v f (omega arith))))

issue_other : (es : List Event) (v nonce : ℕ) (buckets : List Bucket) (u : ℕ) → v ≡ issues es + 1 → (u ≡ v → ⊥) → is_outstanding (Issue v nonce buckets ∷ es) u ≡ is_outstanding es u
issue_other es v nonce buckets u next apart = ap (λ t. nat_lt 0 u && (t && not (is_acked es u))) (either (cases_lt (issues es) u))
  where
    either : (issues es < u) ⊎ (u ≤ issues es) → nat_le u (issues es + 1) ≡ nat_le u (issues es)
    either (inl high) = lt-leb u (issues es + 1) (omega (arith, apart)) ∙ sym (lt-leb u (issues es) high)
    either (inr low) = le-leb u (issues es + 1) (omega arith) ∙ sym (le-leb u (issues es) low)

module _ (ms : List Move) (key : List ℕ) (old : History) (tree : TreeState) (fetches' : List (Option Reading)) (stores : List (Option Sending)) (i : ℕ) (reading : Reading)
    (shows : Shows ms key old tree fetches' stores) (found : row_at fetches' i ≡ Some reading) (whole : (d : ℕ) → d ≤ old.opening.shape.l → is_set_at reading.read d ≡ true)
    (taken : List Bucket) (read : AreFetched key old i reading.bytes taken) where
  row : ShowsReading ms key old i reading
  row = subst (ShowsFetch ms key old i) found (shows.reads.rows i)

  all_served : (node : ℕ) → fetches old.opening (reverse old.events) i node ≡ true → is_served ms i node ≡ true
  all_served node on =
      let l = old.opening.shape.l in
      let leaf = fetched_leaf old.opening (reverse old.events) i in
      let there = image_has (node_at l leaf) 0 (l + 1) node (sym (on_path_has l leaf node) ∙ on) in
      let high = there.2 in
      subst (λ w. is_served ms i w ≡ true) there.3 (all_read ms key old tree fetches' stores i reading shows row whole there.0 (omega arith))

  told : reverse (old.events ++ Done i taken ∷ []) ≡ Done i taken ∷ reverse old.events
  told = newest_first old.events (Done i taken)

  honest : Unaltered IsSameBucket old.opening (reverse (old.events ++ Done i taken ∷ []))
  honest = subst (Unaltered IsSameBucket old.opening) (sym told) ((newest_answer ms key old tree fetches' stores i reading shows row whole).honest taken read)

  tree_done : ShowsTree (Completes i ∷ ms) key (with_event old (Done i taken)) tree
  tree_done = told_tree (Completes i ∷ ms) key old (Done i taken) tree (moved_tree ms (Completes i ∷ ms) key old tree (λ w. refl) shows.server)

  rows_done : (j : ℕ) → ShowsFetch (Completes i ∷ ms) key (with_event old (Done i taken)) j (row_at (set fetches' i None) j)
  rows_done = rows_set (ShowsFetch (Completes i ∷ ms) key (with_event old (Done i taken))) fetches' i None (some_within fetches' i reading found)
      (ap (λ l. is_under_way l i) told ∙ done_itself (reverse old.events) i taken)
      (λ j apart. told_fetch (Completes i ∷ ms) key old (Done i taken) j (row_at fetches' j) shows.lawful.follows (done_other (reverse old.events) i taken j apart)
      (moved_fetch ms (Completes i ∷ ms) key old j (row_at fetches' j) (λ w. refl) (λ w. refl) (shows.reads.rows j)))

  stores_done : (v : ℕ) → ShowsStore (Completes i ∷ ms) key (with_event old (Done i taken)) v (row_at stores v)
  stores_done v = told_store (Completes i ∷ ms) key old (Done i taken) v (row_at stores v) refl
      (moved_store ms (Completes i ∷ ms) key old v (row_at stores v) (λ w. refl) (shows.puts.rows v))

  pub complete : IsLawful (with_event old (Done i taken)) → Shows (Completes i ∷ ms) key (with_event old (Done i taken)) tree (set fetches' i None) stores
  complete lawful = record {
    schedule = completes_goes old.opening ms (reverse old.events) i (reverse (old.events ++ Done i taken ∷ [])) shows.schedule row.under_way all_served
        (lawful.owes, taken, inl told);
    lawful = lawful;
    honest = honest;
    server = tree_done;
    reads = record {
      places = subst (λ l. arrived l ≤ length (set fetches' i None)) (sym told) (let long = length-set fetches' i None in let low = shows.reads.places in omega arith);
      rows = rows_done;
    };
    puts = record { places = subst (λ l. issues l < length stores) (sym told) shows.puts.places; rows = stores_done };
  }

  -- ---- and the write-back behind it

  module _ (buckets : List Bucket) (order : Order) (sent : IsOrderOf key old.opening.shape order.version order.nonce buckets order)
      (lawful : IsLawful (with_event (with_event old (Done i taken)) (Issue order.version order.nonce buckets))) (place : order.version < length stores) where
    abbrev then : History
    then = with_event old (Done i taken)

    abbrev e : Event
    e = Issue order.version order.nonce buckets

    told_too : reverse ((old.events ++ Done i taken ∷ []) ++ e ∷ []) ≡ e ∷ reverse (old.events ++ Done i taken ∷ [])
    told_too = newest_first (old.events ++ Done i taken ∷ []) e

    follows : FollowsLawfully old.opening (e ∷ reverse (old.events ++ Done i taken ∷ []))
    follows = subst (FollowsLawfully old.opening) told_too lawful.follows

    next : order.version ≡ issues (reverse (old.events ++ Done i taken ∷ [])) + 1
    next = follows.2.next

    not_applied : (node : ℕ) → is_applied ms order.version node ≡ false
    not_applied node = false_from_ne_true (is_applied ms order.version node) (λ on.
        let low = applied_within old.opening ms (reverse old.events) order.version node shows.schedule on in
        let same : issues (reverse (old.events ++ Done i taken ∷ [])) ≡ issues (reverse old.events) = ap issues told in
        let up = next in
        omega arith)

    own : ShowsSending (Completes i ∷ ms) key (with_event then e) order.version (new_sending order)
    own = record {
      outstanding = ap (λ l. is_outstanding l order.version) told_too ∙ issue_itself old.opening (reverse (old.events ++ Done i taken ∷ [])) order.version order.nonce buckets follows.0 next;
      version = refl;
      order = (buckets, Contains-append_right (old.events ++ Done i taken ∷ []) (e ∷ []) e (0, omega arith, refl), sent);
      flags = length-replicate (length order.nodes) false;
      put = λ j low. none_set (length order.nodes) j ∙ sym (not_applied (get_or order.nodes j 0));
      left = sym (none_left (length order.nodes));
    }

    pub complete_written : Shows (Completes i ∷ ms) key (with_event then e) tree (set fetches' i None) (set stores order.version (Some (new_sending order)))
    complete_written = record {
      schedule = completes_goes old.opening ms (reverse old.events) i (reverse ((old.events ++ Done i taken ∷ []) ++ e ∷ [])) shows.schedule row.under_way all_served
          (lawful.owes, taken, inr (order.version, order.nonce, buckets, told_too ∙ ap (λ l. e ∷ l) told));
      lawful = lawful;
      honest = subst (Unaltered IsSameBucket old.opening) (sym told_too) honest;
      server = told_tree (Completes i ∷ ms) key then e tree tree_done;
      reads = record {
        places = subst (λ l. arrived l ≤ length (set fetches' i None)) (sym (told_too ∙ ap (λ l. e ∷ l) told)) (let long = length-set fetches' i None in let low = shows.reads.places in omega arith);
        rows = λ j. told_fetch (Completes i ∷ ms) key then e j (row_at (set fetches' i None) j) follows.0 refl (rows_done j);
      };
      puts = record {
        places = subst (λ l. issues l < length (set stores order.version (Some (new_sending order)))) (sym told_too)
            (let long = length-set stores order.version (Some (new_sending order)) in let up = next in omega arith);
        rows = rows_set (ShowsStore (Completes i ∷ ms) key (with_event then e)) stores order.version (Some (new_sending order)) place own
            (λ u apart. told_store (Completes i ∷ ms) key then e u (row_at stores u)
            (issue_other (reverse (old.events ++ Done i taken ∷ [])) order.version order.nonce buckets u next apart) (stores_done u));
      };
    }

pub completes_shows : CompletesShows
completes_shows ms key old new tree fetches fetches' stores stores' i reading order shows a =
    subst (λ rows. Shows (Completes i ∷ ms) key new tree rows stores') (sym a.row) (either order a.done a.store)
  where
    either : (order : Option Order) → AddsDone key old new i reading.bytes order → AddsStore order stores stores' → Shows (Completes i ∷ ms) key new tree (set fetches i None) stores'
    either None (taken, read, is) store =
        subst (λ rows. Shows (Completes i ∷ ms) key new tree (set fetches i None) rows) (sym store)
        (subst (λ h. Shows (Completes i ∷ ms) key h tree (set fetches i None) stores) (sym is)
        (complete ms key old tree fetches stores i reading shows a.found a.whole taken read (subst IsLawful is a.lawful)))
    either (Some order) (taken, buckets, read, sent, is) store =
        subst (λ h. Shows (Completes i ∷ ms) key h tree (set fetches i None) stores') (sym is)
        (row_put (λ rows. Shows (Completes i ∷ ms) key (with_event (with_event old (Done i taken)) (Issue order.version order.nonce buckets)) tree (set fetches i None) rows)
        order.version (new_sending order) stores stores' store
        (λ low. complete_written ms key old tree fetches stores i reading shows a.found a.whole taken read buckets order sent (subst IsLawful is a.lawful) low)
        (λ low. complete_written ms key old tree fetches (stores ++ replicate 1 None) i reading (more_stores ms key old tree fetches stores 1 shows) a.found a.whole taken read buckets order sent (subst IsLawful is a.lawful) low))
