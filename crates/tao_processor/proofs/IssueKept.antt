-- A write-back keeps the invariant.
use Rattle.std.proofs.Common.{◌≡◌, ℕ, ◌+◌, ◌-◌, ◌*◌, ◌^◌, ◌<◌, ◌≤◌, Bool, true, false, cond, List, [], ◌∷◌, ◌++◌, length, filter, map, reverse, All, refl, sym, ap, ap₂, ◌∙◌, subst, arith, nat_eq, nat_lt, get_or}
use Rattle.std.specs.List.{list_any, range_with_len}
use Rattle.std.specs.List.Sorted.{IsStrictlyIncreasing}
use Rattle.std.proofs.Math.Pow.{pow_mono}
use Rattle.std.proofs.lemmas.Nat.{mul-le}
use Rattle.std.proofs.lemmas.Bool.{eq-eqb, ltb-true}
use Rattle.std.proofs.lemmas.List.{length-map, get_or-map, same_lists}
use Rattle.std.proofs.lemmas.List.Elements.{All-nil, All-cons, All-map}
use Rattle.std.proofs.lemmas.List.Folds.{list_any_at}
use Rattle.std.proofs.lemmas.List.FromFn.{get_or-range_with_len}
use Rattle.std.proofs.lemmas.List.FromFn.{length-range_with_len}
use Rattle.tao_base.specs.declared.session.Event.{Event}
use Rattle.tao_base.specs.declared.session.Event.TheVariants.{Issue}
use Rattle.tao_base.specs.declared.storage.Bucket.{Bucket}
use Rattle.tao_base.specs.declared.storage.Entry.{Entry}
use Rattle.tao_base.specs.Session.{Opening, History}
use Rattle.tao_base.specs.Limits.{Shape, IsShape, bucket_len, session_limit}
use Rattle.tao_base.specs.Links.{FitsLinks}
use Rattle.tao_images.proofs.OrderLemmas.{fits}
use Rattle.tao_processor.proofs.OrdersSent.{image_long, sent_nodes}
use Rattle.tao_base.specs.Tree.{node_count}
use Rattle.tao_model.specs.Events.{arrived, dones, issues, acks, has_fault}
use Rattle.tao_model.specs.Residence.{last_touch}
use Rattle.tao_base.specs.Buckets.{IsInForm}
use Rattle.tao_model.specs.Lawful.{FollowsLawfully, MayBeIssued, touched_after}
use Rattle.tao_model.specs.OneMore.{with_one_more}
use Rattle.tao_model.proofs.NewestWrites.{newest_is_greatest}
use Rattle.tao_model.proofs.Stays.{newest_first}
use Rattle.tao_model.proofs.LawfulToWhole.{follows_opening}
use Rattle.tao_laws.proofs.RecentNodes.{recent_is_resident}
use Rattle.tao_held.specs.Held.{held}
use Rattle.tao_tables.specs.Tables.{TellsNodes}
use Rattle.tao_tables.specs.Positions.{TellsPositions}
use Rattle.tao_laws.specs.Counted.{CountsWork}
use Rattle.tao_tables.specs.WriteBacks.{IsRecentList, AreStamped, TellsWrites}
use Rattle.tao_tables.specs.Pools.{Pools, HasPools, KeepsPools, AreCounts, IssuesInRoom}
use Rattle.tao_laws.proofs.CountedWork.{work_is_counted}
use Rattle.tao_tables.proofs.KeptAnswers.{served_else}
use Rattle.tao_tables.proofs.KeptFlags.{flags_are_told}
use Rattle.tao_tables.proofs.KeptRows.{rows_are_told, positions_are_told}
use Rattle.tao_tables.proofs.KeptWrites.{writes_are_told, recent_is_short, issue_may_follow, bucket_there, nonces_are_few}
use Rattle.tao_tables.proofs.MovedTables.{tells_issue}
use Rattle.tao_tables.proofs.PoolRoom.{room_issue, room_grows, counts_are_known}
use Rattle.tao_tables.proofs.ProxySteps.{proxy_goes_on, follows_on}
use Rattle.tao_record.specs.State.{RecordState, added, issue_len}
use Rattle.tao_requests.proofs.Followed.{follows_further}
use Rattle.tao_holdings.specs.Holding.{HoldingsState, is_held, contents_in, count_in, touch_in, version_in, written_at}
use Rattle.tao_holdings.specs.Lists.{with_entries_of}
use Rattle.tao_processor.specs.Steps.{IsNodeOf, IsEmpty, stamps, written_of, HoldsAgain}
use Rattle.tao_images.specs.Answers.{with_event}
use Rattle.tao_processor.specs.State.{ProcessorState, Issues}
use Rattle.tao_processor.specs.Groups.{Parts, IsProcessor, NodesAre, pools_of}
use Rattle.tao_base.specs.declared.storage.Order.{Order}
use Rattle.tao_bucket.specs.Encoding.{format_of, tag_of}
use Rattle.tao_images.specs.Orders.{IsOrderOf, IsOrderRoom}
use Rattle.tao_tables.specs.Tags.{ReplacesTags}
use Rattle.tao_processor.specs.Tags.{has_tag, tag_at, KeepsTagsOf}
use Rattle.tao_processor.proofs.TagsKept.{tagged_later, tags_go_on, replaces}
use Rattle.tao_processor.proofs.WrittenBack.{stamps_len, stamp_there, all_stamps, stamps_nodes, nodes_stay}

-- ---- lists

passing : (p : ℕ → Bool) (xs : List ℕ) → All (λ x. p x ≡ true) (filter p xs)
passing p [] = All-nil (λ x. p x ≡ true)
passing p (x ∷ xs) = either (p x) refl (passing p xs)
  where
    either : (t : Bool) → p x ≡ t → All (λ y. p y ≡ true) (filter p xs) → All (λ y. p y ≡ true) (cond t (x ∷ filter p xs) (filter p xs))
    either true is ih = All-cons (λ y. p y ≡ true) x (filter p xs) is ih
    either false is ih = ih

-- the nonces of the buckets are consecutive
nonces_count : (c : ℕ → List Entry) (nodes : List ℕ) (v n : ℕ) → map (λ bucket. bucket.nonce) (written_of c nodes v n) ≡ range_with_len n (length (written_of c nodes v n))
nonces_count c nodes v n = same_lists (map (λ bucket. bucket.nonce) (written_of c nodes v n)) (range_with_len n (length (written_of c nodes v n)))
    (length-map (written_of c nodes v n) (λ bucket. bucket.nonce) ∙ sym (length-range_with_len n (length (written_of c nodes v n)))) (λ k d low.
    let long = length-map (written_of c nodes v n) (λ bucket. bucket.nonce) in
    let some = length-map (stamps nodes v n) (with_entries_of c) in
    let more = stamps_len nodes v n in
    let small : k < length nodes = omega arith in
    let empty : Bucket = record { node = 0; version = 0; nonce = 0; entries = [] } in
    get_or-map (λ (bucket : Bucket). bucket.nonce) (written_of c nodes v n) k empty d (omega arith)
    ∙ ap (λ (bucket : Bucket). bucket.nonce) (get_or-map (with_entries_of c) (stamps nodes v n) k empty empty (omega arith)) ∙ ap (λ (bucket : Bucket). bucket.nonce) (stamp_there nodes v n k empty small)
    ∙ sym (get_or-range_with_len n (length (written_of c nodes v n)) k d (omega arith)))

written_len : (c : ℕ → List Entry) (nodes : List ℕ) (v n : ℕ) → length (written_of c nodes v n) ≡ length nodes
written_len c nodes v n = length-map (stamps nodes v n) (with_entries_of c) ∙ stamps_len nodes v n

-- ---- the event

-- what a write-back finds
pub record IsReadyToIssue (x : Parts) : Type 0 where
  pub room : IssuesInRoom x.shape x.ready (arrived (reverse x.session.history.events)) (dones (reverse x.session.history.events)) (issues (reverse x.session.history.events))
      (acks (reverse x.session.history.events)) (pools_of x)
  pub version : x.issue_count + 1 < 2 ^ 32
  pub place : x.issue_count < x.place_room
  pub few : length x.recent ≤ issue_len x.session.history.opening.shape
  pub count : length x.recent ≤ length x.written
  pub rising : IsStrictlyIncreasing x.recent
  pub tree : All (IsNodeOf x.session.history.opening.shape) x.recent
  pub held_all : All (λ node. is_held x.holdings node ≡ true) x.recent
  pub newer : All (λ node. version_in x.holdings node < x.issue_count + 1) x.recent
  pub fits : x.next_nonce + length x.recent < 2 ^ 64
  pub tag_places : (version : ℕ) → format_of x.session.history.opening.shape.form version ≡ 2 → All (λ node. node < length x.tags) x.recent

pub ready_to_issue : (x : Parts) → IsProcessor x → dones (reverse x.session.history.events) ≡ (issues (reverse x.session.history.events) + 1) * x.session.history.opening.shape.k → IsReadyToIssue x
ready_to_issue x is due = record {
  room = room_issue x.shape x.ready (arrived es) (dones es) (issues es) (acks es) (pools_of x) counts (due ∙ ap (λ (s : Shape). (issues es + 1) * s.k) is.record_is.shape) is.pools;
  version = let m = is.writes.issues in let a = work.written in let b = work.limit in let limit : session_limit o.shape ≤ 65536 = omega arith in omega arith;
  place = let m = is.writes.issues in let places = (room_issue x.shape x.ready (arrived es) (dones es) (issues es) (acks es) (pools_of x) counts (due ∙ ap (λ (s : Shape). (issues es + 1) * s.k) is.record_is.shape) is.pools).places in omega arith;
  few = few;
  count = let fits : issue_len o.shape ≤ length x.written = subst (λ (s : Shape). issue_len s ≤ length x.written) (sym is.record_is.shape) is.written_fits in omega (arith, few, fits);
  rising = subst (λ (ns : List ℕ). IsStrictlyIncreasing ns) (sym is.writes.touched) short.rises;
  tree = tree;
  held_all = subst (λ (ns : List ℕ). All (λ node. is_held x.holdings node ≡ true) ns) (sym is.writes.touched) (λ k d low.
      is.held_is.nodes.residents (get_or nodes k d) ∙ recent_is_resident o events (get_or nodes k d) is.record_is.proxy.follows
      (ltb-true (issues es * o.shape.k) (last_touch o es (get_or nodes k d)) (passing (λ node. nat_lt (issues es * o.shape.k) (last_touch o es node)) (range_with_len 1 (node_count o.shape.l)) k d low)));
  newer = λ k d low.
      let told = is.held_is.nodes.versions (get_or x.recent k d) in
      let most = (newest_is_greatest o events (get_or x.recent k d) is.record_is.proxy.follows).version.within in
      let m = is.writes.issues in
      omega (arith, told, most, m);
  tag_places = λ version two.
      let there = is.tagged.places (tagged_later o.shape.form version two) in
      λ k d low. let in_tree = (tree k d low).high in omega (arith, there, in_tree);
  fits =
      let tall = (follows_opening o es is.record_is.proxy.follows).shape.height_high in
      let high : o.shape.l + 1 ≤ 17 = omega arith in
      let wide : 2 ^ (o.shape.l + 1) ≤ 2 ^ 17 = pow_mono {j = 17} high in
      let nonces = nonces_are_few o events is.record_is.proxy.follows in
      let a = work.written in
      let b = work.limit in
      let limit : session_limit o.shape ≤ 65536 = omega arith in
      let tree : node_count o.shape.l ≤ 131071 = omega arith in
      let most : issues es * node_count o.shape.l ≤ 65536 * 131071 = mul-le (issues es) (node_count o.shape.l) 65536 131071 (omega arith) tree in
      let next = is.writes.next in
      omega (arith, within);
}
  where
    o : Opening
    o = x.session.history.opening

    events : List Event
    events = x.session.history.events

    es : List Event
    es = reverse events

    nodes : List ℕ
    nodes = touched_after o es (issues es * o.shape.k)

    work : CountsWork o es
    work = work_is_counted o events is.record_is.proxy.follows

    counts : AreCounts x.shape (arrived es) (dones es) (issues es) (acks es)
    counts = subst (λ (s : Shape). AreCounts s (arrived es) (dones es) (issues es) (acks es)) is.record_is.shape (counts_are_known o events is.record_is.proxy.follows)

    short : IsRecentList o es nodes
    short = recent_is_short o events is.record_is.proxy.follows

    tree : All (IsNodeOf o.shape) x.recent
    tree = subst (λ (ns : List ℕ). All (IsNodeOf o.shape) ns) (sym is.writes.touched) (λ k d low.
        let inside = short.in_tree (get_or nodes k d) (list_any_at (λ v. nat_eq v (get_or nodes k d)) nodes k d low (eq-eqb (get_or nodes k d) (get_or nodes k d) refl)) in
        record { low = omega (arith, inside.0); high = inside.1 })

    within : length x.recent ≤ node_count o.shape.l
    within = subst (λ (ns : List ℕ). length ns ≤ node_count o.shape.l) (sym is.writes.touched) short.within

    few : length x.recent ≤ issue_len o.shape
    few =
        let paths : length x.recent ≤ o.shape.k * (o.shape.l + 1) =
        subst (λ (ns : List ℕ). length ns ≤ o.shape.k * (o.shape.l + 1)) (sym is.writes.touched)
        (subst (λ n. length nodes ≤ n * (o.shape.l + 1)) (let one : (issues es + 1) * o.shape.k ≡ issues es * o.shape.k + o.shape.k = omega arith in omega (arith, due)) short.few) in
        omega (arith, within)

pub issue_ready : {x : Parts} {h : History} → IsProcessor x → x.session.history ≡ h → dones (reverse h.events) ≡ (issues (reverse h.events) + 1) * h.opening.shape.k → IsReadyToIssue x
issue_ready {x} {h} is same due = ready_to_issue x is (subst (λ (g : History). dones (reverse g.events) ≡ (issues (reverse g.events) + 1) * g.opening.shape.k) (sym same) due)

-- what holds of the order of a write-back
pub record IsSentWell (x : Parts) (version : ℕ) (order : Order) : Type 0 where
  pub sends : IsOrderOf x.key x.shape version x.next_nonce (written_of (contents_in x.holdings) x.recent version x.next_nonce) order
  pub image : length order.image ≡ length order.nodes * bucket_len x.shape
  pub rising : IsStrictlyIncreasing order.nodes
  pub places : format_of x.shape.form order.version ≡ 2 → All (λ node. node < length x.tags) order.nodes
  pub fits : FitsLinks x.shape order

pub sent_well : {x : Parts} {version : ℕ} {nodes : List ℕ} {order : Order} → IsProcessor x → IsReadyToIssue x → nodes ≡ x.recent
    → IsOrderOf x.key x.shape version x.next_nonce (written_of (contents_in x.holdings) nodes version x.next_nonce) order
    → All (IsInForm x.holdings.shape) (written_of (contents_in x.holdings) nodes version x.next_nonce) → IsSentWell x version order
sent_well {x} {version} {nodes} {order} is ready same sent forms = record {
  sends = sends;
  image = image_long x.key x.shape version x.next_nonce buckets order shape sends in_form;
  rising = subst (λ (ns : List ℕ). IsStrictlyIncreasing ns) (sym named) ready.rising;
  places = λ two. subst (λ (ns : List ℕ). All (λ node. node < length x.tags) ns) (sym named) (ready.tag_places order.version (ap (λ (s : Shape). format_of s.form order.version) is.record_is.shape ∙ two));
  fits = fits x.key x.shape version x.next_nonce buckets order shape sends in_form (
      let few = subst (λ (s : Shape). length x.recent ≤ issue_len s) is.record_is.shape ready.few in
      let long = written_len (contents_in x.holdings) x.recent version x.next_nonce in
      omega (arith, few, long)
      );
}
  where
    buckets : List Bucket
    buckets = written_of (contents_in x.holdings) x.recent version x.next_nonce

    shape : IsShape x.shape
    shape = subst IsShape is.record_is.shape (follows_opening x.session.history.opening (reverse x.session.history.events) is.record_is.proxy.follows).shape

    sends : IsOrderOf x.key x.shape version x.next_nonce buckets order
    sends = subst (λ (ns : List ℕ). IsOrderOf x.key x.shape version x.next_nonce (written_of (contents_in x.holdings) ns version x.next_nonce) order) same sent

    in_form : All (IsInForm x.shape) buckets
    in_form = subst (λ (s : Shape). All (IsInForm s) buckets) (is.held_is.shape ∙ is.record_is.shape)
        (subst (λ (ns : List ℕ). All (IsInForm x.holdings.shape) (written_of (contents_in x.holdings) ns version x.next_nonce)) same forms)

    named : order.nodes ≡ x.recent
    named = sent_nodes x.key x.shape (contents_in x.holdings) x.recent version x.next_nonce order sends

-- what the calls of a write-back do
pub record DoesIssue (x : Parts) (version : ℕ) (session : RecordState) (h1 h2 : HoldingsState) (written : List Bucket) (places : List ℕ) (place_room nonce : ℕ) (kept : List (List ℕ))
    (order : Order) (orders : List Order) (order_count : ℕ) : Type 0 where
  pub numbered : version ≡ x.issue_count + 1
  pub adds : session ≡ record (added x.session (Issue version x.next_nonce (written_of (contents_in x.holdings) x.recent version x.next_nonce))) { issues = x.session.issues - 1 }
  pub in_form : All (IsInForm x.holdings.shape) (written_of (contents_in x.holdings) x.recent version x.next_nonce)
  pub again : HoldsAgain x.holdings h1
  pub versions : version_in h2 ≡ written_at x.recent version (version_in h1)
  pub versions_alone : h2 ≡ record h1 { versions = h2.versions }
  pub empty : All IsEmpty written
  pub as_long : length written ≡ length x.written
  pub placed : places ≡ x.places ++ length x.session.history.events ∷ []
  pub no_less : x.place_room ≤ place_room
  pub next : nonce ≡ x.next_nonce + length x.recent
  pub sends : IsOrderOf x.key x.shape version x.next_nonce (written_of (contents_in x.holdings) x.recent version x.next_nonce) order
  pub keeps : KeepsTagsOf x.shape order x.tags kept
  pub left : All (IsOrderRoom x.shape (issue_len x.shape)) orders
  pub one_less : order_count + 1 ≡ x.order_count

pub issue_keeps : {x : Parts} {version nonce recent_room place_room : ℕ} {session : RecordState} {h1 h2 : HoldingsState} {written : List Bucket} {recent places : List ℕ} {kept : List (List ℕ)}
    {order : Order} {orders : List Order} {order_count : ℕ} → IsProcessor x → has_fault (reverse x.session.history.events) ≡ false → dones (reverse x.session.history.events) ≡ (issues (reverse x.session.history.events) + 1) * x.session.history.opening.shape.k
    → IsReadyToIssue x → DoesIssue x version session h1 h2 written places place_room nonce kept order orders order_count → recent ≡ [] → x.recent_room ≤ recent_room
    → IsProcessor (record x { session = session; recent = recent; recent_room = recent_room; places = places; place_room = place_room; issue_count = version; next_nonce = nonce; tags = kept; holdings = h2; written = written; orders = orders; order_count = order_count })
issue_keeps {x} {version} {nonce} {recent_room} {place_room} {session} {h1} {h2} {written} {recent} {places} {kept} {order} {orders} {order_count} is running due ready does none wide =
    subst (λ (s : RecordState). IsProcessor (record x { session = s; recent = recent; recent_room = recent_room; places = places; place_room = place_room; issue_count = version; next_nonce = nonce; tags = kept; holdings = h2; written = written; orders = orders; order_count = order_count }))
    (sym does.adds) (record {
      record_is = record {
        shape = is.record_is.shape;
        proxy = (proxy_goes_on o events is.record_is.proxy).issue version x.next_nonce buckets lawful
            (All-map (λ bucket. bucket.entries ≡ held o es bucket.node) (with_entries_of (contents_in x.holdings)) (stamps x.recent version x.next_nonce) (λ k d low. is.held_is.nodes.contents _));
      };
      held_is = record {
        shape = ap (λ (st : HoldingsState). st.shape) does.versions_alone ∙ ap (λ (st : HoldingsState). st.shape) does.again.others ∙ is.held_is.shape;
        nodes = nodes;
        positions = subst (λ (ws : List ℕ). TellsPositions o now ws) (sym (ap (λ (st : HoldingsState). st.words) does.versions_alone ∙ ap (λ (st : HoldingsState). st.words) does.again.others))
            ((positions_are_told o events x.holdings.words is.held_is.positions).issue version x.next_nonce buckets);
      };
      asked = record {
        shape = is.asked.shape;
        follows = (follows_further events x.requests.requests is.asked.follows).issue version x.next_nonce buckets;
        served = (served_else o events x.requests.requests is.asked.follows is.asked.served).issue version x.next_nonce buckets lawful;
      };
      flags = (flags_are_told o events x.done_flags x.acked_flags is.flags).issue version x.next_nonce buckets;
      fetched = (rows_are_told o events x.row_count _ _ is.fetched).issue version x.next_nonce buckets;
      writes = subst (λ (ns : List ℕ). TellsWrites o (events ++ Issue version x.next_nonce buckets ∷ []) ns places x.done_count version x.ack_count nonce) (sym none)
          (subst (λ (ps : List ℕ). TellsWrites o (events ++ Issue version x.next_nonce buckets ∷ []) [] ps x.done_count version x.ack_count nonce) (sym does.placed)
          (subst (λ v. TellsWrites o (events ++ Issue version x.next_nonce buckets ∷ []) [] (x.places ++ length events ∷ []) x.done_count v x.ack_count nonce) (sym does.numbered)
          (subst (λ n. TellsWrites o (events ++ Issue version x.next_nonce buckets ∷ []) [] (x.places ++ length events ∷ []) x.done_count (x.issue_count + 1) x.ack_count n)
          (sym (does.next ∙ ap (λ n. x.next_nonce + n) (sym (written_len (contents_in x.holdings) x.recent version x.next_nonce))))
          ((writes_are_told o events x.recent x.places x.done_count x.issue_count x.ack_count x.next_nonce is.writes).issue version x.next_nonce buckets lawful))));
      tagged = (tags_go_on x.key o events x.tags is.tagged).issue version x.next_nonce buckets kept replaced.0 replaced.1;
      pools = subst (λ (later : List Event). HasPools x.shape x.ready (arrived later) (dones later) (issues later) (acks later) left) (sym (newest_first events (Issue version x.next_nonce buckets)))
          (room_grows x.shape x.ready (arrived es) (dones es) (issues es + 1) (acks es) spent left grows ready.room.left);
      blocks = is.blocks;
      order_rooms = does.left;
      rooms_are = is.rooms_are;
      recent_fits = let fits = is.recent_fits in omega (arith, fits, wide);
      written_fits = let fits = is.written_fits in let long = does.as_long in omega arith;
      written_empty = does.empty;
    })
  where
    o : Opening
    o = x.session.history.opening

    events : List Event
    events = x.session.history.events

    es : List Event
    es = reverse events

    buckets : List Bucket
    buckets = written_of (contents_in x.holdings) x.recent version x.next_nonce

    now : List Event
    now = with_one_more events (Issue version x.next_nonce buckets)

    stamped : AreStamped o x.recent version x.next_nonce buckets
    stamped = record {
      nodes = nodes_stay (contents_in x.holdings) (stamps x.recent version x.next_nonce) ∙ stamps_nodes x.recent version x.next_nonce;
      in_form = subst (λ (s : Shape). All (IsInForm s) buckets) is.held_is.shape does.in_form;
      versions = All-map (λ bucket. bucket.version ≡ version) (with_entries_of (contents_in x.holdings)) (stamps x.recent version x.next_nonce)
          (all_stamps (λ bucket. bucket.version ≡ version) x.recent version x.next_nonce (λ k low. refl));
      nonces = nonces_count (contents_in x.holdings) x.recent version x.next_nonce;
    }

    replaced : ReplacesTags (has_tag o.shape) (tag_of x.key o.shape) version buckets (tag_at x.tags) (tag_at kept) × (length kept ≡ length x.tags)
    replaced = replaces x.key o.shape version x.next_nonce buckets order x.tags kept (follows_opening o es is.record_is.proxy.follows).shape
        (subst (λ (s : Shape). IsOrderOf x.key s version x.next_nonce buckets order) (sym is.record_is.shape) does.sends) stamped.in_form
        (subst (λ (s : Shape). KeepsTagsOf s order x.tags kept) (sym is.record_is.shape) does.keeps)

    full : x.done_count ≡ (x.issue_count + 1) * o.shape.k
    full = is.writes.dones ∙ due ∙ ap (λ m. (m + 1) * o.shape.k) (sym is.writes.issues)

    may : MayBeIssued o es version x.next_nonce buckets
    may = subst (λ v. MayBeIssued o es v x.next_nonce buckets) (sym does.numbered)
        (issue_may_follow o events x.recent x.places x.done_count x.issue_count x.ack_count x.next_nonce buckets is.writes full
        (subst (λ v. AreStamped o x.recent v x.next_nonce buckets) does.numbered stamped))

    lawful : FollowsLawfully o now
    lawful = follows_on o events (Issue version x.next_nonce buckets) is.record_is.proxy.follows running may

    told : TellsNodes o now (λ w. is_held x.holdings w) (λ w. contents_in x.holdings w) (λ w. count_in x.holdings w) (λ w. touch_in x.holdings w) (λ w. version_in h2 w)
    told = tells_issue o events version x.next_nonce buckets (λ w. is_held x.holdings w) (λ w. contents_in x.holdings w) _ _ (λ w. version_in x.holdings w) (λ w. version_in h2 w) is.held_is.nodes
        (λ w. ap (λ (g : ℕ → ℕ). g w) (does.versions ∙ ap (λ (g : ℕ → ℕ). written_at x.recent version g) (ap (λ (st : HoldingsState). version_in st) does.again.others))
        ∙ ap (λ t. cond t version (version_in x.holdings w)) (sym (bucket_there w buckets ∙ ap (list_any (λ v. nat_eq v w)) stamped.nodes)))

    nodes : NodesAre o now h2
    nodes = record {
      residents = λ w. ap (λ (g : ℕ → Bool). g w) (ap (λ (st : HoldingsState). is_held st) does.versions_alone ∙ does.again.held) ∙ told.residents w;
      contents = λ w. ap (λ (g : ℕ → List Entry). g w) (ap (λ (st : HoldingsState). contents_in st) does.versions_alone ∙ does.again.contents) ∙ told.contents w;
      counts = λ w. ap (λ (g : ℕ → ℕ). g w) (ap (λ (st : HoldingsState). count_in st) does.versions_alone ∙ ap (λ (st : HoldingsState). count_in st) does.again.others) ∙ told.counts w;
      touches = λ w. ap (λ (g : ℕ → ℕ). g w) (ap (λ (st : HoldingsState). touch_in st) does.versions_alone ∙ ap (λ (st : HoldingsState). touch_in st) does.again.others) ∙ told.touches w;
      versions = told.versions;
    }

    spent : Pools
    spent = record (pools_of x) { issues = x.session.issues - 1; orders = x.order_count - 1 }

    left : Pools
    left = record (pools_of x) { issues = x.session.issues - 1; orders = order_count; places = place_room }

    grows : KeepsPools spent left
    grows = record {
      dones = omega arith;
      issues = omega arith;
      others = omega arith;
      orders = let less = does.one_less in omega (arith, less);
      stock = omega arith;
      values = omega arith;
      requests = omega arith;
      rows = omega arith;
      places = let less = does.no_less in omega arith;
    }

-- what contracts see of it
pub issues_so : (x : Parts) (looked : List Bucket) (version : ℕ) (order : Order) (session : RecordState) (h2 : HoldingsState) (old : ProcessorState) → IsProcessor x → version ≡ x.issue_count + 1
    → (record { key = x.key; history = x.session.history; holdings = x.holdings; ready = x.ready; looked = looked }) ≡ old
    → session ≡ record (added x.session (Issue version x.next_nonce (written_of (contents_in x.holdings) x.recent version x.next_nonce))) { issues = x.session.issues - 1 }
    → IsSentWell x version order → Issues old (record { key = x.key; history = session.history; holdings = h2; ready = x.ready; looked = looked }) order
issues_so x looked version order session h2 old is numbered same adds well =
    subst (λ (st : ProcessorState). Issues st (record { key = x.key; history = session.history; holdings = h2; ready = x.ready; looked = looked }) order) same (record {
      buckets = buckets;
      state = ap (λ (h : History). record { key = x.key; history = h; holdings = h2; ready = x.ready; looked = looked })
          (ap (λ (r : RecordState). r.history) adds ∙ ap₂ (λ v n. with_event x.session.history (Issue v n buckets)) next (sym nonce_is));
      sends = subst (λ v. IsOrderOf x.key o.shape v order.nonce buckets order) next
          (subst (λ n. IsOrderOf x.key o.shape version n buckets order) (sym nonce_is) (subst (λ (s : Shape). IsOrderOf x.key s version x.next_nonce buckets order) (sym is.record_is.shape) well.sends));
      fits = subst (λ (s : Shape). FitsLinks s order) (sym is.record_is.shape) well.fits;
    })
  where
    o : Opening
    o = x.session.history.opening

    buckets : List Bucket
    buckets = written_of (contents_in x.holdings) x.recent version x.next_nonce

    next : version ≡ issues (reverse x.session.history.events) + 1
    next = numbered ∙ ap (λ m. m + 1) is.writes.issues

    nonce_is : order.nonce ≡ x.next_nonce
    nonce_is = ap (λ (y : Order). y.nonce) well.sends
