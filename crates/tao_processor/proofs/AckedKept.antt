-- An acknowledgement keeps the invariant.
use Rattle.std.proofs.Common.{◌≡◌, ℕ, zero, suc, ◌+◌, ◌-◌, ◌*◌, ◌<◌, ◌≤◌, Bool, true, false, not, ◌&&◌, ◌||◌, cond, List, [], ◌∷◌, ◌++◌, length, take, reverse, refl, sym, ap, ap₂, ◌∙◌, subst, arith, inl, inr, ◌⊎◌, nat_eq, nat_lt, get_or}
use Rattle.std.specs.Prelude.{nat_le, slice_set, slice_index, if◌then◌else◌}
use Rattle.std.specs.List.{list_any}
use Rattle.std.proofs.lemmas.Bool.{cases_lt, cases_eq, ne_eqb, eq-eqb, true≢false, lt-leb, le-leb, lt-ltb, le-ltb}
use Rattle.std.proofs.lemmas.List.{take_more}
use Rattle.std.proofs.lemmas.List.Folds.{list_any-append}
use Rattle.tao_base.specs.declared.session.Event.{Event}
use Rattle.tao_base.specs.declared.session.Event.TheVariants.{Issue, Acked}
use Rattle.tao_base.specs.declared.storage.Bucket.{Bucket}
use Rattle.tao_base.specs.declared.storage.Entry.{Entry}
use Rattle.tao_base.specs.Session.{Opening, History}
use Rattle.tao_base.specs.Limits.{Shape}
use Rattle.tao_model.specs.Events.{arrived, dones, issues, acks, has_fault}
use Rattle.tao_model.specs.Trace.{nodes_in}
use Rattle.tao_model.specs.WholeRecords.{IsAt}
use Rattle.tao_model.specs.Lawful.{FollowsLawfully, MayFollow}
use Rattle.tao_model.specs.OneMore.{with_one_more}
use Rattle.tao_model.proofs.Stays.{newest_first}
use Rattle.tao_processor.proofs.TagsKept.{tags_go_on}
use Rattle.tao_held.specs.Held.{held}
use Rattle.tao_held.proofs.HeldSteps.{away_is_empty}
use Rattle.tao_tables.specs.Flags.{TellsFlags, IsFree}
use Rattle.tao_tables.specs.Positions.{TellsPositions}
use Rattle.tao_tables.specs.WriteBacks.{IsIssueAt}
use Rattle.tao_tables.specs.Pools.{HasPools, AreCounts, AckedInRoom}
use Rattle.tao_laws.proofs.CountedWork.{acks_are_counted}
use Rattle.tao_tables.proofs.KeptAnswers.{served_else}
use Rattle.tao_tables.proofs.KeptFlags.{flags_are_told}
use Rattle.tao_tables.proofs.KeptRows.{rows_are_told, positions_are_told}
use Rattle.tao_tables.proofs.KeptWrites.{writes_are_told}
use Rattle.tao_tables.proofs.MovedTables.{tells_acked}
use Rattle.tao_tables.proofs.WrittenTables.{issued_is}
use Rattle.tao_tables.proofs.PoolRoom.{room_acked, counts_are_known}
use Rattle.tao_tables.proofs.ProxySteps.{proxy_goes_on, follows_on}
use Rattle.tao_record.specs.State.{RecordState, added}
use Rattle.tao_requests.proofs.Followed.{follows_further}
use Rattle.tao_holdings.specs.Holding.{HoldingsState, is_held, contents_in, count_in, touch_in, without, left_by, may_go}
use Rattle.tao_processor.specs.Steps.{Forgets}
use Rattle.tao_processor.specs.Groups.{Parts, IsProcessor, NodesAre, pools_of}
use Rattle.tao_processor.proofs.Kept.{nodes_with}

-- ---- one more node leaves

abbrev has : ℕ → List ℕ → Bool
has w nodes = list_any (λ v. nat_eq v w) nodes

held_step : (h t u g : Bool) → ((h && not (t && g)) && not (u && g)) ≡ (h && not ((t || (u || false)) && g))
held_step true true true true = refl
held_step true true true false = refl
held_step true true false true = refl
held_step true true false false = refl
held_step true false true true = refl
held_step true false true false = refl
held_step true false false true = refl
held_step true false false false = refl
held_step false t u g = refl

contents_step : (z t u g : Bool) (c : List Entry) → cond (z && (u && g)) [] (cond (z && (t && g)) [] c) ≡ cond (z && ((t || (u || false)) && g)) [] c
contents_step true true true true c = refl
contents_step true true true false c = refl
contents_step true true false true c = refl
contents_step true true false false c = refl
contents_step true false true true c = refl
contents_step true false true false c = refl
contents_step true false false true c = refl
contents_step true false false false c = refl
contents_step false t u g c = refl

pub forgets_more : (version : ℕ) (nodes : List ℕ) (d v : ℕ) (old mid new : HoldingsState) → d < length nodes → v ≡ get_or nodes d 0 → Forgets version (take d nodes) old mid
    → is_held new ≡ without mid version v (is_held mid) → contents_in new ≡ left_by mid version v (contents_in mid) → new ≡ record mid { nodes = new.nodes }
    → Forgets version (take (d + 1) nodes) old new
forgets_more version nodes d v old mid new low here before held contents others = record {
  held = λ w.
      ap (λ (g : ℕ → Bool). g w) held ∙ ap₂ (λ (h g : Bool). h && not (nat_eq w v && g)) (before.held w) (same w)
      ∙ ap (λ u. (is_held old w && not (has w (take d nodes) && may_go old version w)) && not (u && may_go old version w)) (turn w v)
      ∙ held_step (is_held old w) (has w (take d nodes)) (nat_eq v w) (may_go old version w)
      ∙ ap (λ t. is_held old w && not (t && may_go old version w)) (sym (split w));
  contents = λ w.
      ap (λ (g : ℕ → List Entry). g w) contents ∙ ap₂ (λ (g : Bool) (c : List Entry). cond (not (nat_eq w 0) && (nat_eq w v && g)) [] c) (same w) (before.contents w)
      ∙ ap (λ u. cond (not (nat_eq w 0) && (u && may_go old version w)) [] (cond (not (nat_eq w 0) && (has w (take d nodes) && may_go old version w)) [] (contents_in old w))) (turn w v)
      ∙ contents_step (not (nat_eq w 0)) (has w (take d nodes)) (nat_eq v w) (may_go old version w) (contents_in old w)
      ∙ ap (λ t. cond (not (nat_eq w 0) && (t && may_go old version w)) [] (contents_in old w)) (sym (split w));
  others = others ∙ ap (λ (st : HoldingsState). record st { nodes = new.nodes }) before.others;
}
  where
    same : (w : ℕ) → may_go mid version w ≡ may_go old version w
    same w = ap (λ (st : HoldingsState). may_go st version w) before.others

    turn : (a b : ℕ) → nat_eq a b ≡ nat_eq b a
    turn a b = either (cases_eq a b)
      where
        either : (a ≡ b) ⊎ (a ≡ b → ⊥) → nat_eq a b ≡ nat_eq b a
        either (inl e) = eq-eqb a b e ∙ sym (eq-eqb b a (sym e))
        either (inr other) = ne_eqb a b other ∙ sym (ne_eqb b a (λ e. other (sym e)))

    split : (w : ℕ) → has w (take (d + 1) nodes) ≡ (has w (take d nodes) || (nat_eq v w || false))
    split w = ap (has w) (take_more nodes d 0 low ∙ ap (λ n. take d nodes ++ n ∷ []) (sym here)) ∙ list_any-append (λ u. nat_eq u w) (take d nodes) (v ∷ [])

pub forgets_none : (version : ℕ) (old : HoldingsState) → Forgets version [] old old
forgets_none version old = record {
  held = λ w. either (is_held old w);
  contents = λ w. none (not (nat_eq w 0)) (contents_in old w);
  others = refl;
}
  where
    either : (b : Bool) → b ≡ (b && true)
    either true = refl
    either false = refl

    none : (b : Bool) (c : List Entry) → c ≡ cond (b && false) [] c
    none true c = refl
    none false c = refl

-- ---- the event

-- what an acknowledgement finds
pub record IsReadyForAcked (x : Parts) (version : ℕ) : Type 0 where
  pub lawful : FollowsLawfully x.session.history.opening (with_one_more x.session.history.events (Acked version))
  pub low : 0 < version
  pub high : version ≤ x.issue_count
  pub places : length x.places ≡ x.issue_count
  pub there : IsIssueAt x.session.history.events (slice_index x.places (version - 1)) version
  pub free : IsFree x.acked_flags (version - 1)
  pub fewer : x.ack_count < x.issue_count
  pub room : AckedInRoom x.shape x.ready (arrived (reverse x.session.history.events)) (dones (reverse x.session.history.events)) (issues (reverse x.session.history.events))
      (acks (reverse x.session.history.events)) (pools_of x)

pub ready_for_acked : (x : Parts) (version : ℕ) → IsProcessor x → has_fault (reverse x.session.history.events) ≡ false
    → MayFollow x.session.history.opening (reverse x.session.history.events) (Acked version) → IsReadyForAcked x version
ready_for_acked x version is running may = record {
  lawful = lawful;
  low = may.1;
  high = let count = is.writes.issues in let high = may.2 in omega arith;
  places = is.writes.count ∙ sym is.writes.issues;
  there = subst (λ v. IsIssueAt events (slice_index x.places (version - 1)) v) (omega (arith, may.1)) (is.writes.each (version - 1) (omega (arith, may.1, may.2)));
  free = (flags_are_told o events x.done_flags x.acked_flags is.flags).acked_free version lawful;
  fewer = let a = is.writes.acks in let m = is.writes.issues in omega (arith, fewer);
  room = room_acked x.shape x.ready (arrived es) (dones es) (issues es) (acks es) (pools_of x) counts fewer is.pools;
}
  where
    o : Opening
    o = x.session.history.opening

    events : List Event
    events = x.session.history.events

    es : List Event
    es = reverse events

    lawful : FollowsLawfully o (with_one_more events (Acked version))
    lawful = follows_on o events (Acked version) is.record_is.proxy.follows running may

    fewer : acks es < issues es
    fewer = (acks_are_counted o events is.record_is.proxy.follows).some version may.1 may.2 may.3

    counts : AreCounts x.shape (arrived es) (dones es) (issues es) (acks es)
    counts = subst (λ (s : Shape). AreCounts s (arrived es) (dones es) (issues es) (acks es)) is.record_is.shape (counts_are_known o events is.record_is.proxy.follows)

pub acked_ready : {x : Parts} {h : History} (version : ℕ) → IsProcessor x → x.session.history ≡ h → has_fault (reverse h.events) ≡ false
    → MayFollow h.opening (reverse h.events) (Acked version) → IsReadyForAcked x version
acked_ready {x} {h} version is same running may = ready_for_acked x version is
    (subst (λ (g : History). has_fault (reverse g.events) ≡ false) (sym same) running)
    (subst (λ (g : History). MayFollow g.opening (reverse g.events) (Acked version)) (sym same) may)

le_is : (x y : ℕ) → nat_le x y ≡ not (nat_lt y x)
le_is x y = either (cases_lt y x)
  where
    either : (y < x) ⊎ (x ≤ y) → nat_le x y ≡ not (nat_lt y x)
    either (inl less) = lt-leb x y less ∙ sym (ap not (lt-ltb y x less))
    either (inr more) = le-leb x y more ∙ sym (ap not (le-ltb y x more))

pub acked_keeps : {x : Parts} {version nonce : ℕ} {buckets : List Bucket} {session : RecordState} {h : HoldingsState} {marks : List Bool}
    → IsProcessor x → IsReadyForAcked x version → IsAt x.session.history.events (slice_index x.places (version - 1)) (Issue version nonce buckets)
    → session ≡ record (added x.session (Acked version)) { others = x.session.others - 1 } → marks ≡ slice_set x.acked_flags (version - 1) true
    → Forgets version (nodes_in buckets) x.holdings h
    → IsProcessor (record x { session = session; acked_flags = marks; ack_count = x.ack_count + 1; holdings = h })
acked_keeps {x} {version} {nonce} {buckets} {session} {h} {marks} is ready at adds mark forgets =
    subst (λ (s : RecordState). IsProcessor (record x { session = s; acked_flags = marks; ack_count = x.ack_count + 1; holdings = h })) (sym adds) (record {
      record_is = record { shape = is.record_is.shape; proxy = (proxy_goes_on o events is.record_is.proxy).acked version ready.lawful };
      held_is = record {
        shape = ap (λ (st : HoldingsState). st.shape) forgets.others ∙ is.held_is.shape;
        nodes = nodes;
        positions = subst (λ (ws : List ℕ). TellsPositions o now ws) (sym (ap (λ (st : HoldingsState). st.words) forgets.others)) ((positions_are_told o events x.holdings.words is.held_is.positions).acked version);
      };
      asked = record {
        shape = is.asked.shape;
        follows = (follows_further events x.requests.requests is.asked.follows).acked version;
        served = (served_else o events x.requests.requests is.asked.follows is.asked.served).acked version ready.lawful;
      };
      flags = subst (λ (fs : List Bool). TellsFlags o now x.done_flags fs) (sym mark) ((flags_are_told o events x.done_flags x.acked_flags is.flags).acked version ready.lawful);
      fetched = (rows_are_told o events x.row_count _ _ is.fetched).acked version;
      writes = (writes_are_told o events x.recent x.places x.done_count x.issue_count x.ack_count x.next_nonce is.writes).acked version;
      tagged = (tags_go_on x.key o events x.tags is.tagged).acked version;
      pools = subst (λ (later : List Event). HasPools x.shape x.ready (arrived later) (dones later) (issues later) (acks later) (record (pools_of x) { others = x.session.others - 1 }))
          (sym (newest_first events (Acked version))) ready.room.left;
      blocks = is.blocks;
      order_rooms = is.order_rooms;
      rooms_are = is.rooms_are;
      recent_fits = is.recent_fits;
      written_fits = is.written_fits;
      written_empty = is.written_empty;
    })
  where
    o : Opening
    o = x.session.history.opening

    events : List Event
    events = x.session.history.events

    es : List Event
    es = reverse events

    now : List Event
    now = with_one_more events (Acked version)

    issued : ℕ → Bool
    issued w = has w (nodes_in buckets)

    goes : (w : ℕ) → is_held h w ≡ (is_held x.holdings w && not (issued w && (not (nat_lt (version * o.shape.k) (touch_in x.holdings w)) && nat_eq (count_in x.holdings w) 0)))
    goes w = forgets.held w ∙ ap (λ (t : Bool). is_held x.holdings w && not (issued w && (t && nat_eq (count_in x.holdings w) 0)))
        (le_is (touch_in x.holdings w) (version * x.holdings.shape.k) ∙ ap (λ (s : Shape). not (nat_lt (version * s.k) (touch_in x.holdings w))) is.held_is.shape)

    -- an away node is empty
    empty : (w : ℕ) → nat_eq w 0 ≡ false → is_held x.holdings w ≡ false → contents_in x.holdings w ≡ []
    empty w off away = is.held_is.nodes.contents w ∙ away_is_empty o events w (positive w off) (sym (is.held_is.nodes.residents w) ∙ away)
      where
        positive : (n : ℕ) → nat_eq n 0 ≡ false → 0 < n
        positive zero none = absurd (true≢false none)
        positive (suc n) none = omega arith

    keeps : (w : ℕ) → contents_in h w ≡ (if nat_eq w 0 || is_held h w then contents_in x.holdings w else [])
    keeps w = forgets.contents w ∙ either (nat_eq w 0) (issued w && may_go x.holdings version w) (is_held x.holdings w) (contents_in x.holdings w) (empty w)
        ∙ ap (λ t. cond (nat_eq w 0 || t) (contents_in x.holdings w) []) (sym (forgets.held w))
      where
        either : (z g r : Bool) (c : List Entry) → (z ≡ false → r ≡ false → c ≡ []) → cond (not z && g) [] c ≡ cond (z || (r && not g)) c []
        either true g r c none = refl
        either false true true c none = refl
        either false true false c none = refl
        either false false true c none = refl
        either false false false c none = none refl refl

    nodes : NodesAre o now h
    nodes = nodes_with o now x.holdings h forgets.others
        (tells_acked o events version issued (λ w. is_held x.holdings w) (λ w. is_held h w) (λ w. contents_in x.holdings w) (λ w. contents_in h w) _ _ _ is.held_is.nodes
        (λ w. sym (issued_is o events (slice_index x.places (version - 1)) version nonce buckets w is.record_is.proxy.follows at)) goes keeps)
