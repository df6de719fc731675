-- An arrival keeps the invariant.
use Rattle.std.proofs.Common.{◌≡◌, ℕ, ◌+◌, ◌-◌, ◌^◌, ◌<◌, ◌≤◌, Bool, true, false, not, ◌&&◌, List, [], ◌∷◌, ◌++◌, length, reverse, sym, ap, ap₂, ◌∙◌, subst, arith}
use Rattle.std.specs.Prelude.{slice_index}
use Rattle.std.proofs.lemmas.List.{get_or_append_left, get_or_push}
use Rattle.tao_base.specs.declared.calls.Op.{Op}
use Rattle.tao_base.specs.declared.calls.Op.TheVariants.{Read, Write, Pad}
use Rattle.tao_base.specs.declared.session.Event.{Event}
use Rattle.tao_base.specs.declared.session.Event.TheVariants.{Arrive}
use Rattle.tao_base.specs.Session.{Opening, History}
use Rattle.tao_base.specs.Limits.{Shape, session_limit}
use Rattle.tao_base.specs.Tree.{leaf_of}
use Rattle.tao_model.specs.Events.{arrived, dones, issues, acks, is_done, has_fault}
use Rattle.tao_model.specs.Requests.{real_now, word_for, fetches, fetched_leaf}
use Rattle.tao_model.specs.Lawful.{FollowsLawfully, MayFollow, IsInRange}
use Rattle.tao_model.specs.OneMore.{with_one_more}
use Rattle.tao_model.proofs.Stays.{newest_first}
use Rattle.tao_laws.proofs.Counts.{count_within}
use Rattle.tao_tables.specs.Rows.{TellsRows, AddsRow}
use Rattle.tao_tables.specs.Positions.{TellsPositions}
use Rattle.tao_tables.specs.Pools.{Pools, HasPools, KeepsPools, AreCounts, ArrivesInRoom}
use Rattle.tao_tables.proofs.KeptAnswers.{served_else}
use Rattle.tao_tables.proofs.KeptFlags.{flags_are_told}
use Rattle.tao_tables.proofs.KeptRows.{rows_are_told, positions_are_told, new_arrivals_leaf}
use Rattle.tao_tables.proofs.KeptWrites.{writes_are_told}
use Rattle.tao_tables.proofs.MovedTables.{tells_arrive}
use Rattle.tao_tables.proofs.PoolRoom.{room_grows, room_arrive, counts_are_known}
use Rattle.tao_tables.proofs.ProxySteps.{proxy_goes_on, follows_on}
use Rattle.tao_record.specs.State.{RecordState, added}
use Rattle.tao_requests.specs.State.{RequestsState, begun, kind_now, is_real_kind}
use Rattle.tao_requests.proofs.Followed.{following, as_many, follows_arrive, kind_is_real}
use Rattle.tao_holdings.specs.Holding.{HoldingsState, count_in, one_more}
use Rattle.tao_subtree.specs.Residents.{AreFew}
use Rattle.tao_processor.specs.declared.fetches.Fetch.{Fetch}
use Rattle.tao_processor.specs.Steps.{leaf_now}
use Rattle.tao_processor.specs.Groups.{Parts, IsProcessor, NodesAre, pools_of, no_row, row_leaf, row_word}
use Rattle.tao_processor.proofs.DoneReady.{leaf_small}
use Rattle.tao_processor.proofs.TagsKept.{tags_go_on}

-- what an arrival finds
pub record IsReadyToArrive (x : Parts) (client : ℕ) (op : Op) (word : ℕ) : Type 0 where
  pub lawful : FollowsLawfully x.session.history.opening (with_one_more x.session.history.events (Arrive client op word))
  pub range : IsInRange x.session.history.opening.shape op
  pub room : ArrivesInRoom x.shape (arrived (reverse x.session.history.events)) (dones (reverse x.session.history.events)) (issues (reverse x.session.history.events))
      (acks (reverse x.session.history.events)) (pools_of x)
  pub next : length x.requests.requests ≡ arrived (reverse x.session.history.events)
  pub count : x.row_count ≡ arrived (reverse x.session.history.events)
  pub few : AreFew x.holdings.counts
  pub leaf : leaf_now (is_real_kind (kind_now x.requests.requests op)) x.holdings op word
      ≡ fetched_leaf x.session.history.opening (with_one_more x.session.history.events (Arrive client op word)) (arrived (reverse x.session.history.events))
  pub small : fetched_leaf x.session.history.opening (with_one_more x.session.history.events (Arrive client op word)) (arrived (reverse x.session.history.events)) < 2 ^ x.session.history.opening.shape.l

leaf_by_word : (o : Opening) (st : HoldingsState) (real : Bool) (op : Op) (word : ℕ) → st.shape ≡ o.shape
    → leaf_now real st op word ≡ leaf_of o.shape.l (word_for (λ b. slice_index st.words b) word real op)
leaf_by_word o st true (Read id) word same = ap (λ (s : Shape). leaf_of s.l (slice_index st.words id)) same
leaf_by_word o st true (Write id value) word same = ap (λ (s : Shape). leaf_of s.l (slice_index st.words id)) same
leaf_by_word o st true Pad word same = ap (λ (s : Shape). leaf_of s.l word) same
leaf_by_word o st false (Read id) word same = ap (λ (s : Shape). leaf_of s.l word) same
leaf_by_word o st false (Write id value) word same = ap (λ (s : Shape). leaf_of s.l word) same
leaf_by_word o st false Pad word same = ap (λ (s : Shape). leaf_of s.l word) same

pub ready_to_arrive : (x : Parts) (client : ℕ) (op : Op) (word : ℕ) → IsProcessor x → x.ready ≡ true → has_fault (reverse x.session.history.events) ≡ false
    → MayFollow x.session.history.opening (reverse x.session.history.events) (Arrive client op word) → IsReadyToArrive x client op word
ready_to_arrive x client op word is ready running may = record {
  lawful = lawful;
  range = may.3;
  room = room_arrive x.shape (arrived es) (dones es) (issues es) (acks es) (pools_of x) counts
      (subst (λ t. HasPools x.shape t (arrived es) (dones es) (issues es) (acks es) (pools_of x)) ready is.pools);
  next = as_many es x.requests.requests (following events x.requests.requests is.asked.follows);
  count = is.fetched.counts;
  few = λ w.
      let told = is.held_is.nodes.counts w in
      let within = count_within (λ i. not (is_done es i) && fetches o es i w) (arrived es) in
      let limit : session_limit o.shape ≤ 65536 = omega arith in
      let low = may.1 in
      omega arith;
  leaf = ap (λ t. leaf_now t x.holdings op word) (kind_is_real events x.requests.requests op is.asked.follows)
      ∙ leaf_by_word o x.holdings (real_now es op) op word is.held_is.shape
      ∙ sym (new_arrivals_leaf o events client op word x.holdings.words is.held_is.positions lawful);
  small = leaf_small o.shape.l _;
}
  where
    o : Opening
    o = x.session.history.opening

    events : List Event
    events = x.session.history.events

    es : List Event
    es = reverse events

    lawful : FollowsLawfully o (with_one_more events (Arrive client op word))
    lawful = follows_on o events (Arrive client op word) is.record_is.proxy.follows running may

    counts : AreCounts x.shape (arrived es) (dones es) (issues es) (acks es)
    counts = subst (λ (s : Shape). AreCounts s (arrived es) (dones es) (issues es) (acks es)) is.record_is.shape (counts_are_known o events is.record_is.proxy.follows)

-- this holds if the visible state allows the arrival
pub arrive_ready : {x : Parts} {h : History} (client : ℕ) (op : Op) (word : ℕ) → IsProcessor x → x.session.history ≡ h → x.ready ≡ true → has_fault (reverse h.events) ≡ false
    → MayFollow h.opening (reverse h.events) (Arrive client op word) → IsReadyToArrive x client op word
arrive_ready {x} {h} client op word is same ready running may = ready_to_arrive x client op word is ready
    (subst (λ (g : History). has_fault (reverse g.events) ≡ false) (sym same) running)
    (subst (λ (g : History). MayFollow g.opening (reverse g.events) (Arrive client op word)) (sym same) may)

-- what the calls of an arrival do
pub record DoesArrive (x : Parts) (client : ℕ) (op : Op) (word leaf : ℕ) (session : RecordState) (h : HoldingsState) (q : RequestsState) (rows : List Fetch) (count room : ℕ) : Type 0 where
  pub adds : session ≡ record (added x.session (Arrive client op word)) { others = x.session.others - 1 }
  pub begins : q ≡ begun x.requests op
  pub counted : count_in h ≡ one_more x.holdings.shape.l leaf (count_in x.holdings)
  pub counts_alone : h ≡ record x.holdings { counts = h.counts }
  pub row : rows ≡ x.rows ++ (record { leaf = leaf; word = word }) ∷ []
  pub more : count ≡ x.row_count + 1
  pub no_less : x.row_room ≤ room

pub arrive_keeps : {x : Parts} {client : ℕ} {op : Op} {word leaf : ℕ} {session : RecordState} {h : HoldingsState} {q : RequestsState} {rows : List Fetch} {count room : ℕ}
    → IsProcessor x → IsReadyToArrive x client op word → x.row_count ≡ length x.rows
    → leaf ≡ fetched_leaf x.session.history.opening (with_one_more x.session.history.events (Arrive client op word)) (arrived (reverse x.session.history.events))
    → DoesArrive x client op word leaf session h q rows count room
    → IsProcessor (record x { session = session; requests = q; rows = rows; row_count = count; row_room = room; holdings = h; ready = false })
arrive_keeps {x} {client} {op} {word} {leaf} {session} {h} {q} {rows} {count} {room} is ready len here does =
    subst (λ (s : RecordState). IsProcessor (record x { session = s; requests = q; rows = rows; row_count = count; row_room = room; holdings = h; ready = false })) (sym does.adds)
    (subst (λ (r : RequestsState). IsProcessor (record x { session = new; requests = r; rows = rows; row_count = count; row_room = room; holdings = h; ready = false })) (sym does.begins) (record {
      record_is = record { shape = is.record_is.shape; proxy = (proxy_goes_on o events is.record_is.proxy).arrive client op word ready.lawful };
      held_is = record {
        shape = ap (λ (st : HoldingsState). st.shape) does.counts_alone ∙ is.held_is.shape;
        nodes = subst (λ (st : HoldingsState). NodesAre o now st) (sym does.counts_alone)
            (tells_arrive o events client op word _ _ (λ w. count_in x.holdings w) (λ w. count_in h w) _ _ is.held_is.nodes ready.lawful (λ w. ap (λ (n : ℕ → ℕ). n w) counts));
        positions = subst (λ (ws : List ℕ). TellsPositions o now ws) (sym (ap (λ (st : HoldingsState). st.words) does.counts_alone)) ((positions_are_told o events x.holdings.words is.held_is.positions).arrive client op word ready.lawful);
      };
      asked = record {
        shape = is.asked.shape;
        follows = follows_arrive o events x.requests.requests client op word is.record_is.proxy.follows is.asked.follows;
        served = (served_else o events x.requests.requests is.asked.follows is.asked.served).arrive client op word ready.lawful;
      };
      flags = (flags_are_told o events x.done_flags x.acked_flags is.flags).arrive client op word;
      fetched = subst (λ n. TellsRows o now n (row_leaf rows) (row_word rows)) (sym does.more)
          ((rows_are_told o events x.row_count (row_leaf x.rows) (row_word x.rows) is.fetched).arrive client op word (row_leaf rows) (row_word rows) ready.lawful adds_row);
      writes = (writes_are_told o events x.recent x.places x.done_count x.issue_count x.ack_count x.next_nonce is.writes).arrive client op word;
      tagged = (tags_go_on x.key o events x.tags is.tagged).arrive client op word;
      pools = subst (λ (later : List Event). HasPools x.shape false (arrived later) (dones later) (issues later) (acks later) left) (sym (newest_first events (Arrive client op word)))
          (room_grows x.shape false (arrived es + 1) (dones es) (issues es) (acks es) spent left grows ready.room.left);
      blocks = is.blocks;
      order_rooms = is.order_rooms;
      rooms_are = is.rooms_are;
      recent_fits = is.recent_fits;
      written_fits = is.written_fits;
      written_empty = is.written_empty;
    }))
  where
    o : Opening
    o = x.session.history.opening

    events : List Event
    events = x.session.history.events

    es : List Event
    es = reverse events

    now : List Event
    now = with_one_more events (Arrive client op word)

    new : RecordState
    new = record (added x.session (Arrive client op word)) { others = x.session.others - 1 }

    counts : count_in h ≡ one_more o.shape.l (fetched_leaf o now (arrived es)) (count_in x.holdings)
    counts = does.counted ∙ ap₂ (λ (s : Shape) (at : ℕ). one_more s.l at (count_in x.holdings)) is.held_is.shape here

    adds_row : AddsRow x.row_count (row_leaf x.rows) (row_word x.rows) (row_leaf rows) (row_word rows) (fetched_leaf o now x.row_count) word
    adds_row = record {
      leaves = λ i low. ap (λ (rs : List Fetch). row_leaf rs i) does.row ∙ ap (λ (r : Fetch). r.leaf) (get_or_append_left x.rows _ no_row i (omega arith));
      words = λ i low. ap (λ (rs : List Fetch). row_word rs i) does.row ∙ ap (λ (r : Fetch). r.word) (get_or_append_left x.rows _ no_row i (omega arith));
      leaf_new = ap (λ (rs : List Fetch). row_leaf rs x.row_count) does.row ∙ ap (λ (r : Fetch). r.leaf) (get_or_push x.rows _ no_row x.row_count (sym len))
          ∙ here ∙ ap (fetched_leaf o now) (sym ready.count);
      word_new = ap (λ (rs : List Fetch). row_word rs x.row_count) does.row ∙ ap (λ (r : Fetch). r.word) (get_or_push x.rows _ no_row x.row_count (sym len));
    }

    spent : Pools
    spent = record (pools_of x) { others = x.session.others - 1; requests = x.requests.spare - 1 }

    left : Pools
    left = record (pools_of x) { others = x.session.others - 1; requests = x.requests.spare - 1; rows = room }

    grows : KeepsPools spent left
    grows = record {
      dones = omega arith;
      issues = omega arith;
      others = omega arith;
      orders = omega arith;
      stock = omega arith;
      values = omega arith;
      requests = omega arith;
      rows = let less = does.no_less in omega arith;
      places = omega arith;
    }
