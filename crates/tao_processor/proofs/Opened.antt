-- A new processor meets the invariant.
use Rattle.std.proofs.Common.{◌≡◌, ℕ, ◌+◌, ◌*◌, ◌<◌, ◌≤◌, Bool, false, cond, List, [], length, replicate, All, None, is_some, refl, sym, ap, ◌∙◌, subst, arith, nat_eq, get_or, inl, inr, ◌⊎◌}
use Rattle.std.specs.List.{slice_index_or}
use Rattle.std.proofs.lemmas.Bool.{cases_lt}
use Rattle.std.proofs.lemmas.List.{get_or-replicate, length-replicate}
use Rattle.std.proofs.Math.ListN.{get_or-eq_default}
use Rattle.std.proofs.lemmas.List.Elements.{All-nil}
use Rattle.tao_base.specs.declared.storage.Bucket.{Bucket}
use Rattle.tao_base.specs.declared.storage.Entry.{Entry}
use Rattle.tao_base.specs.Session.{Opening}
use Rattle.tao_base.specs.Limits.{Shape, IsShape, session_limit}
use Rattle.tao_base.specs.Tree.{node_count}
use Rattle.tao_flush.specs.Loads.{IsLoaded}
use Rattle.tao_model.specs.Requests.{leaf_at}
use Rattle.tao_model.specs.Placement.{may_load, block_below, with_stash, entries_at}
use Rattle.tao_model.specs.Evictions.{load_contents}
use Rattle.tao_model.proofs.OneLoad.{load_pass}
use Rattle.tao_model.proofs.OnePlacement.{one_placement}
use Rattle.tao_model.specs.Lawful.{OpensWithLoad, IsOpening}
use Rattle.tao_tables.proofs.KeptAnswers.{served_at_start}
use Rattle.tao_tables.proofs.KeptFlags.{flags_at_start}
use Rattle.tao_tables.proofs.KeptRows.{rows_at_start, positions_at_start}
use Rattle.tao_tables.proofs.KeptWrites.{writes_at_start}
use Rattle.tao_tables.proofs.MovedTables.{tells_start}
use Rattle.tao_tables.proofs.PoolRoom.{room_at_start}
use Rattle.tao_tables.proofs.ProxySteps.{opens_by_load}
use Rattle.tao_record.specs.State.{RecordState, opened, issue_len}
use Rattle.tao_processor.specs.declared.fetches.Fetch.{Fetch}
use Rattle.tao_requests.specs.State.{RequestsState, fresh}
use Rattle.tao_requests.proofs.Followed.{follows_none}
use Rattle.tao_holdings.specs.Holding.{HoldingsState, is_held, contents_in, entries_of, count_in, touch_in, version_in, leaf_by, none_held}
use Rattle.tao_images.specs.Orders.{IsOrderRoom}
use Rattle.tao_base.specs.declared.storage.Order.{Order}
use Rattle.tao_processor.specs.Steps.{AreEmptyBuckets}
use Rattle.tao_bucket.specs.Rooms.{RoomState}
use Rattle.tao_processor.specs.Rooms.{KeepsRooms}
use Rattle.tao_processor.specs.Tags.{HasTagsOf}
use Rattle.tao_processor.proofs.TagsKept.{tags_from_load}
use Rattle.tao_processor.specs.Groups.{IsProcessor, row_leaf, row_word}

none_at : {X : Type 0} (n w : ℕ) (x d : X) → x ≡ d → get_or (replicate n x) w d ≡ d
none_at n w x d same = either (cases_lt w n)
  where
    either : (w < n) ⊎ (n ≤ w) → get_or (replicate n x) w d ≡ d
    either (inl low) = get_or-replicate n w x d low ∙ same
    either (inr past) = get_or-eq_default (replicate n x) d (let long = length-replicate n x in omega (arith, long))

-- the loaded tree is that of an opening
pub loaded_opens : (s : Shape) (words : List ℕ) (blocks : List (List ℕ)) (loaded : List Bucket) (stash : List Entry) → IsShape s → length words ≡ s.n → length blocks ≡ s.n
    → All (λ value. length value ≡ s.b) blocks → IsLoaded s (leaf_by (none_held s stash words)) blocks loaded stash
    → OpensWithLoad (record { shape = s; words = words; first = blocks; loaded = loaded })
loaded_opens s words blocks loaded stash shape word_count block_count values load =
    (opens_by_load (record { shape = s; words = words; first = blocks; loaded = loaded }) (leaf_by (none_held s stash words))
    (record { shape = shape; words = word_count; blocks = block_count; values = values }) (λ b low. refl) load.first).0

pub opened_keeps : (key : List ℕ) (kept : List (List ℕ)) (rooms : List RoomState) (taken stock_list : List Bucket) (space : ℕ) (s : Shape) (words : List ℕ) (blocks : List (List ℕ)) (loaded written : List Bucket) (stash : List Entry) (row_room place_room recent_room orders stock : ℕ) → IsShape s → length words ≡ s.n
    → length blocks ≡ s.n → All (λ value. length value ≡ s.b) blocks → IsLoaded s (leaf_by (none_held s stash words)) blocks loaded stash
    → AreEmptyBuckets (issue_len s) written → s.k * (s.l + 1) ≤ recent_room → HasTagsOf key s loaded kept → KeepsRooms s rooms 0 taken space stock_list
    → IsProcessor (record {
      shape = s;
      key = key;
      session = opened s words blocks loaded;
      requests = fresh s;
      done_flags = replicate (session_limit s) false;
      acked_flags = replicate (session_limit s) false;
      rows = [];
      row_count = 0;
      row_room = row_room;
      recent = [];
      recent_room = recent_room;
      places = [];
      place_room = place_room;
      done_count = 0;
      issue_count = 0;
      ack_count = 0;
      next_nonce = node_count s.l + 1;
      tags = kept;
      holdings = none_held s stash words;
      written = written;
      values = [];
      value_count = 0;
      orders = [];
      order_count = orders;
      stock = stock_list;
      stock_count = stock;
      ready = false;
      rooms = rooms;
      looked = 0;
      taken = taken;
      taken_room = space;
    })
opened_keeps key kept rooms taken stock_list space s words blocks loaded written stash row_room place_room recent_room orders stock shape word_count block_count values load empties wide has rooms_are = record {
  record_is = record { shape = refl; proxy = record { opens = start.0; follows = opening; writes = tt } };
  held_is = record {
    shape = refl;
    nodes = tells_start o stash (λ w. is_held st w) (λ w. contents_in st w) (λ w. count_in st w) (λ w. touch_in st w) (λ w. version_in st w) start.1
        (λ w. ap is_some (away w)) (λ w. ap (λ f. cond (nat_eq w 0) stash (entries_of f)) (away w)) zeros zeros zeros;
    positions = positions_at_start o opening;
  };
  asked = record { shape = refl; follows = follows_none; served = served_at_start o };
  flags = flags_at_start o;
  fetched = rows_at_start o (row_leaf []) (row_word []);
  writes = writes_at_start o;
  tagged = tags_from_load key o kept opening start.0 has;
  pools = room_at_start s _ shape.period_low;
  blocks = All-nil (λ value. length value ≡ s.b);
  order_rooms = All-nil (IsOrderRoom s (issue_len s));
  rooms_are = rooms_are;
  recent_fits = wide;
  written_fits = let long = empties.len in omega arith;
  written_empty = empties.empty;
}
  where
    o : Opening
    o = record { shape = s; words = words; first = blocks; loaded = loaded }

    st : HoldingsState
    st = none_held s stash words

    opening : IsOpening o
    opening = record { shape = shape; words = word_count; blocks = block_count; values = values }

    start : OpensWithLoad o × (stash ≡ load_contents s (λ block. leaf_at o [] block) blocks 0)
    start =
        let leaf = leaf_by st in
        let loads = opens_by_load o leaf opening (λ b low. refl) load.first in (
          loads.0,
          one_placement (may_load s leaf) (node_count s.l) s.z (block_below s.n blocks) (with_stash stash (entries_at loaded)) (load_contents s leaf blocks) load.placed (load_pass s leaf blocks) 0 ∙ loads.1,
        )

    away : (w : ℕ) → slice_index_or st.nodes w None ≡ None
    away w = none_at _ w None None refl

    zeros : (w : ℕ) → count_in st w ≡ 0
    zeros w = none_at {X = ℕ} _ w 0 0 refl

-- this holds for these parts
pub opened_from : {key : List ℕ} {kept : List (List ℕ)} {rooms : List RoomState} {taken stock_list : List Bucket} {space : ℕ} {s : Shape} {words : List ℕ} {blocks : List (List ℕ)} {loaded written : List Bucket} {stash : List Entry} {row_room place_room recent_room orders stock : ℕ} {v_session : RecordState} {v_requests : RequestsState} {v_done_flags : List Bool} {v_acked_flags : List Bool} {v_rows : List Fetch} {v_row_count : ℕ} {v_recent : List ℕ} {v_places : List ℕ} {v_next_nonce : ℕ} {v_holdings : HoldingsState} {v_values : List (List ℕ)} {v_value_count : ℕ} {v_orders : List Order}
    → IsShape s → length words ≡ s.n → length blocks ≡ s.n → All (λ value. length value ≡ s.b) blocks → IsLoaded s (leaf_by (none_held s stash words)) blocks loaded stash
    → AreEmptyBuckets (issue_len s) written → s.k * (s.l + 1) ≤ recent_room → HasTagsOf key s loaded kept → KeepsRooms s rooms 0 taken space stock_list
    → v_session ≡ opened s words blocks loaded → v_requests ≡ fresh s → v_done_flags ≡ replicate (session_limit s) false → v_acked_flags ≡ replicate (session_limit s) false → v_rows ≡ [] → v_row_count ≡ 0 → v_recent ≡ [] → v_places ≡ [] → v_next_nonce ≡ node_count s.l + 1 → v_holdings ≡ none_held s stash words → v_values ≡ [] → v_value_count ≡ 0 → v_orders ≡ []
    → IsProcessor (record { shape = s; key = key; session = v_session; requests = v_requests; done_flags = v_done_flags; acked_flags = v_acked_flags; rows = v_rows; row_count = v_row_count; row_room = row_room; recent = v_recent; recent_room = recent_room; places = v_places; place_room = place_room; done_count = 0; issue_count = 0; ack_count = 0; next_nonce = v_next_nonce; tags = kept; holdings = v_holdings; written = written; values = v_values; value_count = v_value_count; orders = v_orders; order_count = orders; stock = stock_list; stock_count = stock; ready = false; rooms = rooms; looked = 0; taken = taken; taken_room = space })
opened_from {key} {kept} {rooms} {taken} {stock_list} {space} {s} {words} {blocks} {loaded} {written} {stash} {row_room} {place_room} {recent_room} {orders} {stock} {v_session} {v_requests} {v_done_flags} {v_acked_flags} {v_rows} {v_row_count} {v_recent} {v_places} {v_next_nonce} {v_holdings} {v_values} {v_value_count} {v_orders} shape word_count block_count values load empties wide has rooms_are e_session e_requests e_done_flags e_acked_flags e_rows e_row_count e_recent e_places e_next_nonce e_holdings e_values e_value_count e_orders =
    (subst (λ (z : List Order). IsProcessor (record { shape = s; key = key; session = v_session; requests = v_requests; done_flags = v_done_flags; acked_flags = v_acked_flags; rows = v_rows; row_count = v_row_count; row_room = row_room; recent = v_recent; recent_room = recent_room; places = v_places; place_room = place_room; done_count = 0; issue_count = 0; ack_count = 0; next_nonce = v_next_nonce; tags = kept; holdings = v_holdings; written = written; values = v_values; value_count = v_value_count; orders = z; order_count = orders; stock = stock_list; stock_count = stock; ready = false; rooms = rooms; looked = 0; taken = taken; taken_room = space })) (sym e_orders)
    (subst (λ (z : RecordState). IsProcessor (record { shape = s; key = key; session = z; requests = v_requests; done_flags = v_done_flags; acked_flags = v_acked_flags; rows = v_rows; row_count = v_row_count; row_room = row_room; recent = v_recent; recent_room = recent_room; places = v_places; place_room = place_room; done_count = 0; issue_count = 0; ack_count = 0; next_nonce = v_next_nonce; tags = kept; holdings = v_holdings; written = written; values = v_values; value_count = v_value_count; orders = []; order_count = orders; stock = stock_list; stock_count = stock; ready = false; rooms = rooms; looked = 0; taken = taken; taken_room = space })) (sym e_session)
    (subst (λ (z : RequestsState). IsProcessor (record { shape = s; key = key; session = opened s words blocks loaded; requests = z; done_flags = v_done_flags; acked_flags = v_acked_flags; rows = v_rows; row_count = v_row_count; row_room = row_room; recent = v_recent; recent_room = recent_room; places = v_places; place_room = place_room; done_count = 0; issue_count = 0; ack_count = 0; next_nonce = v_next_nonce; tags = kept; holdings = v_holdings; written = written; values = v_values; value_count = v_value_count; orders = []; order_count = orders; stock = stock_list; stock_count = stock; ready = false; rooms = rooms; looked = 0; taken = taken; taken_room = space })) (sym e_requests)
    (subst (λ (z : List Bool). IsProcessor (record { shape = s; key = key; session = opened s words blocks loaded; requests = fresh s; done_flags = z; acked_flags = v_acked_flags; rows = v_rows; row_count = v_row_count; row_room = row_room; recent = v_recent; recent_room = recent_room; places = v_places; place_room = place_room; done_count = 0; issue_count = 0; ack_count = 0; next_nonce = v_next_nonce; tags = kept; holdings = v_holdings; written = written; values = v_values; value_count = v_value_count; orders = []; order_count = orders; stock = stock_list; stock_count = stock; ready = false; rooms = rooms; looked = 0; taken = taken; taken_room = space })) (sym e_done_flags)
    (subst (λ (z : List Bool). IsProcessor (record { shape = s; key = key; session = opened s words blocks loaded; requests = fresh s; done_flags = replicate (session_limit s) false; acked_flags = z; rows = v_rows; row_count = v_row_count; row_room = row_room; recent = v_recent; recent_room = recent_room; places = v_places; place_room = place_room; done_count = 0; issue_count = 0; ack_count = 0; next_nonce = v_next_nonce; tags = kept; holdings = v_holdings; written = written; values = v_values; value_count = v_value_count; orders = []; order_count = orders; stock = stock_list; stock_count = stock; ready = false; rooms = rooms; looked = 0; taken = taken; taken_room = space })) (sym e_acked_flags)
    (subst (λ (z : List Fetch). IsProcessor (record { shape = s; key = key; session = opened s words blocks loaded; requests = fresh s; done_flags = replicate (session_limit s) false; acked_flags = replicate (session_limit s) false; rows = z; row_count = v_row_count; row_room = row_room; recent = v_recent; recent_room = recent_room; places = v_places; place_room = place_room; done_count = 0; issue_count = 0; ack_count = 0; next_nonce = v_next_nonce; tags = kept; holdings = v_holdings; written = written; values = v_values; value_count = v_value_count; orders = []; order_count = orders; stock = stock_list; stock_count = stock; ready = false; rooms = rooms; looked = 0; taken = taken; taken_room = space })) (sym e_rows)
    (subst (λ (z : ℕ). IsProcessor (record { shape = s; key = key; session = opened s words blocks loaded; requests = fresh s; done_flags = replicate (session_limit s) false; acked_flags = replicate (session_limit s) false; rows = []; row_count = z; row_room = row_room; recent = v_recent; recent_room = recent_room; places = v_places; place_room = place_room; done_count = 0; issue_count = 0; ack_count = 0; next_nonce = v_next_nonce; tags = kept; holdings = v_holdings; written = written; values = v_values; value_count = v_value_count; orders = []; order_count = orders; stock = stock_list; stock_count = stock; ready = false; rooms = rooms; looked = 0; taken = taken; taken_room = space })) (sym e_row_count)
    (subst (λ (z : List ℕ). IsProcessor (record { shape = s; key = key; session = opened s words blocks loaded; requests = fresh s; done_flags = replicate (session_limit s) false; acked_flags = replicate (session_limit s) false; rows = []; row_count = 0; row_room = row_room; recent = z; recent_room = recent_room; places = v_places; place_room = place_room; done_count = 0; issue_count = 0; ack_count = 0; next_nonce = v_next_nonce; tags = kept; holdings = v_holdings; written = written; values = v_values; value_count = v_value_count; orders = []; order_count = orders; stock = stock_list; stock_count = stock; ready = false; rooms = rooms; looked = 0; taken = taken; taken_room = space })) (sym e_recent)
    (subst (λ (z : List ℕ). IsProcessor (record { shape = s; key = key; session = opened s words blocks loaded; requests = fresh s; done_flags = replicate (session_limit s) false; acked_flags = replicate (session_limit s) false; rows = []; row_count = 0; row_room = row_room; recent = []; recent_room = recent_room; places = z; place_room = place_room; done_count = 0; issue_count = 0; ack_count = 0; next_nonce = v_next_nonce; tags = kept; holdings = v_holdings; written = written; values = v_values; value_count = v_value_count; orders = []; order_count = orders; stock = stock_list; stock_count = stock; ready = false; rooms = rooms; looked = 0; taken = taken; taken_room = space })) (sym e_places)
    (subst (λ (z : ℕ). IsProcessor (record { shape = s; key = key; session = opened s words blocks loaded; requests = fresh s; done_flags = replicate (session_limit s) false; acked_flags = replicate (session_limit s) false; rows = []; row_count = 0; row_room = row_room; recent = []; recent_room = recent_room; places = []; place_room = place_room; done_count = 0; issue_count = 0; ack_count = 0; next_nonce = z; tags = kept; holdings = v_holdings; written = written; values = v_values; value_count = v_value_count; orders = []; order_count = orders; stock = stock_list; stock_count = stock; ready = false; rooms = rooms; looked = 0; taken = taken; taken_room = space })) (sym e_next_nonce)
    (subst (λ (z : HoldingsState). IsProcessor (record { shape = s; key = key; session = opened s words blocks loaded; requests = fresh s; done_flags = replicate (session_limit s) false; acked_flags = replicate (session_limit s) false; rows = []; row_count = 0; row_room = row_room; recent = []; recent_room = recent_room; places = []; place_room = place_room; done_count = 0; issue_count = 0; ack_count = 0; next_nonce = node_count s.l + 1; tags = kept; holdings = z; written = written; values = v_values; value_count = v_value_count; orders = []; order_count = orders; stock = stock_list; stock_count = stock; ready = false; rooms = rooms; looked = 0; taken = taken; taken_room = space })) (sym e_holdings)
    (subst (λ (z : List (List ℕ)). IsProcessor (record { shape = s; key = key; session = opened s words blocks loaded; requests = fresh s; done_flags = replicate (session_limit s) false; acked_flags = replicate (session_limit s) false; rows = []; row_count = 0; row_room = row_room; recent = []; recent_room = recent_room; places = []; place_room = place_room; done_count = 0; issue_count = 0; ack_count = 0; next_nonce = node_count s.l + 1; tags = kept; holdings = none_held s stash words; written = written; values = z; value_count = v_value_count; orders = []; order_count = orders; stock = stock_list; stock_count = stock; ready = false; rooms = rooms; looked = 0; taken = taken; taken_room = space })) (sym e_values)
    (subst (λ (z : ℕ). IsProcessor (record { shape = s; key = key; session = opened s words blocks loaded; requests = fresh s; done_flags = replicate (session_limit s) false; acked_flags = replicate (session_limit s) false; rows = []; row_count = 0; row_room = row_room; recent = []; recent_room = recent_room; places = []; place_room = place_room; done_count = 0; issue_count = 0; ack_count = 0; next_nonce = node_count s.l + 1; tags = kept; holdings = none_held s stash words; written = written; values = []; value_count = z; orders = []; order_count = orders; stock = stock_list; stock_count = stock; ready = false; rooms = rooms; looked = 0; taken = taken; taken_room = space })) (sym e_value_count)
    (opened_keeps key kept rooms taken stock_list space s words blocks loaded written stash row_room place_room recent_room orders stock shape word_count block_count values load empties wide has rooms_are))))))))))))))
