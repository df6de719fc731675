-- Larger pools keep the invariant.
use Rattle.std.proofs.Common.{◌≡◌, ℕ, ◌≤◌, Bool, true, List, length, reverse, All, sym, subst, arith}
use Rattle.tao_base.specs.declared.session.Event.{Event}
use Rattle.tao_base.specs.Session.{Opening, History}
use Rattle.tao_base.specs.Limits.{session_limit}
use Rattle.tao_base.specs.declared.storage.Order.{Order}
use Rattle.tao_images.specs.Orders.{IsOrderRoom}
use Rattle.tao_model.specs.Events.{arrived, dones, issues, acks}
use Rattle.tao_laws.specs.Counted.{CountsWork}
use Rattle.tao_tables.specs.Pools.{Pools, HasPools, KeepsPools, wanted}
use Rattle.tao_laws.proofs.CountedWork.{work_is_counted}
use Rattle.tao_tables.proofs.PoolRoom.{room_grows, room_reserve}
use Rattle.tao_record.specs.State.{RecordState, issue_len}
use Rattle.tao_requests.specs.State.{RequestsState}
use Rattle.tao_processor.specs.declared.fetches.Fetch.{Fetch}
use Rattle.tao_base.specs.declared.storage.Bucket.{Bucket}
use Rattle.tao_processor.specs.Rooms.{IsStockFor}
use Rattle.tao_processor.specs.Topping.{pools_from}
use Rattle.tao_processor.specs.Groups.{Parts, IsProcessor, pools_of}

-- what topping up leaves unchanged
pub record TopsUp (x : Parts) (session : RecordState) (q : RequestsState) (rows : List Fetch) (row_count : ℕ) (places : List ℕ) (values : List (List ℕ)) (orders : List Order) (stock : List Bucket) : Type 0 where
  pub history_stays : session.history ≡ x.session.history
  pub requests_stay : q ≡ record x.requests { spare = q.spare }
  pub rows_stay : rows ≡ x.rows
  pub count_stays : row_count ≡ x.row_count
  pub places_stay : places ≡ x.places
  pub each : All (λ value. length value ≡ x.shape.b) values
  pub order_rooms : All (IsOrderRoom x.shape (issue_len x.shape)) orders
  pub stocked : All (IsStockFor x.shape) stock

grown_core : (x : Parts) (ready : Bool) (numbers : RecordState) (spare row_room place_room value_count order_count stock_count : ℕ) (values : List (List ℕ)) (orders : List Order) (stock : List Bucket) → IsProcessor x
    → All (λ value. length value ≡ x.shape.b) values → All (IsOrderRoom x.shape (issue_len x.shape)) orders → All (IsStockFor x.shape) stock
    → HasPools x.shape ready (arrived (reverse x.session.history.events)) (dones (reverse x.session.history.events)) (issues (reverse x.session.history.events)) (acks (reverse x.session.history.events))
    (pools_from numbers spare row_room place_room value_count order_count stock_count)
    → IsProcessor (record x {
      session = record numbers { history = x.session.history };
      requests = record x.requests { spare = spare };
      row_room = row_room;
      place_room = place_room;
      values = values;
      value_count = value_count;
      orders = orders;
      order_count = order_count;
      stock = stock;
      stock_count = stock_count;
      ready = ready;
    })
grown_core x ready numbers spare row_room place_room value_count order_count stock_count values orders stock is each order_rooms stocked pools = record {
  record_is = is.record_is;
  held_is = is.held_is;
  asked = record { shape = is.asked.shape; follows = is.asked.follows; served = is.asked.served };
  flags = is.flags;
  fetched = is.fetched;
  writes = is.writes;
  tagged = is.tagged;
  pools = pools;
  blocks = each;
  order_rooms = order_rooms;
  rooms_are = record {
    enough = is.rooms_are.enough;
    each = is.rooms_are.each;
    within = is.rooms_are.within;
    full = is.rooms_are.full;
    empty = is.rooms_are.empty;
    fits = is.rooms_are.fits;
    stocked = stocked;
  };
  recent_fits = is.recent_fits;
  written_fits = is.written_fits;
  written_empty = is.written_empty;
}

grown : (x : Parts) (ready : Bool) (session : RecordState) (q : RequestsState) (rows : List Fetch) (row_count row_room : ℕ) (places : List ℕ) (place_room : ℕ) (values : List (List ℕ)) (orders : List Order) (stock : List Bucket)
    (value_count order_count stock_count : ℕ) → IsProcessor x → TopsUp x session q rows row_count places values orders stock
    → HasPools x.shape ready (arrived (reverse x.session.history.events)) (dones (reverse x.session.history.events)) (issues (reverse x.session.history.events)) (acks (reverse x.session.history.events))
    (pools_from session q.spare row_room place_room value_count order_count stock_count)
    → IsProcessor (record x {
      session = session;
      requests = q;
      rows = rows;
      row_count = row_count;
      row_room = row_room;
      places = places;
      place_room = place_room;
      values = values;
      value_count = value_count;
      orders = orders;
      order_count = order_count;
      stock = stock;
      stock_count = stock_count;
      ready = ready;
    })
grown x ready session q rows row_count row_room places place_room values orders stock value_count order_count stock_count is tops pools =
    subst (λ (h : History). IsProcessor (record x {
      session = record session { history = h };
      requests = q;
      rows = rows;
      row_count = row_count;
      row_room = row_room;
      places = places;
      place_room = place_room;
      values = values;
      value_count = value_count;
      orders = orders;
      order_count = order_count;
      stock = stock;
      stock_count = stock_count;
      ready = ready;
    })) (sym tops.history_stays)
    (subst (λ (r : RequestsState). IsProcessor (record x {
      session = record session { history = x.session.history };
      requests = r;
      rows = rows;
      row_count = row_count;
      row_room = row_room;
      places = places;
      place_room = place_room;
      values = values;
      value_count = value_count;
      orders = orders;
      order_count = order_count;
      stock = stock;
      stock_count = stock_count;
      ready = ready;
    })) (sym tops.requests_stay)
    (subst (λ (rs : List Fetch). IsProcessor (record x {
      session = record session { history = x.session.history };
      requests = record x.requests { spare = q.spare };
      rows = rs;
      row_count = row_count;
      row_room = row_room;
      places = places;
      place_room = place_room;
      values = values;
      value_count = value_count;
      orders = orders;
      order_count = order_count;
      stock = stock;
      stock_count = stock_count;
      ready = ready;
    })) (sym tops.rows_stay)
    (subst (λ n. IsProcessor (record x {
      session = record session { history = x.session.history };
      requests = record x.requests { spare = q.spare };
      row_count = n;
      row_room = row_room;
      places = places;
      place_room = place_room;
      values = values;
      value_count = value_count;
      orders = orders;
      order_count = order_count;
      stock = stock;
      stock_count = stock_count;
      ready = ready;
    })) (sym tops.count_stays)
    (subst (λ (ps : List ℕ). IsProcessor (record x {
      session = record session { history = x.session.history };
      requests = record x.requests { spare = q.spare };
      row_room = row_room;
      places = ps;
      place_room = place_room;
      values = values;
      value_count = value_count;
      orders = orders;
      order_count = order_count;
      stock = stock;
      stock_count = stock_count;
      ready = ready;
    })) (sym tops.places_stay)
    (grown_core x ready session q.spare row_room place_room value_count order_count stock_count values orders stock is tops.each tops.order_rooms tops.stocked pools)))))

-- if memory ran out
pub grown_keeps : {x : Parts} {session : RecordState} {q : RequestsState} {rows : List Fetch} {row_count row_room : ℕ} {places : List ℕ} {place_room : ℕ} {values : List (List ℕ)} {orders : List Order} {stock : List Bucket}
    {value_count order_count stock_count : ℕ} → IsProcessor x → TopsUp x session q rows row_count places values orders stock
    → KeepsPools (pools_of x) (pools_from session q.spare row_room place_room value_count order_count stock_count)
    → IsProcessor (record x {
      session = session;
      requests = q;
      rows = rows;
      row_count = row_count;
      row_room = row_room;
      places = places;
      place_room = place_room;
      values = values;
      value_count = value_count;
      orders = orders;
      order_count = order_count;
      stock = stock;
      stock_count = stock_count;
    })
grown_keeps {x} {session} {q} {rows} {row_count} {row_room} {places} {place_room} {values} {orders} {stock} {value_count} {order_count} {stock_count} is tops keeps =
    grown x x.ready session q rows row_count row_room places place_room values orders stock value_count order_count stock_count is tops
    (room_grows x.shape x.ready (arrived (reverse x.session.history.events)) (dones (reverse x.session.history.events)) (issues (reverse x.session.history.events))
    (acks (reverse x.session.history.events)) (pools_of x) (pools_from session q.spare row_room place_room value_count order_count stock_count) keeps is.pools)

-- if memory sufficed
pub ready_keeps : {x : Parts} {session : RecordState} {q : RequestsState} {rows : List Fetch} {row_count row_room : ℕ} {places : List ℕ} {place_room : ℕ} {values : List (List ℕ)} {orders : List Order} {stock : List Bucket}
    {value_count order_count stock_count : ℕ} {aim : Pools} → IsProcessor x → TopsUp x session q rows row_count places values orders stock
    → aim ≡ wanted x.shape x.row_count x.done_count x.issue_count x.ack_count → KeepsPools aim (pools_from session q.spare row_room place_room value_count order_count stock_count)
    → IsProcessor (record x {
      session = session;
      requests = q;
      rows = rows;
      row_count = row_count;
      row_room = row_room;
      places = places;
      place_room = place_room;
      values = values;
      value_count = value_count;
      orders = orders;
      order_count = order_count;
      stock = stock;
      stock_count = stock_count;
      ready = true;
    })
ready_keeps {x} {session} {q} {rows} {row_count} {row_room} {places} {place_room} {values} {orders} {stock} {value_count} {order_count} {stock_count} {aim} is tops aims keeps =
    grown x true session q rows row_count row_room places place_room values orders stock value_count order_count stock_count is tops
    (subst (λ a. HasPools x.shape true a (dones es) (issues es) (acks es) new) is.fetched.counts
    (subst (λ d. HasPools x.shape true x.row_count d (issues es) (acks es) new) is.writes.dones
    (subst (λ m. HasPools x.shape true x.row_count x.done_count m (acks es) new) is.writes.issues
    (subst (λ a. HasPools x.shape true x.row_count x.done_count x.issue_count a new) is.writes.acks
    (room_reserve x.shape x.row_count x.done_count x.issue_count x.ack_count new (subst (λ (w : Pools). KeepsPools w new) aims keeps))))))
  where
    es : List Event
    es = reverse x.session.history.events

    new : Pools
    new = pools_from session q.spare row_room place_room value_count order_count stock_count

-- the counts that `reserve` reckons with
pub counts_small : {x : Parts} → IsProcessor x → (x.done_count ≤ x.row_count) × (x.row_count ≤ 65536)
counts_small {x} is =
    let work : CountsWork o (reverse x.session.history.events) = work_is_counted o x.session.history.events is.record_is.proxy.follows in
    let a = is.fetched.counts in let d = is.writes.dones in
    let limit : session_limit o.shape ≤ 65536 = omega arith in
    (let within = work.within in omega arith, let most = work.limit in omega arith)
  where
    o : Opening
    o = x.session.history.opening
