-- The tables of a processor as functions of the record, and its preallocated memory.
use Rattle.std.specs.Prelude.{◌≡◌, ℕ, ◌+◌, ◌*◌, ◌≤◌, Bool, List, length, reverse, All}
use Rattle.std.specs.List.{slice_index_or}
use Rattle.tao_base.specs.declared.session.Event.{Event}
use Rattle.tao_base.specs.Limits.{Shape}
use Rattle.tao_base.specs.Session.{Opening, History}
use Rattle.tao_model.specs.Events.{arrived, dones, issues, acks}
use Rattle.tao_held.specs.Held.{IsOfProxy}
use Rattle.tao_tables.specs.Tables.{TellsNodes}
use Rattle.tao_tables.specs.Answers.{AreServed}
use Rattle.tao_tables.specs.Flags.{TellsFlags}
use Rattle.tao_tables.specs.Positions.{TellsPositions}
use Rattle.tao_tables.specs.Rows.{TellsRows}
use Rattle.tao_tables.specs.WriteBacks.{TellsWrites}
use Rattle.tao_tables.specs.Pools.{Pools, HasPools}
use Rattle.tao_requests.specs.State.{RequestsState}
use Rattle.tao_requests.specs.Laws.{Follows}
use Rattle.tao_record.specs.State.{RecordState, issue_len}
use Rattle.tao_holdings.specs.Holding.{HoldingsState, is_held, contents_in, count_in, touch_in, version_in}
use Rattle.tao_base.specs.declared.storage.Bucket.{Bucket}
use Rattle.tao_base.specs.declared.storage.Order.{Order}
use Rattle.tao_bucket.specs.Encoding.{tag_of}
use Rattle.tao_bucket.specs.Rooms.{RoomState}
use Rattle.tao_images.specs.Honesty.{HasTagOf}
use Rattle.tao_images.specs.Orders.{IsOrderRoom}
use Rattle.tao_model.specs.Residence.{Unaltered}
use Rattle.tao_tables.specs.Tags.{TellsTags}
use Rattle.tao_processor.specs.Rooms.{KeepsRooms}
use Rattle.tao_processor.specs.Steps.{IsEmpty}
use Rattle.tao_processor.specs.Tags.{has_tag, tag_at, HasPlaces}
use Rattle.tao_processor.specs.declared.fetches.Fetch.{Fetch}

-- all that the invariant speaks of
pub record Parts : Type 0 where
  pub shape : Shape
  pub key : List ℕ
  pub session : RecordState
  pub requests : RequestsState
  pub done_flags : List Bool
  pub acked_flags : List Bool
  pub rows : List Fetch
  pub row_count : ℕ
  pub row_room : ℕ
  pub recent : List ℕ
  pub recent_room : ℕ
  pub places : List ℕ
  pub place_room : ℕ
  pub done_count : ℕ
  pub issue_count : ℕ
  pub ack_count : ℕ
  pub next_nonce : ℕ
  pub tags : List (List ℕ)
  pub holdings : HoldingsState
  pub written : List Bucket
  pub values : List (List ℕ)
  pub value_count : ℕ
  pub orders : List Order
  pub order_count : ℕ
  pub stock : List Bucket
  pub stock_count : ℕ
  pub ready : Bool
  pub rooms : List RoomState
  pub looked : ℕ
  pub taken : List Bucket
  pub taken_room : ℕ

-- the record is one that a proxy makes
pub record KeepsRecord (p : Shape) (h : History) : Type 0 where
  pub shape : h.opening.shape ≡ p
  pub proxy : IsOfProxy h.opening (reverse h.events)

-- the tables of nodes
abbrev pub NodesAre : Opening → List Event → HoldingsState → Type 0
NodesAre o es st = TellsNodes o es (λ w. is_held st w) (λ w. contents_in st w) (λ w. count_in st w) (λ w. touch_in st w) (λ w. version_in st w)

-- what is held
pub record KeepsHoldings (o : Opening) (es : List Event) (st : HoldingsState) : Type 0 where
  pub shape : st.shape ≡ o.shape
  pub nodes : NodesAre o es st
  pub positions : TellsPositions o es st.words

-- the requests, each settled one with its answer
pub record KeepsRequests (o : Opening) (events : List Event) (st : RequestsState) : Type 0 where
  pub shape : st.shape ≡ o.shape
  pub follows : Follows events st.requests
  pub served : AreServed o (reverse events) st.requests

-- the tags of the nodes' latest versions, which all fetched buckets had
pub record KeepsTags (key : List ℕ) (o : Opening) (es : List Event) (kept : List (List ℕ)) : Type 0 where
  pub places : HasPlaces o.shape kept
  pub told : TellsTags (has_tag o.shape) (tag_of key o.shape) o es (tag_at kept)
  pub taken : Unaltered (HasTagOf key o.shape) o es

-- the row for no arrival
abbrev pub no_row : Fetch
no_row = record { leaf = 0; word = 0 }

-- the leaf in the row of an arrival
abbrev pub row_leaf : List Fetch → ℕ → ℕ
row_leaf rows i = (slice_index_or rows i no_row).leaf

-- the word in the row of an arrival
abbrev pub row_word : List Fetch → ℕ → ℕ
row_word rows i = (slice_index_or rows i no_row).word

-- the preallocated memory
abbrev pub pools_of : Parts → Pools
pools_of x = record {
  dones = x.session.dones;
  issues = x.session.issues;
  others = x.session.others;
  orders = x.order_count;
  stock = x.stock_count;
  values = x.value_count;
  requests = x.requests.spare;
  rows = x.row_room;
  places = x.place_room;
}

-- the invariant: all groups
pub record IsProcessor (x : Parts) : Type 0 where
  pub record_is : KeepsRecord x.shape x.session.history
  pub held_is : KeepsHoldings x.session.history.opening (reverse x.session.history.events) x.holdings
  pub asked : KeepsRequests x.session.history.opening x.session.history.events x.requests
  pub flags : TellsFlags x.session.history.opening (reverse x.session.history.events) x.done_flags x.acked_flags
  pub fetched : TellsRows x.session.history.opening (reverse x.session.history.events) x.row_count (row_leaf x.rows) (row_word x.rows)
  pub writes : TellsWrites x.session.history.opening x.session.history.events x.recent x.places x.done_count x.issue_count x.ack_count x.next_nonce
  pub tagged : KeepsTags x.key x.session.history.opening (reverse x.session.history.events) x.tags
  pub pools : HasPools x.shape x.ready (arrived (reverse x.session.history.events)) (dones (reverse x.session.history.events)) (issues (reverse x.session.history.events))
      (acks (reverse x.session.history.events)) (pools_of x)
  pub blocks : All (λ value. length value ≡ x.shape.b) x.values
  pub order_rooms : All (IsOrderRoom x.shape (issue_len x.shape)) x.orders
  pub rooms_are : KeepsRooms x.shape x.rooms x.looked x.taken x.taken_room x.stock
  pub recent_fits : x.shape.k * (x.shape.l + 1) ≤ x.recent_room
  pub written_fits : issue_len x.shape ≤ length x.written
  pub written_empty : All IsEmpty x.written
