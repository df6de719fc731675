-- What single moves need of a world, and what they make of it.
use Rattle.std.specs.Prelude.{◌≡◌, ℕ, ◌+◌, ◌*◌, ◌<◌, ◌≤◌, ◌==◌, not, true, false, List, [], ◌∷◌, ◌++◌, map, filter, length, reverse, replicate, slice_set, slice_index, Option, Some, None, is_some, if◌then◌else◌}
use Rattle.std.specs.List.{range_with_len}
use Rattle.std.specs.Option.{option_map}
use Rattle.tao_base.specs.declared.calls.Op.{Op}
use Rattle.tao_base.specs.declared.session.Event.TheVariants.{Arrive, Acked}
use Rattle.tao_base.specs.declared.storage.Order.{Order}
use Rattle.tao_base.specs.Limits.{Shape, bucket_len, session_limit}
use Rattle.tao_base.specs.Session.{History}
use Rattle.tao_base.specs.Tree.{node_at}
use Rattle.tao_desk.specs.State.{SameStore}
use Rattle.tao_images.specs.Answers.{with_event, AddsDone}
use Rattle.tao_images.specs.Paths.{piece}
use Rattle.tao_model.specs.Events.{arrived}
use Rattle.tao_model.specs.Requests.{fetched_leaf}
use Rattle.tao_schedule.specs.Moves.{Move, Serves, Applies}
use Rattle.tao_tape.specs.Tapes.{either_word, either_left}
use Rattle.tao_tree.specs.Nodes.{applied, bytes_at}
use Rattle.tao_world.specs.Changes.{new_sending, with_put, with_bucket}
use Rattle.tao_world.specs.State.{Reading, Sending, is_set_at, row_at}
use Rattle.tao_world.specs.World.{WorldState, RoomState}

-- ---- rows

-- the store of a row; one of no nodes where there is none
abbrev pub sending_of : Option Sending → Sending
sending_of None = record { order = record { version = 0; nonce = 0; nodes = []; image = [] }; put = []; left = 0 }
sending_of (Some sending) = sending

-- the fetch of a row; one without flags where there is none
abbrev pub reading_of : Option Reading → Reading
reading_of None = record { arrival = 0; leaf = 0; read = []; bytes = [] }
reading_of (Some reading) = reading

-- the store of a version
abbrev pub store_at : WorldState → ℕ → Sending
store_at w version = sending_of (row_at w.stores version)

-- the fetch of an arrival
abbrev pub fetch_at : WorldState → ℕ → Reading
fetch_at w arrival = reading_of (row_at w.fetches arrival)

-- the node at depth d of a fetch's path
abbrev pub node_of : WorldState → ℕ → ℕ → ℕ
node_of w arrival d = node_at w.desk.history.opening.shape.l (fetch_at w arrival).leaf d

-- ---- stores

-- the world with node j of a store applied
unfoldable pub with_applied : WorldState → ℕ → ℕ → WorldState
with_applied w version j = record w {
  tree = applied w.tree (store_at w version).order.version (slice_index (store_at w version).order.nodes j) (piece w.tree.shape (store_at w version).order.image j);
  stores = slice_set w.stores version (Some (with_put (store_at w version) j));
}

-- the move that applies node j of a store, unless it was put
abbrev pub apply_move : WorldState → ℕ → ℕ → List Move
apply_move w version j = if not (is_set_at (store_at w version).put j) then Applies version (slice_index (store_at w version).order.nodes j) ∷ [] else []

-- the moves that apply the nodes of a store that weren't put, of the first so many, in their order
abbrev pub applies_below : WorldState → ℕ → ℕ → List Move
applies_below w version count =
    map (λ j. Applies version (slice_index (store_at w version).order.nodes j)) (filter (λ j. not (is_set_at (store_at w version).put j)) (range_with_len 0 count))

-- Node j of a store was put.
pub record HasPut (version j : ℕ) (old new : WorldState) : Type 0 where
  pub there : is_some (row_at new.stores version) ≡ true
  pub order : (store_at new version).order ≡ (store_at old version).order
  pub flags : (e : ℕ) → is_set_at (store_at new version).put e ≡ (if j == e then true else is_set_at (store_at old version).put e)
  pub flag_count : length (store_at new version).put ≡ length (store_at old version).put
  pub desk : new.desk ≡ old.desk
  pub fetches : new.fetches ≡ old.fetches

-- The first nodes of a store, so many, were put.
pub record HasPutBelow (version count : ℕ) (old new : WorldState) : Type 0 where
  pub there : is_some (row_at new.stores version) ≡ true
  pub order : (store_at new version).order ≡ (store_at old version).order
  pub put : (e : ℕ) → e < count → is_set_at (store_at new version).put e ≡ true
  pub others : (e : ℕ) → count ≤ e → is_set_at (store_at new version).put e ≡ is_set_at (store_at old version).put e
  pub flag_count : length (store_at new version).put ≡ length (store_at old version).order.nodes
  pub desk : new.desk ≡ old.desk
  pub fetches : new.fetches ≡ old.fetches

-- A store was acknowledged.
pub record HasAcknowledged (version : ℕ) (old new : WorldState) : Type 0 where
  pub event : new.desk.history ≡ with_event old.desk.history (Acked version)
  pub store : SameStore old.desk new.desk
  pub rest : new ≡ record old { desk = new.desk; stores = slice_set old.stores version None }

-- ---- fetches

-- room for a path of which nothing is read
pub record IsUnread (s : Shape) (room : RoomState) : Type 0 where
  pub read : room.read ≡ replicate (s.l + 1) false
  pub bytes : length room.bytes ≡ (s.l + 1) * bucket_len s

-- A fetch has room for its path, and nothing else changed.
pub record HasRoom (i : ℕ) (old new : WorldState) : Type 0 where
  pub there : is_some (row_at new.fetches i) ≡ true
  pub arrival : (fetch_at new i).arrival ≡ (fetch_at old i).arrival
  pub leaf : (fetch_at new i).leaf ≡ (fetch_at old i).leaf
  pub flags : (d : ℕ) → is_set_at (fetch_at new i).read d ≡ is_set_at (fetch_at old i).read d
  pub flag_count : length (fetch_at new i).read ≡ old.desk.history.opening.shape.l + 1
  pub rest : new ≡ record old { fetches = slice_set old.fetches i (Some (fetch_at new i)) }

-- A fetch has room for its path, and the bucket at depth d wasn't read.
pub record IsToRead (w : WorldState) (i d : ℕ) : Type 0 where
  pub there : is_some (row_at w.fetches i) ≡ true
  pub depth : d ≤ w.desk.history.opening.shape.l
  pub unread : is_set_at (fetch_at w i).read d ≡ false
  pub flag_count : length (fetch_at w i).read ≡ w.desk.history.opening.shape.l + 1

-- the world with the bucket at depth d of a fetch's path read from the tree
unfoldable pub with_read : WorldState → ℕ → ℕ → WorldState
with_read w i d = record w {
  fetches = slice_set w.fetches i (Some (with_bucket w.tree.shape (fetch_at w i) d (bytes_at w.tree (node_at w.tree.shape.l (fetch_at w i).leaf d))));
}

-- The bucket at depth d of a fetch's path was read.
pub record HasServed (i d : ℕ) (old new : WorldState) : Type 0 where
  pub there : is_some (row_at new.fetches i) ≡ true
  pub arrival : (fetch_at new i).arrival ≡ (fetch_at old i).arrival
  pub leaf : (fetch_at new i).leaf ≡ (fetch_at old i).leaf
  pub flags : (e : ℕ) → is_set_at (fetch_at new i).read e ≡ (if d == e then true else is_set_at (fetch_at old i).read e)
  pub rest : new ≡ record old { fetches = slice_set old.fetches i (Some (fetch_at new i)) }

-- the move that reads the bucket at depth d of a fetch's path, unless it was read
abbrev pub read_move : WorldState → ℕ → ℕ → List Move
read_move w i d = if not (is_set_at (fetch_at w i).read d) then Serves i (node_of w i d) ∷ [] else []

-- the moves that read the unread buckets above depth d of a fetch's path, root first
abbrev pub reads_above : WorldState → ℕ → ℕ → List Move
reads_above w i d = map (λ e. Serves i (node_of w i e)) (filter (λ e. not (is_set_at (fetch_at w i).read e)) (range_with_len 0 d))

-- All buckets above depth d of a fetch's path were read.
pub record HasReadAbove (i d : ℕ) (old new : WorldState) : Type 0 where
  pub there : is_some (row_at new.fetches i) ≡ true
  pub arrival : (fetch_at new i).arrival ≡ (fetch_at old i).arrival
  pub leaf : (fetch_at new i).leaf ≡ (fetch_at old i).leaf
  pub read : (e : ℕ) → e < d → is_set_at (fetch_at new i).read e ≡ true
  pub others : (e : ℕ) → d ≤ e → is_set_at (fetch_at new i).read e ≡ is_set_at (fetch_at old i).read e
  pub flag_count : length (fetch_at new i).read ≡ old.desk.history.opening.shape.l + 1
  pub rest : new ≡ record old { fetches = slice_set old.fetches i (Some (fetch_at new i)) }

-- the stores with that of an order behind them, if there is one
abbrev pub with_store : Option Order → List (Option Sending) → List (Option Sending)
with_store None stores = stores
with_store (Some order) stores = stores ++ Some (new_sending order) ∷ []

abbrev pub version_of : Order → ℕ
version_of order = order.version

-- A fetch whose path was read whole was completed. If a write-back came out, its store is the last, and has this version.
pub record HasCompleted (i : ℕ) (version : Option ℕ) (old new : WorldState) : Type 0 where
  pub order : Option Order
  pub version_is : version ≡ option_map version_of order
  pub done : AddsDone old.desk.key old.desk.history new.desk.history i (fetch_at old i).bytes order
  pub store : SameStore old.desk new.desk
  pub rest : new ≡ record old { desk = new.desk; fetches = slice_set old.fetches i None; stores = with_store order old.stores }

-- the next word of the tape
abbrev pub next_word : WorldState → ℕ
next_word w = either_word w.desk.source (w.desk.history.opening.shape.n + arrived (reverse w.desk.history.events))

-- how many words of the tape are left
abbrev pub words_left : WorldState → ℕ
words_left w = either_left w.desk.source (w.desk.history.opening.shape.n + arrived (reverse w.desk.history.events))

-- the session has all its arrivals
abbrev pub IsFull : WorldState → Type 0
IsFull w = arrived (reverse w.desk.history.events) ≡ session_limit w.desk.history.opening.shape

-- a fetch of which nothing is read, for the next arrival of a session that goes on to this one
abbrev pub new_reading : History → History → Reading
new_reading old new = record {
  arrival = arrived (reverse old.events);
  leaf = fetched_leaf new.opening (reverse new.events) (arrived (reverse old.events));
  read = [];
  bytes = [];
}

-- An operation arrived with the next word of the tape. Its fetch is the last.
pub record HasNewFetch (client : ℕ) (op : Op) (old new : WorldState) : Type 0 where
  pub event : new.desk.history ≡ with_event old.desk.history (Arrive client op (next_word old))
  pub store : SameStore old.desk new.desk
  pub rest : new ≡ record old { desk = new.desk; fetches = old.fetches ++ Some (new_reading old.desk.history new.desk.history) ∷ [] }
