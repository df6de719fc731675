-- A fetch gets room for its path, and buckets are read into it.
use Rattle.std.proofs.Common.{◌≡◌, inl, inr, ℕ, ◌+◌, ◌*◌, ◌^◌, ◌<◌, ◌≤◌, ◌==◌, nat_eq, cond, Bool, true, false, not, List, ◌∷◌, ◌++◌, length, take, drop, set, reverse, Option, Some, None, is_some, refl, sym, ap, ap₂, ◌∙◌, subst, arith}
use Rattle.std.proofs.lemmas.Bool.{true≢false, eqb-true}
use Rattle.std.proofs.lemmas.List.{length-set, get_or_past, get_or-set_same, set-get_or, set-set, length-replicate}
use Rattle.std.proofs.lemmas.Option.{same_Some}
use Rattle.tao_base.specs.Limits.{Shape, bucket_len}
use Rattle.tao_base.specs.Session.{History}
use Rattle.tao_base.specs.Tree.{node_at}
use Rattle.tao_laws.proofs.RecentNodes.{leaf_low}
use Rattle.tao_processor.proofs.WrittenBack.{whole_front}
use Rattle.tao_schedule.specs.Moves.{Move, Serves, server_version}
use Rattle.tao_tree.specs.Nodes.{bytes_at}
use Rattle.tao_world.specs.Changes.{bucket_put, with_bucket}
use Rattle.tao_world.specs.Moving.{reading_of, fetch_at, node_of, IsUnread, HasRoom, IsToRead, with_read, HasServed}
use Rattle.tao_world.specs.Shows.{Shows, ShowsNode, ShowsFetch, ShowsReading}
use Rattle.tao_world.specs.State.{Reading, is_set_at, row_at}
use Rattle.tao_world.specs.World.{WorldState, RoomState, IsLeftBy, IsRoom, IsWorld}
use Rattle.tao_world.proofs.LoadParts.{bucket_within}
use Rattle.tao_world.proofs.Places.{room_shows}
use Rattle.tao_world.proofs.ServedReads.{serves_shows, low as read_low, high as read_high}
use Rattle.tao_world.proofs.Tables.{some_within, rows_set, none_set, flag_set, put_len}
use Rattle.tao_world.proofs.WrittenBuckets.{written_len}

-- ---- rows

-- a row that is there is its fetch's
pub found_fetch : (row : Option Reading) → is_some row ≡ true → row ≡ Some (reading_of row)
found_fetch None some = absurd (true≢false (sym some))
found_fetch (Some reading) some = refl

-- there is a place for it
pub fetch_within : (rows : List (Option Reading)) (i : ℕ) → is_some (row_at rows i) ≡ true → i < length rows
fetch_within rows i there = some_within rows i (reading_of (row_at rows i)) (found_fetch (row_at rows i) there)

-- the row that was set
pub set_here : (rows : List (Option Reading)) (i : ℕ) (reading : Reading) → i < length rows → reading_of (row_at (set rows i (Some reading)) i) ≡ reading
set_here rows i reading low = ap reading_of (get_or-set_same rows i (Some reading) None low)

pub set_there : (rows : List (Option Reading)) (i : ℕ) (reading : Reading) → i < length rows → is_some (row_at (set rows i (Some reading)) i) ≡ true
set_there rows i reading low = ap is_some (get_or-set_same rows i (Some reading) None low)

-- the rooms of all fetches are of paths
abbrev pub AreRooms : Shape → List (Option Reading) → Type 0
AreRooms s rows = (i : ℕ) (reading : Reading) → row_at rows i ≡ Some reading → IsRoom s reading.read reading.bytes

-- also with another row
pub rooms_set : (s : Shape) (rows : List (Option Reading)) (i : ℕ) (row : Option Reading) → i < length rows → ((reading : Reading) → row ≡ Some reading → IsRoom s reading.read reading.bytes)
    → AreRooms s rows → AreRooms s (set rows i row)
rooms_set s rows i row low here all = rows_set (λ j x. (reading : Reading) → x ≡ Some reading → IsRoom s reading.read reading.bytes) rows i row low here (λ j other. all j)

-- a room with flags is one for a path
pub bytes_count : (s : Shape) (read : List Bool) (bytes : List ℕ) → length read ≡ s.l + 1 → IsRoom s read bytes → length bytes ≡ (s.l + 1) * bucket_len s
bytes_count s read bytes count (inl none) = let empty = none.0 in absurd (omega arith)
bytes_count s read bytes count (inr some) = some.1

-- a room without is none
pub flags_count : (s : Shape) (read : List Bool) (bytes : List ℕ) → (length read ≡ 0 → ⊥) → IsRoom s read bytes → length read ≡ s.l + 1
flags_count s read bytes some (inl none) = absurd (some none.0)
flags_count s read bytes some (inr path) = path.0

-- what a test for room tells where it says no
pub no_flags : (w : WorldState) (i : ℕ) (lent : List (Option Reading)) (result : Bool) → lent ≡ w.fetches → result ≡ not (length (reading_of (row_at lent i)).read == 0) → result ≡ false
    → length (fetch_at w i).read ≡ 0
no_flags w i lent result same is unset =
    eqb-true (length (fetch_at w i).read) 0
    (true_from_not (length (fetch_at w i).read == 0) (ap (λ (rows : List (Option Reading)). not (length (reading_of (row_at rows i)).read == 0)) (sym same) ∙ sym is ∙ unset))
  where
    true_from_not : (t : Bool) → not t ≡ false → t ≡ true
    true_from_not true none = refl
    true_from_not false none = absurd (true≢false none)

-- ---- room for a path

module _ (w : WorldState) (i : ℕ) (there : is_some (row_at w.fetches i) ≡ true) where
  found : row_at w.fetches i ≡ Some (fetch_at w i)
  found = found_fetch (row_at w.fetches i) there

  low : i < length w.fetches
  low = fetch_within w.fetches i there

  -- it has room
  pub had_room : length (fetch_at w i).read ≡ w.desk.history.opening.shape.l + 1 → HasRoom i w w
  had_room count = record {
    there = there;
    arrival = refl;
    leaf = refl;
    flags = λ d. refl;
    flag_count = count;
    rest = ap (λ (rows : List (Option Reading)). record w { fetches = rows }) (sym (ap (set w.fetches i) (sym found) ∙ set-get_or w.fetches i None));
  }

  -- it gets another
  abbrev pub moved_to : RoomState → Reading
  moved_to room = record (fetch_at w i) { read = room.read; bytes = room.bytes }

  abbrev pub given : RoomState → WorldState
  given room = record w { fetches = set w.fetches i (Some (moved_to room)) }

  module _ (room : RoomState) (none : length (fetch_at w i).read ≡ 0) (unread : IsUnread w.desk.history.opening.shape room) where
    before : (d : ℕ) → is_set_at (fetch_at w i).read d ≡ false
    before d = get_or_past (fetch_at w i).read d false (omega arith)

    after : (d : ℕ) → is_set_at room.read d ≡ false
    after d = ap (λ flags. is_set_at flags d) unread.read ∙ none_set (w.desk.history.opening.shape.l + 1) d

    now_is : fetch_at (given room) i ≡ moved_to room
    now_is = set_here w.fetches i (moved_to room) low

    count : length room.read ≡ w.desk.history.opening.shape.l + 1
    count = ap length unread.read ∙ length-replicate (w.desk.history.opening.shape.l + 1) false

    pub gets_room : HasRoom i w (given room)
    gets_room = record {
      there = set_there w.fetches i (moved_to room) low;
      arrival = ap (λ (r : Reading). r.arrival) now_is;
      leaf = ap (λ (r : Reading). r.leaf) now_is;
      flags = λ d. ap (λ (r : Reading). is_set_at r.read d) now_is ∙ after d ∙ sym (before d);
      flag_count = ap (λ (r : Reading). length r.read) now_is ∙ count;
      rest = ap (λ (r : Reading). record w { fetches = set w.fetches i (Some r) }) (sym now_is);
    }

    pub given_left : (ms : List Move) → IsLeftBy ms w → IsLeftBy ms (given room)
    unfolding IsLeftBy
    given_left ms left =
        room_shows ms w.desk.key w.desk.history w.tree w.fetches w.stores i (fetch_at w i) (moved_to room) left found (record { arrival = refl; leaf = refl; none = before; none_too = after })

    pub given_world : (spare spare' : RoomState) → IsWorld w spare → IsRoom w.desk.history.opening.shape spare'.read spare'.bytes → IsWorld (given room) spare'
    given_world spare spare' is free = record {
      moves = is.moves;
      shows = given_left is.moves is.shows;
      fetch_count = length-set w.fetches i (Some (moved_to room)) ∙ is.fetch_count;
      store_count = is.store_count;
      rooms = rooms_set w.desk.history.opening.shape w.fetches i (Some (moved_to room)) low
          (λ reading same. subst (λ (r : Reading). IsRoom w.desk.history.opening.shape r.read r.bytes) (same_Some (moved_to room) reading same) (inr (count, unread.bytes))) is.rooms;
      spare_is = free;
    }

-- ---- a bucket is read

module _ (w : WorldState) (i d : ℕ) (asked : IsToRead w i d) where
  was : row_at w.fetches i ≡ Some (fetch_at w i)
  was = found_fetch (row_at w.fetches i) asked.there

  place : i < length w.fetches
  place = fetch_within w.fetches i asked.there

  pub long : (spare : RoomState) → IsWorld w spare → length (fetch_at w i).bytes ≡ (w.desk.history.opening.shape.l + 1) * bucket_len w.desk.history.opening.shape
  long spare is = bytes_count w.desk.history.opening.shape (fetch_at w i).read (fetch_at w i).bytes asked.flag_count (is.rooms i (fetch_at w i) was)

  pub small_leaf : (ms : List Move) → IsLeftBy ms w → (fetch_at w i).leaf < 2 ^ w.desk.history.opening.shape.l
  unfolding IsLeftBy
  small_leaf ms left =
      let row : ShowsReading ms w.desk.key w.desk.history i (fetch_at w i) = subst (ShowsFetch ms w.desk.key w.desk.history i) was (left.reads.rows i) in
      subst (λ leaf. leaf < 2 ^ w.desk.history.opening.shape.l) (sym row.leaf) (leaf_low w.desk.history.opening (reverse w.desk.history.events) i)

  pub shape_of_tree : (ms : List Move) → IsLeftBy ms w → w.tree.shape ≡ w.desk.history.opening.shape
  unfolding IsLeftBy
  shape_of_tree ms left = left.server.shape

  pub read_left : length (fetch_at w i).bytes ≡ (w.desk.history.opening.shape.l + 1) * bucket_len w.desk.history.opening.shape → (ms : List Move) → IsLeftBy ms w
      → IsLeftBy (Serves i (node_of w i d) ∷ ms) (with_read w i d)
  unfolding IsLeftBy with_read
  read_left bytes ms left =
      serves_shows ms w.desk.key w.desk.history w.tree w.fetches (with_read w i d).fetches w.stores i d (fetch_at w i) left (record {
        found = was;
        depth = asked.depth;
        unread = asked.unread;
        flags = asked.flag_count;
        bytes = bytes;
        row = ap (λ (s : Shape). set w.fetches i (Some (with_bucket s (fetch_at w i) d (bytes_at w.tree (node_at s.l (fetch_at w i).leaf d))))) left.server.shape;
      })

  module _ (spare : RoomState) (is : IsWorld w spare) where
    abbrev node : ℕ
    node = node_of w i d

    shown : Shows is.moves w.desk.key w.desk.history w.tree w.fetches w.stores
    unfolding IsLeftBy
    shown = is.shows

    row : ShowsReading is.moves w.desk.key w.desk.history i (fetch_at w i)
    row = subst (ShowsFetch is.moves w.desk.key w.desk.history i) was (shown.reads.rows i)

    here : ShowsNode is.moves w.desk.key w.desk.history w.tree node
    here =
        shown.server.nodes node
        (read_low is.moves w.desk.key w.desk.history w.tree i d (fetch_at w i) row asked.depth asked.flag_count (long spare is))
        (read_high is.moves w.desk.key w.desk.history w.tree i d (fetch_at w i) row asked.depth asked.flag_count (long spare is))

    whole : length (bytes_at w.tree node) ≡ bucket_len w.desk.history.opening.shape
    whole = ap length here.bytes.2 ∙ written_len w.desk.key w.desk.history shown.lawful (server_version is.moves node) node here.bytes.0 here.bytes.1

    now_room : IsRoom w.desk.history.opening.shape (set (fetch_at w i).read d true) (bucket_put (bucket_len w.desk.history.opening.shape) (fetch_at w i).bytes d (bytes_at w.tree node))
    now_room = inr (
      length-set (fetch_at w i).read d true ∙ asked.flag_count,
      put_len (bucket_len w.desk.history.opening.shape) (fetch_at w i).bytes d (bytes_at w.tree node) whole
          (bucket_within (bucket_len w.desk.history.opening.shape) d (w.desk.history.opening.shape.l + 1) (length (fetch_at w i).bytes) (let deep = asked.depth in omega arith) (long spare is))
          ∙ long spare is,
    )

    pub read_world : IsWorld (with_read w i d) spare
    unfolding with_read
    read_world = record {
      moves = Serves i node ∷ is.moves;
      shows = read_left (long spare is) is.moves is.shows;
      fetch_count = length-set w.fetches i (Some now) ∙ is.fetch_count;
      store_count = is.store_count;
      rooms = rooms_set w.desk.history.opening.shape w.fetches i (Some now) place
          (λ reading same. subst (λ (r : Reading). IsRoom w.desk.history.opening.shape r.read r.bytes) (same_Some now reading same) now_in) is.rooms;
      spare_is = is.spare_is;
    }
      where
        now : Reading
        now = with_bucket w.tree.shape (fetch_at w i) d (bytes_at w.tree (node_at w.tree.shape.l (fetch_at w i).leaf d))

        now_in : IsRoom w.desk.history.opening.shape now.read now.bytes
        now_in = subst (λ (s : Shape). IsRoom w.desk.history.opening.shape (set (fetch_at w i).read d true) (bucket_put (bucket_len s) (fetch_at w i).bytes d (bytes_at w.tree (node_at s.l (fetch_at w i).leaf d)))) (sym shown.server.shape) now_room

-- what is known of the row of a fetch with room for its path
pub record IsFetchRow (s : Shape) (reading : Reading) : Type 0 where
  pub leaf : reading.leaf < 2 ^ s.l
  pub flags : length reading.read ≡ s.l + 1
  pub bytes : length reading.bytes ≡ (s.l + 1) * bucket_len s

pub known_fetch : (w : WorldState) (spare : RoomState) (i d : ℕ) (lent : List (Option Reading)) → lent ≡ w.fetches → IsWorld w spare → IsToRead w i d
    → IsFetchRow w.tree.shape (reading_of (row_at lent i)) × (d ≤ w.tree.shape.l)
known_fetch w spare i d lent same is asked =
    subst (λ (s : Shape). IsFetchRow s (reading_of (row_at lent i)) × (d ≤ s.l)) (sym (shape_of_tree w i d asked is.moves is.shows))
    (subst (λ (rows : List (Option Reading)). IsFetchRow w.desk.history.opening.shape (reading_of (row_at rows i)) × (d ≤ w.desk.history.opening.shape.l)) (sym same)
    (record { leaf = small_leaf w i d asked is.moves is.shows; flags = asked.flag_count; bytes = long w i d asked spare is }, asked.depth))

-- rows that were changed through a slice
pub rows_written : (w : WorldState) (n i : ℕ) (f : Reading → Reading) (lent rows : List (Option Reading)) → lent ≡ w.fetches → n ≡ length w.fetches
    → rows ≡ set lent i (Some (f (reading_of (row_at lent i)))) → record w { fetches = take n (rows ++ drop (length rows) w.fetches) } ≡ record w { fetches = set w.fetches i (Some (f (fetch_at w i))) }
rows_written w n i f lent rows same count are =
    let put : rows ≡ set w.fetches i (Some (f (fetch_at w i))) = are ∙ ap (λ (xs : List (Option Reading)). set xs i (Some (f (reading_of (row_at xs i))))) same in
    ap (λ (xs : List (Option Reading)). record w { fetches = xs }) (whole_front n rows w.fetches (ap length put ∙ length-set w.fetches i (Some (f (fetch_at w i)))) count ∙ put)

pub read_is : (w : WorldState) (n i d : ℕ) (lent rows : List (Option Reading)) → lent ≡ w.fetches → n ≡ length w.fetches
    → rows ≡ set lent i (Some (with_bucket w.tree.shape (reading_of (row_at lent i)) d (bytes_at w.tree (node_at w.tree.shape.l (reading_of (row_at lent i)).leaf d))))
    → record w { fetches = take n (rows ++ drop (length rows) w.fetches) } ≡ with_read w i d
unfolding with_read
read_is w n i d lent rows same count are = rows_written w n i (λ (r : Reading). with_bucket w.tree.shape r d (bytes_at w.tree (node_at w.tree.shape.l r.leaf d))) lent rows same count are

pub given_is : (w : WorldState) (n i : ℕ) (there : is_some (row_at w.fetches i) ≡ true) (room : RoomState) (lent rows : List (Option Reading)) → lent ≡ w.fetches → n ≡ length w.fetches
    → rows ≡ set lent i (Some (record (reading_of (row_at lent i)) { read = room.read; bytes = room.bytes }))
    → record w { fetches = take n (rows ++ drop (length rows) w.fetches) } ≡ given w i there room
given_is w n i there room lent rows same count are = rows_written w n i (λ (r : Reading). record r { read = room.read; bytes = room.bytes }) lent rows same count are

-- ---- room and then a bucket

module _ (old mid : WorldState) (i d : ℕ) (depth : d ≤ old.desk.history.opening.shape.l) (has : HasRoom i old mid) where
  fits : i < length mid.fetches
  fits = fetch_within mid.fetches i has.there

  abbrev read : Reading
  read = with_bucket mid.tree.shape (fetch_at mid i) d (bytes_at mid.tree (node_at mid.tree.shape.l (fetch_at mid i).leaf d))

  now_read : fetch_at (with_read mid i d) i ≡ read
  unfolding with_read
  now_read = set_here mid.fetches i read fits

  pub served : HasServed i d old (with_read mid i d)
  unfolding with_read
  served = record {
    there = set_there mid.fetches i read fits;
    arrival = ap (λ (r : Reading). r.arrival) now_read ∙ has.arrival;
    leaf = ap (λ (r : Reading). r.leaf) now_read ∙ has.leaf;
    flags = λ e. ap (λ (r : Reading). is_set_at r.read e) now_read ∙ flag_set (fetch_at mid i).read d e (let count = has.flag_count in omega arith)
        ∙ ap (cond (nat_eq d e) true) (has.flags e);
    rest = ap (λ (m : WorldState). record m { fetches = set m.fetches i (Some read) }) has.rest
        ∙ ap (λ (rows : List (Option Reading)). record old { fetches = rows }) (set-set old.fetches i (Some (fetch_at mid i)) (Some read))
        ∙ ap (λ (r : Reading). record old { fetches = set old.fetches i (Some r) }) (sym now_read);
  }

  pub same_node : node_of mid i d ≡ node_of old i d
  same_node = ap₂ (λ (h : History) leaf. node_at h.opening.shape.l leaf d) (ap (λ (m : WorldState). m.desk.history) has.rest) has.leaf
