-- A path that was read whole reaches the desk.
use Rattle.std.proofs.Common.{◌≡◌, inr, ℕ, ◌+◌, ◌*◌, ◌≤◌, true, false, List, [], ◌∷◌, ◌++◌, length, take, drop, set, reverse, Option, Some, None, is_some, IfSome, refl, sym, ap, ap₂, ◌∙◌, subst, arith}
use Rattle.std.specs.Option.{option_map}
use Rattle.std.proofs.lemmas.Bool.{true≢false}
use Rattle.std.proofs.lemmas.List.{length-set, length-append, get_or_past}
use Rattle.std.proofs.lemmas.Option.{none-some}
use Rattle.tao_base.specs.declared.session.Event.{Event}
use Rattle.tao_base.specs.declared.session.Event.TheVariants.{Done, Issue}
use Rattle.tao_base.specs.declared.storage.Bucket.{Bucket}
use Rattle.tao_base.specs.declared.storage.Order.{Order}
use Rattle.tao_base.specs.Limits.{Shape, bucket_len}
use Rattle.tao_base.specs.Links.{FitsLinks, order_limit}
use Rattle.tao_base.specs.Session.{Opening, History}
use Rattle.tao_desk.specs.Sound.{IsSound}
use Rattle.tao_desk.specs.State.{DeskState}
use Rattle.tao_images.specs.Answers.{AddsDone, IsAnswered}
use Rattle.tao_model.specs.Events.{arrived, issues, has_fault, is_under_way}
use Rattle.tao_model.specs.Lawful.{FollowsLawfully, IsLawful}
use Rattle.tao_model.proofs.Stays.{newest_first}
use Rattle.tao_processor.proofs.WrittenBack.{whole_front}
use Rattle.tao_schedule.specs.Moves.{Move, Completes}
use Rattle.tao_tape.specs.Tapes.{either_word}
use Rattle.tao_world.specs.Changes.{AddsStore, new_sending}
use Rattle.tao_world.specs.Moving.{reading_of, fetch_at, with_store, version_of, HasCompleted}
use Rattle.tao_world.specs.Shows.{Shows, ShowsFetch, ShowsReading}
use Rattle.tao_world.specs.State.{Reading, Sending, is_set_at, row_at}
use Rattle.tao_world.specs.World.{WorldState, RoomState, IsLeftBy, IsRoom, IsWorld}
use Rattle.tao_world.proofs.CompletedPaths.{completes_shows}
use Rattle.tao_world.proofs.FetchMoves.{found_fetch, fetch_within, rooms_set, bytes_count, flags_count}
use Rattle.tao_world.proofs.NewestAnswers.{answer_is_newest}
use Rattle.tao_world.proofs.ShownSteps.{moves_up}

-- ---- what the desk is handed

-- the desk doesn't refuse the path of a fetch
pub record CanAdmit (d : DeskState) (fetch : Reading) : Type 0 where
  pub path : length fetch.bytes ≡ (d.history.opening.shape.l + 1) * bucket_len d.history.opening.shape
  pub up : has_fault (reverse d.history.events) ≡ false
  pub under_way : is_under_way (reverse d.history.events) fetch.arrival ≡ true
  pub answered : IsAnswered d.key d.history fetch.arrival fetch.bytes

module _ (w : WorldState) (spare : RoomState) (is : IsWorld w spare) (i : ℕ) (there : is_some (row_at w.fetches i) ≡ true)
    (whole : (d : ℕ) → d ≤ w.desk.history.opening.shape.l → is_set_at (fetch_at w i).read d ≡ true) where
  found : row_at w.fetches i ≡ Some (fetch_at w i)
  found = found_fetch (row_at w.fetches i) there

  shown : Shows is.moves w.desk.key w.desk.history w.tree w.fetches w.stores
  unfolding IsLeftBy
  shown = is.shows

  row : ShowsReading is.moves w.desk.key w.desk.history i (fetch_at w i)
  row = subst (ShowsFetch is.moves w.desk.key w.desk.history i) found (shown.reads.rows i)

  pub arrival_is : (fetch_at w i).arrival ≡ i
  arrival_is = row.arrival

  some : length (fetch_at w i).read ≡ 0 → ⊥
  some none = true≢false (sym (whole 0 (omega arith)) ∙ get_or_past (fetch_at w i).read 0 false (omega arith))

  pub room_is : IsRoom w.desk.history.opening.shape (fetch_at w i).read (fetch_at w i).bytes
  room_is = is.rooms i (fetch_at w i) found

  pub can_admit : CanAdmit w.desk (fetch_at w i)
  can_admit = record {
    path = bytes_count w.desk.history.opening.shape (fetch_at w i).read (fetch_at w i).bytes (flags_count w.desk.history.opening.shape (fetch_at w i).read (fetch_at w i).bytes some room_is) room_is;
    up = moves_up w.desk.history.opening is.moves (reverse w.desk.history.events) shown.schedule;
    under_way = subst (λ j. is_under_way (reverse w.desk.history.events) j ≡ true) (sym row.arrival) row.under_way;
    answered = subst (λ j. IsAnswered w.desk.key w.desk.history j (fetch_at w i).bytes) (sym row.arrival)
        (answer_is_newest is.moves w.desk.key w.desk.history w.tree w.fetches w.stores i (fetch_at w i) shown found whole).answered;
  }

-- the fetch that is taken out of its row
pub fetch_taken : (w : WorldState) (i : ℕ) (lent : List (Option Reading)) (fetch : Reading) → lent ≡ w.fetches → row_at lent i ≡ Some fetch → (is_some (row_at w.fetches i) ≡ true) × (fetch_at w i ≡ fetch)
fetch_taken w i lent fetch same is =
    let here : row_at w.fetches i ≡ Some fetch = ap (λ (rows : List (Option Reading)). row_at rows i) (sym same) ∙ is in
    (ap is_some here, ap reading_of here)

-- an order has no more nodes than that
pub few_nodes : (s : Shape) (order : Option Order) (n : ℕ) → n ≡ order_limit s → IfSome order (FitsLinks s) → IfSome order (λ order. length order.nodes ≤ n)
few_nodes s None n same fits = tt
few_nodes s (Some order) n same fits =
    subst (λ m. length order.nodes ≤ m) (sym same) (fits (record { height = s.l; bucket_len = bucket_len s; most = order_limit s }) (record { height = refl; bucket_len = refl; most = omega arith })).few

-- ---- what comes of it

-- of the record and the stores: no arrival more, and a place for each version
pub record KeepsPlaces (old new : History) (order : Option Order) : Type 0 where
  pub opening : new.opening ≡ old.opening
  pub arrivals : arrived (reverse new.events) ≡ arrived (reverse old.events)
  pub stores : (rows : List (Option Sending)) → length rows ≡ issues (reverse old.events) + 1 → length (with_store order rows) ≡ issues (reverse new.events) + 1
  pub adds : IsLawful new → (rows : List (Option Sending)) → length rows ≡ issues (reverse old.events) + 1 → AddsStore order rows (with_store order rows)

pub keeps_places : (key : List ℕ) (old new : History) (i : ℕ) (path : List ℕ) (order : Option Order) → AddsDone key old new i path order → KeepsPlaces old new order
keeps_places key old new i path None (taken, read, is) =
    let told : reverse new.events ≡ Done i taken ∷ reverse old.events = ap (λ (h : History). reverse h.events) is ∙ newest_first old.events (Done i taken) in
    record {
      opening = ap (λ (h : History). h.opening) is;
      arrivals = ap arrived told;
      stores = λ rows count. count ∙ sym (ap (λ es. issues es + 1) told);
      adds = λ lawful rows count. refl;
    }
keeps_places key old new i path (Some order) (taken, buckets, read, sent, is) =
    let e : Event = Issue order.version order.nonce buckets in
    let first : reverse new.events ≡ e ∷ reverse (old.events ++ Done i taken ∷ []) = ap (λ (h : History). reverse h.events) is ∙ newest_first (old.events ++ Done i taken ∷ []) e in
    let done : reverse (old.events ++ Done i taken ∷ []) ≡ Done i taken ∷ reverse old.events = newest_first old.events (Done i taken) in
    let told : reverse new.events ≡ e ∷ Done i taken ∷ reverse old.events = first ∙ ap (λ es. e ∷ es) done in
    let up : issues (reverse new.events) ≡ issues (reverse old.events) + 1 = ap issues told in
    record {
      opening = ap (λ (h : History). h.opening) is;
      arrivals = ap arrived told;
      stores = λ rows count. (let long = length-append rows (Some (new_sending order) ∷ []) in omega (arith, long, up, count));
      adds = λ lawful rows count. inr (next_version old new order.version order.nonce buckets i taken first done (ap (λ (h : History). h.opening) is) lawful ∙ sym count, refl);
    }
  where
    next_version : (old new : History) (v n : ℕ) (bs : List Bucket) (i : ℕ) (taken : List Bucket) → reverse new.events ≡ Issue v n bs ∷ reverse (old.events ++ Done i taken ∷ [])
        → reverse (old.events ++ Done i taken ∷ []) ≡ Done i taken ∷ reverse old.events → new.opening ≡ old.opening → IsLawful new → v ≡ issues (reverse old.events) + 1
    next_version old new v n bs i taken first done same lawful =
        let follows : FollowsLawfully new.opening (Issue v n bs ∷ reverse (old.events ++ Done i taken ∷ [])) = subst (FollowsLawfully new.opening) first lawful.follows in
        follows.2.next ∙ ap (λ es. issues es + 1) done

module _ (old new : WorldState) (i : ℕ) (version : Option ℕ) (there : is_some (row_at old.fetches i) ≡ true)
    (whole : (d : ℕ) → d ≤ old.desk.history.opening.shape.l → is_set_at (fetch_at old i).read d ≡ true) (has : HasCompleted i version old new)
    (sound : IsSound either_word new.desk) where
  places : KeepsPlaces old.desk.history new.desk.history has.order
  places = keeps_places old.desk.key old.desk.history new.desk.history i (fetch_at old i).bytes has.order has.done

  pub completed_left : length old.stores ≡ issues (reverse old.desk.history.events) + 1 → (ms : List Move) → IsLeftBy ms old → IsLeftBy (Completes i ∷ ms) new
  unfolding IsLeftBy
  completed_left count ms left =
      subst (λ (w : WorldState). Shows (Completes i ∷ ms) w.desk.key w.desk.history w.tree w.fetches w.stores) (sym has.rest)
      (subst (λ key. Shows (Completes i ∷ ms) key new.desk.history old.tree (set old.fetches i None) (with_store has.order old.stores)) (sym (ap (λ (d : DeskState). d.key) has.store))
      (completes_shows ms old.desk.key old.desk.history new.desk.history old.tree old.fetches (set old.fetches i None) old.stores (with_store has.order old.stores) i (fetch_at old i) has.order left (record {
        found = found_fetch (row_at old.fetches i) there;
        whole = whole;
        done = has.done;
        lawful = sound.about.lawful;
        row = refl;
        store = places.adds sound.about.lawful old.stores count;
      })))

  pub completed_world : (spare : RoomState) → IsWorld old spare → IsWorld new (record { read = (fetch_at old i).read; bytes = (fetch_at old i).bytes })
  completed_world spare is =
      let same : new.desk.history.opening.shape ≡ old.desk.history.opening.shape = ap (λ (o : Opening). o.shape) places.opening in
      subst (λ (w : WorldState). IsWorld w (record { read = (fetch_at old i).read; bytes = (fetch_at old i).bytes })) (sym has.rest) (record {
        moves = Completes i ∷ is.moves;
        shows = subst (IsLeftBy (Completes i ∷ is.moves)) has.rest (completed_left is.store_count is.moves is.shows);
        fetch_count = length-set old.fetches i None ∙ is.fetch_count ∙ sym places.arrivals;
        store_count = places.stores old.stores is.store_count;
        rooms = subst (λ (s : Shape). (j : ℕ) (reading : Reading) → row_at (set old.fetches i None) j ≡ Some reading → IsRoom s reading.read reading.bytes) (sym same)
            (rooms_set old.desk.history.opening.shape old.fetches i None (fetch_within old.fetches i there) (λ reading none. absurd (none-some reading none)) is.rooms);
        spare_is = subst (λ (s : Shape). IsRoom s (fetch_at old i).read (fetch_at old i).bytes) (sym same) (room_is old spare is i there whole);
      })

-- what its code makes of the world
pub completed_is : (w : WorldState) (i n : ℕ) (version : Option ℕ) (lent rows : List (Option Reading)) (fetch : Reading) (desk : DeskState) (order : Option Order) (stores : List (Option Sending))
    → lent ≡ w.fetches → n ≡ length w.fetches → row_at lent i ≡ Some fetch → rows ≡ set lent i None → fetch.arrival ≡ i → version ≡ option_map version_of order
    → AddsDone w.desk.key w.desk.history desk.history fetch.arrival fetch.bytes order → desk ≡ record w.desk { history = desk.history; holdings = desk.holdings } → stores ≡ with_store order w.stores
    → HasCompleted i version w (record w { desk = desk; fetches = take n (rows ++ drop (length rows) w.fetches); stores = stores })
completed_is w i n version lent rows fetch desk order stores same count is are arrival tells done store adds =
    let put : rows ≡ set w.fetches i None = are ∙ ap (λ (xs : List (Option Reading)). set xs i None) same in
    let taken = fetch_taken w i lent fetch same is in
    record {
      order = order;
      version_is = tells;
      done = subst (λ (f : Reading). AddsDone w.desk.key w.desk.history desk.history i f.bytes order) (sym taken.1)
          (subst (λ j. AddsDone w.desk.key w.desk.history desk.history j fetch.bytes order) arrival done);
      store = store;
      rest = ap₂ (λ (fs : List (Option Reading)) (ss : List (Option Sending)). record w { desk = desk; fetches = fs; stores = ss })
          (whole_front n rows w.fetches (ap length put ∙ length-set w.fetches i None) count ∙ put) adds;
    }
