-- A node of a store is applied, or a store is acknowledged.
use Rattle.std.proofs.Common.{◌≡◌, ℕ, ◌+◌, ◌<◌, ◌∷◌, Bool, true, if◌then◌else◌, List, ◌++◌, length, take, drop, set, reverse, slice_set, slice_index, Option, Some, None, is_some, not, refl, sym, ap, ap₂, ◌∙◌, subst, arith}
use Rattle.std.specs.Prelude.{count_by}
use Rattle.std.proofs.lemmas.Bool.{true≢false}
use Rattle.std.proofs.lemmas.List.{length-set}
use Rattle.tao_base.specs.Limits.{Shape, IsShape}
use Rattle.tao_base.specs.Links.{FitsLinks}
use Rattle.tao_base.specs.Session.{History}
use Rattle.tao_base.specs.declared.session.Event.TheVariants.{Acked}
use Rattle.tao_desk.specs.Refusals.{ack_refusal}
use Rattle.tao_desk.specs.Sound.{IsSound}
use Rattle.tao_desk.specs.State.{DeskState}
use Rattle.tao_desk.specs.declared.faults.AckFault.TheVariants.{Down, Stranger}
use Rattle.tao_desk.proofs.Issues.{IsIssue, issue_is}
use Rattle.tao_images.specs.Paths.{piece}
use Rattle.tao_images.proofs.OrderLemmas.{fits}
use Rattle.tao_model.specs.Events.{arrived, issues, is_outstanding}
use Rattle.tao_model.proofs.LawfulToWhole.{follows_opening}
use Rattle.tao_model.proofs.Stays.{newest_first}
use Rattle.tao_processor.proofs.WrittenBack.{whole_front}
use Rattle.tao_schedule.specs.Moves.{Move, Applies, Acknowledges}
use Rattle.tao_tape.specs.Tapes.{either_word}
use Rattle.tao_tree.specs.Nodes.{TreeState, applied}
use Rattle.tao_world.specs.Changes.{with_put}
use Rattle.tao_world.specs.Moving.{sending_of, store_at, with_applied, HasAcknowledged}
use Rattle.tao_world.specs.Shows.{Shows, ShowsStore, ShowsSending}
use Rattle.tao_world.specs.State.{Sending, row_at}
use Rattle.tao_world.specs.World.{WorldState, RoomState, IsLeftBy, IsRoom, IsWorld}
use Rattle.tao_world.proofs.AcknowledgedStores.{acknowledges_shows}
use Rattle.tao_world.proofs.AppliedWrites.{applies_shows}
use Rattle.tao_world.proofs.ShownSteps.{moves_up}

-- ---- rows

-- a row that is there is its store's
pub found_store : (row : Option Sending) → is_some row ≡ true → row ≡ Some (sending_of row)
found_store None some = absurd (true≢false (sym some))
found_store (Some sending) some = refl

-- a store that has a node has a row
pub has_row : (row : Option Sending) (j : ℕ) → j < length (sending_of row).order.nodes → is_some row ≡ true
has_row None j low = absurd (omega arith)
has_row (Some sending) j low = refl

module _ (ms : List Move) (w : WorldState) (v : ℕ) (left : IsLeftBy ms w) (there : is_some (row_at w.stores v) ≡ true) where
  -- the row of a store
  pub store_row : ShowsSending ms w.desk.key w.desk.history v (store_at w v)
  unfolding IsLeftBy
  store_row = subst (ShowsStore ms w.desk.key w.desk.history v) (found_store (row_at w.stores v) there) (left.puts.rows v)

  pub is_shape : IsShape w.desk.history.opening.shape
  unfolding IsLeftBy
  is_shape = (follows_opening w.desk.history.opening (reverse w.desk.history.events) left.lawful.follows).shape

  pub tree_shape : w.tree.shape ≡ w.desk.history.opening.shape
  unfolding IsLeftBy
  tree_shape = left.server.shape

  issue : IsIssue w.desk.history.opening (reverse w.desk.history.events) (store_at w v).order.version store_row.order.0
  unfolding IsLeftBy
  issue = issue_is w.desk.history.opening w.desk.history.events (store_at w v).order.version (store_at w v).order.nonce store_row.order.0 left.lawful.follows store_row.order.1

  -- links take its order
  pub order_fits : FitsLinks w.tree.shape (store_at w v).order
  order_fits =
      subst (λ s. FitsLinks s (store_at w v).order) (sym tree_shape)
      (fits w.desk.key w.desk.history.opening.shape (store_at w v).order.version (store_at w v).order.nonce store_row.order.0 (store_at w v).order is_shape store_row.order.2 issue.in_form issue.few)

-- ---- a node is applied

module _ (w : WorldState) (v j : ℕ) (within : j < length (store_at w v).order.nodes) where
  there : is_some (row_at w.stores v) ≡ true
  there = has_row (row_at w.stores v) j within

  pub applied_left : (ms : List Move) → IsLeftBy ms w → IsLeftBy (Applies v (slice_index (store_at w v).order.nodes j) ∷ ms) (with_applied w v j)
  unfolding IsLeftBy with_applied
  applied_left ms left = applies_shows ms w.desk.key w.desk.history w.tree (with_applied w v j).tree w.fetches w.stores (with_applied w v j).stores v j (store_at w v) left (record {
    found = found_store (row_at w.stores v) there;
    within = within;
    write = ap₂ (λ u s. applied w.tree u (slice_index (store_at w v).order.nodes j) (piece s (store_at w v).order.image j)) (store_row ms w v left there).version (tree_shape ms w v left there);
    row = refl;
  })

  pub applied_world : (spare : RoomState) → IsWorld w spare → IsWorld (with_applied w v j) spare
  unfolding with_applied
  applied_world spare is = record {
    moves = Applies v (slice_index (store_at w v).order.nodes j) ∷ is.moves;
    shows = applied_left is.moves is.shows;
    fetch_count = is.fetch_count;
    store_count = length-set w.stores v (Some (with_put (store_at w v) j)) ∙ is.store_count;
    rooms = is.rooms;
    spare_is = is.spare_is;
  }

  -- what its code makes of the tree and of the stores, which it changes through a slice
  pub applied_is : (n : ℕ) (lent rows : List (Option Sending)) (tree : TreeState) → lent ≡ w.stores → n ≡ length w.stores
      → tree ≡ applied w.tree (sending_of (row_at lent v)).order.version (slice_index (sending_of (row_at lent v)).order.nodes j) (piece w.tree.shape (sending_of (row_at lent v)).order.image j)
      → rows ≡ set lent v (Some (with_put (sending_of (row_at lent v)) j)) → record w { tree = tree; stores = take n (rows ++ drop (length rows) w.stores) } ≡ with_applied w v j
  unfolding with_applied
  applied_is n lent rows tree same count is are =
      let put : rows ≡ set w.stores v (Some (with_put (store_at w v) j)) = are ∙ ap (λ (ss : List (Option Sending)). set ss v (Some (with_put (sending_of (row_at ss v)) j))) same in
      ap₂ (λ (t : TreeState) (ss : List (Option Sending)). record w { tree = t; stores = ss })
      (is ∙ ap (λ (ss : List (Option Sending)). applied w.tree (sending_of (row_at ss v)).order.version (slice_index (sending_of (row_at ss v)).order.nodes j) (piece w.tree.shape (sending_of (row_at ss v)).order.image j)) same)
      (whole_front n rows w.stores (ap length put ∙ length-set w.stores v (Some (with_put (store_at w v) j))) count ∙ put)

-- what is known of the row of a store that has a node
pub record IsStoreRow (s : Shape) (sending : Sending) : Type 0 where
  pub fits : FitsLinks s sending.order
  pub flags : length sending.put ≡ length sending.order.nodes
  pub counted : sending.left ≡ count_by not sending.put

pub known_row : (w : WorldState) (spare : RoomState) (v j : ℕ) (lent : List (Option Sending)) → lent ≡ w.stores → IsWorld w spare → j < length (store_at w v).order.nodes
    → IsStoreRow w.tree.shape (sending_of (row_at lent v))
known_row w spare v j lent same is within =
    let there = has_row (row_at w.stores v) j within in
    let row = store_row is.moves w v is.shows there in
    subst (λ (ss : List (Option Sending)). IsStoreRow w.tree.shape (sending_of (row_at ss v))) (sym same)
    (record { fits = order_fits is.moves w v is.shows there; flags = row.flags; counted = row.left })

-- ---- an acknowledgement

-- it isn't refused
pub not_refused : (ms : List Move) (w : WorldState) (v : ℕ) → IsLeftBy ms w → is_some (row_at w.stores v) ≡ true → ack_refusal w.desk.history v ≡ None
unfolding IsLeftBy
not_refused ms w v left there =
    ap (λ (down : Bool). if down then Some Down else (if is_outstanding (reverse w.desk.history.events) v then None else Some Stranger))
    (moves_up w.desk.history.opening ms (reverse w.desk.history.events) left.schedule)
    ∙ ap (λ (out : Bool). if out then None else Some Stranger) (store_row ms w v left there).outstanding

module _ (old new : WorldState) (v : ℕ) (there : is_some (row_at old.stores v) ≡ true) (none : (store_at old v).left ≡ 0) (has : HasAcknowledged v old new)
    (sound : IsSound either_word new.desk) where
  told : reverse new.desk.history.events ≡ Acked v ∷ reverse old.desk.history.events
  told = ap (λ (h : History). reverse h.events) has.event ∙ newest_first old.desk.history.events (Acked v)

  pub acknowledged_left : (ms : List Move) → IsLeftBy ms old → IsLeftBy (Acknowledges v ∷ ms) new
  unfolding IsLeftBy
  acknowledged_left ms left =
      subst (λ (w : WorldState). Shows (Acknowledges v ∷ ms) w.desk.key w.desk.history w.tree w.fetches w.stores) (sym has.rest)
      (subst (λ key. Shows (Acknowledges v ∷ ms) key new.desk.history old.tree old.fetches (slice_set old.stores v None)) (sym (ap (λ (d : DeskState). d.key) has.store))
      (acknowledges_shows ms old.desk.key old.desk.history new.desk.history old.tree old.fetches old.stores (slice_set old.stores v None) v (store_at old v) left (record {
        found = found_store (row_at old.stores v) there;
        none_left = none;
        event = has.event;
        lawful = sound.about.lawful;
        row = refl;
      })))

  pub acknowledged_world : (spare : RoomState) → IsWorld old spare → IsWorld new spare
  acknowledged_world spare is =
      let same : new.desk.history.opening.shape ≡ old.desk.history.opening.shape = ap (λ (h : History). h.opening.shape) has.event in
      subst (λ (w : WorldState). IsWorld w spare) (sym has.rest) (record {
        moves = Acknowledges v ∷ is.moves;
        shows = subst (IsLeftBy (Acknowledges v ∷ is.moves)) has.rest (acknowledged_left is.moves is.shows);
        fetch_count = is.fetch_count ∙ sym (ap arrived told);
        store_count = length-set old.stores v None ∙ is.store_count ∙ sym (ap (λ es. issues es + 1) told);
        rooms = λ i reading found. subst (λ (s : Shape). IsRoom s reading.read reading.bytes) (sym same) (is.rooms i reading found);
        spare_is = subst (λ (s : Shape). IsRoom s spare.read spare.bytes) (sym same) is.spare_is;
      })
