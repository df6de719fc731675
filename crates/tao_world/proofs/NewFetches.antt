-- An operation arrives.
use Rattle.std.proofs.Common.{◌≡◌, ◌⊎◌, inl, inr, ℕ, zero, suc, ◌+◌, ◌-◌, ◌<◌, ◌≤◌, Bool, false, if◌then◌else◌, nat_lt, List, [], ◌∷◌, ◌++◌, length, reverse, Option, Some, None, refl, sym, ap, ap₂, ◌∙◌, subst, arith}
use Rattle.std.specs.Prelude.{Result, Ok, Err, IfErr}
use Rattle.std.specs.Result.{IsErrAnd}
use Rattle.std.proofs.lemmas.Bool.{cases_lt, lt-ltb, eq-eqb}
use Rattle.std.proofs.lemmas.List.{length-append, get_or_past, get_or_append_left, get_or-append_right}
use Rattle.std.proofs.lemmas.Option.{none-some, same_Some}
use Rattle.tao_base.specs.declared.calls.Op.{Op}
use Rattle.tao_base.specs.declared.calls.Op.TheVariants.{Read, Write, Pad}
use Rattle.tao_base.specs.declared.session.Event.TheVariants.{Arrive}
use Rattle.tao_base.specs.Limits.{Shape, session_limit}
use Rattle.tao_base.specs.Session.{History}
use Rattle.tao_desk.specs.Calls.{AskState, HasArrived}
use Rattle.tao_desk.specs.Refusals.{op_refusal, arrive_refusal}
use Rattle.tao_desk.specs.Sound.{IsSound}
use Rattle.tao_desk.specs.State.{DeskState}
use Rattle.tao_desk.specs.declared.faults.ArriveFault.{ArriveFault}
use Rattle.tao_desk.specs.declared.faults.ArriveFault.TheVariants.{Down, SessionFull, NoBlock, BlockLength, Memory}
use Rattle.tao_model.specs.Events.{arrived, issues, has_fault}
use Rattle.tao_model.specs.Lawful.{IsInRange}
use Rattle.tao_model.specs.Requests.{fetched_leaf}
use Rattle.tao_model.proofs.LawfulToWhole.{arrived_within}
use Rattle.tao_model.proofs.Stays.{newest_first}
use Rattle.tao_schedule.specs.Moves.{Move, Arrives}
use Rattle.tao_tape.specs.Tapes.{either_word}
use Rattle.tao_world.specs.Moving.{IsFull, HasNewFetch, new_reading, next_word, words_left}
use Rattle.tao_world.specs.Shows.{Shows}
use Rattle.tao_world.specs.State.{Reading, row_at}
use Rattle.tao_world.specs.World.{WorldState, RoomState, IsLeftBy, IsRoom, IsWorld}
use Rattle.tao_world.proofs.Arrivals.{arrives_shows}
use Rattle.tao_world.proofs.ShownSteps.{moves_up}

-- ---- what refuses it

in_range : (s : Shape) (op : Op) → IsInRange s op → op_refusal s op ≡ None
in_range s (Read id) range = ap (λ (t : Bool). if t then None else Some NoBlock) (lt-ltb id s.n range)
in_range s (Write id value) range =
    ap₂ (λ (t u : Bool). if t then (if u then None else Some BlockLength) else Some NoBlock) (lt-ltb id s.n range.0) (eq-eqb (length value) s.b range.1)
in_range s Pad range = refl

module _ (w : WorldState) (spare : RoomState) (is : IsWorld w spare) where
  up : has_fault (reverse w.desk.history.events) ≡ false
  unfolding IsLeftBy
  up = moves_up w.desk.history.opening is.moves (reverse w.desk.history.events) is.shows.schedule

  within : arrived (reverse w.desk.history.events) ≤ session_limit w.desk.history.opening.shape
  unfolding IsLeftBy
  within = arrived_within w.desk.history.opening (reverse w.desk.history.events) is.shows.lawful.follows

  -- a session with as many fetches is full
  pub is_full : (n limit : ℕ) → n ≡ length w.fetches → limit ≡ session_limit w.desk.history.opening.shape → limit ≤ n → IsFull w
  is_full n limit count same high = let most = within in let places = is.fetch_count in omega arith

  -- with fewer it isn't
  pub not_full : (n limit : ℕ) → n ≡ length w.fetches → limit ≡ session_limit w.desk.history.opening.shape → n < limit → IsFull w → ⊥
  not_full n limit count same low full = let places = is.fetch_count in omega (arith, full)

  -- then nothing refuses an operation in range as long as the tape has a word
  pub none_refused : (op : Op) → (IsFull w → ⊥) → IsInRange w.desk.history.opening.shape op → 0 < words_left w → arrive_refusal (words_left w) w.desk.history op ≡ None
  none_refused op free range words =
      ap (λ (t : Bool). if t then Some Down else
      (if nat_lt (arrived (reverse w.desk.history.events)) (session_limit w.desk.history.opening.shape) then (if nat_lt 0 (words_left w) then op_refusal w.desk.history.opening.shape op else Some SessionFull)
      else Some SessionFull)) up
      ∙ ap (λ (t : Bool). if t then (if nat_lt 0 (words_left w) then op_refusal w.desk.history.opening.shape op else Some SessionFull) else Some SessionFull)
      (lt-ltb (arrived (reverse w.desk.history.events)) (session_limit w.desk.history.opening.shape) few)
      ∙ ap (λ (t : Bool). if t then op_refusal w.desk.history.opening.shape op else Some SessionFull) (lt-ltb 0 (words_left w) words)
      ∙ in_range w.desk.history.opening.shape op range
    where
      few : arrived (reverse w.desk.history.events) < session_limit w.desk.history.opening.shape
      few = either (cases_lt (arrived (reverse w.desk.history.events)) (session_limit w.desk.history.opening.shape))
        where
          either : (arrived (reverse w.desk.history.events) < session_limit w.desk.history.opening.shape) ⊎ (session_limit w.desk.history.opening.shape ≤ arrived (reverse w.desk.history.events))
              → arrived (reverse w.desk.history.events) < session_limit w.desk.history.opening.shape
          either (inl low) = low
          either (inr high) = absurd (free (let most = within in omega arith))

-- so only memory can be short
pub out_of_memory : (left : ℕ) (h : History) (op : Op) (fault : ArriveFault) → arrive_refusal left h op ≡ None
    → (arrive_refusal left h op ≡ Some fault) ⊎ ((fault ≡ Memory) × (arrive_refusal left h op ≡ None)) → fault ≡ Memory
out_of_memory left h op fault none (inl refused) = absurd (none-some fault (sym none ∙ refused))
out_of_memory left h op fault none (inr memory) = memory.0

-- what holds of the fault that is handed on
pub handed_on : {X : Type 0} (result : Result X ArriveFault) (fault : ArriveFault) (P : ArriveFault → Type 0) → IsErrAnd result (λ x. x ≡ fault) → P fault → IfErr result P
handed_on (Ok x) fault P is p = tt
handed_on (Err e) fault P is p = subst P (sym is) p

-- ---- what comes of it

module _ (old new : WorldState) (client : ℕ) (op : Op) (has : HasNewFetch client op old new) (sound : IsSound either_word new.desk) where
  told : reverse new.desk.history.events ≡ Arrive client op (next_word old) ∷ reverse old.desk.history.events
  told = ap (λ (h : History). reverse h.events) has.event ∙ newest_first old.desk.history.events (Arrive client op (next_word old))

  abbrev now : Reading
  now = new_reading old.desk.history new.desk.history

  pub arrived_left : length old.fetches ≡ arrived (reverse old.desk.history.events) → (ms : List Move) → IsLeftBy ms old → IsLeftBy (Arrives client op (next_word old) ∷ ms) new
  unfolding IsLeftBy
  arrived_left count ms left =
      subst (λ (w : WorldState). Shows (Arrives client op (next_word old) ∷ ms) w.desk.key w.desk.history w.tree w.fetches w.stores) (sym has.rest)
      (subst (λ key. Shows (Arrives client op (next_word old) ∷ ms) key new.desk.history old.tree (old.fetches ++ Some now ∷ []) old.stores) (sym (ap (λ (d : DeskState). d.key) has.store))
      (arrives_shows ms old.desk.key old.desk.history new.desk.history old.tree old.fetches (old.fetches ++ Some now ∷ []) old.stores client op (next_word old) now left (record {
        event = has.event;
        lawful = sound.about.lawful;
        arrival = refl;
        leaf = refl;
        unread = λ d. get_or_past [] d false (omega arith);
        row = inr (sym count, refl);
      })))

  rooms_more : (s : Shape) (rows : List (Option Reading)) → ((i : ℕ) (reading : Reading) → row_at rows i ≡ Some reading → IsRoom s reading.read reading.bytes)
      → (i : ℕ) (reading : Reading) → row_at (rows ++ Some now ∷ []) i ≡ Some reading → IsRoom s reading.read reading.bytes
  rooms_more s rows all i reading found = either (cases_lt i (length rows))
    where
      at_end : (j : ℕ) → row_at (Some now ∷ []) j ≡ Some reading → IsRoom s reading.read reading.bytes
      at_end zero same = subst (λ (r : Reading). IsRoom s r.read r.bytes) (same_Some now reading same) (inl (refl, refl))
      at_end (suc j) same = absurd (none-some reading (sym (get_or_past [] j None (omega arith)) ∙ same))

      either : (i < length rows) ⊎ (length rows ≤ i) → IsRoom s reading.read reading.bytes
      either (inl low) = all i reading (sym (get_or_append_left rows (Some now ∷ []) None i low) ∙ found)
      either (inr past) = at_end (i - length rows) (sym (get_or-append_right rows (Some now ∷ []) (length rows) i None refl past) ∙ found)

  pub arrived_world : (spare : RoomState) → IsWorld old spare → IsWorld new spare
  arrived_world spare is =
      let same : new.desk.history.opening.shape ≡ old.desk.history.opening.shape = ap (λ (h : History). h.opening.shape) has.event in
      subst (λ (w : WorldState). IsWorld w spare) (sym has.rest) (record {
        moves = Arrives client op (next_word old) ∷ is.moves;
        shows = subst (IsLeftBy (Arrives client op (next_word old) ∷ is.moves)) has.rest (arrived_left is.fetch_count is.moves is.shows);
        fetch_count = (let long = length-append old.fetches (Some now ∷ []) in let up : arrived (reverse new.desk.history.events) ≡ arrived (reverse old.desk.history.events) + 1 = ap arrived told in
            let count = is.fetch_count in omega (arith, long, up, count));
        store_count = is.store_count ∙ sym (ap (λ es. issues es + 1) told);
        rooms = subst (λ (s : Shape). (j : ℕ) (reading : Reading) → row_at (old.fetches ++ Some now ∷ []) j ≡ Some reading → IsRoom s reading.read reading.bytes) (sym same)
            (rooms_more old.desk.history.opening.shape old.fetches is.rooms);
        spare_is = subst (λ (s : Shape). IsRoom s spare.read spare.bytes) (sym same) is.spare_is;
      })

-- what its code makes of the world
pub arrived_is : (w : WorldState) (client : ℕ) (op : Op) (desk : DeskState) (ask : AskState) (rows rows' : List (Option Reading)) → rows ≡ w.fetches → HasArrived either_word w.desk desk client op ask
    → rows' ≡ rows ++ Some (record { arrival = ask.arrival; leaf = ask.leaf; read = []; bytes = [] }) ∷ [] → HasNewFetch client op w (record w { desk = desk; fetches = rows' })
arrived_is w client op desk ask rows rows' same has are = record {
  event = has.events;
  store = has.store;
  rest = ap (λ (fs : List (Option Reading)). record w { desk = desk; fetches = fs })
      (are ∙ ap₂ (λ (fs : List (Option Reading)) (r : Reading). fs ++ Some r ∷ []) same
      (ap₂ (λ (arrival leaf : ℕ). record { arrival = arrival; leaf = leaf; read = []; bytes = [] }) has.number
      (has.leaf ∙ ap (fetched_leaf desk.history.opening (reverse desk.history.events)) has.number)));
}
