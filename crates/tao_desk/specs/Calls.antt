-- What the calls of a desk give, and how they change it.
use Rattle.std.specs.Prelude.{◌≡◌, ◌≢◌, ℕ, ◌+◌, ◌<◌, ◌^◌, true, false, List, [], ◌∷◌, ◌++◌, map, reverse}
use Rattle.std.specs.List.{range_with_len}
use Rattle.tao_base.specs.declared.calls.Op.{Op}
use Rattle.tao_base.specs.declared.session.Cause.TheVariants as causes
use Rattle.tao_base.specs.declared.session.Event.{Event}
use Rattle.tao_base.specs.declared.session.Event.TheVariants.{Arrive}
use Rattle.tao_base.specs.Limits.{Shape}
use Rattle.tao_base.specs.Session.{History}
use Rattle.tao_laws.specs.Residents.{IsAsAsked}
use Rattle.tao_model.specs.Events.{arrived, is_under_way}
use Rattle.tao_model.specs.Requests.{fetched_leaf, fetches, word_used}
use Rattle.tao_model.specs.Residence.{is_resident}
use Rattle.tao_images.specs.Answers.{with_event}
use Rattle.tao_desk.specs.declared.faults.DoneFault.{DoneFault}
use Rattle.tao_desk.specs.declared.faults.DoneFault.TheVariants.{Down, Stranger, Damaged, Stale}
use Rattle.tao_desk.specs.State.{DeskState, SameStore, faulted}

-- the number of an arrival, and the leaf whose path is fetched for it
pub record AskState : Type 0 where
  pub arrival : ℕ
  pub leaf : ℕ

-- a session has begun with these parameters and blocks, and with the first words of the tape; its tree was loaded with them
pub record IsStarted (word : List ℕ → ℕ → ℕ) (source : List ℕ) (p : Shape) (key : List ℕ) (blocks : List (List ℕ)) (d : DeskState) : Type 0 where
  pub key_is : d.key ≡ key
  pub source_is : d.source ≡ source
  pub shape : d.history.opening.shape ≡ p
  pub first : d.history.opening.first ≡ blocks
  pub words : d.history.opening.words ≡ map (word source) (range_with_len 0 p.n)
  pub events : d.history.events ≡ []

-- An operation has arrived with the next word of the tape. Its fetch has the next number, and the leaf of the block's position if it is
-- real, else of its own word; the word that it goes by was used by no earlier one.
pub record HasArrived (word : List ℕ → ℕ → ℕ) (old new : DeskState) (client : ℕ) (op : Op) (ask : AskState) : Type 0 where
  pub events : new.history ≡ with_event old.history (Arrive client op (word old.source (old.history.opening.shape.n + arrived (reverse old.history.events))))
  pub store : SameStore old new
  pub number : ask.arrival ≡ arrived (reverse old.history.events)
  pub leaf : ask.leaf ≡ fetched_leaf new.history.opening (reverse new.history.events) ask.arrival
  pub within : ask.leaf < 2 ^ new.history.opening.shape.l
  pub word_once : (i : ℕ) → i < ask.arrival
      → word_used new.history.opening (reverse new.history.events) i ≢ word_used new.history.opening (reverse new.history.events) ask.arrival

-- what a refused answer to a fetch leaves: bytes that are refused end the session, and nothing else changes
abbrev pub Refuses : ℕ → DeskState → DeskState → DoneFault → Type 0
Refuses i old new Down = new ≡ old
Refuses i old new Stranger = new ≡ old
Refuses i old new (Damaged node fault) = new ≡ faulted old (causes.Damaged i node fault)
Refuses i old new (Stale node wanted found) = new ≡ faulted old (causes.Stale i node wanted found)

-- A fetch under way reads each node as it was when its arrival came, and that version was acknowledged by then, or is the load.
abbrev pub LooksAsAsked : History → ℕ → Type 0
LooksAsAsked h i = (before after : List Event) (client : ℕ) (op : Op) (word node : ℕ) → h.events ≡ before ++ Arrive client op word ∷ after
    → arrived (reverse before) ≡ i → is_under_way (reverse h.events) i ≡ true → fetches h.opening (reverse h.events) i node ≡ true
    → is_resident h.opening (reverse h.events) node ≡ false → IsAsAsked h.opening (reverse before) (reverse h.events) node
