-- What each step on a word tells its seat.
use Rattle.std.specs.Prelude.{◌≡◌, ◌≢◌, ℕ, ◌≤◌, List, [], ◌∷◌, Option, Some, None}
use Rattle.atomic_table.specs.Table.{Me, Step}
use Rattle.tao_turn.specs.Histories.{MayFind, AreOfOne}
use Rattle.tao_turn.specs.Views.{left_view}
use Rattle.tao_turn.specs.declared.view.Knowledge.{Knowledge}
use Rattle.tao_turn.specs.declared.view.Stage.TheVariants.{Idle, Waiting, Holding}
use Rattle.tao_turn.specs.declared.view.View.{View}

-- a seat's view, and the slot if it has it
abbrev Sat : Type 0 → Type 0 → Type 0
Sat T E = Me (Option T) (View E)

module _ {T E : Type 0} where
  -- a ticket was drawn, or nothing changed
  abbrev pub Drew : Step (Option T) → Sat T E → ℕ → Sat T E → Type 0
  Drew st m found m' = (found ≡ st.first → m' ≡ (record m.0 { stage = Waiting st.first }, m.1)) × (found ≢ st.first → m' ≡ m)

  -- the mark of what was seen is published
  abbrev pub Published : Step (Option T) → Sat T E → ℕ → Sat T E → Type 0
  Published st m found m' = m' ≡ (record m.0 { stage = Idle; published = st.first }, m.1)

  module _ (entries : T → List E) where
    -- the value was given back, and the list that lies in it was seen
    abbrev pub Left : Step (Option T) → Sat T E → ℕ → Sat T E → Type 0
    Left st m found m' = (x : T) → m.1 ≡ (0, Some x) ∷ [] → m' ≡ (left_view m.0 (entries x), [])

    module _ (mark_of : List E → ℕ) (maker : List E → ℕ → Option ℕ) where
      -- the seat with the ticket t has the slot with some value, and no turn that it knew of is later
      abbrev pub Took : ℕ → Sat T E → Sat T E → Type 0
      Took t m m' = (x : T) × (m' ≡ (record m.0 { stage = Holding t (entries x) }, (0, Some x) ∷ m.1)) × MayFind maker mark_of m.0.known (entries x) × (m.0.known.ended ≤ t)

      -- it is the seat's turn, and it has the slot, or nothing changed
      abbrev pub Looked : Step (Option T) → Sat T E → ℕ → Sat T E → Type 0
      Looked st m found m' = (t : ℕ) → m.0.stage ≡ Waiting t → (found ≡ t → Took t m m') × (found ≢ t → m' ≡ m)

  -- the mark that was found is at least that of what was seen, and that of the last glance
  abbrev pub Glanced : (List E → ℕ) → Step (Option T) → Sat T E → ℕ → Sat T E → Type 0
  Glanced mark_of st m found m' = (m' ≡ (record m.0 { known = record m.0.known { told = found } }, m.1)) × (mark_of m.0.known.seen ≤ found) × (m.0.known.told ≤ found)

  -- what the join told
  abbrev pub Recalled : (List E → ℕ → Option ℕ) → Step (Option T) → Sat T E → ℕ → Sat T E → Type 0
  Recalled maker st m found m' = (m' ≡ (record m.0 { joined = None }, m.1)) × ((a b : Knowledge E) → m.0.joined ≡ Some (a, b) → AreOfOne maker a b)
