-- The view of a seat: at what stage of a turn it is, and what it knows.
use Rattle.std.specs.Prelude.{ℕ, max, List, [], ◌∷◌, Bool, true, false, ◌&&◌, Option, Some, None, is_none}
use Rattle.std.specs.List.{range_with_len}
use Rattle.tao_turn.specs.Histories.{newcomer, without, only, joined, after_turn}
use Rattle.tao_turn.specs.declared.view.Knowledge.{Knowledge}
use Rattle.tao_turn.specs.declared.view.Stage.{Stage}
use Rattle.tao_turn.specs.declared.view.Stage.TheVariants.{Idle, Waiting, Holding, Unpublished, Spent}
use Rattle.tao_turn.specs.declared.view.View.{View}

module _ {E : Type 0} where
  -- the ticket that was drawn and not yet served
  abbrev pub ticket_in : Stage E → Option ℕ
  ticket_in Idle = None
  ticket_in (Waiting t) = Some t
  ticket_in (Holding t found) = Some t
  ticket_in Unpublished = None
  ticket_in Spent = None

  -- the value is out with this seat
  abbrev pub is_holder : Stage E → Bool
  is_holder Idle = false
  is_holder (Waiting t) = false
  is_holder (Holding t found) = true
  is_holder Unpublished = false
  is_holder Spent = false

  -- the holder's ticket
  abbrev pub ticket_held : Stage E → ℕ
  ticket_held Idle = 0
  ticket_held (Waiting t) = 0
  ticket_held (Holding t found) = t
  ticket_held Unpublished = 0
  ticket_held Spent = 0

  -- the list that the holder found
  abbrev pub list_found : Stage E → List E
  list_found Idle = []
  list_found (Waiting t) = []
  list_found (Holding t found) = found
  list_found Unpublished = []
  list_found Spent = []

  -- the seat was not joined away
  abbrev pub is_live : Stage E → Bool
  is_live Idle = true
  is_live (Waiting t) = true
  is_live (Holding t found) = true
  is_live Unpublished = true
  is_live Spent = false

  -- the mark of what was seen is published
  abbrev pub is_settled : Stage E → Bool
  is_settled Idle = true
  is_settled (Waiting t) = true
  is_settled (Holding t found) = true
  is_settled Unpublished = false
  is_settled Spent = false

  abbrev pub is_out_of_turn : Stage E → Bool
  is_out_of_turn Idle = true
  is_out_of_turn (Waiting t) = false
  is_out_of_turn (Holding t found) = false
  is_out_of_turn Unpublished = false
  is_out_of_turn Spent = false

  -- one view, of a seat that is in no turn
  abbrev pub are_idle : List (View E) → Bool
  are_idle [] = false
  are_idle (v ∷ []) = is_out_of_turn v.stage && is_none v.joined
  are_idle (v ∷ w ∷ vs) = false

  -- what the one view knows
  abbrev pub known_in : List (View E) → Knowledge E
  known_in [] = newcomer [] []
  known_in (v ∷ vs) = v.known

  -- the first seat has all shares, and the mark of the first list is published
  abbrev pub first_view : (List E → ℕ) → ℕ → List E → View E
  first_view mark_of seats list = record { stage = Idle; known = newcomer list (range_with_len 0 seats); published = mark_of list; joined = None }

  abbrev pub view_without : ℕ → View E → View E
  view_without n v = record v { known = without n v.known }

  abbrev pub view_only : ℕ → View E → View E
  view_only n v = record v { known = only n v.known }

  -- the two that were joined are remembered until a step tells what the rule says of them
  abbrev pub joined_view : View E → View E → View E
  joined_view v w = record v { known = joined v.known w.known; published = max v.published w.published; joined = Some (v.known, w.known) }

  abbrev pub spent_view : View E
  spent_view = record { stage = Spent; known = newcomer [] []; published = 0; joined = None }

  -- after the step that ends the turn
  abbrev pub left_view : View E → List E → View E
  left_view v list = record v { stage = Unpublished; known = after_turn v.known (ticket_held v.stage) (list_found v.stage) list }
