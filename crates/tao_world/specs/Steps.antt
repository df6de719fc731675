-- Whether a step may come, by the tables alone.
use Rattle.std.specs.Prelude.{◌≡◌, ℕ, ◌+◌, ◌==◌, Bool, true, false, not, ◌&&◌, List, map, filter, length, reverse, slice_index, Option, Some, None, is_some}
use Rattle.std.specs.List.{list_all, list_any, range_with_len}
use Rattle.tao_base.specs.Session.{History}
use Rattle.tao_base.specs.Tree.{node_at}
use Rattle.tao_text.specs.declared.script.What.{What}
use Rattle.tao_schedule.specs.Laws.{HasDepth}
use Rattle.tao_schedule.specs.Moves.{Move, Serves, Applies, nodes_issued}
use Rattle.tao_schedule.specs.Steps.{is_misplaced, moves_of}
use Rattle.tao_tree.specs.Nodes.{TreeState}
use Rattle.tao_world.specs.State.{Reading, Sending, is_set_at, row_at}
use Rattle.tao_world.specs.Shows.{Shows}

-- there is a row, and it passes a test
abbrev pub passes : {X : Type 0} → (X → Bool) → Option X → Bool
passes test None = false
passes test (Some x) = test x

-- all depths of a path of this height were read
abbrev pub is_whole : ℕ → Reading → Bool
is_whole l reading = list_all (is_set_at reading.read) (range_with_len 0 (l + 1))

-- a store has this node, and hasn't put it yet
abbrev pub has_left : ℕ → Sending → Bool
has_left node sending = list_any (λ j. slice_index sending.order.nodes j == node && not (is_set_at sending.put j)) (range_with_len 0 (length sending.order.nodes))

-- Whether the tables let a step come: its row is there; a bucket wasn't read or put yet; all of a path was read; nothing of a store is left.
unfoldable pub may_come : ℕ → List (Option Reading) → List (Option Sending) → What → Bool
may_come l fetches stores (What.Do client op) = true
may_come l fetches stores (What.A client op) = true
may_come l fetches stores (What.Read fetch None) = is_some (row_at fetches fetch)
may_come l fetches stores (What.Read fetch (Some depth)) = passes (λ reading. not (is_set_at reading.read depth)) (row_at fetches fetch)
may_come l fetches stores (What.Done fetch) = passes (is_whole l) (row_at fetches fetch)
may_come l fetches stores (What.Put version None) = is_some (row_at stores version)
may_come l fetches stores (What.Put version (Some node)) = passes (has_left node) (row_at stores version)
may_come l fetches stores (What.Ack version) = passes (λ sending. sending.left == 0) (row_at stores version)

-- A step is misplaced exactly if the tables don't let it come.
abbrev pub TablesTellMisplaced : Type 0
TablesTellMisplaced = (ms : List Move) (key : List ℕ) (h : History) (tree : TreeState) (fetches : List (Option Reading)) (stores : List (Option Sending)) (what : What)
    → Shows ms key h tree fetches stores → HasDepth h.opening.shape what → is_misplaced h.opening ms (reverse h.events) what ≡ not (may_come h.opening.shape.l fetches stores what)

-- A store's nodes are those that its version issued, in this order.
abbrev pub StoreHasNodes : Type 0
StoreHasNodes = (ms : List Move) (key : List ℕ) (h : History) (tree : TreeState) (fetches : List (Option Reading)) (stores : List (Option Sending)) (v : ℕ) (sending : Sending)
    → Shows ms key h tree fetches stores → row_at stores v ≡ Some sending → nodes_issued (reverse h.events) v ≡ sending.order.nodes

-- A read of all buckets reads the unread depths, root first; a put of all nodes puts those of a store that weren't put, in their order.
pub record MovesByFlags (ms : List Move) (h : History) (fetches : List (Option Reading)) (stores : List (Option Sending)) : Type 0 where
  pub reads : (i word : ℕ) (reading : Reading) → row_at fetches i ≡ Some reading → moves_of h.opening ms (reverse h.events) word (What.Read i None)
      ≡ map (λ d. Serves i (node_at h.opening.shape.l reading.leaf d)) (filter (λ d. not (is_set_at reading.read d)) (range_with_len 0 (h.opening.shape.l + 1)))
  pub puts : (v word : ℕ) (sending : Sending) → row_at stores v ≡ Some sending → moves_of h.opening ms (reverse h.events) word (What.Put v None)
      ≡ map (λ j. Applies v (slice_index sending.order.nodes j)) (filter (λ j. not (is_set_at sending.put j)) (range_with_len 0 (length sending.order.nodes)))

-- this holds of all that a player shows
abbrev pub FlagsTellMoves : Type 0
FlagsTellMoves = (ms : List Move) (key : List ℕ) (h : History) (tree : TreeState) (fetches : List (Option Reading)) (stores : List (Option Sending))
    → Shows ms key h tree fetches stores → MovesByFlags ms h fetches stores
