-- Laws of schedules. Moves and events are newest first.
use Rattle.std.specs.Prelude.{◌≡◌, ℕ, ◌<◌, ◌≤◌, true, false, List, ◌∷◌, ◌++◌, reverse, Some, None, ⊤}
use Rattle.tao_base.specs.declared.session.Event.{Event}
use Rattle.tao_base.specs.declared.session.Event.TheVariants.{Acked}
use Rattle.tao_base.specs.Limits.{Shape, session_limit}
use Rattle.tao_base.specs.Session.{Opening}
use Rattle.tao_model.specs.Events.{arrived, is_under_way}
use Rattle.tao_model.specs.Requests.{fetches}
use Rattle.tao_model.specs.Residence.{is_resident, newest_version, newest_write}
use Rattle.tao_model.specs.LookBacks.{written_at}
use Rattle.tao_model.specs.Lawful.{FollowsLawfully}
use Rattle.tao_laws.specs.Counted.{IsAllAcked}
use Rattle.tao_text.specs.declared.script.What.{What}
use Rattle.tao_schedule.specs.Moves.{Move, Acknowledges, server_version, served_version, is_served}
use Rattle.tao_schedule.specs.Schedules.{IsSchedule, Goes, GoOn}
use Rattle.tao_schedule.specs.Steps.{is_misplaced, is_full, moves_of}

-- The server is in step at a node: it has no version that wasn't issued. If the proxy doesn't hold the node, the server has
-- its latest version, and had it when it read the node for a fetch under way.
pub record ServerInStep (o : Opening) (ms : List Move) (es : List Event) (node : ℕ) : Type 0 where
  pub not_ahead : server_version ms node ≤ newest_version es node
  pub away : is_resident o es node ≡ false → server_version ms node ≡ newest_version es node
  pub served : (i : ℕ) → is_under_way es i ≡ true → fetches o es i node ≡ true → is_served ms i node ≡ true → is_resident o es node ≡ false
      → served_version ms i node ≡ newest_version es node

-- In a lawful schedule the server stays in step at every node.
abbrev pub StaysInStep : Type 0
StaysInStep = (o : Opening) (ms : List Move) (es : List Event) (node : ℕ) → IsSchedule o ms es → FollowsLawfully o es → ServerInStep o ms es node

-- Once all write-backs are acknowledged, the server has the latest version of every node, whether the proxy holds it or not.
abbrev pub ServerIsNewest : Type 0
ServerIsNewest = (o : Opening) (ms : List Move) (es : List Event) (node : ℕ) → IsSchedule o ms es → FollowsLawfully o es → IsAllAcked es
    → server_version ms node ≡ newest_version es node

-- these moves may come, one after another, and add no event
abbrev pub ChangesNone : Opening → List Move → List Event → List Move → Type 0
ChangesNone o ms es moves = GoOn o ms es moves (reverse moves ++ ms) es

-- the depth of a read, if it names one, is within the tree
abbrev pub HasDepth : Shape → What → Type 0
HasDepth s (What.Do client op) = ⊤
HasDepth s (What.A client op) = ⊤
HasDepth s (What.Read fetch None) = ⊤
HasDepth s (What.Read fetch (Some depth)) = depth ≤ s.l
HasDepth s (What.Done fetch) = ⊤
HasDepth s (What.Put version bucket) = ⊤
HasDepth s (What.Ack version) = ⊤

-- What a step that isn't misplaced or full may do: an arrival has capacity, reads and puts make all their moves,
-- a Done has its whole path, and an acknowledgement comes.
abbrev pub MayGo : Opening → List Move → List Event → What → Type 0
MayGo o ms es (What.Do client op) = arrived es < session_limit o.shape
MayGo o ms es (What.A client op) = arrived es < session_limit o.shape
MayGo o ms es (What.Read fetch depth) = ChangesNone o ms es (moves_of o ms es 0 (What.Read fetch depth))
MayGo o ms es (What.Done fetch) = (is_under_way es fetch ≡ true) × ((node : ℕ) → fetches o es fetch node ≡ true → is_served ms fetch node ≡ true)
MayGo o ms es (What.Put version bucket) = ChangesNone o ms es (moves_of o ms es 0 (What.Put version bucket))
MayGo o ms es (What.Ack version) = Goes o ms es (Acknowledges version) (Acked version ∷ es)

-- A step that isn't misplaced or full may do so.
abbrev pub PlacedMayGo : Type 0
PlacedMayGo = (o : Opening) (ms : List Move) (es : List Event) (what : What) → FollowsLawfully o es → HasDepth o.shape what → is_misplaced o ms es what ≡ false → is_full o es what ≡ false
    → MayGo o ms es what

-- A node that a fetch under way read from the server, and that the proxy doesn't hold, was read in its latest version.
-- What was written under that version is the latest version.
abbrev pub ServedIsNewest : Type 0
ServedIsNewest = (o : Opening) (ms : List Move) (events : List Event) (i node : ℕ) → IsSchedule o ms (reverse events) → FollowsLawfully o (reverse events)
    → is_under_way (reverse events) i ≡ true → fetches o (reverse events) i node ≡ true → is_served ms i node ≡ true → is_resident o (reverse events) node ≡ false
    → written_at o events (served_version ms i node) node ≡ newest_write o (reverse events) node
