-- The steps of a script: when one is misplaced, which moves it stands for, and how steps are played.
-- Moves, events and played steps are newest first; the moves and parts of one step are in their order.
use Rattle.std.specs.Prelude.{◌≡◌, ℕ, ◌+◌, ◌*◌, ◌==◌, Bool, false, not, ◌&&◌, if◌then◌else◌, List, [], ◌∷◌, map, filter, Some, None}
use Rattle.std.specs.List.{list_all}
use Rattle.tao_base.specs.declared.calls.Op.TheVariants.{Pad}
use Rattle.tao_base.specs.declared.session.Event.{Event}
use Rattle.tao_base.specs.declared.session.Event.TheVariants.{Arrive}
use Rattle.tao_base.specs.Limits.{session_limit}
use Rattle.tao_base.specs.Session.{Opening}
use Rattle.tao_base.specs.Tree.{node_at, path}
use Rattle.tao_model.specs.Events.{arrived, dones, issues, is_under_way, is_outstanding}
use Rattle.tao_model.specs.Requests.{fetched_leaf}
use Rattle.tao_model.specs.Residence.{is_issued}
use Rattle.tao_text.specs.declared.script.What.{What}
use Rattle.tao_text.specs.Breaks.{is_arrival}
use Rattle.tao_schedule.specs.Moves.{Move, Arrives, Serves, Completes, Applies, Acknowledges, is_served, is_applied, nodes_issued}
use Rattle.tao_schedule.specs.Schedules.{GoOn}

-- whether a step may not come after these moves and events
unfoldable pub is_misplaced : Opening → List Move → List Event → What → Bool
is_misplaced o ms es (What.Do client op) = false
is_misplaced o ms es (What.A client op) = false
is_misplaced o ms es (What.Read fetch None) = not (is_under_way es fetch)
is_misplaced o ms es (What.Read fetch (Some depth)) = not (is_under_way es fetch && not (is_served ms fetch (node_at o.shape.l (fetched_leaf o es fetch) depth)))
is_misplaced o ms es (What.Done fetch) = not (is_under_way es fetch && list_all (is_served ms fetch) (path o.shape.l (fetched_leaf o es fetch)))
is_misplaced o ms es (What.Put version None) = not (is_outstanding es version)
is_misplaced o ms es (What.Put version (Some node)) = not (is_outstanding es version && (is_issued es version node && not (is_applied ms version node)))
is_misplaced o ms es (What.Ack version) = not (is_outstanding es version && list_all (is_applied ms version) (nodes_issued es version))

-- whether a step is an arrival beyond the session's capacity
unfoldable pub is_full : Opening → List Event → What → Bool
is_full o es what = is_arrival what && (arrived es == session_limit o.shape)

-- The moves of a step; `word` is the tape word of its arrival. A read without a depth reads all unread nodes, root first;
-- a put without a node puts all nodes not put yet, rising. Of a `do` only the arrival.
unfoldable pub moves_of : Opening → List Move → List Event → ℕ → What → List Move
moves_of o ms es word (What.Do client op) = Arrives client op word ∷ []
moves_of o ms es word (What.A client op) = Arrives client op word ∷ []
moves_of o ms es word (What.Read fetch None) = map (Serves fetch) (filter (λ node. not (is_served ms fetch node)) (path o.shape.l (fetched_leaf o es fetch)))
moves_of o ms es word (What.Read fetch (Some depth)) = Serves fetch (node_at o.shape.l (fetched_leaf o es fetch) depth) ∷ []
moves_of o ms es word (What.Done fetch) = Completes fetch ∷ []
moves_of o ms es word (What.Put version None) = map (Applies version) (filter (λ node. not (is_applied ms version node)) (nodes_issued es version))
moves_of o ms es word (What.Put version (Some node)) = Applies version node ∷ []
moves_of o ms es word (What.Ack version) = Acknowledges version ∷ []

-- What follows the arrival of a `do`: all its reads, its Done and, if that fills a period, all puts of the write-back and
-- its acknowledgement. Other steps have no rest.
unfoldable pub rest_of : Opening → List Event → What → List What
rest_of o es (What.Do client op) = What.Read (arrived es) None ∷ What.Done (arrived es)
    ∷ (if dones es + 1 == (issues es + 1) * o.shape.k then What.Put (issues es + 1) None ∷ What.Ack (issues es + 1) ∷ [] else [])
rest_of o es (What.A client op) = []
rest_of o es (What.Read fetch depth) = []
rest_of o es (What.Done fetch) = []
rest_of o es (What.Put version bucket) = []
rest_of o es (What.Ack version) = []

-- A part is played: it isn't misplaced, and its moves lead from some moves and events to others. `word` gives each arrival's tape word.
unfoldable pub IsPart : Opening → (ℕ → ℕ) → List Move → List Event → What → List Move → List Event → Type 0
IsPart o word ms es what later now = (is_misplaced o ms es what ≡ false) × GoOn o ms es (moves_of o ms es (word (arrived es)) what) later now

-- these parts are played, one after another
unfoldable pub AreParts : Opening → (ℕ → ℕ) → List Move → List Event → List What → List Move → List Event → Type 0
AreParts o word ms es [] later now = (later ≡ ms) × (now ≡ es)
AreParts o word ms es (what ∷ rest) later now = (ns : List Move) × (next : List Event) × IsPart o word ms es what ns next × AreParts o word ns next rest later now

-- A step is played: first the step itself (of a `do` its arrival), then the rest of a `do`.
unfoldable pub IsStep : Opening → (ℕ → ℕ) → List Move → List Event → What → List Move → List Event → Type 0
IsStep o word ms es what later now = AreParts o word ms es (what ∷ rest_of o es what) later now

-- the events with a step's arrival, if it has one
abbrev pub asked_behind : (ℕ → ℕ) → List Event → What → List Event
asked_behind word es (What.Do client op) = Arrive client op (word (arrived es)) ∷ es
asked_behind word es (What.A client op) = Arrive client op (word (arrived es)) ∷ es
asked_behind word es (What.Read fetch depth) = es
asked_behind word es (What.Done fetch) = es
asked_behind word es (What.Put version bucket) = es
asked_behind word es (What.Ack version) = es

-- These steps were played from the opening on and lead to these moves and events.
unfoldable pub ArePlayed : Opening → (ℕ → ℕ) → List What → List Move → List Event → Type 0
ArePlayed o word [] ms es = (ms ≡ []) × (es ≡ [])
ArePlayed o word (what ∷ steps) ms es = (earlier : List Move) × (before : List Event) × ArePlayed o word steps earlier before × IsStep o word earlier before what ms es

-- a step without its operation
abbrev pub seen_step : What → What
seen_step (What.Do client op) = What.Do client Pad
seen_step (What.A client op) = What.A client Pad
seen_step (What.Read fetch depth) = What.Read fetch depth
seen_step (What.Done fetch) = What.Done fetch
seen_step (What.Put version bucket) = What.Put version bucket
seen_step (What.Ack version) = What.Ack version
