-- What a player shows whose moves were these: the tree, the fetches and the stores as the moves left them. Moves are newest first.
use Rattle.std.specs.Prelude.{◌≡◌, ℕ, ◌<◌, ◌≤◌, true, false, not, List, length, reverse, slice_index, Option, Some, None, count_by}
use Rattle.tao_base.specs.declared.storage.Bucket.{Bucket}
use Rattle.tao_base.specs.Session.{History}
use Rattle.tao_base.specs.Tree.{node_at, node_count}
use Rattle.tao_bucket.specs.Encoding.{encoded, format_of}
use Rattle.tao_model.specs.Events.{arrived, issues, has_fault, is_under_way, is_outstanding}
use Rattle.tao_model.specs.Requests.{fetched_leaf, position}
use Rattle.tao_model.specs.Residence.{Unaltered}
use Rattle.tao_model.specs.LookBacks.{written_at}
use Rattle.tao_model.specs.Lawful.{IsLawful}
use Rattle.tao_model.specs.FreshCopy.{FreshCopy}
use Rattle.tao_laws.specs.SettledValues.{settled_value}
use Rattle.tao_fresh.specs.FreshLaws.{FreshWritesOf, present}
use Rattle.tao_images.specs.Orders.{IsIssued}
use Rattle.tao_images.specs.Paths.{piece}
use Rattle.tao_schedule.specs.Moves.{Move, server_version, is_served, served_version, is_applied}
use Rattle.tao_schedule.specs.Schedules.{IsSchedule}
use Rattle.tao_schedule.specs.Laws.{ServerInStep}
use Rattle.tao_tree.specs.Nodes.{TreeState, version_at, bytes_at}
use Rattle.tao_world.specs.State.{Reading, Sending, is_set_at, row_at}

-- the strictest sense of honest answers: the whole bucket
abbrev pub IsSameBucket : Bucket → Bucket → Type 0
IsSameBucket bucket written = bucket ≡ written

-- The bytes are the bucket that was written at a node under a version, encoded in that version's format.
abbrev pub EncodesWritten : List ℕ → History → ℕ → ℕ → List ℕ → Type 0
EncodesWritten key h version node bytes = (bucket : Bucket) × (written_at h.opening h.events version node ≡ Some bucket)
    × (bytes ≡ encoded key h.opening.shape (format_of h.opening.shape.form version) bucket)

-- the tree has the server's version of a node
pub record ShowsNode (ms : List Move) (key : List ℕ) (h : History) (tree : TreeState) (node : ℕ) : Type 0 where
  pub version : version_at tree node ≡ Some (server_version ms node)
  pub bytes : EncodesWritten key h (server_version ms node) node (bytes_at tree node)

-- so has every node of the tree
pub record ShowsTree (ms : List Move) (key : List ℕ) (h : History) (tree : TreeState) : Type 0 where
  pub shape : tree.shape ≡ h.opening.shape
  pub nodes : (node : ℕ) → 1 ≤ node → node ≤ node_count h.opening.shape.l → ShowsNode ms key h tree node

-- A fetch under way: which depths were read, and the bytes there as they were when read.
pub record ShowsReading (ms : List Move) (key : List ℕ) (h : History) (i : ℕ) (reading : Reading) : Type 0 where
  pub under_way : is_under_way (reverse h.events) i ≡ true
  pub arrival : reading.arrival ≡ i
  pub leaf : reading.leaf ≡ fetched_leaf h.opening (reverse h.events) i
  pub read : (d : ℕ) → d ≤ h.opening.shape.l → is_set_at reading.read d ≡ is_served ms i (node_at h.opening.shape.l reading.leaf d)
  pub bytes : (d : ℕ) → d ≤ h.opening.shape.l → is_set_at reading.read d ≡ true
      → EncodesWritten key h (served_version ms i (node_at h.opening.shape.l reading.leaf d)) (node_at h.opening.shape.l reading.leaf d) (piece h.opening.shape reading.bytes d)

-- the row of an arrival: a fetch exactly if it is under way
abbrev pub ShowsFetch : List Move → List ℕ → History → ℕ → Option Reading → Type 0
ShowsFetch ms key h i None = is_under_way (reverse h.events) i ≡ false
ShowsFetch ms key h i (Some reading) = ShowsReading ms key h i reading

-- there is a place for each arrival
pub record ShowsFetches (ms : List Move) (key : List ℕ) (h : History) (fetches : List (Option Reading)) : Type 0 where
  pub places : arrived (reverse h.events) ≤ length fetches
  pub rows : (i : ℕ) → ShowsFetch ms key h i (row_at fetches i)

-- An outstanding store: the order of its write-back, which of its nodes were put, and how many weren't.
pub record ShowsSending (ms : List Move) (key : List ℕ) (h : History) (v : ℕ) (sending : Sending) : Type 0 where
  pub outstanding : is_outstanding (reverse h.events) v ≡ true
  pub version : sending.order.version ≡ v
  pub order : IsIssued key h sending.order
  pub flags : length sending.put ≡ length sending.order.nodes
  pub put : (j : ℕ) → j < length sending.order.nodes → is_set_at sending.put j ≡ is_applied ms v (slice_index sending.order.nodes j)
  pub left : sending.left ≡ count_by not sending.put

-- the row of a version: a store exactly if it is outstanding
abbrev pub ShowsStore : List Move → List ℕ → History → ℕ → Option Sending → Type 0
ShowsStore ms key h v None = is_outstanding (reverse h.events) v ≡ false
ShowsStore ms key h v (Some sending) = ShowsSending ms key h v sending

-- there is a place for each version, and place 0 is unused
pub record ShowsStores (ms : List Move) (key : List ℕ) (h : History) (stores : List (Option Sending)) : Type 0 where
  pub places : issues (reverse h.events) < length stores
  pub rows : (v : ℕ) → ShowsStore ms key h v (row_at stores v)

-- The moves are a schedule of a lawful record with honest answers, and the tree, the fetches and the stores are as they left them.
pub record Shows (ms : List Move) (key : List ℕ) (h : History) (tree : TreeState) (fetches : List (Option Reading)) (stores : List (Option Sending)) : Type 0 where
  pub schedule : IsSchedule h.opening ms (reverse h.events)
  pub lawful : IsLawful h
  pub honest : Unaltered IsSameBucket h.opening (reverse h.events)
  pub server : ShowsTree ms key h tree
  pub reads : ShowsFetches ms key h fetches
  pub puts : ShowsStores ms key h stores

-- In step: some schedule led here, nothing failed, each block has one fresh copy, all writes were fresh, and at each node the server
-- has what the proxy relies on.
pub record InStep (key : List ℕ) (h : History) (tree : TreeState) (fetches : List (Option Reading)) (stores : List (Option Sending)) : Type 0 where
  pub moves : List Move
  pub schedule : Shows moves key h tree fetches stores
  pub up : has_fault (reverse h.events) ≡ false
  pub copies : FreshCopy h.opening.shape (λ b. position h.opening (reverse h.events) b) (λ b. settled_value h.opening (reverse h.events) b) (present h.opening (reverse h.events))
  pub fresh : FreshWritesOf h.opening (reverse h.events)
  pub server : (node : ℕ) → ServerInStep h.opening moves (reverse h.events) node
