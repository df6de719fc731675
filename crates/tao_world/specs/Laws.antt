-- Laws of what a player shows: after each move it shows one move more, and its answers are never refused. Moves are newest first.
use Rattle.std.specs.Prelude.{◌≡◌, ℕ, ◌≤◌, Bool, true, false, List, [], ◌∷◌, ◌++◌, reverse, replicate, slice_index, slice_set, Option, Some, None, ◌<◌, ◌^◌, All}
use Rattle.tao_base.specs.declared.calls.Op.{Op}
use Rattle.tao_base.specs.declared.session.Event.TheVariants.{Done}
use Rattle.tao_base.specs.declared.storage.Bucket.{Bucket}
use Rattle.tao_base.specs.declared.storage.Order.{Order}
use Rattle.tao_base.specs.Session.{Opening, History}
use Rattle.tao_base.specs.Tree.{node_at, node_count}
use Rattle.tao_base.specs.Limits.{Shape, IsShape}
use Rattle.tao_base.specs.Buckets.{IsInForm}
use Rattle.tao_model.specs.Requests.{fetched_leaf}
use Rattle.tao_model.specs.Residence.{is_resident, newest_version, newest_write, Unaltered, HasEntriesOf}
use Rattle.tao_held.specs.Held.{WritesHeld}
use Rattle.tao_laws.specs.Counted.{IsAllAcked}
use Rattle.tao_images.specs.Answers.{kept_tag, IsAnswered, AreFetched, IsUnaltered, IsLeafAnswered, AreScanned}
use Rattle.tao_images.specs.Honesty.{HasTagOf}
use Rattle.tao_images.specs.Nodes.{Holds}
use Rattle.tao_images.specs.Paths.{piece}
use Rattle.tao_schedule.specs.Moves.{Move, Arrives, Serves, Completes, Applies, Acknowledges}
use Rattle.tao_tree.specs.Nodes.{TreeState, path_bytes, version_at, bytes_at, all_applied}
use Rattle.tao_world.specs.State.{Reading, Sending, is_set_at, row_at}
use Rattle.tao_world.specs.Shows.{IsSameBucket, Shows, InStep}
use Rattle.tao_world.specs.Changes.{Opens, Arriving, Serving, Completing, Applying, Acknowledging, image_of}

-- ---- the moves

-- a session without events
abbrev pub begun : Opening → History
begun o = record { opening = o; events = [] }

-- At the start no move was made; place 0 of the stores stays unused.
abbrev pub OpensShows : Type 0
OpensShows = (key : List ℕ) (o : Opening) (tree : TreeState) → Opens key o tree → Shows [] key (begun o) tree [] (None ∷ [])

-- The load may be applied in parts.
abbrev pub PartsJoin : Type 0
PartsJoin = (key : List ℕ) (s : Shape) (version : ℕ) (first rest : List Bucket) (tree : TreeState) → IsShape s → tree.shape ≡ s → All (IsInForm s) first → All (IsInForm s) rest
    → all_applied (all_applied tree version (image_of key s version first)) version (image_of key s version rest) ≡ all_applied tree version (image_of key s version (first ++ rest))

-- More places show nothing.
abbrev pub PlacesShow : Type 0
PlacesShow = (ms : List Move) (key : List ℕ) (h : History) (tree : TreeState) (fetches : List (Option Reading)) (stores : List (Option Sending)) (more more' : ℕ)
    → Shows ms key h tree fetches stores → Shows ms key h tree (fetches ++ replicate more None) (stores ++ replicate more' None)

-- a fetch of the same leaf, in another room; of neither was anything read
pub record IsStillUnread (reading room : Reading) : Type 0 where
  pub arrival : room.arrival ≡ reading.arrival
  pub leaf : room.leaf ≡ reading.leaf
  pub none : (d : ℕ) → is_set_at reading.read d ≡ false
  pub none_too : (d : ℕ) → is_set_at room.read d ≡ false

-- A fetch may get another room as long as nothing was read.
abbrev pub RoomShows : Type 0
RoomShows = (ms : List Move) (key : List ℕ) (h : History) (tree : TreeState) (fetches : List (Option Reading)) (stores : List (Option Sending)) (i : ℕ) (reading room : Reading)
    → Shows ms key h tree fetches stores → row_at fetches i ≡ Some reading → IsStillUnread reading room → Shows ms key h tree (slice_set fetches i (Some room)) stores

-- An arrival is one move.
abbrev pub ArrivesShows : Type 0
ArrivesShows = (ms : List Move) (key : List ℕ) (old new : History) (tree : TreeState) (fetches fetches' : List (Option Reading)) (stores : List (Option Sending))
    (client : ℕ) (op : Op) (word : ℕ) (reading : Reading) → Shows ms key old tree fetches stores → Arriving old new client op word reading fetches fetches'
    → Shows (Arrives client op word ∷ ms) key new tree fetches' stores

-- So is a read of one node.
abbrev pub ServesShows : Type 0
ServesShows = (ms : List Move) (key : List ℕ) (h : History) (tree : TreeState) (fetches fetches' : List (Option Reading)) (stores : List (Option Sending))
    (i d : ℕ) (reading : Reading) → Shows ms key h tree fetches stores → Serving h.opening.shape tree i d reading fetches fetches'
    → Shows (Serves i (node_at h.opening.shape.l reading.leaf d) ∷ ms) key h tree fetches' stores

-- So is a whole path that reaches the proxy, with or without a write-back.
abbrev pub CompletesShows : Type 0
CompletesShows = (ms : List Move) (key : List ℕ) (old new : History) (tree : TreeState) (fetches fetches' : List (Option Reading)) (stores stores' : List (Option Sending))
    (i : ℕ) (reading : Reading) (order : Option Order) → Shows ms key old tree fetches stores → Completing key old new i reading order fetches fetches' stores stores'
    → Shows (Completes i ∷ ms) key new tree fetches' stores'

-- So is a write of one node, also if it is repeated.
abbrev pub AppliesShows : Type 0
AppliesShows = (ms : List Move) (key : List ℕ) (h : History) (tree tree' : TreeState) (fetches : List (Option Reading)) (stores stores' : List (Option Sending))
    (v j : ℕ) (sending : Sending) → Shows ms key h tree fetches stores → Applying h.opening.shape v j sending tree tree' stores stores'
    → Shows (Applies v (slice_index sending.order.nodes j) ∷ ms) key h tree' fetches stores'

-- So is an acknowledgement.
abbrev pub AcknowledgesShows : Type 0
AcknowledgesShows = (ms : List Move) (key : List ℕ) (old new : History) (tree : TreeState) (fetches : List (Option Reading)) (stores stores' : List (Option Sending))
    (v : ℕ) (sending : Sending) → Shows ms key old tree fetches stores → Acknowledging old new v sending stores stores'
    → Shows (Acknowledges v ∷ ms) key new tree fetches stores'

-- ---- what is shown

-- the bytes hold the latest version of a node, the very bucket that was written
pub record HoldsNewest (key : List ℕ) (h : History) (node : ℕ) (bytes : List ℕ) : Type 0 where
  pub bucket : Bucket
  pub newest : newest_write h.opening (reverse h.events) node ≡ Some bucket
  pub holds : Holds key h.opening.shape (newest_version (reverse h.events) node) (kept_tag key h.opening (reverse h.events) node) node bytes bucket

-- A path that was read whole holds the latest version of each node that the proxy doesn't hold.
pub record IsNewestAnswer (key : List ℕ) (h : History) (i : ℕ) (bytes : List ℕ) : Type 0 where
  pub depths : (d : ℕ) → d ≤ h.opening.shape.l → is_resident h.opening (reverse h.events) (node_at h.opening.shape.l (fetched_leaf h.opening (reverse h.events) i) d) ≡ false
      → HoldsNewest key h (node_at h.opening.shape.l (fetched_leaf h.opening (reverse h.events) i) d) (piece h.opening.shape bytes d)
  pub answered : IsAnswered key h i bytes
  pub honest : (taken : List Bucket) → AreFetched key h i bytes taken → Unaltered IsSameBucket h.opening (Done i taken ∷ reverse h.events)

-- So no answer is refused, and what is read from it keeps the answers honest.
abbrev pub AnswerIsNewest : Type 0
AnswerIsNewest = (ms : List Move) (key : List ℕ) (h : History) (tree : TreeState) (fetches : List (Option Reading)) (stores : List (Option Sending)) (i : ℕ) (reading : Reading)
    → Shows ms key h tree fetches stores → row_at fetches i ≡ Some reading → ((d : ℕ) → d ≤ h.opening.shape.l → is_set_at reading.read d ≡ true)
    → IsNewestAnswer key h i reading.bytes

-- A path of the tree, as the closing scan reads it: the latest version of each node that the proxy doesn't hold.
pub record IsNewestLeaf (key : List ℕ) (h : History) (leaf : ℕ) (bytes : List ℕ) : Type 0 where
  pub answered : IsLeafAnswered key h leaf bytes
  pub newest : (taken : List Bucket) → AreScanned key h leaf bytes taken → All (λ bucket. newest_write h.opening (reverse h.events) bucket.node ≡ Some bucket) taken

-- So no answer to the closing scan is refused.
abbrev pub LeafIsNewest : Type 0
LeafIsNewest = (ms : List Move) (key : List ℕ) (h : History) (tree : TreeState) (fetches : List (Option Reading)) (stores : List (Option Sending)) (leaf : ℕ)
    → Shows ms key h tree fetches stores → leaf < 2 ^ h.opening.shape.l → IsNewestLeaf key h leaf (path_bytes tree leaf)

-- Once all write-backs are acknowledged, the tree holds the latest version of every node.
abbrev pub TreeIsNewest : Type 0
TreeIsNewest = (ms : List Move) (key : List ℕ) (h : History) (tree : TreeState) (fetches : List (Option Reading)) (stores : List (Option Sending)) (node : ℕ)
    → Shows ms key h tree fetches stores → IsAllAcked (reverse h.events) → 1 ≤ node → node ≤ node_count h.opening.shape.l
    → (version_at tree node ≡ Some (newest_version (reverse h.events) node)) × HoldsNewest key h node (bytes_at tree node)

-- What a player shows is in step if the proxy wrote what it held.
abbrev pub ShowsInStep : Type 0
ShowsInStep = (ms : List Move) (key : List ℕ) (h : History) (tree : TreeState) (fetches : List (Option Reading)) (stores : List (Option Sending))
    → Shows ms key h tree fetches stores → WritesHeld h.opening (reverse h.events) → InStep key h tree fetches stores

-- honest in each sense that a store may have: in entries, without forgeries, with the tags, and in each sense that a test decides
pub record IsHonest (key : List ℕ) (h : History) : Type 0 where
  pub entries : Unaltered HasEntriesOf h.opening (reverse h.events)
  pub unforged : IsUnaltered key h
  pub tags : Unaltered (HasTagOf key h.opening.shape) h.opening (reverse h.events)
  pub by_test : (test : Bucket → Bucket → Bool) → ((bucket : Bucket) → test bucket bucket ≡ true) → Unaltered (λ x y. test x y ≡ true) h.opening (reverse h.events)

-- Answers that hold the very buckets that were written are honest in all these senses.
abbrev pub WholeIsHonest : Type 0
WholeIsHonest = (key : List ℕ) (h : History) → Unaltered IsSameBucket h.opening (reverse h.events) → IsHonest key h
