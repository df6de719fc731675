-- How each move changes the record, the tree and the tables. Of each two, the second is what the change makes of the first.
use Rattle.std.specs.Prelude.{◌≡◌, ◌⊎◌, ℕ, ◌+◌, ◌-◌, ◌*◌, ◌<◌, ◌≤◌, true, false, if◌then◌else◌, List, ◌++◌, length, take, drop, reverse, replicate, slice_set, slice_index, Option, Some, None, ◌∷◌, []}
use Rattle.std.specs.List.{flat_map}
use Rattle.tao_base.specs.declared.calls.Op.{Op}
use Rattle.tao_base.specs.declared.session.Event.TheVariants.{Arrive, Acked}
use Rattle.tao_base.specs.declared.storage.Order.{Order}
use Rattle.tao_base.specs.Limits.{Shape, bucket_len}
use Rattle.tao_base.specs.Session.{Opening, History}
use Rattle.tao_base.specs.Tree.{node_at}
use Rattle.tao_base.specs.declared.storage.Bucket.{Bucket}
use Rattle.tao_bucket.specs.Encoding.{encoded, format_of}
use Rattle.tao_model.specs.Events.{arrived}
use Rattle.tao_model.specs.Requests.{fetched_leaf}
use Rattle.tao_model.specs.Lawful.{IsOpening, OpensWithLoad, IsLawful}
use Rattle.tao_images.specs.Answers.{with_event, AddsDone}
use Rattle.tao_images.specs.Paths.{piece}
use Rattle.tao_tree.specs.Nodes.{TreeState, empty_tree, bytes_at, applied, all_applied}
use Rattle.tao_world.specs.State.{Reading, Sending, is_set_at, row_at}

-- the buckets of a version one behind another, in that version's format
abbrev pub image_of : List ℕ → Shape → ℕ → List Bucket → List ℕ
image_of key s version buckets = flat_map (encoded key s (format_of s.form version)) buckets

-- A session opens: the load is applied to an empty tree, and no request is under way.
pub record Opens (key : List ℕ) (o : Opening) (tree : TreeState) : Type 0 where
  pub opening : IsOpening o
  pub opens : OpensWithLoad o
  pub loaded : tree ≡ all_applied (empty_tree o.shape) 0 (image_of key o.shape 0 o.loaded)

-- A table gets a row at a place: it is set there, or pushed if the table ends there.
abbrev pub PutsRow : {X : Type 0} → ℕ → X → List (Option X) → List (Option X) → Type 0
PutsRow place row rows rows' = ((place < length rows) × (rows' ≡ slice_set rows place (Some row))) ⊎ ((place ≡ length rows) × (rows' ≡ rows ++ Some row ∷ []))

-- An arrival gets a row with nothing read.
pub record Arriving (old new : History) (client : ℕ) (op : Op) (word : ℕ) (reading : Reading) (fetches fetches' : List (Option Reading)) : Type 0 where
  pub event : new ≡ with_event old (Arrive client op word)
  pub lawful : IsLawful new
  pub arrival : reading.arrival ≡ arrived (reverse old.events)
  pub leaf : reading.leaf ≡ fetched_leaf new.opening (reverse new.events) (arrived (reverse old.events))
  pub unread : (d : ℕ) → is_set_at reading.read d ≡ false
  pub row : PutsRow (arrived (reverse old.events)) reading fetches fetches'

-- these bytes with a bucket in place of bucket i
abbrev pub bucket_put : ℕ → List ℕ → ℕ → List ℕ → List ℕ
bucket_put len image i bucket = take (i * len) image ++ bucket ++ drop (i * len + len) image

-- the fetch with the bucket at a depth read
abbrev pub with_bucket : Shape → Reading → ℕ → List ℕ → Reading
with_bucket s reading d bucket = record reading { read = slice_set reading.read d true; bytes = bucket_put (bucket_len s) reading.bytes d bucket }

-- An unread bucket is read from the tree.
pub record Serving (s : Shape) (tree : TreeState) (i d : ℕ) (reading : Reading) (fetches fetches' : List (Option Reading)) : Type 0 where
  pub found : row_at fetches i ≡ Some reading
  pub depth : d ≤ s.l
  pub unread : is_set_at reading.read d ≡ false
  pub flags : length reading.read ≡ s.l + 1
  pub bytes : length reading.bytes ≡ (s.l + 1) * bucket_len s
  pub row : fetches' ≡ slice_set fetches i (Some (with_bucket s reading d (bytes_at tree (node_at s.l reading.leaf d))))

-- a new store: nothing of it is put
abbrev pub new_sending : Order → Sending
new_sending order = record { order = order; put = replicate (length order.nodes) false; left = length order.nodes }

-- the stores with that of an order, if there is one
abbrev pub AddsStore : Option Order → List (Option Sending) → List (Option Sending) → Type 0
AddsStore None stores stores' = stores' ≡ stores
AddsStore (Some order) stores stores' = PutsRow order.version (new_sending order) stores stores'

-- A path that was read whole is admitted, and its row is emptied. If a write-back follows, its store gets a row.
pub record Completing (key : List ℕ) (old new : History) (i : ℕ) (reading : Reading) (order : Option Order)
    (fetches fetches' : List (Option Reading)) (stores stores' : List (Option Sending)) : Type 0 where
  pub found : row_at fetches i ≡ Some reading
  pub whole : (d : ℕ) → d ≤ old.opening.shape.l → is_set_at reading.read d ≡ true
  pub done : AddsDone key old new i reading.bytes order
  pub lawful : IsLawful new
  pub row : fetches' ≡ slice_set fetches i None
  pub store : AddsStore order stores stores'

-- the store with its node j put
abbrev pub with_put : Sending → ℕ → Sending
with_put sending j = record sending { put = slice_set sending.put j true; left = if is_set_at sending.put j then sending.left else sending.left - 1 }

-- A bucket of a store is applied, perhaps again.
pub record Applying (s : Shape) (v j : ℕ) (sending : Sending) (tree tree' : TreeState) (stores stores' : List (Option Sending)) : Type 0 where
  pub found : row_at stores v ≡ Some sending
  pub within : j < length sending.order.nodes
  pub write : tree' ≡ applied tree v (slice_index sending.order.nodes j) (piece s sending.order.image j)
  pub row : stores' ≡ slice_set stores v (Some (with_put sending j))

-- A store of which nothing is left is acknowledged, and its row is emptied.
pub record Acknowledging (old new : History) (v : ℕ) (sending : Sending) (stores stores' : List (Option Sending)) : Type 0 where
  pub found : row_at stores v ≡ Some sending
  pub none_left : sending.left ≡ 0
  pub event : new ≡ with_event old (Acked v)
  pub lawful : IsLawful new
  pub row : stores' ≡ slice_set stores v None
