-- What the server answers to fetches and to the closing scan, against a session's record: which answer is refused, and what is read from the others.
use Rattle.std.specs.Prelude.{◌≡◌, ℕ, Bool, not, ◌||◌, List, [], ◌∷◌, ◌++◌, filter, reverse, Option, Some, None}
use Rattle.std.specs.List.{flat_map, list_any, range_with_len}
use Rattle.std.specs.Option.{option_map_or}
use Rattle.tao_base.specs.declared.session.Cause.{Cause}
use Rattle.tao_base.specs.declared.session.Cause.TheVariants as causes
use Rattle.tao_base.specs.declared.session.Event.{Event}
use Rattle.tao_base.specs.declared.session.Event.TheVariants.{Done, Issue}
use Rattle.tao_base.specs.declared.storage.Bucket.{Bucket}
use Rattle.tao_base.specs.declared.storage.Order.{Order}
use Rattle.tao_base.specs.Session.{Opening, History}
use Rattle.tao_base.specs.Tree.{is_on_path, path}
use Rattle.tao_bucket.specs.Encoding.{tag_of}
use Rattle.tao_model.specs.Requests.{fetched_leaf}
use Rattle.tao_model.specs.Residence.{is_resident, newest_version, newest_write, Unaltered}
use Rattle.tao_images.specs.declared.nodes.Refused.{Refused}
use Rattle.tao_images.specs.declared.nodes.Refused.TheVariants.{Damaged, Stale}
use Rattle.tao_images.specs.Honesty.{IsUnforged}
use Rattle.tao_images.specs.Orders.{IsOrderOf}
use Rattle.tao_images.specs.Paths.{path_refusal, buckets_read, AreReadFrom, HoldsLatest}

-- ---- what is known of the nodes

-- the tag of a node's latest version, which the proxy keeps
abbrev pub kept_tag : List ℕ → Opening → List Event → ℕ → List ℕ
kept_tag key o es node = option_map_or (tag_of key o.shape) (newest_write o es node) []

-- whether the path of a smaller leaf has the node
abbrev pub is_met : ℕ → ℕ → ℕ → Bool
is_met l leaf node = list_any (λ smaller. is_on_path l smaller node) (range_with_len 0 leaf)

-- the nodes of a leaf's path that no smaller leaf's path has, root first
abbrev pub first_met : ℕ → ℕ → List ℕ
first_met l leaf = filter (λ node. not (is_met l leaf node)) (path l leaf)

-- the nodes on the paths of the first leaves, so many, in the order in which a scan meets them
abbrev pub visited : ℕ → ℕ → List ℕ
visited l count = flat_map (first_met l) (range_with_len 0 count)

-- whether the scan reads nothing from this leaf's path for the node: the proxy holds it, or a smaller leaf's path has it
abbrev pub is_passed : Opening → List Event → ℕ → ℕ → Bool
is_passed o es leaf node = is_resident o es node || is_met o.shape.l leaf node

-- ---- answers

-- the first refusal of the answer to an arrival's fetch
abbrev pub fetch_refusal : List ℕ → History → ℕ → List ℕ → Option Refused
fetch_refusal key h i path =
    path_refusal key h.opening.shape (is_resident h.opening (reverse h.events)) (newest_version (reverse h.events)) (kept_tag key h.opening (reverse h.events))
    (fetched_leaf h.opening (reverse h.events) i) path

-- the first refusal of the answer to the closing scan at a leaf
abbrev pub leaf_refusal : List ℕ → History → ℕ → List ℕ → Option Refused
leaf_refusal key h leaf path =
    path_refusal key h.opening.shape (is_passed h.opening (reverse h.events) leaf) (newest_version (reverse h.events)) (kept_tag key h.opening (reverse h.events)) leaf path

-- the answer to an arrival's fetch holds the latest version of each node that the proxy doesn't hold
abbrev pub IsAnswered : List ℕ → History → ℕ → List ℕ → Type 0
IsAnswered key h i path =
    HoldsLatest key h.opening.shape (is_resident h.opening (reverse h.events)) (newest_version (reverse h.events)) (kept_tag key h.opening (reverse h.events))
    (fetched_leaf h.opening (reverse h.events) i) path

-- the answer to the closing scan at a leaf holds the latest version of each node that is read there
abbrev pub IsLeafAnswered : List ℕ → History → ℕ → List ℕ → Type 0
IsLeafAnswered key h leaf path =
    HoldsLatest key h.opening.shape (is_passed h.opening (reverse h.events) leaf) (newest_version (reverse h.events)) (kept_tag key h.opening (reverse h.events)) leaf path

-- the buckets that are read from the answer to an arrival's fetch, root first
abbrev pub buckets_fetched : List ℕ → History → ℕ → List ℕ → List Bucket
buckets_fetched key h i path = buckets_read key h.opening.shape (is_resident h.opening (reverse h.events)) (fetched_leaf h.opening (reverse h.events) i) path

-- the buckets that are read from the answer to the closing scan at a leaf, root first
abbrev pub buckets_scanned : List ℕ → History → ℕ → List ℕ → List Bucket
buckets_scanned key h leaf path = buckets_read key h.opening.shape (is_passed h.opening (reverse h.events) leaf) leaf path

-- these are the latest versions of the nodes that the proxy doesn't hold, read from the answer to an arrival's fetch
abbrev pub AreFetched : List ℕ → History → ℕ → List ℕ → List Bucket → Type 0
AreFetched key h i path buckets =
    AreReadFrom key h.opening.shape (is_resident h.opening (reverse h.events)) (newest_version (reverse h.events)) (kept_tag key h.opening (reverse h.events))
    (fetched_leaf h.opening (reverse h.events) i) path buckets

-- these are the latest versions of the nodes that are read at a leaf, read from the answer to the closing scan
abbrev pub AreScanned : List ℕ → History → ℕ → List ℕ → List Bucket → Type 0
AreScanned key h leaf path buckets =
    AreReadFrom key h.opening.shape (is_passed h.opening (reverse h.events) leaf) (newest_version (reverse h.events)) (kept_tag key h.opening (reverse h.events)) leaf path buckets

-- ---- the record

-- the record with one more event
abbrev pub with_event : History → Event → History
with_event h e = record h { events = h.events ++ e ∷ [] }

-- the cause of the end of a session in which the answer to this fetch was refused
abbrev pub cause_of : ℕ → Refused → Cause
cause_of fetch (Damaged node fault) = causes.Damaged fetch node fault
cause_of fetch (Stale node wanted found) = causes.Stale fetch node wanted found

-- An answer adds the Done of its arrival with the buckets read from it, and then the write-back of the order, where there is one.
abbrev pub AddsDone : List ℕ → History → History → ℕ → List ℕ → Option Order → Type 0
AddsDone key old new i path None = (taken : List Bucket) × AreFetched key old i path taken × (new ≡ with_event old (Done i taken))
AddsDone key old new i path (Some order) =
    (taken : List Bucket) × (buckets : List Bucket) × AreFetched key old i path taken × IsOrderOf key old.opening.shape order.version order.nonce buckets order
    × (new ≡ with_event (with_event old (Done i taken)) (Issue order.version order.nonce buckets))

-- honest answers, as far as tags tell: no fetched bucket is a forgery of its node's latest version
abbrev pub IsUnaltered : List ℕ → History → Type 0
IsUnaltered key h = Unaltered (IsUnforged key h.opening.shape) h.opening (reverse h.events)
