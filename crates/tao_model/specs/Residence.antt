-- Which nodes the proxy holds, and the latest version of each. The events are newest first.
use Rattle.std.specs.Prelude.{◌≡◌, ℕ, ◌+◌, ◌*◌, ◌==◌, nat_lt, Bool, false, not, ◌&&◌, ◌||◌, if◌then◌else◌, List, [], ◌∷◌, Option, IfSome, All, ⊤, is_some}
use Rattle.std.specs.List.{find}
use Rattle.std.specs.Option.{option_or}
use Rattle.tao_base.specs.declared.session.Event.{Event}
use Rattle.tao_base.specs.declared.session.Event.TheVariants.{Arrive, Done, Issue, Acked, Fault}
use Rattle.tao_base.specs.declared.storage.Bucket.{Bucket}
use Rattle.tao_base.specs.Session.{Opening}
use Rattle.tao_model.specs.Events.{arrived, dones, is_done}
use Rattle.tao_model.specs.Requests.{any_below, fetches}

-- the number of the last Done whose path has the node, or 0
abbrev pub last_touch : Opening → List Event → ℕ → ℕ
last_touch o [] node = 0
last_touch o (Arrive client op word ∷ es) node = last_touch o es node
last_touch o (Done arrival taken ∷ es) node = if fetches o es arrival node then dones es + 1 else last_touch o es node
last_touch o (Issue version nonce buckets ∷ es) node = last_touch o es node
last_touch o (Acked version ∷ es) node = last_touch o es node
last_touch o (Fault cause ∷ es) node = last_touch o es node

-- the bucket of a node in a list of buckets
abbrev pub bucket_of : ℕ → List Bucket → Option Bucket
bucket_of node buckets = find (λ bucket. bucket.node == node) buckets

-- whether the write-back of this version has the node
abbrev pub is_issued : List Event → ℕ → ℕ → Bool
is_issued [] v node = false
is_issued (Arrive client op word ∷ es) v node = is_issued es v node
is_issued (Done arrival taken ∷ es) v node = is_issued es v node
is_issued (Issue version nonce buckets ∷ es) v node = ((version == v) && is_some (bucket_of node buckets)) || is_issued es v node
is_issued (Acked version ∷ es) v node = is_issued es v node
is_issued (Fault cause ∷ es) v node = is_issued es v node

-- whether a fetch under way has the node on its path
abbrev pub is_covered : Opening → List Event → ℕ → Bool
is_covered o es node = any_below (λ i. not (is_done es i) && fetches o es i node) (arrived es)

-- Whether the acknowledgement of this version lets the node go: the version has it, no later Done touched it, and no fetch covers it.
abbrev pub departs : Opening → List Event → ℕ → ℕ → Bool
departs o es v node = is_issued es v node && (not (nat_lt (v * o.shape.k) (last_touch o es node)) && not (is_covered o es node))

-- whether the proxy holds the node: a Done brings in its path, an acknowledgement lets nodes go
abbrev pub is_resident : Opening → List Event → ℕ → Bool
is_resident o [] node = false
is_resident o (Arrive client op word ∷ es) node = is_resident o es node
is_resident o (Done arrival taken ∷ es) node = is_resident o es node || fetches o es arrival node
is_resident o (Issue version nonce buckets ∷ es) node = is_resident o es node
is_resident o (Acked version ∷ es) node = is_resident o es node && not (departs o es version node)
is_resident o (Fault cause ∷ es) node = is_resident o es node

-- the latest version of a node: its bucket in the last write-back that has it, or the loaded one
abbrev pub newest_write : Opening → List Event → ℕ → Option Bucket
newest_write o [] node = bucket_of node o.loaded
newest_write o (Arrive client op word ∷ es) node = newest_write o es node
newest_write o (Done arrival taken ∷ es) node = newest_write o es node
newest_write o (Issue version nonce buckets ∷ es) node = option_or (bucket_of node buckets) (newest_write o es node)
newest_write o (Acked version ∷ es) node = newest_write o es node
newest_write o (Fault cause ∷ es) node = newest_write o es node

-- the number of that version, 0 for the load
abbrev pub newest_version : List Event → ℕ → ℕ
newest_version [] node = 0
newest_version (Arrive client op word ∷ es) node = newest_version es node
newest_version (Done arrival taken ∷ es) node = newest_version es node
newest_version (Issue version nonce buckets ∷ es) node = if is_some (bucket_of node buckets) then version else newest_version es node
newest_version (Acked version ∷ es) node = newest_version es node
newest_version (Fault cause ∷ es) node = newest_version es node

-- Honest answers: each fetched bucket is the `same` as the latest version of its node.
abbrev pub Unaltered : (Bucket → Bucket → Type 0) → Opening → List Event → Type 0
Unaltered same o [] = ⊤
Unaltered same o (Arrive client op word ∷ es) = Unaltered same o es
Unaltered same o (Done arrival taken ∷ es) = Unaltered same o es × All (λ bucket. IfSome (newest_write o es bucket.node) (same bucket)) taken
Unaltered same o (Issue version nonce buckets ∷ es) = Unaltered same o es
Unaltered same o (Acked version ∷ es) = Unaltered same o es
Unaltered same o (Fault cause ∷ es) = Unaltered same o es

-- the sense of an untagged store: equal entries
abbrev pub HasEntriesOf : Bucket → Bucket → Type 0
HasEntriesOf bucket written = bucket.entries ≡ written.entries
