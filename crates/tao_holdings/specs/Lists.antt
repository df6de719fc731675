-- The lists of residents as functions of the node, and what admitting and exchanging make of them.
use Rattle.std.specs.Prelude.{◌≡◌, ℕ, Bool, false, ◌==◌, if◌then◌else◌, map, List, [], ◌∷◌, Option, Some, None, is_some, slice_set, IfSome, ⊤}
use Rattle.std.specs.List.{slice_index_or, list_any}
use Rattle.std.specs.Option.{option_map}
use Rattle.tao_base.specs.declared.storage.Bucket.{Bucket}
use Rattle.tao_base.specs.declared.storage.Entry.{Entry}
use Rattle.tao_base.specs.Limits.{Shape}
use Rattle.tao_flush.specs.Paths.{with_lists}
use Rattle.tao_base.specs.Buckets.{IsInForm}
use Rattle.tao_model.specs.Placement.{entries_at}
use Rattle.tao_model.specs.Trace.{nodes_in}
use Rattle.tao_holdings.specs.Holding.{entries_of}

-- what a node has in a list of residents
abbrev pub entries_in : List (Option Bucket) → ℕ → List Entry
entries_in nodes w = entries_of (slice_index_or nodes w None)

-- whether a node is a resident
abbrev pub held_in : List (Option Bucket) → ℕ → Bool
held_in nodes w = is_some (slice_index_or nodes w None)

-- each bucket is that of its node, in form
abbrev pub AreNodes : Shape → List (Option Bucket) → Type 0
AreNodes s nodes = (w : ℕ) → IfSome (slice_index_or nodes w None) (λ bucket. (bucket.node ≡ w) × IsInForm s bucket)

-- the residents after these buckets are admitted, the last one first
abbrev pub with_taken : List (Option Bucket) → List Bucket → List (Option Bucket)
with_taken nodes [] = nodes
with_taken nodes (bucket ∷ buckets) = slice_set (with_taken nodes buckets) bucket.node (Some bucket)

-- these buckets are of nodes that aren't resident, no two of the same node
abbrev pub AreAway : List (Option Bucket) → List Bucket → Type 0
AreAway nodes [] = ⊤
AreAway nodes (bucket ∷ buckets) = (is_some (slice_index_or (with_taken nodes buckets) bucket.node None) ≡ false) × AreAway nodes buckets

-- the bucket of node w, where these nodes get these lists, one each
abbrev pub relisted : List ℕ → List (List Entry) → ℕ → Bucket → Bucket
relisted nodes lists w bucket = record bucket { entries = with_lists nodes lists (λ v. bucket.entries) w }

-- of the residents, these nodes have these lists in the place of theirs
abbrev pub Relists : List ℕ → List (List Entry) → List (Option Bucket) → List (Option Bucket) → Type 0
Relists nodes lists old new = (w : ℕ) → slice_index_or new w None ≡ option_map (relisted nodes lists w) (slice_index_or old w None)

-- the bucket with the entries that its node has
abbrev pub with_entries_of : (ℕ → List Entry) → Bucket → Bucket
with_entries_of contents bucket = record bucket { entries = contents bucket.node }

-- the entries of each bucket
abbrev pub lists_in : List Bucket → List (List Entry)
lists_in buckets = map (λ bucket. bucket.entries) buckets

-- what the nodes have, where the nodes of these buckets have the buckets' entries
abbrev pub with_buckets : List Bucket → (ℕ → List Entry) → ℕ → List Entry
with_buckets buckets contents w = if list_any (λ v. v == w) (nodes_in buckets) then entries_at buckets w else contents w
