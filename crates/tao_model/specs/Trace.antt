-- The request trace: all that the server sees of a record. It has no operations and no contents.
use Rattle.std.specs.List.{flat_map}
use Rattle.std.specs.Prelude.{ℕ, ◌==◌, Bool, if◌then◌else◌, List, [], ◌∷◌, ◌++◌, map, reverse}
use Rattle.tao_base.specs.declared.session.Event.{Event}
use Rattle.tao_base.specs.declared.session.Event.TheVariants.{Arrive, Done, Issue, Acked, Fault}
use Rattle.tao_base.specs.declared.storage.Bucket.{Bucket}
use Rattle.tao_base.specs.Session.{Opening, History}
use Rattle.tao_base.specs.Tree.{node_count}
use Rattle.tao_model.specs.declared.trace.Request.{Request}
use Rattle.tao_model.specs.declared.trace.Request.TheVariants.{Load, Fetch, Store, Again, Scan}
use Rattle.tao_model.specs.Events.{arrived}
use Rattle.tao_model.specs.Requests.{fetched_leaf}

-- the nodes of these buckets, in their order
abbrev pub nodes_in : List Bucket → List ℕ
nodes_in buckets = map (λ bucket. bucket.node) buckets

-- the requests of the events, oldest first; the events themselves are newest first
abbrev pub requests : Opening → List Event → List Request
requests o [] = Load (node_count o.shape.l) ∷ []
requests o (Arrive client op word ∷ es) = requests o es ++ Fetch (arrived es) (fetched_leaf o (Arrive client op word ∷ es) (arrived es)) ∷ []
requests o (Done arrival taken ∷ es) = requests o es
requests o (Issue version nonce buckets ∷ es) = requests o es ++ Store version nonce (nodes_in buckets) ∷ []
requests o (Acked version ∷ es) = requests o es
requests o (Fault cause ∷ es) = requests o es

-- the repeated store of a version
abbrev pub again_of : List Event → ℕ → List Request
again_of [] v = []
again_of (Arrive client op word ∷ es) v = again_of es v
again_of (Done arrival taken ∷ es) v = again_of es v
again_of (Issue version nonce buckets ∷ es) v = if version == v then Again version nonce (nodes_in buckets) ∷ [] else again_of es v
again_of (Acked version ∷ es) v = again_of es v
again_of (Fault cause ∷ es) v = again_of es v

-- the trace of a record: `again` are the versions whose stores were sent again, and the flag says whether the tree was scanned
abbrev pub request_trace : History → List ℕ → Bool → List Request
request_trace h again scanned =
    (requests h.opening (reverse h.events) ++ flat_map (again_of (reverse h.events)) again) ++ (if scanned then Scan ∷ [] else [])
