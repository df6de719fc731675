-- The moves of a session, and the versions that they leave at the server. Moves and events are newest first.
use Rattle.std.specs.Prelude.{ℕ, ◌==◌, max, Bool, false, ◌&&◌, ◌||◌, if◌then◌else◌, List, [], ◌∷◌}
use Rattle.tao_base.specs.declared.calls.Op.{Op}
use Rattle.tao_base.specs.declared.calls.Op.TheVariants.{Pad}
use Rattle.tao_base.specs.declared.session.Event.{Event}
use Rattle.tao_base.specs.declared.session.Event.TheVariants.{Arrive, Done, Issue, Acked, Fault}
use Rattle.tao_model.specs.Trace.{nodes_in}

-- A move: a client asks, with a tape word; the server reads a node for a fetch; a fetch's whole path reaches the proxy;
-- the server applies a node of a version; a version's acknowledgement reaches the proxy.
pub data Move : Type 0 where
  Arrives : ℕ → Op → ℕ → Move
  Serves : ℕ → ℕ → Move
  Completes : ℕ → Move
  Applies : ℕ → ℕ → Move
  Acknowledges : ℕ → Move

-- the server's version of a node: the greatest that was applied, or 0 for the load
abbrev pub server_version : List Move → ℕ → ℕ
server_version [] node = 0
server_version (Arrives client op word ∷ ms) node = server_version ms node
server_version (Serves fetch served ∷ ms) node = server_version ms node
server_version (Completes fetch ∷ ms) node = server_version ms node
server_version (Applies version applied ∷ ms) node = if applied == node then max version (server_version ms node) else server_version ms node
server_version (Acknowledges version ∷ ms) node = server_version ms node

-- whether the server read this node for this fetch
abbrev pub is_served : List Move → ℕ → ℕ → Bool
is_served [] i node = false
is_served (Arrives client op word ∷ ms) i node = is_served ms i node
is_served (Serves fetch served ∷ ms) i node = ((fetch == i) && (served == node)) || is_served ms i node
is_served (Completes fetch ∷ ms) i node = is_served ms i node
is_served (Applies version applied ∷ ms) i node = is_served ms i node
is_served (Acknowledges version ∷ ms) i node = is_served ms i node

-- the server's version of the node when it read it for this fetch, or 0
abbrev pub served_version : List Move → ℕ → ℕ → ℕ
served_version [] i node = 0
served_version (Arrives client op word ∷ ms) i node = served_version ms i node
served_version (Serves fetch served ∷ ms) i node = if (fetch == i) && (served == node) then server_version ms node else served_version ms i node
served_version (Completes fetch ∷ ms) i node = served_version ms i node
served_version (Applies version applied ∷ ms) i node = served_version ms i node
served_version (Acknowledges version ∷ ms) i node = served_version ms i node

-- whether the server applied this node of this version
abbrev pub is_applied : List Move → ℕ → ℕ → Bool
is_applied [] v node = false
is_applied (Arrives client op word ∷ ms) v node = is_applied ms v node
is_applied (Serves fetch served ∷ ms) v node = is_applied ms v node
is_applied (Completes fetch ∷ ms) v node = is_applied ms v node
is_applied (Applies version applied ∷ ms) v node = ((version == v) && (applied == node)) || is_applied ms v node
is_applied (Acknowledges version ∷ ms) v node = is_applied ms v node

-- the nodes of the write-back of this version
abbrev pub nodes_issued : List Event → ℕ → List ℕ
nodes_issued [] v = []
nodes_issued (Arrive client op word ∷ es) v = nodes_issued es v
nodes_issued (Done arrival taken ∷ es) v = nodes_issued es v
nodes_issued (Issue version nonce buckets ∷ es) v = if version == v then nodes_in buckets else nodes_issued es v
nodes_issued (Acked version ∷ es) v = nodes_issued es v
nodes_issued (Fault cause ∷ es) v = nodes_issued es v

-- a move as the server sees it: of an arrival only the client
abbrev pub seen : Move → Move
seen (Arrives client op word) = Arrives client Pad 0
seen (Serves fetch node) = Serves fetch node
seen (Completes fetch) = Completes fetch
seen (Applies version node) = Applies version node
seen (Acknowledges version) = Acknowledges version
