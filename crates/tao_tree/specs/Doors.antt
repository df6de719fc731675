-- Doors in memory: the streams at their places, the links that are dialled, and what calls fail.
use Rattle.std.specs.Prelude.{◌≡◌, ◌⊎◌, ℕ, ◌+◌, ◌&&◌, Bool, false, nat_eq, List, [], ◌∷◌, ◌++◌, map, drop, slice_get, Option, Some, Contains}
use Rattle.std.specs.List.{filter, find}
use Rattle.std.specs.Option.{option_map}
use Rattle.tao_base.specs.Doors.{Handed}
use Rattle.tao_base.specs.Limits.{Shape, bucket_len}
use Rattle.tao_base.specs.Memory.{SourceState, SinkState}
use Rattle.tao_base.specs.Tree.{node_count}
use Rattle.tao_tree.specs.Forging.{LinkState, new_link}
use Rattle.tao_tree.specs.declared.forgeries.Forgery.{Forgery}

-- a stream in memory: its source and its sink
abbrev pub StreamPair : Type 0
StreamPair = SourceState × SinkState

-- how many streams were handed out, and how many taken back; those that wait, and those that are back
pub record RackState : Type 0 where
  pub accepted : ℕ
  pub returned : ℕ
  pub waiting : List StreamPair
  pub back : List StreamPair

-- what stands in a table under a number, in order
abbrev pub under : {X : Type 0} → ℕ → List (ℕ × X) → List X
under number table = map (λ e. e.1) (filter (λ e. nat_eq e.0 number) table)

-- the first that stands under a number
abbrev pub first_under : {X : Type 0} → ℕ → List (ℕ × X) → Option X
first_under number table = option_map (λ e. e.1) (find (λ e. nat_eq e.0 number) table)

-- The tree's parameters, the links and streams handed out and given back, the calls to fail and the answers to forge, a log's capacity in
-- calls and in buckets of stores, and how many calls of `listen` and `accept` there were and how many calls failed.
pub record DoorsState : Type 0 where
  pub shape : Shape
  pub links_out : ℕ
  pub hung : List (ℕ × LinkState)
  pub rack : RackState
  pub fails : List (ℕ × ℕ)
  pub forgeries : List (ℕ × Forgery)
  pub calls : ℕ
  pub nodes : ℕ
  pub listens : ℕ
  pub accepts : ℕ
  pub faults : ℕ

-- what these doors tell as all doors do
abbrev pub handed_by : DoorsState → Handed LinkState StreamPair
handed_by d = record {
  links_out = d.links_out;
  accepted = d.rack.accepted;
  returned = d.rack.returned;
  hung = Some d.hung;
  waiting = Some d.rack.waiting;
  back = Some d.rack.back;
}

-- a rack on which all streams wait
abbrev pub new_rack : List StreamPair → RackState
new_rack streams = record { accepted = 0; returned = 0; waiting = streams; back = [] }

-- the first stream that waits is handed out
abbrev pub without_first : RackState → RackState
without_first r = record r { accepted = r.accepted + 1; waiting = drop 1 r.waiting }

-- a stream is back at the next place
abbrev pub with_back : RackState → StreamPair → RackState
with_back r stream = record r { returned = r.returned + 1; back = r.back ++ stream ∷ [] }

-- the sink of the stream that is back at this place
abbrev pub sink_at : RackState → ℕ → Option SinkState
sink_at r place = option_map (λ stream. stream.1) (slice_get r.back place)

-- new doors: no link is out, and all streams wait
abbrev pub new_doors : Shape → List StreamPair → List (ℕ × ℕ) → ℕ → ℕ → DoorsState
new_doors s streams fails calls nodes = record {
  shape = s;
  links_out = 0;
  hung = [];
  rack = new_rack streams;
  fails = fails;
  forgeries = [];
  calls = calls;
  nodes = nodes;
  listens = 0;
  accepts = 0;
  faults = 0;
}

-- a tree of these parameters has the nodes and the bucket length that are asked for
abbrev pub leads_to : Shape → Shape → Bool
leads_to tree wanted = nat_eq (node_count tree.l) (node_count wanted.l) && nat_eq (bucket_len tree) (bucket_len wanted)

-- no link of this number is dialled for these parameters: that is listed as failing, or the tree is another
abbrev pub CannotDial : DoorsState → Shape → ℕ → Type 0
CannotDial d wanted link = Contains d.fails (link, 4294967295) ⊎ (leads_to d.shape wanted ≡ false)

-- the link that is dialled under a number: new, with its capacity, its failing calls and its forgeries
abbrev pub link_of : DoorsState → ℕ → LinkState
link_of d link = record (new_link d.shape (under link d.fails)) { room = d.calls; buckets = d.nodes; forgeries = under link d.forgeries }
