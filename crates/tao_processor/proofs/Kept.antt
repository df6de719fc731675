-- What one more event keeps of the invariant.
use Rattle.std.proofs.Common.{◌≡◌, false, List, [], ◌∷◌, ◌++◌, reverse, sym, ◌∙◌, subst}
use Rattle.std.specs.List.{list_any}
use Rattle.tao_base.specs.declared.session.Cause.{Cause}
use Rattle.tao_base.specs.declared.session.Event.{Event}
use Rattle.tao_base.specs.declared.session.Event.TheVariants.{Fault}
use Rattle.tao_base.specs.Session.{Opening, History, is_fault}
use Rattle.tao_base.specs.Limits.{Shape}
use Rattle.tao_model.specs.Events.{has_fault, arrived, dones, issues, acks}
use Rattle.tao_model.specs.Lawful.{FollowsLawfully, MayFollow}
use Rattle.tao_model.specs.OneMore.{with_one_more}
use Rattle.tao_model.proofs.EndingFaults.{faults_agree}
use Rattle.tao_model.proofs.Stays.{newest_first}
use Rattle.tao_held.specs.Held.{held, WritesHeld}
use Rattle.tao_tables.specs.Tables.{TellsNodes}
use Rattle.tao_holdings.specs.Holding.{HoldingsState, is_held, contents_in, count_in, touch_in, version_in}
use Rattle.tao_tables.specs.Pools.{HasPools}
use Rattle.tao_record.specs.State.{RecordState, added}
use Rattle.tao_requests.proofs.Followed.{follows_further}
use Rattle.tao_processor.specs.Groups.{Parts, IsProcessor, KeepsRecord, NodesAre, pools_of}
use Rattle.tao_tables.proofs.KeptFlags.{flags_are_told}
use Rattle.tao_tables.proofs.KeptRows.{rows_are_told, positions_are_told}
use Rattle.tao_tables.proofs.KeptAnswers.{served_else}
use Rattle.tao_tables.proofs.KeptWrites.{writes_are_told}
use Rattle.tao_tables.proofs.ProxySteps.{follows_on}
use Rattle.tao_processor.proofs.TagsKept.{tags_go_on}

-- a record stays lawful, and its write-backs true
pub record_more : (p : Shape) (h : History) (e : Event) → KeepsRecord p h → has_fault (reverse h.events) ≡ false → MayFollow h.opening (reverse h.events) e
    → WritesHeld h.opening (e ∷ reverse h.events) → KeepsRecord p (record h { events = h.events ++ e ∷ [] })
record_more p h e keeps running may writes = record {
  shape = keeps.shape;
  proxy = record {
    opens = keeps.proxy.opens;
    follows = follows_on h.opening h.events e keeps.proxy.follows running may;
    writes = subst (λ es. WritesHeld h.opening es) (sym (newest_first h.events e)) writes;
  };
}

-- the session isn't over, as the record's condition says it
pub no_fault : (events : List Event) → has_fault (reverse events) ≡ false → list_any is_fault events ≡ false
no_fault events none = faults_agree events ∙ none

fault_core : {x : Parts} (cause : Cause) → IsProcessor x → has_fault (reverse x.session.history.events) ≡ false
    → MayFollow x.session.history.opening (reverse x.session.history.events) (Fault cause) → IsProcessor (record x { session = added x.session (Fault cause) })
unfolding held
fault_core {x} cause is running may = record {
  record_is = record_more x.shape x.session.history (Fault cause) is.record_is running may is.record_is.proxy.writes;
  held_is = record {
    shape = is.held_is.shape;
    nodes = subst (λ es. NodesAre o es x.holdings) (sym (newest_first events (Fault cause))) (record {
      residents = is.held_is.nodes.residents;
      contents = is.held_is.nodes.contents;
      counts = is.held_is.nodes.counts;
      touches = is.held_is.nodes.touches;
      versions = is.held_is.nodes.versions;
    });
    positions = (positions_are_told o events x.holdings.words is.held_is.positions).fault cause;
  };
  asked = record {
    shape = is.asked.shape;
    follows = (follows_further events x.requests.requests is.asked.follows).fault cause;
    served = (served_else o events x.requests.requests is.asked.follows is.asked.served).fault cause lawful;
  };
  flags = (flags_are_told o events x.done_flags x.acked_flags is.flags).fault cause;
  fetched = (rows_are_told o events x.row_count _ _ is.fetched).fault cause;
  writes = (writes_are_told o events x.recent x.places x.done_count x.issue_count x.ack_count x.next_nonce is.writes).fault cause;
  tagged = (tags_go_on x.key o events x.tags is.tagged).fault cause;
  pools = subst (λ es. HasPools x.shape x.ready (arrived es) (dones es) (issues es) (acks es) (pools_of x)) (sym (newest_first events (Fault cause))) is.pools;
  blocks = is.blocks;
  order_rooms = is.order_rooms;
  rooms_are = is.rooms_are;
  recent_fits = is.recent_fits;
  written_fits = is.written_fits;
  written_empty = is.written_empty;
}
  where
    o : Opening
    o = x.session.history.opening

    events : List Event
    events = x.session.history.events

    lawful : FollowsLawfully o (with_one_more events (Fault cause))
    lawful = follows_on o events (Fault cause) is.record_is.proxy.follows running may

pub fault_keeps : {x : Parts} {session : RecordState} (cause : Cause) → session ≡ added x.session (Fault cause) → IsProcessor x → has_fault (reverse x.session.history.events) ≡ false
    → MayFollow x.session.history.opening (reverse x.session.history.events) (Fault cause) → IsProcessor (record x { session = session })
fault_keeps {x} cause same is running may = subst (λ (r : RecordState). IsProcessor (record x { session = r })) (sym same) (fault_core {x = x} cause is running may)

-- the tables, if only the nodes differ
pub nodes_with : (o : Opening) (es : List Event) (old new : HoldingsState) → new ≡ record old { nodes = new.nodes }
    → TellsNodes o es (λ w. is_held new w) (λ w. contents_in new w) (λ w. count_in old w) (λ w. touch_in old w) (λ w. version_in old w) → NodesAre o es new
nodes_with o es old new others tells =
    subst (λ (st : HoldingsState). TellsNodes o es (λ w. is_held new w) (λ w. contents_in new w) (λ w. count_in st w) (λ w. touch_in st w) (λ w. version_in st w)) (sym others) tells
