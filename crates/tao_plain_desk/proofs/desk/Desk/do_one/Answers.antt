use Rattle.std.proofs.Common.{◌∙◌, ◌+◌, ◌<◌, sym, ap, subst, slice_index}
use Rattle.tao_base.specs.Limits.{session_limit}
use Rattle.tao_model.specs.Lawful.{IsInRange}
use Rattle.tao_plain_desk.specs.Whole.{DeskState, PlaysOne, arrivals_of}
use Rattle.tao_plain_desk.proofs.DeskStep.{server_empty, gathered_ready, stored_nodes, do_one_step, plays_one, desk_sound, word_there, word_taken}
use Rattle.tao_plain_desk.proofs.desk.Desk.do_one.Goals as goal

pub gather_to-requires-clause-server_empty : goal.gather_to-requires-clause-server_empty
gather_to-requires-clause-server_empty c = rw c.as_slice-3.ensures (server_empty _ _ _ _ _ _ _ c.self.invariant.1)

pub add_four-requires-clause-path : goal.add_four-requires-clause-path
add_four-requires-clause-path c =
    (gathered_ready _ _ _ _ _ _ _ _ _ _ _ _ c.self.invariant.0 c.make_room.ensures.history c.self.invariant.1 c.leaf_of-leaf.ensures.small c.as_slice-3.ensures c.gather_to.ensures).0

pub add_four-requires-clause-empty : goal.add_four-requires-clause-empty
add_four-requires-clause-empty c =
    (gathered_ready _ _ _ _ _ _ _ _ _ _ _ _ c.self.invariant.0 c.make_room.ensures.history c.self.invariant.1 c.leaf_of-leaf.ensures.small c.as_slice-3.ensures c.gather_to.ensures).1.0

pub store_to-requires-clause-nodes : goal.store_to-requires-clause-nodes
store_to-requires-clause-nodes c = λ k d h.
    (stored_nodes _ _ _ _ _ _ _ _ _ _ _ _ _ _ _ _ c.self.invariant.0 c.make_room.ensures.history c.self.invariant.1 c.leaf_of-leaf.ensures.small c.as_slice-3.ensures c.gather_to.ensures
    c.add_four.ensures.stamped c.as_slice-4.ensures k d h).1

pub store_to-requires-clause-low : goal.store_to-requires-clause-low
store_to-requires-clause-low c = λ k d h.
    (stored_nodes _ _ _ _ _ _ _ _ _ _ _ _ _ _ _ _ c.self.invariant.0 c.make_room.ensures.history c.self.invariant.1 c.leaf_of-leaf.ensures.small c.as_slice-3.ensures c.gather_to.ensures
    c.add_four.ensures.stamped c.as_slice-4.ensures k d h).0

pub store_to-requires-clause-server_empty : goal.store_to-requires-clause-server_empty
store_to-requires-clause-server_empty c = server_empty _ _ _ _ _ _ _ c.self.invariant.1

pub invariant_of-self-2 : goal.invariant_of-self-2
invariant_of-self-2 c =
    let opening = c.add_four.ensures.opening ∙ ap (λ h. h.opening) c.make_room.ensures.history in
    let arrived = (c.self.invariant.1).quiet.arrived in
    let room : c.self.inside.arrivals < session_limit c.self.inside.session.history.opening.shape =
    subst (λ k. k < session_limit c.self.inside.session.history.opening.shape) arrived
    (subst (λ (d : DeskState). arrivals_of d.history < session_limit d.history.opening.shape) (sym c.self.view_is) c.in-None.ensures.room) in
    let range : IsInRange c.self.inside.session.history.opening.shape c.args.op =
    subst (λ (d : DeskState). IsInRange d.history.opening.shape c.args.op) (sym c.self.view_is) c.in-None.ensures.range in (
      c.self.invariant.0 ∙ sym (ap (λ o. o.shape) opening),
      do_one_step _ _ _ _ _ _ _ _ _ _ _ _ _ _ _ _ _ _ _ _ _ _ _ c.self.invariant.0 c.make_room.ensures.history c.self.invariant.1
          (record { room = room; client = c.requires.client; range = range })
          c.take_place.ensures.word c.leaf_of-leaf.ensures.value c.first_nonce-nonce.ensures.value c.as_slice-3.ensures c.gather_to.ensures c.add_four.ensures.opening
          c.add_four.ensures.events c.add_four.ensures.stamped c.add_four.ensures.len c.as_slice-4.ensures c.store_to.ensures.stores c.store_to.ensures.len
          c.exchange-value.ensures.step c.take_place.ensures.places,
    )

pub returns-clause-events : goal.returns-clause-events
returns-clause-events c =
    subst (λ (d : DeskState). PlaysOne d.history c.add_four.new.session.history c.args.client c.args.op (slice_index d.tape (d.history.opening.shape.n + arrivals_of d.history)))
    c.self.view_is
    (plays_one _ _ _ _ _ _ _ _ _ _ _ _ _ _ _ _ _ _ _ c.self.invariant.0 c.make_room.ensures.history c.self.invariant.1 c.leaf_of-leaf.ensures.small
    c.as_slice-3.ensures c.gather_to.ensures c.n.ensures.value c.as_slice-2.ensures c.add_four.ensures.opening c.add_four.ensures.events c.add_four.ensures.stamped)

pub returns-clause-sound : goal.returns-clause-sound
returns-clause-sound c = desk_sound _ _ _ _ _ _ _ (invariant_of-self-2 c).1

-- a word of the tape is left for this arrival, and then is used
pub bounds-as_slice-n : goal.bounds-as_slice-n
bounds-as_slice-n c =
    word_there _ _ _ _ _ _ _ c.self.view_is c.requires.word c.self.invariant.0 c.n.ensures.value ((c.self.invariant.1).quiet.arrived) c.as_slice-2.ensures

pub returns-clause-left : goal.returns-clause-left
returns-clause-left c =
    word_taken _ _ _ _ _ c.self.view_is c.requires.word ((c.self.invariant.1).quiet.arrived) (c.add_four.ensures.opening ∙ ap (λ h. h.opening) c.make_room.ensures.history)
    ((invariant_of-self-2 c).1.quiet.arrived)

pub returns-clause-count : goal.returns-clause-count
returns-clause-count c =
    (invariant_of-self-2 c).1.quiet.arrived ∙ ap (λ k. k + 1) (sym ((c.self.invariant.1).quiet.arrived) ∙ ap (λ (d : DeskState). arrivals_of d.history) c.self.view_is)
