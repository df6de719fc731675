use Rattle.tao_holdings.proofs.Arrived.{arrives_away, arrived_sound, arrived_held, arrived_contents}
use Rattle.tao_holdings.proofs.holdings.Holdings.take_in.Goals as goal

pub take_all-requires-clause-away : goal.take_all-requires-clause-away
take_all-requires-clause-away c =
    arrives_away c.self.inside.p c.self.inside.subtree c.self.inside.subtree c.self.inside.stash c.self.inside.positions c.self.inside.lists.items c.self.invariant c.args.leaf c.args.taken.now.items
    c.args.self.now c.self.view_is c.requires.leaf c.requires.nodes

pub invariant_of-self : goal.invariant_of-self
invariant_of-self c =
    arrived_sound c.self.inside.p c.self.inside.subtree c.take_all.new.subtree c.self.inside.stash c.self.inside.positions c.self.inside.lists.items c.self.invariant c.args.leaf c.args.taken.now.items
    c.is_resident.ensures.places c.take_all.ensures.state c.args.self.now c.self.view_is c.requires.in_form c.take_all.ensures.kept

pub returns-clause-held : goal.returns-clause-held
returns-clause-held c =
    arrived_held c.self.inside.p c.self.inside.subtree c.take_all.new.subtree c.self.inside.stash c.self.inside.positions c.self.inside.lists.items c.self.invariant c.args.leaf c.args.taken.now.items
    c.is_resident.ensures.places c.take_all.ensures.state c.args.self.now c.self.view_is c.requires.nodes c.requires.in_form

pub returns-clause-contents : goal.returns-clause-contents
returns-clause-contents c =
    arrived_contents c.self.inside.p c.self.inside.subtree c.take_all.new.subtree c.self.inside.stash c.self.inside.positions c.self.inside.lists.items c.self.invariant c.args.leaf c.args.taken.now.items
    c.is_resident.ensures.places c.take_all.ensures.state c.args.self.now c.self.view_is c.requires.nodes c.requires.in_form
