use Rattle.tao_subtree.proofs.StateLemmas.{swapped_state}
use Rattle.tao_subtree.proofs.subtree.Subtree.swap_entries.Goals as goal

pub returns-clause-state : goal.returns-clause-state
returns-clause-state c =
    swapped_state c.self.inside.p c.self.inside.slots c.swap_entries.new.self c.self.inside.counts.items c.self.inside.touches.items c.self.inside.versions.items c.args.self.now c.args.node c.in-Some.slot c.args.entries.now c.swap_entries.new.entries
    c.self.view_is c.find.ensures.sound c.in-Some.ensures.slot c.swap_entries.ensures.map
