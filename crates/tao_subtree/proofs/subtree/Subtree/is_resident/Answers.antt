use Rattle.std.proofs.Common.{is_some, ap, ◌∙◌}
use Rattle.tao_subtree.specs.Residents.{SubtreeState, resident_at}
use Rattle.tao_subtree.proofs.StateLemmas.{found_held}
use Rattle.tao_subtree.proofs.subtree.Subtree.is_resident.Goals as goal

pub returns-clause-value : goal.returns-clause-value
returns-clause-value c =
    c.is_some.ensures ∙ found_held c.self.inside.slots c.args.node c.find.result c.find.ensures.sound c.find.ensures.slot
    ∙ ap (λ (state : SubtreeState). is_some (resident_at state c.args.node)) c.self.view_is
