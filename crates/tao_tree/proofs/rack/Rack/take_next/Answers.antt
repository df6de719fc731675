use Rattle.std.proofs.Common.{◌∙◌, slice_get, sym, ap}
use Rattle.tao_tree.proofs.DoorLemmas.{first_waits, next_taken}
use Rattle.tao_tree.proofs.rack.Rack.take_next.Goals as goal

pub returns-clause-first : goal.returns-clause-first
returns-clause-first c =
    sym c.replace_at.ensures.out ∙ sym (first_waits c.self.inside.streams c.self.inside.accepted) ∙ ap (λ r. slice_get r.waiting 0) c.self.view_is

pub returns-clause-some : goal.returns-clause-some
returns-clause-some c stream is = next_taken _ _ _ _ _ _ c.self.view_is c.self.invariant.0 c.replace_at.ensures.items
