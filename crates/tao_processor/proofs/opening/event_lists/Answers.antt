use Rattle.std.proofs.Common.{◌+◌, ◌≤◌, subst, refl, vec_capacity}
use Rattle.tao_processor.proofs.Looked.{rooms_at_start}
use Rattle.tao_processor.proofs.opening.event_lists.Goals as goal

pub returns-clause-rooms : goal.returns-clause-rooms
returns-clause-rooms c = rooms_at_start c.in_ok-rooms.ensures.each c.in_ok-rooms.ensures.enough c.in_ok-taken.ensures.items (subst (λ l. l + 1 ≤ vec_capacity c.in_ok-taken.taken) c.l.ensures.value c.in_ok-taken.ensures.capacity) refl
