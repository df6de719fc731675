use Rattle.std.proofs.Common.{arith, ap, ◌∙◌}
use Rattle.tao_trace.proofs.Kept.{are_few}
use Rattle.tao_trace.proofs.tables.Tables.own_place.Goals as goal

pub overflow_cast-result : goal.overflow_cast-result
overflow_cast-result c =
    let few = (are_few _ _ _ _ _ c.self.invariant.arrivals).arrivals in
    let len = c.self.inside.told.ok.0 in
    let is = c.len.ensures in
    omega (arith, few, len, is)

pub overflow_add-result : goal.overflow_add-result
overflow_add-result c =
    let few = are_few _ _ _ _ _ c.self.invariant.arrivals in
    let arrivals = few.arrivals in
    let blocks = few.blocks in
    let len = c.self.inside.told.ok.0 in
    let is = c.len.ensures in
    let n = c.n.ensures.value ∙ ap (λ s. s.n) c.params.ensures.value in
    omega (arith, arrivals, blocks, len, is, n)
