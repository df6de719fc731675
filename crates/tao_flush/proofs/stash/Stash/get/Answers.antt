use Rattle.std.proofs.Common.{sym}
use Rattle.tao_flush.proofs.RisingLists.{finds, look_missing}
use Rattle.tao_flush.proofs.stash.Stash.get.Goals as goal

pub returns-in-Ok-clause-value : goal.returns-in-Ok-clause-value
returns-in-Ok-clause-value c =
    let at = rw c.deref.ensures.value at c.in-Ok.ensures in
    rw (← c.self.view_is) (finds c.self.inside.entries.items c.args.block c.in-Ok.place c.index.result.now c.self.invariant.1.rises at c.index.ensures)

pub returns-in-Err-clause-value : goal.returns-in-Err-clause-value
returns-in-Err-clause-value c =
    let at = rw c.deref.ensures.value at c.in-Err.ensures in
    rw (← c.self.view_is) (sym (look_missing c.args.block c.self.inside.entries.items c.in-Err.field-0 at))
