use Rattle.std.proofs.Common.{reverse, sym, arith}
use Rattle.tao_laws.proofs.CountedWork.{acks_from, work_from}
use Rattle.tao_desk.proofs.Scanned.{nothing_busy}
use Rattle.tao_desk.proofs.desk.scan.refusal.Goals as goal

pub overflow_sub-undone : goal.overflow_sub-undone
overflow_sub-undone c =
    let within = (work_from c.args.processor.now.history.opening (reverse c.args.processor.now.history.events) c.sound.ensures.proxy.follows).within in
    omega (arith, within, c.dones.ensures, c.arrivals.ensures)

pub overflow_sub-outstanding : goal.overflow_sub-outstanding
overflow_sub-outstanding c =
    let within = (acks_from c.args.processor.now.history.opening (reverse c.args.processor.now.history.events) c.sound.ensures.proxy.follows).within in
    omega (arith, within, c.acks.ensures, c.issues.ensures)

pub returns-then-outstanding-eq0 : goal.returns-then-outstanding-eq0
returns-then-outstanding-eq0 c =
    let done = (work_from c.args.processor.now.history.opening (reverse c.args.processor.now.history.events) c.sound.ensures.proxy.follows).within in
    let acked = (acks_from c.args.processor.now.history.opening (reverse c.args.processor.now.history.events) c.sound.ensures.proxy.follows).within in
    sym (nothing_busy c.args.processor.now.history (sym c.if-is_down.ensures) (omega (arith, done, c.dones.ensures, c.arrivals.ensures, c.if-undone-eq0.true))
    (omega (arith, acked, c.acks.ensures, c.issues.ensures, c.if-outstanding-eq0.true)))
