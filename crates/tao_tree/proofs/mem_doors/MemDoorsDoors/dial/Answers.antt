use Rattle.std.proofs.Common.{ap, inr}
use Rattle.std.proofs.lemmas.Bool.{false≢true}
use Rattle.tao_tree.proofs.DoorLemmas.{new_link_for}
use Rattle.tao_tree.proofs.mem_doors.MemDoorsDoors.dial.Goals as goal

pub returns-clause-near : goal.returns-clause-near
returns-clause-near g c =
    let is = c.in-Ok.ensures in
    new_link_for c.args.self.now.shape c.args.p.now c.in-Ok.near (λ other. false≢true (c.if-refuses.ensures.1 (inr other))) (ap (λ l. l.shape) is) (ap (λ l. l.faults) is) (ap (λ l. l.told) is)
