use Rattle.std.proofs.Common.{Some, None}
use Rattle.tao_slots.proofs.LinkLemmas.{node_is}
use Rattle.tao_slots.proofs.links.node_in.Goals as goal

pub returns-in-Some : goal.returns-in-Some
returns-in-Some c = node_is c.args.slots.now c.args.place c.index-slots-place.result (Some c.in-Some.bucket) c.requires c.in-Some.is

pub returns-in-None : goal.returns-in-None
returns-in-None c = node_is c.args.slots.now c.args.place c.index-slots-place.result None c.requires c.in-None.is
