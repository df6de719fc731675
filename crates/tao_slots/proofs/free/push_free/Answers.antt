use Rattle.std.proofs.Common.{◌+◌, Some, refl, ap, arith}
use Rattle.tao_slots.proofs.FreeLemmas.{more_free, pushed_slot}
use Rattle.tao_slots.proofs.free.push_free.Goals as goal

pub returns-clause-list : goal.returns-clause-list
returns-clause-list c =
    more_free c.args.slots.now.items c.push_reserved.new.self.items c.args.free.now (record { first = Some c.len-place.result; count = c.args.free.now.count + 1 })
    (pushed_slot c.args.slots.now.items c.push_reserved.new.self.items c.free.result c.args.free.now.first c.push_reserved.ensures.items c.free.ensures.bucket c.free.ensures.links c.free.ensures.next)
    (ap Some (omega (arith, c.len-place.ensures, c.args.slots.now.ok.0))) refl c.requires.list
