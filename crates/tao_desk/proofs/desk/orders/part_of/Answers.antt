use Rattle.std.proofs.Common.{◌*◌, arith}
use Rattle.tao_desk.proofs.LoadParts.{last_part}
use Rattle.tao_desk.proofs.desk.orders.part_of.Goals as goal

pub returns-else-loaded-first-gt256 : goal.returns-else-loaded-first-gt256
returns-else-loaded-first-gt256 c = last_part c.args.loaded.now (c.args.part * 256) (256 * c.args.part) 256 (omega arith) c.if-loaded-first-gt256.false
