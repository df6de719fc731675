use Rattle.std.proofs.Common.{List, map, sym, ap, ◌∙◌}
use Rattle.std.proofs.lemmas.List.{map-set}
use Rattle.tao_base.specs.Array.{array_step}
use Rattle.tao_trace.proofs.tables.write.Goals as goal

pub returns-in-Write : goal.returns-in-Write
returns-in-Write c = map-set (λ value. value.now) c.args.values.now.items c.in-Write.id _ ∙ sym (ap (array_step (map (λ value. value.now) c.args.values.now.items)) c.in-Write.is)
