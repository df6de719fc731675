use Rattle.std.proofs.Common.{refl, sym, ◌∙◌}
use Rattle.std.proofs.lemmas.Iterator.{items_from_drains}
use Rattle.std.proofs.lemmas.Iterator.Adapters.{YieldsList-from_vec, YieldsList-from_skip}
use Rattle.std.proofs.lemmas.Iterator.Consumers.{YieldsList-at}
use Rattle.std.proofs.lemmas.List.{map-id}
use Rattle.std.specs.Vec.Iter.{into_iter_items}
use Rattle.taostore.proofs.arguments.after_first.Goals as goal

pub returns-in-Ok-clause-ok : goal.returns-in-Ok-clause-ok
returns-in-Ok-clause-ok c =
    let all = c.args.all in
    let source = YieldsList-at c.skip.ensures.source (YieldsList-from_vec {s = all} (into_iter_items all) refl all.rest.ok.0) in
    let skipped = YieldsList-from_skip 1 source c.skip.ensures.count in
    let ran = c.in-Ok.ensures.ran in
    ran.2.0 ∙ sym (map-id ran.0) ∙ items_from_drains ran.0 ran.1 skipped
