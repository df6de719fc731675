use Rattle.std.proofs.Common.{◌-◌, List, reverse, ◌∙◌, subst}
use Rattle.tao_base.specs.declared.storage.Entry.{Entry}
use Rattle.tao_desk.specs.Scanning.{Sees, entries_before}
use Rattle.tao_desk.proofs.Scanned.{one_node_more}
use Rattle.tao_desk.proofs.desk.scan.see_nodes.Goals as goal

pub loop-node-preserved : goal.loop-node-preserved
loop-node-preserved c =
    let o = c.args.processor.now.history.opening in
    let es = reverse c.args.processor.now.history.events in record {
      sees = subst (λ (entries : List Entry). Sees o.shape entries c.see_node.new.seen.values.items c.see_node.new.seen.known.items) (one_node_more o es c.loop-node.node c.loop-node.auto.node)
          (c.see_node.ensures.sees (entries_before o es (c.loop-node.node - 1)) c.loop-node.invariant.sees);
      taken = c.see_node.ensures.taken ∙ c.loop-node.invariant.taken;
    }
