use Rattle.std.proofs.Common.{◌++◌, List, All, reverse, sym, ap, ◌∙◌, subst}
use Rattle.std.specs.Option.{option_copied}
use Rattle.tao_base.specs.declared.storage.Entry.{Entry}
use Rattle.tao_flush.specs.Blocks.{IsEntry}
use Rattle.tao_held.specs.Held.{held}
use Rattle.tao_model.specs.Residence.{is_resident}
use Rattle.tao_desk.specs.Scanning.{Sees}
use Rattle.tao_desk.proofs.Scanned.{told_some, node_entries_held}
use Rattle.tao_desk.proofs.desk.scan.see_node.Goals as goal

pub returns-clause-sees : goal.returns-clause-sees
returns-clause-sees c =
    let o = c.args.processor.now.history.opening in
    let es = reverse c.args.processor.now.history.events in
    let told = told_some (is_resident o es c.args.node) (held o es c.args.node) c.in-Some.entries.now (sym (ap option_copied c.in-Some.is) ∙ c.entries.ensures) in
    λ before is. subst (λ (entries : List Entry). Sees o.shape (before ++ entries) c.see.new.self.values.items c.see.new.self.known.items) (c.as_slice.ensures ∙ told.1)
    (c.see.ensures.sees o.shape before is
    (subst (λ (entries : List Entry). All (IsEntry o.shape) entries) (sym (c.as_slice.ensures ∙ told.2)) (node_entries_held c.args.processor.now c.args.node c.sound.ensures c.requires.low told.0)))
