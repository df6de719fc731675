use Rattle.std.proofs.Common.{List, [], All, sym, subst}
use Rattle.tao_base.specs.declared.storage.Entry.{Entry}
use Rattle.tao_base.specs.Limits.{Shape}
use Rattle.tao_flush.specs.Blocks.{IsEntry}
use Rattle.tao_desk.specs.Scanning.{Sees}
use Rattle.tao_desk.proofs.Scanned.{stash_entries}
use Rattle.tao_desk.proofs.desk.scan.see_held.Goals as goal

pub see_nodes-requires : goal.see_nodes-requires
see_nodes-requires c =
    let s = c.args.processor.now.history.opening.shape in
    subst (λ (entries : List Entry). Sees s entries c.see.new.self.values.items c.see.new.self.known.items) c.stash.ensures
    (c.see.ensures.sees s [] (subst (λ (x : Shape). Sees x [] c.in_ok-seen.seen.values.items c.in_ok-seen.seen.known.items) c.params.ensures.value c.in_ok-seen.ensures.sees)
    (subst (λ (entries : List Entry). All (IsEntry s) entries) (sym c.stash.ensures) (stash_entries c.args.processor.now c.sound.ensures)))
