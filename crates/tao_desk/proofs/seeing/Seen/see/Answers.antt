use Rattle.std.proofs.Common.{List, ◌++◌, take, sym, ◌∙◌, subst}
use Rattle.std.proofs.lemmas.List.{take_all}
use Rattle.tao_base.specs.declared.storage.Entry.{Entry}
use Rattle.tao_flush.specs.Blocks.{IsEntry}
use Rattle.tao_desk.specs.Scanning.{Sees}
use Rattle.tao_desk.proofs.SeenEntries.{sees_next}
use Rattle.tao_desk.proofs.seeing.Seen.see.Goals as goal

pub see_one-requires : goal.see_one-requires
see_one-requires c =
    let given = c.requires.each in record {
      each = (
        given.0,
        given.1 ++ take c.loop-entry.entry-index c.args.entries.now,
        c.loop-entry.invariant.sees given.0 given.1 given.2 given.3,
        subst (IsEntry given.0) (sym c.entry-item.is) (given.3 c.loop-entry.entry-index c.entry-item.result c.loop-entry-test.true),
      );
    }

pub loop-entry-preserved : goal.loop-entry-preserved
loop-entry-preserved c = record {
  sees = λ s before is all. sees_next before c.args.entries.now c.loop-entry.entry-index c.entry-item.result c.entry-item.result c.loop-entry-test.true c.entry-item.is
      (c.see_one.ensures.sees s (before ++ take c.loop-entry.entry-index c.args.entries.now) (c.loop-entry.invariant.sees s before is all)
      (subst (IsEntry s) (sym c.entry-item.is) (all c.loop-entry.entry-index c.entry-item.result c.loop-entry-test.true)));
  taken = c.see_one.ensures.taken ∙ c.loop-entry.invariant.taken;
}

pub returns-clause-sees : goal.returns-clause-sees
returns-clause-sees c =
    λ s before is all. subst (λ (es : List Entry). Sees s (before ++ es) c.loop-entry.self.values.items c.loop-entry.self.known.items)
    (take_all c.loop-entry.entry-index c.args.entries.now c.loop-entry-test.false) (c.loop-entry.invariant.sees s before is all)
