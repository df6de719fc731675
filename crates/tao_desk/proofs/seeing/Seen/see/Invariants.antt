use Rattle.std.proofs.Common.{List, ◌≡◌, ◌++◌, take, All}
use Rattle.tao_base.specs.declared.storage.Entry.{Entry}
use Rattle.tao_base.specs.Limits.{Shape}
use Rattle.tao_flush.specs.Blocks.{IsEntry}
use Rattle.tao_desk.specs.Scanning.{Sees}
use Rattle.tao_desk.proofs.seeing.Seen.see.Given as goal

abbrev pub invariant-loop-entry : goal.invariant-loop-entry
invariant-loop-entry l = record {
  sees : (s : Shape) (before : List Entry) → Sees s before l.initial.self.values.items l.initial.self.known.items → All (IsEntry s) l.initial.entries
      → Sees s (before ++ take l.entry-index l.initial.entries) l.self.values.items l.self.known.items;
  taken : l.self.taken ≡ l.initial.self.taken;
}
