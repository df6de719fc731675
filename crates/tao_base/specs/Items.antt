-- What a list has once a slice lent from it is given back.
use Rattle.std.specs.Prelude.{List, ◌++◌, length, take, drop}
use Rattle.std.specs.Borrow.{Lends, MutBor, Fml, Array, RattleType}
use Rattle.tao_base.specs.contracts.lists.Items.{the_row}
use Rattle.tao_base.specs.contracts.storage.Entries.{the_row as entries_row}
use Rattle.tao_base.specs.contracts.storage.Entry.{the_row as entry_row}
use Rattle.tao_base.specs.declared.storage.Entry.{Entry}

-- the list with these items at its front, as many as it has at most
abbrev pub with_front : {X : Type 0} → List X → List X → List X
with_front old front = take (length old) (front ++ drop (length front) old)

-- the list ends with what was last written through the slice
abbrev pub LendsItems : (R : RattleType) → MutBor (List R.Denot) → MutBor (List R.Denot) → Fml
LendsItems R s r = Lends (the_row R) (Array R 0) s r (with_front s.now)

-- the same for a list of entries
abbrev pub LendsEntries : MutBor (List Entry) → MutBor (List Entry) → Fml
LendsEntries s r = Lends entries_row (Array entry_row 0) s r (with_front s.now)
