use Rattle.std.proofs.lemmas.List.Elements.{All-nil}
use Rattle.tao_flush.specs.Blocks.{IsEntry}
use Rattle.tao_flush.proofs.stash.Stash.with_room.Goals as goal

pub with_entries-requires-clause-stash : goal.with_entries-requires-clause-stash
with_entries-requires-clause-stash c = rw c.in_ok-entries.ensures.items (record { rises = tt; each = All-nil (IsEntry c.args.p.now) })
