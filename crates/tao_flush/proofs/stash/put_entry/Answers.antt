use Rattle.std.proofs.Common.{arith}
use Rattle.tao_flush.proofs.RisingLists.{set_puts, set_keeps, insert_puts, insert_keeps, room_left}
use Rattle.tao_flush.proofs.stash.put_entry.Goals as goal

pub insert_within-requires-clause-room : goal.insert_within-requires-clause-room
insert_within-requires-clause-room c =
    let at = rw c.deref.ensures.value at c.in-Err.ensures in
    let left = room_left c.args.p.now c.args.entries.now.items c.args.entry c.in-Err.place c.requires.stash c.requires.entry at in
    omega (arith, left)

pub returns-in-Ok-clause-value : goal.returns-in-Ok-clause-value
returns-in-Ok-clause-value c =
    let at = rw c.deref.ensures.value at c.in-Ok.ensures in
    set_puts c.args.entries.now.items c.args.entry c.in-Ok.place c.requires.stash.rises at

pub returns-in-Ok-clause-stash : goal.returns-in-Ok-clause-stash
returns-in-Ok-clause-stash c =
    let at = rw c.deref.ensures.value at c.in-Ok.ensures in
    set_keeps c.args.p.now c.args.entries.now.items c.args.entry c.in-Ok.place c.requires.stash c.requires.entry at

pub returns-in-Err-clause-value : goal.returns-in-Err-clause-value
returns-in-Err-clause-value c =
    let at = rw c.deref.ensures.value at c.in-Err.ensures in
    rw c.insert_within.ensures.items (insert_puts c.args.entries.now.items c.args.entry c.in-Err.place c.requires.stash.rises at)

pub returns-in-Err-clause-stash : goal.returns-in-Err-clause-stash
returns-in-Err-clause-stash c =
    let at = rw c.deref.ensures.value at c.in-Err.ensures in
    rw c.insert_within.ensures.items (insert_keeps c.args.p.now c.args.entries.now.items c.args.entry c.in-Err.place c.requires.stash c.requires.entry at)
