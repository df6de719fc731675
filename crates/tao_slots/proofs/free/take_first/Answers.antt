use Rattle.tao_slots.proofs.FreeLemmas.{first_free, first_within}
use Rattle.tao_slots.proofs.free.take_first.Goals as goal

pub bounds-slots-place : goal.bounds-slots-place
bounds-slots-place c = first_within c.args.slots.now c.args.free.now c.in-Some.place c.in-Some.is c.requires.list

pub bounds-slots-place-in-Some : goal.bounds-slots-place-in-Some
bounds-slots-place-in-Some c = first_within c.args.slots.now c.args.free.now c.in-Some.place c.in-Some.is c.requires.list

pub returns-clause-within : goal.returns-clause-within
returns-clause-within c = first_within c.args.slots.now c.args.free.now c.in-Some.place c.in-Some.is c.requires.list

pub returns-clause-list : goal.returns-clause-list
returns-clause-list c = (first_free c.args.slots.now c.args.free.now c.in-Some.place c.index-slots-place.result c.in-Some.is c.requires.list).2
