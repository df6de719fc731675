use Rattle.std.proofs.Common.{◌<◌, ◌^◌, subst}
use Rattle.std.proofs.lemmas.List.{take_more_set}
use Rattle.tao_flush.specs.State.{leaf_in}
use Rattle.tao_flush.proofs.PlacedLists.{places_there, places_none}
use Rattle.tao_flush.proofs.placing.Eviction.place_entry.Goals as goal

pub returns-in-Some-clause-placed : goal.returns-in-Some-clause-placed
returns-in-Some-clause-placed c =
    let deepest = rw c.leaf-own.ensures.value at c.in-Some.ensures.deepest in
    let other : leaf_in c.args.self.now.positions.now c.args.entry.id < 2 ^ c.args.self.now.p.l =
    subst (λ s. leaf_in c.args.self.now.positions.now c.args.entry.id < 2 ^ s.l) c.requires.eviction.1 (rw c.leaf-own.ensures.value at c.leaf-own.ensures.leaf) in
    rw c.push_reserved.ensures
    (places_there c.args.self.now.p c.args.self.now.leaf (leaf_in c.args.self.now.positions.now) c.args.path.now _ c.args.entry c.in-Some.depth c.index-path-depth.result c.requires.eviction.0 other deepest)

pub returns-in-None-clause-placed : goal.returns-in-None-clause-placed
returns-in-None-clause-placed c =
    let deepest = rw c.leaf-own.ensures.value at c.in-None.ensures.deepest in
    let other : leaf_in c.args.self.now.positions.now c.args.entry.id < 2 ^ c.args.self.now.p.l =
    subst (λ s. leaf_in c.args.self.now.positions.now c.args.entry.id < 2 ^ s.l) c.requires.eviction.1 (rw c.leaf-own.ensures.value at c.leaf-own.ensures.leaf) in
    rw (take_more_set c.args.rest.now c.args.kept c.args.entry c.requires.room)
    (places_none c.args.self.now.p c.args.self.now.leaf (leaf_in c.args.self.now.positions.now) c.args.path.now _ c.args.entry c.requires.eviction.0 other deepest)
