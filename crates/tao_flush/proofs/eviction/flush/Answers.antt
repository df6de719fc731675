use Rattle.std.proofs.Common.{◌≡◌, ◌<◌, length, take, fold, vec_capacity, All, refl, sym, ap, ◌∙◌, subst, arith}
use Rattle.std.proofs.lemmas.List.Elements.{All-weaker}
use Rattle.tao_model.specs.Passes.{gather}
use Rattle.tao_flush.specs.Blocks.{IsEntry, IsStash}
use Rattle.tao_flush.specs.Placing.{lists_on, all_placed}
use Rattle.tao_flush.specs.State.{leaf_in}
use Rattle.tao_flush.proofs.Evicted.{evicts, stash_fits, nodes_fit}
use Rattle.tao_flush.proofs.GatheredCopies.{joined_each, gathers_joined, gathered_keeps, written_back, copies_fit}
use Rattle.tao_flush.proofs.eviction.flush.Goals as goal

pub make_way-requires : goal.make_way-requires
make_way-requires c =
    let p_is = ap (λ s. s.shape) c.stash.view_is ∙ c.requires.stash in
    let fit = copies_fit c.stash.inside.p c.args.p.now c.stash.inside.entries.items (length c.args.path.now) (vec_capacity c.stash.inside.entries) p_is c.stash.invariant.1 c.stash.invariant.2 c.requires.path in
    let most = c.gather_path-count.ensures.most in
    record { room = omega (arith, fit, most) }

pub place_copies-requires-clause-ids : goal.place_copies-requires-clause-ids
place_copies-requires-clause-ids c =
    let len = c.deref_mut.ensures.len in
    let kept = c.gather_path-count.ensures.len in
    let copies = c.deref_mut-2.ensures.value ∙ written_back c.gather_path-count.new.copies _ c.stash.inside.copies.len (omega (arith, kept, len)) in
    subst (All (λ e. e.id < c.args.p.now.n)) (sym (ap (take c.gather_path-count.result) copies ∙ c.gather_path-count.ensures.copies))
    (All-weaker (IsEntry c.args.p.now) (λ e. e.id < c.args.p.now.n) (λ e is. is.0) _ (joined_each c.args.p.now c.args.path.now c.requires.entries))

pub returns : goal.returns
returns c =
    let p_is = ap (λ s. s.shape) c.stash.view_is ∙ c.requires.stash in
    let is = subst (λ s. IsStash s c.stash.inside.entries.items) p_is c.stash.invariant.1 in
    let len = c.deref_mut.ensures.len in
    let kept = c.gather_path-count.ensures.len in
    let copies = c.deref_mut-2.ensures.value ∙ written_back c.gather_path-count.new.copies _ c.stash.inside.copies.len (omega (arith, kept, len)) in
    let gathered = ap (λ own. gather own (take c.gather_path-count.result c.deref_mut-2.result.now)) c.make_way.ensures.own
    ∙ ap (gather c.stash.inside.entries.items) (ap (take c.gather_path-count.result) copies ∙ c.gather_path-count.ensures.copies)
    ∙ gathers_joined c.stash.inside.entries.items c.args.path.now in
    let rest = c.place_copies.ensures.placed.1 ∙ ap (λ es. all_placed c.args.p.now c.args.leaf (leaf_in c.args.positions.now) es 0) gathered in
    let placed = c.place_copies.ensures.placed.0 ∙ ap (λ es. lists_on c.args.p.now.l c.args.leaf (all_placed c.args.p.now c.args.leaf (leaf_in c.args.positions.now) es)) gathered in
    let keeps = gathered_keeps c.args.p.now c.stash.inside.entries.items c.args.path.now is c.requires.entries in record {
      evicted = rw (← c.stash.view_is)
          (evicts c.args.p.now c.args.leaf (leaf_in c.args.positions.now) c.stash.inside.entries.items c.args.path.now (fold gather c.stash.inside.entries.items c.args.path.now)
          c.place_copies.new.entries.items c.place_copies.new.path c.requires.leaf is c.requires.path refl rest placed);
      shape = ap (λ s. s.shape) c.stash.view_is;
      stash = stash_fits c.args.p.now c.args.leaf (leaf_in c.args.positions.now) c.stash.inside.entries.items c.args.path.now (fold gather c.stash.inside.entries.items c.args.path.now)
          c.requires.leaf is c.requires.path refl keeps c.place_copies.new.entries.items rest;
      entries = nodes_fit c.args.p.now c.args.leaf (leaf_in c.args.positions.now) c.stash.inside.entries.items c.args.path.now (fold gather c.stash.inside.entries.items c.args.path.now)
          c.requires.leaf is c.requires.path refl keeps c.place_copies.new.path placed;
    }

pub invariant_of-stash : goal.invariant_of-stash
invariant_of-stash c =
    let p_is : c.stash.inside.p ≡ c.args.p.now = ap (λ s. s.shape) c.stash.view_is ∙ c.requires.stash in
    let room = c.stash.invariant.2 in
    let way = c.make_way.ensures.capacity in
    let grown = c.place_copies.ensures.capacity in (
      c.stash.invariant.0,
      subst (λ s. IsStash s c.place_copies.new.entries.items) (sym p_is) (returns c).stash,
      omega (arith, room, way, grown),
      c.stash.invariant.3,
    )
