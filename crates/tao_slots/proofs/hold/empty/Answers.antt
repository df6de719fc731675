use Rattle.std.proofs.Common.{ℕ, Option, None, refl, sym, ◌∙◌, subst}
use Rattle.std.proofs.lemmas.Bool.{false≢true}
use Rattle.std.specs.Option.{IsSome}
use Rattle.tao_slots.proofs.ColumnLemmas.{refilled}
use Rattle.tao_slots.proofs.LinkLemmas.{node_is, some_within}
use Rattle.tao_slots.proofs.hold.empty.Goals as goal

pub unreachable-requires : goal.unreachable-requires
unreachable-requires c =
    false≢true (subst (λ (o : Option ℕ). IsSome o)
    (sym (node_is c.args.slots.now c.args.place c.index-slots-place.result None (some_within c.args.slots.now c.args.place c.requires) (sym c.take.ensures.value ∙ c.in-None.is)))
    c.requires)

pub returns-clause-emptied : goal.returns-clause-emptied
returns-clause-emptied c = refilled c.args.slots.now c.args.place _ c.index-slots-place.result None c.take.ensures.after refl
