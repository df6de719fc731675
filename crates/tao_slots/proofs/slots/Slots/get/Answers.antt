use Rattle.std.proofs.Common.{◌≡◌, ℕ, Some, get_or, sym, ap, ◌∙◌, subst}
use Rattle.std.specs.Option.{IsSome}
use Rattle.tao_slots.specs.SlotMap.{SlotMap, bucket_at, node_of}
use Rattle.tao_slots.proofs.PartLemmas.{read_free, read_bucket}
use Rattle.tao_slots.proofs.slots.Slots.get.Goals as goal

pub unreachable-requires : goal.unreachable-requires
unreachable-requires c =
    read_free c.self.inside.slots.items c.args.slot c.index.result.now (c.index.ensures ∙ ap (λ (k : ℕ). get_or c.self.inside.slots.items k c.index.result.now) c.place.ensures) c.in-None.is
    (subst (λ (map : SlotMap). IsSome (node_of map c.args.slot)) (sym c.self.view_is) c.requires)

pub returns-clause-node : goal.returns-clause-node
returns-clause-node c =
    subst (λ (map : SlotMap). node_of map c.args.slot ≡ Some c.in-Some.bucket.node) c.self.view_is
    (read_bucket c.self.inside.p c.self.inside.slots.items c.self.inside.index.items c.self.inside.free c.args.slot c.index.result.now c.in-Some.bucket c.self.invariant (c.index.ensures ∙ ap (λ (k : ℕ). get_or c.self.inside.slots.items k c.index.result.now) c.place.ensures) c.in-Some.is
    (subst (λ (map : SlotMap). IsSome (node_of map c.args.slot)) (sym c.self.view_is) c.requires)).0

pub returns-clause-bucket : goal.returns-clause-bucket
returns-clause-bucket c =
    subst (λ (map : SlotMap). bucket_at map c.in-Some.bucket.node ≡ Some c.in-Some.bucket) c.self.view_is
    (read_bucket c.self.inside.p c.self.inside.slots.items c.self.inside.index.items c.self.inside.free c.args.slot c.index.result.now c.in-Some.bucket c.self.invariant (c.index.ensures ∙ ap (λ (k : ℕ). get_or c.self.inside.slots.items k c.index.result.now) c.place.ensures) c.in-Some.is
    (subst (λ (map : SlotMap). IsSome (node_of map c.args.slot)) (sym c.self.view_is) c.requires)).1
