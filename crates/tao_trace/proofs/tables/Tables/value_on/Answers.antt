use Rattle.std.proofs.Common.{◌<◌, ◌≡◌, [], length, ap, sym, ◌∙◌, arith}
use Rattle.std.proofs.lemmas.List.{get_or-map, length-map}
use Rattle.tao_trace.proofs.Kept.{fit_of, value_within, value_kept}
use Rattle.tao_trace.proofs.tables.Tables.value_on.Goals as goal

pub index-requires : goal.index-requires
index-requires c =
    let within = value_within _ _ _ _ _ (fit_of _ _ _ _ _ c.self.view_is c.self.invariant.arrivals) c.args.block c.requires in
    let same = length-map c.self.inside.values.items (λ value. value.now) in
    let len = c.self.inside.values.ok.0 in
    omega (arith, within, same, len)

pub returns : goal.returns
returns c =
    let within = value_within _ _ _ _ _ (fit_of _ _ _ _ _ c.self.view_is c.self.invariant.arrivals) c.args.block c.requires in
    let same = length-map c.self.inside.values.items (λ value. value.now) in
    let small : c.args.block < length c.self.inside.values.items = omega (arith, within, same) in
    ap (λ value. value.now) c.index.ensures
    ∙ sym (get_or-map (λ value. value.now) c.self.inside.values.items c.args.block c.index.result.now [] small)
    ∙ value_kept _ _ _ _ _ (fit_of _ _ _ _ _ c.self.view_is c.self.invariant.arrivals) c.args.block
