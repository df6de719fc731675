use Rattle.std.proofs.Common.{◌≤◌, ℕ, List, length, sym, ap, ◌∙◌, subst, arith}
use Rattle.std.specs.List.{sum}
use Rattle.tao_trace.proofs.Kept.{fit_of, told_at}
use Rattle.tao_trace.proofs.Counted.{reply_told, pad_told, reply_fits}
use Rattle.tao_trace.proofs.tables.Tables.reply_bytes.Goals as goal

pub byte_sum-requires : goal.byte_sum-requires
byte_sum-requires c =
    let f = fit_of _ _ _ _ _ c.self.view_is c.self.invariant.arrivals in
    let is = reply_told _ _ _ _ _ (told_at _ _ _ _ _ _ _ f c.requires c.index.ensures) c.in-Some.is in
    subst (λ (bytes : List ℕ). length bytes ≤ 4096) (sym (c.as_slice.ensures ∙ is))
    (reply_fits c.args.self.now.history c.args.self.now.place c.args.arrival f.follows)

pub returns-in-Some-clause-few : goal.returns-in-Some-clause-few
returns-in-Some-clause-few c =
    let f = fit_of _ _ _ _ _ c.self.view_is c.self.invariant.arrivals in
    let is = reply_told _ _ _ _ _ (told_at _ _ _ _ _ _ _ f c.requires c.index.ensures) c.in-Some.is in
    let len = ap length (c.as_slice.ensures ∙ is) in
    let fits = reply_fits c.args.self.now.history c.args.self.now.place c.args.arrival f.follows in
    let few = c.byte_sum.ensures.few in
    omega (arith, len, fits, few)

pub returns-in-None-clause-is : goal.returns-in-None-clause-is
returns-in-None-clause-is c =
    let f = fit_of _ _ _ _ _ c.self.view_is c.self.invariant.arrivals in
    sym (ap sum (pad_told _ _ _ _ (told_at _ _ _ _ _ _ _ f c.requires c.index.ensures) c.in-None.is))
