use Rattle.std.proofs.Common.{◌≡◌, length, take, refl, sym, ap, ◌∙◌, subst, arith}
use Rattle.std.specs.Int.{w32, to_be_bytes}
use Rattle.std.specs.Io.KnownBytes.{Consumes}
use Rattle.std.proofs.lemmas.List.{take_all}
use Rattle.tao_base.proofs.TransferLemmas.{same_true}
use Rattle.tao_tree.proofs.TransferLemmas.{received, fewer_behind}
use Rattle.tao_tree.proofs.StreamCalls.{on_err}
use Rattle.tao_tree.proofs.answers.receive.Goals as goal

pub returns-clause-came : goal.returns-clause-came
returns-clause-came g c =
    let four : take c.in_ok-fill.field-0 c.fill.new.room ≡ c.fill.new.room = take_all c.in_ok-fill.field-0 c.fill.new.room (omega (arith, c.fill.auto.room)) in
    let field = subst (Consumes (g.S.Source.left c.args.source.now) (g.S.Source.left c.fill.new.source)) four c.in_ok-fill.ensures.bytes in
    let long : length c.args.content.now ≡ length c.fill-2.new.room = sym c.fill-2.auto.room in
    let said = same_true c.fill.new.room c.length_bytes.result (sym c.are_same.ensures ∙ c.if-not-are_same.false) in
    received _ _ _ c.fill.new.room c.fill-2.new.room c.in_ok-n.n _ refl (said ∙ c.length_bytes.ensures ∙ ap (to_be_bytes w32) long) field c.in_ok-n.ensures.bytes (omega (arith, c.in_ok-n.ensures.bound, long)) (λ less. c.in_ok-n.ensures.end (omega (arith, long, less)))

pub returns-in_err-n-clause-err : goal.returns-in_err-n-clause-err
returns-in_err-n-clause-err g c =
    let four : take c.in_ok-fill.field-0 c.fill.new.room ≡ c.fill.new.room = take_all c.in_ok-fill.field-0 c.fill.new.room (omega (arith, c.fill.auto.room)) in
    let field = subst (Consumes (g.S.Source.left c.args.source.now) (g.S.Source.left c.fill.new.source)) four c.in_ok-fill.ensures.bytes in
    on_err _ _ (fewer_behind _ _ _ c.fill.new.room (length c.args.content.now) field (omega (arith, c.fill.auto.room)) c.in_err-n.ensures.err)
