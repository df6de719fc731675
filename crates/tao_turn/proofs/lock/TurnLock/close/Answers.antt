use Rattle.std.proofs.Common.{sym, ap, ◌∙◌, subst, rules}
use Rattle.std.proofs.lemmas.Option.{none-some, same_Some}
use Rattle.tao_turn.specs.Histories.{MayFind, AreLeftOut, HasAll}
use Rattle.tao_turn.specs.Passes.{seats_of}
use Rattle.tao_turn.specs.Views.{known_in}
use Rattle.tao_turn.proofs.Ending.{closes, closes_alone, tells_left_out}
use Rattle.tao_turn.proofs.lock.TurnLock.close.Goals as goal

pub returns-then-ticket-serving-clause-all : goal.returns-then-ticket-serving-clause-all
returns-then-ticket-serving-clause-all g c =
    let known_is = ap known_in c.into_seat.ensures.2 in
    λ all. c.if-ticket-serving.true (closes_alone _ _ _ _ _ _ _ _ _ _ c.close_with-closed.ensures.values.2 (search rules) c.word-ticket.ensures c.word-serving.ensures
    (subst (λ k. HasAll (seats_of c.args.self) k.shares) known_is all))

pub returns-then-ticket-serving-clause-left_out : goal.returns-then-ticket-serving-clause-left_out
returns-then-ticket-serving-clause-left_out g c =
    let known_is = ap known_in c.into_seat.ensures.2 in
    subst (λ k. AreLeftOut (seats_of c.args.self) k c.word-ticket.result c.word-serving.result) (sym known_is)
    (tells_left_out _ _ _ _ _ _ _ _ _ _ c.close_with-closed.ensures.values.2 (search rules) c.word-ticket.ensures c.word-serving.ensures c.if-ticket-serving.true)

pub unreachable-requires : goal.unreachable-requires
unreachable-requires g c =
    let f = closes _ _ _ _ _ _ _ _ _ _ c.close_with-closed.ensures.values.2 (search rules) c.word-ticket.ensures c.word-serving.ensures c.if-ticket-serving.false _ c.take-slot.ensures.value in
    none-some f.0 (sym c.in-None.is ∙ f.1)

pub returns-clause-ok : goal.returns-clause-ok
returns-clause-ok g c =
    let f = closes _ _ _ _ _ _ _ _ _ _ c.close_with-closed.ensures.values.2 (search rules) c.word-ticket.ensures c.word-serving.ensures c.if-ticket-serving.false _ c.take-slot.ensures.value in
    let x_is = same_Some _ _ (sym c.in-Some.is ∙ f.1) in
    let known_is = ap known_in c.into_seat.ensures.2 in
    subst (λ l. MayFind g.T.Journal.maker g.T.Journal.mark_of (known_in c.args.pass.badge.views) l) (ap g.T.Journal.entries (sym x_is))
    (subst (λ k. MayFind g.T.Journal.maker g.T.Journal.mark_of k (g.T.Journal.entries f.0)) (sym known_is) f.2)

pub returns-clause-all : goal.returns-clause-all
returns-clause-all g c =
    let f = closes _ _ _ _ _ _ _ _ _ _ c.close_with-closed.ensures.values.2 (search rules) c.word-ticket.ensures c.word-serving.ensures c.if-ticket-serving.false _ c.take-slot.ensures.value in
    let x_is = same_Some _ _ (sym c.in-Some.is ∙ f.1) in
    let known_is = ap known_in c.into_seat.ensures.2 in
    λ all. ap g.T.Journal.entries x_is ∙ (f.3 (subst (λ k. HasAll (seats_of c.args.self) k.shares) known_is all) ∙ sym (ap (λ k. k.seen) known_is))
