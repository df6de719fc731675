use Rattle.std.proofs.Common.{◌≡◌, true, reverse, is_ok, sym, ap, ◌∙◌, subst}
use Rattle.std.proofs.lemmas.Bool.{true≢false}
use Rattle.tao_images.specs.Answers.{AddsDone, IsAnswered}
use Rattle.tao_model.specs.Events.{is_under_way}
use Rattle.tao_world.specs.State.{Reading}
use Rattle.tao_world.specs.World.{RoomState}
use Rattle.tao_world.proofs.world.fetching.admit.Goals as goal

pub unreachable-requires : goal.unreachable-requires
unreachable-requires c =
    let path = c.deref.ensures.value ∙ ap (λ (r : RoomState). r.bytes) c.room.view_is ∙ ap (λ (f : Reading). f.bytes) c.fetch.view_is in
    let arrival = ap (λ (f : Reading). f.arrival) c.fetch.view_is in
    let ok = c.done.ensures.complete c.requires.up (subst (λ i. is_under_way (reverse c.args.desk.now.history.events) i ≡ true) (sym arrival) c.requires.under_way)
    (subst (λ bytes. IsAnswered c.args.desk.now.key c.args.desk.now.history c.fetch.inside.ask.arrival bytes) (sym path)
    (subst (λ i. IsAnswered c.args.desk.now.key c.args.desk.now.history i c.args.fetch.bytes) (sym arrival) c.requires.answered))
    in
    true≢false (sym ok ∙ ap is_ok c.in_default.is)

pub returns-clause-done : goal.returns-clause-done
returns-clause-done c =
    let path = c.deref.ensures.value ∙ ap (λ (r : RoomState). r.bytes) c.room.view_is ∙ ap (λ (f : Reading). f.bytes) c.fetch.view_is in
    let arrival = ap (λ (f : Reading). f.arrival) c.fetch.view_is in
    subst (λ i. AddsDone c.args.desk.now.key c.args.desk.now.history c.done.new.self.history i c.args.fetch.bytes c.in-Ok.order) arrival
    (subst (λ bytes. AddsDone c.args.desk.now.key c.args.desk.now.history c.done.new.self.history c.fetch.inside.ask.arrival bytes c.in-Ok.order) path c.in-Ok.ensures.events)
