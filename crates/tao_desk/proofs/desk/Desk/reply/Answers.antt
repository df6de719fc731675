use Rattle.std.proofs.Common.{◌≡◌, ◌<◌, length, reverse, subst}
use Rattle.std.specs.Prelude.{IfSome, if◌then◌else◌}
use Rattle.std.specs.Option.{option_copied}
use Rattle.tao_model.specs.Events.{is_pad}
use Rattle.tao_model.specs.Replies.{plain_reply}
use Rattle.tao_images.specs.Answers.{IsUnaltered}
use Rattle.tao_desk.specs.State.{DeskState}
use Rattle.tao_desk.proofs.Replied.{reply_is_plain, reply_has_length}
use Rattle.tao_desk.proofs.SoundDesks.{sound_desk}
use Rattle.tao_desk.proofs.desk.Desk.reply.Goals as goal

pub returns-then-arrival-released-clause-plain : goal.returns-then-arrival-released-clause-plain
returns-then-arrival-released-clause-plain g c =
    let h = c.self.inside.processor.history in
    let low = subst (λ n. c.args.arrival < n) c.released.ensures c.if-arrival-released.true in
    subst (λ (d : DeskState). IsUnaltered d.key d.history → IfSome (option_copied c.answer_of.result) (λ value. value ≡ plain_reply d.history.opening (reverse d.history.events) c.args.arrival)) c.self.view_is
    (reply_is_plain c.self.inside.processor.key h c.args.arrival (option_copied c.answer_of.result) (sound_desk c.self.inside.processor c.sound.ensures c.self.invariant).about low c.answer_of.ensures)

pub returns-then-arrival-released-clause-len : goal.returns-then-arrival-released-clause-len
returns-then-arrival-released-clause-len g c =
    let h = c.self.inside.processor.history in
    let low = subst (λ n. c.args.arrival < n) c.released.ensures c.if-arrival-released.true in
    subst (λ (d : DeskState). IfSome (option_copied c.answer_of.result) (λ value. length value ≡ (if is_pad (reverse d.history.events) c.args.arrival then 0 else d.history.opening.shape.b))) c.self.view_is
    (reply_has_length h c.args.arrival (option_copied c.answer_of.result) c.sound.ensures.proxy.follows low c.answer_of.ensures)
