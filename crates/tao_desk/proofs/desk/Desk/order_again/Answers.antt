use Rattle.std.proofs.Common.{◌≤◌, length, All, sym, ap, ◌∙◌, subst}
use Rattle.tao_base.specs.Buckets.{IsInForm}
use Rattle.tao_base.specs.Limits.{Shape}
use Rattle.tao_base.specs.Links.{FitsLinks, order_limit}
use Rattle.tao_desk.specs.State.{DeskState}
use Rattle.tao_desk.proofs.Issues.{issue_is}
use Rattle.tao_desk.proofs.desk.Desk.order_again.Goals as goal

pub new_order-requires-clause-form : goal.new_order-requires-clause-form
new_order-requires-clause-form g c =
    subst (λ (s : Shape). All (IsInForm s) c.issue_of-nonce.result.1.now) (sym c.params.ensures.value)
    (issue_is c.self.inside.processor.history.opening c.self.inside.processor.history.events c.args.version c.issue_of-nonce.result.0 c.issue_of-nonce.result.1.now c.sound.ensures.proxy.follows c.issue_of-nonce.ensures).in_form

pub new_order-requires-clause-few : goal.new_order-requires-clause-few
new_order-requires-clause-few g c =
    subst (λ (s : Shape). length c.issue_of-nonce.result.1.now ≤ order_limit s) (sym c.params.ensures.value)
    (issue_is c.self.inside.processor.history.opening c.self.inside.processor.history.events c.args.version c.issue_of-nonce.result.0 c.issue_of-nonce.result.1.now c.sound.ensures.proxy.follows c.issue_of-nonce.ensures).few

pub returns-in-Ok-clause-fits : goal.returns-in-Ok-clause-fits
returns-in-Ok-clause-fits g c =
    subst (λ (s : Shape). FitsLinks s c.in-Ok.order) (c.params.ensures.value ∙ ap (λ (d : DeskState). d.history.opening.shape) c.self.view_is) c.in-Ok.ensures.fits
