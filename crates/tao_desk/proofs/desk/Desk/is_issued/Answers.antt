use Rattle.std.proofs.Common.{◌<◌, ◌↔◌, inl, inr, ℕ, false, List, All, sym, ap, subst}
use Rattle.std.specs.Prelude.{IsTrue}
use Rattle.tao_base.specs.Buckets.{IsInForm}
use Rattle.tao_base.specs.Limits.{Shape}
use Rattle.tao_base.specs.Links.{FitsLinks}
use Rattle.tao_images.specs.Orders.{IsOrderOf, IsIssued}
use Rattle.tao_images.proofs.OrderLemmas.{fits}
use Rattle.tao_desk.specs.State.{DeskState}
use Rattle.tao_desk.proofs.Issues.{issue_is, none_issued, told_by_order}
use Rattle.tao_desk.proofs.desk.Desk.is_issued.Goals as goal

pub returns-then-version-eq0-clause-value : goal.returns-then-version-eq0-clause-value
returns-then-version-eq0-clause-value g c =
    subst (λ (d : DeskState). IsTrue false ↔ IsIssued d.key d.history c.args.order.now) c.self.view_is (none_issued c.self.inside.processor.key c.self.inside.processor.history c.args.order.now c.sound.ensures.proxy.follows (inl c.if-version-eq0.true))

pub returns-then-version-issues-clause-value : goal.returns-then-version-issues-clause-value
returns-then-version-issues-clause-value g c =
    subst (λ (d : DeskState). IsTrue false ↔ IsIssued d.key d.history c.args.order.now) c.self.view_is
    (none_issued c.self.inside.processor.key c.self.inside.processor.history c.args.order.now c.sound.ensures.proxy.follows (inr (subst (λ n. n < c.args.order.now.version) c.issues.ensures c.if-version-issues.true)))

pub is_order-requires-clause-form : goal.is_order-requires-clause-form
is_order-requires-clause-form g c = subst (λ (s : Shape). All (IsInForm s) c.issue_of-nonce.result.1.now) (sym c.params.ensures.value) (issue_is c.self.inside.processor.history.opening c.self.inside.processor.history.events c.args.order.now.version c.issue_of-nonce.result.0 c.issue_of-nonce.result.1.now c.sound.ensures.proxy.follows c.issue_of-nonce.ensures).in_form

pub returns-clause-value : goal.returns-clause-value
returns-clause-value g c =
    subst (λ (d : DeskState). IsTrue c.is_order.result ↔ IsIssued d.key d.history c.args.order.now) c.self.view_is
    (told_by_order c.self.inside.processor.key c.self.inside.processor.history c.issue_of-nonce.result.0 c.issue_of-nonce.result.1.now c.args.order.now c.sound.ensures.proxy.follows c.issue_of-nonce.ensures
    (subst (λ (k : List ℕ). IsTrue c.is_order.result ↔ IsOrderOf k c.self.inside.processor.history.opening.shape c.args.order.now.version c.issue_of-nonce.result.0 c.issue_of-nonce.result.1.now c.args.order.now) c.key.ensures
    (subst (λ (s : Shape). IsTrue c.is_order.result ↔ IsOrderOf c.key.result.now s c.args.order.now.version c.issue_of-nonce.result.0 c.issue_of-nonce.result.1.now c.args.order.now) c.params.ensures.value c.is_order.ensures)))

pub returns-clause-fits : goal.returns-clause-fits
returns-clause-fits g c =
    λ t. subst (λ (s : Shape). FitsLinks s c.args.order.now) (ap (λ (d : DeskState). d.history.opening.shape) c.self.view_is)
    (fits c.self.inside.processor.key c.self.inside.processor.history.opening.shape c.args.order.now.version c.issue_of-nonce.result.0 c.issue_of-nonce.result.1.now c.args.order.now c.params.ensures.shape
    ((subst (λ (k : List ℕ). IsTrue c.is_order.result ↔ IsOrderOf k c.self.inside.processor.history.opening.shape c.args.order.now.version c.issue_of-nonce.result.0 c.issue_of-nonce.result.1.now c.args.order.now) c.key.ensures
    (subst (λ (s : Shape). IsTrue c.is_order.result ↔ IsOrderOf c.key.result.now s c.args.order.now.version c.issue_of-nonce.result.0 c.issue_of-nonce.result.1.now c.args.order.now) c.params.ensures.value c.is_order.ensures)).0 t)
    (issue_is c.self.inside.processor.history.opening c.self.inside.processor.history.events c.args.order.now.version c.issue_of-nonce.result.0 c.issue_of-nonce.result.1.now c.sound.ensures.proxy.follows c.issue_of-nonce.ensures).in_form (issue_is c.self.inside.processor.history.opening c.self.inside.processor.history.events c.args.order.now.version c.issue_of-nonce.result.0 c.issue_of-nonce.result.1.now c.sound.ensures.proxy.follows c.issue_of-nonce.ensures).few)
