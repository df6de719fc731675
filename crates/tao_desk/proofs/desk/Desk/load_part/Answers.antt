use Rattle.std.proofs.Common.{◌≤◌, ◌<◌, ◌*◌, List, length, All, sym, ap, ◌∙◌, subst, arith}
use Rattle.tao_base.specs.Buckets.{IsInForm}
use Rattle.tao_base.specs.Limits.{Shape}
use Rattle.tao_base.specs.Links.{FitsLinks, order_limit}
use Rattle.tao_base.specs.Tree.{node_count}
use Rattle.tao_desk.specs.State.{DeskState}
use Rattle.std.specs.Prelude.{take, drop}
use Rattle.tao_base.specs.declared.storage.Bucket.{Bucket}
use Rattle.tao_base.specs.Session.{History}
use Rattle.tao_desk.proofs.LoadParts.{load_len, part_in_form, part_is_few}
use Rattle.tao_desk.proofs.desk.Desk.load_part.Goals as goal

pub part_of-buckets-requires : goal.part_of-buckets-requires
part_of-buckets-requires g c =
    subst (λ (bs : List Bucket). 256 * c.args.part ≤ length bs) (sym (c.loaded.ensures ∙ ap (λ (h : History). h.opening.loaded) c.history.ensures))
    (let all = load_len c.self.inside.processor.history.opening c.sound.ensures.proxy.opens in
    let within = subst (λ (d : DeskState). 256 * c.args.part < node_count d.history.opening.shape.l) (sym c.self.view_is) c.requires in
    omega arith)

pub new_order-requires-clause-form : goal.new_order-requires-clause-form
new_order-requires-clause-form g c =
    subst (λ (s : Shape). All (IsInForm s) c.part_of-buckets.result.now) (sym c.params.ensures.value)
    (subst (λ (bs : List Bucket). All (IsInForm c.self.inside.processor.history.opening.shape) bs) (sym (c.part_of-buckets.ensures ∙ ap (λ (bs : List Bucket). take 256 (drop (256 * c.args.part) bs)) (c.loaded.ensures ∙ ap (λ (h : History). h.opening.loaded) c.history.ensures))) (part_in_form c.self.inside.processor.history.opening (256 * c.args.part) c.sound.ensures.proxy.opens))

pub new_order-requires-clause-few : goal.new_order-requires-clause-few
new_order-requires-clause-few g c =
    subst (λ (s : Shape). length c.part_of-buckets.result.now ≤ order_limit s) (sym c.params.ensures.value)
    (subst (λ (bs : List Bucket). length bs ≤ order_limit c.self.inside.processor.history.opening.shape) (sym (c.part_of-buckets.ensures ∙ ap (λ (bs : List Bucket). take 256 (drop (256 * c.args.part) bs)) (c.loaded.ensures ∙ ap (λ (h : History). h.opening.loaded) c.history.ensures))) (part_is_few c.self.inside.processor.history.opening (256 * c.args.part) c.sound.ensures.proxy.opens))

pub returns-clause-fits : goal.returns-clause-fits
returns-clause-fits g c =
    subst (λ (s : Shape). FitsLinks s c.in_ok-out.field-0) (c.params.ensures.value ∙ ap (λ (d : DeskState). d.history.opening.shape) c.self.view_is) c.in_ok-out.ensures.fits
