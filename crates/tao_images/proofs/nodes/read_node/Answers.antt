use Rattle.std.proofs.Common.{◌≡◌, ◌==◌, ◌&&◌, not, drop, sym, ap, ◌∙◌, subst}
use Rattle.std.specs.Prelude.{IsSomeAnd}
use Rattle.tao_base.specs.Limits.{slots_len}
use Rattle.tao_bucket.specs.Encoding.{Encodes}
use Rattle.tao_base.specs.Transfers.{same}
use Rattle.tao_images.proofs.Refusals.{held_by}
use Rattle.tao_images.proofs.nodes.read_node.Goals as goal

pub returns-clause-found : goal.returns-clause-found
returns-clause-found c =
    held_by c.args.key.now c.args.p.now c.args.version c.args.tag.now c.args.node c.args.bytes.now c.decode.new.room.held c.in-Ok.ensures.value
    (subst (λ format. IsSomeAnd c.decode.new.room.held (λ bucket. (bucket.node ≡ c.args.node) × Encodes c.args.key.now c.args.p.now format bucket c.args.bytes.now)) c.format_of-format.ensures.value c.in-Ok.ensures.found)
    (sym c.version_of-found.ensures ∙ c.if-found-version.false)
    (ap (λ format. format == 2 && not (same (drop (slots_len c.args.p.now.z c.args.p.now.b) c.args.bytes.now) c.args.tag.now)) (sym c.format_of-format.ensures.value) ∙ sym c.has_other_tag.ensures ∙ c.if-has_other_tag.false)
