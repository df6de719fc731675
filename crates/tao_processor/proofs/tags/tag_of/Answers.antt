use Rattle.std.proofs.Common.{ap, ◌∙◌, drop}
use Rattle.tao_base.specs.Limits.{slots_len}
use Rattle.tao_bucket.proofs.Whole.{tag_of_encoded}
use Rattle.tao_processor.proofs.tags.tag_of.Goals as goal

pub returns : goal.returns
returns c =
    c.copy_tag.ensures ∙ ap (drop (slots_len c.args.p.now.z c.args.p.now.b)) c.encode_into.ensures.written ∙ tag_of_encoded c.args.key.now c.args.p.now c.args.bucket.now c.requires.form c.encode_into.ensures.entries
