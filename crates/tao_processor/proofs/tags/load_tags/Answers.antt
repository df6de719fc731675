use Rattle.std.proofs.Common.{List, ℕ, replicate, sym, subst}
use Rattle.std.proofs.lemmas.Result.{IfOk-weaker}
use Rattle.tao_processor.specs.Tags.{HasTagsOf}
use Rattle.tao_processor.proofs.TagsKept.{loaded_tags}
use Rattle.tao_processor.proofs.tags.load_tags.Goals as goal

pub returns-in-Two : goal.returns-in-Two
returns-in-Two c = IfOk-weaker c.tags_in_turn.result _ (λ tags. HasTagsOf c.args.key.now c.args.p.now c.args.loaded.now tags.items)
    (λ tags is. subst (λ (ts : List (List ℕ)). HasTagsOf c.args.key.now c.args.p.now c.args.loaded.now ts) (sym is) (loaded_tags c.args.key.now c.args.p.now c.args.loaded.now (replicate 32 0) c.requires.nodes))
    c.tags_in_turn.ensures
