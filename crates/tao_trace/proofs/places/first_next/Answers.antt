use Rattle.std.proofs.Common.{[], ◌∷◌, ◌++◌, ap, sym, ◌∙◌, refl}
use Rattle.tao_trace.proofs.NextPlaces.{range_more}
use Rattle.tao_trace.proofs.places.first_next.Goals as goal

pub loop-block-preserved : goal.loop-block-preserved
loop-block-preserved c = c.in_ok-push.ensures.items ∙ ap (λ l. l ++ c.loop-block.block ∷ []) c.loop-block.invariant ∙ sym (range_more c.loop-block.block _ refl)
