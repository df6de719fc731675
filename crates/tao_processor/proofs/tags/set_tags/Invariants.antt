-- The first nodes have their tags.
use Rattle.tao_processor.specs.Tags.{SetsTags}
use Rattle.tao_processor.proofs.tags.set_tags.Given as goal

abbrev pub invariant-loop-i : goal.invariant-loop-i
invariant-loop-i l = SetsTags l.p l.order l.i l.fn.tags l.tags
