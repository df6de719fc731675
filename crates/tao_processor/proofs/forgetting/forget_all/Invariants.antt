use Rattle.std.proofs.Common.{take}
use Rattle.tao_model.specs.Trace.{nodes_in}
use Rattle.tao_processor.specs.Steps.{Forgets}
use Rattle.tao_processor.proofs.forgetting.forget_all.Given as goal

abbrev pub invariant-loop-i : goal.invariant-loop-i
invariant-loop-i l = Forgets l.version (take l.i (nodes_in l.buckets)) l.fn.holdings l.holdings
