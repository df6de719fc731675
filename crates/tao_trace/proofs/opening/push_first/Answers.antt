use Rattle.std.proofs.Common.{arith}
use Rattle.tao_model.specs.Transcript.{first_line}
use Rattle.tao_trace.proofs.Ranges.{appended_more}
use Rattle.tao_trace.proofs.opening.push_first.Goals as goal

pub loop-id-preserved : goal.loop-id-preserved
loop-id-preserved c = appended_more (first_line c.args.blocks.now) _ _ _ 0 c.loop-id.id c.loop-id.id (omega arith) c.in_ok-push_first_value.ensures.ok c.loop-id.invariant
