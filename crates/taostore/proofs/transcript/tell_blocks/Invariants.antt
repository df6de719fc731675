use Rattle.std.proofs.Common.{◌++◌, flat_map}
use Rattle.std.specs.List.{range_with_len}
use Rattle.tao_model.specs.Transcript.{block_line}
use Rattle.taostore.specs.Output.{Tells}
use Rattle.taostore.proofs.transcript.tell_blocks.Given as goal

abbrev pub invariant-loop-id : goal.invariant-loop-id
invariant-loop-id g l = Tells g.K.Sink.put g.K.Sink.faults l.fn.sink l.sink (l.fn.waiting ++ flat_map (block_line l.blocks) (range_with_len 0 l.id)) l.waiting
