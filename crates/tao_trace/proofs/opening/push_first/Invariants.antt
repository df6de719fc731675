use Rattle.std.proofs.Common.{◌≡◌, ◌++◌, flat_map}
use Rattle.std.specs.List.{range_with_len}
use Rattle.tao_model.specs.Transcript.{first_line}
use Rattle.tao_trace.proofs.opening.push_first.Given as goal

abbrev pub invariant-loop-id : goal.invariant-loop-id
invariant-loop-id l = l.out ≡ l.fn.out ++ flat_map (first_line l.blocks) (range_with_len 0 l.id)
