use Rattle.std.proofs.Common.{◌≡◌, ◌++◌, take, flat_map}
use Rattle.tao_base.specs.Lines.{spaced}
use Rattle.tao_trace.proofs.requests.push_numbers.Given as goal

abbrev pub invariant-loop-number : goal.invariant-loop-number
invariant-loop-number l = l.out ≡ l.fn.out ++ flat_map spaced (take l.number-index l.numbers)
