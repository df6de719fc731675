use Rattle.std.proofs.Common.{◌≡◌, ◌++◌, take, flat_map}
use Rattle.tao_model.specs.Trace.{again_of}
use Rattle.tao_trace.specs.Printing.{printed}
use Rattle.tao_trace.proofs.tables.Tables.trace_again.Given as goal

abbrev pub invariant-loop-version : goal.invariant-loop-version
invariant-loop-version l = l.trace ≡ l.fn.trace ++ flat_map (again_of (printed l.self)) (take l.version-index l.versions)
