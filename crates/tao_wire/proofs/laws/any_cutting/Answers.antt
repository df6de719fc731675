use Rattle.std.proofs.Common.{[]}
use Rattle.tao_wire.specs.Runs.{fed, handed}
use Rattle.tao_wire.proofs.Streams.{front_of, splits_run}
use Rattle.tao_wire.proofs.laws.any_cutting.Goals as goal

pub returns-clause-first : goal.returns-clause-first
returns-clause-first c limit turns left rest messages fault small run stream =
    let front = front_of limit (fed turns) left rest (handed turns) messages fault small (splits_run limit [] left turns run) stream in (front.0, front.1)

pub returns-clause-all : goal.returns-clause-all
returns-clause-all c limit turns left fault run end = record { splits = splits_run limit [] left turns run; end = end }
