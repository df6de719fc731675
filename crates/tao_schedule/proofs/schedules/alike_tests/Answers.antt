use Rattle.tao_schedule.proofs.AlikeSessions.{alike_tests}
use Rattle.tao_schedule.proofs.schedules.alike_tests.Goals as goal

pub returns : goal.returns
returns c = alike_tests
