use Rattle.tao_schedule.proofs.AlikeSessions.{tests_need_no_op}
use Rattle.tao_schedule.proofs.schedules.tests_need_no_op.Goals as goal

pub returns : goal.returns
returns c = tests_need_no_op
