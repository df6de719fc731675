use Rattle.tao_schedule.proofs.TwinScripts.{twin_script_is_allowed}
use Rattle.tao_schedule.proofs.twins.twin_script_is_allowed.Goals as goal

pub returns : goal.returns
returns c = twin_script_is_allowed
