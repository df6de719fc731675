use Rattle.tao_model.proofs.WorkedRecords.{worked_are_lawful}
use Rattle.tao_model.proofs.worked.worked_are_lawful.Goals as goal

pub returns : goal.returns
returns c = worked_are_lawful
