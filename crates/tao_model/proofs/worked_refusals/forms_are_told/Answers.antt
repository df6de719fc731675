use Rattle.tao_model.proofs.RefusedRecords.{forms_are_told}
use Rattle.tao_model.proofs.worked_refusals.forms_are_told.Goals as goal

pub returns : goal.returns
returns c = forms_are_told
