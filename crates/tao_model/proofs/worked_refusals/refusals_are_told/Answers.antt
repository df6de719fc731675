use Rattle.tao_model.proofs.RefusedRecords.{refusals_are_told}
use Rattle.tao_model.proofs.worked_refusals.refusals_are_told.Goals as goal

pub returns : goal.returns
returns c = refusals_are_told
