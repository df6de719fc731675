use Rattle.tao_model.proofs.EndingFaults.{faults_agree}
use Rattle.tao_model.proofs.faults.faults_agree.Goals as goal

pub returns : goal.returns
returns c = faults_agree
