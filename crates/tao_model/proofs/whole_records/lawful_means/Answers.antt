use Rattle.tao_model.proofs.WholeToLawful.{lawful_means}
use Rattle.tao_model.proofs.whole_records.lawful_means.Goals as goal

pub returns : goal.returns
returns c = lawful_means
