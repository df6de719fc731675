use Rattle.tao_tables.proofs.ServedAnswers.{block_is_same}
use Rattle.tao_tables.proofs.answers.block_is_same.Goals as goal

pub returns : goal.returns
returns c = block_is_same
