use Rattle.tao_images.proofs.AnswerLemmas.{scan_reads_first_met}
use Rattle.tao_images.proofs.answers.scan_reads_first_met.Goals as goal

pub returns : goal.returns
returns c = scan_reads_first_met
