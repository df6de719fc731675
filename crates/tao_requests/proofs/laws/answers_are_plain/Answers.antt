use Rattle.tao_requests.proofs.PlainAnswers.{answers_are_plain}
use Rattle.tao_requests.proofs.laws.answers_are_plain.Goals as goal

pub returns : goal.returns
returns c = answers_are_plain
