use Rattle.tao_requests.proofs.PlainAnswers.{value_is_plain}
use Rattle.tao_requests.proofs.laws.value_is_plain.Goals as goal

pub returns : goal.returns
returns c = value_is_plain
