use Rattle.tao_laws.proofs.RightValues.{right_value}
use Rattle.tao_laws.proofs.open_requests.right_value.Goals as goal

pub returns : goal.returns
returns c = right_value
