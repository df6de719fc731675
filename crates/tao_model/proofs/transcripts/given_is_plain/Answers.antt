use Rattle.tao_model.proofs.GivenReplies.{given_is_plain}
use Rattle.tao_model.proofs.transcripts.given_is_plain.Goals as goal

pub returns : goal.returns
returns c = given_is_plain
