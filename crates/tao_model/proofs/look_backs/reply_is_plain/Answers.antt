use Rattle.tao_model.proofs.PlainArrays.{reply_is_plain}
use Rattle.tao_model.proofs.look_backs.reply_is_plain.Goals as goal

pub returns : goal.returns
returns c = reply_is_plain
