use Rattle.tao_model.proofs.NewestWrites.{newest_is_greatest}
use Rattle.tao_model.proofs.look_backs.newest_is_greatest.Goals as goal

pub returns : goal.returns
returns c = newest_is_greatest
