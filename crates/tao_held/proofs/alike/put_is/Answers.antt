use Rattle.tao_held.proofs.AlikeContents.{put_is}
use Rattle.tao_held.proofs.alike.put_is.Goals as goal

pub returns : goal.returns
returns c = put_is
