use Rattle.tao_held.proofs.AlikeContents.{put_is_gathered}
use Rattle.tao_held.proofs.alike.put_is_gathered.Goals as goal

pub returns : goal.returns
returns c = put_is_gathered
