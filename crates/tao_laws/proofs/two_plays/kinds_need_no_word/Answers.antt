use Rattle.tao_laws.proofs.KindsAlone.{kinds_need_no_word}
use Rattle.tao_laws.proofs.two_plays.kinds_need_no_word.Goals as goal

pub returns : goal.returns
returns c = kinds_need_no_word
