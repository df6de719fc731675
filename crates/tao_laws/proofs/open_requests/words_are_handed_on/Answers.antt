use Rattle.tao_laws.proofs.HandedWords.{words_are_handed_on}
use Rattle.tao_laws.proofs.open_requests.words_are_handed_on.Goals as goal

pub returns : goal.returns
returns c = words_are_handed_on
