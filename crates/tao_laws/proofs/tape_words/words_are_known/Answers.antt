use Rattle.tao_laws.proofs.DistinctPlaces.{words_are_known}
use Rattle.tao_laws.proofs.tape_words.words_are_known.Goals as goal

pub returns : goal.returns
returns c = words_are_known
