use Rattle.tao_laws.proofs.DistinctPlaces.{distinct_words}
use Rattle.tao_laws.proofs.tape_words.distinct_words.Goals as goal

pub returns : goal.returns
returns c = distinct_words
