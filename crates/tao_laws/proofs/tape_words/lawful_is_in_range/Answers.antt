use Rattle.tao_laws.proofs.DistinctPlaces.{lawful_is_in_range}
use Rattle.tao_laws.proofs.tape_words.lawful_is_in_range.Goals as goal

pub returns : goal.returns
returns c = lawful_is_in_range
