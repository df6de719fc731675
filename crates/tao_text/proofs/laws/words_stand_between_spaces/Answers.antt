use Rattle.tao_text.proofs.WordLaws.{words_of_one, words_of_two}
use Rattle.tao_text.proofs.Cuts.{words_none}
use Rattle.std.proofs.Common.{[], refl}
use Rattle.tao_text.proofs.laws.words_stand_between_spaces.Goals as goal

pub returns-clause-none : goal.returns-clause-none
returns-clause-none c = words_none [] refl

pub returns-clause-one : goal.returns-clause-one
returns-clause-one c = words_of_one

pub returns-clause-two : goal.returns-clause-two
returns-clause-two c = words_of_two
