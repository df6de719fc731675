use Rattle.tao_text.proofs.WordLaws.{lines_of_one, lines_of_two}
use Rattle.tao_text.proofs.Cuts.{lines_none}
use Rattle.std.proofs.Common.{[], refl}
use Rattle.tao_text.proofs.laws.lines_end_with_a_byte.Goals as goal

pub returns-clause-none : goal.returns-clause-none
returns-clause-none c = lines_none [] refl

pub returns-clause-one : goal.returns-clause-one
returns-clause-one c = lines_of_one

pub returns-clause-two : goal.returns-clause-two
returns-clause-two c = lines_of_two
