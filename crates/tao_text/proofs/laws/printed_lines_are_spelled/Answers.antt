use Rattle.tao_text.proofs.PrintLaws.{hex_line_is, words_line_is}
use Rattle.tao_text.proofs.WordLaws.{words_spelled}
use Rattle.tao_text.proofs.laws.printed_lines_are_spelled.Goals as goal

pub returns-clause-read : goal.returns-clause-read
returns-clause-read c = words_spelled

pub returns-clause-words : goal.returns-clause-words
returns-clause-words c = words_line_is

pub returns-clause-hex : goal.returns-clause-hex
returns-clause-hex c = hex_line_is
