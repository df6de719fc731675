use Rattle.std.proofs.Common.{refl}
use Rattle.std.specs.Fmt.{digits}
use Rattle.hex.specs.Hex.{encode_with}
use Rattle.tao_base.specs.Lines.{spaced, spaced_hex, words_line, hex_line}
use Rattle.tao_model.proofs.worked_resends.given_are_told.Goals as goal

pub returns : goal.returns
unfolding digits encode_with spaced spaced_hex words_line hex_line
returns c = refl
