use Rattle.std.proofs.Common.{◌≡◌, length}
use Rattle.tao_text.specs.Forms.{numbers_of}
use Rattle.tao_text.specs.Words.{words}
use Rattle.tao_text.proofs.Tapes.{with_front}
use Rattle.tao_text.proofs.forms.numbers_of.Given as goal

abbrev pub invariant-loop-word : goal.invariant-loop-word
invariant-loop-word l = with_front l.numbers (numbers_of (words l.rest)) ≡ numbers_of (words l.line)

abbrev pub decreases-loop-word : goal.decreases-loop-word
decreases-loop-word l = length l.rest
