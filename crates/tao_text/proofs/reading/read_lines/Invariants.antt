use Rattle.std.proofs.Common.{◌≡◌, ◌+◌, ◌^◌, ◌≤◌, length, None}
use Rattle.tao_text.specs.Scripts.{lines_with}
use Rattle.tao_text.specs.Words.{lines}
use Rattle.tao_text.proofs.reading.read_lines.Given as goal

abbrev pub invariant-loop-line : goal.invariant-loop-line
invariant-loop-line l = record {
  same : lines_with l.text l.draft l.number (lines l.rest) ≡ lines_with l.text None 1 (lines l.bytes);
  few : l.number + length l.rest ≤ 2 ^ 24 + 1;
}

abbrev pub decreases-loop-line : goal.decreases-loop-line
decreases-loop-line l = length l.rest
