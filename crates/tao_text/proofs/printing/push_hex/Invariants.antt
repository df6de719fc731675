use Rattle.std.proofs.Common.{◌≡◌, ◌∷◌, ◌++◌, length}
use Rattle.hex.specs.Hex.{encode_lower}
use Rattle.tao_text.specs.Lines.{Extends}
use Rattle.tao_text.proofs.printing.push_hex.Given as goal

abbrev pub invariant-loop-rest : goal.invariant-loop-rest
invariant-loop-rest l = record {
  text : l.out ++ encode_lower l.rest ≡ l.fn.out ++ 32 ∷ encode_lower l.fn.bytes;
  kept : Extends l.fn.out l.out;
}

abbrev pub decreases-loop-rest : goal.decreases-loop-rest
decreases-loop-rest l = length l.rest
