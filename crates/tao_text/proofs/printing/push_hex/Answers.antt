use Rattle.tao_text.proofs.Appended.{extends_further, hex_goes_on}
use Rattle.tao_text.proofs.printing.push_hex.Goals as goal

pub loop-rest-preserved : goal.loop-rest-preserved
loop-rest-preserved c =
    let at = c.loop-rest in
    record {
      text = rw (c.in_ok-push_chunk.ensures.ok, c.split_at.ensures.front, c.split_at.ensures.back) (hex_goes_on 64 at.out at.rest.now _ at.invariant.text);
      kept = rw c.in_ok-push_chunk.ensures.ok (extends_further c.args.out.now at.out _ at.invariant.kept);
    }
