-- Each turn xors the four bytes of a word; less than a word is left at the end.
use Rattle.std.proofs.Common.{◌*◌, ◌/◌, length, refl, ap, ◌∙◌, arith}
use Rattle.std.specs.Int.{w32, to_le_bytes}
use Rattle.tao_tape.proofs.Streams.{drawn_word, drawn_stream, xored_more, all_xored}
use Rattle.tao_tape.proofs.keystream.xor_stream.Goals as goal

pub loop-i-preserved : goal.loop-i-preserved
loop-i-preserved c =
    let before = c.loop-i.invariant in
    let word = drawn_word c.args.key.now c.args.nonce c.loop-i.i c.loop-i.stream c.next_word.new.self c.next_word.result before.stream c.next_word.ensures in
    record {
      stream = drawn_stream c.args.key.now c.args.nonce c.loop-i.i c.loop-i.stream c.next_word.new.self c.next_word.result before.stream (omega arith) c.next_word.ensures;
      done = λ t h. xored_more c.args.key.now c.args.nonce c.loop-i.i (4 * c.loop-i.i) c.args.bytes.now c.loop-i.bytes c.xor_word.new.bytes c.to_le_bytes.result refl (c.to_le_bytes.ensures ∙ ap (to_le_bytes w32) word) before.done before.rest (λ k four _. c.xor_word.ensures.within k four) c.xor_word.ensures.below t h (omega arith);
      rest = λ t h. c.xor_word.ensures.above t (omega arith) ∙ before.rest t (omega arith);
    }

pub returns-then-words-bytes : goal.returns-then-words-bytes
returns-then-words-bytes c =
    let before = c.loop-i.invariant in
    let word = drawn_word c.args.key.now c.args.nonce c.loop-i.i c.loop-i.stream c.next_word-then-words-bytes.new.self c.next_word-then-words-bytes.result before.stream c.next_word-then-words-bytes.ensures in
    all_xored c.args.key.now c.args.nonce c.args.bytes.now c.xor_last.new.bytes (omega arith) (λ t h. xored_more c.args.key.now c.args.nonce c.loop-i.i (4 * (length c.args.bytes.now / 4)) c.args.bytes.now c.loop-i.bytes c.xor_last.new.bytes c.to_le_bytes-then-words-bytes.result (omega arith) (c.to_le_bytes-then-words-bytes.ensures ∙ ap (to_le_bytes w32) word) before.done before.rest (λ k _ within. c.xor_last.ensures.within k (omega arith)) c.xor_last.ensures.below t (omega arith) h)

pub returns-else-words-bytes : goal.returns-else-words-bytes
returns-else-words-bytes c = all_xored c.args.key.now c.args.nonce c.args.bytes.now c.loop-i.bytes (omega arith) (λ t h. c.loop-i.invariant.done t (omega arith))
