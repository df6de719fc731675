use Rattle.std.proofs.Common.{◌≡◌, map}
use Rattle.std.specs.List.{range_with_len}
use Rattle.tao_tape.specs.Tapes.{drawn, key_word}
use Rattle.taostore.proofs.session.key_words.Given as goal

abbrev pub invariant-loop : goal.invariant-loop
invariant-loop l = (l.tape ≡ drawn l.fn.key l.counter) × (l.words ≡ map (key_word l.fn.key) (range_with_len 0 l.counter))
