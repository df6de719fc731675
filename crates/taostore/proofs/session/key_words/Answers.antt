use Rattle.std.proofs.Common.{◌+◌, ◌++◌, [], ◌∷◌, ap, ap₂, sym, ◌∙◌, arith}
use Rattle.std.proofs.lemmas.List.FromFn.{map-range_with_len_more}
use Rattle.tao_tape.specs.Tapes.{Drawn, drawn, key_word}
use Rattle.taostore.proofs.session.key_words.Goals as goal

pub loop-preserved : goal.loop-preserved
loop-preserved c =
    let key = c.args.key in
    let i = c.loop.counter in
    let at = c.loop.invariant.0 in
    let word = c.next.ensures.word ∙ ap (λ (t : Drawn). key_word t.source t.place) at in
    let one = ap₂ (λ words word. words ++ word ∷ []) c.loop.invariant.1 word in (
      ap₂ drawn (c.next.ensures.source ∙ ap (λ (t : Drawn). t.source) at) (c.next.ensures.place ∙ ap (λ (t : Drawn). t.place + 1) at),
      c.in_ok-push.ensures.ok ∙ one ∙ sym (map-range_with_len_more (key_word key) 0 i i (omega arith)),
    )
