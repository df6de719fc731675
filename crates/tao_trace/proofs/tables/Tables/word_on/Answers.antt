use Rattle.tao_trace.proofs.Kept.{fit_of, word_real, word_own}
use Rattle.tao_trace.proofs.tables.Tables.word_on.Goals as goal

pub returns-then-is_free : goal.returns-then-is_free
returns-then-is_free c =
    word_real _ _ _ _ _ (fit_of _ _ _ _ _ c.self.view_is c.self.invariant.arrivals) c.args.block c.args.word c.next_word.result c.is_free.result c.requires
    c.is_free.ensures c.if-is_free.true c.next_word.ensures

pub returns-else-is_free : goal.returns-else-is_free
returns-else-is_free c =
    word_own _ _ _ _ _ (fit_of _ _ _ _ _ c.self.view_is c.self.invariant.arrivals) c.args.block c.args.word c.is_free.result c.requires c.is_free.ensures c.if-is_free.false
