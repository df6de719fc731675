use Rattle.taostore.proofs.WordLemmas.{is_one_word}
use Rattle.taostore.proofs.commands.is_play.Goals as goal

pub returns-in-len1 : goal.returns-in-len1
returns-in-len1 c =
    is_one_word _ _ _ _ _ c.in-len1.len_at_least c.in-len1.len_below c.word-item.is c.as_str.ensures.value c.eq.ensures
