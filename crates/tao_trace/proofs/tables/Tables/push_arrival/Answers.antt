use Rattle.std.proofs.Common.{arith, ◌∙◌}
use Rattle.tao_trace.proofs.Ranges.{two_pieces}
use Rattle.tao_trace.proofs.Kept.{fit_of}
use Rattle.tao_trace.proofs.Texts.{arrive_text}
use Rattle.tao_trace.proofs.tables.Tables.push_arrival.Goals as goal

pub returns-clause-ok : goal.returns-clause-ok
returns-clause-ok c = two_pieces _ _ _ _ _ _ c.in_ok-push_arrive.ensures.ok c.in_ok-line_words.ensures.ok
    (arrive_text _ c.args.self.now.again _ _ _ _ _ _ _ _ _ (fit_of _ _ _ _ _ c.self.view_is c.self.invariant.arrivals) c.requires.next (let len = c.self.inside.told.ok.0 in let is = c.len-arrival.ensures in omega arith) (c.from.ensures ∙ c.leaf_for.ensures))
