use Rattle.tao_trace.proofs.Ranges.{two_pieces}
use Rattle.tao_trace.proofs.Kept.{fit_of}
use Rattle.tao_trace.proofs.Released.{has_flag}
use Rattle.tao_trace.proofs.Texts.{done_releases}
use Rattle.tao_trace.proofs.tables.Tables.push_done.Goals as goal

pub released_after-end-requires : goal.released_after-end-requires
released_after-end-requires c = has_flag _ _ _ _ _ (fit_of _ _ _ _ _ c.self.view_is c.self.invariant.arrivals).tables.tape.dones (c.requires.1).follows

pub push_replies-requires-clause-low : goal.push_replies-requires-clause-low
push_replies-requires-clause-low c =
    (done_releases _ c.args.self.now.again _ _ _ _ _ _ _ _ (fit_of _ _ _ _ _ c.self.view_is c.self.invariant.arrivals) c.requires.1 c.released-released.ensures c.released_after-end.ensures).low

pub push_replies-requires-clause-high : goal.push_replies-requires-clause-high
push_replies-requires-clause-high c =
    (done_releases _ c.args.self.now.again _ _ _ _ _ _ _ _ (fit_of _ _ _ _ _ c.self.view_is c.self.invariant.arrivals) c.requires.1 c.released-released.ensures c.released_after-end.ensures).high

pub returns-clause-ok : goal.returns-clause-ok
returns-clause-ok c = two_pieces _ _ _ _ _ _ c.in_ok-line_words.ensures.ok c.in_ok-push_replies.ensures.ok
    (done_releases _ c.args.self.now.again _ _ _ _ _ _ _ _ (fit_of _ _ _ _ _ c.self.view_is c.self.invariant.arrivals) c.requires.1 c.released-released.ensures c.released_after-end.ensures).text
