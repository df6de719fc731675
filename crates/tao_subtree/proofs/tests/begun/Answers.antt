use Rattle.std.proofs.Common.{ap}
use Rattle.tao_subtree.specs.Residents.{SubtreeState}
use Rattle.tao_subtree.proofs.StateLemmas.{few_begun}
use Rattle.tao_subtree.proofs.tests.begun.Goals as goal

pub returns-clause-few : goal.returns-clause-few
returns-clause-few c =
    few_begun c.in_ok-p.p c.in_ok-subtree.subtree c.begin_fetch.new.self c.reserve.new.self 0 c.in_ok-subtree.ensures c.begin_fetch.ensures
    (ap (λ (state : SubtreeState). state.counts) c.in_ok-reserve.ensures.ok)
