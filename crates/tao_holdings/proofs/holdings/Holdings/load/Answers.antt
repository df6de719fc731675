use Rattle.std.proofs.Common.{ap, subst}
use Rattle.std.specs.Prelude.{slice_index}
use Rattle.tao_base.specs.Limits.{Shape}
use Rattle.tao_base.specs.Tree.{leaf_of}
use Rattle.tao_flush.specs.Loads.{IsLoaded}
use Rattle.tao_flush.specs.State.{PositionsState}
use Rattle.tao_holdings.proofs.holdings.Holdings.load.Goals as goal

pub returns-clause-loaded : goal.returns-clause-loaded
returns-clause-loaded c =
    subst (λ (s : Shape). IsLoaded c.args.p.now (λ b. leaf_of s.l (slice_index c.in_ok-positions.positions.words b)) c.args.blocks.now c.in_ok-buckets.buckets c.in_ok-buckets.stash.entries)
    (ap (λ (p : PositionsState). p.shape) c.in_ok-positions.ensures) c.in_ok-buckets.ensures.loaded
