use Rattle.std.proofs.Common.{rules}
use Rattle.tao_orders.specs.Passes.{share_of}
use Rattle.tao_orders.proofs.ShareLemmas.{whole_again}
use Rattle.tao_orders.proofs.tests.split_and_join.Goals as goal

pub returns : goal.returns
returns c = (
  search rules,
  whole_again (share_of c.args.pass) (share_of c.split-other.new.pass) (share_of c.split-other.result) (share_of c.join.new.pass) c.split-other.ensures.shares c.join.ensures.shares c.requires.1,
)
