use Rattle.tao_holdings.proofs.PutValue.{put_contents}
use Rattle.tao_holdings.proofs.holdings.Holdings.put.Goals as goal

pub returns-clause-contents : goal.returns-clause-contents
returns-clause-contents c =
    put_contents c.self.inside.p c.self.inside.subtree c.self.inside.stash c.put.new.self c.self.inside.positions c.set.new.self c.args.block c.args.value c.args.self.now c.self.view_is
    c.put.ensures.in_order.rises c.put.ensures.value
