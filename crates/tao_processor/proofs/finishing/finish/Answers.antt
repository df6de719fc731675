use Rattle.tao_processor.proofs.Finished.{finished}
use Rattle.tao_processor.proofs.finishing.finish.Goals as goal

pub returns-clause-done : goal.returns-clause-done
returns-clause-done c =
    finished c.args.arrival c.args.leaf c.args.word c.args.holdings.now c.settle_where_real.new.holdings c.evict.new.self c.args.requests.now c.settle_where_real.new.requests
    c.settle_where_real.ensures.done c.evict.ensures.held c.evict.ensures.contents c.evict.ensures.others
