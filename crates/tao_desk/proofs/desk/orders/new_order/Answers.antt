use Rattle.tao_images.proofs.OrderLemmas.{fits}
use Rattle.tao_desk.proofs.desk.orders.new_order.Goals as goal

pub returns-clause-fits : goal.returns-clause-fits
returns-clause-fits c =
    fits c.args.key.now c.args.p.now c.args.version c.args.nonce c.args.buckets.now c.write_order.new.order c.l-within.ensures.shape c.write_order.ensures c.requires.form c.requires.few
