-- The blocks to spare, once those of the entries are among them.
use Rattle.std.proofs.Common.{ap, ◌∙◌}
use Rattle.tao_bucket.proofs.Stocks.{all_blocks}
use Rattle.tao_bucket.proofs.room.Room.take_in.Goals as goal

pub fill-requires-clause-values : goal.fill-requires-clause-values
fill-requires-clause-values c =
    all_blocks c.self.inside.b c.args.p.now.b c.self.inside.spare.items c.release.new.spare.items c.self.inside.bucket.entries (ap (λ r. r.b) c.self.view_is ∙ c.requires.b) c.release.ensures.spare c.self.invariant.spare_values c.self.invariant.entry_values
