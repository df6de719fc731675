use Rattle.std.proofs.Common.{◌-◌, ◌∙◌, length, arith}
use Rattle.std.proofs.lemmas.Grind.{common_steps}
use Rattle.tao_base.proofs.TransferLemmas.{fill_more}
use Rattle.tao_base.proofs.transfers.fill.Goals as goal

pub loop-at-preserved : goal.loop-at-preserved
loop-at-preserved g c =
    let more = fill_more _ _ _ c.loop-at.at c.in_ok-n.n (length c.loop-at.room - c.loop-at.at) c.loop-at.room c.read.new.room c.loop-at.invariant.within (grind (arith, common_steps)) c.loop-at.invariant.came c.in_ok-n.ensures.bytes.0 in
    record {
      within = more.0;
      came = more.1;
      unfailed = c.in_ok-n.ensures.cause.kept ∙ c.loop-at.invariant.unfailed;
      beside = c.in_ok-n.ensures.beside ∙ c.loop-at.invariant.beside;
    }
