use Rattle.std.proofs.Common.{◌≤◌, ◌+◌, ◌∙◌, length, arith}
use Rattle.std.proofs.lemmas.Grind.{common_steps}
use Rattle.tao_base.proofs.TransferLemmas.{put_more}
use Rattle.tao_base.proofs.transfers.write_all.Goals as goal

pub loop-at-preserved : goal.loop-at-preserved
loop-at-preserved g c =
    let before = c.loop-at.invariant in
    let made = c.in_ok-at.ensures in
    let taken = made.taken in
    let within : c.loop-at.at + c.in_ok-at.field-0 ≤ length c.args.bytes.now = grind (arith, common_steps) in
    record {
      within = within;
      put = put_more _ _ _ _ _ _ _ _ before.put taken.1 made.bytes made.cause.kept;
      apart = made.apart ∙ before.apart;
    }
