use Rattle.tao_world.proofs.Starts.{not_memory}
use Rattle.tao_world.proofs.world.opened_desk.Goals as goal

pub unreachable-requires : goal.unreachable-requires
unreachable-requires c =
    not_memory c.args.script.now.params _ _ c.in_ok-blocks.ensures.count c.in_ok-blocks.ensures.values (λ same. cc) c.in-Err-BlockCount.ensures.refused

pub unreachable-requires-in-Err-BlockLength : goal.unreachable-requires-in-Err-BlockLength
unreachable-requires-in-Err-BlockLength c =
    not_memory c.args.script.now.params _ _ c.in_ok-blocks.ensures.count c.in_ok-blocks.ensures.values (λ same. cc) c.in-Err-BlockLength.ensures.refused
