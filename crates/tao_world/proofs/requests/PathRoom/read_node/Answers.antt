use Rattle.std.proofs.Common.{◌+◌, ◌*◌, ◌≤◌, length, sym, ap, ◌∙◌, subst}
use Rattle.tao_base.specs.Limits.{bucket_len}
use Rattle.tao_world.specs.World.{RoomState}
use Rattle.tao_world.proofs.LoadParts.{bucket_within}
use Rattle.tao_world.proofs.requests.PathRoom.read_node.Goals as goal

pub read_bucket-requires-clause-within : goal.read_bucket-requires-clause-within
read_bucket-requires-clause-within c =
    let len = c.bucket_len-len.ensures.value ∙ ap bucket_len c.params.ensures.value in
    subst (λ n. c.args.d * n + n ≤ length c.deref_mut.result.now) (sym len)
    (bucket_within (bucket_len c.args.tree.now.shape) c.args.d (length c.args.self.now.read) (length c.deref_mut.result.now) c.requires.depth
    (ap length c.deref_mut.ensures.value ∙ ap (λ (r : RoomState). length r.bytes) c.self.view_is ∙ c.requires.bytes))
