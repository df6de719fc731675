use Rattle.std.proofs.Common.{[], ◌≡◌, ◌<◌, ◌-◌, length, ap, ◌∙◌, arith}
use Rattle.std.proofs.lemmas.List.Elements.{All-set}
use Rattle.tao_plain_desk.proofs.PathBuckets.{gathered_more, at_node}
use Rattle.tao_plain_desk.proofs.paths.gather.Goals as goal

-- the bucket that was copied is the one at the path's node
pub loop-depth-preserved : goal.loop-depth-preserved
loop-depth-preserved c =
    let within : c.path_node-node.result - 1 < length c.args.server.now = omega arith in
    let copied = c.copy_header.ensures in (
      gathered_more _ _ _ _ _ _ (omega arith) c.loop-depth.invariant.0
          (copied ∙ at_node _ _ _ _ c.path_node-node.ensures.value within c.index-server-node.is),
      All-set (λ b. b.entries ≡ []) _ _ _
          (ap (λ b. b.entries) (copied ∙ c.index-server-node.is) ∙ c.requires.server_empty (c.path_node-node.result - 1) c.index-server-node.result within)
          c.loop-depth.invariant.1,
    )
