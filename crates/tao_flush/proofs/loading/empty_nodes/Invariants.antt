use Rattle.std.proofs.Common.{◌≡◌, ◌-◌, [], map}
use Rattle.std.specs.List.{range_with_len}
use Rattle.tao_model.specs.Evictions.{first_bucket}
use Rattle.tao_flush.proofs.loading.empty_nodes.Given as goal

abbrev pub invariant-loop-node : goal.invariant-loop-node
invariant-loop-node l = l.nodes.items ≡ map (first_bucket (λ w. [])) (range_with_len 1 (l.node - 1))
