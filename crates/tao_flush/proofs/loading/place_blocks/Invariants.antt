use Rattle.std.proofs.Common.{◌≡◌, ◌≤◌, vec_len, vec_capacity}
use Rattle.tao_base.specs.Tree.{node_count}
use Rattle.tao_model.specs.Evictions.{load_buckets}
use Rattle.tao_flush.specs.State.{leaf_in}
use Rattle.tao_flush.specs.Loads.{loaded_first}
use Rattle.tao_flush.proofs.loading.place_blocks.Given as goal

abbrev pub invariant-loop-id : goal.invariant-loop-id
invariant-loop-id l = record {
  nodes : l.nodes.items ≡ load_buckets l.p (loaded_first l.p (leaf_in l.positions) l.blocks l.id);
  rest : l.rest.items ≡ loaded_first l.p (leaf_in l.positions) l.blocks l.id 0;
  count : vec_len l.nodes ≡ node_count l.p.l;
  few : vec_len l.rest ≤ l.id;
  capacity : vec_capacity l.fn.rest ≤ vec_capacity l.rest;
}
