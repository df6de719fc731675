use Rattle.std.proofs.Common.{◌<◌, [], ◌++◌, length, sym, ap, ◌∙◌, arith}
use Rattle.std.specs.Option.{option_to_list}
use Rattle.std.proofs.lemmas.Grind.{common_steps}
use Rattle.tao_model.specs.Evictions.{load_buckets}
use Rattle.tao_flush.specs.State.{leaf_in}
use Rattle.tao_flush.specs.Loads.{loaded_first}
use Rattle.tao_flush.proofs.Loaded.{buckets_len, next_block, all_loaded}
use Rattle.tao_flush.proofs.loading.place_blocks.Goals as goal

pub loop-id-init : goal.loop-id-init
loop-id-init c = record {
  nodes = c.requires.nodes;
  rest = c.requires.rest;
  count = let len = ap length c.requires.nodes in let all = buckets_len c.args.p.now (λ w. []) in omega arith;
  few = let len = ap length c.requires.rest in omega arith;
  capacity = omega arith;
}

pub loop-id-preserved : goal.loop-id-preserved
loop-id-preserved c =
    let below : c.loop-id.id < c.args.p.now.n = omega arith in
    let next = next_block c.args.p.now (leaf_in c.args.positions.now) c.args.blocks.now c.loop-id.id c.in_ok-value.value c.index-blocks-id.result below c.requires.count (grind (arith, common_steps)) in
    let placed = c.place_block-back.ensures.placed (loaded_first c.args.p.now (leaf_in c.args.positions.now) c.args.blocks.now c.loop-id.id) c.loop-id.invariant.nodes in
    let kept = c.keep.ensures in
    let nodes = c.place_block-back.ensures.nodes in record {
      nodes = placed.0 ∙ ap (load_buckets c.args.p.now) next;
      rest = kept.items ∙ ap (λ rest. rest ++ option_to_list c.place_block-back.result) c.loop-id.invariant.rest ∙ sym placed.1 ∙ ap (λ contents. contents 0) next;
      count = nodes ∙ c.loop-id.invariant.count;
      few = let before = c.loop-id.invariant.few in let len = kept.len in omega arith;
      capacity = let before = c.loop-id.invariant.capacity in let grown = kept.capacity in omega (arith, before, grown);
    }

pub returns-clause-nodes : goal.returns-clause-nodes
returns-clause-nodes c =
    c.loop-id.invariant.nodes ∙ ap (load_buckets c.args.p.now) (all_loaded c.args.p.now (leaf_in c.args.positions.now) c.args.blocks.now c.loop-id.id (omega arith))

pub returns-clause-rest : goal.returns-clause-rest
returns-clause-rest c =
    c.loop-id.invariant.rest ∙ ap (λ contents. contents 0) (all_loaded c.args.p.now (leaf_in c.args.positions.now) c.args.blocks.now c.loop-id.id (omega arith))
