use Rattle.std.proofs.Common.{◌∙◌}
use Rattle.tao_flush.specs.State.{leaf_in}
use Rattle.tao_flush.proofs.Loaded.{is_loaded, load_stash_fits, load_nodes_fit}
use Rattle.tao_flush.proofs.loading.load.Goals as goal

pub with_entries-requires-clause-stash : goal.with_entries-requires-clause-stash
with_entries-requires-clause-stash c =
    load_stash_fits c.args.p.now (leaf_in c.args.positions.now) c.args.blocks.now c.place_blocks.new.rest.items c.requires.count c.requires.values c.in_ok-place_blocks.ensures.rest

pub returns-clause-loaded : goal.returns-clause-loaded
returns-clause-loaded c =
    rw c.in_ok-stash.ensures
    (is_loaded c.args.p.now (leaf_in c.args.positions.now) c.args.blocks.now c.from_vec.result c.place_blocks.new.rest.items
    (c.from_vec.ensures ∙ c.in_ok-place_blocks.ensures.nodes) c.in_ok-place_blocks.ensures.rest)

pub returns-clause-entries : goal.returns-clause-entries
returns-clause-entries c =
    load_nodes_fit c.args.p.now (leaf_in c.args.positions.now) c.args.blocks.now c.from_vec.result c.requires.count c.requires.values
    (c.from_vec.ensures ∙ c.in_ok-place_blocks.ensures.nodes)

pub returns-clause-stash : goal.returns-clause-stash
returns-clause-stash c =
    rw c.in_ok-stash.ensures
    (load_stash_fits c.args.p.now (leaf_in c.args.positions.now) c.args.blocks.now c.place_blocks.new.rest.items c.requires.count c.requires.values c.in_ok-place_blocks.ensures.rest)
