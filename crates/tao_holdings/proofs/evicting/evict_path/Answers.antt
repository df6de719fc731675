use Rattle.std.proofs.Common.{◌≡◌, ◌+◌, List, length, ap, ◌∙◌, subst}
use Rattle.tao_base.specs.declared.storage.Entry.{Entry}
use Rattle.tao_flush.specs.Paths.{Evicts}
use Rattle.tao_flush.specs.State.{leaf_in}
use Rattle.tao_flush.proofs.PlacedLists.{lists_len}
use Rattle.tao_holdings.specs.Lists.{entries_in}
use Rattle.tao_holdings.proofs.EvictedPath.{path_fits, lists_back, new_contents, new_form}
use Rattle.tao_holdings.proofs.evicting.evict_path.Goals as goal

pub flush-requires-clause-entries : goal.flush-requires-clause-entries
flush-requires-clause-entries c = path_fits c.args.p.now c.args.leaf c.args.subtree.now.residents c.requires.in_form c.swap_path.new.lists c.swap_path.ensures.lists

pub returns-clause-contents : goal.returns-clause-contents
returns-clause-contents c =
    let len : length c.flush.new.path ≡ c.args.p.now.l + 1 = c.flush.auto.path ∙ ap length c.swap_path.ensures.lists ∙ lists_len c.args.p.now.l c.args.leaf (entries_in c.args.subtree.now.residents) in
    new_contents c.args.p.now c.args.leaf c.requires.leaf c.args.lists.now c.requires.lists c.args.subtree.now.residents c.swap_path.new.subtree.residents c.requires.path c.swap_path.ensures.residents
    c.flush.new.path len c.swap_path-2.new.subtree.residents c.swap_path-2.ensures.residents (leaf_in c.args.positions.now) c.args.stash.now.entries c.flush.new.stash.entries
    (subst (λ (ls : List (List Entry)). Evicts c.args.p.now c.args.leaf (leaf_in c.args.positions.now) c.args.stash.now.entries ls c.flush.new.stash.entries c.flush.new.path) c.swap_path.ensures.lists c.flush.ensures.evicted)

pub returns-clause-in_form : goal.returns-clause-in_form
returns-clause-in_form c =
    let len : length c.flush.new.path ≡ c.args.p.now.l + 1 = c.flush.auto.path ∙ ap length c.swap_path.ensures.lists ∙ lists_len c.args.p.now.l c.args.leaf (entries_in c.args.subtree.now.residents) in
    new_form c.args.p.now c.args.leaf c.requires.leaf c.args.lists.now c.requires.lists c.args.subtree.now.residents c.swap_path.new.subtree.residents c.requires.path c.swap_path.ensures.residents
    c.flush.new.path len c.swap_path-2.new.subtree.residents c.swap_path-2.ensures.residents (leaf_in c.args.positions.now) c.args.stash.now.entries c.flush.new.stash.entries
    (subst (λ (ls : List (List Entry)). Evicts c.args.p.now c.args.leaf (leaf_in c.args.positions.now) c.args.stash.now.entries ls c.flush.new.stash.entries c.flush.new.path) c.swap_path.ensures.lists c.flush.ensures.evicted)
    c.requires.in_form c.flush.ensures.entries

pub returns-clause-lists : goal.returns-clause-lists
returns-clause-lists c =
    lists_back c.args.p.now c.args.leaf c.requires.leaf c.args.lists.now c.requires.lists c.args.subtree.now.residents c.swap_path.new.subtree.residents c.requires.path c.swap_path.ensures.residents
    c.swap_path-2.new.lists c.swap_path-2.ensures.lists
