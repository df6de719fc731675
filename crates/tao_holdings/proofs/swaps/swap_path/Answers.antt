use Rattle.std.proofs.Common.{arith, get_or, refl}
use Rattle.tao_holdings.proofs.Swapped.{swapped_path, depth_held, depth_more}
use Rattle.tao_holdings.proofs.swaps.swap_path.Goals as goal

pub swap_one-requires : goal.swap_one-requires
swap_one-requires c =
    let l = c.l-depth-end.ensures.value in
    let below = c.loop-depth-test.true in
    depth_held c.args.p.now.l c.args.leaf c.requires.leaf c.args.lists.now c.loop-depth.lists c.args.subtree.now c.loop-depth.subtree c.loop-depth.depth c.path_node-node.result (omega (arith, l, below))
    c.path_node-node.ensures.value c.loop-depth.invariant c.requires.path

pub loop-depth-preserved : goal.loop-depth-preserved
loop-depth-preserved c =
    let l = c.l-depth-end.ensures.value in
    let below = c.loop-depth-test.true in
    depth_more c.args.p.now.l c.args.leaf c.requires.leaf c.args.lists.now c.loop-depth.lists c.args.subtree.now c.loop-depth.subtree c.loop-depth.depth c.path_node-node.result (omega (arith, l, below))
    c.path_node-node.ensures.value c.loop-depth.invariant c.swap_one.new.subtree (get_or c.loop-depth.lists c.loop-depth.depth c.index-lists-depth.result) c.index-lists-depth.result c.swap_one.new.list c.requires.lists c.loop-depth.auto.lists refl
    c.swap_one.ensures.residents c.swap_one.ensures.others c.swap_one.ensures.kept c.swap_one.ensures.list

pub returns-clause-residents : goal.returns-clause-residents
returns-clause-residents c =
    let l = c.l-depth-end.ensures.value in
    let most = c.loop-depth.auto.depth-end in
    let len = c.loop-depth.auto.lists in
    let given = c.requires.lists in
    (swapped_path c.args.p.now.l c.args.leaf c.args.lists.now c.loop-depth.lists c.args.subtree.now c.loop-depth.subtree c.loop-depth.depth (omega arith) given (omega (arith, len, given)) c.loop-depth.invariant).0

pub returns-clause-lists : goal.returns-clause-lists
returns-clause-lists c =
    let l = c.l-depth-end.ensures.value in
    let most = c.loop-depth.auto.depth-end in
    let len = c.loop-depth.auto.lists in
    let given = c.requires.lists in
    (swapped_path c.args.p.now.l c.args.leaf c.args.lists.now c.loop-depth.lists c.args.subtree.now c.loop-depth.subtree c.loop-depth.depth (omega arith) given (omega (arith, len, given)) c.loop-depth.invariant).1
