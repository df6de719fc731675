use Rattle.std.proofs.Common.{Some, None, refl, arith}
use Rattle.tao_holdings.specs.Lists.{entries_in}
use Rattle.tao_holdings.proofs.FoundCopy.{found_here, none_here, none_left}
use Rattle.tao_holdings.proofs.looks.copy_on_path.Goals as goal

pub returns-in-Some : goal.returns-in-Some
returns-in-Some c =
    let l = c.l-depth-end.ensures.value in
    let below = c.loop-depth-test.true in
    found_here c.args.p.now.l c.args.leaf c.loop-depth.depth c.args.block (entries_in c.args.subtree.now.residents) c.loop-depth.invariant c.path_node-node.result (Some c.in-Some.value.now) c.in-Some.value.now
    (omega (arith, l, below)) c.path_node-node.ensures.value c.in-Some.ensures refl

pub loop-depth-preserved : goal.loop-depth-preserved
loop-depth-preserved c =
    let l = c.l-depth-end.ensures.value in
    let below = c.loop-depth-test.true in
    none_here c.args.p.now.l c.args.leaf c.loop-depth.depth c.args.block (entries_in c.args.subtree.now.residents) c.loop-depth.invariant c.path_node-node.result None
    (omega (arith, l, below)) c.path_node-node.ensures.value c.in_default.ensures refl

pub returns : goal.returns
returns c =
    let l = c.l-depth-end.ensures.value in
    let most = c.loop-depth.auto.depth-end in
    let end = c.loop-depth-test.false in
    none_left c.args.p.now.l c.args.leaf c.loop-depth.depth c.args.block (entries_in c.args.subtree.now.residents) c.loop-depth.invariant (omega (arith, l, most, end))
