use Rattle.std.proofs.Common.{◌≡◌, ◌+◌, ◌*◌, length, ap, ◌∙◌, arith}
use Rattle.tao_base.specs.Limits.{bucket_len}
use Rattle.tao_base.specs.Tree.{node_at}
use Rattle.tao_tree.specs.Nodes.{bytes_at}
use Rattle.tao_tree.proofs.Places.{place_within}
use Rattle.tao_tree.proofs.PathLemmas.{path_more}
use Rattle.tao_tree.proofs.paths.read_path.Goals as goal

pub slice_bounds-read-end : goal.slice_bounds-read-end
slice_bounds-read-end c =
    let same : c.bucket_len-len.result ≡ bucket_len c.args.tree.now.shape = c.bucket_len-len.ensures.value ∙ ap bucket_len c.params-p.ensures.value in
    let height : c.l-depth-end.result ≡ c.args.tree.now.shape.l = c.l-depth-end.ensures.value ∙ ap (λ s. s.l) c.params-p.ensures.value in
    let size : length c.loop-depth.out ≡ (c.args.tree.now.shape.l + 1) * bucket_len c.args.tree.now.shape = omega arith in
    let within = place_within (bucket_len c.args.tree.now.shape) c.loop-depth.depth (c.args.tree.now.shape.l + 1) (length c.loop-depth.out) (omega arith) size in
    let here : c.loop-depth.depth * c.bucket_len-len.result ≡ c.loop-depth.depth * bucket_len c.args.tree.now.shape = ap (λ n. c.loop-depth.depth * n) same in
    omega arith

pub loop-depth-preserved : goal.loop-depth-preserved
loop-depth-preserved c =
    let same : c.bucket_len-len.result ≡ bucket_len c.args.tree.now.shape = c.bucket_len-len.ensures.value ∙ ap bucket_len c.params-p.ensures.value in
    let height : c.l-depth-end.result ≡ c.args.tree.now.shape.l = c.l-depth-end.ensures.value ∙ ap (λ s. s.l) c.params-p.ensures.value in
    path_more c.args.tree.now c.args.tree.now.shape.l c.args.leaf c.loop-depth.depth c.bucket_len-len.result (bucket_len c.args.tree.now.shape) c.loop-depth.out c.read.new.out same (omega arith) (omega arith) (omega (arith, c.read.auto.out, same)) c.loop-depth.invariant
    (c.read.ensures ∙ ap (bytes_at c.args.tree.now) (c.path_node.ensures.value ∙ ap (λ s. node_at s.l c.args.leaf c.loop-depth.depth) c.params-p.ensures.value))
