use Rattle.std.proofs.Common.{sym, subst, arith, List, ℕ, get_or}
use Rattle.std.proofs.lemmas.List.{length-map, take_all, get_or-map}
use Rattle.tao_base.specs.declared.storage.Bucket.{Bucket}
use Rattle.tao_model.specs.Trace.{nodes_in}
use Rattle.tao_processor.specs.Steps.{Forgets}
use Rattle.tao_processor.proofs.AckedKept.{forgets_none, forgets_more}
use Rattle.tao_processor.proofs.forgetting.forget_all.Goals as goal

pub loop-i-init : goal.loop-i-init
loop-i-init c = forgets_none c.args.version c.args.holdings.now

pub loop-i-preserved : goal.loop-i-preserved
loop-i-preserved c =
    let long = length-map c.args.buckets.now (λ (bucket : Bucket). bucket.node) in
    let low = c.loop-i-test.true in
    forgets_more c.args.version (nodes_in c.args.buckets.now) c.loop-i.i (get_or c.args.buckets.now c.loop-i.i c.index-buckets-i.result).node c.args.holdings.now c.loop-i.holdings c.forget_one.new.self (omega arith)
    (sym (get_or-map (λ (bucket : Bucket). bucket.node) c.args.buckets.now c.loop-i.i c.index-buckets-i.result 0 low))
    c.loop-i.invariant c.forget_one.ensures.held c.forget_one.ensures.contents c.forget_one.ensures.others

pub returns : goal.returns
returns c =
    let long = length-map c.args.buckets.now (λ (bucket : Bucket). bucket.node) in
    let end = c.loop-i-test.false in
    subst (λ (nodes : List ℕ). Forgets c.args.version nodes c.args.holdings.now c.loop-i.holdings) (take_all c.loop-i.i (nodes_in c.args.buckets.now) (omega arith)) c.loop-i.invariant
