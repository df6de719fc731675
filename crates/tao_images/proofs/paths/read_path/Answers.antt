use Rattle.std.proofs.Common.{◌≡◌, ◌+◌, ◌≤◌, if◌then◌else◌, Some, Result, Ok, Err, length, sym, ap, ◌∙◌, arith}
use Rattle.std.specs.Result.{result_err, IsErrAnd}
use Rattle.std.proofs.lemmas.List.{length-set}
use Rattle.std.proofs.lemmas.List.Elements.{All-set}
use Rattle.tao_bucket.proofs.Firsts.{first_at, none_more}
use Rattle.tao_images.specs.Paths.{refusal_at, IsRoom}
use Rattle.tao_images.proofs.PathLemmas.{read_more}
use Rattle.tao_images.proofs.paths.read_path.Goals as goal
use Rattle.tao_images.proofs.paths.read_path.Goals.{then-branch, else-branch}

err_of : {X E : Type 0} (result : Result X E) (e : E) → IsErrAnd result (λ x. x ≡ e) → result_err result ≡ Some e
err_of (Ok x) e is = absurd is
err_of (Err x) e is = ap (λ y. Some y) is

pub returns-in_err-read_depth-clause-fault : goal.returns-in_err-read_depth-clause-fault
returns-in_err-read_depth-clause-fault g c =
    let refusal = refusal_at c.args.key.now c.args.p.now (g.K.Known.skipped c.args.known.now) (g.K.Known.version c.args.known.now) (g.K.Known.tag c.args.known.now) c.args.leaf c.args.path.now in
    let refused : Some c.in_err-read_depth.field-0.0 ≡ refusal c.loop-depth.depth = c.in_err-read_depth.ensures.fault in
    let here = first_at refusal (c.args.p.now.l + 1) c.loop-depth.depth c.in_err-read_depth.field-0.0 c.loop-depth.invariant.none (omega arith) (sym refused) in
    err_of c.from_residual.result c.in_err-read_depth.field-0.0 c.from_residual.ensures.1 ∙ sym here

pub loop-depth-preserved : goal.loop-depth-preserved
loop-depth-preserved g c =
    let refusal = refusal_at c.args.key.now c.args.p.now (g.K.Known.skipped c.args.known.now) (g.K.Known.version c.args.known.now) (g.K.Known.tag c.args.known.now) c.args.leaf c.args.path.now in
    let read = c.in_ok-read_depth.field-0 in
    let count = c.loop-depth.count in
    let now = c.loop-depth.invariant in
    let within : count + 1 ≤ length c.loop-depth.rooms = omega (arith, now.few, now.enough, c.l-depth-end.ensures.value, c.loop-depth-test.true) in
    let next : c.if-branch.count ≡ (if read then count + 1 else count) = elim c.if-branch.branch [
      | then-branch w ↦ w.count-is ∙ ap (λ b. if b then count + 1 else count) (sym w.if-branch.true)
      | else-branch w ↦ w.count-is ∙ ap (λ b. if b then count + 1 else count) (sym w.if-branch.false)
    ] in
    let few : c.if-branch.count ≤ count + 1 = elim c.if-branch.branch [ then-branch w ↦ omega (arith, w.count-is) | else-branch w ↦ omega (arith, w.count-is) ] in
    record {
      few = omega (arith, few, now.few);
      enough = omega (arith, now.enough, length-set c.loop-depth.rooms count c.read_depth.new.room);
      none = none_more refusal c.loop-depth.depth now.none (sym c.in_ok-read_depth.ensures.fault);
      read = read_more c.args.key.now c.args.p.now (g.K.Known.skipped c.args.known.now) c.args.leaf c.args.path.now c.loop-depth.depth count c.if-branch.count c.loop-depth.rooms c.read_depth.new.room read
          (omega (arith, within)) c.in_ok-read_depth.ensures.skipped c.in_ok-read_depth.ensures.value next now.read;
      rooms = All-set (IsRoom c.args.p.now) c.loop-depth.rooms count c.read_depth.new.room c.in_ok-read_depth.ensures.room now.rooms;
    }
