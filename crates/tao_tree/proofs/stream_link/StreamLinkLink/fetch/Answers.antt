use Rattle.std.proofs.Common.{◌≡◌, ◌+◌, length, drop, refl, ap, subst, arith}
use Rattle.std.proofs.lemmas.Grind.{common_steps}
use Rattle.std.specs.Io.KnownBytes.{Consumes}
use Rattle.tao_base.specs.Transfers.{ConsumesFewer}
use Rattle.tao_wire.specs.Frames.{frame}
use Rattle.tao_wire.specs.declared.message.Message.TheVariants.{Path}
use Rattle.tao_tree.specs.Streams.{StreamState, path_len, halves, fetching}
use Rattle.tao_tree.proofs.AnswerLemmas.{when_false, when_true, wrong_path}
use Rattle.tao_tree.proofs.StreamCalls.{on_err, answered, send_failed, receive_failed, answered_wrong}
use Rattle.tao_tree.proofs.stream_link.StreamLinkLink.fetch.Goals as goal

pub returns-in_err-write_all-clause-err : goal.returns-in_err-write_all-clause-err
returns-in_err-write_all-clause-err g c =
    on_err _ _ (send_failed (halves g.S.Source.left g.S.Source.faults g.K.Sink.put g.K.Sink.faults) (fetching c.args.id c.args.leaf (length c.args.path.now)) _ _ _ _
    c.self.view_is c.fetch_frame.ensures c.in_err-write_all.ensures.err refl refl)

pub returns-in_err-receive_path-clause-err : goal.returns-in_err-receive_path-clause-err
returns-in_err-receive_path-clause-err g c =
    let shape = ap (λ (l : StreamState g.row.S.Denot g.row.K.Denot). path_len l.shape) c.self.view_is in
    let long : length c.deref_mut.result.now ≡ 9 + length c.args.path.now = omega (arith, c.deref_mut.ensures.len, c.self.invariant.room, c.requires.path, shape) in
    on_err _ _ (receive_failed (halves g.S.Source.left g.S.Source.faults g.K.Sink.put g.K.Sink.faults) (fetching c.args.id c.args.leaf (length c.args.path.now)) _ _ _ _
    c.self.view_is c.fetch_frame.ensures c.in_ok-write_all.ensures.ok
    (subst (λ n. ConsumesFewer (g.S.Source.left c.self.inside.source) (g.S.Source.left c.receive_path.new.source) (4 + n)) long c.in_err-receive_path.ensures.err)
    c.in_err-receive_path.ensures.cause.failed refl)

pub returns-then-not-branch-clause-err : goal.returns-then-not-branch-clause-err
returns-then-not-branch-clause-err g c =
    let shape = ap (λ (l : StreamState g.row.S.Denot g.row.K.Denot). path_len l.shape) c.self.view_is in
    let long : length c.receive_path.new.content ≡ 9 + length c.args.path.now = omega (arith, c.receive_path.auto.content, c.deref_mut.ensures.len, c.self.invariant.room, c.requires.path, shape) in
    let came = when_false _ _ _ c.if-not-branch.true c.in_ok-receive_path.ensures.came in
    answered_wrong (halves g.S.Source.left g.S.Source.faults g.K.Sink.put g.K.Sink.faults) (fetching c.args.id c.args.leaf (length c.args.path.now)) _ _ _ _
    c.self.view_is c.fetch_frame.ensures c.in_ok-write_all.ensures.ok
    (wrong_path _ _ c.args.id _ _ long came)
    c.in_ok-receive_path.ensures.cause.kept c.saturating_add-self-inside.ensures

pub returns-clause-ok : goal.returns-clause-ok
returns-clause-ok g c =
    let came = when_true _ _ _ c.if-not-branch.false c.in_ok-receive_path.ensures.came in
    let path : drop 9 c.receive_path.new.content ≡ c.copy_from_slice.new.self = grind (arith, common_steps, c.copy_from_slice.ensures.after, c.deref.ensures.value, c.receive_path.auto.content, c.deref_mut.ensures.len) in
    answered (halves g.S.Source.left g.S.Source.faults g.K.Sink.put g.K.Sink.faults) (fetching c.args.id c.args.leaf (length c.args.path.now)) _ _ (record { shape = c.self.inside.p; source = c.receive_path.new.source; sink = c.write_all.new.sink; wrong = c.self.inside.wrong }) _
    c.self.view_is c.fetch_frame.ensures _ c.in_ok-write_all.ensures.ok
    (subst (λ bytes. Consumes (g.S.Source.left c.self.inside.source) (g.S.Source.left c.receive_path.new.source) (frame (Path c.args.id bytes))) path came)
    refl
