use Rattle.std.proofs.Common.{◌≡◌, ◌<◌, IsSome, length, sym, ap, subst, ◌∙◌}
use Rattle.std.proofs.lemmas.List.{get_or_read}
use Rattle.tao_base.specs.declared.calls.Op.TheVariants.{Pad}
use Rattle.tao_requests.specs.declared.request.Kind.TheVariants.{Fake}
use Rattle.tao_requests.specs.State.{RequestsState, IsUnderWay, request_at, request_of, block_of}
use Rattle.tao_requests.specs.Settling.{settled_from, KeepsAnswers}
use Rattle.tao_requests.specs.Queues.{lasts_left, LeavesOthers}
use Rattle.tao_requests.proofs.SettledLists.{on_within}
use Rattle.tao_requests.proofs.KeptQueues.{is_queue, stays, kept_settled, lent_whole, on_own, under_way_waits}
use Rattle.tao_requests.proofs.requests.Requests.settle.Goals as goal

pub settle_queue-requires-clause-queue : goal.settle_queue-requires-clause-queue
settle_queue-requires-clause-queue c =
    let s = c.self.inside in
    let under_way : IsUnderWay s.requests.items c.args.arrival = subst (λ (v : RequestsState). IsUnderWay v.requests c.args.arrival) (sym c.self.view_is) c.requires.under_way in
    let len : length c.args.value.now ≡ s.p.b = c.requires.value ∙ ap (λ (v : RequestsState). v.shape.b) (sym c.self.view_is) in
    rw (c.deref_mut-2.ensures.value, c.deref_mut-3.ensures.value) (is_queue s.p c.args.arrival c.args.value.now s.requests.items s.waits.items s.lasts.items c.self.invariant.0 under_way len)

pub invariant_of-self : goal.invariant_of-self
invariant_of-self c =
    let s = c.self.inside in
    let rs = s.requests.items in
    let block = block_of rs c.args.arrival in
    let under_way : IsUnderWay rs c.args.arrival = subst (λ (v : RequestsState). IsUnderWay v.requests c.args.arrival) (sym c.self.view_is) c.requires.under_way in
    let within : c.args.arrival < length rs
    = on_within block c.args.arrival rs (on_own s.p c.args.arrival rs s.waits.items s.lasts.items c.self.invariant.0 (under_way_waits rs c.args.arrival under_way)) in
    let request : c.index.result.now ≡ request_at rs c.args.arrival = get_or_read rs c.args.arrival _ within c.index.ensures (request_of Pad Fake) in
    let lasts = lent_whole s.lasts.len c.leave.new.lasts s.lasts.items (sym c.deref_mut.ensures.len ∙ ap length c.deref_mut.ensures.value) (c.leave.auto.lasts ∙ ap length c.deref_mut.ensures.value)
    ∙ (c.leave.ensures ∙ (ap (λ l. lasts_left l c.index.result.now.op) c.deref_mut.ensures.value ∙ ap (λ r. lasts_left s.lasts.items r.op) request)) in
    let requests = lent_whole s.requests.len c.settle_queue.new.requests rs (sym c.deref_mut-2.ensures.len ∙ ap length c.deref_mut-2.ensures.value) (c.settle_queue.auto.requests ∙ ap length c.deref_mut-2.ensures.value)
    ∙ (c.settle_queue.ensures.requests ∙ ap (λ l. settled_from c.args.arrival (block_of l c.args.arrival) c.args.value.now l) c.deref_mut-2.ensures.value) in
    let waits = lent_whole s.waits.len c.settle_queue.new.waits s.waits.items (sym c.deref_mut-3.ensures.len ∙ ap length c.deref_mut-3.ensures.value) (c.settle_queue.auto.waits ∙ ap length c.deref_mut-3.ensures.value) in
    let left : LeavesOthers block rs s.waits.items c.settle_queue.new.waits
    = rw (sym c.deref_mut-2.ensures.value, sym c.deref_mut-3.ensures.value) c.settle_queue.ensures.waits in
    (rw (requests, waits, lasts) (kept_settled s.p c.args.arrival c.args.value.now rs s.waits.items c.settle_queue.new.waits s.lasts.items c.self.invariant.0 under_way left), c.self.invariant.1)

pub returns-clause-count : goal.returns-clause-count
returns-clause-count c =
    let s = c.self.inside in
    let rs = s.requests.items in
    let requests = lent_whole s.requests.len c.settle_queue.new.requests rs (sym c.deref_mut-2.ensures.len ∙ ap length c.deref_mut-2.ensures.value) (c.settle_queue.auto.requests ∙ ap length c.deref_mut-2.ensures.value) in
    ap length requests ∙ (c.settle_queue.auto.requests ∙ (ap length c.deref_mut-2.ensures.value ∙ ap (λ (v : RequestsState). length v.requests) c.self.view_is))

pub returns-clause-stays : goal.returns-clause-stays
returns-clause-stays c =
    let s = c.self.inside in
    let rs = s.requests.items in
    let under_way : IsUnderWay rs c.args.arrival = subst (λ (v : RequestsState). IsUnderWay v.requests c.args.arrival) (sym c.self.view_is) c.requires.under_way in
    let requests = lent_whole s.requests.len c.settle_queue.new.requests rs (sym c.deref_mut-2.ensures.len ∙ ap length c.deref_mut-2.ensures.value) (c.settle_queue.auto.requests ∙ ap length c.deref_mut-2.ensures.value)
    ∙ (c.settle_queue.ensures.requests ∙ ap (λ l. settled_from c.args.arrival (block_of l c.args.arrival) c.args.value.now l) c.deref_mut-2.ensures.value) in
    let kept : KeepsAnswers rs (settled_from c.args.arrival (block_of rs c.args.arrival) c.args.value.now rs)
    = stays s.p c.args.arrival c.args.value.now rs s.waits.items s.lasts.items c.self.invariant.0 under_way in
    λ i has. ap (λ l. (request_at l i).answer) requests
    ∙ (kept i (subst (λ (v : RequestsState). IsSome (request_at v.requests i).answer) (sym c.self.view_is) has) ∙ ap (λ (v : RequestsState). (request_at v.requests i).answer) c.self.view_is)
