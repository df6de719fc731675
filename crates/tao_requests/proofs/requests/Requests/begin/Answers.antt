use Rattle.std.proofs.Common.{◌≡◌, ◌-◌, [], ◌∷◌, ◌++◌, None, length, sym, ap, subst, ◌∙◌, arith, false}
use Rattle.std.specs.Vec.{vec_len}
use Rattle.tao_model.specs.Events.{is_pad_op}
use Rattle.tao_model.specs.Lawful.{IsInRange}
use Rattle.tao_requests.specs.declared.queues.Wait.{Wait}
use Rattle.tao_requests.specs.State.{RequestsState, kind_now, first_answer, begun}
use Rattle.tao_requests.specs.Queues.{kind_entering, lasts_entered, waits_entered}
use Rattle.tao_requests.proofs.KeptQueues.{lent_whole, same_request, same_state, room_fits}
use Rattle.tao_requests.proofs.NewRequests.{kept_begun, kind_is_now, can_enter}
use Rattle.tao_requests.proofs.requests.Requests.begin.Goals as goal

pub enter-kind-requires : goal.enter-kind-requires
enter-kind-requires c =
    let s = c.self.inside in
    let fits : IsInRange s.p c.args.op.now = subst (λ (v : RequestsState). IsInRange v.shape c.args.op.now) (sym c.self.view_is) c.requires.op in
    rw (c.deref_mut.ensures.value, c.deref_mut-2.ensures.value) (can_enter s.p c.args.op.now s.requests.items s.waits.items s.lasts.items c.self.invariant.0 fits)

pub copy_op-requires : goal.copy_op-requires
copy_op-requires c =
    let s = c.self.inside in
    let fits : IsInRange s.p c.args.op.now = subst (λ (v : RequestsState). IsInRange v.shape c.args.op.now) (sym c.self.view_is) c.requires.op in
    room_fits s.p c.args.op.now _ fits c.take_room-answer.ensures.room.written

pub invariant_of-self : goal.invariant_of-self
invariant_of-self c =
    let s = c.self.inside in
    let op = c.args.op.now in
    let fits : IsInRange s.p op = subst (λ (v : RequestsState). IsInRange v.shape op) (sym c.self.view_is) c.requires.op in
    let next : c.args.arrival ≡ length s.requests.items = c.requires.next ∙ ap (λ (v : RequestsState). length v.requests) (sym c.self.view_is) in
    let room : is_pad_op op ≡ false → length c.first_answer-settled.result.1 ≡ s.p.b
    = λ on_block. ap length (c.first_answer-settled.ensures.room on_block) ∙ c.take_room-answer.ensures.room.answer in
    let base = kept_begun s.p op s.requests.items s.waits.items c.first_answer-settled.result.1 s.lasts.items c.self.invariant.0 fits room in
    let requests = c.push_reserved.ensures.items ∙ ap (λ r. s.requests.items ++ r ∷ []) (same_request _ op _ (kind_entering s.lasts.items op) _ (first_answer op)
    c.copy_op.ensures (c.enter-kind.ensures.kind ∙ ap (λ lasts. kind_entering lasts op) c.deref_mut.ensures.value) c.first_answer-settled.ensures.answer) in
    let lasts = lent_whole s.lasts.len c.enter-kind.new.lasts s.lasts.items (sym c.deref_mut.ensures.len ∙ ap length c.deref_mut.ensures.value) (c.enter-kind.auto.lasts ∙ ap length c.deref_mut.ensures.value)
    ∙ (c.enter-kind.ensures.lasts ∙ (ap (λ l. lasts_entered l op c.args.arrival) c.deref_mut.ensures.value ∙ ap (λ n. lasts_entered s.lasts.items op n) next)) in
    let new_wait : Wait = record { next = None; room = c.first_answer-settled.result.1 } in
    let waits = c.push_reserved-2.ensures.items ∙ ap (λ l. l ++ new_wait ∷ []) (lent_whole s.waits.len c.enter-kind.new.waits s.waits.items
    (sym c.deref_mut-2.ensures.len ∙ ap length c.deref_mut-2.ensures.value) (c.enter-kind.auto.waits ∙ ap length c.deref_mut-2.ensures.value)
    ∙ (c.enter-kind.ensures.waits ∙ (ap (λ l. waits_entered c.deref_mut-2.result.now l op c.args.arrival) c.deref_mut.ensures.value
    ∙ (ap (λ l. waits_entered l s.lasts.items op c.args.arrival) c.deref_mut-2.ensures.value ∙ ap (λ n. waits_entered s.waits.items s.lasts.items op n) next)))) in
    (rw (requests, waits, lasts) base, record { each = c.take_room-answer.ensures.left; in_first = omega arith; in_second = omega arith })

pub returns-clause-kind : goal.returns-clause-kind
returns-clause-kind c =
    let s = c.self.inside in
    c.enter-kind.ensures.kind ∙ (ap (λ lasts. kind_entering lasts c.args.op.now) c.deref_mut.ensures.value
    ∙ (kind_is_now s.p c.args.op.now s.requests.items s.waits.items s.lasts.items c.self.invariant.0 ∙ ap (λ (v : RequestsState). kind_now v.requests c.args.op.now) c.self.view_is))

pub returns-clause-value : goal.returns-clause-value
returns-clause-value c =
    let s = c.self.inside in
    let op = c.args.op.now in
    let requests = c.push_reserved.ensures.items ∙ ap (λ r. s.requests.items ++ r ∷ []) (same_request _ op _ (kind_now s.requests.items op) _ (first_answer op)
    c.copy_op.ensures (c.enter-kind.ensures.kind ∙ (ap (λ lasts. kind_entering lasts op) c.deref_mut.ensures.value ∙ kind_is_now s.p op s.requests.items s.waits.items s.lasts.items c.self.invariant.0)) c.first_answer-settled.ensures.answer) in
    same_state s.p _ _ _ (vec_len s.rooms - 1) requests (let less = c.take_room-answer.ensures.len in omega arith) ∙ ap (λ (v : RequestsState). begun v op) c.self.view_is
