use Rattle.std.proofs.Common.{◌≡◌, ◌<◌, length, Some, None, refl, length-set, ◌∙◌, sym, arith}
use Rattle.tao_requests.specs.State.{block_of}
use Rattle.tao_requests.specs.Queues.{wait_at}
use Rattle.tao_requests.proofs.SettledLists.{on_within}
use Rattle.tao_requests.proofs.QueueTurns.{Turn, turn_len, goes_on, comes_to_end, next_same, leaves_more, drops_edit}
use Rattle.tao_requests.proofs.settling.settle_queue.Goals as goal

pub loop-next-smaller : goal.loop-next-smaller
loop-next-smaller c =
    let l = c.loop-next in
    let block = block_of c.args.requests.now c.args.first in
    let here : l.number < length c.args.requests.now = on_within block l.number c.args.requests.now l.invariant.here in
    let next : (wait_at c.args.waits.now l.number).next ≡ Some c.in-Some.next
    = sym (next_same l.number l.waits c.args.waits.now c.index-waits-number.result l.invariant.waits_left (omega (arith, c.requires.queue.places))) ∙ c.in-Some.is in
    let later : l.number < c.in-Some.next = c.requires.queue.later l.number c.in-Some.next l.invariant.from l.invariant.here next in
    omega (arith, length-set l.requests l.number c.answer.new.request)

pub loop-next-preserved : goal.loop-next-preserved
loop-next-preserved c =
    let l = c.loop-next in
    let block = block_of c.args.requests.now c.args.first in
    let t : Turn block l.number l.value c.answer.new.value l.requests c.args.requests.now c.index-requests-number.result c.answer.new.request
    = record { same = l.invariant.requests_left; here = l.invariant.here; answered = c.answer.ensures.request; left = c.answer.ensures.value } in
    let here : l.number < length c.args.requests.now = on_within block l.number c.args.requests.now l.invariant.here in
    let within : l.number < length l.waits = omega (arith, c.requires.queue.places) in
    let next : (wait_at c.args.waits.now l.number).next ≡ Some c.in-Some.next
    = sym (next_same l.number l.waits c.args.waits.now c.index-waits-number.result l.invariant.waits_left within) ∙ c.in-Some.is in
    let later : l.number < c.in-Some.next = c.requires.queue.later l.number c.in-Some.next l.invariant.from l.invariant.here next in
    let on = goes_on block l.number c.in-Some.next l.value c.answer.new.value l.requests c.args.requests.now c.index-requests-number.result c.answer.new.request t later
    (λ m. c.requires.queue.between l.number c.in-Some.next m l.invariant.from l.invariant.here next) in
    record {
      from = omega arith;
      here = c.requires.queue.on l.number c.in-Some.next l.invariant.from l.invariant.here next;
      requests_left = drops_edit l.number c.in-Some.next c.answer.new.request l.requests c.args.requests.now l.invariant.requests_left later;
      waits_left = drops_edit l.number c.in-Some.next _ l.waits c.args.waits.now l.invariant.waits_left later;
      others = leaves_more block l.number c.args.requests.now l.waits c.args.waits.now c.index-waits-number.result _ l.invariant.others l.invariant.here within refl;
      settled = on.0 ∙ l.invariant.settled;
      value = on.1 ∙ l.invariant.value;
      len = turn_len block l.number l.value c.args.value.now c.answer.new.value l.requests c.args.requests.now c.index-requests-number.result c.answer.new.request t l.invariant.len c.requires.queue.written;
    }

pub returns-in-None-clause-requests : goal.returns-in-None-clause-requests
returns-in-None-clause-requests c =
    let l = c.loop-next in
    let block = block_of c.args.requests.now c.args.first in
    let t : Turn block l.number l.value c.answer.new.value l.requests c.args.requests.now c.index-requests-number.result c.answer.new.request
    = record { same = l.invariant.requests_left; here = l.invariant.here; answered = c.answer.ensures.request; left = c.answer.ensures.value } in
    let here : l.number < length c.args.requests.now = on_within block l.number c.args.requests.now l.invariant.here in
    let next : (wait_at c.args.waits.now l.number).next ≡ None
    = sym (next_same l.number l.waits c.args.waits.now c.index-waits-number.result l.invariant.waits_left (omega (arith, c.requires.queue.places))) ∙ c.in-None.is in
    let ends = comes_to_end block l.number l.value c.answer.new.value l.requests c.args.requests.now c.index-requests-number.result c.answer.new.request t
    (λ m. c.requires.queue.none l.number m l.invariant.from l.invariant.here next) in
    ends.0 ∙ l.invariant.settled

pub returns-in-None-clause-value : goal.returns-in-None-clause-value
returns-in-None-clause-value c =
    let l = c.loop-next in
    let block = block_of c.args.requests.now c.args.first in
    let t : Turn block l.number l.value c.answer.new.value l.requests c.args.requests.now c.index-requests-number.result c.answer.new.request
    = record { same = l.invariant.requests_left; here = l.invariant.here; answered = c.answer.ensures.request; left = c.answer.ensures.value } in
    let here : l.number < length c.args.requests.now = on_within block l.number c.args.requests.now l.invariant.here in
    let next : (wait_at c.args.waits.now l.number).next ≡ None
    = sym (next_same l.number l.waits c.args.waits.now c.index-waits-number.result l.invariant.waits_left (omega (arith, c.requires.queue.places))) ∙ c.in-None.is in
    let ends = comes_to_end block l.number l.value c.answer.new.value l.requests c.args.requests.now c.index-requests-number.result c.answer.new.request t
    (λ m. c.requires.queue.none l.number m l.invariant.from l.invariant.here next) in
    ends.1 ∙ l.invariant.value

pub returns-in-None-clause-len : goal.returns-in-None-clause-len
returns-in-None-clause-len c =
    let l = c.loop-next in
    let t : Turn (block_of c.args.requests.now c.args.first) l.number l.value c.answer.new.value l.requests c.args.requests.now c.index-requests-number.result c.answer.new.request
    = record { same = l.invariant.requests_left; here = l.invariant.here; answered = c.answer.ensures.request; left = c.answer.ensures.value } in
    turn_len (block_of c.args.requests.now c.args.first) l.number l.value c.args.value.now c.answer.new.value l.requests c.args.requests.now c.index-requests-number.result c.answer.new.request
    t l.invariant.len c.requires.queue.written
