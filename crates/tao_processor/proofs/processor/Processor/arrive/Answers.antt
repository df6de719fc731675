use Rattle.std.proofs.Common.{reverse, sym, ap, ◌∙◌, arith}
use Rattle.tao_base.specs.Session.{History}
use Rattle.tao_model.specs.Events.{arrived}
use Rattle.tao_model.specs.Requests.{fetched_leaf}
use Rattle.tao_requests.specs.State.{is_real_kind}
use Rattle.tao_record.specs.State.{RecordState}
use Rattle.tao_processor.specs.State.{ProcessorState}
use Rattle.tao_processor.specs.Steps.{leaf_now}
use Rattle.tao_processor.proofs.ArriveKept.{arrive_ready, arrive_keeps}
use Rattle.tao_processor.proofs.processor.Processor.arrive.Goals as goal

pub begin-kind-requires-clause-next : goal.begin-kind-requires-clause-next
begin-kind-requires-clause-next c =
    let ready = arrive_ready c.args.client c.args.op c.args.word c.self.invariant (ap (λ (st : ProcessorState). st.history) c.self.view_is) (ap (λ (st : ProcessorState). st.ready) c.self.view_is ∙ c.requires.ready) c.requires.running c.requires.follows in
    c.len.ensures ∙ ready.count ∙ sym ready.next

pub begin_fetch-requires-clause-few : goal.begin_fetch-requires-clause-few
begin_fetch-requires-clause-few c =
    let ready = arrive_ready c.args.client c.args.op c.args.word c.self.invariant (ap (λ (st : ProcessorState). st.history) c.self.view_is) (ap (λ (st : ProcessorState). st.ready) c.self.view_is ∙ c.requires.ready) c.requires.running c.requires.follows in
    ready.few

pub add_arrive-requires : goal.add_arrive-requires
add_arrive-requires c =
    let ready = arrive_ready c.args.client c.args.op c.args.word c.self.invariant (ap (λ (st : ProcessorState). st.history) c.self.view_is) (ap (λ (st : ProcessorState). st.ready) c.self.view_is ∙ c.requires.ready) c.requires.running c.requires.follows in
    ready.room.others

pub invariant_of-self : goal.invariant_of-self
invariant_of-self c =
    let ready = arrive_ready c.args.client c.args.op c.args.word c.self.invariant (ap (λ (st : ProcessorState). st.history) c.self.view_is) (ap (λ (st : ProcessorState). st.ready) c.self.view_is ∙ c.requires.ready) c.requires.running c.requires.follows in
    arrive_keeps c.self.invariant ready (omega (arith, c.self.inside.fetches.ok))
    (c.leaf_now-leaf.ensures ∙ ap (λ k. leaf_now (is_real_kind k) c.self.inside.holdings c.args.op c.args.word) c.begin-kind.ensures.kind ∙ ready.leaf)
    (record {
      adds = c.add_arrive.ensures;
      begins = c.begin-kind.ensures.value;
      counted = c.begin_fetch.ensures.counts;
      counts_alone = c.begin_fetch.ensures.others;
      row = c.push_reserved.ensures.items;
      more = c.push_reserved.ensures.len;
      no_less = let capacity = c.push_reserved.ensures.capacity in omega arith;
    })

pub returns-clause-leaf : goal.returns-clause-leaf
returns-clause-leaf c =
    let ready = arrive_ready c.args.client c.args.op c.args.word c.self.invariant (ap (λ (st : ProcessorState). st.history) c.self.view_is) (ap (λ (st : ProcessorState). st.ready) c.self.view_is ∙ c.requires.ready) c.requires.running c.requires.follows in
    c.leaf_now-leaf.ensures ∙ ap (λ k. leaf_now (is_real_kind k) c.self.inside.holdings c.args.op c.args.word) c.begin-kind.ensures.kind ∙ ready.leaf
    ∙ ap (λ (r : RecordState). fetched_leaf r.history.opening (reverse r.history.events) (arrived (reverse c.self.inside.session.history.events))) (sym c.add_arrive.ensures)
    ∙ ap (λ (h : History). fetched_leaf c.add_arrive.new.self.history.opening (reverse c.add_arrive.new.self.history.events) (arrived (reverse h.events))) (ap (λ (st : ProcessorState). st.history) c.self.view_is)
