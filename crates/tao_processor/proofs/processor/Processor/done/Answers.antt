use Rattle.std.proofs.Common.{◌≡◌, ℕ, ◌-◌, ◌<◌, ◌≤◌, not, List, filter, length, All, refl, sym, ap, ap₂, ◌∙◌, subst, arith, take, vec_len}
use Rattle.tao_base.specs.declared.storage.Bucket.{Bucket}
use Rattle.tao_base.specs.Limits.{Shape}
use Rattle.tao_base.specs.Tree.{path, is_on_path}
use Rattle.tao_base.specs.Buckets.{IsInForm}
use Rattle.tao_base.specs.declared.session.Event.TheVariants.{Done}
use Rattle.tao_record.specs.State.{AreBucketsOf, done_len, added}
use Rattle.tao_requests.specs.State.{block_of}
use Rattle.tao_holdings.specs.Holding.{HoldingsState, is_held, count_in}
use Rattle.tao_processor.specs.State.{ProcessorState}
use Rattle.tao_processor.proofs.DoneReady.{done_ready, row_is, leaf_fits, path_is_held}
use Rattle.tao_bucket.specs.Rooms.{RoomState}
use Rattle.tao_images.specs.Paths.{IsRoom}
use Rattle.tao_processor.specs.Rooms.{IsFull, buckets_held}
use Rattle.tao_processor.proofs.Looked.{rooms_taken}
use Rattle.tao_processor.proofs.WrittenBack.{whole_front}
use Rattle.tao_processor.proofs.DoneKept.{done_keeps, done_so}
use Rattle.tao_processor.proofs.processor.Processor.done.Goals as goal

pub add_done-requires-clause-spare : goal.add_done-requires-clause-spare
add_done-requires-clause-spare c =
    let ready = (done_ready c.args.arrival c.self.invariant (ap (λ (st : ProcessorState). st.history) c.self.view_is) (ap (λ (st : ProcessorState). st.key) c.self.view_is) (c.take_looked.ensures.taken ∙ ap (λ (rs : List RoomState). buckets_held c.self.inside.looked rs) c.deref_mut.ensures.value ∙ ap (λ (st : ProcessorState). st.looked) c.self.view_is) c.requires.running c.requires.follows c.requires.tags) in
    ready.room.dones

pub add_done-requires-clause-buckets : goal.add_done-requires-clause-buckets
add_done-requires-clause-buckets c =
    let ready = (done_ready c.args.arrival c.self.invariant (ap (λ (st : ProcessorState). st.history) c.self.view_is) (ap (λ (st : ProcessorState). st.key) c.self.view_is) (c.take_looked.ensures.taken ∙ ap (λ (rs : List RoomState). buckets_held c.self.inside.looked rs) c.deref_mut.ensures.value ∙ ap (λ (st : ProcessorState). st.looked) c.self.view_is) c.requires.running c.requires.follows c.requires.tags) in
    subst (λ (bs : List Bucket). AreBucketsOf c.self.inside.session.history.opening.shape (done_len c.self.inside.session.history.opening.shape) bs) (sym c.deref.ensures.value) ready.fits

pub take_in-requires-clause-leaf : goal.take_in-requires-clause-leaf
take_in-requires-clause-leaf c =
    let ready = (done_ready c.args.arrival c.self.invariant (ap (λ (st : ProcessorState). st.history) c.self.view_is) (ap (λ (st : ProcessorState). st.key) c.self.view_is) (c.take_looked.ensures.taken ∙ ap (λ (rs : List RoomState). buckets_held c.self.inside.looked rs) c.deref_mut.ensures.value ∙ ap (λ (st : ProcessorState). st.looked) c.self.view_is) c.requires.running c.requires.follows c.requires.tags) in
    let row = (row_is c.self.invariant ready.there (omega (arith, c.self.inside.fetches.ok)) c.index.ensures) in
    leaf_fits c.self.invariant.held_is.shape row.0 ready.small

pub take_in-requires-clause-nodes : goal.take_in-requires-clause-nodes
take_in-requires-clause-nodes c =
    let ready = (done_ready c.args.arrival c.self.invariant (ap (λ (st : ProcessorState). st.history) c.self.view_is) (ap (λ (st : ProcessorState). st.key) c.self.view_is) (c.take_looked.ensures.taken ∙ ap (λ (rs : List RoomState). buckets_held c.self.inside.looked rs) c.deref_mut.ensures.value ∙ ap (λ (st : ProcessorState). st.looked) c.self.view_is) c.requires.running c.requires.follows c.requires.tags) in
    let row = (row_is c.self.invariant ready.there (omega (arith, c.self.inside.fetches.ok)) c.index.ensures) in
    ready.nodes ∙ ap₂ (λ (s : Shape) (at : ℕ). filter (λ w. not (is_held c.self.inside.holdings w)) (path s.l at)) (sym c.self.invariant.held_is.shape) (sym row.0)

pub take_in-requires-clause-in_form : goal.take_in-requires-clause-in_form
take_in-requires-clause-in_form c =
    let ready = (done_ready c.args.arrival c.self.invariant (ap (λ (st : ProcessorState). st.history) c.self.view_is) (ap (λ (st : ProcessorState). st.key) c.self.view_is) (c.take_looked.ensures.taken ∙ ap (λ (rs : List RoomState). buckets_held c.self.inside.looked rs) c.deref_mut.ensures.value ∙ ap (λ (st : ProcessorState). st.looked) c.self.view_is) c.requires.running c.requires.follows c.requires.tags) in
    subst (λ (s : Shape). All (IsInForm s) c.take_looked.new.taken.items) (sym c.self.invariant.held_is.shape) ready.in_form

pub finish-requires-clause-leaf : goal.finish-requires-clause-leaf
finish-requires-clause-leaf c =
    let ready = (done_ready c.args.arrival c.self.invariant (ap (λ (st : ProcessorState). st.history) c.self.view_is) (ap (λ (st : ProcessorState). st.key) c.self.view_is) (c.take_looked.ensures.taken ∙ ap (λ (rs : List RoomState). buckets_held c.self.inside.looked rs) c.deref_mut.ensures.value ∙ ap (λ (st : ProcessorState). st.looked) c.self.view_is) c.requires.running c.requires.follows c.requires.tags) in
    let row = (row_is c.self.invariant ready.there (omega (arith, c.self.inside.fetches.ok)) c.index.ensures) in
    leaf_fits (ap (λ (h : HoldingsState). h.shape) c.take_in.ensures.others ∙ c.self.invariant.held_is.shape) row.0 ready.small

pub finish-requires-clause-path : goal.finish-requires-clause-path
finish-requires-clause-path c =
    path_is_held c.self.inside.holdings c.take_in.new.self c.index.result.now.leaf (ap (λ (h : HoldingsState). h.shape) c.take_in.ensures.others) c.take_in.ensures.held

pub finish-requires-clause-arrived : goal.finish-requires-clause-arrived
finish-requires-clause-arrived c =
    let ready = (done_ready c.args.arrival c.self.invariant (ap (λ (st : ProcessorState). st.history) c.self.view_is) (ap (λ (st : ProcessorState). st.key) c.self.view_is) (c.take_looked.ensures.taken ∙ ap (λ (rs : List RoomState). buckets_held c.self.inside.looked rs) c.deref_mut.ensures.value ∙ ap (λ (st : ProcessorState). st.looked) c.self.view_is) c.requires.running c.requires.follows c.requires.tags) in
    ready.asked

pub finish-requires-clause-under_way : goal.finish-requires-clause-under_way
finish-requires-clause-under_way c =
    let ready = (done_ready c.args.arrival c.self.invariant (ap (λ (st : ProcessorState). st.history) c.self.view_is) (ap (λ (st : ProcessorState). st.key) c.self.view_is) (c.take_looked.ensures.taken ∙ ap (λ (rs : List RoomState). buckets_held c.self.inside.looked rs) c.deref_mut.ensures.value ∙ ap (λ (st : ProcessorState). st.looked) c.self.view_is) c.requires.running c.requires.follows c.requires.tags) in
    ready.under_way

pub finish-requires-clause-on_block : goal.finish-requires-clause-on_block
finish-requires-clause-on_block c =
    let ready = (done_ready c.args.arrival c.self.invariant (ap (λ (st : ProcessorState). st.history) c.self.view_is) (ap (λ (st : ProcessorState). st.key) c.self.view_is) (c.take_looked.ensures.taken ∙ ap (λ (rs : List RoomState). buckets_held c.self.inside.looked rs) c.deref_mut.ensures.value ∙ ap (λ (st : ProcessorState). st.looked) c.self.view_is) c.requires.running c.requires.follows c.requires.tags) in
    ready.on_block

pub finish-requires-clause-block : goal.finish-requires-clause-block
finish-requires-clause-block c =
    let ready = (done_ready c.args.arrival c.self.invariant (ap (λ (st : ProcessorState). st.history) c.self.view_is) (ap (λ (st : ProcessorState). st.key) c.self.view_is) (c.take_looked.ensures.taken ∙ ap (λ (rs : List RoomState). buckets_held c.self.inside.looked rs) c.deref_mut.ensures.value ∙ ap (λ (st : ProcessorState). st.looked) c.self.view_is) c.requires.running c.requires.follows c.requires.tags) in
    λ real. subst (λ (s : Shape). block_of c.self.inside.requests.requests c.args.arrival < s.n) (sym (ap (λ (h : HoldingsState). h.shape) c.take_in.ensures.others ∙ c.self.invariant.held_is.shape)) (ready.block real)

pub finish-requires-clause-some : goal.finish-requires-clause-some
finish-requires-clause-some c =
    let ready = (done_ready c.args.arrival c.self.invariant (ap (λ (st : ProcessorState). st.history) c.self.view_is) (ap (λ (st : ProcessorState). st.key) c.self.view_is) (c.take_looked.ensures.taken ∙ ap (λ (rs : List RoomState). buckets_held c.self.inside.looked rs) c.deref_mut.ensures.value ∙ ap (λ (st : ProcessorState). st.looked) c.self.view_is) c.requires.running c.requires.follows c.requires.tags) in
    ready.room.values

pub finish-requires-clause-each : goal.finish-requires-clause-each
finish-requires-clause-each c =
    subst (λ (s : Shape). All (λ value. length value ≡ s.b) c.self.inside.values.items) (sym ((ap (λ (h : HoldingsState). h.shape) c.take_in.ensures.others ∙ c.self.invariant.held_is.shape) ∙ c.self.invariant.record_is.shape)) c.self.invariant.blocks

pub end_fetch-requires-clause-leaf : goal.end_fetch-requires-clause-leaf
end_fetch-requires-clause-leaf c =
    let ready = (done_ready c.args.arrival c.self.invariant (ap (λ (st : ProcessorState). st.history) c.self.view_is) (ap (λ (st : ProcessorState). st.key) c.self.view_is) (c.take_looked.ensures.taken ∙ ap (λ (rs : List RoomState). buckets_held c.self.inside.looked rs) c.deref_mut.ensures.value ∙ ap (λ (st : ProcessorState). st.looked) c.self.view_is) c.requires.running c.requires.follows c.requires.tags) in
    let row = (row_is c.self.invariant ready.there (omega (arith, c.self.inside.fetches.ok)) c.index.ensures) in
    leaf_fits (ap (λ (h : HoldingsState). h.shape) c.finish.ensures.done.others ∙ ap (λ (h : HoldingsState). h.shape) c.take_in.ensures.others ∙ c.self.invariant.held_is.shape) row.0 ready.small

pub end_fetch-requires-clause-path : goal.end_fetch-requires-clause-path
end_fetch-requires-clause-path c =
    path_is_held c.self.inside.holdings c.finish.new.holdings c.index.result.now.leaf (ap (λ (h : HoldingsState). h.shape) c.finish.ensures.done.others ∙ ap (λ (h : HoldingsState). h.shape) c.take_in.ensures.others) (c.finish.ensures.done.held ∙ c.take_in.ensures.held)

pub end_fetch-requires-clause-begun : goal.end_fetch-requires-clause-begun
end_fetch-requires-clause-begun c =
    let ready = (done_ready c.args.arrival c.self.invariant (ap (λ (st : ProcessorState). st.history) c.self.view_is) (ap (λ (st : ProcessorState). st.key) c.self.view_is) (c.take_looked.ensures.taken ∙ ap (λ (rs : List RoomState). buckets_held c.self.inside.looked rs) c.deref_mut.ensures.value ∙ ap (λ (st : ProcessorState). st.looked) c.self.view_is) c.requires.running c.requires.follows c.requires.tags) in
    let row = (row_is c.self.invariant ready.there (omega (arith, c.self.inside.fetches.ok)) c.index.ensures) in
    λ w on.
    subst (λ (n : ℕ → ℕ). 1 ≤ n w) (sym (ap (λ (h : HoldingsState). count_in h) c.finish.ensures.done.others ∙ ap (λ (h : HoldingsState). count_in h) c.take_in.ensures.others))
    (ready.begun w (ap₂ (λ (s : Shape) (at : ℕ). is_on_path s.l at w) (sym (ap (λ (h : HoldingsState). h.shape) c.finish.ensures.done.others ∙ ap (λ (h : HoldingsState). h.shape) c.take_in.ensures.others ∙ c.self.invariant.held_is.shape)) (sym row.0) ∙ on))

pub done-requires-clause-limit : goal.done-requires-clause-limit
done-requires-clause-limit c =
    let ready = (done_ready c.args.arrival c.self.invariant (ap (λ (st : ProcessorState). st.history) c.self.view_is) (ap (λ (st : ProcessorState). st.key) c.self.view_is) (c.take_looked.ensures.taken ∙ ap (λ (rs : List RoomState). buckets_held c.self.inside.looked rs) c.deref_mut.ensures.value ∙ ap (λ (st : ProcessorState). st.looked) c.self.view_is) c.requires.running c.requires.follows c.requires.tags) in
    ready.limit

pub done-requires-clause-once : goal.done-requires-clause-once
done-requires-clause-once c =
    let ready = (done_ready c.args.arrival c.self.invariant (ap (λ (st : ProcessorState). st.history) c.self.view_is) (ap (λ (st : ProcessorState). st.key) c.self.view_is) (c.take_looked.ensures.taken ∙ ap (λ (rs : List RoomState). buckets_held c.self.inside.looked rs) c.deref_mut.ensures.value ∙ ap (λ (st : ProcessorState). st.looked) c.self.view_is) c.requires.running c.requires.follows c.requires.tags) in
    ready.once

pub touch_path-requires-clause-leaf : goal.touch_path-requires-clause-leaf
touch_path-requires-clause-leaf c =
    let ready = (done_ready c.args.arrival c.self.invariant (ap (λ (st : ProcessorState). st.history) c.self.view_is) (ap (λ (st : ProcessorState). st.key) c.self.view_is) (c.take_looked.ensures.taken ∙ ap (λ (rs : List RoomState). buckets_held c.self.inside.looked rs) c.deref_mut.ensures.value ∙ ap (λ (st : ProcessorState). st.looked) c.self.view_is) c.requires.running c.requires.follows c.requires.tags) in
    let row = (row_is c.self.invariant ready.there (omega (arith, c.self.inside.fetches.ok)) c.index.ensures) in
    leaf_fits (sym c.self.invariant.record_is.shape) row.0 ready.small

pub touch_path-requires-clause-rises : goal.touch_path-requires-clause-rises
touch_path-requires-clause-rises c =
    let ready = (done_ready c.args.arrival c.self.invariant (ap (λ (st : ProcessorState). st.history) c.self.view_is) (ap (λ (st : ProcessorState). st.key) c.self.view_is) (c.take_looked.ensures.taken ∙ ap (λ (rs : List RoomState). buckets_held c.self.inside.looked rs) c.deref_mut.ensures.value ∙ ap (λ (st : ProcessorState). st.looked) c.self.view_is) c.requires.running c.requires.follows c.requires.tags) in
    ready.rising

pub touch_path-requires-clause-room : goal.touch_path-requires-clause-room
touch_path-requires-clause-room c =
    let ready = (done_ready c.args.arrival c.self.invariant (ap (λ (st : ProcessorState). st.history) c.self.view_is) (ap (λ (st : ProcessorState). st.key) c.self.view_is) (c.take_looked.ensures.taken ∙ ap (λ (rs : List RoomState). buckets_held c.self.inside.looked rs) c.deref_mut.ensures.value ∙ ap (λ (st : ProcessorState). st.looked) c.self.view_is) c.requires.running c.requires.follows c.requires.tags) in
    let high = ap (λ (s : Shape). s.l) c.self.invariant.record_is.shape in let space = ready.space in omega (arith, c.self.inside.recent.ok)

pub invariant_of-self : goal.invariant_of-self
invariant_of-self c =
    let ready = (done_ready c.args.arrival c.self.invariant (ap (λ (st : ProcessorState). st.history) c.self.view_is) (ap (λ (st : ProcessorState). st.key) c.self.view_is) (c.take_looked.ensures.taken ∙ ap (λ (rs : List RoomState). buckets_held c.self.inside.looked rs) c.deref_mut.ensures.value ∙ ap (λ (st : ProcessorState). st.looked) c.self.view_is) c.requires.running c.requires.follows c.requires.tags) in
    let row = (row_is c.self.invariant ready.there (omega (arith, c.self.inside.fetches.ok)) c.index.ensures) in
    let many : length c.take_looked.new.rooms ≡ length c.self.inside.rooms.items = c.take_looked.auto.rooms ∙ ap (λ (rs : List RoomState). length rs) c.deref_mut.ensures.value in
    let whole = whole_front (vec_len c.self.inside.rooms) c.take_looked.new.rooms c.self.inside.rooms.items many (omega (arith, c.self.inside.rooms.ok)) in
    done_keeps c.self.invariant ready c.forms.ensures row refl (record {
      adds = c.add_done.ensures ∙ ap (λ (bs : List Bucket). record (added c.self.inside.session (Done c.args.arrival bs)) { dones = c.self.inside.session.dones - 1 }) c.deref.ensures.value;
      held_now = c.take_in.ensures.held;
      taken_in = c.take_in.ensures.contents;
      nodes_alone = c.take_in.ensures.others;
      finishes = c.finish.ensures.done;
      blocks = c.finish.ensures.values;
      counts = c.end_fetch.ensures.counts;
      touches = c.end_fetch.ensures.touches;
      numbers_alone = c.end_fetch.ensures.others;
      flag = c.done.ensures;
      puts = c.touch_path.ensures.puts;
      no_less = c.touch_path.ensures.capacity;
      rooms_are = rooms_taken c.self.invariant.rooms_are (ap (λ (rs : List RoomState). length rs) whole ∙ many)
          (subst (λ (rs : List RoomState). All (IsRoom c.self.inside.p) rs) (sym whole) (c.take_looked.ensures.rooms c.self.inside.p (subst (λ (rs : List RoomState). All (IsRoom c.self.inside.p) rs) (sym c.deref_mut.ensures.value) c.self.invariant.rooms_are.each)))
          c.take_in.ensures.taken (omega (arith, c.take_looked.ensures.capacity, c.take_in.ensures.capacity)) (c.take_looked.ensures.stocked c.self.inside.p c.self.invariant.rooms_are.stocked);
      stock_less = c.take_looked.ensures.len;
    })

pub take_looked-requires-clause-within : goal.take_looked-requires-clause-within
take_looked-requires-clause-within c =
    let rooms = c.self.invariant.rooms_are in
    let long = ap (λ (rs : List RoomState). length rs) c.deref_mut.ensures.value in
    let a = rooms.within in let b = rooms.enough in omega (arith, a, b, long)

pub take_looked-requires-clause-full : goal.take_looked-requires-clause-full
take_looked-requires-clause-full c = subst (λ (rs : List RoomState). All IsFull (take c.self.inside.looked rs)) (sym c.deref_mut.ensures.value) c.self.invariant.rooms_are.full

pub take_looked-requires-clause-alike : goal.take_looked-requires-clause-alike
take_looked-requires-clause-alike c =
    (c.self.inside.p, subst (λ (rs : List RoomState). All (IsRoom c.self.inside.p) rs) (sym c.deref_mut.ensures.value) c.self.invariant.rooms_are.each, c.self.invariant.rooms_are.stocked)

pub take_looked-requires-clause-enough : goal.take_looked-requires-clause-enough
take_looked-requires-clause-enough c =
    let ready = (done_ready c.args.arrival c.self.invariant (ap (λ (st : ProcessorState). st.history) c.self.view_is) (ap (λ (st : ProcessorState). st.key) c.self.view_is) (ap (λ (st : ProcessorState). st.looked) c.self.view_is) c.requires.running c.requires.follows c.requires.tags) in
    let stock = ready.room.stock in let within = c.self.invariant.rooms_are.within in omega (arith, stock, within)

pub take_looked-requires-clause-empty : goal.take_looked-requires-clause-empty
take_looked-requires-clause-empty c = c.self.invariant.rooms_are.empty

pub take_looked-requires-clause-space : goal.take_looked-requires-clause-space
take_looked-requires-clause-space c = let within = c.self.invariant.rooms_are.within in let fits = c.self.invariant.rooms_are.fits in omega (arith, within, fits)

pub returns : goal.returns
returns c = record {
  state = done_so (buckets_held c.self.inside.looked c.self.inside.rooms.items) c.take_looked.new.taken.items c.args.arrival c.add_done.new.self c.end_fetch.new.self c.self.inside.rooms.items c.args.self.now c.self.invariant c.self.view_is
      (c.take_looked.ensures.taken ∙ ap (λ (rs : List RoomState). buckets_held c.self.inside.looked rs) c.deref_mut.ensures.value)
      (c.add_done.ensures ∙ ap (λ (bs : List Bucket). record (added c.self.inside.session (Done c.args.arrival bs)) { dones = c.self.inside.session.dones - 1 }) c.deref.ensures.value);
}
