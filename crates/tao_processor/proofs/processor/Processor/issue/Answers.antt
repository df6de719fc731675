use Rattle.std.proofs.Common.{vec_len, ◌≡◌, ℕ, ◌+◌, ◌-◌, ◌*◌, ◌<◌, ◌≤◌, Bool, true, false, length, reverse, All, List, [], ◌∷◌, ◌++◌, refl, sym, ap, ◌∙◌, subst, arith}
use Rattle.std.specs.List.Sorted.{IsStrictlyIncreasing}
use Rattle.tao_base.specs.Limits.{Shape}
use Rattle.tao_base.specs.Session.{History}
use Rattle.tao_model.specs.Events.{has_fault, dones, issues}
use Rattle.tao_base.specs.declared.session.Event.{Event}
use Rattle.tao_base.specs.declared.session.Event.TheVariants.{Issue}
use Rattle.tao_base.specs.Buckets.{IsInForm}
use Rattle.tao_record.specs.State.{issue_len, added}
use Rattle.tao_holdings.specs.Holding.{HoldingsState, is_held, version_in, contents_in, written_at}
use Rattle.tao_processor.specs.State.{ProcessorState}
use Rattle.tao_processor.specs.Steps.{IsNodeOf, IsEmpty, written_of}
use Rattle.tao_bucket.specs.Encoding.{format_of}
use Rattle.tao_processor.specs.Rooms.{buckets_held}
use Rattle.tao_processor.specs.Tags.{KeepsTagsOf}
use Rattle.tao_processor.proofs.IssueKept.{issue_ready, issue_keeps, sent_well, issues_so}
use Rattle.tao_processor.proofs.OrdersSent.{room_for_fewer}
use Rattle.tao_processor.proofs.WrittenBack.{whole_front}
use Rattle.tao_base.specs.declared.storage.Bucket.{Bucket}
use Rattle.tao_processor.proofs.processor.Processor.issue.Goals as goal

pub overflow_add-version : goal.overflow_add-version
overflow_add-version c =
    let ready = (issue_ready c.self.invariant (ap (λ (st : ProcessorState). st.history) c.self.view_is) c.requires.due) in
    let version = ready.version in omega arith

pub write_back-requires-clause-spare : goal.write_back-requires-clause-spare
write_back-requires-clause-spare c =
    let ready = (issue_ready c.self.invariant (ap (λ (st : ProcessorState). st.history) c.self.view_is) c.requires.due) in
    ready.room.issues

pub write_back-requires-clause-count : goal.write_back-requires-clause-count
write_back-requires-clause-count c =
    let ready = (issue_ready c.self.invariant (ap (λ (st : ProcessorState). st.history) c.self.view_is) c.requires.due) in
    let a : length c.deref.result.now ≡ length c.self.inside.recent.items = ap (λ (xs : List ℕ). length xs) c.deref.ensures.value in let count = ready.count in let b = c.deref_mut.ensures.len in omega (arith, c.self.inside.written.ok)

pub write_back-requires-clause-few : goal.write_back-requires-clause-few
write_back-requires-clause-few c =
    let ready = (issue_ready c.self.invariant (ap (λ (st : ProcessorState). st.history) c.self.view_is) c.requires.due) in
    let a : length c.deref.result.now ≡ length c.self.inside.recent.items = ap (λ (xs : List ℕ). length xs) c.deref.ensures.value in let few : length c.self.inside.recent.items ≤ issue_len c.self.inside.holdings.shape = subst (λ (s : Shape). length c.self.inside.recent.items ≤ issue_len s) (sym c.self.invariant.held_is.shape) ready.few in subst (λ (xs : List ℕ). length xs ≤ issue_len c.self.inside.holdings.shape) (sym c.deref.ensures.value) few

pub write_back-requires-clause-rising : goal.write_back-requires-clause-rising
write_back-requires-clause-rising c =
    let ready = (issue_ready c.self.invariant (ap (λ (st : ProcessorState). st.history) c.self.view_is) c.requires.due) in
    subst (λ (xs : List ℕ). IsStrictlyIncreasing xs) (sym c.deref.ensures.value) ready.rising

pub write_back-requires-clause-tree : goal.write_back-requires-clause-tree
write_back-requires-clause-tree c =
    let ready = (issue_ready c.self.invariant (ap (λ (st : ProcessorState). st.history) c.self.view_is) c.requires.due) in
    subst (λ (xs : List ℕ). All (IsNodeOf c.self.inside.holdings.shape) xs) (sym c.deref.ensures.value) (subst (λ (s : Shape). All (IsNodeOf s) c.self.inside.recent.items) (sym c.self.invariant.held_is.shape) ready.tree)

pub write_back-requires-clause-held : goal.write_back-requires-clause-held
write_back-requires-clause-held c =
    let ready = (issue_ready c.self.invariant (ap (λ (st : ProcessorState). st.history) c.self.view_is) c.requires.due) in
    subst (λ (xs : List ℕ). All (λ node. is_held c.self.inside.holdings node ≡ true) xs) (sym c.deref.ensures.value) ready.held_all

pub write_back-requires-clause-fits : goal.write_back-requires-clause-fits
write_back-requires-clause-fits c =
    let ready = (issue_ready c.self.invariant (ap (λ (st : ProcessorState). st.history) c.self.view_is) c.requires.due) in
    let a : length c.deref.result.now ≡ length c.self.inside.recent.items = ap (λ (xs : List ℕ). length xs) c.deref.ensures.value in let fits = ready.fits in omega arith

pub set_versions-requires-clause-rising : goal.set_versions-requires-clause-rising
set_versions-requires-clause-rising c =
    let ready = (issue_ready c.self.invariant (ap (λ (st : ProcessorState). st.history) c.self.view_is) c.requires.due) in
    subst (λ (xs : List ℕ). IsStrictlyIncreasing xs) (sym c.deref-2.ensures.value) ready.rising

pub set_versions-requires-clause-held : goal.set_versions-requires-clause-held
set_versions-requires-clause-held c =
    let ready = (issue_ready c.self.invariant (ap (λ (st : ProcessorState). st.history) c.self.view_is) c.requires.due) in
    subst (λ (xs : List ℕ). All (λ node. is_held c.write_back.new.holdings node ≡ true) xs) (sym c.deref-2.ensures.value)
    (subst (λ (r : ℕ → Bool). All (λ node. r node ≡ true) c.self.inside.recent.items) (sym c.write_back.ensures.holdings.held) ready.held_all)

pub set_versions-requires-clause-newer : goal.set_versions-requires-clause-newer
set_versions-requires-clause-newer c =
    let ready = (issue_ready c.self.invariant (ap (λ (st : ProcessorState). st.history) c.self.view_is) c.requires.due) in
    subst (λ (xs : List ℕ). All (λ node. version_in c.write_back.new.holdings node < c.self.inside.issues + 1) xs) (sym c.deref-2.ensures.value)
    (subst (λ (v : ℕ → ℕ). All (λ node. v node < c.self.inside.issues + 1) c.self.inside.recent.items) (sym (ap (λ (st : HoldingsState). version_in st) c.write_back.ensures.holdings.others)) ready.newer)

pub push_reserved-requires : goal.push_reserved-requires
push_reserved-requires c =
    let ready = (issue_ready c.self.invariant (ap (λ (st : ProcessorState). st.history) c.self.view_is) c.requires.due) in
    let place = ready.place in let count = c.self.invariant.writes.count in let m = c.self.invariant.writes.issues in omega (arith, c.self.inside.places.ok)

pub overflow_add-self : goal.overflow_add-self
overflow_add-self c =
    let ready = (issue_ready c.self.invariant (ap (λ (st : ProcessorState). st.history) c.self.view_is) c.requires.due) in
    let fits = ready.fits in omega (arith, c.self.inside.recent.ok, c.len.ensures)

pub invariant_of-self : goal.invariant_of-self
invariant_of-self c =
    let ready = (issue_ready c.self.invariant (ap (λ (st : ProcessorState). st.history) c.self.view_is) c.requires.due) in
    let history = ap (λ (st : ProcessorState). st.history) c.self.view_is in
    let long : length c.write_back.new.written ≡ length c.self.inside.written.items =
    let a = c.write_back.ensures.count in let b = c.deref_mut.ensures.len in omega (arith, c.self.inside.written.ok) in
    let whole = whole_front _ c.write_back.new.written c.self.inside.written.items long (omega (arith, c.self.inside.written.ok, c.deref_mut.ensures.len)) in
    let capacity = c.push_reserved.ensures.capacity in
    let well = sent_well c.self.invariant ready c.deref.ensures.value c.write_back.ensures.order c.write_back.ensures.in_form in
    let many : length c.keep_tags.new.tags ≡ length c.self.inside.tags.items = c.keep_tags.auto.tags ∙ ap (λ (ts : List (List ℕ)). length ts) c.deref_mut-2.ensures.value in
    let whole_tags = whole_front (vec_len c.self.inside.tags) c.keep_tags.new.tags c.self.inside.tags.items many (omega (arith, c.self.inside.tags.ok)) in
    issue_keeps {order = c.write_back.new.order} c.self.invariant
    (subst (λ (h : History). has_fault (reverse h.events) ≡ false) (sym history) c.requires.running)
    (subst (λ (h : History). dones (reverse h.events) ≡ (issues (reverse h.events) + 1) * h.opening.shape.k) (sym history) c.requires.due)
    ready (record {
      numbered = refl;
      adds = c.write_back.ensures.recorded ∙ ap (λ (ns : List ℕ). record (added c.self.inside.session (Issue (c.self.inside.issues + 1) c.self.inside.nonce (written_of (contents_in c.self.inside.holdings) ns (c.self.inside.issues + 1) c.self.inside.nonce))) { issues = c.self.inside.session.issues - 1 }) c.deref.ensures.value;
      in_form = subst (λ (ns : List ℕ). All (IsInForm c.self.inside.holdings.shape) (written_of (contents_in c.self.inside.holdings) ns (c.self.inside.issues + 1) c.self.inside.nonce)) c.deref.ensures.value c.write_back.ensures.in_form;
      again = c.write_back.ensures.holdings;
      versions = c.set_versions.ensures.versions ∙ ap (λ (ns : List ℕ). written_at ns (c.self.inside.issues + 1) (version_in c.write_back.new.holdings)) c.deref-2.ensures.value;
      versions_alone = c.set_versions.ensures.others;
      empty = subst (λ (bs : List Bucket). All IsEmpty bs) (sym whole) c.write_back.ensures.empty;
      as_long = ap (λ (bs : List Bucket). length bs) whole ∙ long;
      placed = c.push_reserved.ensures.items ∙ ap (λ (es : List Event). c.self.inside.places.items ++ length es ∷ []) c.events-place.ensures;
      no_less = omega arith;
      next = omega (arith, c.self.inside.recent.ok, c.len.ensures);
      sends = well.sends;
      keeps = subst (λ (ts : List (List ℕ)). KeepsTagsOf c.self.inside.p c.write_back.new.order c.self.inside.tags.items ts) (sym whole_tags)
          (subst (λ (ts : List (List ℕ)). KeepsTagsOf c.self.inside.p c.write_back.new.order ts c.keep_tags.new.tags) c.deref_mut-2.ensures.value c.keep_tags.ensures);
      left = c.take_order-order.ensures.left c.self.inside.p (issue_len c.self.inside.p) c.self.invariant.order_rooms;
      one_less = c.take_order-order.ensures.len;
    }) (c.truncate.ensures.items) (let kept = c.truncate.ensures.capacity in omega arith)

pub take_order-order-requires : goal.take_order-order-requires
take_order-order-requires c =
    let ready = (issue_ready c.self.invariant (ap (λ (st : ProcessorState). st.history) c.self.view_is) c.requires.due) in
    let there = ready.room.orders in omega (arith, there)

pub write_back-requires-clause-room : goal.write_back-requires-clause-room
write_back-requires-clause-room c =
    let ready = (issue_ready c.self.invariant (ap (λ (st : ProcessorState). st.history) c.self.view_is) c.requires.due) in
    let few : length c.self.inside.recent.items ≤ issue_len c.self.inside.p = subst (λ (s : Shape). length c.self.inside.recent.items ≤ issue_len s) c.self.invariant.record_is.shape ready.few in
    room_for_fewer c.self.inside.p (issue_len c.self.inside.p) (length c.deref.result.now) c.take_order-order.result (subst (λ (xs : List ℕ). length xs ≤ issue_len c.self.inside.p) (sym c.deref.ensures.value) few)
    (c.take_order-order.ensures.order c.self.inside.p (issue_len c.self.inside.p) c.self.invariant.order_rooms)

pub write_back-requires-clause-empty : goal.write_back-requires-clause-empty
write_back-requires-clause-empty c = subst (λ (bs : List Bucket). All IsEmpty bs) (sym c.deref_mut.ensures.value) c.self.invariant.written_empty

pub keep_tags-requires-clause-image : goal.keep_tags-requires-clause-image
keep_tags-requires-clause-image c =
    let ready = (issue_ready c.self.invariant (ap (λ (st : ProcessorState). st.history) c.self.view_is) c.requires.due) in
    let well = sent_well c.self.invariant ready c.deref.ensures.value c.write_back.ensures.order c.write_back.ensures.in_form in
    well.image

pub keep_tags-requires-clause-rising : goal.keep_tags-requires-clause-rising
keep_tags-requires-clause-rising c =
    let ready = (issue_ready c.self.invariant (ap (λ (st : ProcessorState). st.history) c.self.view_is) c.requires.due) in
    let well = sent_well c.self.invariant ready c.deref.ensures.value c.write_back.ensures.order c.write_back.ensures.in_form in
    well.rising

pub keep_tags-requires-clause-places : goal.keep_tags-requires-clause-places
keep_tags-requires-clause-places c =
    let ready = (issue_ready c.self.invariant (ap (λ (st : ProcessorState). st.history) c.self.view_is) c.requires.due) in
    let well = sent_well c.self.invariant ready c.deref.ensures.value c.write_back.ensures.order c.write_back.ensures.in_form in
    subst (λ (ts : List (List ℕ)). format_of c.self.inside.p.form c.write_back.new.order.version ≡ 2 → All (λ node. node < length ts) c.write_back.new.order.nodes) (sym c.deref_mut-2.ensures.value) well.places

pub returns : goal.returns
returns c =
    let ready = (issue_ready c.self.invariant (ap (λ (st : ProcessorState). st.history) c.self.view_is) c.requires.due) in
    let well = sent_well c.self.invariant ready c.deref.ensures.value c.write_back.ensures.order c.write_back.ensures.in_form in
    record {
      issued = issues_so _ (buckets_held c.self.inside.looked c.self.inside.rooms.items) (c.self.inside.issues + 1) c.write_back.new.order c.write_back.new.session c.set_versions.new.self c.args.self.now c.self.invariant refl c.self.view_is
          (c.write_back.ensures.recorded ∙ ap (λ (ns : List ℕ). record (added c.self.inside.session (Issue (c.self.inside.issues + 1) c.self.inside.nonce (written_of (contents_in c.self.inside.holdings) ns (c.self.inside.issues + 1) c.self.inside.nonce))) { issues = c.self.inside.session.issues - 1 }) c.deref.ensures.value) well;
    }
