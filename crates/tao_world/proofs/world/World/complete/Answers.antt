use Rattle.std.proofs.Common.{◌≡◌, ℕ, ◌≤◌, true, List, Option, vec_len, length, take, drop, ◌++◌, sym, ap, ◌∙◌, subst, arith}
use Rattle.std.specs.Prelude.{IsSome}
use Rattle.tao_base.specs.Links.{order_limit}
use Rattle.tao_world.specs.Moving.{fetch_at, with_store, HasCompleted}
use Rattle.tao_world.specs.State.{Reading, Sending, is_set_at, row_at}
use Rattle.tao_world.specs.World.{WorldState, RoomState, IsLeftBy, IsWorld}
use Rattle.tao_world.proofs.AdmittedPaths.{CanAdmit, can_admit, fetch_taken, few_nodes, arrival_is, completed_is, completed_left, completed_world}
use Rattle.tao_world.proofs.world.World.complete.Goals as goal

pub admit-order-requires-clause-path : goal.admit-order-requires-clause-path
admit-order-requires-clause-path c =
    let w : WorldState = record { desk = c.self.inside.desk; tree = c.self.inside.tree; fetches = c.self.inside.fetches.items; stores = c.self.inside.stores.items } in
    let there = subst (λ (w : WorldState). IsSome (row_at w.fetches c.args.i)) (sym c.self.view_is) c.requires.fetch in
    let whole = subst (λ (w : WorldState). (d : ℕ) → d ≤ w.desk.history.opening.shape.l → is_set_at (fetch_at w c.args.i).read d ≡ true) (sym c.self.view_is) c.requires.whole in
    let taken = fetch_taken w c.args.i c.deref_mut.result.now c.take_fetch-fetch.result c.deref_mut.ensures.value c.take_fetch-fetch.ensures.fetch in
    (subst (λ (f : Reading). CanAdmit c.self.inside.desk f) taken.1 (can_admit w c.self.inside.spare c.self.invariant c.args.i there whole)).path

pub admit-order-requires-clause-up : goal.admit-order-requires-clause-up
admit-order-requires-clause-up c =
    let w : WorldState = record { desk = c.self.inside.desk; tree = c.self.inside.tree; fetches = c.self.inside.fetches.items; stores = c.self.inside.stores.items } in
    let there = subst (λ (w : WorldState). IsSome (row_at w.fetches c.args.i)) (sym c.self.view_is) c.requires.fetch in
    let whole = subst (λ (w : WorldState). (d : ℕ) → d ≤ w.desk.history.opening.shape.l → is_set_at (fetch_at w c.args.i).read d ≡ true) (sym c.self.view_is) c.requires.whole in
    let taken = fetch_taken w c.args.i c.deref_mut.result.now c.take_fetch-fetch.result c.deref_mut.ensures.value c.take_fetch-fetch.ensures.fetch in
    (subst (λ (f : Reading). CanAdmit c.self.inside.desk f) taken.1 (can_admit w c.self.inside.spare c.self.invariant c.args.i there whole)).up

pub admit-order-requires-clause-under_way : goal.admit-order-requires-clause-under_way
admit-order-requires-clause-under_way c =
    let w : WorldState = record { desk = c.self.inside.desk; tree = c.self.inside.tree; fetches = c.self.inside.fetches.items; stores = c.self.inside.stores.items } in
    let there = subst (λ (w : WorldState). IsSome (row_at w.fetches c.args.i)) (sym c.self.view_is) c.requires.fetch in
    let whole = subst (λ (w : WorldState). (d : ℕ) → d ≤ w.desk.history.opening.shape.l → is_set_at (fetch_at w c.args.i).read d ≡ true) (sym c.self.view_is) c.requires.whole in
    let taken = fetch_taken w c.args.i c.deref_mut.result.now c.take_fetch-fetch.result c.deref_mut.ensures.value c.take_fetch-fetch.ensures.fetch in
    (subst (λ (f : Reading). CanAdmit c.self.inside.desk f) taken.1 (can_admit w c.self.inside.spare c.self.invariant c.args.i there whole)).under_way

pub admit-order-requires-clause-answered : goal.admit-order-requires-clause-answered
admit-order-requires-clause-answered c =
    let w : WorldState = record { desk = c.self.inside.desk; tree = c.self.inside.tree; fetches = c.self.inside.fetches.items; stores = c.self.inside.stores.items } in
    let there = subst (λ (w : WorldState). IsSome (row_at w.fetches c.args.i)) (sym c.self.view_is) c.requires.fetch in
    let whole = subst (λ (w : WorldState). (d : ℕ) → d ≤ w.desk.history.opening.shape.l → is_set_at (fetch_at w c.args.i).read d ≡ true) (sym c.self.view_is) c.requires.whole in
    let taken = fetch_taken w c.args.i c.deref_mut.result.now c.take_fetch-fetch.result c.deref_mut.ensures.value c.take_fetch-fetch.ensures.fetch in
    (subst (λ (f : Reading). CanAdmit c.self.inside.desk f) taken.1 (can_admit w c.self.inside.spare c.self.invariant c.args.i there whole)).answered

pub add_store-requires-clause-few : goal.add_store-requires-clause-few
add_store-requires-clause-few c =
    few_nodes c.self.inside.desk.history.opening.shape c.admit-order.result.0 (length c.in_ok-flags.flags.items)
    (omega (arith, c.in_ok-flags.flags.ok, c.in_ok-flags.ensures.len, c.most_nodes.ensures) ∙ ap order_limit c.params.ensures.value) c.admit-order.ensures.fits

pub invariant_of-self-2 : goal.invariant_of-self-2
invariant_of-self-2 c =
    let w : WorldState = record { desk = c.self.inside.desk; tree = c.self.inside.tree; fetches = c.self.inside.fetches.items; stores = c.self.inside.stores.items } in
    let there = subst (λ (w : WorldState). IsSome (row_at w.fetches c.args.i)) (sym c.self.view_is) c.requires.fetch in
    let whole = subst (λ (w : WorldState). (d : ℕ) → d ≤ w.desk.history.opening.shape.l → is_set_at (fetch_at w c.args.i).read d ≡ true) (sym c.self.view_is) c.requires.whole in
    let taken = fetch_taken w c.args.i c.deref_mut.result.now c.take_fetch-fetch.result c.deref_mut.ensures.value c.take_fetch-fetch.ensures.fetch in
    let stores : c.add_store.new.stores.items ≡ with_store c.admit-order.result.0 w.stores = c.add_store.ensures.stores ∙ ap (λ (ss : List (Option Sending)). with_store c.admit-order.result.0 ss) c.in_ok-reserve.ensures.items in
    let has = completed_is w c.args.i (vec_len c.self.inside.fetches) c.add_store.result c.deref_mut.result.now c.take_fetch-fetch.new.fetches c.take_fetch-fetch.result c.admit-order.new.desk c.admit-order.result.0 c.add_store.new.stores.items
    c.deref_mut.ensures.value (omega (arith, c.self.inside.fetches.ok)) c.take_fetch-fetch.ensures.fetch c.take_fetch-fetch.ensures.rows (ap (λ (f : Reading). f.arrival) (sym taken.1) ∙ arrival_is w c.self.inside.spare c.self.invariant c.args.i there whole)
    c.add_store.ensures.version c.admit-order.ensures.done c.admit-order.ensures.store stores in
    subst (λ (room : RoomState). IsWorld (record w { desk = c.admit-order.new.desk; fetches = take (vec_len c.self.inside.fetches) (c.take_fetch-fetch.new.fetches ++ drop (length c.take_fetch-fetch.new.fetches) w.fetches); stores = c.add_store.new.stores.items }) room)
    (ap (λ (f : Reading). record { read = f.read; bytes = f.bytes }) taken.1 ∙ sym c.admit-order.ensures.room)
    (completed_world w (record w { desk = c.admit-order.new.desk; fetches = take (vec_len c.self.inside.fetches) (c.take_fetch-fetch.new.fetches ++ drop (length c.take_fetch-fetch.new.fetches) w.fetches); stores = c.add_store.new.stores.items }) c.args.i c.add_store.result there whole has c.admit-order.ensures.sound c.self.inside.spare c.self.invariant)

pub returns-clause-changed : goal.returns-clause-changed
returns-clause-changed c =
    let w : WorldState = record { desk = c.self.inside.desk; tree = c.self.inside.tree; fetches = c.self.inside.fetches.items; stores = c.self.inside.stores.items } in
    let there = subst (λ (w : WorldState). IsSome (row_at w.fetches c.args.i)) (sym c.self.view_is) c.requires.fetch in
    let whole = subst (λ (w : WorldState). (d : ℕ) → d ≤ w.desk.history.opening.shape.l → is_set_at (fetch_at w c.args.i).read d ≡ true) (sym c.self.view_is) c.requires.whole in
    let taken = fetch_taken w c.args.i c.deref_mut.result.now c.take_fetch-fetch.result c.deref_mut.ensures.value c.take_fetch-fetch.ensures.fetch in
    let stores : c.add_store.new.stores.items ≡ with_store c.admit-order.result.0 w.stores = c.add_store.ensures.stores ∙ ap (λ (ss : List (Option Sending)). with_store c.admit-order.result.0 ss) c.in_ok-reserve.ensures.items in
    let has = completed_is w c.args.i (vec_len c.self.inside.fetches) c.add_store.result c.deref_mut.result.now c.take_fetch-fetch.new.fetches c.take_fetch-fetch.result c.admit-order.new.desk c.admit-order.result.0 c.add_store.new.stores.items
    c.deref_mut.ensures.value (omega (arith, c.self.inside.fetches.ok)) c.take_fetch-fetch.ensures.fetch c.take_fetch-fetch.ensures.rows (ap (λ (f : Reading). f.arrival) (sym taken.1) ∙ arrival_is w c.self.inside.spare c.self.invariant c.args.i there whole)
    c.add_store.ensures.version c.admit-order.ensures.done c.admit-order.ensures.store stores in
    subst (λ (x : WorldState). HasCompleted c.args.i c.add_store.result x (record w { desk = c.admit-order.new.desk; fetches = take (vec_len c.self.inside.fetches) (c.take_fetch-fetch.new.fetches ++ drop (length c.take_fetch-fetch.new.fetches) w.fetches); stores = c.add_store.new.stores.items })) c.self.view_is has

pub returns-clause-left : goal.returns-clause-left
returns-clause-left c =
    let w : WorldState = record { desk = c.self.inside.desk; tree = c.self.inside.tree; fetches = c.self.inside.fetches.items; stores = c.self.inside.stores.items } in
    let there = subst (λ (w : WorldState). IsSome (row_at w.fetches c.args.i)) (sym c.self.view_is) c.requires.fetch in
    let whole = subst (λ (w : WorldState). (d : ℕ) → d ≤ w.desk.history.opening.shape.l → is_set_at (fetch_at w c.args.i).read d ≡ true) (sym c.self.view_is) c.requires.whole in
    let taken = fetch_taken w c.args.i c.deref_mut.result.now c.take_fetch-fetch.result c.deref_mut.ensures.value c.take_fetch-fetch.ensures.fetch in
    let stores : c.add_store.new.stores.items ≡ with_store c.admit-order.result.0 w.stores = c.add_store.ensures.stores ∙ ap (λ (ss : List (Option Sending)). with_store c.admit-order.result.0 ss) c.in_ok-reserve.ensures.items in
    let has = completed_is w c.args.i (vec_len c.self.inside.fetches) c.add_store.result c.deref_mut.result.now c.take_fetch-fetch.new.fetches c.take_fetch-fetch.result c.admit-order.new.desk c.admit-order.result.0 c.add_store.new.stores.items
    c.deref_mut.ensures.value (omega (arith, c.self.inside.fetches.ok)) c.take_fetch-fetch.ensures.fetch c.take_fetch-fetch.ensures.rows (ap (λ (f : Reading). f.arrival) (sym taken.1) ∙ arrival_is w c.self.inside.spare c.self.invariant c.args.i there whole)
    c.add_store.ensures.version c.admit-order.ensures.done c.admit-order.ensures.store stores in
    λ ms left. completed_left w (record w { desk = c.admit-order.new.desk; fetches = take (vec_len c.self.inside.fetches) (c.take_fetch-fetch.new.fetches ++ drop (length c.take_fetch-fetch.new.fetches) w.fetches); stores = c.add_store.new.stores.items }) c.args.i c.add_store.result there whole has c.admit-order.ensures.sound c.self.invariant.store_count ms (subst (IsLeftBy ms) (sym c.self.view_is) left)
