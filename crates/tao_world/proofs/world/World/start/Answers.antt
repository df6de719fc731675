use Rattle.std.proofs.Common.{List, [], ◌∷◌, ◌++◌, Option, None, sym, ap, ◌∙◌, subst}
use Rattle.tao_world.specs.World.{RoomState, IsWorld, IsLeftBy}
use Rattle.tao_world.specs.State.{Reading, Sending}
use Rattle.tao_world.proofs.Starts.{is_world, left_by_none, in_step}
use Rattle.tao_world.proofs.world.World.start.Goals as goal

pub invariant_of-result : goal.invariant_of-result
invariant_of-result c =
    let w = is_world c.args.script.now c.in_ok-desk.desk c.in_ok-tree.tree c.in_ok-desk.ensures.started c.in_ok-desk.ensures.sound c.in_ok-tree.ensures in
    let w1 = subst (λ (fetches : List (Option Reading)). IsWorld (record { desk = c.in_ok-desk.desk; tree = c.in_ok-tree.tree; fetches = fetches; stores = None ∷ [] }) (record { read = []; bytes = [] })) (sym c.new.ensures.items) w in
    let w2 = subst (λ (stores : List (Option Sending)). IsWorld (record { desk = c.in_ok-desk.desk; tree = c.in_ok-tree.tree; fetches = c.new.result.items; stores = stores }) (record { read = []; bytes = [] })) (sym (c.push_reserved.ensures.items ∙ ap (λ (xs : List (Option Sending)). xs ++ None ∷ []) c.in_ok-stores.ensures.items)) w1 in
    subst (λ (spare : RoomState). IsWorld (record { desk = c.in_ok-desk.desk; tree = c.in_ok-tree.tree; fetches = c.new.result.items; stores = c.push_reserved.new.self.items }) spare) (sym c.none.ensures) w2

pub returns-clause-left : goal.returns-clause-left
returns-clause-left c =
    let w = left_by_none c.args.script.now c.in_ok-desk.desk c.in_ok-tree.tree c.in_ok-desk.ensures.started c.in_ok-desk.ensures.sound c.in_ok-tree.ensures in
    let w1 = subst (λ (fetches : List (Option Reading)). IsLeftBy [] (record { desk = c.in_ok-desk.desk; tree = c.in_ok-tree.tree; fetches = fetches; stores = None ∷ [] })) (sym c.new.ensures.items) w in
    subst (λ (stores : List (Option Sending)). IsLeftBy [] (record { desk = c.in_ok-desk.desk; tree = c.in_ok-tree.tree; fetches = c.new.result.items; stores = stores })) (sym (c.push_reserved.ensures.items ∙ ap (λ (xs : List (Option Sending)). xs ++ None ∷ []) c.in_ok-stores.ensures.items)) w1

pub returns-clause-in_step : goal.returns-clause-in_step
returns-clause-in_step c = in_step [] _ (returns-clause-left c) c.in_ok-desk.ensures.sound
