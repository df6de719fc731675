use Rattle.std.proofs.Common.{◌≡◌, ◌⊎◌, inl, inr, ◌++◌, ◌∷◌, [], ◌<◌, Some, refl, sym, ap, ◌∙◌, subst, arith}
use Rattle.tao_base.specs.Limits.{session_limit}
use Rattle.tao_desk.specs.declared.faults.ArriveFault.{ArriveFault}
use Rattle.tao_desk.specs.declared.faults.ArriveFault.TheVariants.{SessionFull, Memory}
use Rattle.tao_model.specs.Lawful.{IsInRange}
use Rattle.tao_schedule.specs.Moves.{Arrives}
use Rattle.tao_world.specs.Moving.{IsFull, words_left, next_word}
use Rattle.tao_world.specs.State.{Reading}
use Rattle.tao_world.specs.World.{WorldState, IsLeftBy}
use Rattle.tao_world.proofs.NewFetches.{is_full, not_full, none_refused, out_of_memory, handed_on, arrived_is, arrived_left, arrived_world}
use Rattle.tao_world.proofs.world.World.arrive.Goals as goal

pub returns-then-len-session_limit-clause-fault : goal.returns-then-len-session_limit-clause-fault
returns-then-len-session_limit-clause-fault c =
    let w : WorldState = record { desk = c.self.inside.desk; tree = c.self.inside.tree; fetches = c.self.inside.fetches.items; stores = c.self.inside.stores.items } in
    inl (
      refl,
      subst (λ (w : WorldState). IsFull w) c.self.view_is (is_full w c.self.inside.spare c.self.invariant c.len.result c.session_limit.result
          (omega (arith, c.len.ensures, c.self.inside.fetches.ok)) (c.session_limit.ensures.value ∙ ap session_limit c.params.ensures.value) c.if-len-session_limit.true),
    )

pub returns-in_err-ask-clause-fault : goal.returns-in_err-ask-clause-fault
returns-in_err-ask-clause-fault c =
    let w : WorldState = record { desk = c.self.inside.desk; tree = c.self.inside.tree; fetches = c.self.inside.fetches.items; stores = c.self.inside.stores.items } in
    let free = not_full w c.self.inside.spare c.self.invariant c.len.result c.session_limit.result
    (omega (arith, c.len.ensures, c.self.inside.fetches.ok)) (c.session_limit.ensures.value ∙ ap session_limit c.params.ensures.value) c.if-len-session_limit.false in
    let none = none_refused w c.self.inside.spare c.self.invariant c.args.op free (subst (λ (w : WorldState). IsInRange w.desk.history.opening.shape c.args.op) (sym c.self.view_is) c.requires.range)
    (subst (λ (w : WorldState). 0 < words_left w) (sym c.self.view_is) c.requires.word) in
    handed_on c.from_residual.result c.in_err-ask.field-0.0 (λ (fault : ArriveFault). ((fault ≡ SessionFull) × IsFull c.args.self.now) ⊎ ((fault ≡ Memory) × ¬ IsFull c.args.self.now)) c.from_residual.ensures.1
    (inr (out_of_memory (words_left w) w.desk.history c.args.op c.in_err-ask.field-0.0 none c.in_err-ask.ensures.refused, λ full. free (subst (λ (w : WorldState). IsFull w) (sym c.self.view_is) full)))

pub invariant_of-self-2 : goal.invariant_of-self-2
invariant_of-self-2 c =
    let w : WorldState = record { desk = c.self.inside.desk; tree = c.self.inside.tree; fetches = c.self.inside.fetches.items; stores = c.self.inside.stores.items } in
    let has = arrived_is w c.args.client c.args.op c.arrive.new.self c.in_ok-ask.ask c.reserve.new.self.items c.push_reserved.new.self.items c.reserve.ensures.items c.in_ok-ask.ensures.arrived
    (c.push_reserved.ensures.items ∙ ap (λ (r : Reading). c.reserve.new.self.items ++ Some r ∷ []) c.new.ensures) in
    arrived_world w (record w { desk = c.arrive.new.self; fetches = c.push_reserved.new.self.items }) c.args.client c.args.op has c.arrive.ensures.sound c.self.inside.spare c.self.invariant

pub returns-clause-left : goal.returns-clause-left
returns-clause-left c =
    let w : WorldState = record { desk = c.self.inside.desk; tree = c.self.inside.tree; fetches = c.self.inside.fetches.items; stores = c.self.inside.stores.items } in
    let has = arrived_is w c.args.client c.args.op c.arrive.new.self c.in_ok-ask.ask c.reserve.new.self.items c.push_reserved.new.self.items c.reserve.ensures.items c.in_ok-ask.ensures.arrived
    (c.push_reserved.ensures.items ∙ ap (λ (r : Reading). c.reserve.new.self.items ++ Some r ∷ []) c.new.ensures) in
    λ ms left. subst (λ (x : WorldState). IsLeftBy (Arrives c.args.client c.args.op (next_word x) ∷ ms) (record w { desk = c.arrive.new.self; fetches = c.push_reserved.new.self.items })) c.self.view_is
    (arrived_left w (record w { desk = c.arrive.new.self; fetches = c.push_reserved.new.self.items }) c.args.client c.args.op has c.arrive.ensures.sound c.self.invariant.fetch_count ms (subst (IsLeftBy ms) (sym c.self.view_is) left))
