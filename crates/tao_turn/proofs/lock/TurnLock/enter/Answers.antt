use Rattle.std.proofs.Common.{rules, ◌∷◌, Some, ap, sym, ◌∙◌}
use Rattle.atomic_table.specs.Table.{rest}
use Rattle.tao_turn.proofs.lock.TurnLock.enter.Goals as goal

pub exchange-value-requires : goal.exchange-value-requires
exchange-value-requires g c =
    let x = c.wait.ensures.took.0 in
    let e = ap (λ m. m.1) c.wait.ensures.took.1 in (search rules, (Some x, e ∙ ap (λ l. (0, Some x) ∷ l) (sym (ap rest e))))
