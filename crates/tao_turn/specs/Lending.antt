-- What a turn lends: its value, and nothing else of it changes.
use Rattle.std.specs.Borrow.{Lends, MutBor, Fml}
use denote.RattleType.{RattleType}
use Rattle.tao_turn.specs.declared.pass.Held.{Held}
use Rattle.tao_turn.specs.contracts.pass.Held.{the_row}

-- what is lent is the value under the turn, and what is written there is its value afterwards
abbrev pub LendsValue : (T E : RattleType) → MutBor (Held T.Denot E.Denot) → MutBor T.Denot → Fml
LendsValue T E s r = Lends (the_row T E) T s r (λ held. record s.now { value = held })
