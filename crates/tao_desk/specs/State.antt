-- What contracts see of a desk.
use Rattle.std.specs.Prelude.{◌≡◌, ℕ, List}
use Rattle.tao_base.specs.declared.session.Cause.{Cause}
use Rattle.tao_base.specs.declared.session.Event.TheVariants.{Fault}
use Rattle.tao_base.specs.Session.{History}
use Rattle.tao_holdings.specs.Holding.{HoldingsState}
use Rattle.tao_images.specs.Answers.{with_event}

-- the key, the source of its tape's words, the record, and what the proxy holds
pub record DeskState : Type 0 where
  pub key : List ℕ
  pub source : List ℕ
  pub history : History
  pub holdings : HoldingsState

-- the desk after a fault with this cause
abbrev pub faulted : DeskState → Cause → DeskState
faulted d cause = record d { history = with_event d.history (Fault cause) }

-- of all that contracts see, only the record and what is held may differ
abbrev pub SameStore : DeskState → DeskState → Type 0
SameStore old new = new ≡ record old { history = new.history; holdings = new.holdings }
