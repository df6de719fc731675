-- What clauses say of a lock, a pass and a turn.
use Rattle.std.specs.Prelude.{◌≡◌, ℕ, List, [], ◌∷◌, Bool, true, None}
use base.Stored.{Coded}
use Rattle.atomic_table.specs.Seated.{TableId, table_id_coded}
use Rattle.tao_turn.specs.Views.{is_holder, ticket_held, list_found, are_idle, known_in}
use Rattle.tao_turn.specs.declared.view.Knowledge.{Knowledge}
use Rattle.tao_turn.specs.declared.lock.TurnLock.{TurnLock}
use Rattle.tao_turn.specs.declared.pass.TurnPass.{TurnPass}
use Rattle.tao_turn.specs.declared.pass.Held.{Held}

-- which lock it is: no two locks have the same
abbrev pub LockId : Type 0
LockId = TableId

-- a lock's id can stand in a value
abbrev pub lock_id_coded : Coded LockId
lock_id_coded = table_id_coded

module _ {E : Type 0} where
  -- the lock that the pass was made for
  abbrev pub pass_lock : TurnPass E → LockId
  pass_lock pass = pass.badge.table_id

  -- it is a pass in no turn, and no blank
  abbrev pub is_idle : TurnPass E → Bool
  is_idle pass = are_idle pass.badge.views

  -- what a pass knows
  abbrev pub known : TurnPass E → Knowledge E
  known pass = known_in pass.badge.views

module _ {T E : Type 0} where
  abbrev pub lock_of : TurnLock T E → LockId
  lock_of lock = lock.table.shared.table_id

  -- how many shares the lock has
  abbrev pub seats_of : TurnLock T E → ℕ
  seats_of lock = lock.table.shared.key.0

  -- it is a pass of this lock
  abbrev pub IsPassOf : TurnLock T E → TurnPass E → Type 0
  IsPassOf lock pass = (pass_lock pass ≡ lock_of lock) × (is_idle pass ≡ true)

  -- the lock that the turn is of
  abbrev pub held_lock : Held T E → LockId
  held_lock held = held.seat.table_id

  -- the value that lies in a turn
  abbrev pub value_of : Held T E → T
  value_of held = held.value

  -- its ticket: how many turns of the lock were before it
  abbrev pub ticket_of : Held T E → ℕ
  ticket_of held = ticket_held held.seat.me.0.stage

  -- the list that the turn found
  abbrev pub found : Held T E → List E
  found held = list_found held.seat.me.0.stage

  -- what the pass knew when the turn began
  abbrev pub known_before : Held T E → Knowledge E
  known_before held = held.seat.me.0.known

  -- it is a turn of this lock
  pub record IsTurnOf (lock : TurnLock T E) (held : Held T E) : Type 0 where
    pub of_lock : held_lock held ≡ lock_of lock
    pub holder : is_holder held.seat.me.0.stage ≡ true
    pub apart : held.seat.me.0.joined ≡ None
    pub slot : held.seat.me.1 ≡ (0, None) ∷ []
