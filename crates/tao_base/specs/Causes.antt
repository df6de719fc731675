-- Fault counters: what a call on something outside does to them when it fails, and when it doesn't.
use Rattle.std.specs.Prelude.{◌≡◌, ℕ, ◌+◌, ◌-◌, ◌^◌, ◌≤◌, ◌<◌, min, Result, IfOk, OnOk, OnErr}

-- one more fault; the counter saturates
abbrev pub one_more : ℕ → ℕ
one_more count = min (count + 1) (2 ^ 64 - 1)

-- the fault counter was incremented, or is saturated
abbrev pub Rose : ℕ → ℕ → Type 0
Rose before now = one_more before ≤ now

-- The fault counter never falls; a call that fails increments it; a call that is Ok leaves it.
pub record HasCause {T E : Type 0} (before now : ℕ) (result : Result T E) : Type 0 where
  pub later : before ≤ now
  pub failed : OnErr result (Rose before now)
  pub kept : OnOk result (now ≡ before)

-- a write took some of the bytes, and not none
abbrev pub TakesSome : {E : Type 0} → Result ℕ E → ℕ → Type 0
TakesSome result len = IfOk result (λ n. (0 < n) × (n ≤ len))
