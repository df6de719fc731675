-- The greatest number that passes a test, and the last one below a bound.
use Rattle.std.specs.Prelude.{◌≡◌, ℕ, ◌<◌, ◌≤◌, ◌⊎◌, Bool, true, false, Option, MatchOption}

-- r is the greatest of the numbers 1 to n that passes, or 0 if none does
pub record IsGreatest (passes : ℕ → Bool) (n r : ℕ) : Type 0 where
  pub within : r ≤ n
  pub here : (r ≡ 0) ⊎ (passes r ≡ true)
  pub none : (m : ℕ) → r < m → m ≤ n → passes m ≡ false

-- the last of the numbers below n that passes, if there is one
abbrev pub IsLast : (ℕ → Bool) → ℕ → Option ℕ → Type 0
IsLast passes n last = MatchOption last ((i : ℕ) → i < n → passes i ≡ false)
    (λ i. (i < n) × (passes i ≡ true) × ((j : ℕ) → i < j → j < n → passes j ≡ false))
