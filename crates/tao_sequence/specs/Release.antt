-- Which arrivals are done, as a flag for each that a session may have, and how many are released.
use Rattle.std.specs.Prelude.{◌≡◌, ℕ, ◌<◌, ◌≤◌, Bool, true, false, List, length}
use Rattle.std.specs.List.{slice_index_or}

-- whether the flag of this arrival is up; past the last flag none is
abbrev pub is_done_in : List Bool → ℕ → Bool
is_done_in flags arrival = slice_index_or flags arrival false

-- all arrivals below r are done
abbrev pub AreDoneBelow : List Bool → ℕ → Type 0
AreDoneBelow flags r = (i : ℕ) → i < r → is_done_in flags i ≡ true

-- r is the greatest number so that all arrivals below it are done
pub record IsReleased (flags : List Bool) (r : ℕ) : Type 0 where
  pub within : r ≤ length flags
  pub below : AreDoneBelow flags r
  pub stops : is_done_in flags r ≡ false

-- r is the first place from a start on whose flag isn't up
pub record IsFirstUndone (flags : List Bool) (from r : ℕ) : Type 0 where
  pub low : from ≤ r
  pub within : r ≤ length flags
  pub between : (i : ℕ) → from ≤ i → i < r → is_done_in flags i ≡ true
  pub stops : is_done_in flags r ≡ false
