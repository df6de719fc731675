-- What the tests know of the work that they put.
use Rattle.std.specs.Prelude.{ℕ, ◌<◌, ◌≤◌, List}
use Rattle.std.specs.List.{All}
use Rattle.tao_orders.specs.Works.{number_of}
use Rattle.tao_orders.specs.declared.work.Work.{Work}

-- an order of a version below n
abbrev pub IsBelow : ℕ → Work → Type 0
IsBelow n work = (1 ≤ number_of work) × (number_of work < n)

-- all of these are
abbrev pub AreBelow : ℕ → List Work → Type 0
AreBelow n works = All (IsBelow n) works
