-- Pieces of work, the numbers that passes keep of them, and their order.
use Rattle.std.specs.Prelude.{◌≡◌, ℕ, ◌<◌, ◌≤◌, List, ◌++◌, map, ◌==◌, ⊤}
use Rattle.std.specs.List.{All, AllPairs, Contains, count_by}
use Rattle.tao_orders.specs.Shares.{IsWhole}
use Rattle.tao_orders.specs.declared.work.Work.{Work}
use Rattle.tao_orders.specs.declared.work.Work.TheVariants.{Order, Stop}

-- the version of an order; 0 for a Stop
abbrev pub number_of : Work → ℕ
number_of (Order order) = order.version
number_of Stop = 0

-- only a Stop has the number 0
abbrev pub IsNumbered : Work → Type 0
IsNumbered (Order order) = 1 ≤ order.version
IsNumbered Stop = ⊤

-- the second may be put after the first: no order after a Stop, and only one of a greater version after an order
abbrev pub MayFollow : Work → Work → Type 0
MayFollow first Stop = ⊤
MayFollow Stop (Order order) = ⊥
MayFollow (Order first) (Order order) = first.version < order.version

-- the work may be put after all of these
abbrev pub MayPut : List Work → Work → Type 0
MayPut put work = IsNumbered work × All (λ first. MayFollow first work) put

-- versions rise, and no order comes after a Stop
abbrev pub IsInOrder : List Work → Type 0
IsInOrder works = All IsNumbered works × AllPairs MayFollow works

-- how often the list has a number
abbrev pub times : ℕ → List ℕ → ℕ
times n ns = count_by (λ m. m == n) ns

-- the list has no version twice
abbrev pub EachOnce : List ℕ → Type 0
EachOnce ns = (n : ℕ) → 1 ≤ n → times n ns ≤ 1

-- an order of this version is newer than all that a pass took, of which none is a Stop
abbrev pub IsNewest : List ℕ → ℕ → Type 0
IsNewest took version = 1 ≤ version → (n : ℕ) → 1 ≤ times n took → (1 ≤ n) × (n < version)

-- a pass of this share took some of what all passes took, each piece as it was put; if its share is the whole, it took each of them
pub record IsPartOf (gone took : List Work) (share : List ℕ) : Type 0 where
  pub as_put : All (Contains gone) took
  pub among : (n : ℕ) → times n (map number_of took) ≤ times n (map number_of gone)
  pub all : IsWhole share → (n : ℕ) → times n (map number_of took) ≡ times n (map number_of gone)

-- a suffix of what was put, and the pass took of what comes before it
pub record IsLeft (put took : List Work) (share : List ℕ) (left : List Work) : Type 0 where
  pub gone : List Work
  pub suffix : put ≡ gone ++ left
  pub part : IsPartOf gone took share
