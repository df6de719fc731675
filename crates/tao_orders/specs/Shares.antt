-- How much of all taking a pass has: a number d in its share is one part of 2 ^ d, so that a split halves and a join adds.
use Rattle.std.specs.Prelude.{◌≡◌, ℕ, ◌+◌, ◌-◌, ◌^◌, ◌≤◌, List, [], ◌∷◌, drop, slice_index_or}
use Rattle.std.specs.List.{sum_by}

-- the share in parts of 2 ^ n
abbrev pub weight : ℕ → List ℕ → ℕ
weight n share = sum_by (λ d. 2 ^ (n - d)) share

-- no other pass has a share
abbrev pub IsWhole : List ℕ → Type 0
IsWhole share = (least : ℕ) × ((n : ℕ) → least ≤ n → weight n share ≡ 2 ^ n)

-- the two shares are as much as the one
abbrev pub AreParts : List ℕ → List ℕ → List ℕ → Type 0
AreParts share first second = (least : ℕ) × ((n : ℕ) → least ≤ n → weight n first + weight n second ≡ weight n share)

-- a whole share that was split is whole once it is joined
abbrev pub JoinedIsWhole : Type 0
JoinedIsWhole = (share first second joined : List ℕ) → AreParts share first second → AreParts joined first second → IsWhole share → IsWhole joined

-- half of the share's first part
abbrev pub half : List ℕ → List ℕ
half share = (slice_index_or share 0 0 + 1) ∷ []

-- the share without that half
abbrev pub other_half : List ℕ → List ℕ
other_half share = (slice_index_or share 0 0 + 1) ∷ drop 1 share
