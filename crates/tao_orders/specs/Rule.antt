-- The rule of the queue, over the slips that it holds and what each pass has done.
use Rattle.std.specs.Prelude.{◌≡◌, ℕ, ◌≤◌, ◌^◌, List, [], ◌∷◌, ◌++◌, length, map, take, Bool, true, Some, slice_get}
use Rattle.std.specs.List.{All, Contains, range_with_len, sum_by}
use mathlib.Core.Option.{some}
use lib.ListN.{get_elem?}
use Rattle.tao_orders.specs.Shares.{weight}
use Rattle.tao_orders.specs.Works.{number_of, IsNumbered, IsInOrder, IsPartOf, times, EachOnce, IsNewest}
use Rattle.tao_orders.specs.declared.hand.Hand.{Hand}
use Rattle.tao_orders.specs.declared.work.Slip.{Slip}
use Rattle.tao_orders.specs.declared.work.Work.{Work}

-- what a pass has done: whether it is the one that puts, what it put, what it took, and its share of the taking
abbrev pub hand : Bool → List Work → List Work → List ℕ → Hand
hand puts put took share = record { puts = puts; put = put; took = took; share = share }

-- the work of these slips
abbrev pub works : List Slip → List Work
works slips = map (λ slip. slip.work) slips

-- how often the pass took a number
abbrev pub took_times : ℕ → Hand → ℕ
took_times n v = times n (map number_of v.took)

-- how often all passes together did
abbrev pub taken : ℕ → List Hand → ℕ
taken n views = sum_by (took_times n) views

-- the shares of all passes together, in parts of 2 ^ n
abbrev pub weights : ℕ → List Hand → ℕ
weights n views = sum_by (λ v. weight n v.share) views

-- of the pass at this place
abbrev pub Each : List Hand → (ℕ → Hand → Type 0) → Type 0
Each views F = (pass : ℕ) (v : Hand) → get_elem? views pass ≡ some v → F pass v

-- what was put is what is gone and then what the queue holds, each slip with its place; one pass puts; each that is gone was taken once
pub record InLine (slips : List Slip) (views : List Hand) : Type 0 where
  pub sent : List Work
  pub gone : List Work
  pub seat : ℕ
  pub least : ℕ
  pub sent_is : sent ≡ gone ++ works slips
  pub places : map (λ slip. slip.number) slips ≡ range_with_len (length gone) (length slips)
  pub putter : Each views (λ pass v. v.puts ≡ true → (pass ≡ seat) × (v.put ≡ sent))
  pub once : (n : ℕ) → taken n views ≡ times n (map number_of gone)
  pub as_put : Each views (λ pass v. All (Contains gone) v.took)
  pub whole : (n : ℕ) → least ≤ n → weights n views ≡ 2 ^ n
  pub owned : Each views (λ pass v. v.share ≡ [] → v.took ≡ [])
  pub in_order : IsInOrder sent

-- a piece was appended
abbrev pub DidPut : Hand → Slip → Hand → Type 0
DidPut v slip w = w ≡ hand v.puts (v.put ++ slip.work ∷ []) v.took v.share

-- the queue holds the last pieces that were put
abbrev pub HoldsLast : List Work → List Slip → Type 0
HoldsLast put slips = (gone : List Work) × (put ≡ gone ++ works slips)

-- the pass after it took a piece
abbrev pub after_taking : Hand → Slip → Hand
after_taking v slip = hand v.puts v.put (v.took ++ slip.work ∷ []) v.share

-- a piece was taken, which was put after all that this pass took and which nobody took before
abbrev pub DidTake : Hand → Slip → Hand → Type 0
DidTake v slip w = (w ≡ after_taking v slip) × IsNumbered slip.work × IsNewest (map number_of v.took) (number_of slip.work) × EachOnce (map number_of w.took)

-- the putting pass took the piece at this place of what it put; what it took before is of what comes before it
abbrev pub DidDrain : Hand → Slip → Hand → Type 0
DidDrain v slip w = (w ≡ after_taking v slip) × (slice_get v.put slip.number ≡ Some slip.work) × IsPartOf (take slip.number v.put) v.took v.share

-- what the putting pass put is what is gone and what the queue holds, and it took of what is gone
abbrev pub HoldsRest : Hand → List Slip → Type 0
HoldsRest v slips = (gone : List Work) × (v.put ≡ gone ++ works slips) × IsPartOf gone v.took v.share
