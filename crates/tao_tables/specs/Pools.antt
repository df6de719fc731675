-- The pools that a proxy fills before an arrival, so that nothing after it takes memory. All of it is about plain numbers: how many
-- arrivals, Dones, write-backs and acknowledgements there are, and whether one more arrival is preallocated.
use Rattle.std.specs.Prelude.{◌≡◌, ℕ, ◌+◌, ◌-◌, ◌*◌, ◌<◌, ◌≤◌, Bool, true, false, if◌then◌else◌, List, reverse}
use Rattle.std.specs.Int.{div_ceil}
use Rattle.tao_base.specs.declared.session.Event.{Event}
use Rattle.tao_base.specs.Limits.{Shape}
use Rattle.tao_base.specs.Session.{Opening}
use Rattle.tao_model.specs.Events.{arrived, dones, issues, acks}
use Rattle.tao_model.specs.Lawful.{FollowsLawfully}

-- How much is in each pool: the record's capacity, preallocated images, buckets and values, and the capacity of lists.
pub record Pools : Type 0 where
  pub dones : ℕ
  pub issues : ℕ
  pub others : ℕ
  pub orders : ℕ
  pub stock : ℕ
  pub values : ℕ
  pub requests : ℕ
  pub rows : ℕ
  pub places : ℕ

-- 1 if one more arrival is preallocated
abbrev pub one_if : Bool → ℕ
one_if ready = if ready then 1 else 0

-- the number of write-backs of so many arrivals, the last period perhaps not full
abbrev pub due : Shape → ℕ → ℕ
due s count = div_ceil count s.k

-- Each pool has enough for the arrivals so far, and for one more if that is preallocated.
pub record HasPools (s : Shape) (ready : Bool) (arrivals done issued acked : ℕ) (pools : Pools) : Type 0 where
  pub for_dones : arrivals - done + one_if ready ≤ pools.dones
  pub for_issues : due s (arrivals + one_if ready) ≤ pools.issues + issued
  pub for_others : one_if ready + due s (arrivals + one_if ready) ≤ pools.others + acked
  pub for_orders : due s (arrivals + one_if ready) ≤ pools.orders + issued
  pub for_stock : (s.l + 1) * (arrivals - done + one_if ready) ≤ pools.stock
  pub for_values : arrivals - done + one_if ready ≤ pools.values
  pub for_requests : one_if ready ≤ pools.requests
  pub for_rows : arrivals + one_if ready ≤ pools.rows
  pub for_places : due s (arrivals + one_if ready) ≤ pools.places

-- what is known of these numbers in a lawful record
pub record AreCounts (s : Shape) (arrivals done issued acked : ℕ) : Type 0 where
  pub period : 1 ≤ s.k
  pub within : done ≤ arrivals
  pub paced : issued * s.k ≤ done
  pub answered : acked ≤ issued

-- this holds in each lawful record
abbrev pub CountsAreKnown : Type 0
CountsAreKnown = (o : Opening) (events : List Event) → FollowsLawfully o (reverse events)
    → AreCounts o.shape (arrived (reverse events)) (dones (reverse events)) (issues (reverse events)) (acks (reverse events))

-- no pool is smaller
pub record KeepsPools (old new : Pools) : Type 0 where
  pub dones : old.dones ≤ new.dones
  pub issues : old.issues ≤ new.issues
  pub others : old.others ≤ new.others
  pub orders : old.orders ≤ new.orders
  pub stock : old.stock ≤ new.stock
  pub values : old.values ≤ new.values
  pub requests : old.requests ≤ new.requests
  pub rows : old.rows ≤ new.rows
  pub places : old.places ≤ new.places

-- larger pools are enough too
abbrev pub RoomGrows : Type 0
RoomGrows = (s : Shape) (ready : Bool) (arrivals done issued acked : ℕ) (old new : Pools) → KeepsPools old new → HasPools s ready arrivals done issued acked old
    → HasPools s ready arrivals done issued acked new

-- at the start nothing is needed
abbrev pub RoomAtStart : Type 0
RoomAtStart = (s : Shape) (pools : Pools) → 1 ≤ s.k → HasPools s false 0 0 0 0 pools

-- what each pool is filled up to before one more arrival
abbrev pub wanted : Shape → ℕ → ℕ → ℕ → ℕ → Pools
wanted s arrivals done issued acked = record {
  dones = arrivals - done + 1;
  issues = due s (arrivals + 1) - issued;
  others = 1 + due s (arrivals + 1) - acked;
  orders = due s (arrivals + 1) - issued;
  stock = (s.l + 1) * (arrivals - done + 1);
  values = arrivals - done + 1;
  requests = 1;
  rows = arrivals + 1;
  places = due s (arrivals + 1);
}

-- one more arrival is then preallocated
abbrev pub RoomReserve : Type 0
RoomReserve = (s : Shape) (arrivals done issued acked : ℕ) (pools : Pools) → KeepsPools (wanted s arrivals done issued acked) pools
    → HasPools s true arrivals done issued acked pools

-- an arrival finds what it takes, and leaves enough
pub record ArrivesInRoom (s : Shape) (arrivals done issued acked : ℕ) (pools : Pools) : Type 0 where
  pub others : 0 < pools.others
  pub requests : 0 < pools.requests
  pub rows : arrivals < pools.rows
  pub left : HasPools s false (arrivals + 1) done issued acked (record pools { others = pools.others - 1; requests = pools.requests - 1 })

-- this holds if it is preallocated
abbrev pub RoomArrive : Type 0
RoomArrive = (s : Shape) (arrivals done issued acked : ℕ) (pools : Pools) → AreCounts s arrivals done issued acked → HasPools s true arrivals done issued acked pools
    → ArrivesInRoom s arrivals done issued acked pools

-- a Done finds what it takes, which is its buckets and a value if it is real, and leaves enough
pub record DoneInRoom (s : Shape) (ready : Bool) (arrivals done issued acked : ℕ) (pools : Pools) : Type 0 where
  pub dones : 0 < pools.dones
  pub stock : s.l + 1 ≤ pools.stock
  pub values : 0 < pools.values
  pub left : (taken used : ℕ) → taken ≤ s.l + 1 → used ≤ 1
      → HasPools s ready arrivals (done + 1) issued acked (record pools { dones = pools.dones - 1; stock = pools.stock - taken; values = pools.values - used })

-- this holds while an arrival is under way
abbrev pub RoomDone : Type 0
RoomDone = (s : Shape) (ready : Bool) (arrivals done issued acked : ℕ) (pools : Pools) → AreCounts s arrivals done issued acked → done < arrivals → HasPools s ready arrivals done issued acked pools
    → DoneInRoom s ready arrivals done issued acked pools

-- a write-back finds what it takes, and leaves enough
pub record IssuesInRoom (s : Shape) (ready : Bool) (arrivals done issued acked : ℕ) (pools : Pools) : Type 0 where
  pub issues : 0 < pools.issues
  pub orders : 0 < pools.orders
  pub places : issued < pools.places
  pub left : HasPools s ready arrivals done (issued + 1) acked (record pools { issues = pools.issues - 1; orders = pools.orders - 1 })

-- this holds if one is due
abbrev pub RoomIssue : Type 0
RoomIssue = (s : Shape) (ready : Bool) (arrivals done issued acked : ℕ) (pools : Pools) → AreCounts s arrivals done issued acked → done ≡ (issued + 1) * s.k
    → HasPools s ready arrivals done issued acked pools → IssuesInRoom s ready arrivals done issued acked pools

-- an acknowledgement finds what it takes, and leaves enough
pub record AckedInRoom (s : Shape) (ready : Bool) (arrivals done issued acked : ℕ) (pools : Pools) : Type 0 where
  pub others : 0 < pools.others
  pub left : HasPools s ready arrivals done issued (acked + 1) (record pools { others = pools.others - 1 })

-- this holds while a write-back is outstanding
abbrev pub RoomAcked : Type 0
RoomAcked = (s : Shape) (ready : Bool) (arrivals done issued acked : ℕ) (pools : Pools) → AreCounts s arrivals done issued acked → acked < issued
    → HasPools s ready arrivals done issued acked pools → AckedInRoom s ready arrivals done issued acked pools
