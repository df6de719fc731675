-- What the stash and the nodes may hold.
use Rattle.std.specs.Prelude.{◌≡◌, ℕ, ◌+◌, ◌*◌, ◌<◌, ◌≤◌, List, length, Some, Result, Ok, Err, All}
use Rattle.std.specs.List.{AllWithin, HoldsAt}
use Rattle.tao_base.specs.declared.storage.Entry.{Entry}
use Rattle.tao_base.specs.Limits.{Shape}
use Rattle.tao_base.specs.Buckets.{Rises}
use Rattle.tao_model.specs.Placement.{look}

-- an entry of a store: one of its blocks, with as many bytes as a block has
abbrev pub IsEntry : Shape → Entry → Type 0
IsEntry s entry = (entry.id < s.n) × (length entry.value ≡ s.b)

-- a stash: entries of the store in rising id
pub record IsStash (s : Shape) (entries : List Entry) : Type 0 where
  pub rises : Rises 0 entries
  pub each : All (IsEntry s) entries

-- the entries of a node: no more than a bucket has room for
pub record AreNodeEntries (s : Shape) (entries : List Entry) : Type 0 where
  pub few : length entries ≤ s.z
  pub each : All (IsEntry s) entries

-- room for all blocks, and for eight more at each node of a path
abbrev pub HasRoom : Shape → ℕ → Type 0
HasRoom s room = s.n + (s.l + 1) * 8 ≤ room

-- a block has this value, and every other block has what it had
pub record PutsValue (old new : List Entry) (block : ℕ) (value : List ℕ) : Type 0 where
  pub there : look block new ≡ Some value
  pub others : (b : ℕ) → (b ≡ block → ⊥) → look b new ≡ look b old

-- where a list has the block's entry; or else where it would stand, behind those of lower id and before those of higher id
abbrev pub IsPlaceOf : List Entry → ℕ → Result ℕ ℕ → Type 0
IsPlaceOf entries id (Ok place) = (place < length entries) × HoldsAt (λ entry. entry.id ≡ id) entries place
IsPlaceOf entries id (Err place) =
    (place ≤ length entries) × AllWithin (λ entry. entry.id < id) entries 0 place × AllWithin (λ entry. id < entry.id) entries place (length entries)
