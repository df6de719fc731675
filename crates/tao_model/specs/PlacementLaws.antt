-- Laws of placement: there is exactly one, for a load and for an eviction, and there are several ways to compute it.
use Rattle.std.specs.Prelude.{◌≡◌, ℕ, ◌+◌, ◌<◌, ◌≤◌, ◌⊎◌, Bool, true, List, length, take, filter, slice_index_or, Option, None, is_some, All}
use Rattle.tao_base.specs.declared.storage.Entry.{Entry}
use Rattle.tao_base.specs.Buckets.{Rises}
use Rattle.tao_model.specs.Placement.{look, IsPlaced}
use Rattle.tao_model.specs.Passes.{IsGathered, IsRound, spot, put_next, one_pass, hand, hand_out, fill}

-- at most one: two placements have equal contents at every node and in the stash
abbrev pub OnePlacement : Type 0
OnePlacement = (may : ℕ → ℕ → Bool) (m z : ℕ) (gathered : ℕ → Option (List ℕ)) (one other : ℕ → List Entry)
    → IsPlaced may m z gathered one → IsPlaced may m z gathered other → (w : ℕ) → one w ≡ other w

-- a placement stays one if tests, gathered blocks and contents are equal point by point
abbrev pub PlacedAlike : Type 0
PlacedAlike = (may may' : ℕ → ℕ → Bool) (m z : ℕ) (gathered gathered' : ℕ → Option (List ℕ)) (contents contents' : ℕ → List Entry)
    → ((b w : ℕ) → may b w ≡ may' b w) → ((b : ℕ) → gathered b ≡ gathered' b) → ((w : ℕ) → contents w ≡ contents' w)
    → IsPlaced may m z gathered contents → IsPlaced may' m z gathered' contents'

-- at least one: the pass in rising id is a placement
abbrev pub PassPlaces : Type 0
PassPlaces = (may : ℕ → ℕ → Bool) (m z : ℕ) (gathered : ℕ → Option (List ℕ)) (entries : List Entry)
    → IsGathered may gathered entries → IsPlaced may m z gathered (one_pass may m z entries)

-- one more entry, for the loop over the entries
abbrev pub PassMore : Type 0
PassMore = (may : ℕ → ℕ → Bool) (m z : ℕ) (entries : List Entry) (i : ℕ) (d : Entry) → i < length entries
    → one_pass may m z (take (i + 1) entries) ≡ put_next may m z (one_pass may m z (take i entries)) (slice_index_or entries i d)

-- where a block goes depends only on how many entries each node has
abbrev pub SpotAlike : Type 0
SpotAlike = (may : ℕ → ℕ → Bool) (m z : ℕ) (contents other : ℕ → List Entry) (b : ℕ)
    → ((w : ℕ) → 0 < w → w ≤ m → length (contents w) ≡ length (other w)) → spot may m z contents b ≡ spot may m z other b

-- What a node takes from the stash and what stays. It takes at most z blocks that may lie there.
-- If one that may lie there stays, it took z, all of lower id.
pub record IsHanded (passes : ℕ → Bool) (z : ℕ) (stash taken rest : List Entry) : Type 0 where
  pub taken_rises : Rises 0 taken
  pub rest_rises : Rises 0 rest
  pub either : (b : ℕ) → ((look b taken ≡ look b stash) × (look b rest ≡ None)) ⊎ ((look b taken ≡ None) × (look b rest ≡ look b stash))
  pub allowed : All (λ entry. passes entry.id ≡ true) taken
  pub room : length taken ≤ z
  pub full : (b : ℕ) → passes b ≡ true → is_some (look b rest) ≡ true → (length taken ≡ z) × All (λ entry. entry.id < b) taken

-- From a rising stash a node takes the z lowest ids that may lie there.
abbrev pub HandsOut : Type 0
HandsOut = (passes : ℕ → Bool) (z : ℕ) (stash : List Entry) → Rises 0 stash
    → IsHanded passes z stash (hand_out passes z stash).taken (hand_out passes z stash).rest

-- the same as list functions
abbrev pub TakesLowest : Type 0
TakesLowest = (passes : ℕ → Bool) (z : ℕ) (stash : List Entry) → (hand_out passes z stash).taken ≡ take z (filter (λ entry. passes entry.id) stash)

-- one more entry, for the loop over the stash
abbrev pub HandsMore : Type 0
HandsMore = (passes : ℕ → Bool) (z : ℕ) (stash : List Entry) (i : ℕ) (d : Entry) → i < length stash
    → hand_out passes z (take (i + 1) stash) ≡ hand passes z (hand_out passes z (take i stash)) (slice_index_or stash i d)

-- filling the nodes one after another, the greatest first, is a placement too
abbrev pub FillPlaces : Type 0
FillPlaces = (may : ℕ → ℕ → Bool) (m z : ℕ) (gathered : ℕ → Option (List ℕ)) (nodes : List ℕ) (entries : List Entry)
    → IsGathered may gathered entries → IsRound may m nodes → IsPlaced may m z gathered (fill may z nodes entries)
