-- The parts of a vector of slots, each as a list by place.
use Rattle.std.specs.Prelude.{◌≡◌, ℕ, List, Option, None, [], ◌∷◌, ◌++◌, map, slice_set}
use Rattle.std.specs.List.{slice_index_or}
use Rattle.std.specs.Option.{option_map}
use Rattle.tao_base.specs.declared.storage.Bucket.{Bucket}
use Rattle.tao_slots.specs.declared.slot.Links.{Links}
use Rattle.tao_slots.specs.declared.slot.Slot.{Slot}

-- the bucket of each slot, None where the slot is free
abbrev pub buckets_in : List Slot → List (Option Bucket)
buckets_in slots = map (λ slot. slot.bucket) slots

-- the links of each slot, to the slots of its node's parent and children
abbrev pub links_in : List Slot → List Links
links_in slots = map (λ slot. slot.links) slots

-- what each slot names as the free slot behind it
abbrev pub nexts_in : List Slot → List (Option ℕ)
nexts_in slots = map (λ slot. slot.next) slots

-- the nodes of these buckets
abbrev pub nodes_of : List (Option Bucket) → List (Option ℕ)
nodes_of buckets = map (option_map (λ bucket. bucket.node)) buckets

-- neither parent nor child has a slot
abbrev pub no_links : Links
no_links = record { parent = None; left = None; right = None }

-- the links of the slot at a place
abbrev pub links_in_slot : List Slot → ℕ → Links
links_in_slot slots i = slice_index_or (links_in slots) i no_links

-- one slot has this bucket, or none, and perhaps other links; the list of loose slots may have changed too
pub record IsRefilled (old new : List Slot) (i : ℕ) (bucket : Option Bucket) : Type 0 where
  pub buckets : buckets_in new ≡ slice_set (buckets_in old) i bucket
  pub links : (j : ℕ) → (j ≡ i → ⊥) → links_in_slot new j ≡ links_in_slot old j
  pub nexts : nexts_in new ≡ nexts_in old

-- only the list of loose slots may have changed
pub record IsRehung (old new : List Slot) : Type 0 where
  pub buckets : buckets_in new ≡ buckets_in old
  pub links : links_in new ≡ links_in old
  pub nexts : nexts_in new ≡ nexts_in old

-- one more free slot
pub record IsPushed (old new : List Slot) (next : Option ℕ) : Type 0 where
  pub buckets : buckets_in new ≡ buckets_in old ++ None ∷ []
  pub links : links_in new ≡ links_in old ++ no_links ∷ []
  pub nexts : nexts_in new ≡ nexts_in old ++ next ∷ []
