-- Laws of gathering: the first copy of a block counts. The stash comes before the path, and the path starts at the root.
use Rattle.std.specs.Prelude.{◌≡◌, ℕ, ◌<◌, ◌≤◌, ◌↔◌, List, [], ◌∷◌, ◌++◌, length, take, drop, insert, Some, None, All}
use Rattle.std.specs.Option.{option_or}
use Rattle.tao_base.specs.declared.storage.Entry.{Entry}
use Rattle.tao_base.specs.Buckets.{Rises}
use Rattle.tao_model.specs.Placement.{look, first_copy}
use Rattle.tao_model.specs.Passes.{gather_one, gather, gathered_from}

-- the first of some nodes that has a copy of the block, and that copy
pub record HasFirstCopy (nodes : List ℕ) (held : ℕ → List Entry) (b : ℕ) (value : List ℕ) : Type 0 where
  pub before : List ℕ
  pub node : ℕ
  pub after : List ℕ
  pub parts : nodes ≡ before ++ node ∷ after
  pub none_before : All (λ w. look b (held w) ≡ None) before
  pub there : look b (held node) ≡ Some value

-- the copy that counts is the first
abbrev pub FirstCopyCounts : Type 0
FirstCopyCounts = (nodes : List ℕ) (held : ℕ → List Entry) (b : ℕ) (value : List ℕ) → (first_copy nodes held b ≡ Some value) ↔ HasFirstCopy nodes held b value

-- no copy counts exactly if no node has one
abbrev pub NoCopy : Type 0
NoCopy = (nodes : List ℕ) (held : ℕ → List Entry) (b : ℕ) → (first_copy nodes held b ≡ None) ↔ All (λ w. look b (held w) ≡ None) nodes

-- the stash's copy counts before those of a path
abbrev pub StashGoesFirst : Type 0
StashGoesFirst = (path : List ℕ) (held : ℕ → List Entry) (b : ℕ)
    → ((value : List ℕ) → look b (held 0) ≡ Some value → first_copy (0 ∷ path) held b ≡ Some value)
    × (look b (held 0) ≡ None → first_copy (0 ∷ path) held b ≡ first_copy path held b)

-- two rising lists with equal look-ups are equal
abbrev pub SameEntries : Type 0
SameEntries = (one other : List Entry) → Rises 0 one → Rises 0 other → ((b : ℕ) → look b one ≡ look b other) → one ≡ other

-- a rising list has no more entries than there are ids
abbrev pub FewEntries : Type 0
FewEntries = (n : ℕ) (entries : List Entry) → Rises 0 entries → All (λ entry. entry.id < n) entries → length entries ≤ n

-- an entry with a new id is inserted between the lower and the higher ids
abbrev pub GathersNew : Type 0
GathersNew = (entries : List Entry) (e : Entry) (i : ℕ) → All (λ entry. entry.id < e.id) (take i entries) → All (λ entry. e.id < entry.id) (drop i entries)
    → gather_one entries e ≡ insert entries i e

-- an entry whose id is already there changes nothing
abbrev pub GathersOld : Type 0
GathersOld = (entries : List Entry) (e : Entry) (value : List ℕ) → Rises 0 entries → look e.id entries ≡ Some value → gather_one entries e ≡ entries

-- gathering more entries keeps the list rising and what it had, and adds the other ids
abbrev pub GathersMore : Type 0
GathersMore = (entries more : List Entry) → Rises 0 entries
    → Rises 0 (gather entries more) × ((b : ℕ) → look b (gather entries more) ≡ option_or (look b entries) (look b more))

-- what is gathered from nodes rises and has the first copies
abbrev pub GathersFirst : Type 0
GathersFirst = (held : ℕ → List Entry) (nodes : List ℕ)
    → Rises 0 (gathered_from held nodes) × ((b : ℕ) → look b (gathered_from held nodes) ≡ first_copy nodes held b)

-- a stash in order is gathered unchanged
abbrev pub GathersStash : Type 0
GathersStash = (entries : List Entry) → Rises 0 entries → gather [] entries ≡ entries
