-- Ways to compute a placement: gathering, one pass in rising id, and node by node from the greatest. Node 0 is the stash.
use Rattle.std.specs.Prelude.{◌≡◌, ℕ, zero, suc, ◌+◌, ◌<◌, ◌≤◌, ◌==◌, nat_lt, Bool, true, ◌&&◌, if◌then◌else◌, List, [], ◌∷◌, ◌++◌, length, fold, Option, is_some, ⊤}
use Rattle.std.specs.List.{list_any}
use Rattle.tao_base.specs.declared.storage.Entry.{Entry}
use Rattle.tao_base.specs.Buckets.{Rises}
use Rattle.tao_model.specs.Placement.{look}

-- ---- gathering

-- a rising list with one more entry, unless it has one of this id
abbrev pub gather_one : List Entry → Entry → List Entry
gather_one [] e = e ∷ []
gather_one (f ∷ fs) e = if nat_lt e.id f.id then e ∷ f ∷ fs else (if e.id == f.id then f ∷ fs else f ∷ gather_one fs e)

-- a rising list with more entries: the first of each id counts
abbrev pub gather : List Entry → List Entry → List Entry
gather entries more = fold gather_one entries more

-- all entries of some nodes, the first copy of each block, in rising id
abbrev pub gathered_from : (ℕ → List Entry) → List ℕ → List Entry
gathered_from held nodes = fold (λ entries w. gather entries (held w)) [] nodes

-- The gathered entries that a placement starts from, in rising id. Every block that may lie in a node is gathered.
pub record IsGathered (may : ℕ → ℕ → Bool) (gathered : ℕ → Option (List ℕ)) (entries : List Entry) : Type 0 where
  pub rises : Rises 0 entries
  pub looks : (b : ℕ) → look b entries ≡ gathered b
  pub among : (b w : ℕ) → may b w ≡ true → is_some (gathered b) ≡ true

-- ---- one pass in rising id

-- the greatest of the nodes 1 to m that passes, or 0, the stash
abbrev pub deepest : (ℕ → Bool) → ℕ → ℕ
deepest passes zero = 0
deepest passes (suc m) = if passes (m + 1) then m + 1 else deepest passes m

-- where a block goes: the greatest node with a free slot that it may lie in, else the stash
abbrev pub spot : (ℕ → ℕ → Bool) → ℕ → ℕ → (ℕ → List Entry) → ℕ → ℕ
spot may m z contents b = deepest (λ w. may b w && nat_lt (length (contents w)) z) m

-- the contents with an entry appended at this node or the stash
abbrev pub put_at : (ℕ → List Entry) → ℕ → Entry → ℕ → List Entry
put_at contents at entry w = if at == w then contents w ++ entry ∷ [] else contents w

-- one step of the pass: the entry goes to its spot
abbrev pub put_next : (ℕ → ℕ → Bool) → ℕ → ℕ → (ℕ → List Entry) → Entry → ℕ → List Entry
put_next may m z contents entry = put_at contents (spot may m z contents entry.id) entry

-- each entry in turn goes to the greatest node with a free slot that it may lie in, else to the stash
abbrev pub one_pass : (ℕ → ℕ → Bool) → ℕ → ℕ → List Entry → ℕ → List Entry
one_pass may m z entries = fold (put_next may m z) (λ w. []) entries

-- the first of some nodes that passes, or 0, the stash
abbrev pub first_passing : (ℕ → Bool) → List ℕ → ℕ
first_passing passes [] = 0
first_passing passes (w ∷ ws) = if passes w then w else first_passing passes ws

-- ---- node by node

-- what a node takes from the stash, and what stays there
pub record Handed : Type 0 where
  pub taken : List Entry
  pub rest : List Entry

-- entries that a node has, and those that it leaves
abbrev pub handed : List Entry → List Entry → Handed
handed taken rest = record { taken = taken; rest = rest }

-- one entry of the stash: the node takes it if it may lie there and a slot is free
abbrev pub hand : (ℕ → Bool) → ℕ → Handed → Entry → Handed
hand passes z h entry =
    if passes entry.id && nat_lt (length h.taken) z then handed (h.taken ++ entry ∷ []) h.rest else handed h.taken (h.rest ++ entry ∷ [])

-- the node takes entries from the stash in rising id while slots are free
abbrev pub hand_out : (ℕ → Bool) → ℕ → List Entry → Handed
hand_out passes z stash = fold (hand passes z) (handed [] []) stash

-- the nodes of a list in turn, each from what those before it left; the rest stays in the stash
abbrev pub fill : (ℕ → ℕ → Bool) → ℕ → List ℕ → List Entry → ℕ → List Entry
fill may z [] stash v = if v == 0 then stash else []
fill may z (w ∷ ws) stash v =
    if v == w then (hand_out (λ b. may b w) z stash).taken else fill may z ws (hand_out (λ b. may b w) z stash).rest v

-- nodes below k, the greatest first
abbrev pub Falls : ℕ → List ℕ → Type 0
Falls k [] = ⊤
Falls k (w ∷ ws) = (0 < w) × (w < k) × Falls w ws

-- the nodes that are filled, the greatest first: all from 1 to m that some block may lie in
pub record IsRound (may : ℕ → ℕ → Bool) (m : ℕ) (nodes : List ℕ) : Type 0 where
  pub falls : Falls (m + 1) nodes
  pub all : (b w : ℕ) → 0 < w → w ≤ m → may b w ≡ true → list_any (λ v. v == w) nodes ≡ true
