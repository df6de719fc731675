-- Laws of write-backs and acknowledgements, and of the latest versions of the nodes.
use Rattle.std.specs.Prelude.{◌≡◌, ℕ, ◌<◌, ◌≤◌, ◌^◌, ◌⊎◌, Bool, true, false, not, ◌&&◌, List, length, Some, None, All}
use Rattle.std.specs.List.{range_with_len}
use Rattle.tao_base.specs.declared.storage.Entry.{Entry}
use Rattle.tao_base.specs.Limits.{Shape}
use Rattle.tao_base.specs.Tree.{node_count, path, is_on_path}
use Rattle.tao_base.specs.Buckets.{Rises}
use Rattle.tao_model.specs.Placement.{look, IsEvicted}
use Rattle.tao_model.specs.FreshCopy.{FreshCopy, current_contents}
use Rattle.tao_contents.specs.Counting.{entries_of}
use Rattle.tao_contents.specs.CleanLaws.{AreAllClean}

-- a write-back of nodes that the proxy holds moves no entry, whatever it writes
abbrev pub IssueKeeps : Type 0
IssueKeeps = (s : Shape) (leaf : ℕ → ℕ) (value : ℕ → List ℕ) (resident issued : ℕ → Bool) (own newest newest' : ℕ → List Entry)
    → ((w : ℕ) → issued w ≡ true → resident w ≡ true) → ((w : ℕ) → issued w ≡ false → newest' w ≡ newest w)
    → FreshCopy s leaf value (current_contents resident own newest) → FreshCopy s leaf value (current_contents resident own newest')

-- The proxy lets nodes go and keeps the stash and the nodes that stay.
pub record LetsGo (resident departs : ℕ → Bool) (own own' : ℕ → List Entry) : Type 0 where
  pub stash : own' 0 ≡ own 0
  pub stays : (w : ℕ) → resident w ≡ true → departs w ≡ false → own' w ≡ own w

-- an acknowledgement that lets clean nodes go moves no entry
abbrev pub AcknowledgementKeeps : Type 0
AcknowledgementKeeps = (s : Shape) (leaf : ℕ → ℕ) (value : ℕ → List ℕ) (resident departs : ℕ → Bool) (own own' newest : ℕ → List Entry)
    → ((w : ℕ) → 0 < w → resident w ≡ true → departs w ≡ true → own w ≡ newest w) → LetsGo resident departs own own'
    → FreshCopy s leaf value (current_contents resident own newest) → FreshCopy s leaf value (current_contents (λ w. resident w && not (departs w)) own' newest)

-- ---- what is written

-- the latest versions have the block once: in a node of the path, with this value
pub record IsWrittenOnce (on_path : ℕ → Bool) (b : ℕ) (value : List ℕ) (newest : ℕ → List Entry) : Type 0 where
  pub node : ℕ
  pub low : 0 < node
  pub lies : on_path node ≡ true
  pub there : look b (newest node) ≡ Some value
  pub alone : (w : ℕ) → 0 < w → (w ≡ node → ⊥) → look b (newest w) ≡ None

-- The latest versions don't have the block. Then the just filled nodes of its path are full: z entries each, all of lower id.
pub record IsUnwritten (on_path filled : ℕ → Bool) (z b : ℕ) (newest : ℕ → List Entry) : Type 0 where
  pub nowhere : (w : ℕ) → 0 < w → look b (newest w) ≡ None
  pub full : (w : ℕ) → on_path w ≡ true → filled w ≡ true → (length (newest w) ≡ z) × All (λ entry. entry.id < b) (newest w)

-- Fresh writes: each block is written once, or nowhere if its path is full.
abbrev pub FreshWrites : Shape → (ℕ → ℕ) → (ℕ → List ℕ) → (ℕ → Bool) → (ℕ → List Entry) → Type 0
FreshWrites s leaf value filled newest = (b : ℕ) → b < s.n → IsWrittenOnce (is_on_path s.l (leaf b)) b (value b) newest ⊎ IsUnwritten (is_on_path s.l (leaf b)) filled s.z b newest

-- Right after a write-back, when every held node is clean, the writes are fresh. The nodes just filled are those of the path
-- evicted last.
abbrev pub WriteBackIsFresh : Type 0
WriteBackIsFresh = (s : Shape) (at : ℕ) (leaf : ℕ → ℕ) (value : ℕ → List ℕ) (resident : ℕ → Bool) (old own newest : ℕ → List Entry) → at < 2 ^ s.l
    → ((w : ℕ) → is_on_path s.l at w ≡ true → resident w ≡ true) → IsEvicted s (path s.l at) leaf old own → AreAllClean resident own newest
    → FreshCopy s leaf value (current_contents resident own newest) → FreshWrites s leaf value (is_on_path s.l at) newest

-- fresh writes as a count: at most one entry of the block in all nodes, with this value, on the path
pub record HasAtMostOne (l leaf b : ℕ) (value : List ℕ) (newest : ℕ → List Entry) : Type 0 where
  pub count : entries_of newest (range_with_len 1 (node_count l)) b ≤ 1
  pub valued : (w : ℕ) → 0 < w → All (λ entry. entry.id ≡ b → entry.value ≡ value) (newest w)
  pub placed : (w : ℕ) → 0 < w → All (λ entry. entry.id ≡ b → is_on_path l leaf w ≡ true) (newest w)

-- If each node's entries rise, fresh writes have each block at most once, with its value, on its path.
abbrev pub FreshWritesCount : Type 0
FreshWritesCount = (s : Shape) (leaf : ℕ → ℕ) (value : ℕ → List ℕ) (filled : ℕ → Bool) (newest : ℕ → List Entry) → ((w : ℕ) → Rises 0 (newest w))
    → FreshWrites s leaf value filled newest → (b : ℕ) → b < s.n → HasAtMostOne s.l (leaf b) b (value b) newest
