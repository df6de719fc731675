-- Laws of a fetched path: copies stay fresh through admission, look-up, put and eviction. Node 0 is the stash.
use Rattle.std.specs.Prelude.{◌≡◌, ℕ, ◌<◌, Bool, true, false, List, Some}
use Rattle.tao_base.specs.declared.storage.Entry.{Entry}
use Rattle.tao_base.specs.Limits.{Shape}
use Rattle.tao_base.specs.Tree.{is_on_path}
use Rattle.tao_model.specs.FreshCopy.{FreshCopy, current_contents}
use Rattle.tao_held.specs.Steps.{take_in, with_path, found_copy, after_real_fetch, after_fake_fetch}
use Rattle.tao_contents.specs.Moves.{ChangesOne}

-- an honest answer: each fetched bucket is the latest version of its node
abbrev pub IsHonest : ℕ → ℕ → (ℕ → Bool) → (ℕ → List Entry) → (ℕ → List Entry) → Type 0
IsHonest l at resident taken newest = (w : ℕ) → is_on_path l at w ≡ true → resident w ≡ false → taken w ≡ newest w

-- admitting a path moves no entry
abbrev pub TakingInKeeps : Type 0
TakingInKeeps = (s : Shape) (at : ℕ) (leaf : ℕ → ℕ) (value : ℕ → List ℕ) (resident : ℕ → Bool) (taken own newest : ℕ → List Entry) → IsHonest s.l at resident taken newest
    → FreshCopy s leaf value (current_contents resident own newest)
    → FreshCopy s leaf value (current_contents (with_path s.l at resident) (take_in s.l at resident taken own) newest)

-- then the look-up finds the settled value of a block whose path was fetched
abbrev pub FetchFinds : Type 0
FetchFinds = (s : Shape) (at : ℕ) (leaf : ℕ → ℕ) (value : ℕ → List ℕ) (resident : ℕ → Bool) (taken own newest : ℕ → List Entry) (b : ℕ) → b < s.n → leaf b ≡ at
    → IsHonest s.l at resident taken newest → FreshCopy s leaf value (current_contents resident own newest)
    → found_copy s.l at (take_in s.l at resident taken own) b ≡ Some (value b)

-- a fetch for a block: its copy is fresh again with the new value and the new position
abbrev pub RealFetchKeeps : Type 0
RealFetchKeeps = (s : Shape) (at : ℕ) (leaf leaf' : ℕ → ℕ) (value value' : ℕ → List ℕ) (resident : ℕ → Bool) (taken own newest : ℕ → List Entry) (a : ℕ)
    → leaf a ≡ at → ChangesOne a leaf leaf' value value' → IsHonest s.l at resident taken newest → FreshCopy s leaf value (current_contents resident own newest)
    → FreshCopy s leaf' value' (current_contents (with_path s.l at resident) (after_real_fetch s at leaf' resident taken own a (value' a)) newest)

-- a fetch for no block, by a fake arrival or a pad, along any path
abbrev pub FakeFetchKeeps : Type 0
FakeFetchKeeps = (s : Shape) (at : ℕ) (leaf : ℕ → ℕ) (value : ℕ → List ℕ) (resident : ℕ → Bool) (taken own newest : ℕ → List Entry)
    → IsHonest s.l at resident taken newest → FreshCopy s leaf value (current_contents resident own newest)
    → FreshCopy s leaf value (current_contents (with_path s.l at resident) (after_fake_fetch s at leaf resident taken own) newest)
