-- Laws of clean nodes: the proxy holds a node as it was last written, unless it was touched since the last write-back.
use Rattle.std.specs.Prelude.{◌≡◌, ℕ, ◌<◌, Bool, true, false, not, ◌&&◌, ◌||◌, List}
use Rattle.tao_base.specs.declared.storage.Entry.{Entry}
use Rattle.tao_base.specs.Limits.{Shape}
use Rattle.tao_base.specs.Tree.{is_on_path}
use Rattle.tao_model.specs.FreshCopy.{current_contents}
use Rattle.tao_held.specs.Steps.{with_path, after_real_fetch, after_fake_fetch}

-- Every held node that isn't recent is clean: it has the entries last written there. Recent: touched since the last write-back.
abbrev pub CleanResidents : (ℕ → Bool) → (ℕ → Bool) → (ℕ → List Entry) → (ℕ → List Entry) → Type 0
CleanResidents resident recent own newest = (w : ℕ) → 0 < w → resident w ≡ true → recent w ≡ false → own w ≡ newest w

-- Every node that the proxy holds is clean, recent or not.
abbrev pub AreAllClean : (ℕ → Bool) → (ℕ → List Entry) → (ℕ → List Entry) → Type 0
AreAllClean resident own newest = (w : ℕ) → 0 < w → resident w ≡ true → own w ≡ newest w

-- the recent nodes once this path was touched too
abbrev pub touching : ℕ → ℕ → (ℕ → Bool) → ℕ → Bool
touching l at recent w = recent w || is_on_path l at w

-- a fetch for a block touches only its path: all other nodes stay clean
abbrev pub RealFetchKeepsClean : Type 0
RealFetchKeepsClean = (s : Shape) (at : ℕ) (leaf : ℕ → ℕ) (resident recent : ℕ → Bool) (taken own newest : ℕ → List Entry) (b : ℕ) (value : List ℕ)
    → CleanResidents resident recent own newest
    → CleanResidents (with_path s.l at resident) (touching s.l at recent) (after_real_fetch s at leaf resident taken own b value) newest

-- the same for a fetch for no block, by a fake arrival or a pad
abbrev pub FakeFetchKeepsClean : Type 0
FakeFetchKeepsClean = (s : Shape) (at : ℕ) (leaf : ℕ → ℕ) (resident recent : ℕ → Bool) (taken own newest : ℕ → List Entry) → CleanResidents resident recent own newest
    → CleanResidents (with_path s.l at resident) (touching s.l at recent) (after_fake_fetch s at leaf resident taken own) newest

-- a write-back of the recent nodes makes all nodes clean
abbrev pub IssueCleans : Type 0
IssueCleans = (resident recent issued : ℕ → Bool) (own newest newest' : ℕ → List Entry) → ((w : ℕ) → 0 < w → recent w ≡ true → issued w ≡ true)
    → ((w : ℕ) → issued w ≡ true → newest' w ≡ own w) → ((w : ℕ) → issued w ≡ false → newest' w ≡ newest w)
    → CleanResidents resident recent own newest → AreAllClean resident own newest'

-- after some nodes leave, the others are as clean as before
abbrev pub AcknowledgementKeepsClean : Type 0
AcknowledgementKeepsClean = (resident recent departs : ℕ → Bool) (own own' newest : ℕ → List Entry)
    → ((w : ℕ) → resident w ≡ true → departs w ≡ false → own' w ≡ own w)
    → CleanResidents resident recent own newest → CleanResidents (λ w. resident w && not (departs w)) recent own' newest

-- if all held nodes are clean, every node of the tree is as it was last written
abbrev pub CurrentIsWritten : Type 0
CurrentIsWritten = (resident : ℕ → Bool) (own newest : ℕ → List Entry) → AreAllClean resident own newest
    → (w : ℕ) → 0 < w → current_contents resident own newest w ≡ newest w
