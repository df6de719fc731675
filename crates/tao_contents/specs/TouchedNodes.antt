-- Which nodes a fetch makes recent, and which it leaves as they were.
use Rattle.std.specs.Prelude.{◌≡◌, ◌↔◌, ℕ, Bool, true, false}
use Rattle.tao_base.specs.Tree.{is_on_path}
use Rattle.tao_contents.specs.CleanLaws.{touching}

-- After a fetch the nodes of its path are recent, and each other node is recent just where it was before. So a node is not recent exactly
-- where it was not and the path doesn't have it.
pub record TouchesPath (l at : ℕ) (recent : ℕ → Bool) : Type 0 where
  pub path : (w : ℕ) → is_on_path l at w ≡ true → touching l at recent w ≡ true
  pub others : (w : ℕ) → is_on_path l at w ≡ false → touching l at recent w ≡ recent w
  pub not_recent : (w : ℕ) → (touching l at recent w ≡ false) ↔ ((recent w ≡ false) × (is_on_path l at w ≡ false))

-- so does a fetch of every leaf
abbrev pub FetchTouchesPath : Type 0
FetchTouchesPath = (l at : ℕ) (recent : ℕ → Bool) → TouchesPath l at recent
