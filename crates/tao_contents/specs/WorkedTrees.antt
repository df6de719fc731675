-- Contents that are of a tree, and contents that aren't.
use Rattle.std.specs.Prelude.{ℕ, ◌==◌, if◌then◌else◌, List, [], ◌∷◌}
use Rattle.tao_base.specs.declared.storage.Entry.{Entry}
use Rattle.tao_model.specs.Worked.{entry, zero}
use Rattle.tao_contents.specs.Counting.{AreOfTree}

-- these entries at one node, and none elsewhere
abbrev pub only_at : ℕ → List Entry → ℕ → List Entry
only_at node entries w = if w == node then entries else []

-- A tree of height 2 has nodes 1 to 7: its last leaf may have entries, as may the stash, and no node behind it. Entries rise.
pub record TreesAreTold : Type 0 where
  pub stash : AreOfTree 2 (only_at 0 (entry 0 zero ∷ entry 1 zero ∷ []))
  pub last_leaf : AreOfTree 2 (only_at 7 (entry 0 zero ∷ entry 1 zero ∷ []))
  pub past : AreOfTree 2 (only_at 8 (entry 0 zero ∷ [])) → ⊥
  pub falls : AreOfTree 2 (only_at 7 (entry 1 zero ∷ entry 0 zero ∷ [])) → ⊥
