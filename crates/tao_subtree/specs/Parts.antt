-- How the parts of the subtree fit together.
use Rattle.std.specs.Prelude.{◌≡◌, ℕ, ◌+◌, ◌^◌, List, length}
use Rattle.tao_base.specs.Limits.{Shape, IsShape}
use Rattle.tao_slots.specs.SlotMap.{SlotMap}
use Rattle.tao_subtree.specs.Residents.{SubtreeState}

-- the slots are made for the same tree, and each list has a place for each of its nodes
pub record AreInStep (s : Shape) (slots : SlotMap) (counts touches versions : List ℕ) : Type 0 where
  pub shape : IsShape s
  pub slots_shape : slots.shape ≡ s
  pub slots_len : length slots.buckets ≡ 2 ^ (s.l + 1)
  pub counts_len : length counts ≡ 2 ^ (s.l + 1)
  pub touches_len : length touches ≡ 2 ^ (s.l + 1)
  pub versions_len : length versions ≡ 2 ^ (s.l + 1)

-- the state that these parts make up
abbrev pub state_of : Shape → SlotMap → List ℕ → List ℕ → List ℕ → SubtreeState
state_of s slots counts touches versions =
    record { shape = s; residents = slots.buckets; counts = counts; touches = touches; versions = versions; spare = slots.spare }
