-- How the parts of the holdings fit together.
use Rattle.std.specs.Prelude.{◌≡◌, ℕ, ◌+◌, List, [], length, All}
use Rattle.tao_base.specs.declared.storage.Entry.{Entry}
use Rattle.tao_base.specs.Limits.{Shape, IsShape}
use Rattle.tao_base.specs.Tree.{node_count}
use Rattle.tao_flush.specs.Blocks.{IsStash}
use Rattle.tao_flush.specs.State.{StashState, PositionsState}
use Rattle.tao_subtree.specs.Residents.{SubtreeState, resident_count}
use Rattle.tao_holdings.specs.Holding.{HoldingsState}
use Rattle.tao_holdings.specs.Lists.{AreNodes}

-- this many empty lists
pub record AreEmpty (count : ℕ) (lists : List (List Entry)) : Type 0 where
  pub len : length lists ≡ count
  pub empty : All (λ list. list ≡ []) lists

-- The parts are of one store. Each resident has a bucket in form, there is capacity for all nodes, and the lists of a path are empty.
pub record IsHoldings (s : Shape) (subtree : SubtreeState) (stash : StashState) (positions : PositionsState) (lists : List (List Entry)) : Type 0 where
  pub shape : IsShape s
  pub subtree_shape : subtree.shape ≡ s
  pub stash_shape : stash.shape ≡ s
  pub positions_shape : positions.shape ≡ s
  pub in_form : AreNodes s subtree.residents
  pub in_order : IsStash s stash.entries
  pub empty : AreEmpty (s.l + 1) lists
  pub room : resident_count subtree + subtree.spare ≡ node_count s.l + 1

-- the state that these parts make up
abbrev pub state_of : Shape → SubtreeState → StashState → PositionsState → HoldingsState
state_of s subtree stash positions = record {
  shape = s;
  nodes = subtree.residents;
  counts = subtree.counts;
  touches = subtree.touches;
  versions = subtree.versions;
  stash = stash.entries;
  words = positions.words;
}
