-- Laws of the opening: the loaded tree.
use Rattle.std.specs.Prelude.{ℕ, ◌<◌, ◌^◌, true, false, List}
use Rattle.tao_base.specs.declared.storage.Entry.{Entry}
use Rattle.tao_base.specs.declared.storage.Bucket.{Bucket}
use Rattle.tao_base.specs.Limits.{Shape}
use Rattle.tao_base.specs.Array.{block_at}
use Rattle.tao_base.specs.Tree.{node_count}
use Rattle.tao_model.specs.Placement.{IsPlaced, IsLoad, may_load, block_below, with_stash, entries_at}
use Rattle.tao_model.specs.FreshCopy.{FreshCopy, current_contents}
use Rattle.tao_contents.specs.WriteBackLaws.{FreshWrites}

-- after the load each block has a fresh copy; the proxy holds the stash and no node
abbrev pub OpeningIsFresh : Type 0
OpeningIsFresh = (s : Shape) (leaf : ℕ → ℕ) (blocks : List (List ℕ)) (loaded : List Bucket) (own : ℕ → List Entry)
    → IsPlaced (may_load s leaf) (node_count s.l) s.z (block_below s.n blocks) (with_stash (own 0) (entries_at loaded))
    → FreshCopy s leaf (λ b. block_at blocks b) (current_contents (λ w. false) own (entries_at loaded))

-- the load counts as a fresh write with every node just filled
abbrev pub LoadWritesFresh : Type 0
LoadWritesFresh = (s : Shape) (leaf : ℕ → ℕ) (blocks : List (List ℕ)) (loaded : List Bucket) → ((b : ℕ) → b < s.n → leaf b < 2 ^ s.l) → IsLoad s leaf blocks loaded
    → FreshWrites s leaf (λ b. block_at blocks b) (λ w. true) (entries_at loaded)
