-- Buckets in form: what the store may write at a node.
use Rattle.std.specs.Prelude.{◌≡◌, ℕ, ◌+◌, ◌<◌, ◌≤◌, List, [], ◌∷◌, length, All, ⊤}
use Rattle.tao_base.specs.Limits.{Shape}
use Rattle.tao_base.specs.Tree.{node_count}
use Rattle.tao_base.specs.declared.storage.Bucket.{Bucket}
use Rattle.tao_base.specs.declared.storage.Entry.{Entry}

-- the ids rise, starting at k or above
abbrev pub Rises : ℕ → List Entry → Type 0
Rises k [] = ⊤
Rises k (entry ∷ entries) = (k ≤ entry.id) × Rises (entry.id + 1) entries

-- entries in form: at most z, with rising ids below n and values of b bytes
pub record AreInForm (s : Shape) (entries : List Entry) : Type 0 where
  pub few : length entries ≤ s.z
  pub rising : Rises 0 entries
  pub ids : All (λ entry. entry.id < s.n) entries
  pub values : All (λ entry. length entry.value ≡ s.b) entries

-- a bucket in form: of a node of the tree, with entries in form
pub record IsInForm (s : Shape) (bucket : Bucket) : Type 0 where
  pub low : 1 ≤ bucket.node
  pub high : bucket.node ≤ node_count s.l
  pub entries : AreInForm s bucket.entries
