-- What contracts see of the holdings.
use Rattle.std.specs.Prelude.{◌≡◌, ℕ, ◌+◌, ◌-◌, ◌*◌, ◌^◌, ◌==◌, nat_le, Bool, true, not, ◌&&◌, if◌then◌else◌, List, [], length, Option, Some, None, is_some, IfSome, slice_index, replicate}
use Rattle.std.specs.List.{slice_index_or, list_any}
use Rattle.tao_base.specs.declared.storage.Bucket.{Bucket}
use Rattle.tao_base.specs.declared.storage.Entry.{Entry}
use Rattle.tao_base.specs.Limits.{Shape, IsShape}
use Rattle.tao_base.specs.Tree.{leaf_of, is_on_path}
use Rattle.tao_flush.specs.Blocks.{IsStash}
use Rattle.tao_base.specs.Buckets.{IsInForm}

-- For each node: its bucket if it is held, how many fetches under way cover it, which fetch touched it last (0 if none did), and the
-- version of its last write-back (0 before the first). The entries of the stash, and the word of each block.
pub record HoldingsState : Type 0 where
  pub shape : Shape
  pub nodes : List (Option Bucket)
  pub counts : List ℕ
  pub touches : List ℕ
  pub versions : List ℕ
  pub stash : List Entry
  pub words : List ℕ

-- a node is held
abbrev pub is_held : HoldingsState → ℕ → Bool
is_held st w = is_some (slice_index_or st.nodes w None)

-- the entries of a bucket, if there is one
abbrev pub entries_of : Option Bucket → List Entry
entries_of None = []
entries_of (Some bucket) = bucket.entries

-- the entries of a held node, or of the stash, which is node 0; else none
abbrev pub contents_in : HoldingsState → ℕ → List Entry
contents_in st w = if w == 0 then st.stash else entries_of (slice_index_or st.nodes w None)

-- how many fetches under way cover a node
abbrev pub count_in : HoldingsState → ℕ → ℕ
count_in st w = slice_index st.counts w

-- the number of the last fetch that touched a node, or 0
abbrev pub touch_in : HoldingsState → ℕ → ℕ
touch_in st w = slice_index st.touches w

-- the version of a node's last write-back, or 0
abbrev pub version_in : HoldingsState → ℕ → ℕ
version_in st w = slice_index st.versions w

-- the leaf that a block is assigned to
abbrev pub leaf_by : HoldingsState → ℕ → ℕ
leaf_by st b = leaf_of st.shape.l (slice_index st.words b)

-- all nodes of the path to a leaf are held
abbrev pub IsPathHeld : HoldingsState → ℕ → Type 0
IsPathHeld st leaf = (w : ℕ) → is_on_path st.shape.l leaf w ≡ true → is_held st w ≡ true

-- the counts after a fetch of the path to a leaf has begun
abbrev pub one_more : ℕ → ℕ → (ℕ → ℕ) → ℕ → ℕ
one_more l leaf counts w = if is_on_path l leaf w then counts w + 1 else counts w

-- the counts after it has ended
abbrev pub one_less : ℕ → ℕ → (ℕ → ℕ) → ℕ → ℕ
one_less l leaf counts w = if is_on_path l leaf w then counts w - 1 else counts w

-- the touches after a fetch of the path to a leaf has ended as number t
abbrev pub touched : ℕ → ℕ → ℕ → (ℕ → ℕ) → ℕ → ℕ
touched l leaf t touches w = if is_on_path l leaf w then t else touches w

-- no node is held, and all numbers are 0
abbrev pub none_held : Shape → List Entry → List ℕ → HoldingsState
none_held shape stash words = record {
  shape = shape;
  nodes = replicate (2 ^ (shape.l + 1)) None;
  counts = replicate (2 ^ (shape.l + 1)) 0;
  touches = replicate (2 ^ (shape.l + 1)) 0;
  versions = replicate (2 ^ (shape.l + 1)) 0;
  stash = stash;
  words = words;
}

-- whether a node leaves when this version is acknowledged: no fetch touched it after the write-back, and none covers it
abbrev pub may_go : HoldingsState → ℕ → ℕ → Bool
may_go st version w = nat_le (touch_in st w) (version * st.shape.k) && (count_in st w == 0)

-- which nodes are held after the acknowledgement of this version for a node
abbrev pub without : HoldingsState → ℕ → ℕ → (ℕ → Bool) → ℕ → Bool
without st version node held w = held w && not (w == node && may_go st version w)

-- what the nodes have then
abbrev pub left_by : HoldingsState → ℕ → ℕ → (ℕ → List Entry) → ℕ → List Entry
left_by st version node contents w = if not (w == 0) && (w == node && may_go st version w) then [] else contents w

-- each held node has a bucket of its own, in form; the stash is in order; each block has a word
pub record AreForms (st : HoldingsState) : Type 0 where
  pub shape : IsShape st.shape
  pub words : length st.words ≡ st.shape.n
  pub nodes : (w : ℕ) → IfSome (slice_index_or st.nodes w None) (λ bucket. (bucket.node ≡ w) × IsInForm st.shape bucket)
  pub stash : IsStash st.shape st.stash

-- the versions after a write-back of these nodes with this version
abbrev pub written_at : List ℕ → ℕ → (ℕ → ℕ) → ℕ → ℕ
written_at nodes version versions w = if list_any (λ v. v == w) nodes then version else versions w
