-- What contracts see of the subtree at the proxy.
use Rattle.std.specs.Prelude.{◌≡◌, ℕ, ◌+◌, ◌*◌, ◌-◌, ◌^◌, ◌<◌, ◌≤◌, ◌&&◌, ◌==◌, nat_eq, nat_le, Bool, true, cond, List, Option, Some, None, length, slice_set, slice_index, count_by, is_some, replicate}
use Rattle.std.specs.List.{slice_index_or, list_any}
use Rattle.tao_base.specs.Limits.{Shape}
use Rattle.tao_base.specs.Tree.{is_on_path}
use Rattle.tao_base.specs.declared.storage.Bucket.{Bucket}
use Rattle.tao_base.specs.declared.storage.Entry.{Entry}

-- for each node its bucket if it is resident, how many fetches under way cover it, its touch and its latest version; and the capacity for
-- more residents
pub record SubtreeState : Type 0 where
  pub shape : Shape
  pub residents : List (Option Bucket)
  pub counts : List ℕ
  pub touches : List ℕ
  pub versions : List ℕ
  pub spare : ℕ

-- the bucket of a node, if it is resident
abbrev pub resident_at : SubtreeState → ℕ → Option Bucket
resident_at state node = slice_index_or state.residents node None

-- how many fetches under way cover a node
abbrev pub count_at : SubtreeState → ℕ → ℕ
count_at state node = slice_index state.counts node

-- the number of the last ended fetch whose path has this node, counted from 1, or 0
abbrev pub touch_at : SubtreeState → ℕ → ℕ
touch_at state node = slice_index state.touches node

-- the version of a node's last write-back, or 0
abbrev pub version_at : SubtreeState → ℕ → ℕ
version_at state node = slice_index state.versions node

-- how many nodes are resident
abbrev pub resident_count : SubtreeState → ℕ
resident_count state = count_by is_some state.residents

-- no node is resident, and all numbers are 0
abbrev pub empty_subtree : Shape → SubtreeState
empty_subtree shape = record {
  shape = shape;
  residents = replicate (2 ^ (shape.l + 1)) None;
  counts = replicate (2 ^ (shape.l + 1)) 0;
  touches = replicate (2 ^ (shape.l + 1)) 0;
  versions = replicate (2 ^ (shape.l + 1)) 0;
  spare = 0;
}

-- this bucket is admitted
abbrev pub taken_in : SubtreeState → Bucket → SubtreeState
taken_in state bucket = record state { residents = slice_set state.residents bucket.node (Some bucket); spare = state.spare - 1 }

-- a resident's bucket has other entries
abbrev pub with_entries : SubtreeState → ℕ → Bucket → List Entry → SubtreeState
with_entries state node bucket entries = record state { residents = slice_set state.residents node (Some (record bucket { entries = entries })) }

-- so few fetches are under way that no count overflows
abbrev pub AreFew : List ℕ → Type 0
AreFew counts = (node : ℕ) → slice_index counts node < 65536

-- 1 for a node of the path to this leaf, else 0
abbrev pub on_path_count : ℕ → ℕ → ℕ → ℕ
on_path_count l leaf node = cond (is_on_path l leaf node) 1 0

-- the counts on the path to this leaf are higher by 1
pub record BeginsFetch (old new : SubtreeState) (leaf : ℕ) : Type 0 where
  pub counts : (node : ℕ) → count_at new node ≡ count_at old node + on_path_count old.shape.l leaf node
  pub others : new ≡ record old { counts = new.counts }

-- the counts on the path to this leaf are lower by 1, and the touches there are t
pub record EndsFetch (old new : SubtreeState) (leaf t : ℕ) : Type 0 where
  pub counts : (node : ℕ) → count_at new node + on_path_count old.shape.l leaf node ≡ count_at old node
  pub touches : (node : ℕ) → touch_at new node ≡ cond (is_on_path old.shape.l leaf node) t (touch_at old node)
  pub others : new ≡ record old { counts = new.counts; touches = new.touches }

-- each node of the path to this leaf is resident and has a fetch under way
abbrev pub CanEndFetch : SubtreeState → ℕ → Type 0
CanEndFetch state leaf =
    (node : ℕ) → is_on_path state.shape.l leaf node ≡ true → (is_some (resident_at state node) ≡ true) × (1 ≤ count_at state node)

-- a node may leave on the acknowledgement of this version: it wasn't touched after the write-back, and no fetch covers it
abbrev pub may_leave : SubtreeState → ℕ → ℕ → Bool
may_leave state version node = nat_le (touch_at state node) (version * state.shape.k) && (count_at state node == 0)

-- of these nodes, those that may leave aren't resident any more
pub record Forgets (old new : SubtreeState) (version : ℕ) (nodes : List ℕ) : Type 0 where
  pub residents : (node : ℕ) → resident_at new node ≡ cond (list_any (nat_eq node) nodes && may_leave old version node) None (resident_at old node)
  pub others : new ≡ record old { residents = new.residents; spare = new.spare }

-- residents and spare together stay as many
abbrev pub KeepsRoom : SubtreeState → SubtreeState → Type 0
KeepsRoom old new = resident_count new + new.spare ≡ resident_count old + old.spare

-- there is a place for each node of the tree
pub record HasPlaces (state : SubtreeState) : Type 0 where
  pub residents : length state.residents ≡ 2 ^ (state.shape.l + 1)
  pub counts : length state.counts ≡ 2 ^ (state.shape.l + 1)
  pub touches : length state.touches ≡ 2 ^ (state.shape.l + 1)
  pub versions : length state.versions ≡ 2 ^ (state.shape.l + 1)

-- this node isn't resident any more, if it may leave
pub record ForgetsOne (old new : SubtreeState) (version at : ℕ) : Type 0 where
  pub residents : (node : ℕ) → resident_at new node ≡ cond (nat_eq node at && may_leave old version node) None (resident_at old node)
  pub others : new ≡ record old { residents = new.residents; spare = new.spare }
