-- How each event changes the parts of the processor.
use Rattle.std.specs.Prelude.{◌≡◌, ◌==◌, ℕ, ◌+◌, ◌≤◌, Bool, true, false, not, ◌&&◌, if◌then◌else◌, List, [], map, slice_index, length, slice_set, All}
use Rattle.std.specs.List.{list_any, range_with_len}
use Rattle.tao_base.specs.Limits.{Shape}
use Rattle.tao_base.specs.declared.storage.Bucket.{Bucket}
use Rattle.tao_holdings.specs.Lists.{with_entries_of}
use Rattle.tao_base.specs.declared.calls.Op.{Op}
use Rattle.tao_base.specs.declared.calls.Op.TheVariants.{Read, Write, Pad}
use Rattle.tao_base.specs.declared.storage.Entry.{Entry}
use Rattle.tao_base.specs.Tree.{leaf_of, node_count}
use Rattle.tao_held.specs.Steps.{found_copy, value_or_zeros, put, evict}
use Rattle.tao_requests.specs.State.{RequestsState, request_at, block_of, is_real_kind}
use Rattle.tao_requests.specs.Settling.{settled, value_from, KeepsAnswers}
use Rattle.tao_holdings.specs.Holding.{HoldingsState, contents_in, is_held, leaf_by, may_go}

-- whether the request of an arrival fetches for its block
abbrev pub is_for_block : RequestsState → ℕ → Bool
is_for_block q i = is_real_kind (request_at q.requests i).kind

-- the value of its block that the look-up finds
abbrev pub found_by : HoldingsState → RequestsState → ℕ → ℕ → List ℕ
found_by st q i leaf = value_or_zeros st.shape (found_copy st.shape.l leaf (contents_in st) (block_of q.requests i))

-- the contents once the block is put, if the fetch is for one
abbrev pub put_where : Bool → (ℕ → List Entry) → ℕ → List ℕ → ℕ → List Entry
put_where true contents block value = put contents block value
put_where false contents block value = contents

-- the words then
abbrev pub moved_where : Bool → List ℕ → ℕ → ℕ → List ℕ
moved_where true words block word = slice_set words block word
moved_where false words block word = words

-- the requests then
abbrev pub settled_where : Bool → RequestsState → ℕ → List ℕ → RequestsState
settled_where true q i value = settled q i value
settled_where false q i value = q

-- How settling an arrival changes the holdings and the requests. A fake one changes neither.
pub record Settles (i leaf word : ℕ) (old new : HoldingsState) (q r : RequestsState) : Type 0 where
  pub contents : contents_in new ≡ put_where (is_for_block q i) (contents_in old) (block_of q.requests i) (value_from i (block_of q.requests i) (found_by old q i leaf) q.requests)
  pub others : new ≡ record old { stash = new.stash; words = moved_where (is_for_block q i) old.words (block_of q.requests i) word }
  pub requests : r ≡ settled_where (is_for_block q i) q i (found_by old q i leaf)
  pub stays : KeepsAnswers q.requests r.requests

-- The same, and then the eviction of the path.
pub record Finishes (i leaf word : ℕ) (old new : HoldingsState) (q r : RequestsState) : Type 0 where
  pub held : is_held new ≡ is_held old
  pub contents : contents_in new
      ≡ evict old.shape leaf (leaf_by new) (put_where (is_for_block q i) (contents_in old) (block_of q.requests i) (value_from i (block_of q.requests i) (found_by old q i leaf) q.requests))
  pub others : new ≡ record old { nodes = new.nodes; stash = new.stash; words = moved_where (is_for_block q i) old.words (block_of q.requests i) word }
  pub requests : r ≡ settled_where (is_for_block q i) q i (found_by old q i leaf)
  pub stays : KeepsAnswers q.requests r.requests

-- preallocated blocks, at most one of them used
pub record LeavesBlocks (b : ℕ) (before after : ℕ) (blocks : List (List ℕ)) : Type 0 where
  pub few : before ≤ after + 1
  pub each : All (λ block. length block ≡ b) blocks

-- the leaf that a new arrival fetches: its block's if it is real, else that of its own word
abbrev pub leaf_now : Bool → HoldingsState → Op → ℕ → ℕ
leaf_now true st (Read id) word = leaf_by st id
leaf_now true st (Write id value) word = leaf_by st id
leaf_now true st Pad word = leaf_of st.shape.l word
leaf_now false st (Read id) word = leaf_of st.shape.l word
leaf_now false st (Write id value) word = leaf_of st.shape.l word
leaf_now false st Pad word = leaf_of st.shape.l word

-- of these nodes, those have left that may leave on the acknowledgement of this version
pub record Forgets (version : ℕ) (nodes : List ℕ) (old new : HoldingsState) : Type 0 where
  pub held : (w : ℕ) → is_held new w ≡ (is_held old w && not (list_any (λ v. v == w) nodes && may_go old version w))
  pub contents : (w : ℕ) → contents_in new w ≡ (if not (w == 0) && (list_any (λ v. v == w) nodes && may_go old version w) then [] else contents_in old w)
  pub others : new ≡ record old { nodes = new.nodes }

-- a node of the tree
pub record IsNodeOf (s : Shape) (node : ℕ) : Type 0 where
  pub low : 1 ≤ node
  pub high : node ≤ node_count s.l

-- a bucket without entries
abbrev pub IsEmpty : Bucket → Type 0
IsEmpty bucket = bucket.entries ≡ []

-- the empty bucket of the node at a place of a list
abbrev pub stamp_at : List ℕ → ℕ → ℕ → ℕ → Bucket
stamp_at nodes version nonce i = record { node = slice_index nodes i; version = version; nonce = nonce + i; entries = [] }

-- those of all nodes, with consecutive nonces
abbrev pub stamps : List ℕ → ℕ → ℕ → List Bucket
stamps nodes version nonce = map (stamp_at nodes version nonce) (range_with_len 0 (length nodes))

-- the same with what the nodes have
abbrev pub written_of : (ℕ → List Entry) → List ℕ → ℕ → ℕ → List Bucket
written_of contents nodes version nonce = map (with_entries_of contents) (stamps nodes version nonce)

-- all is held as before
pub record HoldsAgain (old new : HoldingsState) : Type 0 where
  pub held : is_held new ≡ is_held old
  pub contents : contents_in new ≡ contents_in old
  pub others : new ≡ record old { nodes = new.nodes }

-- this many buckets without entries
pub record AreEmptyBuckets (count : ℕ) (buckets : List Bucket) : Type 0 where
  pub len : length buckets ≡ count
  pub empty : All IsEmpty buckets
