-- The desk between two whole operations: every arrival is done, written back and acknowledged. The events are newest first.
use Rattle.std.specs.Prelude.{◌≡◌, ℕ, ◌+◌, ◌-◌, ◌*◌, ◌<◌, ◌≤◌, true, false, List, [], ◌∷◌, map, length, take, reverse, slice_index, slice_index_or, slice_set, Some, All}
use Rattle.std.specs.List.{range_with_len}
use Rattle.std.specs.Option.{option_or}
use Rattle.tao_base.specs.declared.calls.Op.{Op}
use Rattle.tao_base.specs.declared.calls.Op.TheVariants.{Read, Write, Pad}
use Rattle.tao_base.specs.Array.{block_at}
use Rattle.tao_base.specs.declared.session.Event.{Event}
use Rattle.tao_base.specs.declared.session.Event.TheVariants.{Arrive, Done, Issue, Acked}
use Rattle.tao_base.specs.declared.storage.Bucket.{Bucket}
use Rattle.tao_base.specs.Limits.{session_limit}
use Rattle.tao_base.specs.Session.{Opening, History}
use Rattle.tao_base.specs.Tree.{node_count, path}
use Rattle.tao_model.specs.Events.{arrived, dones, issues, buckets_issued, has_fault, is_done, is_acked, word_at}
use Rattle.tao_model.specs.Requests.{fetched_leaf, next_word}
use Rattle.tao_model.specs.Replies.{array_now}
use Rattle.tao_model.specs.Residence.{last_touch, is_resident, bucket_of, newest_write, newest_version, Unaltered, HasEntriesOf}
use Rattle.tao_model.specs.Lawful.{FollowsLawfully, IsInRange}
use Rattle.tao_model.specs.Trace.{nodes_in}
use Rattle.tao_plain_desk.specs.Whole.{empty_bucket}

-- what the server has at a node is its latest version, without entries
pub record IsServed (o : Opening) (es : List Event) (w : ℕ) (bucket : Bucket) : Type 0 where
  pub written : newest_write o es w ≡ Some bucket
  pub version : newest_version es w ≡ bucket.version
  pub node : bucket.node ≡ w
  pub empty : bucket.entries ≡ []

-- n arrivals, each done, written back and acknowledged; nothing is resident; the server has the latest versions
pub record IsQuiet (o : Opening) (es : List Event) (n : ℕ) (server : ℕ → Bucket) : Type 0 where
  pub follows : FollowsLawfully o es
  pub once : o.shape.k ≡ 1
  pub fault : has_fault es ≡ false
  pub arrived : arrived es ≡ n
  pub dones : dones es ≡ n
  pub issues : issues es ≡ n
  pub all_done : (i : ℕ) → i < n → is_done es i ≡ true
  pub acked : (v : ℕ) → n < v → is_acked es v ≡ false
  pub buckets : buckets_issued es ≡ n * (o.shape.l + 1)
  pub away : (w : ℕ) → is_resident o es w ≡ false
  pub touch : (w : ℕ) → last_touch o es w ≤ n
  pub unaltered : Unaltered HasEntriesOf o es
  pub served : (w : ℕ) → 1 ≤ w → w ≤ node_count o.shape.l → IsServed o es w (server w)

-- the four events of one more operation
abbrev pub four : List Event → ℕ → Op → ℕ → List Bucket → ℕ → List Bucket → List Event
four es client op word taken nonce buckets =
    Acked (arrived es + 1) ∷ Issue (arrived es + 1) nonce buckets ∷ Done (arrived es) taken ∷ Arrive client op word ∷ es

-- the buckets of a path are stamped: the path's nodes, this version, nonces from one on, no entries
pub record AreStamped (along : List ℕ) (version nonce : ℕ) (buckets : List Bucket) : Type 0 where
  pub nodes : nodes_in buckets ≡ along
  pub versions : All (λ bucket. bucket.version ≡ version) buckets
  pub nonces : map (λ bucket. bucket.nonce) buckets ≡ range_with_len nonce (length buckets)
  pub empty : All (λ bucket. bucket.entries ≡ []) buckets

-- a bucket with this version and nonce, and with the node and the entries that it had
abbrev pub stamped : Bucket → ℕ → ℕ → Bucket
stamped bucket version nonce = record bucket { version = version; nonce = nonce }

-- the server has these buckets at their nodes, and elsewhere what it had
abbrev pub Stores : ℕ → List Bucket → (ℕ → Bucket) → (ℕ → Bucket) → Type 0
Stores nodes buckets old new = (w : ℕ) → 1 ≤ w → w ≤ nodes → Some (new w) ≡ option_or (bucket_of w buckets) (Some (old w))

-- what one more operation needs
pub record MayPlay (o : Opening) (n who : ℕ) (op : Op) : Type 0 where
  pub room : n < session_limit o.shape
  pub client : who < 64
  pub range : IsInRange o.shape op

-- the bucket of a node in the list of all
abbrev pub bucket_at : List Bucket → ℕ → Bucket
bucket_at server w = slice_index_or server (w - 1) (empty_bucket 0 0 0)

-- buckets without entries
abbrev pub AreEmpty : List Bucket → Type 0
AreEmpty buckets = All (λ bucket. bucket.entries ≡ []) buckets

-- the words of the blocks' positions after an operation: a block that was asked for has the word of its arrival
abbrev pub placed : List ℕ → Op → ℕ → List ℕ
placed places (Read id) word = slice_set places id word
placed places (Write id value) word = slice_set places id word
placed places Pad word = places

-- the value that is copied for an operation: the block that is read, or the value that is written
abbrev pub value_for : List (List ℕ) → Op → List ℕ
value_for blocks (Read id) = block_at blocks id
value_for blocks (Write id value) = value
value_for blocks Pad = []

-- what the desk holds, beside its record: the array, the word of each block's position, the server's buckets, and room for a path
pub record IsDesk (h : History) (tape : List ℕ) (blocks : List (List ℕ)) (places : List ℕ) (server path : List Bucket) (n : ℕ) : Type 0 where
  pub quiet : IsQuiet h.opening (reverse h.events) n (bucket_at server)
  pub words : h.opening.words ≡ take h.opening.shape.n tape
  pub array : blocks ≡ array_now h.opening (reverse h.events)
  pub blocks_len : length blocks ≡ h.opening.shape.n
  pub places_len : length places ≡ h.opening.shape.n
  pub place : (block : ℕ) → block < h.opening.shape.n → slice_index places block ≡ word_at h.opening (reverse h.events) (next_word h.opening (reverse h.events) block)
  pub server_len : length server ≡ node_count h.opening.shape.l
  pub path_len : length path ≡ h.opening.shape.l + 1
  pub path_empty : AreEmpty path
  pub within : n ≤ session_limit h.opening.shape

-- One more operation that may be played keeps the desk quiet: its path is fetched from the server, stamped anew and stored.
abbrev pub QuietStep : Type 0
QuietStep = (o : Opening) (es : List Event) (n : ℕ) (server new : ℕ → Bucket) (client : ℕ) (op : Op) (word leaf nonce : ℕ) (buckets : List Bucket)
    → IsQuiet o es n server → MayPlay o n client op → leaf ≡ fetched_leaf o (Arrive client op word ∷ es) n
    → nonce ≡ node_count o.shape.l + 1 + n * (o.shape.l + 1) → AreStamped (path o.shape.l leaf) (n + 1) nonce buckets
    → Stores (node_count o.shape.l) buckets server new
    → IsQuiet o (four es client op word (map server (path o.shape.l leaf)) nonce buckets) (n + 1) new
