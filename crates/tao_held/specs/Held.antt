-- What the proxy holds, what a fetch finds and what is answered, as functions of the record. The events are newest first.
use Rattle.std.specs.Prelude.{◌≡◌, ℕ, ◌*◌, ◌==◌, nat_lt, Bool, true, false, ◌||◌, if◌then◌else◌, List, [], ◌∷◌, Option, Some, None, All, ⊤}
use Rattle.tao_base.specs.declared.calls.Op.{Op}
use Rattle.tao_base.specs.declared.calls.Op.TheVariants.{Read, Write, Pad}
use Rattle.tao_base.specs.declared.session.Event.{Event}
use Rattle.tao_base.specs.declared.session.Event.TheVariants.{Arrive, Done, Issue, Acked, Fault}
use Rattle.tao_base.specs.declared.storage.Bucket.{Bucket}
use Rattle.tao_base.specs.declared.storage.Entry.{Entry}
use Rattle.tao_base.specs.Limits.{Shape}
use Rattle.tao_base.specs.Session.{Opening}
use Rattle.tao_model.specs.Events.{arrived, issues, is_pad}
use Rattle.tao_model.specs.Requests.{is_real, settler, leaf_at, fetched_leaf, position}
use Rattle.tao_model.specs.Residence.{last_touch, is_resident, newest_write}
use Rattle.tao_model.specs.Placement.{entries_at}
use Rattle.tao_model.specs.Evictions.{load_contents}
use Rattle.tao_model.specs.Lawful.{FollowsLawfully, OpensWithLoad}
use Rattle.tao_held.specs.Steps.{take_in, found_copy, value_or_zeros, after_real_fetch, after_fake_fetch}

-- ---- one block's value after operations

-- the block that an operation is on, or 0 for a pad
abbrev pub block_of : Op → ℕ
block_of (Read id) = id
block_of (Write id value) = id
block_of Pad = 0

-- the block that this arrival is on, or 0 for a pad
abbrev pub block_on : List Event → ℕ → ℕ
block_on [] i = 0
block_on (Arrive client op word ∷ es) i = if i == arrived es then block_of op else block_on es i
block_on (Done arrival taken ∷ es) i = block_on es i
block_on (Issue version nonce buckets ∷ es) i = block_on es i
block_on (Acked version ∷ es) i = block_on es i
block_on (Fault cause ∷ es) i = block_on es i

-- a block's value after an operation
abbrev pub op_value : ℕ → Op → List ℕ → List ℕ
op_value block (Read id) v = v
op_value block (Write id value) v = if id == block then value else v
op_value block Pad v = v

-- a block's value after the arrivals from number i on, if it was v before
abbrev pub value_since : List Event → ℕ → ℕ → List ℕ → List ℕ
value_since [] block i v = v
value_since (Arrive client op word ∷ es) block i v = if nat_lt (arrived es) i then v else op_value block op (value_since es block i v)
value_since (Done arrival taken ∷ es) block i v = value_since es block i v
value_since (Issue version nonce buckets ∷ es) block i v = value_since es block i v
value_since (Acked version ∷ es) block i v = value_since es block i v
value_since (Fault cause ∷ es) block i v = value_since es block i v

-- a block's value after the arrivals from number i up to, but not including, number j, if it was v before
abbrev pub value_between : List Event → ℕ → ℕ → ℕ → List ℕ → List ℕ
value_between [] block i j v = v
value_between (Arrive client op word ∷ es) block i j v =
    if nat_lt (arrived es) j then value_since (Arrive client op word ∷ es) block i v else value_between es block i j v
value_between (Done arrival taken ∷ es) block i j v = value_between es block i j v
value_between (Issue version nonce buckets ∷ es) block i j v = value_between es block i j v
value_between (Acked version ∷ es) block i j v = value_between es block i j v
value_between (Fault cause ∷ es) block i j v = value_between es block i j v

-- ---- what is held

-- the contents after a fetched path; `real` says whether the fetch is for the block
abbrev pub after_fetch : Bool → Shape → ℕ → (ℕ → ℕ) → (ℕ → Bool) → (ℕ → List Entry) → (ℕ → List Entry) → ℕ → List ℕ → ℕ → List Entry
after_fetch true s at leaf resident taken own block value = after_real_fetch s at leaf resident taken own block value
after_fetch false s at leaf resident taken own block value = after_fake_fetch s at leaf resident taken own

-- what a look-up finds of the arrival's block after its path is admitted to these contents
abbrev pub found_in : Opening → List Event → (ℕ → List Entry) → ℕ → List Bucket → List ℕ
found_in o es own i taken = value_or_zeros o.shape
    (found_copy o.shape.l (fetched_leaf o es i) (take_in o.shape.l (fetched_leaf o es i) (λ w. is_resident o es w) (entries_at taken) own) (block_on es i))

-- the proxy's contents after the Done of an arrival; the positions are those after it
abbrev pub held_done : Opening → List Event → (ℕ → List Entry) → ℕ → List Bucket → ℕ → List Entry
held_done o es own i taken = after_fetch (is_real es i) o.shape (fetched_leaf o es i) (λ block. position o (Done i taken ∷ es) block) (λ w. is_resident o es w)
    (entries_at taken) own (block_on es i) (value_since es (block_on es i) i (found_in o es own i taken))

-- the entries of the stash, node 0, and of the nodes that the proxy holds
unfoldable pub held : Opening → List Event → ℕ → List Entry
held o [] w = if w == 0 then load_contents o.shape (λ block. leaf_at o [] block) o.first 0 else []
held o (Arrive client op word ∷ es) w = held o es w
held o (Done i taken ∷ es) w = held_done o es (λ v. held o es v) i taken w
held o (Issue version nonce buckets ∷ es) w = held o es w
held o (Acked version ∷ es) w = if w == 0 || is_resident o (Acked version ∷ es) w then held o es w else []
held o (Fault cause ∷ es) w = held o es w

-- ---- what is found and answered

-- What a look-up finds of an arrival's block at its Done, and no bytes before. Only a real arrival's is ever used: a fake one looks nothing up.
unfoldable pub found_value : Opening → List Event → ℕ → List ℕ
found_value o [] i = []
found_value o (Arrive client op word ∷ es) i = found_value o es i
found_value o (Done arrival taken ∷ es) i = if arrival == i then found_in o es (λ w. held o es w) i taken else found_value o es i
found_value o (Issue version nonce buckets ∷ es) i = found_value o es i
found_value o (Acked version ∷ es) i = found_value o es i
found_value o (Fault cause ∷ es) i = found_value o es i

-- What a settled arrival is answered: the value that its settler's fetch found, after the operations from the settler's on and before its own.
-- A pad gets no bytes.
unfoldable pub served_answer : Opening → List Event → ℕ → List ℕ
served_answer o es j = if is_pad es j then [] else value_between es (block_on es j) (settler es j) j (found_value o es (settler es j))

-- ---- what is written

-- a bucket's entries, none if there is no bucket
abbrev pub entries_of_option : Option Bucket → List Entry
entries_of_option None = []
entries_of_option (Some bucket) = bucket.entries

-- the entries of a node's latest version
abbrev pub newest_entries : Opening → List Event → ℕ → List Entry
newest_entries o es w = entries_of_option (newest_write o es w)

-- True write-backs: each written bucket has the entries that the proxy held at its node.
abbrev pub WritesHeld : Opening → List Event → Type 0
WritesHeld o [] = ⊤
WritesHeld o (Arrive client op word ∷ es) = WritesHeld o es
WritesHeld o (Done arrival taken ∷ es) = WritesHeld o es
WritesHeld o (Issue version nonce buckets ∷ es) = WritesHeld o es × All (λ bucket. bucket.entries ≡ held o es bucket.node) buckets
WritesHeld o (Acked version ∷ es) = WritesHeld o es
WritesHeld o (Fault cause ∷ es) = WritesHeld o es

-- a proxy's record: it opens with the load, follows lawfully, and its write-backs are true
pub record IsOfProxy (o : Opening) (es : List Event) : Type 0 where
  pub opens : OpensWithLoad o
  pub follows : FollowsLawfully o es
  pub writes : WritesHeld o es

-- whether a node was touched since the last write-back
abbrev pub is_recent : Opening → List Event → ℕ → Bool
is_recent o es w = nat_lt (issues es * o.shape.k) (last_touch o es w)
