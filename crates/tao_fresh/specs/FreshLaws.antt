-- Laws of a proxy's record: its write-backs are true. A record's events are oldest first, a list `es` is newest first.
use Rattle.std.specs.Prelude.{◌≡◌, ℕ, ◌<◌, ◌≤◌, ◌==◌, true, false, ◌&&◌, List, [], ◌∷◌, reverse, All}
use Rattle.std.specs.List.{list_any}
use Rattle.tao_base.specs.declared.calls.Op.{Op}
use Rattle.tao_base.specs.declared.session.Event.{Event}
use Rattle.tao_base.specs.declared.session.Event.TheVariants.{Arrive, Done, Issue, Acked, Fault}
use Rattle.tao_base.specs.declared.storage.Bucket.{Bucket}
use Rattle.tao_base.specs.declared.storage.Entry.{Entry}
use Rattle.tao_base.specs.Session.{Opening}
use Rattle.tao_base.specs.Array.{block_at}
use Rattle.tao_base.specs.Tree.{node_count, is_on_path}
use Rattle.tao_model.specs.Events.{arrived, dones, is_on, is_done}
use Rattle.tao_model.specs.Requests.{is_real, is_settled, fetched_leaf, position}
use Rattle.tao_model.specs.Residence.{is_resident, Unaltered, HasEntriesOf}
use Rattle.tao_model.specs.Replies.{array_now, plain_reply}
use Rattle.tao_model.specs.Trace.{nodes_in}
use Rattle.tao_model.specs.Placement.{entries_at}
use Rattle.tao_model.specs.FreshCopy.{FreshCopy, current_contents}
use Rattle.tao_model.specs.Lawful.{FollowsLawfully}
use Rattle.tao_model.specs.OneMore.{with_one_more}
use Rattle.tao_held.specs.Held.{value_since, value_between, held, found_value, served_answer, newest_entries, is_recent, IsOfProxy}
use Rattle.tao_contents.specs.FinalArray.{AreAllNodes, seen_array}
use Rattle.tao_contents.specs.CleanLaws.{CleanResidents}
use Rattle.tao_contents.specs.Counting.{AreOfTree, HasOneEntry}
use Rattle.tao_contents.specs.WriteBackLaws.{FreshWrites}
use Rattle.tao_laws.specs.SettledValues.{settled_value}

-- ---- values

-- The Done of a real arrival settles its block's arrivals from it on. No other value changes.
pub record MovesValues (o : Opening) (es now : List Event) (i : ℕ) : Type 0 where
  pub own : (block : ℕ) → is_real es i ≡ true → is_on es i block ≡ true → settled_value o now block ≡ value_since es block i (settled_value o es block)
  pub other : (block : ℕ) → (is_real es i && is_on es i block) ≡ false → settled_value o now block ≡ settled_value o es block

-- this holds for each Done that may come next
abbrev pub SettledMoves : Type 0
SettledMoves = (o : Opening) (events : List Event) (i : ℕ) (taken : List Bucket) → FollowsLawfully o (with_one_more events (Done i taken))
    → MovesValues o (reverse events) (with_one_more events (Done i taken)) i

-- an arrival changes no value
abbrev pub SettledStays : Type 0
SettledStays = (o : Opening) (events : List Event) (client : ℕ) (op : Op) (word block : ℕ) → FollowsLawfully o (with_one_more events (Arrive client op word))
    → settled_value o (with_one_more events (Arrive client op word)) block ≡ settled_value o (reverse events) block

-- A later plain reply on a block is the earlier one after the operations between.
abbrev pub PlainBetween : Type 0
PlainBetween = (o : Opening) (events : List Event) (block i j : ℕ) → FollowsLawfully o (reverse events) → i ≤ j → j < arrived (reverse events)
    → is_on (reverse events) i block ≡ true → is_on (reverse events) j block ≡ true
    → plain_reply o (reverse events) j ≡ value_between (reverse events) block i j (plain_reply o (reverse events) i)

-- ---- contents

-- A held node is as it was last written, unless it was touched since. This holds even if fetched buckets were altered.
abbrev pub ResidentsAreClean : Type 0
ResidentsAreClean = (o : Opening) (events : List Event) → IsOfProxy o (reverse events)
    → CleanResidents (λ w. is_resident o (reverse events) w) (λ w. is_recent o (reverse events) w) (λ w. held o (reverse events) w) (λ w. newest_entries o (reverse events) w)

-- the current contents of each node: the proxy's entries if it holds the node (and for the stash), else those last written
abbrev pub present : Opening → List Event → ℕ → List Entry
present o es = current_contents (λ w. is_resident o es w) (λ w. held o es w) (λ w. newest_entries o es w)

-- If answers were honest, each block has one copy, with its settled value, in the stash or on the path of its position.
abbrev pub CopiesAreFresh : Type 0
CopiesAreFresh = (o : Opening) (events : List Event) → IsOfProxy o (reverse events) → Unaltered HasEntriesOf o (reverse events)
    → FreshCopy o.shape (λ b. position o (reverse events) b) (λ b. settled_value o (reverse events) b) (present o (reverse events))

-- The present contents are lists in rising id, with no entry outside the stash and the tree, even if fetched buckets were altered.
abbrev pub PresentIsOfTree : Type 0
PresentIsOfTree = (o : Opening) (events : List Event) → IsOfProxy o (reverse events) → AreOfTree o.shape.l (present o (reverse events))

-- If answers were honest, the stash and all nodes have exactly one entry of each block: counted, and not only found by looking it up.
abbrev pub CopiesAreCounted : Type 0
CopiesAreCounted = (o : Opening) (events : List Event) (block : ℕ) → IsOfProxy o (reverse events) → Unaltered HasEntriesOf o (reverse events) → block < o.shape.n
    → HasOneEntry o.shape.l (position o (reverse events) block) block (settled_value o (reverse events) block) (present o (reverse events))

-- If answers were honest, a real fetch found its plain reply.
abbrev pub FoundIsPlain : Type 0
FoundIsPlain = (o : Opening) (events : List Event) (i : ℕ) → IsOfProxy o (reverse events) → Unaltered HasEntriesOf o (reverse events)
    → is_done (reverse events) i ≡ true → is_real (reverse events) i ≡ true → found_value o (reverse events) i ≡ plain_reply o (reverse events) i

-- If answers were honest, a settled arrival is answered its plain reply.
abbrev pub AnswersAreRight : Type 0
AnswersAreRight = (o : Opening) (events : List Event) (j : ℕ) → IsOfProxy o (reverse events) → Unaltered HasEntriesOf o (reverse events)
    → j < arrived (reverse events) → is_settled (reverse events) j ≡ true → served_answer o (reverse events) j ≡ plain_reply o (reverse events) j

-- ---- what is written

-- the leaf of the last Done, or leaf 0
abbrev pub last_leaf : Opening → List Event → ℕ
last_leaf o [] = 0
last_leaf o (Arrive client op word ∷ es) = last_leaf o es
last_leaf o (Done i taken ∷ es) = fetched_leaf o es i
last_leaf o (Issue version nonce buckets ∷ es) = last_leaf o es
last_leaf o (Acked version ∷ es) = last_leaf o es
last_leaf o (Fault cause ∷ es) = last_leaf o es

-- The load and each write-back were fresh writes when made. Just filled: all nodes at the load, later the path of the last eviction.
abbrev pub FreshWritesOf : Opening → List Event → Type 0
FreshWritesOf o [] = FreshWrites o.shape (λ b. position o [] b) (λ b. block_at o.first b) (λ w. true) (λ w. newest_entries o [] w)
FreshWritesOf o (Arrive client op word ∷ es) = FreshWritesOf o es
FreshWritesOf o (Done i taken ∷ es) = FreshWritesOf o es
FreshWritesOf o (Issue version nonce buckets ∷ es) = FreshWritesOf o es
    × FreshWrites o.shape (λ b. position o (Issue version nonce buckets ∷ es) b) (λ b. settled_value o (Issue version nonce buckets ∷ es) b)
    (is_on_path o.shape.l (last_leaf o es)) (λ w. newest_entries o (Issue version nonce buckets ∷ es) w)
FreshWritesOf o (Acked version ∷ es) = FreshWritesOf o es
FreshWritesOf o (Fault cause ∷ es) = FreshWritesOf o es

-- this holds for every proxy's record whose answers were honest
abbrev pub WritesAreFresh : Type 0
WritesAreFresh = (o : Opening) (events : List Event) → IsOfProxy o (reverse events) → Unaltered HasEntriesOf o (reverse events) → FreshWritesOf o (reverse events)

-- ---- the final look

-- an honest scan reads each node of the tree that the proxy doesn't hold as it was last written
pub record IsHonestScan (o : Opening) (es : List Event) (taken : List Bucket) : Type 0 where
  pub all : (w : ℕ) → 1 ≤ w → w ≤ node_count o.shape.l → is_resident o es w ≡ false → list_any (λ v. v == w) (nodes_in taken) ≡ true
  pub honest : All (λ bucket. bucket.entries ≡ newest_entries o es bucket.node) taken

-- When all is done and answers were honest, a scan of all nodes sees the plain array.
abbrev pub ArrayIsSeen : Type 0
ArrayIsSeen = (o : Opening) (events : List Event) (taken : List Bucket) (nodes : List ℕ) → IsOfProxy o (reverse events) → Unaltered HasEntriesOf o (reverse events)
    → dones (reverse events) ≡ arrived (reverse events) → IsHonestScan o (reverse events) taken → AreAllNodes o.shape.l nodes
    → seen_array o.shape nodes (current_contents (λ w. is_resident o (reverse events) w) (λ w. held o (reverse events) w) (entries_at taken)) ≡ array_now o (reverse events)
