-- Laws that restate the look-back functions over the whole record. A record's events are oldest first.
use Rattle.std.specs.Prelude.{◌≡◌, ◌↔◌, ℕ, ◌+◌, ◌-◌, ◌<◌, ◌≤◌, Bool, true, false, ◌&&◌, List, [], ◌∷◌, ◌++◌, map, reverse, length, take, drop, slice_index, slice_index_or, Option, Some, None, is_some}
use Rattle.std.specs.List.{filter_map}
use Rattle.std.specs.Option.{option_map_or}
use Rattle.tao_base.specs.declared.calls.Op.{Op}
use Rattle.tao_base.specs.declared.session.Event.{Event}
use Rattle.tao_base.specs.declared.session.Event.TheVariants.{Arrive, Done, Issue, Acked, Fault}
use Rattle.tao_base.specs.declared.storage.Bucket.{Bucket}
use Rattle.tao_base.specs.Session.{Opening}
use Rattle.tao_base.specs.Tree.{leaf_of, nodes_of}
use Rattle.tao_base.specs.Array.{array_after, array_reply}
use Rattle.tao_model.specs.Greatest.{IsGreatest, IsLast}
use Rattle.tao_model.specs.Events.{arrived, dones, issues, is_done, is_on, names, word_of}
use Rattle.tao_model.specs.Requests.{is_real, settler, fetched_leaf, fetches, position}
use Rattle.tao_model.specs.Replies.{ops, array_now, plain_reply, released}
use Rattle.tao_model.specs.Residence.{last_touch, bucket_of, is_issued, newest_write, newest_version}
use Rattle.tao_model.specs.Lawful.{FollowsLawfully, touched_after}
use Rattle.tao_model.specs.OneMore.{with_one_more}

-- ---- Dones

-- the arrival of this event, if it is a Done
abbrev pub done_of : Event → Option ℕ
done_of (Arrive client op word) = None
done_of (Done arrival taken) = Some arrival
done_of (Issue version nonce buckets) = None
done_of (Acked version) = None
done_of (Fault cause) = None

-- the arrivals in the order of their Dones
abbrev pub done_arrivals : List Event → List ℕ
done_arrivals events = filter_map done_of events

-- the arrival of the Done of this number; the first has number 1
abbrev pub arrival_done : List Event → ℕ → ℕ
arrival_done events number = slice_index (done_arrivals events) (number - 1)

-- `last_touch` is the number of the last Done whose path has the node, or 0 if there is none.
abbrev pub LastTouchIsLast : Type 0
LastTouchIsLast = (o : Opening) (events : List Event) (node : ℕ) → FollowsLawfully o (reverse events)
    → IsGreatest (λ number. fetches o (reverse events) (arrival_done events number) node) (dones (reverse events)) (last_touch o (reverse events) node)

-- The nodes touched after the Done of a number are those on the paths of the later Dones.
abbrev pub TouchedAreNodes : Type 0
TouchedAreNodes = (o : Opening) (events : List Event) (number : ℕ) → FollowsLawfully o (reverse events)
    → touched_after o (reverse events) number ≡ nodes_of o.shape.l (map (fetched_leaf o (reverse events)) (drop number (done_arrivals events)))

-- ---- write-backs

-- the buckets of this event, if it is a write-back
abbrev pub buckets_of : Event → Option (List Bucket)
buckets_of (Arrive client op word) = None
buckets_of (Done arrival taken) = None
buckets_of (Issue version nonce buckets) = Some buckets
buckets_of (Acked version) = None
buckets_of (Fault cause) = None

-- all that was written, by version: the loaded tree, then each write-back
abbrev pub written : Opening → List Event → List (List Bucket)
written o events = o.loaded ∷ filter_map buckets_of events

-- the bucket of a node in a version, if the version has the node
abbrev pub written_at : Opening → List Event → ℕ → ℕ → Option Bucket
written_at o events version node = bucket_of node (slice_index_or (written o events) version [])

-- The latest version of a node is the greatest that has it: the load, if no write-back has.
pub record IsNewest (o : Opening) (events : List Event) (node : ℕ) : Type 0 where
  pub version : IsGreatest (λ v. is_some (written_at o events v node)) (issues (reverse events)) (newest_version (reverse events) node)
  pub bucket : newest_write o (reverse events) node ≡ written_at o events (newest_version (reverse events) node) node

-- this holds for every node of a record that follows lawfully
abbrev pub NewestIsGreatest : Type 0
NewestIsGreatest = (o : Opening) (events : List Event) (node : ℕ) → FollowsLawfully o (reverse events) → IsNewest o events node

-- What was written at a node under a version doesn't change.
abbrev pub WrittenStays : Type 0
WrittenStays = (o : Opening) (events later : List Event) (v node : ℕ) → v ≤ issues (reverse events) → written_at o (events ++ later) v node ≡ written_at o events v node

-- A write-back writes its buckets under its version.
abbrev pub IssueIsWritten : Type 0
IssueIsWritten = (o : Opening) (events : List Event) (v nonce : ℕ) (buckets : List Bucket) (node : ℕ) → FollowsLawfully o (with_one_more events (Issue v nonce buckets))
    → written_at o (events ++ Issue v nonce buckets ∷ []) v node ≡ bucket_of node buckets

-- A version from 1 on has exactly the nodes that were written under it.
abbrev pub IssuedIsWritten : Type 0
IssuedIsWritten = (o : Opening) (events : List Event) (v node : ℕ) → FollowsLawfully o (reverse events) → 0 < v → v ≤ issues (reverse events)
    → is_issued (reverse events) v node ≡ is_some (written_at o events v node)

-- ---- arrivals

-- An arrival on a block is real exactly if every earlier real arrival on that block is done before it.
abbrev pub RealMeans : Type 0
RealMeans = (before after : List Event) (client : ℕ) (op : Op) (word block : ℕ) → names block op ≡ true
    → (is_real (reverse (before ++ Arrive client op word ∷ after)) (arrived (reverse before)) ≡ true)
    ↔ ((i : ℕ) → i < arrived (reverse before) → is_on (reverse before) i block ≡ true → is_real (reverse before) i ≡ true → is_done (reverse before) i ≡ true)

-- whether an arrival is real and on a block
abbrev pub is_real_on : List Event → ℕ → ℕ → Bool
is_real_on es block i = is_real es i && is_on es i block

-- An arrival on a block is settled by the last real arrival on that block up to it.
abbrev pub SettlerIsLast : Type 0
SettlerIsLast = (events : List Event) (i block : ℕ) → i < arrived (reverse events) → is_on (reverse events) i block ≡ true
    → IsLast (is_real_on (reverse events) block) (i + 1) (Some (settler (reverse events) i))

-- A real arrival fetches the leaf of the previous real arrival's word on its block, or of the block's first word if there is none.
pub record FetchesLast (o : Opening) (events : List Event) (block i : ℕ) : Type 0 where
  pub last : Option ℕ
  pub is_last : IsLast (is_real_on (reverse events) block) i last
  pub leaf : fetched_leaf o (reverse events) i ≡ leaf_of o.shape.l (option_map_or (word_of (reverse events)) last (slice_index o.words block))

-- this holds for every real arrival on a block of the store
abbrev pub RealFetchesLast : Type 0
RealFetchesLast = (o : Opening) (events : List Event) (block i : ℕ) → block < o.shape.n → i < arrived (reverse events) → is_on (reverse events) i block ≡ true
    → is_real (reverse events) i ≡ true → FetchesLast o events block i

-- A fake arrival fetches the leaf of its own word.
abbrev pub FakeFetchesOwn : Type 0
FakeFetchesOwn = (o : Opening) (events : List Event) (i : ℕ) → i < arrived (reverse events) → is_real (reverse events) i ≡ false
    → fetched_leaf o (reverse events) i ≡ leaf_of o.shape.l (word_of (reverse events) i)

-- whether an arrival is real and on a block, and is done
abbrev pub has_moved : List Event → ℕ → ℕ → Bool
has_moved es block i = is_done es i && is_real_on es block i

-- A block's position is the leaf of the last real arrival's word that is done, or of its first word if none is.
pub record IsPosition (o : Opening) (events : List Event) (block : ℕ) : Type 0 where
  pub last : Option ℕ
  pub is_last : IsLast (has_moved (reverse events) block) (arrived (reverse events)) last
  pub leaf : position o (reverse events) block ≡ leaf_of o.shape.l (option_map_or (word_of (reverse events)) last (slice_index o.words block))

-- this holds for every block of the store in a record that follows lawfully
abbrev pub PositionIsLast : Type 0
PositionIsLast = (o : Opening) (events : List Event) (block : ℕ) → FollowsLawfully o (reverse events) → block < o.shape.n → IsPosition o events block

-- ---- replies

-- `released` is the greatest number such that all arrivals below it are done.
abbrev pub ReleasedIsGreatest : Type 0
ReleasedIsGreatest = (events : List Event) (r : ℕ)
    → (r ≤ released (reverse events)) ↔ ((r ≤ arrived (reverse events)) × ((i : ℕ) → i < r → is_done (reverse events) i ≡ true))

-- there are as many operations as arrivals
abbrev pub OpsArrived : Type 0
OpsArrived = (events : List Event) → length (ops events) ≡ arrived (reverse events)

-- The current array is the first one after all operations.
abbrev pub ArrayIsFold : Type 0
ArrayIsFold = (o : Opening) (events : List Event) → array_now o (reverse events) ≡ array_after o.first (ops events)

-- An arrival's plain reply is what the array answers after the operations before it.
abbrev pub ReplyIsPlain : Type 0
ReplyIsPlain = (o : Opening) (events : List Event) (i : ℕ) (d : Op) → i < arrived (reverse events)
    → plain_reply o (reverse events) i ≡ array_reply (array_after o.first (take i (ops events))) (slice_index_or (ops events) i d)
