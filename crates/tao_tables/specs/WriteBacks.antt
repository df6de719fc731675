-- What a proxy keeps of its write-backs: the nodes of the next one, the places of the issued ones, and counts of events.
-- A record's events are oldest first.
use Rattle.std.specs.Prelude.{◌≡◌, ℕ, ◌+◌, ◌-◌, ◌*◌, ◌<◌, ◌≤◌, ◌==◌, ◌||◌, true, List, [], ◌∷◌, ◌++◌, map, length, reverse, slice_index, is_some, All}
use Rattle.std.specs.List.{list_any, range_with_len}
use Rattle.std.specs.List.Sorted.{IsStrictlyIncreasing}
use Rattle.tao_base.specs.declared.calls.Op.{Op}
use Rattle.tao_base.specs.declared.session.Cause.{Cause}
use Rattle.tao_base.specs.declared.session.Event.{Event}
use Rattle.tao_base.specs.declared.session.Event.TheVariants.{Arrive, Done, Issue, Acked, Fault}
use Rattle.tao_base.specs.declared.storage.Bucket.{Bucket}
use Rattle.tao_base.specs.Session.{Opening}
use Rattle.tao_base.specs.Tree.{node_count, node_at, is_on_path}
use Rattle.tao_model.specs.Events.{dones, issues, acks, buckets_issued}
use Rattle.tao_model.specs.Requests.{fetched_leaf}
use Rattle.tao_model.specs.Residence.{bucket_of, is_resident, newest_version}
use Rattle.tao_model.specs.Trace.{nodes_in}
use Rattle.tao_base.specs.Buckets.{IsInForm}
use Rattle.tao_model.specs.Lawful.{MayBeIssued, OwesNone, FollowsLawfully, touched_after}
use Rattle.tao_model.specs.WholeRecords.{IsAt}
use Rattle.tao_model.specs.OneMore.{with_one_more}

-- the write-back of a version stands at a place
pub record IsIssueAt (events : List Event) (place version : ℕ) : Type 0 where
  pub nonce : ℕ
  pub buckets : List Bucket
  pub there : IsAt events place (Issue version nonce buckets)

-- The nodes touched since the last write-back, rising; the place of each write-back; the counts of Dones, write-backs and
-- acknowledgements; and the next nonce.
pub record TellsWrites (o : Opening) (events : List Event) (recent places : List ℕ) (done issued acked nonce : ℕ) : Type 0 where
  pub touched : recent ≡ touched_after o (reverse events) (issues (reverse events) * o.shape.k)
  pub count : length places ≡ issues (reverse events)
  pub each : (u : ℕ) → u < issues (reverse events) → IsIssueAt events (slice_index places u) (u + 1)
  pub dones : done ≡ dones (reverse events)
  pub issues : issued ≡ issues (reverse events)
  pub acks : acked ≡ acks (reverse events)
  pub next : nonce ≡ node_count o.shape.l + 1 + buckets_issued (reverse events)

-- a strictly rising list that has the nodes of another one and those of a path
pub record PutsPath (l leaf : ℕ) (recent recent' : List ℕ) : Type 0 where
  pub rises : IsStrictlyIncreasing recent'
  pub members : (w : ℕ) → list_any (λ v. v == w) recent' ≡ (list_any (λ v. v == w) recent || is_on_path l leaf w)

-- the same with the nodes of a path above a depth
pub record PutsTop (l leaf depth : ℕ) (recent recent' : List ℕ) : Type 0 where
  pub rises : IsStrictlyIncreasing recent'
  pub members : (w : ℕ) → list_any (λ v. v == w) recent' ≡ (list_any (λ v. v == w) recent || list_any (λ v. v == w) (map (node_at l leaf) (range_with_len 0 depth)))

-- the same with one node
pub record PutsOne (node : ℕ) (recent recent' : List ℕ) : Type 0 where
  pub rises : IsStrictlyIncreasing recent'
  pub members : (w : ℕ) → list_any (λ v. v == w) recent' ≡ (list_any (λ v. v == w) recent || (node == w))

-- How one more event changes them: a Done adds its path's nodes; a write-back starts the next list, and is at the record's new place.
pub record WritesMove (o : Opening) (events : List Event) (recent places : List ℕ) (n m a nonce : ℕ) : Type 0 where
  pub arrive : (client : ℕ) (op : Op) (word : ℕ) → TellsWrites o (events ++ Arrive client op word ∷ []) recent places n m a nonce
  pub done : (i : ℕ) (taken : List Bucket) (recent' : List ℕ) → FollowsLawfully o (with_one_more events (Done i taken))
      → PutsPath o.shape.l (fetched_leaf o (reverse events) i) recent recent' → TellsWrites o (events ++ Done i taken ∷ []) recent' places (n + 1) m a nonce
  pub issue : (version start : ℕ) (buckets : List Bucket) → FollowsLawfully o (with_one_more events (Issue version start buckets))
      → TellsWrites o (events ++ Issue version start buckets ∷ []) [] (places ++ length events ∷ []) n (m + 1) a (nonce + length buckets)
  pub acked : (version : ℕ) → TellsWrites o (events ++ Acked version ∷ []) recent places n m (a + 1) nonce
  pub fault : (cause : Cause) → TellsWrites o (events ++ Fault cause ∷ []) recent places n m a nonce

-- this holds for all that tells a record's writes
abbrev pub WritesAreTold : Type 0
WritesAreTold = (o : Opening) (events : List Event) (recent places : List ℕ) (n m a nonce : ℕ) → TellsWrites o events recent places n m a nonce
    → WritesMove o events recent places n m a nonce

-- at the start nothing was written but the load
abbrev pub WritesAtStart : Type 0
WritesAtStart = (o : Opening) → TellsWrites o [] [] [] 0 0 0 (node_count o.shape.l + 1)

-- A strictly rising list with the members of another one is that list.
abbrev pub OneRisingList : Type 0
OneRisingList = (xs ys : List ℕ) → IsStrictlyIncreasing xs → IsStrictlyIncreasing ys → ((w : ℕ) → list_any (λ v. v == w) xs ≡ list_any (λ v. v == w) ys) → xs ≡ ys

-- The nodes of the next write-back rise, are in the tree and held; no node has its version yet. Each Done since the last write-back has
-- added at most one path, and while no write-back is owed there is room for one more.
pub record IsRecentList (o : Opening) (es : List Event) (recent : List ℕ) : Type 0 where
  pub rises : IsStrictlyIncreasing recent
  pub in_tree : (w : ℕ) → list_any (λ v. v == w) recent ≡ true → (0 < w) × (w ≤ node_count o.shape.l)
  pub held : (w : ℕ) → list_any (λ v. v == w) recent ≡ true → is_resident o es w ≡ true
  pub older : (w : ℕ) → newest_version es w ≤ issues es
  pub few : length recent ≤ (dones es - issues es * o.shape.k) * (o.shape.l + 1)
  pub within : length recent ≤ node_count o.shape.l
  pub fits : length recent ≤ o.shape.k * (o.shape.l + 1)
  pub room : OwesNone o es → length recent + (o.shape.l + 1) ≤ o.shape.k * (o.shape.l + 1)

-- this holds in each lawful record
abbrev pub RecentIsShort : Type 0
RecentIsShort = (o : Opening) (events : List Event) → FollowsLawfully o (reverse events)
    → IsRecentList o (reverse events) (touched_after o (reverse events) (issues (reverse events) * o.shape.k))

-- buckets of the recent nodes, in form, with the next version and consecutive nonces
pub record AreStamped (o : Opening) (recent : List ℕ) (version nonce : ℕ) (buckets : List Bucket) : Type 0 where
  pub nodes : nodes_in buckets ≡ recent
  pub in_form : All (IsInForm o.shape) buckets
  pub versions : All (λ bucket. bucket.version ≡ version) buckets
  pub nonces : map (λ bucket. bucket.nonce) buckets ≡ range_with_len nonce (length buckets)

-- Such buckets may be written if a period is full.
abbrev pub IssueMayFollow : Type 0
IssueMayFollow = (o : Opening) (events : List Event) (recent places : List ℕ) (n m a nonce : ℕ) (buckets : List Bucket) → TellsWrites o events recent places n m a nonce
    → n ≡ (m + 1) * o.shape.k → AreStamped o recent (m + 1) nonce buckets → MayBeIssued o (reverse events) (m + 1) nonce buckets

-- ---- the buckets of a write-back

-- A list of buckets has a bucket of just those nodes that are its buckets' nodes.
abbrev pub BucketThere : Type 0
BucketThere = (w : ℕ) (buckets : List Bucket) → is_some (bucket_of w buckets) ≡ list_any (λ v. v == w) (nodes_in buckets)

-- No write-back has more buckets than the tree has nodes, so nonces stay small.
abbrev pub NoncesAreFew : Type 0
NoncesAreFew = (o : Opening) (events : List Event) → FollowsLawfully o (reverse events) → buckets_issued (reverse events) ≤ issues (reverse events) * node_count o.shape.l
