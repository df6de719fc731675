-- Lawful records: which event may follow which, and what a record opens with. The events are newest first.
use Rattle.std.specs.Prelude.{◌≡◌, ◌≢◌, ℕ, ◌+◌, ◌*◌, ◌<◌, ◌≤◌, ◌^◌, ◌⊎◌, nat_lt, true, false, not, List, [], ◌∷◌, map, filter, reverse, length, All, ⊤}
use Rattle.std.specs.List.{range_with_len}
use Rattle.tao_base.specs.declared.calls.Op.{Op}
use Rattle.tao_base.specs.declared.calls.Op.TheVariants.{Read, Write, Pad}
use Rattle.tao_base.specs.declared.session.Cause.{Cause}
use Rattle.tao_base.specs.declared.session.Cause.TheVariants.{Damaged, Stale, Link}
use Rattle.tao_base.specs.declared.session.Event.{Event}
use Rattle.tao_base.specs.declared.session.Event.TheVariants.{Arrive, Done, Issue, Acked, Fault}
use Rattle.tao_base.specs.declared.storage.Bucket.{Bucket}
use Rattle.tao_base.specs.Limits.{Shape, IsShape, session_limit}
use Rattle.tao_base.specs.Session.{Opening, History}
use Rattle.tao_base.specs.Tree.{node_count, path, is_on_path}
use Rattle.tao_model.specs.Events.{arrived, dones, issues, acks, buckets_issued, has_fault, is_done, is_acked}
use Rattle.tao_model.specs.Requests.{fetched_leaf, fetches, leaf_at}
use Rattle.tao_model.specs.Residence.{last_touch, is_resident, newest_version}
use Rattle.tao_model.specs.Trace.{nodes_in}
use Rattle.tao_base.specs.Buckets.{IsInForm}
use Rattle.tao_model.specs.Placement.{IsLoad}

-- an operation that the store accepts
abbrev pub IsInRange : Shape → Op → Type 0
IsInRange s (Read id) = id < s.n
IsInRange s (Write id value) = (id < s.n) × (length value ≡ s.b)
IsInRange s Pad = ⊤

-- a first word and a first value for each block
pub record IsOpening (o : Opening) : Type 0 where
  pub shape : IsShape o.shape
  pub words : length o.words ≡ o.shape.n
  pub blocks : length o.first ≡ o.shape.n
  pub values : All (λ value. length value ≡ o.shape.b) o.first

-- node w has version 0 and nonce w, from the root on
pub record IsNumbered (o : Opening) : Type 0 where
  pub nodes : nodes_in o.loaded ≡ range_with_len 1 (node_count o.shape.l)
  pub versions : All (λ bucket. bucket.version ≡ 0) o.loaded
  pub nonces : map (λ bucket. bucket.nonce) o.loaded ≡ range_with_len 1 (node_count o.shape.l)

-- the tree was loaded with the placement of all blocks by their first words
pub record OpensWithLoad (o : Opening) : Type 0 where
  pub numbered : IsNumbered o
  pub in_form : All (IsInForm o.shape) o.loaded
  pub placed : IsLoad o.shape (λ block. leaf_at o [] block) o.first o.loaded

-- a fetch reads the node from the server: a fetch under way, or one of the scan when all is done
abbrev pub IsAwayOn : Opening → List Event → ℕ → ℕ → Type 0
IsAwayOn o es fetch node = (is_resident o es node ≡ false)
    × (((fetch < arrived es) × (is_done es fetch ≡ false) × (fetches o es fetch node ≡ true))
    ⊎ ((leaf : ℕ) × (leaf < 2 ^ o.shape.l) × (fetch ≡ 2 ^ 32 + leaf) × (is_on_path o.shape.l leaf node ≡ true) × (dones es ≡ arrived es) × (acks es ≡ issues es)))

-- A cause that is possible: a damaged or stale bucket is of a node that this fetch reads from the server,
-- and a stale one isn't the node's latest version. Any link may fail, at any time.
abbrev pub MayFail : Opening → List Event → Cause → Type 0
MayFail o es (Damaged fetch node fault) = IsAwayOn o es fetch node
MayFail o es (Stale fetch node wanted found) = IsAwayOn o es fetch node × (wanted ≡ newest_version es node) × (found ≢ wanted)
MayFail o es (Link link) = ⊤

-- the nodes of a path that the proxy doesn't hold, root first
abbrev pub away_on_path : Opening → List Event → ℕ → List ℕ
away_on_path o es arrival = filter (λ node. not (is_resident o es node)) (path o.shape.l (fetched_leaf o es arrival))

-- the nodes touched after the Done of this number, rising
abbrev pub touched_after : Opening → List Event → ℕ → List ℕ
touched_after o es number = filter (λ node. nat_lt number (last_touch o es node)) (range_with_len 1 (node_count o.shape.l))

-- Done: of an arrival under way, with the nodes of its path that the proxy doesn't hold, each in form and of its latest version
pub record MayBeDone (o : Opening) (es : List Event) (arrival : ℕ) (taken : List Bucket) : Type 0 where
  pub arrived : arrival < arrived es
  pub under_way : is_done es arrival ≡ false
  pub nodes : nodes_in taken ≡ away_on_path o es arrival
  pub in_form : All (IsInForm o.shape) taken
  pub versions : All (λ bucket. bucket.version ≡ newest_version es bucket.node) taken

-- Issue: the next version, right after its Done, with the nodes touched since the last one, and with consecutive nonces
pub record MayBeIssued (o : Opening) (es : List Event) (version start : ℕ) (buckets : List Bucket) : Type 0 where
  pub next : version ≡ issues es + 1
  pub due : dones es ≡ version * o.shape.k
  pub nodes : nodes_in buckets ≡ touched_after o es (issues es * o.shape.k)
  pub in_form : All (IsInForm o.shape) buckets
  pub versions : All (λ bucket. bucket.version ≡ version) buckets
  pub counts_on : start ≡ node_count o.shape.l + 1 + buckets_issued es
  pub nonces : map (λ bucket. bucket.nonce) buckets ≡ range_with_len start (length buckets)

-- no write-back is due: the next period isn't full yet
abbrev pub OwesNone : Opening → List Event → Type 0
OwesNone o es = dones es < (issues es + 1) * o.shape.k

-- This event may come next. Nothing follows a Fault, and a Done that fills a period is followed by its write-back.
abbrev pub MayFollow : Opening → List Event → Event → Type 0
MayFollow o es (Arrive client op word) = OwesNone o es × (arrived es < session_limit o.shape) × (client < 64) × IsInRange o.shape op
MayFollow o es (Done arrival taken) = OwesNone o es × MayBeDone o es arrival taken
MayFollow o es (Issue version nonce buckets) = MayBeIssued o es version nonce buckets
MayFollow o es (Acked version) = OwesNone o es × (0 < version) × (version ≤ issues es) × (is_acked es version ≡ false)
MayFollow o es (Fault cause) = OwesNone o es × MayFail o es cause

-- each event may follow those before it
abbrev pub FollowsLawfully : Opening → List Event → Type 0
FollowsLawfully o [] = IsOpening o
FollowsLawfully o (e ∷ es) = FollowsLawfully o es × (has_fault es ≡ false) × MayFollow o es e

-- a lawful record: it opens with the load, follows lawfully, and doesn't end with a write-back due
pub record IsLawful (h : History) : Type 0 where
  pub opens : OpensWithLoad h.opening
  pub follows : FollowsLawfully h.opening (reverse h.events)
  pub owes : OwesNone h.opening (reverse h.events)
