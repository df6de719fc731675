-- One more event: how each look-back function changes. The events before it, `es`, are newest first.
use Rattle.std.specs.Prelude.{◌≡◌, ℕ, ◌+◌, ◌<◌, ◌≤◌, ◌==◌, true, false, not, ◌&&◌, ◌||◌, if◌then◌else◌, List, [], ◌∷◌, ◌++◌, reverse, is_some}
use Rattle.std.specs.Option.{option_or}
use Rattle.tao_base.specs.declared.calls.Op.{Op}
use Rattle.tao_base.specs.declared.calls.Op.TheVariants.{Pad}
use Rattle.tao_base.specs.declared.session.Cause.{Cause}
use Rattle.tao_base.specs.declared.session.Event.{Event}
use Rattle.tao_base.specs.declared.session.Event.TheVariants.{Arrive, Done, Issue, Acked, Fault}
use Rattle.tao_base.specs.declared.storage.Bucket.{Bucket}
use Rattle.tao_base.specs.Session.{Opening}
use Rattle.tao_base.specs.Tree.{leaf_of}
use Rattle.tao_base.specs.Array.{array_step, array_reply}
use Rattle.tao_model.specs.Events.{arrived, dones, issues, is_on, is_pad_op, names, word_of}
use Rattle.tao_model.specs.Requests.{is_real, real_now, settler, is_settled, next_word, word_for, word_used, leaf_at, fetched_leaf, fetches, position}
use Rattle.tao_model.specs.Replies.{array_now, plain_reply, released}
use Rattle.tao_model.specs.Residence.{last_touch, is_resident, departs, newest_write, newest_version, bucket_of}
use Rattle.tao_model.specs.Lawful.{FollowsLawfully}

-- the held nodes, the latest versions and the touches are unchanged
pub record SameNodes (o : Opening) (before now : List Event) : Type 0 where
  pub touch : (node : ℕ) → last_touch o now node ≡ last_touch o before node
  pub resident : (node : ℕ) → is_resident o now node ≡ is_resident o before node
  pub written : (node : ℕ) → newest_write o now node ≡ newest_write o before node
  pub newest : (node : ℕ) → newest_version now node ≡ newest_version before node

-- the same arrivals are settled
abbrev pub SameSettled : List Event → List Event → Type 0
SameSettled before now = (i : ℕ) → i < arrived before → is_settled now i ≡ is_settled before i

-- the position map is unchanged
abbrev pub SamePositions : Opening → List Event → List Event → Type 0
SamePositions o before now = (block : ℕ) → block < o.shape.n → position o now block ≡ position o before block

-- An arrival is real if no real one on its block is under way, and uses its block's next word. A fake one uses its own.
pub record AfterArrive (o : Opening) (es now : List Event) (op : Op) (word : ℕ) : Type 0 where
  pub real : is_real now (arrived es) ≡ real_now es op
  pub used : word_used o now (arrived es) ≡ word_for (next_word o es) (o.shape.n + arrived es) (real_now es op) op
  pub leaf_of_block : (block : ℕ) → names block op ≡ true → real_now es op ≡ true → fetched_leaf o now (arrived es) ≡ leaf_at o es (next_word o es block)
  pub leaf_of_word : real_now es op ≡ false → fetched_leaf o now (arrived es) ≡ leaf_of o.shape.l word
  pub reply : plain_reply o now (arrived es) ≡ array_reply (array_now o es) op
  pub array : array_now o now ≡ array_step (array_now o es) op
  pub released : released now ≡ released es
  pub settled : SameSettled es now
  pub nodes : SameNodes o es now
  pub positions : SamePositions o es now

-- A Done touches the nodes of its path and brings them in, and settles those that waited for it.
-- A real one gives its block the position of its own word.
pub record AfterDone (o : Opening) (es now : List Event) (arrival : ℕ) : Type 0 where
  pub touch : (node : ℕ) → last_touch o now node ≡ (if fetches o es arrival node then dones es + 1 else last_touch o es node)
  pub resident : (node : ℕ) → is_resident o now node ≡ (is_resident o es node || fetches o es arrival node)
  pub written : (node : ℕ) → newest_write o now node ≡ newest_write o es node
  pub newest : (node : ℕ) → newest_version now node ≡ newest_version es node
  pub settled : (i : ℕ) → is_settled now i ≡ (is_settled es i || settler es i == arrival)
  pub moved : (block : ℕ) → is_real es arrival ≡ true → is_on es arrival block ≡ true → position o now block ≡ leaf_of o.shape.l (word_of es arrival)
  pub kept : (block : ℕ) → block < o.shape.n → (is_real es arrival && is_on es arrival block) ≡ false → position o now block ≡ position o es block
  pub released : released es ≤ released now

-- A write-back's buckets become the latest versions of their nodes.
pub record AfterIssue (o : Opening) (es now : List Event) (buckets : List Bucket) : Type 0 where
  pub touch : (node : ℕ) → last_touch o now node ≡ last_touch o es node
  pub resident : (node : ℕ) → is_resident o now node ≡ is_resident o es node
  pub written : (node : ℕ) → newest_write o now node ≡ option_or (bucket_of node buckets) (newest_write o es node)
  pub newest : (node : ℕ) → newest_version now node ≡ (if is_some (bucket_of node buckets) then issues es + 1 else newest_version es node)
  pub settled : SameSettled es now
  pub positions : SamePositions o es now
  pub released : released now ≡ released es

-- An acknowledgement lets nodes go.
pub record AfterAcked (o : Opening) (es now : List Event) (version : ℕ) : Type 0 where
  pub touch : (node : ℕ) → last_touch o now node ≡ last_touch o es node
  pub resident : (node : ℕ) → is_resident o now node ≡ (is_resident o es node && not (departs o es version node))
  pub written : (node : ℕ) → newest_write o now node ≡ newest_write o es node
  pub newest : (node : ℕ) → newest_version now node ≡ newest_version es node
  pub settled : SameSettled es now
  pub positions : SamePositions o es now
  pub released : released now ≡ released es

-- A Fault leaves nodes, positions and the released count unchanged.
pub record AfterFault (o : Opening) (es now : List Event) : Type 0 where
  pub nodes : SameNodes o es now
  pub settled : SameSettled es now
  pub positions : SamePositions o es now
  pub released : released now ≡ released es

-- a record with one more event, newest first
abbrev pub with_one_more : List Event → Event → List Event
with_one_more events e = reverse (events ++ e ∷ [])

-- if a record with one more arrival follows lawfully, `AfterArrive` holds
abbrev pub OneMoreArrive : Type 0
OneMoreArrive = (o : Opening) (events : List Event) (client : ℕ) (op : Op) (word : ℕ) → FollowsLawfully o (with_one_more events (Arrive client op word))
    → AfterArrive o (reverse events) (with_one_more events (Arrive client op word)) op word

-- the same for one more Done
abbrev pub OneMoreDone : Type 0
OneMoreDone = (o : Opening) (events : List Event) (arrival : ℕ) (taken : List Bucket) → FollowsLawfully o (with_one_more events (Done arrival taken))
    → AfterDone o (reverse events) (with_one_more events (Done arrival taken)) arrival

-- the same for one more write-back
abbrev pub OneMoreIssue : Type 0
OneMoreIssue = (o : Opening) (events : List Event) (version nonce : ℕ) (buckets : List Bucket) → FollowsLawfully o (with_one_more events (Issue version nonce buckets))
    → AfterIssue o (reverse events) (with_one_more events (Issue version nonce buckets)) buckets

-- the same for one more acknowledgement
abbrev pub OneMoreAcked : Type 0
OneMoreAcked = (o : Opening) (events : List Event) (version : ℕ) → FollowsLawfully o (with_one_more events (Acked version))
    → AfterAcked o (reverse events) (with_one_more events (Acked version)) version

-- the same for one more Fault
abbrev pub OneMoreFault : Type 0
OneMoreFault = (o : Opening) (events : List Event) (cause : Cause) → FollowsLawfully o (with_one_more events (Fault cause))
    → AfterFault o (reverse events) (with_one_more events (Fault cause))

-- a pad is on no block and never real
abbrev pub PadsAreFake : Type 0
PadsAreFake = (events : List Event) (client word : ℕ) → is_real (with_one_more events (Arrive client Pad word)) (arrived (reverse events)) ≡ false

-- a new arrival is settled at once exactly if it is a pad
abbrev pub PadsAreSettled : Type 0
PadsAreSettled = (o : Opening) (events : List Event) (client : ℕ) (op : Op) (word : ℕ) → FollowsLawfully o (with_one_more events (Arrive client op word))
    → is_settled (with_one_more events (Arrive client op word)) (arrived (reverse events)) ≡ is_pad_op op
