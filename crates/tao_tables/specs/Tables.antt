-- The tables that a proxy keeps, as functions of the record, and how one more event changes them. A record's events are oldest first.
use Rattle.std.specs.Prelude.{◌≡◌, ℕ, ◌+◌, ◌-◌, ◌*◌, ◌<◌, ◌≤◌, ◌==◌, nat_lt, Bool, true, false, not, ◌&&◌, ◌||◌, if◌then◌else◌, List, [], ◌∷◌, reverse, is_some}
use Rattle.tao_base.specs.declared.calls.Op.{Op}
use Rattle.tao_base.specs.declared.session.Cause.{Cause}
use Rattle.tao_base.specs.declared.session.Event.{Event}
use Rattle.tao_base.specs.declared.session.Event.TheVariants.{Arrive, Done, Issue, Acked, Fault}
use Rattle.tao_base.specs.declared.storage.Bucket.{Bucket}
use Rattle.tao_base.specs.declared.storage.Entry.{Entry}
use Rattle.tao_base.specs.Session.{Opening}
use Rattle.tao_base.specs.Tree.{is_on_path}
use Rattle.tao_model.specs.Events.{arrived, dones, is_done}
use Rattle.tao_model.specs.Requests.{is_real, fetches, leaf_at, fetched_leaf, position}
use Rattle.tao_model.specs.Residence.{last_touch, bucket_of, is_issued, is_resident, newest_version}
use Rattle.tao_model.specs.Placement.{entries_at}
use Rattle.tao_model.specs.Evictions.{load_contents}
use Rattle.tao_model.specs.Lawful.{FollowsLawfully}
use Rattle.tao_model.specs.OneMore.{with_one_more}
use Rattle.tao_held.specs.Steps.{take_in, found_copy, value_or_zeros}
use Rattle.tao_held.specs.Held.{held, after_fetch, block_on, value_since}
use Rattle.tao_held.specs.HeldLaws.{AreIdsBelow}
use Rattle.tao_laws.specs.Counted.{count_below}

-- how many fetches under way have the node on their path
abbrev pub cover_count : Opening → List Event → ℕ → ℕ
cover_count o es w = count_below (λ i. not (is_done es i) && fetches o es i w) (arrived es)

-- The tables of a record: which nodes are held, what each has, how many fetches cover it, its last touch and its latest version.
pub record TellsNodes (o : Opening) (es : List Event) (r : ℕ → Bool) (c : ℕ → List Entry) (n t v : ℕ → ℕ) : Type 0 where
  pub residents : (w : ℕ) → r w ≡ is_resident o es w
  pub contents : (w : ℕ) → c w ≡ held o es w
  pub counts : (w : ℕ) → n w ≡ cover_count o es w
  pub touches : (w : ℕ) → t w ≡ last_touch o es w
  pub versions : (w : ℕ) → v w ≡ newest_version es w

-- an arrival covers its path
abbrev pub TellsArrive : Type 0
TellsArrive = (o : Opening) (events : List Event) (client : ℕ) (op : Op) (word : ℕ) (r : ℕ → Bool) (c : ℕ → List Entry) (n n' t v : ℕ → ℕ)
    → TellsNodes o (reverse events) r c n t v → FollowsLawfully o (with_one_more events (Arrive client op word))
    → ((w : ℕ) → n' w ≡ (if is_on_path o.shape.l (fetched_leaf o (with_one_more events (Arrive client op word)) (arrived (reverse events))) w then n w + 1 else n w))
    → TellsNodes o (with_one_more events (Arrive client op word)) r c n' t v

-- how a Done changes the tables: its path is held, with its contents after the fetch, covered once less, and touched
pub record MovesTables (o : Opening) (es : List Event) (i : ℕ) (taken : List Bucket) (leaf : ℕ → ℕ) (x : List ℕ) (r r' : ℕ → Bool) (c c' : ℕ → List Entry) (n n' t t' : ℕ → ℕ) : Type 0 where
  pub positions : (b : ℕ) → b < o.shape.n → leaf b ≡ position o (Done i taken ∷ es) b
  pub found : is_real es i ≡ true → x ≡ value_since es (block_on es i) i (value_or_zeros o.shape
      (found_copy o.shape.l (fetched_leaf o es i) (take_in o.shape.l (fetched_leaf o es i) r (entries_at taken) c) (block_on es i)))
  pub residents : (w : ℕ) → r' w ≡ (r w || is_on_path o.shape.l (fetched_leaf o es i) w)
  pub contents : (w : ℕ) → c' w ≡ after_fetch (is_real es i) o.shape (fetched_leaf o es i) leaf r (entries_at taken) c (block_on es i) x w
  pub counts : (w : ℕ) → n' w ≡ (if is_on_path o.shape.l (fetched_leaf o es i) w then n w - 1 else n w)
  pub touches : (w : ℕ) → t' w ≡ (if is_on_path o.shape.l (fetched_leaf o es i) w then dones es + 1 else t w)

-- they are then the tables of the record with the Done
abbrev pub TellsDone : Type 0
TellsDone = (o : Opening) (events : List Event) (i : ℕ) (taken : List Bucket) (leaf : ℕ → ℕ) (x : List ℕ) (r r' : ℕ → Bool) (c c' : ℕ → List Entry) (n n' t t' v : ℕ → ℕ)
    → TellsNodes o (reverse events) r c n t v → FollowsLawfully o (with_one_more events (Done i taken)) → AreIdsBelow o.shape.n c
    → MovesTables o (reverse events) i taken leaf x r r' c c' n n' t t'
    → TellsNodes o (with_one_more events (Done i taken)) r' c' n' t' v

-- a write-back gives its nodes its version
abbrev pub TellsIssue : Type 0
TellsIssue = (o : Opening) (events : List Event) (version nonce : ℕ) (buckets : List Bucket) (r : ℕ → Bool) (c : ℕ → List Entry) (n t v v' : ℕ → ℕ)
    → TellsNodes o (reverse events) r c n t v → ((w : ℕ) → v' w ≡ (if is_some (bucket_of w buckets) then version else v w))
    → TellsNodes o (with_one_more events (Issue version nonce buckets)) r c n t v'

-- an acknowledgement drops those of its nodes that were not touched since and that no fetch covers
abbrev pub TellsAcked : Type 0
TellsAcked = (o : Opening) (events : List Event) (version : ℕ) (issued : ℕ → Bool) (r r' : ℕ → Bool) (c c' : ℕ → List Entry) (n t v : ℕ → ℕ)
    → TellsNodes o (reverse events) r c n t v → ((w : ℕ) → issued w ≡ is_issued (reverse events) version w)
    → ((w : ℕ) → r' w ≡ (r w && not (issued w && (not (nat_lt (version * o.shape.k) (t w)) && (n w == 0)))))
    → ((w : ℕ) → c' w ≡ (if w == 0 || r' w then c w else []))
    → TellsNodes o (with_one_more events (Acked version)) r' c' n t v

-- a Fault changes nothing
abbrev pub TellsFault : Type 0
TellsFault = (o : Opening) (events : List Event) (cause : Cause) (r : ℕ → Bool) (c : ℕ → List Entry) (n t v : ℕ → ℕ)
    → TellsNodes o (reverse events) r c n t v → TellsNodes o (with_one_more events (Fault cause)) r c n t v

-- at the start no node is held, and nothing was touched or written; the stash has what the load left
abbrev pub TellsStart : Type 0
TellsStart = (o : Opening) (stash : List Entry) (r : ℕ → Bool) (c : ℕ → List Entry) (n t v : ℕ → ℕ) → stash ≡ load_contents o.shape (λ block. leaf_at o [] block) o.first 0
    → ((w : ℕ) → r w ≡ false) → ((w : ℕ) → c w ≡ (if w == 0 then stash else [])) → ((w : ℕ) → n w ≡ 0) → ((w : ℕ) → t w ≡ 0) → ((w : ℕ) → v w ≡ 0)
    → TellsNodes o [] r c n t v

-- how many fetches cover a node: no more than there are arrivals, and at least one if one under way has it on its path
pub record CoverBounds (o : Opening) (es : List Event) (w : ℕ) : Type 0 where
  pub few : cover_count o es w ≤ arrived es
  pub some : (i : ℕ) → i < arrived es → is_done es i ≡ false → fetches o es i w ≡ true → 0 < cover_count o es w

-- this holds in any record
abbrev pub CoverIsBounded : Type 0
CoverIsBounded = (o : Opening) (events : List Event) (w : ℕ) → CoverBounds o (reverse events) w
