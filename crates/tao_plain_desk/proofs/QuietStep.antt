-- One whole operation keeps the desk quiet. The events are newest first.
use Rattle.std.proofs.Common.{◌≡◌, ℕ, zero, suc, ◌+◌, ◌*◌, ◌^◌, ◌<◌, ◌≤◌, Bool, true, false, not, ◌&&◌, ◌||◌, cond, List, [], ◌∷◌, length, map, filter, All, Option, Some, None, IfSome, refl, sym, ap, ap₂, ◌∙◌, subst, arith, inl, inr, ◌⊎◌, nat_eq, nat_lt, slice_index_or}
use Rattle.std.specs.Prelude.{is_some}
use Rattle.std.specs.List.{list_any}
use Rattle.std.specs.Option.{option_or}
use Rattle.std.proofs.lemmas.Bool.{ne_eqb, eq-eqb, cases_eq, lt-ltb, le-ltb}
use Rattle.std.proofs.lemmas.List.{length-map}
use Rattle.std.proofs.lemmas.List.FromFn.{length-map-range_with_len}
use Rattle.std.proofs.lemmas.Nat.{pow_pos}
use Rattle.std.proofs.lemmas.List.Elements.{All-cons, All-tail, All-map}
use Rattle.tao_base.specs.declared.calls.Op.{Op}
use Rattle.tao_base.specs.declared.session.Event.{Event}
use Rattle.tao_base.specs.declared.session.Event.TheVariants.{Arrive, Done, Issue}
use Rattle.tao_base.specs.declared.storage.Bucket.{Bucket}
use Rattle.tao_base.specs.Limits.{Shape}
use Rattle.tao_base.specs.Session.{Opening}
use Rattle.tao_base.specs.Tree.{node_at, node_count, path, is_on_path}
use Rattle.tao_model.specs.Events.{arrived, dones, issues, is_done}
use Rattle.tao_model.specs.Requests.{any_below, fetches, fetched_leaf}
use Rattle.tao_model.specs.Residence.{last_touch, is_covered, departs, is_resident, bucket_of, newest_write, newest_version, HasEntriesOf}
use Rattle.tao_base.specs.Buckets.{IsInForm}
use Rattle.tao_model.specs.Lawful.{FollowsLawfully, MayBeDone, MayBeIssued}
use Rattle.tao_model.specs.Trace.{nodes_in}
use Rattle.tao_model.proofs.Places.{done_arrived}
use Rattle.tao_plain_desk.specs.Quiet.{IsServed, IsQuiet, four, AreStamped, Stores, MayPlay, QuietStep}
use Rattle.tao_plain_desk.proofs.PathList.{Climbs, path_climbs, path_filter, filter_same}

-- ---- lists of buckets

-- all numbers of a rising list, from its bounds
pub all_between : (P : ℕ → Type 0) (a b : ℕ) (xs : List ℕ) → Climbs a b xs → ((x : ℕ) → a ≤ x → x < b → P x) → All P xs
all_between P a b [] h each = λ k d high. absurd (omega arith)
all_between P a b (x ∷ xs) h each =
    All-cons P x xs (each x h.0 (above xs (x + 1) h.1 (omega arith))) (all_between P (x + 1) b xs h.1 (λ y low high. let le = h.0 in each y (omega arith) high))
  where
    above : (xs : List ℕ) (y : ℕ) → Climbs y b xs → x < y → x < b
    above [] y h less = omega arith
    above (z ∷ zs) y h less = above zs (z + 1) h.1 (let low = h.0 in omega arith)

filter_all : (f : ℕ → Bool) (xs : List ℕ) → ((x : ℕ) → f x ≡ true) → filter f xs ≡ xs
filter_all f [] each = refl
filter_all f (x ∷ xs) each = rw (each x) (ap (λ ys. x ∷ ys) (filter_all f xs each))

pub nodes_map : (server : ℕ → Bucket) (xs : List ℕ) → All (λ w. (server w).node ≡ w) xs → nodes_in (map server xs) ≡ xs
nodes_map server [] each = refl
nodes_map server (x ∷ xs) each = ap₂ (λ y ys. y ∷ ys) (each 0 x (omega arith)) (nodes_map server xs (All-tail (λ w. (server w).node ≡ w) x xs each))

all_both : {X : Type 0} (P Q R : X → Type 0) (xs : List X) → ((x : X) → P x → Q x → R x) → All P xs → All Q xs → All R xs
all_both P Q R xs each p q = λ k d high. each (slice_index_or xs k d) (p k d high) (q k d high)

pub all_nodes : (P : ℕ → Type 0) (buckets : List Bucket) → All P (nodes_in buckets) → All (λ bucket. P bucket.node) buckets
all_nodes P [] each = λ k d high. absurd (omega arith)
all_nodes P (x ∷ xs) each =
    All-cons (λ bucket. P bucket.node) x xs (each 0 x.node (omega arith)) (all_nodes P xs (All-tail P x.node (nodes_in xs) each))

-- a bucket is found where its node is among the nodes
found_has : (w : ℕ) (buckets : List Bucket) → is_some (bucket_of w buckets) ≡ list_any (nat_eq w) (nodes_in buckets)
found_has w [] = refl
found_has w (x ∷ xs) = either (cases_eq x.node w) (found_has w xs)
  where
    either : (x.node ≡ w) ⊎ (x.node ≡ w → ⊥) → is_some (bucket_of w xs) ≡ list_any (nat_eq w) (nodes_in xs)
        → is_some (bucket_of w (x ∷ xs)) ≡ list_any (nat_eq w) (nodes_in (x ∷ xs))
    either (inl same) rest = rw (eq-eqb x.node w same, eq-eqb w x.node (sym same)) refl
    either (inr other) rest = rw (ne_eqb x.node w other, ne_eqb w x.node (λ same. other (sym same))) rest

-- what is found has what all have, and is of the node
found_all : (P : Bucket → Type 0) (w : ℕ) (buckets : List Bucket) → All P buckets → IfSome (bucket_of w buckets) (λ x. (x.node ≡ w) × P x)
found_all P w [] each = tt
found_all P w (x ∷ xs) each = either (cases_eq x.node w) (found_all P w xs (All-tail P x xs each))
  where
    either : (x.node ≡ w) ⊎ (x.node ≡ w → ⊥) → IfSome (bucket_of w xs) (λ y. (y.node ≡ w) × P y) → IfSome (bucket_of w (x ∷ xs)) (λ y. (y.node ≡ w) × P y)
    either (inl same) rest = rw (eq-eqb x.node w same) (same, each 0 x (omega arith))
    either (inr other) rest = rw (ne_eqb x.node w other) rest

empty_in_form : (s : Shape) (bucket : Bucket) → 1 ≤ bucket.node → bucket.node < 1 + node_count s.l → bucket.entries ≡ [] → IsInForm s bucket
empty_in_form s bucket low high empty = record {
  low = low;
  high = omega arith;
  entries = record {
    few = rw empty (omega arith);
    rising = rw empty tt;
    ids = rw empty (λ k d high. absurd (omega arith));
    values = rw empty (λ k d high. absurd (omega arith));
  };
}

pub none_below : (f : ℕ → Bool) (n : ℕ) → ((i : ℕ) → i < n → f i ≡ false) → any_below f n ≡ false
none_below f zero each = refl
none_below f (suc n) each = rw (each n (omega arith)) (none_below f n (λ i h. each i (omega arith)))

served_from : (n w : ℕ) (old new : Bucket) (found : Option Bucket) → Some new ≡ option_or found (Some old)
    → IfSome found (λ x. (x.node ≡ w) × ((x.version ≡ n) × (x.entries ≡ []))) → old.node ≡ w → old.entries ≡ []
    → (cond (is_some found) n old.version ≡ new.version) × ((new.node ≡ w) × (new.entries ≡ []))
served_from n w old new None is facts node empty = let same : new ≡ old = cc in (ap (λ x. x.version) (sym same), (ap (λ x. x.node) same ∙ node, ap (λ x. x.entries) same ∙ empty))
served_from n w old new (Some x) is facts node empty =
    let same : new ≡ x = cc in (sym (ap (λ y. y.version) same ∙ facts.1.0), (ap (λ y. y.node) same ∙ facts.0, ap (λ y. y.entries) same ∙ facts.1.1))

gone : (held departs : Bool) → (held ≡ true → departs ≡ true) → (held && not departs) ≡ false
gone true departs h = rw (h refl) refl
gone false departs h = refl

-- ---- the step

module _ (o : Opening) (es : List Event) (server new : ℕ → Bucket) (client : ℕ) (op : Op) (word leaf nonce : ℕ) (buckets : List Bucket)
    (q : IsQuiet o es (arrived es) server) (m : MayPlay o (arrived es) client op) (is_leaf : leaf ≡ fetched_leaf o (Arrive client op word ∷ es) (arrived es))
    (is_nonce : nonce ≡ node_count o.shape.l + 1 + arrived es * (o.shape.l + 1)) (stamped : AreStamped (path o.shape.l leaf) (arrived es + 1) nonce buckets)
    (stores : Stores (node_count o.shape.l) buckets server new) where
  abbrev after_arrive : List Event
  after_arrive = Arrive client op word ∷ es

  abbrev after_done : List Event
  after_done = Done (arrived es) (map server (path o.shape.l leaf)) ∷ after_arrive

  abbrev after_issue : List Event
  after_issue = Issue (arrived es + 1) nonce buckets ∷ after_done

  small : leaf < 2 ^ o.shape.l
  small = let some = pow_pos o.shape.l in rw is_leaf (omega arith)

  fetches_path : (w : ℕ) → fetches o after_arrive (arrived es) w ≡ is_on_path o.shape.l leaf w
  fetches_path w = ap (λ x. is_on_path o.shape.l x w) (sym is_leaf)

  -- what holds of each node of the tree holds along the path
  along : (P : ℕ → Type 0) → ((w : ℕ) → 1 ≤ w → w < 1 + node_count o.shape.l → P w) → All P (path o.shape.l leaf)
  along P each = all_between P 1 (1 + node_count o.shape.l) (path o.shape.l leaf) (path_climbs o.shape.l leaf small) each

  taken_all : (P : Bucket → Type 0) → ((w : ℕ) → 1 ≤ w → w < 1 + node_count o.shape.l → P (server w)) → All P (map server (path o.shape.l leaf))
  taken_all P each = All-map P server (path o.shape.l leaf) (along (λ w. P (server w)) each)

  taken_nodes : nodes_in (map server (path o.shape.l leaf)) ≡ path o.shape.l leaf
  taken_nodes = nodes_map server (path o.shape.l leaf) (along (λ w. (server w).node ≡ w) (λ w low high. (q.served w low (omega arith)).node))

  all_away : filter (λ node. not (is_resident o after_arrive node)) (path o.shape.l leaf) ≡ path o.shape.l leaf
  all_away = filter_all (λ node. not (is_resident o after_arrive node)) (path o.shape.l leaf) (λ w. rw (q.away w) refl)

  may_be_done : MayBeDone o after_arrive (arrived es) (map server (path o.shape.l leaf))
  may_be_done = record {
    arrived = omega arith;
    under_way = done_arrived o es (arrived es) q.follows (omega arith);
    nodes = taken_nodes ∙ sym all_away ∙ ap (λ x. filter (λ node. not (is_resident o after_arrive node)) (path o.shape.l x)) is_leaf;
    in_form = taken_all (IsInForm o.shape) (λ w low high.
        let s = q.served w low (omega arith) in let at : (server w).node ≡ w = s.node in empty_in_form o.shape (server w) (omega arith) (omega arith) s.empty);
    versions = taken_all (λ bucket. bucket.version ≡ newest_version after_arrive bucket.node) (λ w low high.
        let s = q.served w low (omega arith) in sym s.version ∙ ap (newest_version es) (sym s.node));
  }

  touch_done : (w : ℕ) → last_touch o after_done w ≡ cond (is_on_path o.shape.l leaf w) (dones es + 1) (last_touch o es w)
  touch_done w = rw (fetches_path w) refl

  touched : (w : ℕ) → is_on_path o.shape.l leaf w ≡ nat_lt (issues es * o.shape.k) (last_touch o after_done w)
  touched w = rw (touch_done w) (either (is_on_path o.shape.l leaf w))
    where
      either : (b : Bool) → b ≡ nat_lt (issues es * o.shape.k) (cond b (dones es + 1) (last_touch o es w))
      either true = let d = q.dones in let i = q.issues in let k : issues es * o.shape.k ≡ issues es = rw q.once (omega arith) in sym (lt-ltb (issues es * o.shape.k) (dones es + 1) (omega arith))
      either false = let i = q.issues in let t = q.touch w in let k : issues es * o.shape.k ≡ issues es = rw q.once (omega arith) in sym (le-ltb (issues es * o.shape.k) (last_touch o es w) (omega arith))

  may_be_issued : MayBeIssued o after_done (arrived es + 1) nonce buckets
  may_be_issued = record {
    next = let i = q.issues in omega arith;
    due = let d = q.dones in rw q.once (omega arith);
    nodes = stamped.nodes ∙ sym (path_filter o.shape.l leaf small)
        ∙ filter_same (λ w. is_on_path o.shape.l leaf w) (λ w. nat_lt (issues es * o.shape.k) (last_touch o after_done w)) 1 (node_count o.shape.l) (λ w low. touched w);
    in_form = all_both (λ bucket. (1 ≤ bucket.node) × (bucket.node < 1 + node_count o.shape.l)) (λ bucket. bucket.entries ≡ []) (IsInForm o.shape) buckets
        (λ bucket bounds empty. empty_in_form o.shape bucket bounds.0 bounds.1 empty)
        (all_nodes (λ w. (1 ≤ w) × (w < 1 + node_count o.shape.l)) buckets
        (subst (All (λ w. (1 ≤ w) × (w < 1 + node_count o.shape.l))) (sym stamped.nodes) (along (λ w. (1 ≤ w) × (w < 1 + node_count o.shape.l)) (λ w low high. (low, high)))))
        stamped.empty;
    versions = stamped.versions;
    counts_on = is_nonce ∙ ap (λ n. node_count o.shape.l + 1 + n) (sym q.buckets);
    nonces = stamped.nonces;
  }

  follows_four : FollowsLawfully o (four es client op word (map server (path o.shape.l leaf)) nonce buckets)
  follows_four =
      let d = q.dones in let i = q.issues in
      let owes : dones es < (issues es + 1) * o.shape.k = rw q.once (omega arith) in
      let owes_more : dones es + 1 < (issues es + 1 + 1) * o.shape.k = rw q.once (omega arith) in (
        (((q.follows, q.fault, (owes, m.room, m.client, m.range)), q.fault, (owes, may_be_done)), q.fault, may_be_issued),
        q.fault,
        (owes_more, omega arith, omega arith, q.acked (arrived es + 1) (omega arith)),
      )

  done_four : (i : ℕ) → i < arrived es + 1 → is_done after_issue i ≡ true
  done_four i h = either (cases_eq (arrived es) i)
    where
      either : (arrived es ≡ i) ⊎ (arrived es ≡ i → ⊥) → (nat_eq (arrived es) i || is_done es i) ≡ true
      either (inl same) = rw (eq-eqb (arrived es) i same) refl
      either (inr other) = rw (ne_eqb (arrived es) i other) (q.all_done i (omega (arith, other)))

  on_path_departs : (w : ℕ) → is_on_path o.shape.l leaf w ≡ true → departs o after_issue (arrived es + 1) w ≡ true
  on_path_departs w on =
      let issued : is_some (bucket_of w buckets) ≡ true = found_has w buckets ∙ ap (list_any (nat_eq w)) stamped.nodes ∙ on in
      let d = q.dones in
      let touch : last_touch o after_done w ≡ dones es + 1 = touch_done w ∙ ap (λ b. cond b (dones es + 1) (last_touch o es w)) on in
      let late : nat_lt ((arrived es + 1) * o.shape.k) (dones es + 1) ≡ false = rw q.once (le-ltb ((arrived es + 1) * 1) (dones es + 1) (omega arith)) in
      let covered : is_covered o after_issue w ≡ false =
      none_below (λ i. not (is_done after_issue i) && fetches o after_issue i w) (arrived es + 1) (λ i h. rw (done_four i h) refl)
      in
      rw (eq-eqb (arrived es + 1) (arrived es + 1) refl, issued, touch, late, covered) refl

  resident_done : (w : ℕ) → is_resident o after_done w ≡ is_on_path o.shape.l leaf w
  resident_done w = rw (q.away w) (fetches_path w)

  away_four : (w : ℕ) → (is_resident o after_done w && not (departs o after_issue (arrived es + 1) w)) ≡ false
  away_four w = gone (is_resident o after_done w) (departs o after_issue (arrived es + 1) w) (λ held. on_path_departs w (sym (resident_done w) ∙ held))

  served_four : (w : ℕ) → 1 ≤ w → w ≤ node_count o.shape.l → IsServed o (four es client op word (map server (path o.shape.l leaf)) nonce buckets) w (new w)
  served_four w low high =
      let s = q.served w low high in
      let facts = served_from (arrived es + 1) w (server w) (new w) (bucket_of w buckets) (stores w low high)
      (found_all (λ x. (x.version ≡ arrived es + 1) × (x.entries ≡ [])) w buckets
      (all_both (λ x. x.version ≡ arrived es + 1) (λ x. x.entries ≡ []) (λ x. (x.version ≡ arrived es + 1) × (x.entries ≡ [])) buckets (λ x v e. (v, e)) stamped.versions stamped.empty))
      s.node s.empty in
      record {
        written = ap (option_or (bucket_of w buckets)) s.written ∙ sym (stores w low high);
        version = ap (cond (is_some (bucket_of w buckets)) (arrived es + 1)) s.version ∙ facts.0;
        node = facts.1.0;
        empty = facts.1.1;
      }

  quiet_four : IsQuiet o (four es client op word (map server (path o.shape.l leaf)) nonce buckets) (arrived es + 1) new
  quiet_four = record {
    follows = follows_four;
    once = q.once;
    fault = q.fault;
    arrived = refl;
    dones = let d = q.dones in omega arith;
    issues = let i = q.issues in omega arith;
    all_done = done_four;
    acked = λ v h. rw (ne_eqb (arrived es + 1) v (λ same. omega arith)) (q.acked v (omega arith));
    buckets =
        let len : length buckets ≡ o.shape.l + 1 = sym (length-map buckets (λ bucket. bucket.node)) ∙ ap length stamped.nodes ∙ length-map-range_with_len (node_at o.shape.l leaf) 0 (o.shape.l + 1) in
        let b = q.buckets in omega arith;
    away = away_four;
    touch = λ w. rw (touch_done w) (touch_either (is_on_path o.shape.l leaf w) w);
    unaltered = (
      q.unaltered,
      taken_all (λ bucket. IfSome (newest_write o after_arrive bucket.node) (HasEntriesOf bucket)) (λ w low high.
          let s = q.served w low (omega arith) in rw (s.node, s.written) refl),
    );
    served = served_four;
  }
    where
      touch_either : (b : Bool) (w : ℕ) → cond b (dones es + 1) (last_touch o es w) ≤ arrived es + 1
      touch_either true w = let d = q.dones in omega arith
      touch_either false w = let t = q.touch w in omega arith

pub quiet_step : QuietStep
quiet_step o es n server new client op word leaf nonce buckets q =
    subst (λ k. IsQuiet o es k server → MayPlay o k client op → leaf ≡ fetched_leaf o (Arrive client op word ∷ es) k
    → nonce ≡ node_count o.shape.l + 1 + k * (o.shape.l + 1) → AreStamped (path o.shape.l leaf) (k + 1) nonce buckets
    → Stores (node_count o.shape.l) buckets server new
    → IsQuiet o (four es client op word (map server (path o.shape.l leaf)) nonce buckets) (k + 1) new)
    q.arrived (quiet_four o es server new client op word leaf nonce buckets) q
