-- What a proxy keeps of its write-backs, under one more event. The events `es` are newest first.
use Rattle.std.proofs.Common.{◌≡◌, ℕ, zero, suc, ◌+◌, ◌-◌, ◌*◌, ◌<◌, ◌≤◌, Bool, true, false, ◌&&◌, ◌||◌, cond, List, [], ◌∷◌, ◌++◌, filter, reverse, length, get_or, refl, sym, ap, ◌∙◌, subst, arith, inl, inr, ◌⊎◌, nat_lt, mul-le-mul_right}
use Rattle.std.specs.List.{range_with_len}
use Rattle.std.proofs.lemmas.Bool.{cases_lt, lt-ltb, le-ltb, and_parts, true≢false}
use Rattle.std.proofs.lemmas.List.{length-append, length-map, get_or_append_left, get_or_push}
use Rattle.std.proofs.lemmas.Option.{none-some}
use Rattle.std.proofs.lemmas.List.FromFn.{length-range_with_len}
use Rattle.tao_base.specs.declared.session.Event.{Event}
use Rattle.tao_base.specs.declared.session.Event.TheVariants.{Arrive, Done, Issue, Acked, Fault}
use Rattle.tao_base.specs.declared.storage.Bucket.{Bucket}
use Rattle.tao_base.specs.Session.{Opening}
use Rattle.tao_base.specs.Tree.{node_count, node_at, path, is_on_path}
use Rattle.tao_model.specs.Events.{dones, issues, acks, buckets_issued}
use Rattle.tao_model.specs.Requests.{fetches, fetched_leaf}
use Rattle.tao_model.specs.Residence.{last_touch}
use Rattle.tao_model.specs.Lawful.{FollowsLawfully, touched_after}
use Rattle.tao_model.specs.WholeRecords.{IsAt}
use Rattle.tao_model.proofs.Stays.{newest_first}
use Rattle.tao_model.proofs.FallingPaths.{has, on_path_has}
use Rattle.tao_model.proofs.LawfulToWhole.{paced}
use Rattle.tao_model.proofs.NewestWrites.{newest_within}
use Rattle.tao_laws.proofs.Listings.{has_filter, has_range, range_has}
use Rattle.tao_laws.proofs.RecentNodes.{touch_within, recent_from, leaf_low, fetched_in_tree, bucket_in}
use Rattle.tao_laws.proofs.CountedWork.{owed_once}
use Rattle.tao_tables.specs.WriteBacks.{IsIssueAt, TellsWrites, PutsPath, WritesAreTold, WritesAtStart, RecentIsShort, IssueMayFollow, BucketThere, NoncesAreFew}
use Rattle.tao_tables.proofs.RisingLists.{one_rising_list, part_rises, path_rises}

-- ---- the recent nodes

none_passes : (passes : ℕ → Bool) (xs : List ℕ) → ((w : ℕ) → passes w ≡ false) → filter passes xs ≡ []
none_passes passes [] off = refl
none_passes passes (x ∷ xs) off = ap (λ t. cond t (x ∷ filter passes xs) (filter passes xs)) (off x) ∙ none_passes passes xs off

-- after a write-back no node is recent
none_recent : (o : Opening) (es : List Event) (version nonce : ℕ) (buckets : List Bucket) → FollowsLawfully o (Issue version nonce buckets ∷ es)
    → touched_after o (Issue version nonce buckets ∷ es) ((issues es + 1) * o.shape.k) ≡ []
none_recent o es version nonce buckets f =
    let due : dones es ≡ (issues es + 1) * o.shape.k = f.2.due ∙ ap (λ v. v * o.shape.k) f.2.next in
    none_passes (λ w. nat_lt ((issues es + 1) * o.shape.k) (last_touch o es w)) (range_with_len 1 (node_count o.shape.l))
    (λ w. le-ltb ((issues es + 1) * o.shape.k) (last_touch o es w) (let within = touch_within o es w in omega (arith, due)))

put_step : (on r : Bool) (m n last : ℕ) → m ≤ n → (on ≡ true → r ≡ true) → ((nat_lt m last && r) || on) ≡ (nat_lt m (cond on (n + 1) last) && r)
put_step true r m n last le there = or_true (nat_lt m last && r) ∙ sym (ap (λ t. t && r) (lt-ltb m (n + 1) (omega arith)) ∙ there refl)
  where
    or_true : (t : Bool) → (t || true) ≡ true
    or_true true = refl
    or_true false = refl
put_step false r m n last le there = or_false (nat_lt m last && r)
  where
    or_false : (t : Bool) → (t || false) ≡ t
    or_false true = refl
    or_false false = refl

pub touched_done : (o : Opening) (es : List Event) (i : ℕ) (taken : List Bucket) (recent recent' : List ℕ) → FollowsLawfully o (Done i taken ∷ es)
    → recent ≡ touched_after o es (issues es * o.shape.k) → PutsPath o.shape.l (fetched_leaf o es i) recent recent'
    → recent' ≡ touched_after o (Done i taken ∷ es) (issues es * o.shape.k)
touched_done o es i taken recent recent' f told puts =
    one_rising_list recent' (touched_after o (Done i taken ∷ es) (issues es * o.shape.k)) puts.rises
    (part_rises (λ w. nat_lt (issues es * o.shape.k) (last_touch o (Done i taken ∷ es) w)) 1 (node_count o.shape.l))
    (λ w. puts.members w ∙ members w)
  where
    in_tree : (w : ℕ) → fetches o es i w ≡ true → has w (range_with_len 1 (node_count o.shape.l)) ≡ true
    in_tree w on = let place = fetched_in_tree o es i w on in has_range 1 (node_count o.shape.l) w (omega (arith, place.0)) (omega (arith, place.1))

    members : (w : ℕ) → (has w recent || is_on_path o.shape.l (fetched_leaf o es i) w) ≡ has w (touched_after o (Done i taken ∷ es) (issues es * o.shape.k))
    members w =
        ap (λ xs. has w xs || fetches o es i w) told
        ∙ ap (λ t. t || fetches o es i w) (has_filter (λ v. nat_lt (issues es * o.shape.k) (last_touch o es v)) w (range_with_len 1 (node_count o.shape.l)))
        ∙ put_step (fetches o es i w) (has w (range_with_len 1 (node_count o.shape.l))) (issues es * o.shape.k) (dones es) (last_touch o es w) (paced o es f.0) (in_tree w)
        ∙ sym (has_filter (λ v. nat_lt (issues es * o.shape.k) (last_touch o (Done i taken ∷ es) v)) w (range_with_len 1 (node_count o.shape.l)))

-- ---- they are few

few_more : (p q r : ℕ → Bool) (xs : List ℕ) → ((w : ℕ) → r w ≡ true → (p w || q w) ≡ true) → length (filter r xs) ≤ length (filter p xs) + length (filter q xs)
few_more p q r [] split = omega arith
few_more p q r (x ∷ xs) split = either (r x) (p x) (q x) (split x) (few_more p q r xs split)
  where
    either : (a b c : Bool) → (a ≡ true → (b || c) ≡ true) → length (filter r xs) ≤ length (filter p xs) + length (filter q xs)
        → length (cond a (x ∷ filter r xs) (filter r xs)) ≤ length (cond b (x ∷ filter p xs) (filter p xs)) + length (cond c (x ∷ filter q xs) (filter q xs))
    either true true true some ih = omega arith
    either true true false some ih = omega arith
    either true false true some ih = omega arith
    either true false false some ih = absurd (true≢false (sym (some refl)))
    either false true true some ih = omega arith
    either false true false some ih = omega arith
    either false false true some ih = omega arith
    either false false false some ih = ih

pub few_pass : (p : ℕ → Bool) (xs : List ℕ) → length (filter p xs) ≤ length xs
few_pass p [] = omega arith
few_pass p (x ∷ xs) = either (p x) (few_pass p xs)
  where
    either : (t : Bool) → length (filter p xs) ≤ length xs → length (cond t (x ∷ filter p xs) (filter p xs)) ≤ length (x ∷ xs)
    either true ih = omega arith
    either false ih = omega arith

-- the nodes of a path, among those of the tree, are the path
path_listed : (o : Opening) (es : List Event) (i : ℕ) → filter (λ w. fetches o es i w) (range_with_len 1 (node_count o.shape.l)) ≡ path o.shape.l (fetched_leaf o es i)
path_listed o es i =
    one_rising_list (filter (λ w. fetches o es i w) (range_with_len 1 (node_count o.shape.l))) (path o.shape.l (fetched_leaf o es i))
    (part_rises (λ w. fetches o es i w) 1 (node_count o.shape.l)) (path_rises o.shape.l (fetched_leaf o es i) (leaf_low o es i))
    (λ w. has_filter (λ v. fetches o es i v) w (range_with_len 1 (node_count o.shape.l)) ∙ all w (fetches o es i w) refl ∙ on_path_has o.shape.l (fetched_leaf o es i) w)
  where
    all : (w : ℕ) (t : Bool) → fetches o es i w ≡ t → (t && has w (range_with_len 1 (node_count o.shape.l))) ≡ t
    all w true on = let place = fetched_in_tree o es i w on in has_range 1 (node_count o.shape.l) w (omega (arith, place.0)) (omega (arith, place.1))
    all w false off = refl

few_from : (o : Opening) (es : List Event) → FollowsLawfully o es → length (touched_after o es (issues es * o.shape.k)) ≤ (dones es - issues es * o.shape.k) * (o.shape.l + 1)
few_from o [] f =
    let none = ap length (none_passes (λ w. nat_lt (0 * o.shape.k) 0) (range_with_len 1 (node_count o.shape.l)) (λ w. le-ltb (0 * o.shape.k) 0 (omega arith))) in
    few_none (length (touched_after o [] (0 * o.shape.k))) ((0 - 0 * o.shape.k) * (o.shape.l + 1)) none
  where
    few_none : (a b : ℕ) → a ≡ 0 → a ≤ b
    few_none a b none = omega arith
few_from o (Arrive client op word ∷ es) f = few_from o es f.0
few_from o (Done i taken ∷ es) f =
    let both = few_more (λ w. nat_lt (issues es * o.shape.k) (last_touch o es w)) (λ w. fetches o es i w)
    (λ w. nat_lt (issues es * o.shape.k) (last_touch o (Done i taken ∷ es) w)) (range_with_len 1 (node_count o.shape.l)) (λ w. split (fetches o es i w) w) in
    let one : length (filter (λ w. fetches o es i w) (range_with_len 1 (node_count o.shape.l))) ≡ o.shape.l + 1 =
    ap length (path_listed o es i) ∙ length-map (range_with_len 0 (o.shape.l + 1)) (node_at o.shape.l (fetched_leaf o es i)) ∙ length-range_with_len 0 (o.shape.l + 1) in
    add (length (touched_after o (Done i taken ∷ es) (issues es * o.shape.k))) (length (touched_after o es (issues es * o.shape.k)))
    (length (filter (λ w. fetches o es i w) (range_with_len 1 (node_count o.shape.l)))) (dones es) (issues es * o.shape.k) (o.shape.l + 1) (few_from o es f.0) both one (paced o es f.0)
  where
    split : (t : Bool) (w : ℕ) → nat_lt (issues es * o.shape.k) (cond t (dones es + 1) (last_touch o es w)) ≡ true → (nat_lt (issues es * o.shape.k) (last_touch o es w) || t) ≡ true
    split true w on = or_true (nat_lt (issues es * o.shape.k) (last_touch o es w))
      where
        or_true : (t : Bool) → (t || true) ≡ true
        or_true true = refl
        or_true false = refl
    split false w on = ap (λ t. t || false) on

    add : (now before own n m most : ℕ) → before ≤ (n - m) * most → now ≤ before + own → own ≡ most → m ≤ n → now ≤ (n + 1 - m) * most
    add now before own n m most ih both one le = let up : (n + 1 - m) * most ≡ (n - m) * most + most = stepped (n - m) (n + 1 - m) most (omega arith) in omega arith
      where
        stepped : (a b most : ℕ) → b ≡ a + 1 → b * most ≡ a * most + most
        stepped a b most is = ap (λ c. c * most) is ∙ omega arith
few_from o (Issue version nonce buckets ∷ es) f =
    few_none (length (touched_after o (Issue version nonce buckets ∷ es) ((issues es + 1) * o.shape.k))) ((dones es - (issues es + 1) * o.shape.k) * (o.shape.l + 1))
    (ap length (none_recent o es version nonce buckets f))
  where
    few_none : (a b : ℕ) → a ≡ 0 → a ≤ b
    few_none a b none = omega arith
few_from o (Acked version ∷ es) f = few_from o es f.0
few_from o (Fault cause ∷ es) f = few_from o es f.0

most_few : (len d m k most : ℕ) → len ≤ (d - m) * most → d ≤ m + k → len ≤ k * most
most_few len d m k most low owed = let up : (d - m) * most ≤ k * most = mul-le-mul_right most (omega arith) in omega arith

room_few : (len d m k most : ℕ) → len ≤ (d - m) * most → m ≤ d → d < m + k → len + most ≤ k * most
room_few len d m k most low le owes = let up : (d - m + 1) * most ≤ k * most = mul-le-mul_right most (omega arith) in omega arith

less_from : (m n : ℕ) → nat_lt m n ≡ true → m < n
less_from m n is = either (cases_lt m n)
  where
    either : (m < n) ⊎ (n ≤ m) → m < n
    either (inl less) = less
    either (inr high) = absurd (true≢false (sym is ∙ le-ltb m n high))

pub recent_is_short : RecentIsShort
recent_is_short o events f = record {
  rises = part_rises recent 1 (node_count o.shape.l);
  in_tree = λ w there.
      let place = range_has 1 (node_count o.shape.l) w
      (and_parts (recent w) (has w (range_with_len 1 (node_count o.shape.l))) (sym (has_filter recent w (range_with_len 1 (node_count o.shape.l))) ∙ there)).1 in
      (omega (arith, place.0), omega (arith, place.1));
  held = λ w there. recent_from o (reverse events) w f (less_from (issues (reverse events) * o.shape.k) (last_touch o (reverse events) w)
      (and_parts (recent w) (has w (range_with_len 1 (node_count o.shape.l))) (sym (has_filter recent w (range_with_len 1 (node_count o.shape.l))) ∙ there)).0);
  older = λ w. newest_within o (reverse events) w f;
  few = few_from o (reverse events) f;
  fits = most_few (length (filter recent (range_with_len 1 (node_count o.shape.l)))) (dones (reverse events)) (issues (reverse events) * o.shape.k) o.shape.k (o.shape.l + 1)
      (few_from o (reverse events) f) (split (dones (reverse events)) (issues (reverse events)) o.shape.k (owed_once o (reverse events) f));
  room = λ owes. room_few (length (filter recent (range_with_len 1 (node_count o.shape.l)))) (dones (reverse events)) (issues (reverse events) * o.shape.k) o.shape.k (o.shape.l + 1)
      (few_from o (reverse events) f) (paced o (reverse events) f) (split_less (dones (reverse events)) (issues (reverse events)) o.shape.k owes);
  within = let low = few_pass recent (range_with_len 1 (node_count o.shape.l)) in let len = length-range_with_len 1 (node_count o.shape.l) in omega (arith, low, len);
}
  where
    recent : ℕ → Bool
    recent w = nat_lt (issues (reverse events) * o.shape.k) (last_touch o (reverse events) w)

    split : (d m k : ℕ) → d ≤ (m + 1) * k → d ≤ m * k + k
    split d m k le = omega arith

    split_less : (d m k : ℕ) → d < (m + 1) * k → d < m * k + k
    split_less d m k less = omega arith

-- ---- the places of write-backs

at_more : (events : List Event) (p : ℕ) (x e : Event) → IsAt events p x → IsAt (events ++ e ∷ []) p x
at_more [] p x e at = absurd (none-some x at)
at_more (y ∷ events) zero x e at = at
at_more (y ∷ events) (suc p) x e at = at_more events p x e at

at_end : (events : List Event) (e : Event) → IsAt (events ++ e ∷ []) (length events) e
at_end [] e = refl
at_end (y ∷ events) e = at_end events e

issue_more : (events : List Event) (p v : ℕ) (e : Event) → IsIssueAt events p v → IsIssueAt (events ++ e ∷ []) p v
issue_more events p v e is = record { nonce = is.nonce; buckets = is.buckets; there = at_more events p (Issue v is.nonce is.buckets) e is.there }

issue_new : (events : List Event) (places : List ℕ) (version start : ℕ) (buckets : List Bucket) (u : ℕ) → version ≡ u + 1 → length places ≡ u
    → IsIssueAt (events ++ Issue version start buckets ∷ []) (get_or (places ++ length events ∷ []) u 0) (u + 1)
issue_new events places version start buckets u next len = record {
  nonce = start;
  buckets = buckets;
  there = subst (λ p. IsAt (events ++ Issue version start buckets ∷ []) p (Issue (u + 1) start buckets)) (sym (get_or_push places (length events) 0 u len))
      (subst (λ v. IsAt (events ++ Issue version start buckets ∷ []) (length events) (Issue v start buckets)) next (at_end events (Issue version start buckets)));
}

-- ---- one event more

from_newest : (o : Opening) (events : List Event) (e : Event) (recent places : List ℕ) (n m a nonce : ℕ) → recent ≡ touched_after o (e ∷ reverse events) (issues (e ∷ reverse events) * o.shape.k)
    → length places ≡ issues (e ∷ reverse events) → ((u : ℕ) → u < issues (e ∷ reverse events) → IsIssueAt (events ++ e ∷ []) (get_or places u 0) (u + 1))
    → n ≡ dones (e ∷ reverse events) → m ≡ issues (e ∷ reverse events) → a ≡ acks (e ∷ reverse events) → nonce ≡ node_count o.shape.l + 1 + buckets_issued (e ∷ reverse events)
    → TellsWrites o (events ++ e ∷ []) recent places n m a nonce
from_newest o events e recent places n m a nonce touched count each dones_are issues_are acks_are next = record {
  touched = rw (newest_first events e) touched;
  count = rw (newest_first events e) count;
  each = λ u. rw (newest_first events e) (λ low. each u low);
  dones = rw (newest_first events e) dones_are;
  issues = rw (newest_first events e) issues_are;
  acks = rw (newest_first events e) acks_are;
  next = rw (newest_first events e) next;
}

pub writes_are_told : WritesAreTold
writes_are_told o events recent places n m a nonce tells = record {
  arrive = λ client op word. from_newest o events (Arrive client op word) recent places n m a nonce tells.touched tells.count (λ u low. more (Arrive client op word) u low)
      tells.dones tells.issues tells.acks tells.next;
  done = λ i taken recent'. rw (newest_first events (Done i taken)) (λ f puts.
      from_newest o events (Done i taken) recent' places (n + 1) m a nonce (touched_done o (reverse events) i taken recent recent' f tells.touched puts) tells.count
      (λ u low. more (Done i taken) u low) (ap (λ k. k + 1) tells.dones) tells.issues tells.acks tells.next);
  issue = λ version start buckets. rw (newest_first events (Issue version start buckets)) (λ f.
      from_newest o events (Issue version start buckets) [] (places ++ length events ∷ []) n (m + 1) a (nonce + length buckets)
      (sym (none_recent o (reverse events) version start buckets f)) (length-append places (length events ∷ []) ∙ ap (λ k. k + 1) tells.count)
      (λ u low. issued version start buckets u f.2.next low (cases_lt u (issues (reverse events))))
      tells.dones (ap (λ k. k + 1) tells.issues) tells.acks (let next = tells.next in omega arith));
  acked = λ version. from_newest o events (Acked version) recent places n m (a + 1) nonce tells.touched tells.count (λ u low. more (Acked version) u low)
      tells.dones tells.issues (ap (λ k. k + 1) tells.acks) tells.next;
  fault = λ cause. from_newest o events (Fault cause) recent places n m a nonce tells.touched tells.count (λ u low. more (Fault cause) u low)
      tells.dones tells.issues tells.acks tells.next;
}
  where
    count : length places ≡ issues (reverse events)
    count = tells.count

    more : (e : Event) (u : ℕ) → u < issues (reverse events) → IsIssueAt (events ++ e ∷ []) (get_or places u 0) (u + 1)
    more e u low = issue_more events (get_or places u 0) (u + 1) e (tells.each u low)

    issued : (version start : ℕ) (buckets : List Bucket) (u : ℕ) → version ≡ issues (reverse events) + 1 → u < issues (reverse events) + 1
        → (u < issues (reverse events)) ⊎ (issues (reverse events) ≤ u)
        → IsIssueAt (events ++ Issue version start buckets ∷ []) (get_or (places ++ length events ∷ []) u 0) (u + 1)
    issued version start buckets u next low (inl old) =
        subst (λ p. IsIssueAt (events ++ Issue version start buckets ∷ []) p (u + 1)) (sym (get_or_append_left places (length events ∷ []) 0 u (omega (arith, count))))
        (more (Issue version start buckets) u old)
    issued version start buckets u next low (inr new) =
        let same : u ≡ issues (reverse events) = omega arith in
        issue_new events places version start buckets u (next ∙ ap (λ k. k + 1) (sym same)) (count ∙ sym same)

pub writes_at_start : WritesAtStart
writes_at_start o = record {
  touched = sym (none_passes (λ w. nat_lt (0 * o.shape.k) 0) (range_with_len 1 (node_count o.shape.l)) (λ w. le-ltb (0 * o.shape.k) 0 (omega arith)));
  count = refl;
  each = λ u low. absurd (omega arith);
  dones = refl;
  issues = refl;
  acks = refl;
  next = omega arith;
}

pub issue_may_follow : IssueMayFollow
issue_may_follow o events recent places n m a nonce buckets tells full stamped = record {
  next = ap (λ k. k + 1) tells.issues;
  due = sym tells.dones ∙ full;
  nodes = stamped.nodes ∙ tells.touched;
  in_form = stamped.in_form;
  versions = stamped.versions;
  counts_on = tells.next;
  nonces = stamped.nonces;
}

-- ---- the buckets of a write-back

pub bucket_there : BucketThere
bucket_there w buckets = bucket_in w buckets

nonces_few : (o : Opening) (es : List Event) → FollowsLawfully o es → buckets_issued es ≤ issues es * node_count o.shape.l
nonces_few o [] f = omega arith
nonces_few o (Arrive client op word ∷ es) f = nonces_few o es f.0
nonces_few o (Done i taken ∷ es) f = nonces_few o es f.0
nonces_few o (Issue version nonce buckets ∷ es) f =
    let before = nonces_few o es f.0 in
    let named = sym (length-map buckets (λ bucket. bucket.node)) ∙ ap length f.2.nodes in
    let shorter = few_pass (λ node. nat_lt (issues es * o.shape.k) (last_touch o es node)) (range_with_len 1 (node_count o.shape.l)) in
    let all = length-range_with_len 1 (node_count o.shape.l) in
    let next : (issues es + 1) * node_count o.shape.l ≡ issues es * node_count o.shape.l + node_count o.shape.l = omega arith in
    omega (arith, before, named, shorter, all, next)
nonces_few o (Acked version ∷ es) f = nonces_few o es f.0
nonces_few o (Fault cause ∷ es) f = nonces_few o es f.0

pub nonces_are_few : NoncesAreFew
nonces_are_few o events f = nonces_few o (reverse events) f
