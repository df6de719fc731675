-- A node's last touch determines its version; a node that isn't held has the acknowledged one. `es` are newest first.
use Rattle.std.proofs.Common.{◌≡◌, ℕ, ◌+◌, ◌-◌, ◌*◌, ◌/◌, ◌<◌, ◌≤◌, Bool, true, false, not, ◌&&◌, ◌||◌, cond, List, [], ◌∷◌, reverse, Option, Some, None, is_some, refl, sym, ap, ◌∙◌, subst, arith, inl, inr, ◌⊎◌, nat_eq, nat_lt, mul-le-mul_right}
use Rattle.std.specs.Option.{option_or}
use Rattle.std.specs.Int.{div_ceil}
use Rattle.std.proofs.lemmas.Bool.{cases_lt, cases_order, ltb-true, ltb-false, lt-ltb, eqb-true, true≢false, and_parts, or_cases, not-true}
use Rattle.std.proofs.Math.Nat.{div-mul-le_self}
use Rattle.std.proofs.lemmas.Nat.{le-div}
use Rattle.std.proofs.lemmas.Grind.{div_ceil_times}
use Rattle.tao_base.specs.declared.session.Event.{Event}
use Rattle.tao_base.specs.declared.session.Event.TheVariants.{Arrive, Done, Issue, Acked, Fault}
use Rattle.tao_base.specs.declared.storage.Bucket.{Bucket}
use Rattle.tao_base.specs.Limits.{IsShape}
use Rattle.tao_base.specs.Session.{Opening}
use Rattle.tao_model.specs.Events.{dones, issues}
use Rattle.tao_model.specs.Requests.{fetches}
use Rattle.tao_model.specs.Residence.{last_touch, bucket_of, is_issued, is_covered, departs, is_resident, newest_write, newest_version}
use Rattle.tao_model.specs.Lawful.{FollowsLawfully, MayBeIssued, IsOpening}
use Rattle.tao_model.proofs.Stays.{newest_first}
use Rattle.tao_model.proofs.LawfulToWhole.{paced, follows_opening}
use Rattle.tao_laws.specs.Residents.{PeriodsAreCounted, WrittenAfterTouch, ExactVersion, WritesResidents, IssuedIsResident, AwayIsWritten, UntouchedSince, LeavesAcknowledged, IsWrittenAfter, IsExact, CountsPeriods}
use Rattle.tao_laws.proofs.RecentNodes.{touch_within, recent_from, written_where_recent}

-- ---- version and touch of one node; m write-backs were issued

record IsWritten (m k touch version : ℕ) : Type 0 where
  known : version ≤ m
  after : (u : ℕ) → u < version → u * k < touch
  exact : (touch ≤ version * k) ⊎ (m * k < touch)

none_written : (k : ℕ) → IsWritten 0 k 0 0
none_written k = record { known = omega arith; after = λ u less. absurd (omega arith); exact = inl (omega arith) }

-- the Done of number n + 1; `t` says whether it touches the node
written_done : (t : Bool) (m k n touch version : ℕ) → m * k ≤ n → touch ≤ n → IsWritten m k touch version → IsWritten m k (cond t (n + 1) touch) version
written_done false m k n touch version paced within w = w
written_done true m k n touch version paced within w = record {
  known = w.known;
  after = λ u less. let before = w.after u less in omega arith;
  exact = inr (omega arith);
}

-- a write-back at the end of its period; `t` says whether it has the node
written_issue : (t : Bool) (m k v touch version : ℕ) → v ≡ m + 1 → touch ≤ v * k → t ≡ nat_lt (m * k) touch → IsWritten m k touch version → IsWritten (m + 1) k touch (cond t v version)
written_issue true m k v touch version next within is w =
    let recent : m * k < touch = ltb-true (m * k) touch (sym is) in
    record {
      known = omega arith;
      after = λ u less. let before : u * k ≤ m * k = mul-le-mul_right k (omega arith) in omega arith;
      exact = inl within;
    }
written_issue false m k v touch version next within is w = record {
  known = let known = w.known in omega arith;
  after = w.after;
  exact = inl (old w.exact);
}
  where
    old : (touch ≤ version * k) ⊎ (m * k < touch) → touch ≤ version * k
    old (inl h) = h
    old (inr recent) = absurd (true≢false (sym (lt-ltb (m * k) touch recent) ∙ sym is))

written_from : (o : Opening) (es : List Event) (node : ℕ) → FollowsLawfully o es → IsWritten (issues es) o.shape.k (last_touch o es node) (newest_version es node)
written_from o [] node f = none_written o.shape.k
written_from o (Arrive client op word ∷ es) node f = written_from o es node f.0
written_from o (Done arrival taken ∷ es) node f =
    written_done (fetches o es arrival node) (issues es) o.shape.k (dones es) (last_touch o es node) (newest_version es node) (paced o es f.0) (touch_within o es node) (written_from o es node f.0)
written_from o (Issue version nonce buckets ∷ es) node f =
    let within : last_touch o es node ≤ version * o.shape.k = subst (λ n. last_touch o es node ≤ n) f.2.due (touch_within o es node) in
    written_issue (is_some (bucket_of node buckets)) (issues es) o.shape.k version (last_touch o es node) (newest_version es node) f.2.next within
    (written_where_recent o es version nonce buckets node f.2) (written_from o es node f.0)
written_from o (Acked version ∷ es) node f = written_from o es node f.0
written_from o (Fault cause ∷ es) node f = written_from o es node f.0

-- ---- a version issued for a node

issued_step : (t earlier : Bool) (u v m newest : ℕ) → u ≡ m + 1 → newest ≤ m → ((nat_eq u v && t) || earlier) ≡ true → (earlier ≡ true → (0 < v) × (v ≤ newest))
    → (0 < v) × (v ≤ cond t u newest)
issued_step t true u v m newest next known h ih = either t (ih refl)
  where
    either : (t : Bool) → (0 < v) × (v ≤ newest) → (0 < v) × (v ≤ cond t u newest)
    either true both = let low = both.0 in let high = both.1 in (low, omega arith)
    either false both = both
issued_step true false u v m newest next known h ih = either (or_cases (nat_eq u v && true) false h)
  where
    either : ((nat_eq u v && true) ≡ true) ⊎ (false ≡ true) → (0 < v) × (v ≤ u)
    either (inl both) = let same : u ≡ v = eqb-true u v (and_parts (nat_eq u v) true both).0 in (omega arith, omega arith)
    either (inr never) = absurd (true≢false (sym never))
issued_step false false u v m newest next known h ih = either (or_cases (nat_eq u v && false) false h)
  where
    either : ((nat_eq u v && false) ≡ true) ⊎ (false ≡ true) → (0 < v) × (v ≤ newest)
    either (inl both) = absurd (true≢false (sym (and_parts (nat_eq u v) false both).1))
    either (inr never) = absurd (true≢false (sym never))

pub issued_from : (o : Opening) (es : List Event) (v node : ℕ) → FollowsLawfully o es → is_issued es v node ≡ true → (0 < v) × (v ≤ newest_version es node)
issued_from o [] v node f h = absurd (true≢false (sym h))
issued_from o (Arrive client op word ∷ es) v node f h = issued_from o es v node f.0 h
issued_from o (Done arrival taken ∷ es) v node f h = issued_from o es v node f.0 h
issued_from o (Issue version nonce buckets ∷ es) v node f h =
    issued_step (is_some (bucket_of node buckets)) (is_issued es v node) version v (issues es) (newest_version es node) f.2.next (written_from o es node f.0).known h
    (λ earlier. issued_from o es v node f.0 earlier)
issued_from o (Acked version ∷ es) v node f h = issued_from o es v node f.0 h
issued_from o (Fault cause ∷ es) v node f h = issued_from o es v node f.0 h

pub written_after : (o : Opening) (es : List Event) (version node : ℕ) → FollowsLawfully o es → is_issued es version node ≡ true → IsWrittenAfter o es version node
written_after o es version node f h =
    let issued = issued_from o es version node f h in
    let w = written_from o es node f in
    let low = issued.0 in
    let high = issued.1 in
    let known = w.known in
    record { some = low; known = omega arith; touched = w.after (version - 1) (omega arith); newest = high }

pub written_after_touch : WrittenAfterTouch
written_after_touch o events version node f h = written_after o (reverse events) version node f h

-- ---- the exact version

rounded_up : (k touch version : ℕ) → 0 < k → touch ≤ version * k → ((u : ℕ) → u < version → u * k < touch) → version ≡ div_ceil touch k
rounded_up k touch version some high low = either (cases_order version (div_ceil touch k))
  where
    bounds : (touch ≤ div_ceil touch k * k) × (div_ceil touch k * k < touch + k)
    bounds = div_ceil_times touch k some

    either : (version ≡ div_ceil touch k) ⊎ ((version < div_ceil touch k) ⊎ (div_ceil touch k < version)) → version ≡ div_ceil touch k
    either (inl same) = same
    either (inr (inl less)) =
        let up : (version + 1) * k ≤ div_ceil touch k * k = mul-le-mul_right k (omega arith) in
        let under = bounds.1 in
        absurd (omega arith)
    either (inr (inr more)) = let over = low (div_ceil touch k) more in let under = bounds.0 in absurd (omega arith)

pub exact_from : (o : Opening) (es : List Event) (node : ℕ) → FollowsLawfully o es → IsExact o es node
exact_from o es node f = record {
  version = λ old. rounded_up o.shape.k (last_touch o es node) (newest_version es node) some (not_recent old w.exact) w.after;
  recent = (
    λ recent. let before : newest_version es node * o.shape.k ≤ issues es * o.shape.k = mul-le-mul_right o.shape.k w.known in omega arith,
    λ beyond. is_recent beyond w.exact,
  );
}
  where
    w : IsWritten (issues es) o.shape.k (last_touch o es node) (newest_version es node)
    w = written_from o es node f

    opening : IsOpening o
    opening = follows_opening o es f

    shape : IsShape o.shape
    shape = opening.shape

    some : 0 < o.shape.k
    some = let low = shape.period_low in omega arith

    not_recent : last_touch o es node ≤ issues es * o.shape.k
        → (last_touch o es node ≤ newest_version es node * o.shape.k) ⊎ (issues es * o.shape.k < last_touch o es node)
        → last_touch o es node ≤ newest_version es node * o.shape.k
    not_recent old (inl h) = h
    not_recent old (inr recent) = absurd (omega arith)

    is_recent : newest_version es node * o.shape.k < last_touch o es node
        → (last_touch o es node ≤ newest_version es node * o.shape.k) ⊎ (issues es * o.shape.k < last_touch o es node)
        → issues es * o.shape.k < last_touch o es node
    is_recent beyond (inl h) = absurd (omega arith)
    is_recent beyond (inr recent) = recent

pub exact_version : ExactVersion
exact_version o events node f = exact_from o (reverse events) node f

-- ---- the number of write-backs

full_periods : (k m n : ℕ) → 0 < k → m * k ≤ n → n < (m + 1) * k → m ≡ n / k
full_periods k m n some low high =
    let at_least : m ≤ n / k = le-div m n k some low in
    let back : n / k * k ≤ n = div-mul-le_self n k in
    either at_least back (cases_lt m (n / k))
  where
    either : m ≤ n / k → n / k * k ≤ n → (m < n / k) ⊎ (n / k ≤ m) → m ≡ n / k
    either at_least back (inr no_more) = omega arith
    either at_least back (inl more) = let up : (m + 1) * k ≤ n / k * k = mul-le-mul_right k (omega arith) in absurd (omega arith)

pub periods_from : (o : Opening) (es : List Event) → FollowsLawfully o es → CountsPeriods o es
periods_from o es f = record {
  paced = paced o es f;
  whole = λ none. full_periods o.shape.k (issues es) (dones es) some (paced o es f) none;
  touched = λ node. touch_within o es node;
}
  where
    opening : IsOpening o
    opening = follows_opening o es f

    shape : IsShape o.shape
    shape = opening.shape

    some : 0 < o.shape.k
    some = let low = shape.period_low in omega arith

pub periods_are_counted : PeriodsAreCounted
periods_are_counted o events f = periods_from o (reverse events) f

-- ---- write-backs and nodes that aren't held

-- a write-back has no node that isn't held
pub away_unwritten : (o : Opening) (es : List Event) (version nonce : ℕ) (buckets : List Bucket) (node : ℕ) → FollowsLawfully o es → MayBeIssued o es version nonce buckets
    → is_resident o es node ≡ false → bucket_of node buckets ≡ None
away_unwritten o es version nonce buckets node f m away = either (bucket_of node buckets) refl
  where
    either : (b : Option Bucket) → bucket_of node buckets ≡ b → b ≡ None
    either None is = refl
    either (Some x) is =
        let recent : nat_lt (issues es * o.shape.k) (last_touch o es node) ≡ true = sym (written_where_recent o es version nonce buckets node m) ∙ ap is_some is in
        absurd (true≢false (sym (recent_from o es node f (ltb-true (issues es * o.shape.k) (last_touch o es node) recent)) ∙ away))

pub writes_residents : (o : Opening) (es : List Event) (version nonce : ℕ) (buckets : List Bucket) (node : ℕ) → FollowsLawfully o es → MayBeIssued o es version nonce buckets
    → WritesResidents o es (Issue version nonce buckets ∷ es) buckets node
writes_residents o es version nonce buckets node f m = record {
  recent = (
    λ h. ltb-true (issues es * o.shape.k) (last_touch o es node) (sym where_recent ∙ h),
    λ h. where_recent ∙ lt-ltb (issues es * o.shape.k) (last_touch o es node) h,
  );
  resident = λ h. recent_from o es node f (ltb-true (issues es * o.shape.k) (last_touch o es node) (sym where_recent ∙ h));
  away = λ h. ap (λ b. option_or b (newest_write o es node)) (away_unwritten o es version nonce buckets node f m h);
}
  where
    where_recent : is_some (bucket_of node buckets) ≡ nat_lt (issues es * o.shape.k) (last_touch o es node)
    where_recent = written_where_recent o es version nonce buckets node m

pub issued_is_resident : IssuedIsResident
issued_is_resident o events version nonce buckets node =
    rw (newest_first events (Issue version nonce buckets)) (λ f. writes_residents o (reverse events) version nonce buckets node f.0 f.2)

-- ---- nodes that aren't held, and nodes that leave

pub away_from : (o : Opening) (es : List Event) (node : ℕ) → FollowsLawfully o es → is_resident o es node ≡ false → last_touch o es node ≤ newest_version es node * o.shape.k
away_from o es node f away = either w.exact
  where
    w : IsWritten (issues es) o.shape.k (last_touch o es node) (newest_version es node)
    w = written_from o es node f

    either : (last_touch o es node ≤ newest_version es node * o.shape.k) ⊎ (issues es * o.shape.k < last_touch o es node)
        → last_touch o es node ≤ newest_version es node * o.shape.k
    either (inl h) = h
    either (inr recent) = absurd (true≢false (sym (recent_from o es node f recent) ∙ away))

pub away_is_written : AwayIsWritten
away_is_written o events node f away = away_from o (reverse events) node f away

pub untouched_from : (o : Opening) (es : List Event) (version node : ℕ) → FollowsLawfully o es → is_issued es version node ≡ true → last_touch o es node ≤ version * o.shape.k
    → newest_version es node ≡ version
untouched_from o es version node f issued old = either (cases_lt version (newest_version es node))
  where
    either : (version < newest_version es node) ⊎ (newest_version es node ≤ version) → newest_version es node ≡ version
    either (inl newer) = let beyond = (written_from o es node f).after version newer in absurd (omega arith)
    either (inr no_newer) = let high = (issued_from o es version node f issued).1 in omega arith

pub untouched_since : UntouchedSince
untouched_since o events version node f issued old = untouched_from o (reverse events) version node f issued old

-- the conditions for leaving
pub leaves_parts : (o : Opening) (es : List Event) (version node : ℕ) → departs o es version node ≡ true
    → (is_issued es version node ≡ true) × (last_touch o es node ≤ version * o.shape.k) × (is_covered o es node ≡ false)
leaves_parts o es version node h =
    let outer = and_parts (is_issued es version node) (not (nat_lt (version * o.shape.k) (last_touch o es node)) && not (is_covered o es node)) h in
    let inner = and_parts (not (nat_lt (version * o.shape.k) (last_touch o es node))) (not (is_covered o es node)) outer.1 in (
      outer.0,
      ltb-false (version * o.shape.k) (last_touch o es node) (not-true (nat_lt (version * o.shape.k) (last_touch o es node)) inner.0),
      not-true (is_covered o es node) inner.1,
    )

pub leaves_from : (o : Opening) (es : List Event) (version node : ℕ) → FollowsLawfully o es → departs o es version node ≡ true → newest_version es node ≡ version
leaves_from o es version node f h = let parts = leaves_parts o es version node h in untouched_from o es version node f parts.0 parts.1

pub leaves_acknowledged : LeavesAcknowledged
leaves_acknowledged o events version node f h = leaves_from o (reverse events) version node f h
