-- A record that follows lawfully, event by event, is lawful as a whole.
use Rattle.std.proofs.Common.{◌≡◌, ℕ, ◌+◌, ◌-◌, ◌*◌, ◌<◌, ◌≤◌, Bool, true, false, ◌||◌, List, [], ◌∷◌, ◌++◌, reverse, length, take, drop, Some, refl, sym, ap, ◌∙◌, subst, arith, inl, inr, ◌⊎◌, nat_eq, mul-le-mul_right}
use Rattle.std.proofs.lemmas.Bool.{cases_lt, cases_eq, cases_order, true≢false, or_cases, eqb-true, eq-eqb}
use Rattle.std.proofs.lemmas.Option.{slice_get_within}
use Rattle.std.proofs.lemmas.List.{reverse-append}
use Rattle.tao_base.specs.declared.session.Cause.{Cause}
use Rattle.tao_base.specs.declared.session.Event.{Event}
use Rattle.tao_base.specs.declared.session.Event.TheVariants.{Arrive, Done, Issue, Acked, Fault}
use Rattle.tao_base.specs.declared.storage.Bucket.{Bucket}
use Rattle.tao_base.specs.Limits.{session_limit}
use Rattle.tao_base.specs.Session.{Opening}
use Rattle.tao_model.specs.Events.{arrived, dones, issues, is_done, is_acked, has_fault}
use Rattle.tao_model.specs.Lawful.{IsOpening, FollowsLawfully, OwesNone, touched_after}
use Rattle.tao_model.specs.Stays.{PrefixFollows}
use Rattle.tao_model.specs.WholeRecords.{IsAt, before, ArrivalsAreLawful, DonesAreLawful, IssuesAreLawful, IsWriteBack, AcksAreLawful, FaultsAreLawful, IsLawfulWhole}
use Rattle.tao_model.proofs.DonesInOrder.{touched_are_nodes}
use Rattle.tao_model.proofs.EventPlaces.{before_more, before_all, at_split, some_at, newest_at, found_before, passes_before}

pub follows_opening : (o : Opening) (es : List Event) → FollowsLawfully o es → IsOpening o
follows_opening o [] f = f
follows_opening o (e ∷ es) f = follows_opening o es f.0

pub earlier_follows : (o : Opening) (later es : List Event) → FollowsLawfully o (later ++ es) → FollowsLawfully o es
earlier_follows o [] es f = f
earlier_follows o (e ∷ later) es f = earlier_follows o later es f.0

pub prefix_follows : PrefixFollows
prefix_follows o events later f = earlier_follows o (reverse later) (reverse events) (subst (FollowsLawfully o) (reverse-append events later) f)

-- each event may follow those before it
pub follows_at : (o : Opening) (events : List Event) (p : ℕ) (e : Event) → FollowsLawfully o (reverse events) → IsAt events p e → FollowsLawfully o (e ∷ before events p)
follows_at o events p e f at = earlier_follows o (reverse (drop (p + 1) events)) (e ∷ before events p) (subst (FollowsLawfully o) (at_split events p e at) f)

pub done_kept : (i : ℕ) (e : Event) (es : List Event) → is_done es i ≡ true → is_done (e ∷ es) i ≡ true
done_kept i (Arrive client op word) es h = h
done_kept i (Done arrival taken) es h = rw h (or_true (nat_eq arrival i))
  where
    or_true : (t : Bool) → (t || true) ≡ true
    or_true true = refl
    or_true false = refl
done_kept i (Issue version nonce buckets) es h = h
done_kept i (Acked version) es h = h
done_kept i (Fault cause) es h = h

pub ack_kept : (v : ℕ) (e : Event) (es : List Event) → is_acked es v ≡ true → is_acked (e ∷ es) v ≡ true
ack_kept v (Arrive client op word) es h = h
ack_kept v (Done arrival taken) es h = h
ack_kept v (Issue version nonce buckets) es h = h
ack_kept v (Acked version) es h = rw h (or_true (nat_eq version v))
  where
    or_true : (t : Bool) → (t || true) ≡ true
    or_true true = refl
    or_true false = refl
ack_kept v (Fault cause) es h = h

-- ---- how Dones and write-backs keep pace

-- there are as many write-backs as full periods
pub paced : (o : Opening) (es : List Event) → FollowsLawfully o es → issues es * o.shape.k ≤ dones es
paced o [] f = omega arith
paced o (Arrive client op word ∷ es) f = paced o es f.0
paced o (Done arrival taken ∷ es) f = let h = paced o es f.0 in omega arith
paced o (Issue version nonce buckets ∷ es) f = let due = f.2.due in let next = f.2.next in subst (λ v. v * o.shape.k ≤ dones es) next (omega arith)
paced o (Acked version ∷ es) f = paced o es f.0
paced o (Fault cause ∷ es) f = paced o es f.0

-- two multiples of k less than one step apart are equal
pub same_factor : (k a b : ℕ) → 1 ≤ k → a * k < (b + 1) * k → b * k ≤ a * k → a ≡ b
same_factor k a b some less more = either (cases_order a b)
  where
    either : (a ≡ b) ⊎ ((a < b) ⊎ (b < a)) → a ≡ b
    either (inl same) = same
    either (inr (inl low)) = let up : (a + 1) * k ≤ b * k = mul-le-mul_right k (omega arith) in absurd (omega arith)
    either (inr (inr high)) = let up : (b + 1) * k ≤ a * k = mul-le-mul_right k (omega arith) in absurd (omega arith)

-- the newest event is a Done
record IsNewestDone (es : List Event) : Type 0 where
  arrival : ℕ
  taken : List Bucket
  earlier : List Event
  is : es ≡ Done arrival taken ∷ earlier

-- if a write-back is due, the newest event is its Done
newest_is_done : (o : Opening) (es : List Event) → FollowsLawfully o es → 1 ≤ o.shape.k → dones es ≡ (issues es + 1) * o.shape.k → IsNewestDone es
newest_is_done o [] f some h = absurd (omega arith)
newest_is_done o (Arrive client op word ∷ es) f some h = let owes = f.2.0 in absurd (omega arith)
newest_is_done o (Done arrival taken ∷ es) f some h = record { arrival = arrival; taken = taken; earlier = es; is = refl }
newest_is_done o (Issue version nonce buckets ∷ es) f some h =
    let due = f.2.due in
    let same : dones es ≡ (issues es + 1) * o.shape.k = due ∙ ap (λ v. v * o.shape.k) f.2.next in
    absurd (omega arith)
newest_is_done o (Acked version ∷ es) f some h = let owes = f.2.0 in absurd (omega arith)
newest_is_done o (Fault cause ∷ es) f some h = let owes = f.2.0 in absurd (omega arith)

-- if a write-back is due, nothing else may follow
record IsDue (o : Opening) (es : List Event) (e : Event) (version : ℕ) : Type 0 where
  nonce : ℕ
  buckets : List Bucket
  is : e ≡ Issue version nonce buckets

due_follows : (o : Opening) (es : List Event) (e : Event) → FollowsLawfully o (e ∷ es) → dones es ≡ (issues es + 1) * o.shape.k → IsDue o es e (issues es + 1)
due_follows o es (Arrive client op word) f h = let owes = f.2.0 in absurd (omega arith)
due_follows o es (Done arrival taken) f h = let owes = f.2.0 in absurd (omega arith)
due_follows o es (Issue version nonce buckets) f h = record { nonce = nonce; buckets = buckets; is = ap (λ v. Issue v nonce buckets) f.2.next }
due_follows o es (Acked version) f h = let owes = f.2.0 in absurd (omega arith)
due_follows o es (Fault cause) f h = let owes = f.2.0 in absurd (omega arith)

-- ---- arrivals

pub arrived_within : (o : Opening) (es : List Event) → FollowsLawfully o es → arrived es ≤ session_limit o.shape
arrived_within o [] f = omega arith
arrived_within o (Arrive client op word ∷ es) f = let less = f.2.1 in omega arith
arrived_within o (Done arrival taken ∷ es) f = arrived_within o es f.0
arrived_within o (Issue version nonce buckets ∷ es) f = arrived_within o es f.0
arrived_within o (Acked version ∷ es) f = arrived_within o es f.0
arrived_within o (Fault cause ∷ es) f = arrived_within o es f.0

-- ---- write-backs

-- whether a version was written back
abbrev pub has_version : List Event → ℕ → Bool
has_version [] v = false
has_version (Arrive client op word ∷ es) v = has_version es v
has_version (Done arrival taken ∷ es) v = has_version es v
has_version (Issue version nonce buckets ∷ es) v = nat_eq version v || has_version es v
has_version (Acked version ∷ es) v = has_version es v
has_version (Fault cause ∷ es) v = has_version es v

-- each version so far was written back
version_is_there : (o : Opening) (es : List Event) (v : ℕ) → FollowsLawfully o es → 0 < v → v ≤ issues es → has_version es v ≡ true
version_is_there o [] v f some low = absurd (omega arith)
version_is_there o (Arrive client op word ∷ es) v f some low = version_is_there o es v f.0 some low
version_is_there o (Done arrival taken ∷ es) v f some low = version_is_there o es v f.0 some low
version_is_there o (Issue version nonce buckets ∷ es) v f some low = either (cases_eq version v) (λ older. version_is_there o es v f.0 some older)
  where
    or_true : (t : Bool) → (t || true) ≡ true
    or_true true = refl
    or_true false = refl

    either : (version ≡ v) ⊎ (version ≡ v → ⊥) → (v ≤ issues es → has_version es v ≡ true) → (nat_eq version v || has_version es v) ≡ true
    either (inl same) ih = rw (eq-eqb version v same) refl
    either (inr other) ih = rw (ih (let next = f.2.next in omega (arith, other))) (or_true (nat_eq version v))
version_is_there o (Acked version ∷ es) v f some low = version_is_there o es v f.0 some low
version_is_there o (Fault cause ∷ es) v f some low = version_is_there o es v f.0 some low

abbrev pub IsIssueOf : ℕ → Event → Type 0
IsIssueOf v e = (nonce : ℕ) × (buckets : List Bucket) × (e ≡ Issue v nonce buckets)

pub version_step : (v : ℕ) (e : Event) (es : List Event) → has_version (e ∷ es) v ≡ true → IsIssueOf v e ⊎ (has_version es v ≡ true)
version_step v (Arrive client op word) es h = inr h
version_step v (Done arrival taken) es h = inr h
version_step v (Issue version nonce buckets) es h = either (or_cases (nat_eq version v) (has_version es v) h)
  where
    either : (nat_eq version v ≡ true) ⊎ (has_version es v ≡ true) → IsIssueOf v (Issue version nonce buckets) ⊎ (has_version es v ≡ true)
    either (inl same) = inl (nonce, buckets, ap (λ u. Issue u nonce buckets) (eqb-true version v same))
    either (inr earlier) = inr earlier
version_step v (Acked version) es h = inr h
version_step v (Fault cause) es h = inr h

-- ---- the whole

module _ (o : Opening) (events : List Event) (f : FollowsLawfully o (reverse events)) (owes : OwesNone o (reverse events)) where
  within : (p : ℕ) (e : Event) → IsAt events p e → p < length events
  within p e at = slice_get_within events p e at

  period : 1 ≤ o.shape.k
  period = (follows_opening o (reverse events) f).shape.period_low

  arrivals : ArrivalsAreLawful o events
  arrivals = record {
    few = arrived_within o (reverse events) f;
    made = λ p client op word at. let may = (follows_at o events p (Arrive client op word) f at).2 in (may.2, may.3);
  }

  -- a repeated Done isn't of an arrival under way
  not_again : (p q arrival : ℕ) (taken other : List Bucket) → IsAt events p (Done arrival taken) → IsAt events q (Done arrival other) → p < q → ⊥
  not_again p q arrival taken other at there less =
      let again = passes_before (λ es. is_done es arrival) (λ e es h. done_kept arrival e es h) events p (Done arrival taken) at
      (rw (eq-eqb arrival arrival refl) refl) q less (let in_list = within q (Done arrival other) there in omega arith) in
      true≢false (sym again ∙ (follows_at o events q (Done arrival other) f there).2.1.under_way)

  done_once : (p q arrival : ℕ) (taken other : List Bucket) → IsAt events p (Done arrival taken) → IsAt events q (Done arrival other) → p ≡ q
  done_once p q arrival taken other at there = either (cases_order p q)
    where
      either : (p ≡ q) ⊎ ((p < q) ⊎ (q < p)) → p ≡ q
      either (inl same) = same
      either (inr (inl less)) = absurd (not_again p q arrival taken other at there less)
      either (inr (inr less)) = absurd (not_again q p arrival other taken there at less)

  dones_are : DonesAreLawful o events
  dones_are = record {
    once = done_once;
    after = λ p arrival taken at. (follows_at o events p (Done arrival taken) f at).2.1.arrived;
    nodes = λ p arrival taken at. (follows_at o events p (Done arrival taken) f at).2.1.nodes;
    in_form = λ p arrival taken at. (follows_at o events p (Done arrival taken) f at).2.1.in_form;
    versions = λ p arrival taken at. (follows_at o events p (Done arrival taken) f at).2.1.versions;
  }

  issue_follows : (p version nonce : ℕ) (buckets : List Bucket) → IsAt events p (Issue version nonce buckets)
      → (q arrival : ℕ) × (taken : List Bucket) × (p ≡ q + 1) × IsAt events q (Done arrival taken) × (dones (before events p) ≡ version * o.shape.k)
  issue_follows p version nonce buckets at =
      let may = follows_at o events p (Issue version nonce buckets) f at in
      let n = newest_is_done o (before events p) may.0 period (may.2.due ∙ ap (λ v. v * o.shape.k) may.2.next) in
      let place = newest_at events p (Done n.arrival n.taken) n.earlier (let less = within p (Issue version nonce buckets) at in omega arith) n.is in
      (place.0, n.arrival, n.taken, place.1, place.2, may.2.due)

  issue_each : (p arrival version : ℕ) (taken : List Bucket) → IsAt events p (Done arrival taken) → dones (before events (p + 1)) ≡ version * o.shape.k
      → (nonce : ℕ) × (buckets : List Bucket) × IsAt events (p + 1) (Issue version nonce buckets)
  issue_each p arrival version taken at full = either (cases_lt (p + 1) (length events))
    where
      Result : Type 0
      Result = (nonce : ℕ) × (buckets : List Bucket) × IsAt events (p + 1) (Issue version nonce buckets)

      more : before events (p + 1) ≡ Done arrival taken ∷ before events p
      more = before_more events p (Done arrival taken) at

      may : FollowsLawfully o (Done arrival taken ∷ before events p)
      may = follows_at o events p (Done arrival taken) f at

      count : dones (before events p) + 1 ≡ version * o.shape.k
      count = sym (ap dones more) ∙ full

      is_next : version ≡ issues (before events p) + 1
      is_next = let owed = may.2.0 in let some = period in let c = count in
          same_factor o.shape.k version (issues (before events p) + 1) period (omega arith) (beyond (cases_lt (issues (before events p)) version))
        where
          beyond : (issues (before events p) < version) ⊎ (version ≤ issues (before events p)) → (issues (before events p) + 1) * o.shape.k ≤ version * o.shape.k
          beyond (inl above) = mul-le-mul_right o.shape.k (omega arith)
          beyond (inr low) = let up : version * o.shape.k ≤ issues (before events p) * o.shape.k = mul-le-mul_right o.shape.k low in
              let pace = paced o (before events p) may.0 in let c = count in absurd (omega arith)

      due : dones (before events (p + 1)) ≡ (issues (before events (p + 1)) + 1) * o.shape.k
      due = full ∙ ap (λ v. v * o.shape.k) (is_next ∙ ap (λ n. n + 1) (sym (ap issues more)))

      either : (p + 1 < length events) ⊎ (length events ≤ p + 1) → Result
      either (inl there) =
          let next = some_at events (p + 1) there in
          let d = due_follows o (before events (p + 1)) next.0 (follows_at o events (p + 1) next.0 f next.1) due in
          let version_is : issues (before events (p + 1)) + 1 ≡ version = ap (λ n. n + 1) (ap issues more) ∙ sym is_next in
          (d.nonce, d.buckets, next.1 ∙ ap (λ e. Some e) (d.is ∙ ap (λ v. Issue v d.nonce d.buckets) version_is))
      either (inr ended) =
          let less = within p (Done arrival taken) at in
          let last : p + 1 ≡ length events = omega arith in
          let all : before events (p + 1) ≡ reverse events = ap (before events) last ∙ before_all events in
          let owed : dones (before events (p + 1)) < (issues (before events (p + 1)) + 1) * o.shape.k = subst (OwesNone o) (sym all) owes in
          let d = due in
          absurd (omega arith)

  issue_written : (p version nonce : ℕ) (buckets : List Bucket) → IsAt events p (Issue version nonce buckets) → IsWriteBack o (take p events) version nonce buckets
  issue_written p version nonce buckets at = record {
    nodes = may.2.nodes ∙ ap (λ n. touched_after o (before events p) (n * o.shape.k)) (let next = may.2.next in omega arith)
        ∙ touched_are_nodes o (take p events) ((version - 1) * o.shape.k) may.0;
    in_form = may.2.in_form;
    versions = may.2.versions;
    counts_on = may.2.counts_on;
    nonces = may.2.nonces;
  }
    where
      may : FollowsLawfully o (Issue version nonce buckets ∷ before events p)
      may = follows_at o events p (Issue version nonce buckets) f at

  issues_are : IssuesAreLawful o events
  issues_are = record { follows = issue_follows; each = issue_each; written = issue_written }

  not_acked_again : (p q version : ℕ) → IsAt events p (Acked version) → IsAt events q (Acked version) → p < q → ⊥
  not_acked_again p q version at there less =
      let again = passes_before (λ es. is_acked es version) (λ e es h. ack_kept version e es h) events p (Acked version) at
      (rw (eq-eqb version version refl) refl) q less (let in_list = within q (Acked version) there in omega arith) in
      true≢false (sym again ∙ (follows_at o events q (Acked version) f there).2.3)

  ack_once : (p q version : ℕ) → IsAt events p (Acked version) → IsAt events q (Acked version) → p ≡ q
  ack_once p q version at there = either (cases_order p q)
    where
      either : (p ≡ q) ⊎ ((p < q) ⊎ (q < p)) → p ≡ q
      either (inl same) = same
      either (inr (inl less)) = absurd (not_acked_again p q version at there less)
      either (inr (inr less)) = absurd (not_acked_again q p version there at less)

  acks_are : AcksAreLawful events
  acks_are = record {
    once = ack_once;
    after = λ p version at.
        let may = follows_at o events p (Acked version) f at in
        let found = found_before (λ es. has_version es version) (IsIssueOf version) refl (λ e es h. version_step version e es h) events p
        (let less = within p (Acked version) at in omega arith) (version_is_there o (before events p) version may.0 may.2.1 may.2.2) in
        (found.0, found.4.0, found.4.1, found.2, found.3 ∙ ap (λ e. Some e) found.4.2);
  }

  faults_are : FaultsAreLawful o events
  faults_are = record {
    last = λ p cause at. last p cause at (cases_lt (p + 1) (length events));
    named = λ p cause at. (follows_at o events p (Fault cause) f at).2.1;
  }
    where
      last : (p : ℕ) (cause : Cause) → IsAt events p (Fault cause) → (p + 1 < length events) ⊎ (length events ≤ p + 1) → p + 1 ≡ length events
      last p cause at (inr ended) = let less = within p (Fault cause) at in omega arith
      last p cause at (inl there) =
          let next = some_at events (p + 1) there in
          let fault : has_fault (before events (p + 1)) ≡ true = ap has_fault (before_more events p (Fault cause) at) in
          absurd (true≢false (sym fault ∙ (follows_at o events (p + 1) next.0 f next.1).1))

  pub lawful_to_whole : IsLawfulWhole o events
  lawful_to_whole = record { arrivals = arrivals; dones = dones_are; issues = issues_are; acks = acks_are; faults = faults_are }
