-- A list of events that is lawful as a whole follows lawfully, event by event.
use Rattle.std.proofs.Common.{◌≡◌, ℕ, zero, suc, ◌+◌, ◌-◌, ◌*◌, ◌<◌, ◌≤◌, Bool, true, false, ◌||◌, List, [], ◌∷◌, ◌++◌, reverse, length, take, drop, Some, refl, sym, ap, ◌∙◌, subst, arith, inl, inr, ◌⊎◌, nat_eq, add-one}
use Rattle.std.proofs.lemmas.Bool.{cases_lt, true≢false, or_cases, eqb-true, eq-eqb, false_from_ne_true}
use Rattle.std.proofs.lemmas.Option.{slice_get_within}
use Rattle.tao_base.specs.declared.calls.Op.{Op}
use Rattle.tao_base.specs.declared.session.Cause.{Cause}
use Rattle.tao_base.specs.declared.session.Event.{Event}
use Rattle.tao_base.specs.declared.session.Event.TheVariants.{Arrive, Done, Issue, Acked, Fault}
use Rattle.tao_base.specs.declared.storage.Bucket.{Bucket}
use Rattle.tao_base.specs.Session.{Opening}
use Rattle.tao_model.specs.Events.{arrived, dones, issues, is_done, is_acked, has_fault}
use Rattle.tao_model.specs.Lawful.{IsOpening, FollowsLawfully, MayFollow, OwesNone, touched_after}
use Rattle.tao_model.specs.WholeRecords.{IsAt, before, IsWriteBack, IsLawfulWhole, LawfulMeans}
use Rattle.tao_model.proofs.Places.{arrived_grows}
use Rattle.tao_model.proofs.DonesInOrder.{touched_are_nodes}
use Rattle.tao_model.proofs.EventPlaces.{before_more, before_all, at_split, some_at, one_at, found_before, passes_before}
use Rattle.tao_model.proofs.LawfulToWhole.{same_factor, paced, has_version, lawful_to_whole}

-- ---- if a test passes before a place, the event that made it pass comes earlier

abbrev IsDoneOf : ℕ → Event → Type 0
IsDoneOf i e = (taken : List Bucket) × (e ≡ Done i taken)

done_step : (i : ℕ) (e : Event) (es : List Event) → is_done (e ∷ es) i ≡ true → IsDoneOf i e ⊎ (is_done es i ≡ true)
done_step i (Arrive client op word) es h = inr h
done_step i (Done arrival taken) es h = either (or_cases (nat_eq arrival i) (is_done es i) h)
  where
    either : (nat_eq arrival i ≡ true) ⊎ (is_done es i ≡ true) → IsDoneOf i (Done arrival taken) ⊎ (is_done es i ≡ true)
    either (inl same) = inl (taken, ap (λ a. Done a taken) (eqb-true arrival i same))
    either (inr earlier) = inr earlier
done_step i (Issue version nonce buckets) es h = inr h
done_step i (Acked version) es h = inr h
done_step i (Fault cause) es h = inr h

ack_step : (v : ℕ) (e : Event) (es : List Event) → is_acked (e ∷ es) v ≡ true → (e ≡ Acked v) ⊎ (is_acked es v ≡ true)
ack_step v (Arrive client op word) es h = inr h
ack_step v (Done arrival taken) es h = inr h
ack_step v (Issue version nonce buckets) es h = inr h
ack_step v (Acked version) es h = either (or_cases (nat_eq version v) (is_acked es v) h)
  where
    either : (nat_eq version v ≡ true) ⊎ (is_acked es v ≡ true) → (Acked version ≡ Acked v) ⊎ (is_acked es v ≡ true)
    either (inl same) = inl (ap (λ u. Acked u) (eqb-true version v same))
    either (inr earlier) = inr earlier
ack_step v (Fault cause) es h = inr h

abbrev IsFault : Event → Type 0
IsFault e = (cause : Cause) × (e ≡ Fault cause)

fault_step : (e : Event) (es : List Event) → has_fault (e ∷ es) ≡ true → IsFault e ⊎ (has_fault es ≡ true)
fault_step (Arrive client op word) es h = inr h
fault_step (Done arrival taken) es h = inr h
fault_step (Issue version nonce buckets) es h = inr h
fault_step (Acked version) es h = inr h
fault_step (Fault cause) es h = inl (cause, refl)

version_kept : (v : ℕ) (e : Event) (es : List Event) → has_version es v ≡ true → has_version (e ∷ es) v ≡ true
version_kept v (Arrive client op word) es h = h
version_kept v (Done arrival taken) es h = h
version_kept v (Issue version nonce buckets) es h = rw h (or_true (nat_eq version v))
  where
    or_true : (t : Bool) → (t || true) ≡ true
    or_true true = refl
    or_true false = refl
version_kept v (Acked version) es h = h
version_kept v (Fault cause) es h = h

-- a version that was written back is one of those so far
version_within : (o : Opening) (es : List Event) (v : ℕ) → FollowsLawfully o es → has_version es v ≡ true → (0 < v) × (v ≤ issues es)
version_within o [] v f h = absurd (true≢false (sym h))
version_within o (Arrive client op word ∷ es) v f h = version_within o es v f.0 h
version_within o (Done arrival taken ∷ es) v f h = version_within o es v f.0 h
version_within o (Issue version nonce buckets ∷ es) v f h = either (or_cases (nat_eq version v) (has_version es v) h) (λ older. version_within o es v f.0 older)
  where
    either : (nat_eq version v ≡ true) ⊎ (has_version es v ≡ true) → (has_version es v ≡ true → (0 < v) × (v ≤ issues es)) → (0 < v) × (v ≤ issues es + 1)
    either (inl same) ih = let at = eqb-true version v same in let next = f.2.next in (omega arith, omega arith)
    either (inr older) ih = let rest = ih older in let some = rest.0 in let low = rest.1 in (some, omega arith)
version_within o (Acked version ∷ es) v f h = version_within o es v f.0 h
version_within o (Fault cause ∷ es) v f h = version_within o es v f.0 h

-- ---- place by place

module _ (o : Opening) (events : List Event) (is : IsOpening o) (w : IsLawfulWhole o events) where
  -- the next event has to be the write-back that is due
  record IsOwing (p : ℕ) : Type 0 where
    done_at : ℕ
    arrival : ℕ
    taken : List Bucket
    place : p ≡ done_at + 1
    there : IsAt events done_at (Done arrival taken)
    due : dones (before events p) ≡ (issues (before events p) + 1) * o.shape.k

  record IsSo (p : ℕ) : Type 0 where
    follows : FollowsLawfully o (before events p)
    owes : OwesNone o (before events p) ⊎ IsOwing p

  period : 1 ≤ o.shape.k
  period = is.shape.period_low

  within : (p : ℕ) (e : Event) → IsAt events p e → p < length events
  within p e at = slice_get_within events p e at

  no_fault : (p : ℕ) → p < length events → has_fault (before events p) ≡ false
  no_fault p low = false_from_ne_true (has_fault (before events p)) (λ h.
      let found = found_before has_fault IsFault refl (λ e es k. fault_step e es k) events p (omega arith) h in
      let less = found.2 in
      let last = w.faults.last found.0 found.4.0 (found.3 ∙ ap (λ e. Some e) found.4.1) in
      omega arith)

  -- a write-back that is due comes at once
  due_comes : (p : ℕ) → IsOwing p → (version nonce : ℕ) × (buckets : List Bucket) × IsAt events p (Issue version nonce buckets)
  due_comes p owing =
      let next = w.issues.each owing.done_at owing.arrival (issues (before events p) + 1) owing.taken owing.there (subst (λ q. dones (before events q) ≡ (issues (before events p) + 1) * o.shape.k) owing.place owing.due) in
      (issues (before events p) + 1, next.0, next.1, subst (λ q. IsAt events q (Issue (issues (before events p) + 1) next.0 next.1)) (sym owing.place) next.2)

  -- an event other than a write-back comes only if none is due
  owes_none : (p : ℕ) (e : Event) → IsAt events p e → ((version nonce : ℕ) (buckets : List Bucket) → e ≡ Issue version nonce buckets → ⊥)
      → OwesNone o (before events p) ⊎ IsOwing p → OwesNone o (before events p)
  owes_none p e at other (inl owes) = owes
  owes_none p e at other (inr owing) = let due = due_comes p owing in absurd (other due.0 due.1 due.2 (one_at events p e (Issue due.0 due.1 due.2) at due.3))

  may_arrive : (p client : ℕ) (op : Op) (word : ℕ) → IsAt events p (Arrive client op word) → IsSo p → MayFollow o (before events p) (Arrive client op word)
  may_arrive p client op word at so =
      let made = w.arrivals.made p client op word at in
      let few = w.arrivals.few in
      let grown = arrived_grows (reverse (drop (p + 1) events)) (Arrive client op word ∷ before events p) in
      let all : arrived (reverse events) ≡ arrived (reverse (drop (p + 1) events) ++ Arrive client op word ∷ before events p) = ap arrived (at_split events p (Arrive client op word) at) in
      (owes_none p (Arrive client op word) at (λ version nonce buckets same. cc) so.owes, omega arith, made.0, made.1)

  may_done : (p arrival : ℕ) (taken : List Bucket) → IsAt events p (Done arrival taken) → IsSo p → MayFollow o (before events p) (Done arrival taken)
  may_done p arrival taken at so = (
    owes_none p (Done arrival taken) at (λ version nonce buckets same. cc) so.owes,
    record {
      arrived = w.dones.after p arrival taken at;
      under_way = false_from_ne_true (is_done (before events p) arrival) (λ h.
          let found = found_before (λ es. is_done es arrival) (IsDoneOf arrival) refl (λ e es k. done_step arrival e es k) events p
          (let low = within p (Done arrival taken) at in omega arith) h in
          let less = found.2 in
          let same = w.dones.once found.0 p arrival found.4.0 taken (found.3 ∙ ap (λ e. Some e) found.4.1) at in
          omega arith);
      nodes = w.dones.nodes p arrival taken at;
      in_form = w.dones.in_form p arrival taken at;
      versions = w.dones.versions p arrival taken at;
    },
  )

  is_next : (p version nonce : ℕ) (buckets : List Bucket) → IsAt events p (Issue version nonce buckets) → IsSo p → version ≡ issues (before events p) + 1
  is_next p version nonce buckets at so = either so.owes
    where
      directly : (q arrival : ℕ) × (taken : List Bucket) × (p ≡ q + 1) × IsAt events q (Done arrival taken) × (dones (before events p) ≡ version * o.shape.k)
      directly = w.issues.follows p version nonce buckets at

      more : before events p ≡ Done directly.1 directly.2 ∷ before events directly.0
      more = ap (before events) directly.3 ∙ before_more events directly.0 (Done directly.1 directly.2) directly.4

      pace : issues (before events p) * o.shape.k < dones (before events p)
      pace =
          let f : FollowsLawfully o (Done directly.1 directly.2 ∷ before events directly.0) = subst (FollowsLawfully o) more so.follows in
          let earlier = paced o (before events directly.0) f.0 in
          let count : dones (before events p) ≡ dones (before events directly.0) + 1 = ap dones more in
          let same : issues (before events p) ≡ issues (before events directly.0) = ap issues more in
          subst (λ n. n * o.shape.k < dones (before events p)) (sym same) (omega arith)

      either : OwesNone o (before events p) ⊎ IsOwing p → version ≡ issues (before events p) + 1
      either (inr owing) =
          let due = owing.due in let count = directly.5 in let some = period in
          same_factor o.shape.k version (issues (before events p) + 1) period (omega arith) (omega arith)
      either (inl owes) =
          let count = directly.5 in let fast = pace in
          let same : version ≡ issues (before events p) = same_factor o.shape.k version (issues (before events p)) period (omega arith) (omega arith) in
          let back : version * o.shape.k ≡ issues (before events p) * o.shape.k = ap (λ n. n * o.shape.k) same in
          absurd (omega arith)

  may_issue : (p version nonce : ℕ) (buckets : List Bucket) → IsAt events p (Issue version nonce buckets) → IsSo p → MayFollow o (before events p) (Issue version nonce buckets)
  may_issue p version nonce buckets at so = record {
    next = is_next p version nonce buckets at so;
    due = (w.issues.follows p version nonce buckets at).5;
    nodes = written.nodes ∙ sym (touched_are_nodes o (take p events) ((version - 1) * o.shape.k) so.follows)
        ∙ ap (λ n. touched_after o (before events p) (n * o.shape.k)) (let next = is_next p version nonce buckets at so in omega arith);
    in_form = written.in_form;
    versions = written.versions;
    counts_on = written.counts_on;
    nonces = written.nonces;
  }
    where
      written : IsWriteBack o (take p events) version nonce buckets
      written = w.issues.written p version nonce buckets at

  may_ack : (p version : ℕ) → IsAt events p (Acked version) → IsSo p → MayFollow o (before events p) (Acked version)
  may_ack p version at so =
      let low = within p (Acked version) at in
      let earlier = w.acks.after p version at in
      let some = passes_before (λ es. has_version es version) (λ e es h. version_kept version e es h) events earlier.0 (Issue version earlier.1 earlier.2) earlier.4
      (rw (eq-eqb version version refl) refl) p earlier.3 (omega arith) in
      let known = version_within o (before events p) version so.follows some in (
        owes_none p (Acked version) at (λ v nonce buckets same. cc) so.owes,
        known.0,
        known.1,
        false_from_ne_true (is_acked (before events p) version) (λ h.
            let found = found_before (λ es. is_acked es version) (λ e. e ≡ Acked version) refl (λ e es k. ack_step version e es k) events p (omega arith) h in
            let less = found.2 in
            let same = w.acks.once found.0 p version (found.3 ∙ ap (λ e. Some e) found.4) at in
            omega arith),
      )

  may_fail : (p : ℕ) (cause : Cause) → IsAt events p (Fault cause) → IsSo p → MayFollow o (before events p) (Fault cause)
  may_fail p cause at so = (owes_none p (Fault cause) at (λ version nonce buckets same. cc) so.owes, w.faults.named p cause at)

  -- an event that is neither a Done nor a write-back changes nothing about what is due
  owes_still : (p : ℕ) (e : Event) → IsAt events p e → OwesNone o (before events p) → dones (e ∷ before events p) ≡ dones (before events p)
      → issues (e ∷ before events p) ≡ issues (before events p) → OwesNone o (before events (p + 1)) ⊎ IsOwing (p + 1)
  owes_still p e at owes count same = inl (subst (OwesNone o) (sym (before_more events p e at)) (rw (count, same) owes))

  step : (p : ℕ) (e : Event) → IsAt events p e → IsSo p → IsSo (p + 1)
  step p (Arrive client op word) at so =
      let may = may_arrive p client op word at so in record {
        follows = subst (FollowsLawfully o) (sym (before_more events p (Arrive client op word) at)) (so.follows, no_fault p (within p (Arrive client op word) at), may);
        owes = owes_still p (Arrive client op word) at may.0 refl refl;
      }
  step p (Done arrival taken) at so =
      let may = may_done p arrival taken at so in record {
        follows = subst (FollowsLawfully o) (sym more) (so.follows, no_fault p (within p (Done arrival taken) at), may);
        owes = either may.0 (cases_lt (dones (before events p) + 1) ((issues (before events p) + 1) * o.shape.k));
      }
    where
      more : before events (p + 1) ≡ Done arrival taken ∷ before events p
      more = before_more events p (Done arrival taken) at

      either : OwesNone o (before events p) → (dones (before events p) + 1 < (issues (before events p) + 1) * o.shape.k) ⊎ ((issues (before events p) + 1) * o.shape.k ≤ dones (before events p) + 1)
          → OwesNone o (before events (p + 1)) ⊎ IsOwing (p + 1)
      either owes (inl less) = inl (subst (OwesNone o) (sym more) less)
      either owes (inr full) = inr (record {
        done_at = p;
        arrival = arrival;
        taken = taken;
        place = refl;
        there = at;
        due = ap dones more ∙ omega arith ∙ ap (λ n. (n + 1) * o.shape.k) (sym (ap issues more));
      })
  step p (Issue version nonce buckets) at so =
      let may = may_issue p version nonce buckets at so in record {
        follows = subst (FollowsLawfully o) (sym (before_more events p (Issue version nonce buckets) at)) (so.follows, no_fault p (within p (Issue version nonce buckets) at), may);
        owes = inl (subst (OwesNone o) (sym (before_more events p (Issue version nonce buckets) at))
            (let some = period in let due = may.due in subst (λ v. dones (before events p) < (v + 1) * o.shape.k) may.next (omega arith)));
      }
  step p (Acked version) at so =
      let may = may_ack p version at so in record {
        follows = subst (FollowsLawfully o) (sym (before_more events p (Acked version) at)) (so.follows, no_fault p (within p (Acked version) at), may);
        owes = owes_still p (Acked version) at may.0 refl refl;
      }
  step p (Fault cause) at so =
      let may = may_fail p cause at so in record {
        follows = subst (FollowsLawfully o) (sym (before_more events p (Fault cause) at)) (so.follows, no_fault p (within p (Fault cause) at), may);
        owes = owes_still p (Fault cause) at may.0 refl refl;
      }

  so_far : (p : ℕ) → p ≤ length events → IsSo p
  so_far zero low = record { follows = is; owes = inl (let some = period in omega arith) }
  so_far (suc p) low =
      let there = some_at events p (omega arith) in
      subst IsSo (add-one p) (step p there.0 there.1 (so_far p (omega arith)))

  whole_to_lawful : FollowsLawfully o (reverse events) × OwesNone o (reverse events)
  whole_to_lawful = (subst (FollowsLawfully o) (before_all events) so.follows, subst (OwesNone o) (before_all events) (either so.owes))
    where
      so : IsSo (length events)
      so = so_far (length events) (omega arith)

      either : OwesNone o (before events (length events)) ⊎ IsOwing (length events) → OwesNone o (before events (length events))
      either (inl owes) = owes
      either (inr owing) = let due = due_comes (length events) owing in let low = within (length events) (Issue due.0 due.1 due.2) due.3 in absurd (omega arith)

pub lawful_means : LawfulMeans
lawful_means o events is = (λ f. lawful_to_whole o events f.0 f.1, λ w. whole_to_lawful o events is w)
