-- Arithmetic of the pools.
use Rattle.std.proofs.Common.{◌≡◌, ℕ, zero, suc, ◌+◌, ◌-◌, ◌*◌, ◌<◌, ◌≤◌, false, refl, sym, le_trans, reverse, subst, ap, ◌∙◌, arith, inl, inr, ◌⊎◌, mul-le-mul_right, mul-zero}
use Rattle.std.proofs.lemmas.Bool.{cases_lt}
use Rattle.std.proofs.lemmas.Grind.{div_ceil_times}
use Rattle.tao_base.specs.Limits.{Shape}
use Rattle.tao_model.proofs.LawfulToWhole.{follows_opening}
use Rattle.tao_laws.proofs.CountedWork.{work_from, acks_from}
use Rattle.tao_tables.specs.Pools.{one_if, due, AreCounts, CountsAreKnown, RoomGrows, RoomAtStart, RoomReserve, RoomArrive, RoomDone, RoomIssue, RoomAcked}

-- at least as many write-backs are due as periods are full
full_due : (s : Shape) (m n : ℕ) → 1 ≤ s.k → m * s.k ≤ n → m ≤ due s n
full_due s m n some full = either (cases_lt (due s n) m) (div_ceil_times n s.k some)
  where
    either : (due s n < m) ⊎ (m ≤ due s n) → (n ≤ due s n * s.k) × (due s n * s.k < n + s.k) → m ≤ due s n
    either (inl less) bounds =
        let up : (due s n + 1) * s.k ≤ m * s.k = mul-le-mul_right s.k (omega arith) in
        let high = bounds.0 in
        absurd (apart (due s n) m s.k n some up full high)
      where
        apart : (d m k n : ℕ) → 1 ≤ k → (d + 1) * k ≤ m * k → m * k ≤ n → n ≤ d * k → ⊥
        apart d m k n some up full high = omega arith
    either (inr le) bounds = le

pub room_grows : RoomGrows
room_grows s ready arrivals done issued acked old new keeps has =
    let k1 = keeps.dones in let k2 = keeps.issues in let k3 = keeps.others in let k4 = keeps.orders in let k5 = keeps.stock in
    let k6 = keeps.values in let k7 = keeps.requests in let k8 = keeps.rows in let k9 = keeps.places in
    record {
      for_dones = let h = has.for_dones in omega arith;
      for_issues = more (due s (arrivals + one_if ready)) old.issues new.issues issued has.for_issues k2;
      for_others = more (one_if ready + due s (arrivals + one_if ready)) old.others new.others acked has.for_others k3;
      for_orders = more (due s (arrivals + one_if ready)) old.orders new.orders issued has.for_orders k4;
      for_stock = le_trans has.for_stock k5;
      for_values = let h = has.for_values in omega arith;
      for_requests = let h = has.for_requests in omega arith;
      for_rows = let h = has.for_rows in omega arith;
      for_places = le_trans has.for_places k9;
    }
  where
    more : (d p p' m : ℕ) → d ≤ p + m → p ≤ p' → d ≤ p' + m
    more d p p' m low up = omega arith

-- what is issued is due
issued_due : (s : Shape) (arrivals done issued acked n : ℕ) → AreCounts s arrivals done issued acked → arrivals ≤ n → issued ≤ due s n
issued_due s arrivals done issued acked n counts le = let paced = counts.paced in let within = counts.within in full_due s issued n counts.period (omega arith)

pub counts_are_known : CountsAreKnown
counts_are_known o events f =
    let work = work_from o (reverse events) f in
    record { period = (follows_opening o (reverse events) f).shape.period_low; within = work.within; paced = work.paced; answered = (acks_from o (reverse events) f).within }

-- ---- the start, and one more arrival

none_due : (s : Shape) → 1 ≤ s.k → due s 0 ≡ 0
none_due s some = let bounds = (div_ceil_times 0 s.k some).1 in none (due s 0) s.k some bounds
  where
    none : (d k : ℕ) → 1 ≤ k → d * k < 0 + k → d ≡ 0
    none zero k some less = refl
    none (suc d) k some less = absurd (omega arith)

pub room_at_start : RoomAtStart
room_at_start s pools some = record {
  for_dones = omega arith;
  for_issues = subst (λ d. d ≤ pools.issues + 0) (sym nothing) (omega arith);
  for_others = subst (λ d. 0 + d ≤ pools.others + 0) (sym nothing) (omega arith);
  for_orders = subst (λ d. d ≤ pools.orders + 0) (sym nothing) (omega arith);
  for_stock = subst (λ n. n ≤ pools.stock) (sym (mul-zero (s.l + 1))) (omega arith);
  for_values = omega arith;
  for_requests = omega arith;
  for_rows = omega arith;
  for_places = subst (λ d. d ≤ pools.places) (sym nothing) (omega arith);
}
  where
    nothing : due s (0 + one_if false) ≡ 0
    nothing = none_due s some

pub room_reserve : RoomReserve
room_reserve s arrivals done issued acked pools keeps =
    let k1 = keeps.dones in let k6 = keeps.values in let k7 = keeps.requests in let k8 = keeps.rows in
    record {
      for_dones = omega arith;
      for_issues = back (due s (arrivals + 1)) issued pools.issues keeps.issues;
      for_others = back (1 + due s (arrivals + 1)) acked pools.others keeps.others;
      for_orders = back (due s (arrivals + 1)) issued pools.orders keeps.orders;
      for_stock = keeps.stock;
      for_values = omega arith;
      for_requests = omega arith;
      for_rows = omega arith;
      for_places = keeps.places;
    }
  where
    back : (d m p : ℕ) → d - m ≤ p → d ≤ p + m
    back d m p low = omega arith

-- ---- one event each

pub room_arrive : RoomArrive
room_arrive s arrivals done issued acked pools counts has =
    let requests = has.for_requests in let rows = has.for_rows in let dones = has.for_dones in let values = has.for_values in let within = counts.within in
    record {
      others = first (due s (arrivals + 1)) pools.others has.for_others (issued_due s arrivals done issued acked (arrivals + 1) counts (omega arith)) counts.answered;
      requests = omega arith;
      rows = omega arith;
      left = record {
        for_dones = omega arith;
        for_issues = subst (λ n. due s n ≤ pools.issues + issued) next has.for_issues;
        for_others = subst (λ n. 0 + due s n ≤ pools.others - 1 + acked) next
            (paid (due s (arrivals + 1)) pools.others has.for_others (issued_due s arrivals done issued acked (arrivals + 1) counts (omega arith)) counts.answered);
        for_orders = subst (λ n. due s n ≤ pools.orders + issued) next has.for_orders;
        for_stock = subst (λ n. (s.l + 1) * n ≤ pools.stock) (omega arith) has.for_stock;
        for_values = omega arith;
        for_requests = omega arith;
        for_rows = omega arith;
        for_places = subst (λ n. due s n ≤ pools.places) next has.for_places;
      };
    }
  where
    next : arrivals + 1 ≡ arrivals + 1 + 0
    next = omega arith

    first : (d p : ℕ) → 1 + d ≤ p + acked → issued ≤ d → acked ≤ issued → 0 < p
    first d p low more less = omega arith

    paid : (d p : ℕ) → 1 + d ≤ p + acked → issued ≤ d → acked ≤ issued → 0 + d ≤ p - 1 + acked
    paid d p low more less = omega arith

pub room_done : RoomDone
room_done s ready arrivals done issued acked pools counts less has =
    let dones = has.for_dones in let values = has.for_values in
    record {
      dones = omega arith;
      stock = le_trans one_path stock;
      values = omega arith;
      left = λ taken used few one. record {
        for_dones = omega arith;
        for_issues = has.for_issues;
        for_others = has.for_others;
        for_orders = has.for_orders;
        for_stock = left taken few;
        for_values = omega arith;
        for_requests = has.for_requests;
        for_rows = has.for_rows;
        for_places = has.for_places;
      };
    }
  where
    stock : (s.l + 1) * (arrivals - (done + 1) + one_if ready) + (s.l + 1) ≤ pools.stock
    stock = subst (λ n. n ≤ pools.stock) (ap (λ n. (s.l + 1) * n) more ∙ split (s.l + 1) (arrivals - (done + 1) + one_if ready)) has.for_stock
      where
        more : arrivals - done + one_if ready ≡ arrivals - (done + 1) + one_if ready + 1
        more = omega arith

        split : (a b : ℕ) → a * (b + 1) ≡ a * b + a
        split a b = omega arith

    one_path : s.l + 1 ≤ (s.l + 1) * (arrivals - (done + 1) + one_if ready) + (s.l + 1)
    one_path = higher (s.l + 1) ((s.l + 1) * (arrivals - (done + 1) + one_if ready))
      where
        higher : (a b : ℕ) → a ≤ b + a
        higher a b = omega arith

    left : (taken : ℕ) → taken ≤ s.l + 1 → (s.l + 1) * (arrivals - (done + 1) + one_if ready) ≤ pools.stock - taken
    left taken few = lower ((s.l + 1) * (arrivals - (done + 1) + one_if ready)) (s.l + 1) pools.stock stock few
      where
        lower : (a b p : ℕ) → a + b ≤ p → taken ≤ b → a ≤ p - taken
        lower a b p low few = omega arith

pub room_issue : RoomIssue
room_issue s ready arrivals done issued acked pools counts full has = record {
  issues = one pools.issues has.for_issues next;
  orders = one pools.orders has.for_orders next;
  places = le_trans at_least has.for_places;
  left = record {
    for_dones = has.for_dones;
    for_issues = paid pools.issues has.for_issues next;
    for_others = has.for_others;
    for_orders = paid pools.orders has.for_orders next;
    for_stock = has.for_stock;
    for_values = has.for_values;
    for_requests = has.for_requests;
    for_rows = has.for_rows;
    for_places = has.for_places;
  };
}
  where
    next : issued + 1 ≤ due s (arrivals + one_if ready)
    next = let within = counts.within in full_due s (issued + 1) (arrivals + one_if ready) counts.period (reaches (one_if ready) within full)
      where
        reaches : (r : ℕ) → done ≤ arrivals → done ≡ (issued + 1) * s.k → (issued + 1) * s.k ≤ arrivals + r
        reaches r within full = omega arith

    at_least : issued < due s (arrivals + one_if ready)
    at_least = below issued (due s (arrivals + one_if ready)) next
      where
        below : (m d : ℕ) → m + 1 ≤ d → m < d
        below m d le = omega arith

    one : (p : ℕ) → due s (arrivals + one_if ready) ≤ p + issued → issued + 1 ≤ due s (arrivals + one_if ready) → 0 < p
    one p low more = plain (due s (arrivals + one_if ready)) p low more
      where
        plain : (d p : ℕ) → d ≤ p + issued → issued + 1 ≤ d → 0 < p
        plain d p low more = omega arith

    paid : (p : ℕ) → due s (arrivals + one_if ready) ≤ p + issued → issued + 1 ≤ due s (arrivals + one_if ready) → due s (arrivals + one_if ready) ≤ p - 1 + (issued + 1)
    paid p low more = plain (due s (arrivals + one_if ready)) p low more
      where
        plain : (d p : ℕ) → d ≤ p + issued → issued + 1 ≤ d → d ≤ p - 1 + (issued + 1)
        plain d p low more = omega arith

pub room_acked : RoomAcked
room_acked s ready arrivals done issued acked pools counts less has =
    let due_now = issued_due s arrivals done issued acked (arrivals + one_if ready) counts (omega arith) in
    record {
      others = some (one_if ready) (due s (arrivals + one_if ready)) pools.others has.for_others due_now;
      left = record {
        for_dones = has.for_dones;
        for_issues = has.for_issues;
        for_others = paid (one_if ready) (due s (arrivals + one_if ready)) pools.others has.for_others due_now;
        for_orders = has.for_orders;
        for_stock = has.for_stock;
        for_values = has.for_values;
        for_requests = has.for_requests;
        for_rows = has.for_rows;
        for_places = has.for_places;
      };
    }
  where
    some : (r d p : ℕ) → r + d ≤ p + acked → issued ≤ d → 0 < p
    some r d p low more = omega (arith, less)

    paid : (r d p : ℕ) → r + d ≤ p + acked → issued ≤ d → r + d ≤ p - 1 + (acked + 1)
    paid r d p low more = omega (arith, less)
