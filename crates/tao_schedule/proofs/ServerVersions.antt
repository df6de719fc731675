-- The server has the nodes that the proxy let go. Moves and events are newest first.
use Rattle.std.proofs.Common.{◌≡◌, ℕ, ◌+◌, ◌<◌, ◌≤◌, Bool, true, false, not, ◌&&◌, ◌||◌, cond, List, [], ◌∷◌, max, is_some, refl, sym, ap, ◌∙◌, subst, arith, inl, inr, ◌⊎◌, nat_eq, nat_lt}
use Rattle.std.proofs.Math.Nat.{max-eq_right, max-le, le-max_left, le-max_right}
use Rattle.std.proofs.lemmas.Bool.{eqb-true, ltb-true, lt-ltb, true≢false, and_parts, and_cases, and_from, or_parts, or_cases, not-true, not-false, not_from_false}
use Rattle.tao_base.specs.declared.calls.Op.{Op}
use Rattle.tao_base.specs.declared.session.Event.{Event}
use Rattle.tao_base.specs.declared.session.Event.TheVariants.{Arrive, Done, Issue, Acked}
use Rattle.tao_base.specs.declared.storage.Bucket.{Bucket}
use Rattle.tao_base.specs.Session.{Opening}
use Rattle.tao_model.specs.Events.{arrived, issues, is_done, is_under_way}
use Rattle.tao_model.specs.Requests.{fetches}
use Rattle.tao_model.specs.Residence.{bucket_of, is_issued, is_covered, departs, is_resident, newest_version}
use Rattle.tao_model.specs.Lawful.{FollowsLawfully}
use Rattle.tao_model.proofs.DonesInOrder.{fetch_stays}
use Rattle.tao_model.proofs.NewestWrites.{newest_within}
use Rattle.tao_laws.proofs.WrittenNodes.{issued_from, away_unwritten, leaves_parts, leaves_from}
use Rattle.tao_laws.proofs.AskedNodes.{covers}
use Rattle.tao_schedule.specs.Moves.{Move, Arrives, Serves, Completes, Applies, Acknowledges, server_version, served_version, is_served, is_applied}
use Rattle.tao_schedule.specs.Schedules.{Goes, IsSchedule, TakesIn}
use Rattle.tao_schedule.specs.Laws.{ServerInStep, StaysInStep}

-- ---- under way

pub under_parts : (es : List Event) (i : ℕ) → is_under_way es i ≡ true → (i < arrived es) × (is_done es i ≡ false)
under_parts es i h =
    let parts = and_parts (nat_lt i (arrived es)) (not (is_done es i)) h in
    (ltb-true i (arrived es) parts.0, not-true (is_done es i) parts.1)

pub under_from : (es : List Event) (i : ℕ) → i < arrived es → is_done es i ≡ false → is_under_way es i ≡ true
under_from es i there open_too = and_from (nat_lt i (arrived es)) (not (is_done es i)) (lt-ltb i (arrived es) there) (not_from_false (is_done es i) open_too)

-- ---- a served read was requested, and an applied write arrived

taken_arrived : (o : Opening) (es : List Event) (fetch : ℕ) (now : List Event) → TakesIn o es fetch now → arrived now ≡ arrived es
taken_arrived o es fetch now t = either t.2
  where
    either : ((now ≡ Done fetch t.1 ∷ es) ⊎ ((version : ℕ) × (nonce : ℕ) × (buckets : List Bucket) × (now ≡ Issue version nonce buckets ∷ Done fetch t.1 ∷ es))) → arrived now ≡ arrived es
    either (inl is) = ap arrived is
    either (inr (version, nonce, buckets, is)) = ap arrived is

pub served_below : (o : Opening) (ms : List Move) (es : List Event) (i node : ℕ) → IsSchedule o ms es → is_served ms i node ≡ true → i < arrived es
unfolding IsSchedule Goes
served_below o [] es i node s h = absurd (true≢false (sym h))
served_below o (Arrives client op word ∷ ms) es i node s h = let before = served_below o ms s.0 i node s.1 h in subst (λ l. i < arrived l) (sym s.2.1) (omega arith)
served_below o (Serves fetch served ∷ ms) es i node s h =
    subst (λ l. i < arrived l) (sym s.2.3) (either (or_cases (nat_eq fetch i && nat_eq served node) (is_served ms i node) h) (λ earlier. served_below o ms s.0 i node s.1 earlier))
  where
    either : ((nat_eq fetch i && nat_eq served node) ≡ true) ⊎ (is_served ms i node ≡ true) → (is_served ms i node ≡ true → i < arrived s.0) → i < arrived s.0
    either (inl now) ih =
        let same : fetch ≡ i = eqb-true fetch i (and_parts (nat_eq fetch i) (nat_eq served node) now).0 in
        let there = (under_parts s.0 fetch s.2.0).0 in
        omega arith
    either (inr earlier) ih = ih earlier
served_below o (Completes fetch ∷ ms) es i node s h =
    let before = served_below o ms s.0 i node s.1 h in let same = taken_arrived o s.0 fetch es s.2.2 in omega arith
served_below o (Applies version applied ∷ ms) es i node s h = subst (λ l. i < arrived l) (sym s.2.2) (served_below o ms s.0 i node s.1 h)
served_below o (Acknowledges version ∷ ms) es i node s h = subst (λ l. i < arrived l) (sym s.2.2) (served_below o ms s.0 i node s.1 h)

reached_step : (t : Bool) (version v node server : ℕ) (same earlier : Bool) → ((same && t) || earlier) ≡ true → (same ≡ true → version ≡ v) → (earlier ≡ true → v ≤ server)
    → v ≤ cond t (max version server) server
reached_step true version v node server same earlier h at ih = either (or_cases (same && true) earlier h)
  where
    either : ((same && true) ≡ true) ⊎ (earlier ≡ true) → v ≤ max version server
    either (inl now) = let is = at (and_parts same true now).0 in let up = le-max_left version server in omega arith
    either (inr before) = let le = ih before in let up = le-max_right version server in omega arith
reached_step false version v node server same earlier h at ih = either (or_cases (same && false) earlier h)
  where
    either : ((same && false) ≡ true) ⊎ (earlier ≡ true) → v ≤ server
    either (inl now) = absurd (true≢false (sym (and_parts same false now).1))
    either (inr before) = ih before

pub applied_reached : (ms : List Move) (v node : ℕ) → is_applied ms v node ≡ true → v ≤ server_version ms node
applied_reached [] v node h = absurd (true≢false (sym h))
applied_reached (Arrives client op word ∷ ms) v node h = applied_reached ms v node h
applied_reached (Serves fetch served ∷ ms) v node h = applied_reached ms v node h
applied_reached (Completes fetch ∷ ms) v node h = applied_reached ms v node h
applied_reached (Applies version applied ∷ ms) v node h =
    reached_step (nat_eq applied node) version v node (server_version ms node) (nat_eq version v) (is_applied ms v node) h (eqb-true version v) (λ earlier. applied_reached ms v node earlier)
applied_reached (Acknowledges version ∷ ms) v node h = applied_reached ms v node h

-- ---- the moves, one by one

after_arrive : (o : Opening) (ms : List Move) (es : List Event) (client : ℕ) (op : Op) (word node : ℕ) → IsSchedule o ms es → FollowsLawfully o es → ServerInStep o ms es node
    → ServerInStep o (Arrives client op word ∷ ms) (Arrive client op word ∷ es) node
after_arrive o ms es client op word node s f h = record {
  not_ahead = h.not_ahead;
  away = h.away;
  served = λ i way on read away.
      let there = served_below o ms es i node s read in
      h.served i (under_from es i there (under_parts (Arrive client op word ∷ es) i way).1) (sym (fetch_stays o es (Arrive client op word) i node f there) ∙ on) read away;
}

after_serve : (o : Opening) (ms : List Move) (es : List Event) (fetch served node : ℕ) → ServerInStep o ms es node → ServerInStep o (Serves fetch served ∷ ms) es node
after_serve o ms es fetch served node h = record {
  not_ahead = h.not_ahead;
  away = h.away;
  served = λ i way on read away. either i (nat_eq fetch i && nat_eq served node) read (λ earlier. h.served i way on earlier away) (h.away away);
}
  where
    either : (i : ℕ) (t : Bool) → (t || is_served ms i node) ≡ true → (is_served ms i node ≡ true → served_version ms i node ≡ newest_version es node)
        → server_version ms node ≡ newest_version es node → cond t (server_version ms node) (served_version ms i node) ≡ newest_version es node
    either i true read earlier now = now
    either i false read earlier now = earlier read

after_done : (o : Opening) (ms : List Move) (es : List Event) (fetch : ℕ) (taken : List Bucket) (node : ℕ) → IsSchedule o ms es → FollowsLawfully o es → ServerInStep o ms es node
    → ServerInStep o (Completes fetch ∷ ms) (Done fetch taken ∷ es) node
after_done o ms es fetch taken node s f h = record {
  not_ahead = h.not_ahead;
  away = λ away. h.away (or_parts (is_resident o es node) (fetches o es fetch node) away).0;
  served = λ i way on read away.
      let there = served_below o ms es i node s read in
      h.served i (under_from es i there (or_parts (nat_eq fetch i) (is_done es i) (under_parts (Done fetch taken ∷ es) i way).1).1)
      (sym (fetch_stays o es (Done fetch taken) i node f there) ∙ on) read (or_parts (is_resident o es node) (fetches o es fetch node) away).0;
}

after_issue : (o : Opening) (ms : List Move) (es : List Event) (version nonce : ℕ) (buckets : List Bucket) (node : ℕ) → FollowsLawfully o (Issue version nonce buckets ∷ es)
    → ServerInStep o ms es node → ServerInStep o ms (Issue version nonce buckets ∷ es) node
after_issue o ms es version nonce buckets node f h = record {
  not_ahead = grown (is_some (bucket_of node buckets)) h.not_ahead (newest_within o es node f.0) f.2.next;
  away = λ away. h.away away ∙ sym (kept away);
  served = λ i way on read away.
      let there = (under_parts es i way).0 in h.served i way (sym (fetch_stays o es (Issue version nonce buckets) i node f.0 there) ∙ on) read away ∙ sym (kept away);
}
  where
    grown : (t : Bool) → server_version ms node ≤ newest_version es node → newest_version es node ≤ issues es → version ≡ issues es + 1
        → server_version ms node ≤ cond t version (newest_version es node)
    grown true ahead within next = omega arith
    grown false ahead within next = ahead

    kept : is_resident o es node ≡ false → cond (is_some (bucket_of node buckets)) version (newest_version es node) ≡ newest_version es node
    kept away = ap (λ b. cond (is_some b) version (newest_version es node)) (away_unwritten o es version nonce buckets node f.0 f.2 away)

after_apply : (o : Opening) (ms : List Move) (es : List Event) (version applied node : ℕ) → FollowsLawfully o es → is_issued es version applied ≡ true → ServerInStep o ms es node
    → ServerInStep o (Applies version applied ∷ ms) es node
after_apply o ms es version applied node f issued h = record {
  not_ahead = ahead (nat_eq applied node) refl;
  away = λ away. same (nat_eq applied node) refl (h.away away);
  served = h.served;
}
  where
    high : nat_eq applied node ≡ true → version ≤ newest_version es node
    high is = let low = (issued_from o es version applied f issued).1 in subst (λ w. version ≤ newest_version es w) (eqb-true applied node is) low

    ahead : (t : Bool) → nat_eq applied node ≡ t → cond t (max version (server_version ms node)) (server_version ms node) ≤ newest_version es node
    ahead true is = max-le (high is) h.not_ahead
    ahead false is = h.not_ahead

    same : (t : Bool) → nat_eq applied node ≡ t → server_version ms node ≡ newest_version es node
        → cond t (max version (server_version ms node)) (server_version ms node) ≡ newest_version es node
    same true is at = let le = high is in max-eq_right (omega arith) ∙ at
    same false is at = at

after_ack : (o : Opening) (ms : List Move) (es : List Event) (version node : ℕ) → FollowsLawfully o es
    → (is_issued es version node ≡ true → is_applied ms version node ≡ true) → ServerInStep o ms es node
    → ServerInStep o (Acknowledges version ∷ ms) (Acked version ∷ es) node
after_ack o ms es version node f applied h = record {
  not_ahead = h.not_ahead;
  away = λ away. leaves (and_cases (is_resident o es node) (not (departs o es version node)) away);
  served = λ i way on read away.
      let there = (under_parts es i way).0 in
      let on_before : fetches o es i node ≡ true = sym (fetch_stays o es (Acked version) i node f there) ∙ on in
      h.served i way on_before read (stays (and_cases (is_resident o es node) (not (departs o es version node)) away) (covers o es i node there (under_parts es i way).1 on_before));
}
  where
    leaves : (is_resident o es node ≡ false) ⊎ (not (departs o es version node) ≡ false) → server_version ms node ≡ newest_version es node
    leaves (inl earlier) = h.away earlier
    leaves (inr gone) =
        let parts = leaves_parts o es version node (not-false (departs o es version node) gone) in
        let newest = leaves_from o es version node f (not-false (departs o es version node) gone) in
        let reached = applied_reached ms version node (applied parts.0) in
        let ahead = h.not_ahead in
        omega arith

    stays : (is_resident o es node ≡ false) ⊎ (not (departs o es version node) ≡ false) → (is_covered o es node ≡ false → ⊥) → is_resident o es node ≡ false
    stays (inl earlier) covered = earlier
    stays (inr gone) covered = absurd (covered (leaves_parts o es version node (not-false (departs o es version node) gone)).2)

-- ---- all moves

none_served : (o : Opening) (node : ℕ) → ServerInStep o [] [] node
none_served o node = record { not_ahead = omega arith; away = λ away. refl; served = λ i way on read away. refl }

after_taking : (o : Opening) (ms : List Move) (es : List Event) (fetch : ℕ) (taken : List Bucket) (now : List Event) (node : ℕ) → IsSchedule o ms es
    → ((now ≡ Done fetch taken ∷ es) ⊎ ((version : ℕ) × (nonce : ℕ) × (buckets : List Bucket) × (now ≡ Issue version nonce buckets ∷ Done fetch taken ∷ es)))
    → FollowsLawfully o now → (FollowsLawfully o es → ServerInStep o ms es node) → ServerInStep o (Completes fetch ∷ ms) now node
after_taking o ms es fetch taken now node s (inl is) f ih =
    let follows = subst (FollowsLawfully o) is f in
    subst (λ l. ServerInStep o (Completes fetch ∷ ms) l node) (sym is) (after_done o ms es fetch taken node s follows.0 (ih follows.0))
after_taking o ms es fetch taken now node s (inr (version, nonce, buckets, is)) f ih =
    let follows = subst (FollowsLawfully o) is f in
    subst (λ l. ServerInStep o (Completes fetch ∷ ms) l node) (sym is)
    (after_issue o (Completes fetch ∷ ms) (Done fetch taken ∷ es) version nonce buckets node follows (after_done o ms es fetch taken node s follows.0.0 (ih follows.0.0)))

pub stays_in_step : StaysInStep
unfolding IsSchedule Goes
stays_in_step o [] es node s f = subst (λ l. ServerInStep o [] l node) (sym s) (none_served o node)
stays_in_step o (Arrives client op word ∷ ms) es node s f =
    let before = (subst (FollowsLawfully o) s.2.1 f).0 in
    subst (λ l. ServerInStep o (Arrives client op word ∷ ms) l node) (sym s.2.1) (after_arrive o ms s.0 client op word node s.1 before (stays_in_step o ms s.0 node s.1 before))
stays_in_step o (Serves fetch served ∷ ms) es node s f =
    let before = subst (FollowsLawfully o) s.2.3 f in
    subst (λ l. ServerInStep o (Serves fetch served ∷ ms) l node) (sym s.2.3) (after_serve o ms s.0 fetch served node (stays_in_step o ms s.0 node s.1 before))
stays_in_step o (Completes fetch ∷ ms) es node s f =
    after_taking o ms s.0 fetch s.2.2.1 es node s.1 s.2.2.2 f (λ before. stays_in_step o ms s.0 node s.1 before)
stays_in_step o (Applies version applied ∷ ms) es node s f =
    let before = subst (FollowsLawfully o) s.2.2 f in
    subst (λ l. ServerInStep o (Applies version applied ∷ ms) l node) (sym s.2.2) (after_apply o ms s.0 version applied node before s.2.1 (stays_in_step o ms s.0 node s.1 before))
stays_in_step o (Acknowledges version ∷ ms) es node s f =
    let before = (subst (FollowsLawfully o) s.2.2 f).0 in
    subst (λ l. ServerInStep o (Acknowledges version ∷ ms) l node) (sym s.2.2) (after_ack o ms s.0 version node before (s.2.1 node) (stays_in_step o ms s.0 node s.1 before))
