-- Counts of a lawful record, and their bounds. The events `es` are newest first.
use Rattle.std.proofs.Common.{◌≡◌, ℕ, suc, ◌+◌, ◌-◌, ◌*◌, ◌<◌, ◌≤◌, Bool, true, false, not, ◌&&◌, ◌||◌, cond, List, [], ◌∷◌, reverse, refl, sym, ap, ◌∙◌, arith, inl, inr, ◌⊎◌, nat_eq, nat_lt, nat_le}
use Rattle.std.proofs.lemmas.Bool.{cases_lt, cases_eq, eq-eqb, ne_eqb, eqb-true, lt-ltb, le-leb, or_cases, and_from, true≢false, false_from_ne_true}
use Rattle.std.proofs.lemmas.Nat.{mul-le}
use Rattle.tao_base.specs.declared.session.Event.{Event}
use Rattle.tao_base.specs.declared.session.Event.TheVariants.{Arrive, Done, Issue, Acked, Fault}
use Rattle.tao_base.specs.Session.{Opening}
use Rattle.tao_model.specs.Events.{arrived, dones, issues, acks, is_done, is_acked}
use Rattle.tao_model.specs.Lawful.{FollowsLawfully}
use Rattle.tao_model.proofs.Places.{done_arrived}
use Rattle.tao_model.proofs.LawfulToWhole.{arrived_within, follows_opening, paced}
use Rattle.tao_laws.specs.Counted.{count_below, IsAllDone, IsAllAcked, CountsAcks, AcksAreCounted, CountsWork, WorkIsCounted, QuietIsCounted}
use Rattle.tao_laws.proofs.Counts.{count_same, count_within, count_full, count_all, count_more}

-- ---- acknowledgements

-- what is acknowledged was issued
pub acked_known : (o : Opening) (es : List Event) (v : ℕ) → FollowsLawfully o es → is_acked es v ≡ true → (0 < v) × (v ≤ issues es)
acked_known o [] v f on = absurd (true≢false (sym on))
acked_known o (Arrive client op word ∷ es) v f on = acked_known o es v f.0 on
acked_known o (Done arrival taken ∷ es) v f on = acked_known o es v f.0 on
acked_known o (Issue version nonce buckets ∷ es) v f on = let known = acked_known o es v f.0 on in (known.0, omega (arith, known.1))
acked_known o (Acked version ∷ es) v f on = either (or_cases (nat_eq version v) (is_acked es v) on) (acked_known o es v f.0)
  where
    either : (nat_eq version v ≡ true) ⊎ (is_acked es v ≡ true) → (is_acked es v ≡ true → (0 < v) × (v ≤ issues es)) → (0 < v) × (v ≤ issues es)
    either (inl here) ih = let same : version ≡ v = eqb-true version v here in let low = f.2.1 in let high = f.2.2 in (omega arith, omega arith)
    either (inr earlier) ih = ih earlier
acked_known o (Fault cause ∷ es) v f on = acked_known o es v f.0 on

-- what is not issued yet is not acknowledged
pub unacked_yet : (o : Opening) (es : List Event) (v : ℕ) → FollowsLawfully o es → issues es < v → is_acked es v ≡ false
unacked_yet o es v f high = false_from_ne_true (is_acked es v) (λ on. let known = (acked_known o es v f on).1 in omega arith)

pub shifted : (es : List Event) (version u : ℕ) → 0 < version → is_acked (Acked version ∷ es) (u + 1) ≡ (nat_eq (version - 1) u || is_acked es (u + 1))
shifted es version u low = ap (λ t. t || is_acked es (u + 1)) (either (cases_eq (version - 1) u))
  where
    either : (version - 1 ≡ u) ⊎ (version - 1 ≡ u → ⊥) → nat_eq version (u + 1) ≡ nat_eq (version - 1) u
    either (inl same) = eq-eqb version (u + 1) (omega arith) ∙ sym (eq-eqb (version - 1) u same)
    either (inr other) = ne_eqb version (u + 1) (λ same. omega (arith, other)) ∙ sym (ne_eqb (version - 1) u other)

acks_counted : (o : Opening) (es : List Event) → FollowsLawfully o es → acks es ≡ count_below (λ u. is_acked es (u + 1)) (issues es)
acks_counted o [] f = refl
acks_counted o (Arrive client op word ∷ es) f = acks_counted o es f.0
acks_counted o (Done arrival taken ∷ es) f = acks_counted o es f.0
acks_counted o (Issue version nonce buckets ∷ es) f =
    let next : suc (issues es) ≡ issues es + 1 = omega arith in
    acks_counted o es f.0
    ∙ sym (ap (λ t. cond t (count_below (λ u. is_acked es (u + 1)) (issues es) + 1) (count_below (λ u. is_acked es (u + 1)) (issues es))) (unacked_yet o es (issues es + 1) f.0 (omega arith)))
    ∙ ap (count_below (λ u. is_acked es (u + 1))) next
acks_counted o (Acked version ∷ es) f =
    let low = f.2.1 in
    let high = f.2.2 in
    let back : version - 1 + 1 ≡ version = omega arith in
    ap (λ n. n + 1) (acks_counted o es f.0)
    ∙ sym (count_more (λ u. is_acked es (u + 1)) (version - 1) (issues es) (omega arith) (ap (is_acked es) back ∙ f.2.3))
    ∙ sym (count_same (λ u. is_acked (Acked version ∷ es) (u + 1)) (λ u. nat_eq (version - 1) u || is_acked es (u + 1)) (issues es) (λ u less. shifted es version u low))
acks_counted o (Fault cause ∷ es) f = acks_counted o es f.0

pub acks_from : (o : Opening) (es : List Event) → FollowsLawfully o es → CountsAcks es
acks_from o es f = record {
  count = count;
  within = within;
  all = all;
  some = λ v low high off. fewer (cases_lt (acks es) (issues es)) (λ full. all full v low high) off;
}
  where
    count : acks es ≡ count_below (λ u. is_acked es (u + 1)) (issues es)
    count = acks_counted o es f

    within : acks es ≤ issues es
    within = let low = count_within (λ u. is_acked es (u + 1)) (issues es) in omega (arith, count)

    all : acks es ≡ issues es → IsAllAcked es
    all full v low high =
        let back : v - 1 + 1 ≡ v = omega arith in
        sym (ap (is_acked es) back) ∙ count_full (λ u. is_acked es (u + 1)) (issues es) (sym count ∙ full) (v - 1) (omega arith)

    fewer : {b : Bool} → (acks es < issues es) ⊎ (issues es ≤ acks es) → (acks es ≡ issues es → b ≡ true) → b ≡ false → acks es < issues es
    fewer (inl less) on off = less
    fewer (inr full) on off = let w = within in absurd (true≢false (sym (on (omega arith)) ∙ off))

pub acks_are_counted : AcksAreCounted
acks_are_counted o events f = acks_from o (reverse events) f

-- ---- arrivals and Dones

dones_counted : (o : Opening) (es : List Event) → FollowsLawfully o es → dones es ≡ count_below (is_done es) (arrived es)
dones_counted o [] f = refl
dones_counted o (Arrive client op word ∷ es) f =
    let next : suc (arrived es) ≡ arrived es + 1 = omega arith in
    dones_counted o es f.0
    ∙ sym (ap (λ t. cond t (count_below (is_done es) (arrived es) + 1) (count_below (is_done es) (arrived es))) (done_arrived o es (arrived es) f.0 (omega arith)))
    ∙ ap (count_below (is_done es)) next
dones_counted o (Done a taken ∷ es) f = ap (λ n. n + 1) (dones_counted o es f.0) ∙ sym (count_more (is_done es) a (arrived es) f.2.1.arrived f.2.1.under_way)
dones_counted o (Issue version nonce buckets ∷ es) f = dones_counted o es f.0
dones_counted o (Acked version ∷ es) f = dones_counted o es f.0
dones_counted o (Fault cause ∷ es) f = dones_counted o es f.0

-- at most one write-back is owed
pub owed_once : (o : Opening) (es : List Event) → FollowsLawfully o es → dones es ≤ (issues es + 1) * o.shape.k
owed_once o [] f = omega arith
owed_once o (Arrive client op word ∷ es) f = owed_once o es f.0
owed_once o (Done arrival taken ∷ es) f = let owes = f.2.0 in omega arith
owed_once o (Issue version nonce buckets ∷ es) f = let ih = owed_once o es f.0 in further (dones es) (issues es) o.shape.k ih
  where
    further : (d m k : ℕ) → d ≤ (m + 1) * k → d ≤ (m + 1 + 1) * k
    further d m k ih = omega arith
owed_once o (Acked version ∷ es) f = owed_once o es f.0
owed_once o (Fault cause ∷ es) f = owed_once o es f.0

pub work_from : (o : Opening) (es : List Event) → FollowsLawfully o es → CountsWork o es
work_from o es f = record {
  count = count;
  within = within;
  all = all;
  some = λ i there off. fewer (cases_lt (dones es) (arrived es)) (λ full. all full i there) off;
  paced = pace;
  owed = owed_once o es f;
  written = few;
  limit = arrived_within o es f;
}
  where
    count : dones es ≡ count_below (is_done es) (arrived es)
    count = dones_counted o es f

    within : dones es ≤ arrived es
    within = let low = count_within (is_done es) (arrived es) in omega (arith, count)

    all : dones es ≡ arrived es → IsAllDone es
    all full = count_full (is_done es) (arrived es) (sym count ∙ full)

    fewer : {b : Bool} → (dones es < arrived es) ⊎ (arrived es ≤ dones es) → (dones es ≡ arrived es → b ≡ true) → b ≡ false → dones es < arrived es
    fewer (inl less) on off = less
    fewer (inr full) on off = let w = within in absurd (true≢false (sym (on (omega arith)) ∙ off))

    pace : issues es * o.shape.k ≤ dones es
    pace = paced o es f

    scaled : (m k n : ℕ) → 1 ≤ k → m * k ≤ n → m ≤ n
    scaled m k n low le = let up : m * 1 ≤ m * k = mul-le m 1 m k (omega arith) low in omega arith

    few : issues es ≤ arrived es
    few = let opening = follows_opening o es f in let scale = scaled (issues es) o.shape.k (dones es) opening.shape.period_low pace in let w = within in omega arith

pub work_is_counted : WorkIsCounted
work_is_counted o events f = work_from o (reverse events) f

-- ---- all is done

pub dones_full : (o : Opening) (es : List Event) → FollowsLawfully o es → IsAllDone es → dones es ≡ arrived es
dones_full o es f all = dones_counted o es f ∙ count_all (is_done es) (arrived es) all

pub quiet_is_counted : QuietIsCounted
quiet_is_counted o es f all none = (dones_full o es f all, acks_counted o es f ∙ count_all (λ u. is_acked es (u + 1)) (issues es) (λ u low. acked u low (is_acked es (u + 1)) refl))
  where
    acked : (u : ℕ) → u < issues es → (t : Bool) → is_acked es (u + 1) ≡ t → is_acked es (u + 1) ≡ true
    acked u low true is = is
    acked u low false is = absurd (true≢false (sym (and_from (nat_lt 0 (u + 1)) (nat_le (u + 1) (issues es) && not (is_acked es (u + 1))) (lt-ltb 0 (u + 1) (omega arith))
        (and_from (nat_le (u + 1) (issues es)) (not (is_acked es (u + 1))) (le-leb (u + 1) (issues es) (omega arith)) (ap not is))) ∙ none (u + 1)))
