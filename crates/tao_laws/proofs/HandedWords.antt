-- Each real arrival hands its word on to the next one on its block. The events `es` are newest first.
use Rattle.std.proofs.Common.{◌≡◌, ℕ, ◌+◌, ◌<◌, ◌≤◌, Bool, true, false, ◌&&◌, cond, List, [], ◌∷◌, reverse, refl, sym, ap, ◌∙◌, arith, inl, inr, ◌⊎◌, nat_eq}
use Rattle.std.proofs.lemmas.Bool.{cases_lt, eqb-true, eq-eqb, true≢false, and_parts, and_from, or_parts, or_cases, false_from_ne_true}
use Rattle.tao_base.specs.declared.calls.Op.{Op}
use Rattle.tao_base.specs.declared.session.Event.{Event}
use Rattle.tao_base.specs.declared.session.Event.TheVariants.{Arrive, Done, Issue, Acked, Fault}
use Rattle.tao_base.specs.declared.storage.Bucket.{Bucket}
use Rattle.tao_base.specs.Session.{Opening}
use Rattle.tao_model.specs.Events.{arrived, is_done, is_on, names}
use Rattle.tao_model.specs.Requests.{is_real, real_now, next_word, word_for, word_used, leaf_at, position_word}
use Rattle.tao_model.specs.Lawful.{FollowsLawfully}
use Rattle.tao_model.proofs.Stays.{on_stays, real_stays, used_stays}
use Rattle.tao_model.proofs.Places.{done_arrived}
use Rattle.tao_model.proofs.OneMoreEvent.{word_for_block}
use Rattle.tao_model.proofs.RealArrivals.{free_means, real_newest, on_newest}
use Rattle.tao_laws.specs.OpenRequests.{IsOpen, IsQuiet, HandsWordsOn, WordsAreHandedOn, LeafIsPosition, FetchesPosition}
use Rattle.tao_laws.proofs.OpenArrivals.{one_open}

-- ---- an arrival

-- an arrival that was already open before
open_before : (es : List Event) (client : ℕ) (op : Op) (word block i : ℕ) → i < arrived es → IsOpen (Arrive client op word ∷ es) block i → IsOpen es block i
open_before es client op word block i older h = record {
  arrived = older;
  on = sym (on_stays es (Arrive client op word) i block older) ∙ h.on;
  real = sym (real_stays es (Arrive client op word) i older) ∙ h.real;
  under_way = h.under_way;
}

quiet_before : (es : List Event) (client : ℕ) (op : Op) (word block : ℕ) → IsQuiet (Arrive client op word ∷ es) block → IsQuiet es block
quiet_before es client op word block quiet i there on real =
    quiet i (omega arith) (on_stays es (Arrive client op word) i block there ∙ on) (real_stays es (Arrive client op word) i there ∙ real)

-- if an arrival on the block is real, the block was quiet
pub was_quiet : (es : List Event) (op : Op) (block : ℕ) → real_now es op ≡ true → names block op ≡ true → IsQuiet es block
was_quiet es op block real named = (free_means (is_on es) (is_real es) (is_done es) (arrived es) block op named).0 real

-- the newest arrival is open on a block if it is real and on it
newest_open : (es : List Event) (client : ℕ) (op : Op) (word block i : ℕ) → i ≡ arrived es → IsOpen (Arrive client op word ∷ es) block i → (real_now es op ≡ true) × (names block op ≡ true)
newest_open es client op word block i at h = (
  sym (real_newest es client op word) ∙ ap (is_real (Arrive client op word ∷ es)) (sym at) ∙ h.real,
  sym (on_newest es client op word block) ∙ ap (λ k. is_on (Arrive client op word ∷ es) k block) (sym at) ∙ h.on,
)

hands_arrive : (o : Opening) (es : List Event) (client : ℕ) (op : Op) (word block : ℕ) → FollowsLawfully o es → HandsWordsOn o es block → HandsWordsOn o (Arrive client op word ∷ es) block
hands_arrive o es client op word block f w = record {
  used = λ i h. used i h (cases_lt i (arrived es));
  next = λ i h. next i h (cases_lt i (arrived es));
  quiet = λ quiet. rw (not_newest quiet) (w.quiet (quiet_before es client op word block quiet));
}
  where
    used : (i : ℕ) → IsOpen (Arrive client op word ∷ es) block i → (i < arrived es) ⊎ (arrived es ≤ i)
        → word_used o (Arrive client op word ∷ es) i ≡ position_word o es block
    used i h (inl older) = used_stays o es (Arrive client op word) i older ∙ w.used i (open_before es client op word block i older h)
    used i h (inr newest) =
        let there = h.arrived in
        let at : i ≡ arrived es = omega arith in
        let both = newest_open es client op word block i at h in
        rw (eq-eqb i (arrived es) at) (ap (λ t. word_for (next_word o es) (o.shape.n + arrived es) t op) both.0
        ∙ word_for_block (next_word o es) (o.shape.n + arrived es) block op both.1 ∙ w.quiet (was_quiet es op block both.0 both.1))

    -- while one is open, a new one on the block isn't real
    not_now : (i : ℕ) → IsOpen es block i → (real_now es op && names block op) ≡ false
    not_now i h = false_from_ne_true (real_now es op && names block op) (λ is.
        let both = and_parts (real_now es op) (names block op) is in
        true≢false (sym (was_quiet es op block both.0 both.1 i h.arrived h.on h.real) ∙ h.under_way))

    next : (i : ℕ) → IsOpen (Arrive client op word ∷ es) block i → (i < arrived es) ⊎ (arrived es ≤ i) → next_word o (Arrive client op word ∷ es) block ≡ o.shape.n + i
    next i h (inl older) = let before = open_before es client op word block i older h in rw (not_now i before) (w.next i before)
    next i h (inr newest) =
        let there = h.arrived in
        let at : i ≡ arrived es = omega arith in
        let both = newest_open es client op word block i at h in
        rw (and_from (real_now es op) (names block op) both.0 both.1) (ap (λ k. o.shape.n + k) (sym at))

    -- if the block stays quiet, the new arrival isn't real on it
    not_newest : IsQuiet (Arrive client op word ∷ es) block → (real_now es op && names block op) ≡ false
    not_newest quiet = false_from_ne_true (real_now es op && names block op) (λ is.
        let both = and_parts (real_now es op) (names block op) is in
        true≢false (sym (quiet (arrived es) (omega arith) (on_newest es client op word block ∙ both.1) (real_newest es client op word ∙ both.0)) ∙ done_arrived o es (arrived es) f (omega arith)))

-- ---- a Done

open_at_done : (es : List Event) (arrival : ℕ) (taken : List Bucket) (block i : ℕ) → IsOpen (Done arrival taken ∷ es) block i → IsOpen es block i
open_at_done es arrival taken block i h =
    record { arrived = h.arrived; on = h.on; real = h.real; under_way = (or_parts (nat_eq arrival i) (is_done es i) h.under_way).1 }

hands_done : (o : Opening) (es : List Event) (arrival : ℕ) (taken : List Bucket) (block : ℕ) → arrival < arrived es → is_done es arrival ≡ false → HandsWordsOn o es block
    → HandsWordsOn o (Done arrival taken ∷ es) block
hands_done o es arrival taken block there under_way w = record {
  used = λ i h. rw (not_this i h) (w.used i (open_at_done es arrival taken block i h));
  next = λ i h. w.next i (open_at_done es arrival taken block i h);
  quiet = λ quiet. quiet_now quiet (is_real es arrival && is_on es arrival block) refl;
}
  where
    this_open : (is_real es arrival && is_on es arrival block) ≡ true → IsOpen es block arrival
    this_open is = let both = and_parts (is_real es arrival) (is_on es arrival block) is in record { arrived = there; on = both.1; real = both.0; under_way = under_way }

    -- if another is still open, this one wasn't real on the block
    not_this : (i : ℕ) → IsOpen (Done arrival taken ∷ es) block i → (is_real es arrival && is_on es arrival block) ≡ false
    not_this i h = false_from_ne_true (is_real es arrival && is_on es arrival block) (λ is.
        let same = one_open es block arrival i (this_open is) (open_at_done es arrival taken block i h) in
        true≢false (sym (eq-eqb arrival i same) ∙ (or_parts (nat_eq arrival i) (is_done es i) h.under_way).0))

    quiet_now : IsQuiet (Done arrival taken ∷ es) block → (t : Bool) → (is_real es arrival && is_on es arrival block) ≡ t
        → next_word o es block ≡ cond (is_real es arrival && is_on es arrival block) (o.shape.n + arrival) (position_word o es block)
    quiet_now quiet true is = rw is (w.next arrival (this_open is))
    quiet_now quiet false is = rw is (w.quiet (λ i within on real. earlier i on real (or_cases (nat_eq arrival i) (is_done es i) (quiet i within on real))))
      where
        earlier : (i : ℕ) → is_on es i block ≡ true → is_real es i ≡ true → (nat_eq arrival i ≡ true) ⊎ (is_done es i ≡ true) → is_done es i ≡ true
        earlier i on real (inr done) = done
        earlier i on real (inl here) =
            let same : arrival ≡ i = eqb-true arrival i here in
            absurd (true≢false (sym (and_from (is_real es arrival) (is_on es arrival block) (ap (is_real es) same ∙ real) (ap (λ k. is_on es k block) same ∙ on)) ∙ is))

-- ---- every event

-- an event that changes neither arrivals nor Dones
open_same : (es : List Event) (e : Event) (block i : ℕ) → arrived (e ∷ es) ≡ arrived es → is_on (e ∷ es) i block ≡ is_on es i block → is_real (e ∷ es) i ≡ is_real es i
    → is_done (e ∷ es) i ≡ is_done es i → IsOpen (e ∷ es) block i → IsOpen es block i
open_same es e block i count on real done h =
    let there = h.arrived in record { arrived = omega (arith, count); on = sym on ∙ h.on; real = sym real ∙ h.real; under_way = sym done ∙ h.under_way }

pub hands_from : (o : Opening) (es : List Event) (block : ℕ) → FollowsLawfully o es → HandsWordsOn o es block
hands_from o [] block f = record { used = λ i h. let there = h.arrived in absurd (omega arith); next = λ i h. let there = h.arrived in absurd (omega arith); quiet = λ quiet. refl }
hands_from o (Arrive client op word ∷ es) block f = hands_arrive o es client op word block f.0 (hands_from o es block f.0)
hands_from o (Done arrival taken ∷ es) block f = hands_done o es arrival taken block f.2.1.arrived f.2.1.under_way (hands_from o es block f.0)
hands_from o (Issue version nonce buckets ∷ es) block f = let w = hands_from o es block f.0 in record {
  used = λ i h. w.used i (open_same es (Issue version nonce buckets) block i refl refl refl refl h);
  next = λ i h. w.next i (open_same es (Issue version nonce buckets) block i refl refl refl refl h);
  quiet = λ quiet. w.quiet quiet;
}
hands_from o (Acked version ∷ es) block f = let w = hands_from o es block f.0 in record {
  used = λ i h. w.used i (open_same es (Acked version) block i refl refl refl refl h);
  next = λ i h. w.next i (open_same es (Acked version) block i refl refl refl refl h);
  quiet = λ quiet. w.quiet quiet;
}
hands_from o (Fault cause ∷ es) block f = let w = hands_from o es block f.0 in record {
  used = λ i h. w.used i (open_same es (Fault cause) block i refl refl refl refl h);
  next = λ i h. w.next i (open_same es (Fault cause) block i refl refl refl refl h);
  quiet = λ quiet. w.quiet quiet;
}

pub words_are_handed_on : WordsAreHandedOn
words_are_handed_on o events block f = hands_from o (reverse events) block f

pub leaf_from : (o : Opening) (es : List Event) (block : ℕ) → FollowsLawfully o es → FetchesPosition o es block
leaf_from o es block f = let w = hands_from o es block f in record {
  open_one = λ i h. ap (leaf_at o es) (w.used i h);
  next_one = λ quiet. ap (leaf_at o es) (w.quiet quiet);
}

pub leaf_is_position : LeafIsPosition
leaf_is_position o events block f = leaf_from o (reverse events) block f
