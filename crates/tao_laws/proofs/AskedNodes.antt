-- A node that isn't held was acknowledged, and a fetch reads it as it was at the request. `es` and `later` are newest first.
use Rattle.std.proofs.Common.{◌≡◌, ℕ, ◌<◌, ◌≤◌, Bool, true, false, not, ◌&&◌, ◌||◌, cond, List, [], ◌∷◌, ◌++◌, reverse, is_some, refl, sym, ap, ◌∙◌, arith, inl, inr, ◌⊎◌, nat_eq}
use Rattle.std.specs.Option.{option_or}
use Rattle.std.proofs.lemmas.Bool.{eq-eqb, true≢false, and_cases, and_from, or_parts, or_left, or_right, not-false, not_from_false}
use Rattle.tao_base.specs.declared.calls.Op.{Op}
use Rattle.tao_base.specs.declared.session.Event.{Event}
use Rattle.tao_base.specs.declared.session.Event.TheVariants.{Arrive, Done, Issue, Acked, Fault}
use Rattle.tao_base.specs.Session.{Opening}
use Rattle.tao_model.specs.Events.{arrived, is_done, is_acked}
use Rattle.tao_model.specs.Requests.{fetches}
use Rattle.tao_model.specs.Residence.{bucket_of, is_issued, is_covered, departs, is_resident, newest_write, newest_version}
use Rattle.tao_model.specs.Lawful.{FollowsLawfully}
use Rattle.tao_model.proofs.Places.{arrived_grows}
use Rattle.tao_model.proofs.RealArrivals.{none_passes, looked_back}
use Rattle.tao_model.proofs.DonesInOrder.{fetch_stays}
use Rattle.tao_model.proofs.LawfulToWhole.{earlier_follows}
use Rattle.tao_laws.specs.Residents.{IsAcknowledged, AwayIsAcknowledged, IsAsAsked, AsItWasAsked, OneAnswerIsNewest}
use Rattle.tao_laws.proofs.WrittenNodes.{issued_from, away_unwritten, leaves_parts, leaves_from}

-- ---- a node that isn't held was acknowledged

acked_kept : (v a : ℕ) (acked : Bool) → (a ≡ 0) ⊎ (acked ≡ true) → (a ≡ 0) ⊎ ((nat_eq v a || acked) ≡ true)
acked_kept v a acked (inl none) = inl none
acked_kept v a acked (inr h) = inr (or_right (nat_eq v a) acked h)

pub acknowledged_from : (o : Opening) (es : List Event) (node : ℕ) → FollowsLawfully o es → is_resident o es node ≡ false → IsAcknowledged es node
acknowledged_from o [] node f away = inl refl
acknowledged_from o (Arrive client op word ∷ es) node f away = acknowledged_from o es node f.0 away
acknowledged_from o (Done arrival taken ∷ es) node f away =
    acknowledged_from o es node f.0 (or_parts (is_resident o es node) (fetches o es arrival node) away).0
acknowledged_from o (Issue version nonce buckets ∷ es) node f away =
    rw (away_unwritten o es version nonce buckets node f.0 f.2 away) (acknowledged_from o es node f.0 away)
acknowledged_from o (Acked version ∷ es) node f away =
    either (and_cases (is_resident o es node) (not (departs o es version node)) away) (λ earlier. acknowledged_from o es node f.0 earlier)
  where
    either : (is_resident o es node ≡ false) ⊎ (not (departs o es version node) ≡ false) → (is_resident o es node ≡ false → IsAcknowledged es node)
        → IsAcknowledged (Acked version ∷ es) node
    either (inl earlier) ih = acked_kept version (newest_version es node) (is_acked es (newest_version es node)) (ih earlier)
    either (inr leaves) ih =
        let same = leaves_from o es version node f.0 (not-false (departs o es version node) leaves) in
        inr (or_left (nat_eq version (newest_version es node)) (is_acked es (newest_version es node)) (eq-eqb version (newest_version es node) (sym same)))
acknowledged_from o (Fault cause ∷ es) node f away = acknowledged_from o es node f.0 away

pub away_is_acknowledged : AwayIsAcknowledged
away_is_acknowledged o events node f away = acknowledged_from o (reverse events) node f away

-- ---- as it was at the request

-- what hasn't changed since the request of a fetch under way, at a node of its path that isn't held
record HasStayed (o : Opening) (asked now : List Event) (node : ℕ) : Type 0 where
  away : is_resident o asked node ≡ false
  written : newest_write o now node ≡ newest_write o asked node
  version : newest_version now node ≡ newest_version asked node

-- a fetch under way covers its nodes
pub covers : (o : Opening) (es : List Event) (i node : ℕ) → i < arrived es → is_done es i ≡ false → fetches o es i node ≡ true → is_covered o es node ≡ false → ⊥
covers o es i node there under_way on none =
    true≢false (sym (and_from (not (is_done es i)) (fetches o es i node) (not_from_false (is_done es i) under_way) on)
    ∙ none_passes (λ j. not (is_done es j) && fetches o es j node) (arrived es) none i there)

stayed_from : (o : Opening) (later es : List Event) (client : ℕ) (op : Op) (word node : ℕ) → FollowsLawfully o (later ++ Arrive client op word ∷ es)
    → is_done (later ++ Arrive client op word ∷ es) (arrived es) ≡ false → fetches o (later ++ Arrive client op word ∷ es) (arrived es) node ≡ true
    → is_resident o (later ++ Arrive client op word ∷ es) node ≡ false → HasStayed o es (later ++ Arrive client op word ∷ es) node
stayed_from o [] es client op word node f under_way on away = record { away = away; written = refl; version = refl }
stayed_from o (Arrive c p w ∷ later) es client op word node f under_way on away =
    let grown = arrived_grows later (Arrive client op word ∷ es) in
    let h = stayed_from o later es client op word node f.0 under_way
    (sym (fetch_stays o (later ++ Arrive client op word ∷ es) (Arrive c p w) (arrived es) node f.0 (omega arith)) ∙ on) away in
    record { away = h.away; written = h.written; version = h.version }
stayed_from o (Done j taken ∷ later) es client op word node f under_way on away =
    let grown = arrived_grows later (Arrive client op word ∷ es) in
    let h = stayed_from o later es client op word node f.0 (or_parts (nat_eq j (arrived es)) (is_done (later ++ Arrive client op word ∷ es) (arrived es)) under_way).1
    (sym (fetch_stays o (later ++ Arrive client op word ∷ es) (Done j taken) (arrived es) node f.0 (omega arith)) ∙ on)
    (or_parts (is_resident o (later ++ Arrive client op word ∷ es) node) (fetches o (later ++ Arrive client op word ∷ es) j node) away).0 in
    record { away = h.away; written = h.written; version = h.version }
stayed_from o (Issue v n buckets ∷ later) es client op word node f under_way on away =
    let grown = arrived_grows later (Arrive client op word ∷ es) in
    let none = away_unwritten o (later ++ Arrive client op word ∷ es) v n buckets node f.0 f.2 away in
    let h = stayed_from o later es client op word node f.0 under_way
    (sym (fetch_stays o (later ++ Arrive client op word ∷ es) (Issue v n buckets) (arrived es) node f.0 (omega arith)) ∙ on) away in
    record {
      away = h.away;
      written = ap (λ b. option_or b (newest_write o (later ++ Arrive client op word ∷ es) node)) none ∙ h.written;
      version = ap (λ b. cond (is_some b) v (newest_version (later ++ Arrive client op word ∷ es) node)) none ∙ h.version;
    }
stayed_from o (Acked v ∷ later) es client op word node f under_way on away =
    let grown = arrived_grows later (Arrive client op word ∷ es) in
    let on_before : fetches o (later ++ Arrive client op word ∷ es) (arrived es) node ≡ true =
    sym (fetch_stays o (later ++ Arrive client op word ∷ es) (Acked v) (arrived es) node f.0 (omega arith)) ∙ on in
    let h = stayed_from o later es client op word node f.0 under_way on_before (either on_before (omega arith)
    (and_cases (is_resident o (later ++ Arrive client op word ∷ es) node) (not (departs o (later ++ Arrive client op word ∷ es) v node)) away)) in
    record { away = h.away; written = h.written; version = h.version }
  where
    either : fetches o (later ++ Arrive client op word ∷ es) (arrived es) node ≡ true → arrived es < arrived (later ++ Arrive client op word ∷ es)
        → (is_resident o (later ++ Arrive client op word ∷ es) node ≡ false) ⊎ (not (departs o (later ++ Arrive client op word ∷ es) v node) ≡ false)
        → is_resident o (later ++ Arrive client op word ∷ es) node ≡ false
    either on_before there (inl earlier) = earlier
    either on_before there (inr leaves) =
        let parts = leaves_parts o (later ++ Arrive client op word ∷ es) v node (not-false (departs o (later ++ Arrive client op word ∷ es) v node) leaves) in
        absurd (covers o (later ++ Arrive client op word ∷ es) (arrived es) node there under_way on_before parts.2)
stayed_from o (Fault cause ∷ later) es client op word node f under_way on away =
    let grown = arrived_grows later (Arrive client op word ∷ es) in
    let h = stayed_from o later es client op word node f.0 under_way
    (sym (fetch_stays o (later ++ Arrive client op word ∷ es) (Fault cause) (arrived es) node f.0 (omega arith)) ∙ on) away in
    record { away = h.away; written = h.written; version = h.version }

asked_from : (o : Opening) (later es : List Event) (client : ℕ) (op : Op) (word node : ℕ) → FollowsLawfully o (later ++ Arrive client op word ∷ es)
    → is_done (later ++ Arrive client op word ∷ es) (arrived es) ≡ false → fetches o (later ++ Arrive client op word ∷ es) (arrived es) node ≡ true
    → is_resident o (later ++ Arrive client op word ∷ es) node ≡ false → IsAsAsked o es (later ++ Arrive client op word ∷ es) node
asked_from o later es client op word node f under_way on away =
    let h = stayed_from o later es client op word node f under_way on away in
    let before = earlier_follows o later (Arrive client op word ∷ es) f in
    record { away = h.away; written = h.written; version = h.version; acknowledged = acknowledged_from o es node before.0 h.away }

pub as_it_was_asked : AsItWasAsked
as_it_was_asked o before after client op word node =
    rw (looked_back before after (Arrive client op word)) (λ f under_way on away. asked_from o (reverse after) (reverse before) client op word node f under_way on away)

-- ---- the one right version

-- a latest version other than the load's was issued
pub newest_issued : (es : List Event) (node : ℕ) → (newest_version es node ≡ 0) ⊎ (is_issued es (newest_version es node) node ≡ true)
newest_issued [] node = inl refl
newest_issued (Arrive client op word ∷ es) node = newest_issued es node
newest_issued (Done arrival taken ∷ es) node = newest_issued es node
newest_issued (Issue version nonce buckets ∷ es) node = either (is_some (bucket_of node buckets)) (newest_issued es node)
  where
    either : (t : Bool) → (newest_version es node ≡ 0) ⊎ (is_issued es (newest_version es node) node ≡ true)
        → (cond t version (newest_version es node) ≡ 0)
        ⊎ (((nat_eq version (cond t version (newest_version es node)) && t) || is_issued es (cond t version (newest_version es node)) node) ≡ true)
    either true earlier = inr (rw (eq-eqb version version refl) refl)
    either false (inl none) = inl none
    either false (inr issued) = inr (or_right (nat_eq version (newest_version es node) && false) (is_issued es (newest_version es node) node) issued)
newest_issued (Acked version ∷ es) node = newest_issued es node
newest_issued (Fault cause ∷ es) node = newest_issued es node

one_from : (o : Opening) (later es : List Event) (client : ℕ) (op : Op) (word node version : ℕ) → FollowsLawfully o (later ++ Arrive client op word ∷ es)
    → is_done (later ++ Arrive client op word ∷ es) (arrived es) ≡ false → fetches o (later ++ Arrive client op word ∷ es) (arrived es) node ≡ true
    → is_resident o (later ++ Arrive client op word ∷ es) node ≡ false → (version ≡ 0) ⊎ (is_issued (later ++ Arrive client op word ∷ es) version node ≡ true)
    → ((v : ℕ) → is_issued es v node ≡ true → is_acked es v ≡ true → v ≤ version) → version ≡ newest_version (later ++ Arrive client op word ∷ es) node
one_from o later es client op word node version f under_way on away written new = omega (arith, low, high)
  where
    h : IsAsAsked o es (later ++ Arrive client op word ∷ es) node
    h = asked_from o later es client op word node f under_way on away

    high : version ≤ newest_version (later ++ Arrive client op word ∷ es) node
    high = either written
      where
        either : (version ≡ 0) ⊎ (is_issued (later ++ Arrive client op word ∷ es) version node ≡ true) → version ≤ newest_version (later ++ Arrive client op word ∷ es) node
        either (inl none) = omega arith
        either (inr issued) = (issued_from o (later ++ Arrive client op word ∷ es) version node f issued).1

    low : newest_version (later ++ Arrive client op word ∷ es) node ≤ version
    low = rw h.version (either h.acknowledged (newest_issued es node))
      where
        either : IsAcknowledged es node → (newest_version es node ≡ 0) ⊎ (is_issued es (newest_version es node) node ≡ true) → newest_version es node ≤ version
        either (inl none) issued = omega arith
        either (inr acked) (inl none) = omega arith
        either (inr acked) (inr issued) = new (newest_version es node) issued acked

pub one_answer_is_newest : OneAnswerIsNewest
one_answer_is_newest o before after client op word node version =
    rw (looked_back before after (Arrive client op word))
    (λ f under_way on away written new. one_from o (reverse after) (reverse before) client op word node version f under_way on away written new)
