-- Which causes can be in worked records, by computing.
use Rattle.std.proofs.Common.{◌≡◌, ℕ, ◌+◌, ◌^◌, ◌<◌, ◌≤◌, true, false, List, reverse, take, refl, subst, arith, inl, inr, ◌⊎◌}
use Rattle.std.proofs.lemmas.Bool.{true≢false, false≢true, ltb-true, leb-true}
use Rattle.tao_base.specs.declared.session.Event.{Event}
use Rattle.tao_base.specs.Session.{Opening}
use Rattle.tao_base.specs.Tree.{is_on_path}
use Rattle.tao_model.specs.Events.{arrived, dones, issues, acks, is_done}
use Rattle.tao_model.specs.Requests.{fetches}
use Rattle.tao_model.specs.Lawful.{IsAwayOn}
use Rattle.tao_model.specs.Worked.{write_backs_out_of_order}
use Rattle.tao_model.specs.WorkedFaults.{scan_of, CausesThatCanBe, StaleThatCannotBe, FetchesThatCannotFail, ScansThatCannotFail}

abbrev opened : Opening
opened = write_backs_out_of_order.opening

abbrev after : ℕ → List Event
after count = reverse (take count write_backs_out_of_order.events)

pub causes_that_can_be : CausesThatCanBe
causes_that_can_be = record {
  damaged = (refl, inl (ltb-true 2 3 refl, refl, refl));
  older = ((refl, inl (ltb-true 2 3 refl, refl, refl)), refl, λ same. let wrong : 0 ≡ 2 = same in omega arith);
  newer = ((refl, inl (ltb-true 2 3 refl, refl, refl)), refl, λ same. let wrong : 3 ≡ 2 = same in omega arith);
  damaged_scan = (refl, inr (1, ltb-true 1 2 refl, refl, refl, refl, refl));
  older_scan = ((refl, inr (0, ltb-true 0 2 refl, refl, refl, refl, refl)), refl, λ same. let wrong : 0 ≡ 1 = same in omega arith);
  first_link = tt;
  last_link = tt;
}

pub stale_that_cannot_be : StaleThatCannotBe
stale_that_cannot_be = record {
  found_wanted = λ may. may.2 refl;
  wants_older = λ may. let wrong : 0 ≡ 2 = may.1 in omega arith;
  wants_last_write_back = λ may. let wrong : 3 ≡ 1 = may.1 in omega arith;
}

-- ---- the two ways in which a fetch needs a node from the server

abbrev IsUnderWay : Opening → List Event → ℕ → ℕ → Type 0
IsUnderWay o es fetch node = (fetch < arrived es) × (is_done es fetch ≡ false) × (fetches o es fetch node ≡ true)

abbrev IsOfScan : Opening → List Event → ℕ → ℕ → Type 0
IsOfScan o es fetch node = (leaf : ℕ) × (leaf < 2 ^ o.shape.l) × (fetch ≡ 2 ^ 32 + leaf) × (is_on_path o.shape.l leaf node ≡ true)
    × (dones es ≡ arrived es) × (acks es ≡ issues es)

-- a fetch of an arrival is none of the scan
no_fetch : (o : Opening) (es : List Event) (fetch node : ℕ) → fetch < 2 ^ 32 → (IsUnderWay o es fetch node → ⊥) → IsAwayOn o es fetch node → ⊥
no_fetch o es fetch node low refused away = either away.1
  where
    either : IsUnderWay o es fetch node ⊎ IsOfScan o es fetch node → ⊥
    either (inl under_way) = refused under_way
    either (inr scan) = let same = scan.2 in omega arith

pub fetches_that_cannot_fail : FetchesThatCannotFail
fetches_that_cannot_fail = record {
  not_arrived = no_fetch opened (after 8) 2 1 (ltb-true 2 (2 ^ 32) refl) (λ is. let wrong : 2 < 2 = is.0 in omega arith);
  is_done = no_fetch opened (after 12) 2 3 (ltb-true 2 (2 ^ 32) refl) (λ is. true≢false is.1);
  off_path = no_fetch opened (after 9) 2 2 (ltb-true 2 (2 ^ 32) refl) (λ is. false≢true is.2);
  held = λ away. true≢false away.0;
}

-- a fetch of the scan is none of an arrival
no_scan : (o : Opening) (es : List Event) (leaf node : ℕ) → arrived es ≤ 2 ^ 32
    → (leaf < 2 ^ o.shape.l → is_on_path o.shape.l leaf node ≡ true → (dones es ≡ arrived es) × (acks es ≡ issues es) → ⊥)
    → IsAwayOn o es (scan_of leaf) node → ⊥
no_scan o es leaf node few refused away = either away.1
  where
    here : (other : ℕ) → 2 ^ 32 + leaf ≡ 2 ^ 32 + other → other ≡ leaf
    here other same = omega arith

    either : IsUnderWay o es (scan_of leaf) node ⊎ IsOfScan o es (scan_of leaf) node → ⊥
    either (inl under_way) = let come : 2 ^ 32 + leaf < arrived es = under_way.0 in omega arith
    either (inr scan) =
        let same = here scan.0 scan.2 in
        refused (subst (λ x. x < 2 ^ o.shape.l) same scan.1) (subst (λ x. is_on_path o.shape.l x node ≡ true) same scan.3) (scan.4, scan.5)

pub scans_that_cannot_fail : ScansThatCannotFail
scans_that_cannot_fail = record {
  under_way = no_scan opened (after 9) 0 2 (leb-true 3 (2 ^ 32) refl) (λ low on all. let wrong : 2 ≡ 3 = all.0 in omega arith);
  not_acknowledged = no_scan opened (after 11) 0 2 (leb-true 3 (2 ^ 32) refl) (λ low on all. let wrong : 2 ≡ 3 = all.1 in omega arith);
  no_leaf = no_scan opened (after 12) 2 2 (leb-true 3 (2 ^ 32) refl) (λ low on all. let wrong : 2 < 2 = low in omega arith);
  off_path = no_scan opened (after 12) 0 3 (leb-true 3 (2 ^ 32) refl) (λ low on all. false≢true on);
}
