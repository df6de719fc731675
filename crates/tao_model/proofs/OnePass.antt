-- One pass in rising id computes a placement.
use Rattle.std.proofs.Common.{◌≡◌, ℕ, zero, suc, ◌+◌, ◌<◌, ◌≤◌, Bool, true, false, ◌&&◌, cond, List, [], ◌∷◌, ◌++◌, length, fold, Option, Some, None, is_some, refl, sym, ap, ◌∙◌, subst, arith, inl, inr, ◌⊎◌, nat_eq, nat_lt}
use Rattle.std.specs.Option.{option_or}
use Rattle.std.proofs.lemmas.Bool.{ne_eqb, eq-eqb, cases_lt, cases_eq, and_parts, ltb-true, ltb-false, true≢false}
use Rattle.std.proofs.lemmas.List.{length_push}
use Rattle.std.proofs.lemmas.List.Elements.{All-push, All-weaker}
use Rattle.tao_base.specs.declared.storage.Entry.{Entry}
use Rattle.tao_base.specs.Buckets.{Rises}
use Rattle.tao_model.specs.Placement.{look, IsPlaced}
use Rattle.tao_model.specs.Passes.{deepest, spot, put_at, put_next}
use Rattle.tao_model.specs.PlacementLaws.{PassPlaces, PassMore, SpotAlike}
use Rattle.std.proofs.lemmas.List.Sums.{fold_more}
use Rattle.tao_model.proofs.RisingEntries.{Below, look_here, look_on, look_low, look_past, look_append, rises_push}
use Rattle.tao_model.proofs.GreatestNumbers.{greatest_step, greatest_none}
use Rattle.tao_model.specs.Greatest.{IsGreatest}
use Rattle.tao_model.proofs.OnePlacement.{none_either}

pub deepest_is : (passes : ℕ → Bool) (m : ℕ) → IsGreatest passes m (deepest passes m)
deepest_is passes zero = greatest_none passes
deepest_is passes (suc m) = subst (λ k. IsGreatest passes k (deepest passes (suc m))) (omega arith)
    (greatest_step passes m (deepest passes m) (passes (m + 1)) refl (deepest_is passes m))

-- a placement of the blocks with ids below k
pub record PlacedBelow (may : ℕ → ℕ → Bool) (m z : ℕ) (gathered : ℕ → Option (List ℕ)) (k : ℕ) (contents : ℕ → List Entry) : Type 0 where
  place : ℕ → ℕ
  rises : (w : ℕ) → Rises 0 (contents w)
  low : (w : ℕ) → Below k (contents w)
  lies : (b w : ℕ) → b < k → look b (contents w) ≡ cond (nat_eq (place b) w) (gathered b) None
  allowed : (b : ℕ) → (place b ≡ 0) ⊎ ((place b ≤ m) × (may b (place b) ≡ true))
  room : (w : ℕ) → 0 < w → length (contents w) ≤ z
  full : (b w : ℕ) → b < k → w ≤ m → may b w ≡ true → place b < w → (length (contents w) ≡ z) × Below b (contents w)

-- the node that `spot` finds
record IsSpot (may : ℕ → ℕ → Bool) (m z : ℕ) (contents : ℕ → List Entry) (b at : ℕ) : Type 0 where
  within : at ≤ m
  here : (at ≡ 0) ⊎ ((may b at ≡ true) × (length (contents at) < z))
  none : (w : ℕ) → at < w → w ≤ m → may b w ≡ true → z ≤ length (contents w)

pub not_both : (x y : Bool) → (x && y) ≡ false → x ≡ true → y ≡ false
not_both true y h e = h
not_both false y h e = absurd (true≢false (sym e))

spot_is : (may : ℕ → ℕ → Bool) (m z : ℕ) (contents : ℕ → List Entry) (b : ℕ) → IsSpot may m z contents b (spot may m z contents b)
spot_is may m z contents b = record {
  within = d.within;
  here = either d.here;
  none = λ w above within may_lie. ltb-false (length (contents w)) z (not_both (may b w) (nat_lt (length (contents w)) z) (d.none w above within) may_lie);
}
  where
    d : IsGreatest (λ w. may b w && nat_lt (length (contents w)) z) m (spot may m z contents b)
    d = deepest_is (λ w. may b w && nat_lt (length (contents w)) z) m

    either : (spot may m z contents b ≡ 0) ⊎ ((may b (spot may m z contents b) && nat_lt (length (contents (spot may m z contents b))) z) ≡ true)
        → (spot may m z contents b ≡ 0) ⊎ ((may b (spot may m z contents b) ≡ true) × (length (contents (spot may m z contents b)) < z))
    either (inl stash) = inl stash
    either (inr passes) =
        let parts = and_parts (may b (spot may m z contents b)) (nat_lt (length (contents (spot may m z contents b))) z) passes in
        inr (parts.0, ltb-true (length (contents (spot may m z contents b))) z parts.1)

pub or_none : {X : Type 0} (o : Option X) → option_or o None ≡ o
or_none None = refl
or_none (Some x) = refl

-- ---- putting an entry at a node; `t` says whether it is this node

pub rises_put : (t : Bool) (es : List Entry) (e : Entry) → Rises 0 es → Below e.id es → Rises 0 (cond t (es ++ e ∷ []) es)
rises_put true es e r l = rises_push 0 es e r l (omega arith)
rises_put false es e r l = r

pub below_weaker : (k j : ℕ) (es : List Entry) → k ≤ j → Below k es → Below j es
below_weaker k j es h l = All-weaker (λ e. e.id < k) (λ e. e.id < j) (λ e low. omega arith) es l

pub below_put : (t : Bool) (es : List Entry) (e : Entry) → Below e.id es → Below (e.id + 1) (cond t (es ++ e ∷ []) es)
below_put true es e l = All-push (λ f. f.id < e.id + 1) es e (below_weaker e.id (e.id + 1) es (omega arith) l) (omega arith)
below_put false es e l = below_weaker e.id (e.id + 1) es (omega arith) l

pub look_put : (t : Bool) (es : List Entry) (e : Entry) → Below e.id es → look e.id (cond t (es ++ e ∷ []) es) ≡ cond t (Some e.value) None
look_put true es e l = look_append e.id es (e ∷ []) ∙ ap (λ o. option_or o (look e.id (e ∷ []))) (look_past e.id e.id es l (omega arith)) ∙ look_here e [] e.id refl
look_put false es e l = look_past e.id e.id es l (omega arith)

pub look_put_other : (t : Bool) (es : List Entry) (e : Entry) (b : ℕ) → (e.id ≡ b → ⊥) → look b (cond t (es ++ e ∷ []) es) ≡ look b es
look_put_other true es e b other = look_append b es (e ∷ []) ∙ ap (λ o. option_or (look b es) o) (look_on e [] b other) ∙ or_none (look b es)
look_put_other false es e b other = refl

module _ (may : ℕ → ℕ → Bool) (m z : ℕ) (gathered : ℕ → Option (List ℕ)) (among : (b w : ℕ) → may b w ≡ true → is_some (gathered b) ≡ true) where
  -- one more entry: the next gathered id
  put_step : (k : ℕ) (contents : ℕ → List Entry) (e : Entry) → PlacedBelow may m z gathered k contents → k ≤ e.id
      → gathered e.id ≡ Some e.value → ((b : ℕ) → k ≤ b → b < e.id → gathered b ≡ None)
      → PlacedBelow may m z gathered (e.id + 1) (put_next may m z contents e)
  put_step k contents e p le has none = record {
    place = λ b. cond (nat_eq b e.id) at (p.place b);
    rises = λ w. rises_put (nat_eq at w) (contents w) e (p.rises w) (low w);
    low = λ w. below_put (nat_eq at w) (contents w) e (low w);
    lies = λ b w below. lies b w below (cases_eq b e.id);
    allowed = λ b. allowed b (cases_eq b e.id);
    room = λ w node. room w node (cases_eq at w);
    full = λ b w below within may_lie. full b w below within may_lie (cases_eq b e.id);
  }
    where
      at : ℕ
      at = spot may m z contents e.id

      is : IsSpot may m z contents e.id at
      is = spot_is may m z contents e.id

      low : (w : ℕ) → Below e.id (contents w)
      low w = below_weaker k e.id (contents w) le (p.low w)

      lies : (b w : ℕ) → b < e.id + 1 → (b ≡ e.id) ⊎ (b ≡ e.id → ⊥)
          → look b (put_at contents at e w) ≡ cond (nat_eq (cond (nat_eq b e.id) at (p.place b)) w) (gathered b) None
      lies b w below (inl same) = rw (eq-eqb b e.id same, same, has) (look_put (nat_eq at w) (contents w) e (low w))
      lies b w below (inr other) = rw (ne_eqb b e.id other) (look_put_other (nat_eq at w) (contents w) e b (λ s. other (sym s)) ∙ older (cases_lt b k))
        where
          older : (b < k) ⊎ (k ≤ b) → look b (contents w) ≡ cond (nat_eq (p.place b) w) (gathered b) None
          older (inl before) = p.lies b w before
          older (inr gap) = look_past k b (contents w) (p.low w) gap
              ∙ sym (ap (λ g. cond (nat_eq (p.place b) w) g None) (none b gap (omega (arith, other))) ∙ none_either (nat_eq (p.place b) w))

      allowed : (b : ℕ) → (b ≡ e.id) ⊎ (b ≡ e.id → ⊥)
          → (cond (nat_eq b e.id) at (p.place b) ≡ 0) ⊎ ((cond (nat_eq b e.id) at (p.place b) ≤ m) × (may b (cond (nat_eq b e.id) at (p.place b)) ≡ true))
      allowed b (inr other) = rw (ne_eqb b e.id other) (p.allowed b)
      allowed b (inl same) = rw (eq-eqb b e.id same) (either is.here)
        where
          either : (at ≡ 0) ⊎ ((may e.id at ≡ true) × (length (contents at) < z)) → (at ≡ 0) ⊎ ((at ≤ m) × (may b at ≡ true))
          either (inl stash) = inl stash
          either (inr node) = inr (is.within, ap (λ c. may c at) same ∙ node.0)

      has_room : 0 < at → length (contents at) < z
      has_room node = either is.here
        where
          either : (at ≡ 0) ⊎ ((may e.id at ≡ true) × (length (contents at) < z)) → length (contents at) < z
          either (inl stash) = absurd (omega arith)
          either (inr here) = here.1

      room : (w : ℕ) → 0 < w → (at ≡ w) ⊎ (at ≡ w → ⊥) → length (put_at contents at e w) ≤ z
      room w node (inr other) = rw (ne_eqb at w other) (p.room w node)
      room w node (inl same) = rw (eq-eqb at w same)
          (let more = length_push (contents w) e in let some : length (contents w) < z = subst (λ v. length (contents v) < z) same (has_room (omega arith)) in omega arith)

      full : (b w : ℕ) → b < e.id + 1 → w ≤ m → may b w ≡ true → (b ≡ e.id) ⊎ (b ≡ e.id → ⊥) → cond (nat_eq b e.id) at (p.place b) < w
          → (length (put_at contents at e w) ≡ z) × Below b (put_at contents at e w)
      full b w below within may_lie (inl same) = rw (eq-eqb b e.id same) (λ deeper. rw (ne_eqb at w (λ s. omega arith)) (
        let many = is.none w deeper within (ap (λ c. may c w) (sym same) ∙ may_lie) in let few = p.room w (omega arith) in omega arith,
        subst (λ c. Below c (contents w)) (sym same) (low w),
      ))
      full b w below within may_lie (inr other) = rw (ne_eqb b e.id other) (λ deeper. older deeper (cases_lt b k))
        where
          older : p.place b < w → (b < k) ⊎ (k ≤ b) → (length (put_at contents at e w) ≡ z) × Below b (put_at contents at e w)
          older deeper (inr gap) = absurd (true≢false (sym (among b w may_lie) ∙ ap is_some (none b gap (omega (arith, other)))))
          older deeper (inl before) =
              let is_full = p.full b w before within may_lie deeper in
              let all = is_full.0 in
              let elsewhere : (at ≡ w → ⊥) = λ same. let some : length (contents w) < z = subst (λ v. length (contents v) < z) same (has_room (omega arith)) in omega arith in
              rw (ne_eqb at w elsewhere) is_full

  pass_from : (entries : List Entry) (k : ℕ) (contents : ℕ → List Entry) → PlacedBelow may m z gathered k contents → Rises k entries
      → ((b : ℕ) → k ≤ b → look b entries ≡ gathered b) → IsPlaced may m z gathered (fold (put_next may m z) contents entries)
  pass_from [] k contents p r looks = record {
    place = p.place;
    rises = p.rises;
    lies = λ b w. lies b w (cases_lt b k);
    allowed = p.allowed;
    room = p.room;
    full = λ b w within may_lie deeper. full b w within may_lie deeper (cases_lt b k);
  }
    where
      lies : (b w : ℕ) → (b < k) ⊎ (k ≤ b) → look b (contents w) ≡ cond (nat_eq (p.place b) w) (gathered b) None
      lies b w (inl before) = p.lies b w before
      lies b w (inr past) = look_past k b (contents w) (p.low w) past
          ∙ sym (ap (λ g. cond (nat_eq (p.place b) w) g None) (sym (looks b past)) ∙ none_either (nat_eq (p.place b) w))

      full : (b w : ℕ) → w ≤ m → may b w ≡ true → p.place b < w → (b < k) ⊎ (k ≤ b) → (length (contents w) ≡ z) × Below b (contents w)
      full b w within may_lie deeper (inl before) = p.full b w before within may_lie deeper
      full b w within may_lie deeper (inr past) = absurd (true≢false (sym (among b w may_lie) ∙ ap is_some (sym (looks b past))))
  pass_from (e ∷ entries) k contents p r looks =
      pass_from entries (e.id + 1) (put_next may m z contents e)
      (put_step k contents e p r.0 (sym (looks e.id r.0) ∙ look_here e entries e.id refl)
      (λ b le less. sym (looks b le) ∙ look_low e.id b (e ∷ entries) (omega arith, r.1) less))
      r.1 (λ b past. sym (look_on e entries b (λ same. omega arith)) ∙ looks b (let le = r.0 in omega arith))

pub pass_places : PassPlaces
pass_places may m z gathered entries is = pass_from may m z gathered is.among entries 0 (λ w. []) (record {
  place = λ b. 0;
  rises = λ w. tt;
  low = λ w k d h. absurd (omega arith);
  lies = λ b w h. absurd (omega arith);
  allowed = λ b. inl refl;
  room = λ w h. omega arith;
  full = λ b w h. absurd (omega arith);
}) is.rises (λ b h. is.looks b)

pub pass_more : PassMore
pass_more may m z entries i d within = fold_more (put_next may m z) (λ w. []) entries i d within

deepest_same : (p q : ℕ → Bool) (m : ℕ) → ((w : ℕ) → 0 < w → w ≤ m → p w ≡ q w) → deepest p m ≡ deepest q m
deepest_same p q zero h = refl
deepest_same p q (suc m) h = rw (h (m + 1) (omega arith) (omega arith)) (ap (λ r. cond (q (m + 1)) (m + 1) r) (deepest_same p q m (λ w some within. h w some (omega arith))))

pub spot_alike : SpotAlike
spot_alike may m z contents other b h =
    deepest_same (λ w. may b w && nat_lt (length (contents w)) z) (λ w. may b w && nat_lt (length (other w)) z) m
    (λ w some within. ap (λ n. may b w && nat_lt n z) (h w some within))
