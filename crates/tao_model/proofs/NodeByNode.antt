-- Filling node by node, the greatest first, computes a placement.
use Rattle.std.proofs.Common.{◌≡◌, ℕ, zero, suc, ◌+◌, ◌-◌, ◌<◌, ◌≤◌, Bool, true, false, ◌&&◌, ◌||◌, cond, List, [], ◌∷◌, ◌++◌, length, fold, take, filter, All, Option, Some, None, is_some, refl, sym, ap, ◌∙◌, subst, arith, inl, inr, ◌⊎◌, nat_eq, nat_lt, add-one}
use Rattle.std.proofs.lemmas.Bool.{ne_eqb, eq-eqb, cases_lt, cases_eq, and_parts, ltb-true, ltb-false, eqb-true, or_cases, true≢false}
use Rattle.std.proofs.lemmas.List.{length_push, append_assoc, append-nil}
use Rattle.std.proofs.lemmas.List.Elements.{All-push, All-head, All-tail}
use Rattle.std.proofs.lemmas.Option.{none-some}
use Rattle.std.proofs.lemmas.List.Sums.{fold_more}
use Rattle.tao_base.specs.declared.storage.Entry.{Entry}
use Rattle.tao_base.specs.Buckets.{Rises}
use Rattle.tao_model.specs.Placement.{look}
use Rattle.tao_model.specs.Passes.{Falls, Handed, handed, hand, hand_out, fill}
use Rattle.tao_model.specs.PlacementLaws.{IsHanded, HandsOut, HandsMore, TakesLowest, FillPlaces}
use Rattle.tao_model.proofs.RisingEntries.{Below, look_here, look_on, look_low, look_past}
use Rattle.tao_model.proofs.OnePlacement.{none_either}
use Rattle.tao_model.proofs.FallingPaths.{has, has_below}
use Rattle.tao_model.proofs.OnePass.{not_both, below_weaker, below_put, rises_put, look_put, look_put_other}

-- what was handed out of the entries with ids below k
record HandedBelow (passes : ℕ → Bool) (z : ℕ) (there : ℕ → Option (List ℕ)) (k : ℕ) (h : Handed) : Type 0 where
  taken_rises : Rises 0 h.taken
  rest_rises : Rises 0 h.rest
  taken_low : Below k h.taken
  rest_low : Below k h.rest
  either : (b : ℕ) → b < k → ((look b h.taken ≡ there b) × (look b h.rest ≡ None)) ⊎ ((look b h.taken ≡ None) × (look b h.rest ≡ there b))
  allowed : All (λ entry. passes entry.id ≡ true) h.taken
  room : length h.taken ≤ z
  full : (b : ℕ) → passes b ≡ true → is_some (look b h.rest) ≡ true → (length h.taken ≡ z) × Below b h.taken

-- one step; `t` says whether the node takes the entry
hand_step : (passes : ℕ → Bool) (z : ℕ) (there : ℕ → Option (List ℕ)) (k : ℕ) (h : Handed) (e : Entry) (t : Bool) → (passes e.id && nat_lt (length h.taken) z) ≡ t
    → HandedBelow passes z there k h → k ≤ e.id → there e.id ≡ Some e.value → ((b : ℕ) → k ≤ b → b < e.id → there b ≡ None)
    → HandedBelow passes z there (e.id + 1) (cond t (handed (h.taken ++ e ∷ []) h.rest) (handed h.taken (h.rest ++ e ∷ [])))
hand_step passes z there k h e true is p le has none = record {
  taken_rises = rises_put true h.taken e p.taken_rises taken_low;
  rest_rises = p.rest_rises;
  taken_low = below_put true h.taken e taken_low;
  rest_low = below_put false h.rest e rest_low;
  either = λ b below. either b below (cases_eq e.id b);
  allowed = All-push (λ entry. passes entry.id ≡ true) h.taken e p.allowed parts.0;
  room = let more = length_push h.taken e in let some = ltb-true (length h.taken) z parts.1 in omega arith;
  full = λ b may_lie stays. absurd (let all = (p.full b may_lie stays).0 in let some = ltb-true (length h.taken) z parts.1 in omega arith);
}
  where
    parts : (passes e.id ≡ true) × (nat_lt (length h.taken) z ≡ true)
    parts = and_parts (passes e.id) (nat_lt (length h.taken) z) is

    taken_low : Below e.id h.taken
    taken_low = below_weaker k e.id h.taken le p.taken_low

    rest_low : Below e.id h.rest
    rest_low = below_weaker k e.id h.rest le p.rest_low

    either : (b : ℕ) → b < e.id + 1 → (e.id ≡ b) ⊎ (e.id ≡ b → ⊥)
        → ((look b (h.taken ++ e ∷ []) ≡ there b) × (look b h.rest ≡ None)) ⊎ ((look b (h.taken ++ e ∷ []) ≡ None) × (look b h.rest ≡ there b))
    either b below (inl same) = subst (λ c. ((look c (h.taken ++ e ∷ []) ≡ there c) × (look c h.rest ≡ None)) ⊎ ((look c (h.taken ++ e ∷ []) ≡ None) × (look c h.rest ≡ there c))) same
        (inl (look_put true h.taken e taken_low ∙ sym has, look_past e.id e.id h.rest rest_low (omega arith)))
    either b below (inr other) = rw (look_put_other true h.taken e b other) (older (cases_lt b k))
      where
        older : (b < k) ⊎ (k ≤ b) → ((look b h.taken ≡ there b) × (look b h.rest ≡ None)) ⊎ ((look b h.taken ≡ None) × (look b h.rest ≡ there b))
        older (inl before) = p.either b before
        older (inr gap) = inl (look_past k b h.taken p.taken_low gap ∙ sym (none b gap (omega (arith, other))), look_past k b h.rest p.rest_low gap)
hand_step passes z there k h e false is p le has none = record {
  taken_rises = p.taken_rises;
  rest_rises = rises_put true h.rest e p.rest_rises rest_low;
  taken_low = below_put false h.taken e taken_low;
  rest_low = below_put true h.rest e rest_low;
  either = λ b below. either b below (cases_eq e.id b);
  allowed = p.allowed;
  room = p.room;
  full = λ b may_lie stays. full b may_lie stays (cases_eq e.id b);
}
  where
    taken_low : Below e.id h.taken
    taken_low = below_weaker k e.id h.taken le p.taken_low

    rest_low : Below e.id h.rest
    rest_low = below_weaker k e.id h.rest le p.rest_low

    either : (b : ℕ) → b < e.id + 1 → (e.id ≡ b) ⊎ (e.id ≡ b → ⊥)
        → ((look b h.taken ≡ there b) × (look b (h.rest ++ e ∷ []) ≡ None)) ⊎ ((look b h.taken ≡ None) × (look b (h.rest ++ e ∷ []) ≡ there b))
    either b below (inl same) = subst (λ c. ((look c h.taken ≡ there c) × (look c (h.rest ++ e ∷ []) ≡ None)) ⊎ ((look c h.taken ≡ None) × (look c (h.rest ++ e ∷ []) ≡ there c))) same
        (inr (look_past e.id e.id h.taken taken_low (omega arith), look_put true h.rest e rest_low ∙ sym has))
    either b below (inr other) = rw (look_put_other true h.rest e b other) (older (cases_lt b k))
      where
        older : (b < k) ⊎ (k ≤ b) → ((look b h.taken ≡ there b) × (look b h.rest ≡ None)) ⊎ ((look b h.taken ≡ None) × (look b h.rest ≡ there b))
        older (inl before) = p.either b before
        older (inr gap) = inl (look_past k b h.taken p.taken_low gap ∙ sym (none b gap (omega (arith, other))), look_past k b h.rest p.rest_low gap)

    full : (b : ℕ) → passes b ≡ true → is_some (look b (h.rest ++ e ∷ [])) ≡ true → (e.id ≡ b) ⊎ (e.id ≡ b → ⊥) → (length h.taken ≡ z) × Below b h.taken
    full b may_lie stays (inr other) = p.full b may_lie (ap is_some (sym (look_put_other true h.rest e b other)) ∙ stays)
    full b may_lie stays (inl same) =
        let many = ltb-false (length h.taken) z (not_both (passes e.id) (nat_lt (length h.taken) z) is (ap passes same ∙ may_lie)) in
        let few = p.room in
        (omega arith, subst (λ c. Below c h.taken) same taken_low)

hand_from : (passes : ℕ → Bool) (z : ℕ) (there : ℕ → Option (List ℕ)) (stash : List Entry) (k : ℕ) (h : Handed) → HandedBelow passes z there k h → Rises k stash
    → ((b : ℕ) → k ≤ b → look b stash ≡ there b) → (whole : List Entry) → ((b : ℕ) → look b whole ≡ there b)
    → IsHanded passes z whole (fold (hand passes z) h stash).taken (fold (hand passes z) h stash).rest
hand_from passes z there [] k h p r looks whole is = record {
  taken_rises = p.taken_rises;
  rest_rises = p.rest_rises;
  either = λ b. rw (is b) (either b (cases_lt b k));
  allowed = p.allowed;
  room = p.room;
  full = p.full;
}
  where
    either : (b : ℕ) → (b < k) ⊎ (k ≤ b) → ((look b h.taken ≡ there b) × (look b h.rest ≡ None)) ⊎ ((look b h.taken ≡ None) × (look b h.rest ≡ there b))
    either b (inl before) = p.either b before
    either b (inr past) = inl (look_past k b h.taken p.taken_low past ∙ looks b past, look_past k b h.rest p.rest_low past)
hand_from passes z there (e ∷ stash) k h p r looks whole is =
    hand_from passes z there stash (e.id + 1) (hand passes z h e)
    (hand_step passes z there k h e (passes e.id && nat_lt (length h.taken) z) refl p r.0 (sym (looks e.id r.0) ∙ look_here e stash e.id refl)
    (λ b le less. sym (looks b le) ∙ look_low e.id b (e ∷ stash) (omega arith, r.1) less))
    r.1 (λ b past. sym (look_on e stash b (λ same. omega arith)) ∙ looks b (let le = r.0 in omega arith)) whole is

pub hands_out : HandsOut
hands_out passes z stash r = hand_from passes z (λ b. look b stash) stash 0 (handed [] []) (record {
  taken_rises = tt;
  rest_rises = tt;
  taken_low = λ k d h. absurd (omega arith);
  rest_low = λ k d h. absurd (omega arith);
  either = λ b h. absurd (omega arith);
  allowed = λ k d h. absurd (omega arith);
  room = omega arith;
  full = λ b may_lie stays. absurd (true≢false (sym stays));
}) r (λ b h. refl) stash (λ b. refl)

pub hands_more : HandsMore
hands_more passes z stash i d within = fold_more (hand passes z) (handed [] []) stash i d within

take_one : {X : Type 0} (n k : ℕ) (x : X) (xs : List X) → n ≡ k + 1 → take n (x ∷ xs) ≡ x ∷ take k xs
take_one n k x xs e = rw (e, add-one k) refl

take_none : {X : Type 0} (n : ℕ) (xs : List X) → n ≡ 0 → take n xs ≡ []
take_none n xs e = rw e refl

lowest_step : (passes : ℕ → Bool) (z : ℕ) (h : Handed) (e : Entry) (left : List Entry) (result : Handed → List Entry) (t s : Bool) → passes e.id ≡ t → nat_lt (length h.taken) z ≡ s
    → ((g : Handed) → result g ≡ g.taken ++ take (z - length g.taken) left)
    → result (cond (t && s) (handed (h.taken ++ e ∷ []) h.rest) (handed h.taken (h.rest ++ e ∷ []))) ≡ h.taken ++ take (z - length h.taken) (cond t (e ∷ left) left)
lowest_step passes z h e left result false s p l ih = ih (handed h.taken (h.rest ++ e ∷ []))
lowest_step passes z h e left result true false p l ih =
    let full : z - length h.taken ≡ 0 = let many = ltb-false (length h.taken) z l in omega arith in
    ih (handed h.taken (h.rest ++ e ∷ [])) ∙ ap (λ es. h.taken ++ es) (take_none (z - length h.taken) left full ∙ sym (take_none (z - length h.taken) (e ∷ left) full))
lowest_step passes z h e left result true true p l ih =
    let one : z - length h.taken ≡ (z - length (h.taken ++ e ∷ [])) + 1 = let more = length_push h.taken e in let some = ltb-true (length h.taken) z l in omega arith in
    ih (handed (h.taken ++ e ∷ []) h.rest) ∙ append_assoc h.taken (e ∷ []) (take (z - length (h.taken ++ e ∷ [])) left)
    ∙ ap (λ es. h.taken ++ es) (sym (take_one (z - length h.taken) (z - length (h.taken ++ e ∷ [])) e left one))

lowest_from : (passes : ℕ → Bool) (z : ℕ) (stash : List Entry) (h : Handed)
    → (fold (hand passes z) h stash).taken ≡ h.taken ++ take (z - length h.taken) (filter (λ entry. passes entry.id) stash)
lowest_from passes z [] h = sym (ap (λ es. h.taken ++ es) (take_nil (z - length h.taken)) ∙ append-nil h.taken)
  where
    take_nil : (n : ℕ) → take {A = Entry} n [] ≡ []
    take_nil zero = refl
    take_nil (suc n) = refl
lowest_from passes z (e ∷ stash) h =
    lowest_step passes z h e (filter (λ entry. passes entry.id) stash) (λ g. (fold (hand passes z) g stash).taken) (passes e.id) (nat_lt (length h.taken) z) refl refl (λ g. lowest_from passes z stash g)

pub takes_lowest : TakesLowest
takes_lowest passes z stash = lowest_from passes z stash (handed [] []) ∙ ap (λ n. take n (filter (λ entry. passes entry.id) stash)) (omega arith)

-- ---- node by node

-- what filling the nodes of a list gives
record IsFill (may : ℕ → ℕ → Bool) (z : ℕ) (nodes : List ℕ) (stash : List Entry) (contents : ℕ → List Entry) : Type 0 where
  place : ℕ → ℕ
  rises : (w : ℕ) → Rises 0 (contents w)
  lies : (b w : ℕ) → look b (contents w) ≡ cond (nat_eq (place b) w) (look b stash) None
  allowed : (b : ℕ) → (place b ≡ 0) ⊎ ((has (place b) nodes ≡ true) × (may b (place b) ≡ true))
  room : (w : ℕ) → 0 < w → length (contents w) ≤ z
  full : (b w : ℕ) → is_some (look b stash) ≡ true → has w nodes ≡ true → may b w ≡ true → place b < w → (length (contents w) ≡ z) × Below b (contents w)

-- an entry found in a list passes whatever all of the list passes
look_passes : (passes : ℕ → Bool) (b : ℕ) (x : List ℕ) (es : List Entry) → All (λ entry. passes entry.id ≡ true) es → look b es ≡ Some x → passes b ≡ true
look_passes passes b x [] all found = absurd (none-some x found)
look_passes passes b x (e ∷ es) all found = either (cases_eq e.id b)
    (λ other. look_passes passes b x es (All-tail (λ entry. passes entry.id ≡ true) e es all) (sym (look_on e es b other) ∙ found))
  where
    either : (e.id ≡ b) ⊎ (e.id ≡ b → ⊥) → ((e.id ≡ b → ⊥) → passes b ≡ true) → passes b ≡ true
    either (inl same) ih = ap passes (sym same) ∙ All-head (λ entry. passes entry.id ≡ true) e es all
    either (inr other) ih = ih other

module _ (may : ℕ → ℕ → Bool) (z k w : ℕ) (ws : List ℕ) (stash taken rest : List Entry) (later : ℕ → List Entry)
    (falls : Falls k (w ∷ ws)) (h : IsHanded (λ b. may b w) z stash taken rest) (f : IsFill may z ws rest later) where
  abbrev spots : ℕ → ℕ
  spots b = cond (is_some (look b taken)) w (f.place b)

  later_below : (b : ℕ) → (f.place b ≡ 0) ⊎ ((has (f.place b) ws ≡ true) × (may b (f.place b) ≡ true)) → f.place b < w
  later_below b (inl waits) = let low = falls.0 in omega arith
  later_below b (inr node) = (has_below w (f.place b) ws falls.2 node.0).1

  abbrev contents : ℕ → List Entry
  contents v = cond (nat_eq v w) taken (later v)

  -- a block that the node didn't take lies where the later nodes put it
  untaken : (b : ℕ) → look b taken ≡ None → (spots b ≡ f.place b) × (look b rest ≡ look b stash)
  untaken b gone = (ap (λ o. cond (is_some o) w (f.place b)) gone, either (h.either b))
    where
      either : ((look b taken ≡ look b stash) × (look b rest ≡ None)) ⊎ ((look b taken ≡ None) × (look b rest ≡ look b stash)) → look b rest ≡ look b stash
      either (inl took) = took.1 ∙ sym gone ∙ took.0
      either (inr left) = left.1

  taken_is : (b : ℕ) (x : List ℕ) → look b taken ≡ Some x → (spots b ≡ w) × (look b stash ≡ Some x) × (look b rest ≡ None)
  taken_is b x took = either (h.either b)
    where
      either : ((look b taken ≡ look b stash) × (look b rest ≡ None)) ⊎ ((look b taken ≡ None) × (look b rest ≡ look b stash))
          → (spots b ≡ w) × (look b stash ≡ Some x) × (look b rest ≡ None)
      either (inl ways) = (ap (λ o. cond (is_some o) w (f.place b)) took, sym ways.0 ∙ took, ways.1)
      either (inr left) = absurd (none-some x (sym left.0 ∙ took))

  lies_with : (b v : ℕ) (o : Option (List ℕ)) → look b taken ≡ o → look b (contents v) ≡ cond (nat_eq (spots b) v) (look b stash) None
  lies_with b v None gone = rw ((untaken b gone).0) (at (cases_eq v w))
    where
      elsewhere : (v ≡ w) → f.place b ≡ v → ⊥
      elsewhere here same = let below = later_below b (f.allowed b) in omega arith

      at : (v ≡ w) ⊎ (v ≡ w → ⊥) → look b (contents v) ≡ cond (nat_eq (f.place b) v) (look b stash) None
      at (inl here) = rw (eq-eqb v w here, ne_eqb (f.place b) v (elsewhere here)) gone
      at (inr other) = rw (ne_eqb v w other) (f.lies b v ∙ ap (λ o. cond (nat_eq (f.place b) v) o None) (untaken b gone).1)
  lies_with b v (Some x) took = rw (is.0, is.1) (at (cases_eq v w))
    where
      is : (spots b ≡ w) × (look b stash ≡ Some x) × (look b rest ≡ None)
      is = taken_is b x took

      at : (v ≡ w) ⊎ (v ≡ w → ⊥) → look b (contents v) ≡ cond (nat_eq w v) (Some x) None
      at (inl here) = rw (eq-eqb v w here, eq-eqb w v (sym here)) took
      at (inr other) = rw (ne_eqb v w other, ne_eqb w v (λ same. other (sym same))) (f.lies b v ∙ ap (λ o. cond (nat_eq (f.place b) v) o None) is.2 ∙ none_either (nat_eq (f.place b) v))

  fill_step : IsFill may z (w ∷ ws) stash contents
  fill_step = record {
    place = spots;
    rises = λ v. rises v (nat_eq v w);
    lies = λ b v. lies_with b v (look b taken) refl;
    allowed = λ b. allowed b (look b taken) refl;
    room = λ v node. room v node (nat_eq v w);
    full = λ b v there in_list may_lie deeper. full b v (look b taken) refl there in_list may_lie deeper (cases_eq v w);
  }
    where
      rises : (v : ℕ) (t : Bool) → Rises 0 (cond t taken (later v))
      rises v true = h.taken_rises
      rises v false = f.rises v

      room : (v : ℕ) → 0 < v → (t : Bool) → length (cond t taken (later v)) ≤ z
      room v node true = h.room
      room v node false = f.room v node

      or_later : (x y : Bool) → y ≡ true → (x || y) ≡ true
      or_later true y e = refl
      or_later false y e = e

      allowed : (b : ℕ) (o : Option (List ℕ)) → look b taken ≡ o → (spots b ≡ 0) ⊎ ((has (spots b) (w ∷ ws) ≡ true) × (may b (spots b) ≡ true))
      allowed b None gone = subst (λ p. (p ≡ 0) ⊎ ((has p (w ∷ ws) ≡ true) × (may b p ≡ true))) (sym (untaken b gone).0) (either (f.allowed b))
        where
          either : (f.place b ≡ 0) ⊎ ((has (f.place b) ws ≡ true) × (may b (f.place b) ≡ true))
              → (f.place b ≡ 0) ⊎ (((nat_eq w (f.place b) || has (f.place b) ws) ≡ true) × (may b (f.place b) ≡ true))
          either (inl stash) = inl stash
          either (inr node) = inr (or_later (nat_eq w (f.place b)) (has (f.place b) ws) node.0, node.1)
      allowed b (Some x) took = rw ((taken_is b x took).0) (inr (rw (eq-eqb w w refl) refl, look_passes (λ c. may c w) b x taken h.allowed took))

      full : (b v : ℕ) (o : Option (List ℕ)) → look b taken ≡ o → is_some (look b stash) ≡ true → has v (w ∷ ws) ≡ true → may b v ≡ true → spots b < v
          → (v ≡ w) ⊎ (v ≡ w → ⊥) → (length (contents v) ≡ z) × Below b (contents v)
      full b v (Some x) took there in_list may_lie deeper at =
          let here : w < v = rw (taken_is b x took).0 at deeper in
          let below = (has_below (w + 1) v (w ∷ ws) (falls.0, omega arith, falls.2) in_list).1 in
          absurd (omega arith)
      full b v None gone there in_list may_lie deeper (inl here) =
          rw (eq-eqb v w here) (h.full b (ap (may b) (sym here) ∙ may_lie) (ap is_some (untaken b gone).1 ∙ there))
      full b v None gone there in_list may_lie deeper (inr other) =
          rw (ne_eqb v w other) (f.full b v (ap is_some (untaken b gone).1 ∙ there) (in_rest (or_cases (nat_eq w v) (has v ws) in_list)) may_lie (rw (untaken b gone).0 at deeper))
        where
          in_rest : (nat_eq w v ≡ true) ⊎ (has v ws ≡ true) → has v ws ≡ true
          in_rest (inl same) = absurd (other (sym (eqb-true w v same)))
          in_rest (inr later) = later

fill_is : (may : ℕ → ℕ → Bool) (z k : ℕ) (nodes : List ℕ) (stash : List Entry) → Falls k nodes → Rises 0 stash → IsFill may z nodes stash (fill may z nodes stash)
fill_is may z k [] stash falls r = record {
  place = λ b. 0;
  rises = λ v. rises v (nat_eq v 0);
  lies = λ b v. lies b v (cases_eq v 0);
  allowed = λ b. inl refl;
  room = λ v node. rw (ne_eqb v 0 (λ same. omega arith)) (omega arith);
  full = λ b v there in_list. absurd (true≢false (sym in_list));
}
  where
    rises : (v : ℕ) (t : Bool) → Rises 0 (cond t stash [])
    rises v true = r
    rises v false = tt

    lies : (b v : ℕ) → (v ≡ 0) ⊎ (v ≡ 0 → ⊥) → look b (cond (nat_eq v 0) stash []) ≡ cond (nat_eq 0 v) (look b stash) None
    lies b v (inl here) = rw (eq-eqb v 0 here, eq-eqb 0 v (sym here)) refl
    lies b v (inr other) = rw (ne_eqb v 0 other, ne_eqb 0 v (λ same. other (sym same))) refl
fill_is may z k (w ∷ ws) stash falls r =
    let h = hands_out (λ b. may b w) z stash r in
    fill_step may z k w ws stash (hand_out (λ b. may b w) z stash).taken (hand_out (λ b. may b w) z stash).rest
    (fill may z ws (hand_out (λ b. may b w) z stash).rest) falls h (fill_is may z w ws (hand_out (λ b. may b w) z stash).rest falls.2 h.rest_rises)

pub fill_places : FillPlaces
fill_places may m z gathered nodes entries is round = record {
  place = f.place;
  rises = f.rises;
  lies = λ b w. f.lies b w ∙ ap (λ o. cond (nat_eq (f.place b) w) o None) (is.looks b);
  allowed = λ b. allowed b (f.allowed b);
  room = f.room;
  full = λ b w within may_lie deeper. f.full b w (ap is_some (is.looks b) ∙ is.among b w may_lie) (round.all b w (omega arith) within may_lie) may_lie deeper;
}
  where
    f : IsFill may z nodes entries (fill may z nodes entries)
    f = fill_is may z (m + 1) nodes entries round.falls is.rises

    allowed : (b : ℕ) → (f.place b ≡ 0) ⊎ ((has (f.place b) nodes ≡ true) × (may b (f.place b) ≡ true)) → (f.place b ≡ 0) ⊎ ((f.place b ≤ m) × (may b (f.place b) ≡ true))
    allowed b (inl waits) = inl waits
    allowed b (inr node) = let below = (has_below (m + 1) (f.place b) nodes round.falls node.0).1 in inr (omega arith, node.1)
