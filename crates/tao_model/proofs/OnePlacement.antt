-- There is at most one placement: two that agree on all lower ids agree on the next one.
use Rattle.std.proofs.Common.{◌≡◌, ℕ, zero, suc, ◌<◌, ◌≤◌, Bool, true, false, cond, List, length, Option, Some, None, refl, sym, ap, ◌∙◌, arith, inl, inr, ◌⊎◌, nat_eq}
use Rattle.std.proofs.lemmas.Bool.{eq-eqb, cases_lt, cases_order}
use Rattle.tao_base.specs.declared.storage.Entry.{Entry}
use Rattle.tao_model.specs.Placement.{look, IsPlaced}
use Rattle.tao_model.specs.PlacementLaws.{OnePlacement, PlacedAlike}
use Rattle.tao_model.proofs.RisingEntries.{same_entries, more_entries}

pub none_either : {X : Type 0} (t : Bool) → cond {A = Option X} t None None ≡ None
none_either true = refl
none_either false = refl

-- a look-up agrees at every node if gathered blocks lie in the same nodes
same_at : {X : Type 0} (i j w : ℕ) (g : Option X) → ((x : X) → g ≡ Some x → i ≡ j) → cond (nat_eq i w) g None ≡ cond (nat_eq j w) g None
same_at i j w None h = none_either (nat_eq i w) ∙ sym (none_either (nat_eq j w))
same_at i j w (Some x) h = ap (λ k. cond (nat_eq k w) (Some x) None) (h x refl)

-- two placements agree on every gathered block below b
abbrev AgreeBelow : (ℕ → Option (List ℕ)) → (ℕ → ℕ) → (ℕ → ℕ) → ℕ → Type 0
AgreeBelow gathered p q b = (c : ℕ) → c < b → (x : List ℕ) → gathered c ≡ Some x → p c ≡ q c

not_deeper : (may : ℕ → ℕ → Bool) (m z : ℕ) (gathered : ℕ → Option (List ℕ)) (one other : ℕ → List Entry)
    (p : IsPlaced may m z gathered one) (q : IsPlaced may m z gathered other) (b : ℕ) (x : List ℕ)
    → AgreeBelow gathered p.place q.place b → gathered b ≡ Some x → p.place b < q.place b → ⊥
not_deeper may m z gathered one other p q b x agree has deeper = either (q.allowed b)
  where
    either : (q.place b ≡ 0) ⊎ ((q.place b ≤ m) × (may b (q.place b) ≡ true)) → ⊥
    either (inl stash) = omega arith
    either (inr node) =
        let full = p.full b (q.place b) node.0 node.1 deeper in
        let there : look b (other (q.place b)) ≡ Some x = q.lies b (q.place b) ∙ rw (eq-eqb (q.place b) (q.place b) refl) has in
        let more : length (one (q.place b)) < length (other (q.place b)) =
        more_entries b x 0 (one (q.place b)) (other (q.place b)) (p.rises (q.place b)) (q.rises (q.place b)) full.1
        (λ c low. p.lies c (q.place b) ∙ same_at (p.place c) (q.place c) (q.place b) (gathered c) (λ y e. agree c low y e) ∙ sym (q.lies c (q.place b))) there in
        let room = q.room (q.place b) (omega arith) in
        let all = full.0 in
        omega arith

agree_below : (may : ℕ → ℕ → Bool) (m z : ℕ) (gathered : ℕ → Option (List ℕ)) (one other : ℕ → List Entry)
    (p : IsPlaced may m z gathered one) (q : IsPlaced may m z gathered other) (b : ℕ) → AgreeBelow gathered p.place q.place b
agree_below may m z gathered one other p q zero c low x has = absurd (omega arith)
agree_below may m z gathered one other p q (suc b) c low x has = either (agree_below may m z gathered one other p q b) (cases_lt c b)
  where
    meets : AgreeBelow gathered p.place q.place c → (p.place c ≡ q.place c) ⊎ ((p.place c < q.place c) ⊎ (q.place c < p.place c)) → p.place c ≡ q.place c
    meets agree (inl same) = same
    meets agree (inr (inl deeper)) = absurd (not_deeper may m z gathered one other p q c x agree has deeper)
    meets agree (inr (inr deeper)) = absurd (not_deeper may m z gathered other one q p c x (λ d k y e. sym (agree d k y e)) has deeper)

    either : AgreeBelow gathered p.place q.place b → (c < b) ⊎ (b ≤ c) → p.place c ≡ q.place c
    either agree (inl before) = agree c before x has
    either agree (inr here) = meets (λ d k y e. agree d (omega arith) y e) (cases_order (p.place c) (q.place c))

pub one_placement : OnePlacement
one_placement may m z gathered one other p q w =
    same_entries 0 (one w) (other w) (p.rises w) (q.rises w)
    (λ b. p.lies b w ∙ same_at (p.place b) (q.place b) w (gathered b) (λ x e. agree_below may m z gathered one other p q (suc b) b (omega arith) x e) ∙ sym (q.lies b w))

pub placed_alike : PlacedAlike
placed_alike may may' m z gathered gathered' contents contents' allows gathers has p = record {
  place = p.place;
  rises = λ w. rw (← has w) (p.rises w);
  lies = λ b w. rw (← has w, ← gathers b) (p.lies b w);
  allowed = λ b. rw (← allows b (p.place b)) (p.allowed b);
  room = λ w node. rw (← has w) (p.room w node);
  full = λ b w within may_lie deeper. rw (← has w) (p.full b w within (allows b w ∙ may_lie) deeper);
}
