-- A pass over all entries: it hangs on where they may go alone, and puts no others.
use Rattle.std.proofs.Common.{◌≡◌, ℕ, zero, suc, ◌+◌, Bool, true, false, ◌&&◌, cond, List, [], ◌∷◌, ◌++◌, length, fold, All, nat_eq, nat_lt, refl, ap, ◌∙◌}
use Rattle.std.proofs.lemmas.List.Elements.{All-head, All-tail, All-push}
use Rattle.tao_base.specs.declared.storage.Entry.{Entry}
use Rattle.tao_model.specs.Passes.{deepest, spot, put_at, put_next}

deepest_same : (f g : ℕ → Bool) (m : ℕ) → ((w : ℕ) → f w ≡ g w) → deepest f m ≡ deepest g m
deepest_same f g zero same = refl
deepest_same f g (suc m) same = rw (same (m + 1)) (ap (λ r. cond (g (m + 1)) (m + 1) r) (deepest_same f g m same))

-- a pass in which each entry may go where it may go in another pass
pub pass_same : (may may' : ℕ → ℕ → Bool) (m z : ℕ) (contents : ℕ → List Entry) (es : List Entry) → All (λ e. (w : ℕ) → may e.id w ≡ may' e.id w) es
    → fold (put_next may m z) contents es ≡ fold (put_next may' m z) contents es
pass_same may may' m z contents [] same = refl
pass_same may may' m z contents (e ∷ es) same =
    let here = All-head (λ f. (w : ℕ) → may f.id w ≡ may' f.id w) e es same in
    let spot_is : spot may m z contents e.id ≡ spot may' m z contents e.id =
    deepest_same (λ w. may e.id w && nat_lt (length (contents w)) z) (λ w. may' e.id w && nat_lt (length (contents w)) z) m (λ w. ap (λ t. t && nat_lt (length (contents w)) z) (here w)) in
    ap (λ v. fold (put_next may m z) (put_at contents v e) es) spot_is
    ∙ pass_same may may' m z (put_at contents (spot may' m z contents e.id) e) es (All-tail (λ f. (w : ℕ) → may f.id w ≡ may' f.id w) e es same)

-- a pass puts no other entries than those it is given
pub pass_keeps : (P : Entry → Type 0) (may : ℕ → ℕ → Bool) (m z : ℕ) (contents : ℕ → List Entry) (es : List Entry) → ((w : ℕ) → All P (contents w)) → All P es
    → (w : ℕ) → All P (fold (put_next may m z) contents es w)
pass_keeps P may m z contents [] has_all all w = has_all w
pass_keeps P may m z contents (e ∷ es) has_all all w =
    pass_keeps P may m z (put_at contents (spot may m z contents e.id) e) es (λ v. put (nat_eq (spot may m z contents e.id) v) v) (All-tail P e es all) w
  where
    put : (t : Bool) (v : ℕ) → All P (cond t (contents v ++ e ∷ []) (contents v))
    put true v = All-push P (contents v) e (has_all v) (All-head P e es all)
    put false v = has_all v
