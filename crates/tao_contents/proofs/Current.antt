-- How the proxy's steps change the current contents, node by node.
use Rattle.std.proofs.Common.{◌≡◌, ℕ, Bool, true, false, not, ◌&&◌, ◌||◌, cond, List, [], ◌∷◌, is_some, refl, sym, ap, ◌∙◌, inl, inr, ◌⊎◌, nat_eq}
use Rattle.std.proofs.lemmas.Bool.{eq-eqb, eqb-true, cases_Bool, or_right, true≢false}
use Rattle.tao_base.specs.declared.storage.Entry.{Entry}
use Rattle.tao_base.specs.Limits.{Shape}
use Rattle.tao_base.specs.Tree.{node_count, path, is_on_path}
use Rattle.tao_model.specs.Placement.{look, first_copy, may_evict, IsEvicted}
use Rattle.tao_model.specs.FreshCopy.{current_contents}
use Rattle.tao_model.proofs.FallingPaths.{has}
use Rattle.tao_model.proofs.OnePlacement.{placed_alike}
use Rattle.tao_held.specs.Steps.{take_in, with_path, put}
use Rattle.tao_contents.specs.FetchLaws.{IsHonest}
use Rattle.tao_contents.proofs.Looks.{stash_is_off, inside_is, first_alike}

-- ---- admitting a path

take_in_cases : (z r p : Bool) (o t n : List Entry) → (z ≡ true → p ≡ true → ⊥) → (p ≡ true → r ≡ false → t ≡ n)
    → cond (z || r) o n ≡ cond (z || (r || p)) (cond (p && not r) t o) n
take_in_cases true r true o t n off honest = absurd (off refl refl)
take_in_cases true r false o t n off honest = refl
take_in_cases false true true o t n off honest = refl
take_in_cases false true false o t n off honest = refl
take_in_cases false false true o t n off honest = sym (honest refl refl)
take_in_cases false false false o t n off honest = refl

pub current_taken_in : (l at : ℕ) (resident : ℕ → Bool) (taken own newest : ℕ → List Entry) → IsHonest l at resident taken newest
    → (w : ℕ) → current_contents resident own newest w ≡ current_contents (with_path l at resident) (take_in l at resident taken own) newest w
current_taken_in l at resident taken own newest honest w =
    take_in_cases (nat_eq w 0) (resident w) (is_on_path l at w) (own w) (taken w) (newest w)
    (λ stash on. true≢false (sym on ∙ ap (is_on_path l at) (eqb-true w 0 stash) ∙ stash_is_off l at)) (honest w)

pub held_path : (l at : ℕ) (resident : ℕ → Bool) (w : ℕ) → is_on_path l at w ≡ true → with_path l at resident w ≡ true
held_path l at resident w on = or_right (resident w) (is_on_path l at w) on

-- ---- if the path is held, the stash and the path are the proxy's own

abbrev pub HoldsPath : ℕ → ℕ → (ℕ → Bool) → Type 0
HoldsPath l at resident = (w : ℕ) → is_on_path l at w ≡ true → resident w ≡ true

pub current_inside : (l at : ℕ) (resident : ℕ → Bool) (own newest : ℕ → List Entry) → HoldsPath l at resident → (w : ℕ) → has w (0 ∷ path l at) ≡ true
    → current_contents resident own newest w ≡ own w
current_inside l at resident own newest holds w inside = ap (λ t. cond t (own w) (newest w)) (held (inside_is l at w inside))
  where
    held : (w ≡ 0) ⊎ (is_on_path l at w ≡ true) → (nat_eq w 0 || resident w) ≡ true
    held (inl stash) = ap (λ t. t || resident w) (eq-eqb w 0 stash)
    held (inr on) = or_right (nat_eq w 0) (resident w) (holds w on)

-- ---- put

put_cases : (z r : Bool) (g o n : List Entry) → cond z g (cond (z || r) o n) ≡ cond (z || r) (cond z g o) n
put_cases true r g o n = refl
put_cases false r g o n = refl

pub current_put : (resident : ℕ → Bool) (own newest : ℕ → List Entry) (b : ℕ) (value : List ℕ) (w : ℕ)
    → put (current_contents resident own newest) b value w ≡ current_contents resident (put own b value) newest w
current_put resident own newest b value w = put_cases (nat_eq w 0) (resident w) (put own b value 0) (own w) (newest w)

-- ---- the eviction

pub evicted_current : (s : Shape) (at : ℕ) (leaf : ℕ → ℕ) (resident : ℕ → Bool) (old new newest : ℕ → List Entry) → HoldsPath s.l at resident
    → IsEvicted s (path s.l at) leaf old new → IsEvicted s (path s.l at) leaf (current_contents resident old newest) (current_contents resident new newest)
evicted_current s at leaf resident old new newest holds is = record {
  placed = placed_alike (may_evict s.l (path s.l at) leaf old) (may_evict s.l (path s.l at) leaf (current_contents resident old newest)) (node_count s.l) s.z
      (first_copy (0 ∷ path s.l at) old) (first_copy (0 ∷ path s.l at) (current_contents resident old newest))
      (λ w. cond (has w (0 ∷ path s.l at)) (new w) []) (λ w. cond (has w (0 ∷ path s.l at)) (current_contents resident new newest w) [])
      (λ b w. ap (λ g. is_some g && (has w (path s.l at) && is_on_path s.l (leaf b) w)) (first b)) first (λ w. shown w (cases_Bool (has w (0 ∷ path s.l at)))) is.placed;
  others = λ w off. ap (λ entries. cond (nat_eq w 0 || resident w) entries (newest w)) (is.others w off);
}
  where
    first : (b : ℕ) → first_copy (0 ∷ path s.l at) old b ≡ first_copy (0 ∷ path s.l at) (current_contents resident old newest) b
    first b = first_alike b old (current_contents resident old newest) (0 ∷ path s.l at) (λ w inside. ap (look b) (sym (current_inside s.l at resident old newest holds w inside)))

    shown : (w : ℕ) → (has w (0 ∷ path s.l at) ≡ true) ⊎ (has w (0 ∷ path s.l at) ≡ false)
        → cond (has w (0 ∷ path s.l at)) (new w) [] ≡ cond (has w (0 ∷ path s.l at)) (current_contents resident new newest w) []
    shown w (inl inside) = ap (λ entries. cond (has w (0 ∷ path s.l at)) entries []) (sym (current_inside s.l at resident new newest holds w inside))
    shown w (inr off) = rw off refl
