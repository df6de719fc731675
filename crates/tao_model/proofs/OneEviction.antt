-- There is exactly one eviction.
use Rattle.std.proofs.Common.{◌≡◌, ℕ, ◌≤◌, Bool, true, false, ◌&&◌, ◌||◌, cond, List, [], ◌∷◌, reverse, Some, is_some, refl, sym, ap, ◌∙◌, arith, inl, inr, ◌⊎◌, nat_eq}
use Rattle.std.proofs.lemmas.Bool.{ne_eqb, eq-eqb, cases_Bool, and_parts, or_parts, true≢false}
use Rattle.tao_base.specs.declared.storage.Entry.{Entry}
use Rattle.tao_base.specs.Limits.{Shape}
use Rattle.tao_base.specs.Tree.{node_count, path, is_on_path}
use Rattle.tao_model.specs.Placement.{look, IsPlaced, may_evict, first_copy}
use Rattle.tao_model.specs.Passes.{one_pass, fill, gathered_from}
use Rattle.tao_model.specs.Evictions.{EvictionGathers, EvictionRound, EvictionIsPlaced, OneEviction, EvictionFills, FirstCopyStays, evicted}
use Rattle.tao_model.proofs.OnePlacement.{one_placement, placed_alike}
use Rattle.tao_model.proofs.OnePass.{pass_places}
use Rattle.tao_model.proofs.NodeByNode.{fill_places}
use Rattle.tao_model.proofs.FirstCopies.{gathers_first}
use Rattle.tao_model.proofs.FallingPaths.{has, has_reverse, path_falls}
use Rattle.tao_model.proofs.PlacedEntries.{none_lie}

pub eviction_gathers : EvictionGathers
eviction_gathers l path leaf old = record {
  rises = (gathers_first old (0 ∷ path)).0;
  looks = λ b. (gathers_first old (0 ∷ path)).1 b;
  among = λ b w may_lie. (and_parts (is_some (first_copy (0 ∷ path) old b)) (has w path && is_on_path l (leaf b) w) may_lie).0;
}

pub eviction_round : EvictionRound
eviction_round l at leaf old small = record {
  falls = path_falls l at small;
  all = λ b w low within may_lie. has_reverse w (path l at)
      ∙ (and_parts (has w (path l at)) (is_on_path l (leaf b) w) (and_parts (is_some (first_copy (0 ∷ path l at) old b)) (has w (path l at) && is_on_path l (leaf b) w) may_lie).1).0;
}

eviction_pass : (s : Shape) (path : List ℕ) (leaf : ℕ → ℕ) (old : ℕ → List Entry)
    → IsPlaced (may_evict s.l path leaf old) (node_count s.l) s.z (first_copy (0 ∷ path) old) (one_pass (may_evict s.l path leaf old) (node_count s.l) s.z (gathered_from old (0 ∷ path)))
eviction_pass s path leaf old = pass_places (may_evict s.l path leaf old) (node_count s.l) s.z (first_copy (0 ∷ path) old) (gathered_from old (0 ∷ path)) (eviction_gathers s.l path leaf old)

-- a placement has nothing outside the stash and the path
off_path : (s : Shape) (path : List ℕ) (leaf : ℕ → ℕ) (old contents : ℕ → List Entry) → IsPlaced (may_evict s.l path leaf old) (node_count s.l) s.z (first_copy (0 ∷ path) old) contents
    → (w : ℕ) → has w (0 ∷ path) ≡ false → contents w ≡ []
off_path s path leaf old contents p w off = none_lie (may_evict s.l path leaf old) (node_count s.l) s.z (first_copy (0 ∷ path) old) contents p w (λ b at. lies b at (p.allowed b))
  where
    parts : (nat_eq 0 w ≡ false) × (has w path ≡ false)
    parts = or_parts (nat_eq 0 w) (has w path) off

    lies : (b : ℕ) → p.place b ≡ w → (p.place b ≡ 0) ⊎ ((p.place b ≤ node_count s.l) × (may_evict s.l path leaf old b (p.place b) ≡ true)) → ⊥
    lies b at (inl stash) = true≢false (sym (eq-eqb 0 w (omega arith)) ∙ parts.0)
    lies b at (inr node) =
        let on = (and_parts (has (p.place b) path) (is_on_path s.l (leaf b) (p.place b)) (and_parts (is_some (first_copy (0 ∷ path) old b)) (has (p.place b) path && is_on_path s.l (leaf b) (p.place b)) node.1).1).0 in
        true≢false (sym on ∙ ap (λ v. has v path) at ∙ parts.1)

within_path : (s : Shape) (path : List ℕ) (leaf : ℕ → ℕ) (old contents : ℕ → List Entry) → IsPlaced (may_evict s.l path leaf old) (node_count s.l) s.z (first_copy (0 ∷ path) old) contents
    → (other : ℕ → List Entry) → IsPlaced (may_evict s.l path leaf old) (node_count s.l) s.z (first_copy (0 ∷ path) old) (λ w. cond (has w (0 ∷ path)) (cond (has w (0 ∷ path)) (contents w) (other w)) [])
within_path s path leaf old contents p other =
    placed_alike (may_evict s.l path leaf old) (may_evict s.l path leaf old) (node_count s.l) s.z (first_copy (0 ∷ path) old) (first_copy (0 ∷ path) old) contents
    (λ w. cond (has w (0 ∷ path)) (cond (has w (0 ∷ path)) (contents w) (other w)) []) (λ b w. refl) (λ b. refl) (λ w. either w (cases_Bool (has w (0 ∷ path)))) p
  where
    either : (w : ℕ) → (has w (0 ∷ path) ≡ true) ⊎ (has w (0 ∷ path) ≡ false) → contents w ≡ cond (has w (0 ∷ path)) (cond (has w (0 ∷ path)) (contents w) (other w)) []
    either w (inl on) = rw on refl
    either w (inr off) = rw off (off_path s path leaf old contents p w off)

pub eviction_is_placed : EvictionIsPlaced
eviction_is_placed s path leaf old = record {
  placed = within_path s path leaf old (one_pass (may_evict s.l path leaf old) (node_count s.l) s.z (gathered_from old (0 ∷ path))) (eviction_pass s path leaf old) old;
  others = λ w off. rw off refl;
}

pub one_eviction : OneEviction
one_eviction s path leaf old new is w = either (cases_Bool (has w (0 ∷ path)))
  where
    either : (has w (0 ∷ path) ≡ true) ⊎ (has w (0 ∷ path) ≡ false) → new w ≡ evicted s path leaf old w
    either (inr off) = rw off (is.others w off)
    either (inl on) =
        sym (rw on refl)
        ∙ one_placement (may_evict s.l path leaf old) (node_count s.l) s.z (first_copy (0 ∷ path) old) (λ v. cond (has v (0 ∷ path)) (new v) [])
        (one_pass (may_evict s.l path leaf old) (node_count s.l) s.z (gathered_from old (0 ∷ path))) is.placed (eviction_pass s path leaf old) w
        ∙ sym (rw on refl)

pub eviction_fills : EvictionFills
eviction_fills s at leaf old small w on =
    rw on refl
    ∙ one_placement (may_evict s.l (path s.l at) leaf old) (node_count s.l) s.z (first_copy (0 ∷ path s.l at) old)
    (one_pass (may_evict s.l (path s.l at) leaf old) (node_count s.l) s.z (gathered_from old (0 ∷ path s.l at)))
    (fill (may_evict s.l (path s.l at) leaf old) s.z (reverse (path s.l at)) (gathered_from old (0 ∷ path s.l at)))
    (eviction_pass s (path s.l at) leaf old)
    (fill_places (may_evict s.l (path s.l at) leaf old) (node_count s.l) s.z (first_copy (0 ∷ path s.l at) old) (reverse (path s.l at)) (gathered_from old (0 ∷ path s.l at))
    (eviction_gathers s.l (path s.l at) leaf old) (eviction_round s.l at leaf old small)) w

pub first_copy_stays : FirstCopyStays
first_copy_stays s path leaf old new b value is first = record {
  node = p.place b;
  lies = lies (p.allowed b);
  there = there;
  alone = λ w on other. sym (ap (look b) (shown w on)) ∙ p.lies b w ∙ rw (ne_eqb (p.place b) w (λ same. other (sym same))) refl;
}
  where
    p : IsPlaced (may_evict s.l path leaf old) (node_count s.l) s.z (first_copy (0 ∷ path) old) (λ w. cond (has w (0 ∷ path)) (new w) [])
    p = is.placed

    shown : (w : ℕ) → has w (0 ∷ path) ≡ true → cond (has w (0 ∷ path)) (new w) [] ≡ new w
    shown w on = rw on refl

    lies : (p.place b ≡ 0) ⊎ ((p.place b ≤ node_count s.l) × (may_evict s.l path leaf old b (p.place b) ≡ true))
        → (p.place b ≡ 0) ⊎ ((has (p.place b) path ≡ true) × (is_on_path s.l (leaf b) (p.place b) ≡ true))
    lies (inl stash) = inl stash
    lies (inr node) = inr (and_parts (has (p.place b) path) (is_on_path s.l (leaf b) (p.place b)) (and_parts (is_some (first_copy (0 ∷ path) old b)) (has (p.place b) path && is_on_path s.l (leaf b) (p.place b)) node.1).1)

    on_list : (p.place b ≡ 0) ⊎ ((p.place b ≤ node_count s.l) × (may_evict s.l path leaf old b (p.place b) ≡ true)) → has (p.place b) (0 ∷ path) ≡ true
    on_list (inl stash) = rw (eq-eqb 0 (p.place b) (sym stash)) refl
    on_list (inr node) = or_later (nat_eq 0 (p.place b)) (has (p.place b) path)
        (and_parts (has (p.place b) path) (is_on_path s.l (leaf b) (p.place b)) (and_parts (is_some (first_copy (0 ∷ path) old b)) (has (p.place b) path && is_on_path s.l (leaf b) (p.place b)) node.1).1).0
      where
        or_later : (x y : Bool) → y ≡ true → (x || y) ≡ true
        or_later true y e = refl
        or_later false y e = e

    there : look b (new (p.place b)) ≡ Some value
    there = sym (ap (look b) (shown (p.place b) (on_list (p.allowed b)))) ∙ p.lies b (p.place b) ∙ rw (eq-eqb (p.place b) (p.place b) refl) first
