-- A look-up, a put and an eviction, over the contents of the stash and all nodes.
use Rattle.std.proofs.Common.{◌≡◌, ℕ, ◌<◌, true, false, cond, List, [], ◌∷◌, Some, None, refl, sym, ap, ◌∙◌, subst, arith, inl, inr, ◌⊎◌, nat_eq}
use Rattle.std.specs.Option.{option_or}
use Rattle.std.proofs.lemmas.Bool.{ne_eqb, eq-eqb, cases_eq, cases_Bool, true≢false}
use Rattle.std.proofs.lemmas.Option.{none-some}
use Rattle.tao_base.specs.declared.storage.Entry.{Entry}
use Rattle.tao_base.specs.Limits.{Shape}
use Rattle.tao_base.specs.Tree.{path, is_on_path}
use Rattle.tao_model.specs.Placement.{look, first_copy, IsEvicted}
use Rattle.tao_model.specs.FreshCopy.{OneCopy}
use Rattle.tao_model.specs.Evictions.{LiesOnce}
use Rattle.tao_model.proofs.FallingPaths.{has}
use Rattle.tao_model.proofs.OnePlacement.{none_either}
use Rattle.tao_model.proofs.OneEviction.{first_copy_stays}
use Rattle.tao_held.specs.Steps.{put}
use Rattle.tao_held.proofs.AlikeContents.{put_look, put_off}
use Rattle.tao_contents.specs.Moves.{FreshAlike, LookUpFinds, PutIsFound, CountsInside, CountsOutside, FreshMayBeEvicted, PutMayBeEvicted, EvictionKeeps}
use Rattle.tao_contents.proofs.Looks.{inside_either, outside_is, outside, first_one, first_none, none_first}

-- ---- one block

pub one_alike : (l leaf leaf' b : ℕ) (value value' : List ℕ) (contents contents' : ℕ → List Entry) → leaf ≡ leaf' → value ≡ value' → ((w : ℕ) → look b (contents w) ≡ look b (contents' w))
    → OneCopy (is_on_path l leaf) value (λ w. look b (contents w)) → OneCopy (is_on_path l leaf') value' (λ w. look b (contents' w))
one_alike l leaf leaf' b value value' contents contents' position settled looks one = record {
  node = one.node;
  lies = let P : ℕ → Type 0 = λ p. (one.node ≡ 0) ⊎ (is_on_path l p one.node ≡ true) in subst P position one.lies;
  there = sym (looks one.node) ∙ one.there ∙ ap (λ x. Some x) settled;
  alone = λ w other. sym (looks w) ∙ one.alone w other;
}

pub fresh_alike : FreshAlike
fresh_alike s leaf leaf' value value' contents contents' positions values looks fresh b below =
    one_alike s.l (leaf b) (leaf' b) b (value b) (value' b) contents contents' (positions b below) (values b below) (λ w. looks w b below) (fresh b below)

one_to_evict : (l at leaf b : ℕ) (value : List ℕ) (contents : ℕ → List Entry) → OneCopy (is_on_path l leaf) value (λ w. look b (contents w))
    → CountsInside l at b value contents ⊎ CountsOutside l at leaf b value contents
one_to_evict l at leaf b value contents one = either (cases_Bool (has one.node (0 ∷ path l at)))
  where
    either : (has one.node (0 ∷ path l at) ≡ true) ⊎ (has one.node (0 ∷ path l at) ≡ false) → CountsInside l at b value contents ⊎ CountsOutside l at leaf b value contents
    either (inl inside) = inl (record {
      first = first_one b one.node value contents (0 ∷ path l at) inside one.there one.alone;
      none_off = λ w low off. one.alone w (λ same. true≢false (sym inside ∙ ap (λ v. has v (0 ∷ path l at)) (sym same) ∙ outside l at w low off));
    })
    either (inr off) = inr (record {
      none_inside = first_none b contents (0 ∷ path l at) (λ w on. one.alone w (λ same. true≢false (sym on ∙ ap (λ v. has v (0 ∷ path l at)) same ∙ off)));
      one = one;
    })

pub fresh_may_be_evicted : FreshMayBeEvicted
fresh_may_be_evicted s at leaf value contents fresh b below = one_to_evict s.l at (leaf b) b (value b) contents (fresh b below)

-- ---- look-up and put

pub look_up_finds : LookUpFinds
look_up_finds s at leaf value contents b below here fresh = first_one b one.node (value b) contents (0 ∷ path s.l at) (inside_either s.l at one.node lies) one.there one.alone
  where
    one : OneCopy (is_on_path s.l (leaf b)) (value b) (λ w. look b (contents w))
    one = fresh b below

    lies : (one.node ≡ 0) ⊎ (is_on_path s.l at one.node ≡ true)
    lies = let P : ℕ → Type 0 = λ p. (one.node ≡ 0) ⊎ (is_on_path s.l p one.node ≡ true) in subst P here one.lies

pub put_is_found : PutIsFound
put_is_found l at contents b value =
    let there : look b (put contents b value 0) ≡ Some value = put_look contents b value b ∙ rw (eq-eqb b b refl) refl in
    ap (λ o. option_or o (first_copy (path l at) (put contents b value) b)) there

-- a put leaves what is found of every other block
put_others : (contents : ℕ → List Entry) (b : ℕ) (value : List ℕ) (c w : ℕ) → (c ≡ b → ⊥) → look c (contents w) ≡ look c (put contents b value w)
put_others contents b value c w other = either (cases_eq w 0)
  where
    either : (w ≡ 0) ⊎ (w ≡ 0 → ⊥) → look c (contents w) ≡ look c (put contents b value w)
    either (inl stash) = ap (λ v. look c (contents v)) stash ∙ sym (put_look contents b value c ∙ rw (ne_eqb b c (λ same. other (sym same))) refl)
        ∙ ap (λ v. look c (put contents b value v)) (sym stash)
    either (inr node) = ap (look c) (sym (put_off contents b value w (omega arith)))

pub put_may_be_evicted : PutMayBeEvicted
put_may_be_evicted s at leaf leaf' value value' contents a here changes fresh b below = either (cases_eq b a)
  where
    none_off : a < s.n → (w : ℕ) → 0 < w → is_on_path s.l at w ≡ false → look a (put contents a (value' a) w) ≡ None
    none_off within w low off = ap (look a) (put_off contents a (value' a) w low) ∙ (fresh a within).alone w (λ same. apart same (fresh a within).lies)
      where
        apart : w ≡ (fresh a within).node → ((fresh a within).node ≡ 0) ⊎ (is_on_path s.l (leaf a) (fresh a within).node ≡ true) → ⊥
        apart same (inl stash) = omega arith
        apart same (inr on) = true≢false (sym on ∙ ap (λ p. is_on_path s.l p (fresh a within).node) here ∙ ap (is_on_path s.l at) (sym same) ∙ off)

    either : (b ≡ a) ⊎ (b ≡ a → ⊥) → CountsInside s.l at b (value' b) (put contents a (value' a)) ⊎ CountsOutside s.l at (leaf' b) b (value' b) (put contents a (value' a))
    either (inl same) =
        let within : a < s.n = omega arith in
        let P : ℕ → Type 0 = λ c. CountsInside s.l at c (value' c) (put contents a (value' a)) in
        inl (subst P (sym same) (record { first = put_is_found s.l at contents a (value' a); none_off = none_off within }))
    either (inr other) = one_to_evict s.l at (leaf' b) b (value' b) (put contents a (value' a))
        (one_alike s.l (leaf b) (leaf' b) b (value b) (value' b) contents (put contents a (value' a)) (sym (changes.positions b other)) (sym (changes.values b other))
        (λ w. put_others contents a (value' a) b w other) (fresh b below))

-- ---- the eviction

module _ (s : Shape) (at : ℕ) (leaf : ℕ → ℕ) (old new : ℕ → List Entry) (is : IsEvicted s (path s.l at) leaf old new) (b : ℕ) (value : List ℕ) where
  from_inside : CountsInside s.l at b value old → OneCopy (is_on_path s.l (leaf b)) value (λ w. look b (new w))
  from_inside inside = record {
    node = once.node;
    lies = lies once.lies;
    there = once.there;
    alone = λ w other. alone w other (cases_Bool (has w (0 ∷ path s.l at)));
  }
    where
      once : LiesOnce s.l (path s.l at) (leaf b) b value new
      once = first_copy_stays s (path s.l at) leaf old new b value is inside.first

      lies : (once.node ≡ 0) ⊎ ((has once.node (path s.l at) ≡ true) × (is_on_path s.l (leaf b) once.node ≡ true)) → (once.node ≡ 0) ⊎ (is_on_path s.l (leaf b) once.node ≡ true)
      lies (inl stash) = inl stash
      lies (inr node) = inr node.1

      alone : (w : ℕ) → (w ≡ once.node → ⊥) → (has w (0 ∷ path s.l at) ≡ true) ⊎ (has w (0 ∷ path s.l at) ≡ false) → look b (new w) ≡ None
      alone w other (inl on) = once.alone w on other
      alone w other (inr off) = let parts = outside_is s.l at w off in ap (look b) (is.others w off) ∙ inside.none_off w parts.0 parts.1

  from_outside : CountsOutside s.l at (leaf b) b value old → OneCopy (is_on_path s.l (leaf b)) value (λ w. look b (new w))
  from_outside out = record {
    node = out.one.node;
    lies = out.one.lies;
    there = ap (look b) (is.others out.one.node (off (cases_Bool (has out.one.node (0 ∷ path s.l at))))) ∙ out.one.there;
    alone = λ w other. alone w other (cases_Bool (has w (0 ∷ path s.l at)));
  }
    where
      off : (has out.one.node (0 ∷ path s.l at) ≡ true) ⊎ (has out.one.node (0 ∷ path s.l at) ≡ false) → has out.one.node (0 ∷ path s.l at) ≡ false
      off (inl on) = absurd (none-some value (sym (none_first b old (0 ∷ path s.l at) out.none_inside out.one.node on) ∙ out.one.there))
      off (inr is_off) = is_off

      alone : (w : ℕ) → (w ≡ out.one.node → ⊥) → (has w (0 ∷ path s.l at) ≡ true) ⊎ (has w (0 ∷ path s.l at) ≡ false) → look b (new w) ≡ None
      alone w other (inr is_off) = ap (look b) (is.others w is_off) ∙ out.one.alone w other
      alone w other (inl on) =
          let shown : look b (cond (has w (0 ∷ path s.l at)) (new w) []) ≡ look b (new w) = rw on refl in
          sym shown ∙ is.placed.lies b w ∙ ap (λ g. cond (nat_eq (is.placed.place b) w) g None) out.none_inside ∙ none_either (nat_eq (is.placed.place b) w)

pub eviction_keeps : EvictionKeeps
eviction_keeps s at leaf value old new ready is b below = either (ready b below)
  where
    either : CountsInside s.l at b (value b) old ⊎ CountsOutside s.l at (leaf b) b (value b) old → OneCopy (is_on_path s.l (leaf b)) (value b) (λ w. look b (new w))
    either (inl inside) = from_inside s at leaf old new is b (value b) inside
    either (inr out) = from_outside s at leaf old new is b (value b) out
