-- First copies on lists of nodes, and the nodes of a path.
use Rattle.std.proofs.Common.{◌≡◌, ℕ, zero, suc, ◌+◌, ◌<◌, ◌≤◌, true, false, List, [], ◌∷◌, map, Option, Some, None, refl, sym, ap, ◌∙◌, arith, inl, inr, ◌⊎◌, nat_eq}
use Rattle.std.specs.List.{range_with_len}
use Rattle.std.specs.Option.{option_or}
use Rattle.std.proofs.lemmas.Bool.{ne_eqb, eq-eqb, eqb-true, cases_eq, or_cases, or_parts, or_from, or_right, true≢false, false≢true}
use Rattle.std.proofs.lemmas.Option.{none-some}
use Rattle.std.proofs.lemmas.Nat.{pow_pos}
use Rattle.tao_base.specs.declared.storage.Entry.{Entry}
use Rattle.tao_base.specs.Tree.{node_at, path, is_on_path}
use Rattle.tao_base.proofs.TreeLemmas.{node_low}
use Rattle.tao_model.specs.Placement.{look, first_copy}
use Rattle.tao_model.proofs.FallingPaths.{has, on_path_has}

pub not_stash : (w : ℕ) → nat_eq w 0 ≡ false → 0 < w
not_stash w off = either (cases_eq w 0)
  where
    either : (w ≡ 0) ⊎ (w ≡ 0 → ⊥) → 0 < w
    either (inl stash) = absurd (true≢false (sym (eq-eqb w 0 stash) ∙ off))
    either (inr node) = omega arith

-- ---- the nodes of a path

none_is_stash : (l at n a : ℕ) → a + n ≤ l + 1 → has 0 (map (node_at l at) (range_with_len a n)) ≡ false
none_is_stash l at zero a h = refl
none_is_stash l at (suc n) a h =
    let low = node_low l at a (omega arith) in
    let some = pow_pos a in
    or_from (nat_eq (node_at l at a) 0) (has 0 (map (node_at l at) (range_with_len (a + 1) n))) (ne_eqb (node_at l at a) 0 (λ same. omega arith))
    (none_is_stash l at n (a + 1) (omega arith))

-- the stash is on no path
pub stash_is_off : (l at : ℕ) → is_on_path l at 0 ≡ false
stash_is_off l at = on_path_has l at 0 ∙ none_is_stash l at (l + 1) 0 (omega arith)

pub on_path_is_node : (l at w : ℕ) → is_on_path l at w ≡ true → 0 < w
on_path_is_node l at w on = either (cases_eq w 0)
  where
    either : (w ≡ 0) ⊎ (w ≡ 0 → ⊥) → 0 < w
    either (inl stash) = absurd (true≢false (sym on ∙ ap (is_on_path l at) stash ∙ stash_is_off l at))
    either (inr node) = omega arith

-- the stash and the nodes of a path as a list
pub inside_stash : (l at w : ℕ) → w ≡ 0 → has w (0 ∷ path l at) ≡ true
inside_stash l at w stash = rw (eq-eqb 0 w (sym stash)) refl

pub inside_path : (l at w : ℕ) → is_on_path l at w ≡ true → has w (0 ∷ path l at) ≡ true
inside_path l at w on = or_right (nat_eq 0 w) (has w (path l at)) (sym (on_path_has l at w) ∙ on)

pub inside_either : (l at w : ℕ) → (w ≡ 0) ⊎ (is_on_path l at w ≡ true) → has w (0 ∷ path l at) ≡ true
inside_either l at w (inl stash) = inside_stash l at w stash
inside_either l at w (inr on) = inside_path l at w on

pub inside_is : (l at w : ℕ) → has w (0 ∷ path l at) ≡ true → (w ≡ 0) ⊎ (is_on_path l at w ≡ true)
inside_is l at w h = either (or_cases (nat_eq 0 w) (has w (path l at)) h)
  where
    either : (nat_eq 0 w ≡ true) ⊎ (has w (path l at) ≡ true) → (w ≡ 0) ⊎ (is_on_path l at w ≡ true)
    either (inl same) = inl (sym (eqb-true 0 w same))
    either (inr on) = inr (on_path_has l at w ∙ on)

pub outside_is : (l at w : ℕ) → has w (0 ∷ path l at) ≡ false → (0 < w) × (is_on_path l at w ≡ false)
outside_is l at w h =
    let parts = or_parts (nat_eq 0 w) (has w (path l at)) h in
    (either (cases_eq 0 w) parts.0, on_path_has l at w ∙ parts.1)
  where
    either : (0 ≡ w) ⊎ (0 ≡ w → ⊥) → nat_eq 0 w ≡ false → 0 < w
    either (inl stash) off = absurd (true≢false (sym (eq-eqb 0 w stash) ∙ off))
    either (inr node) off = omega arith

pub outside : (l at w : ℕ) → 0 < w → is_on_path l at w ≡ false → has w (0 ∷ path l at) ≡ false
outside l at w low off = or_from (nat_eq 0 w) (has w (path l at)) (ne_eqb 0 w (λ same. omega arith)) (sym (on_path_has l at w) ∙ off)

-- ---- first copies

-- if just one node has a copy, and it is in the list, that copy is the first
pub first_one : (b node : ℕ) (x : List ℕ) (held : ℕ → List Entry) (nodes : List ℕ) → has node nodes ≡ true → look b (held node) ≡ Some x
    → ((w : ℕ) → (w ≡ node → ⊥) → look b (held w) ≡ None) → first_copy nodes held b ≡ Some x
first_one b node x held [] on there alone = absurd (false≢true on)
first_one b node x held (w ∷ ws) on there alone = either (cases_eq w node) (λ later. first_one b node x held ws later there alone)
  where
    later : (w ≡ node → ⊥) → (nat_eq w node ≡ true) ⊎ (has node ws ≡ true) → has node ws ≡ true
    later other (inl same) = absurd (other (eqb-true w node same))
    later other (inr rest) = rest

    either : (w ≡ node) ⊎ (w ≡ node → ⊥) → (has node ws ≡ true → first_copy ws held b ≡ Some x) → first_copy (w ∷ ws) held b ≡ Some x
    either (inl here) ih = rw (ap (λ v. look b (held v)) here ∙ there) refl
    either (inr other) ih = rw (alone w other) (ih (later other (or_cases (nat_eq w node) (has node ws) on)))

-- if no node of the list has a copy, there is no first copy
pub first_none : (b : ℕ) (held : ℕ → List Entry) (nodes : List ℕ) → ((w : ℕ) → has w nodes ≡ true → look b (held w) ≡ None) → first_copy nodes held b ≡ None
first_none b held [] none = refl
first_none b held (w ∷ ws) none = rw (none w (rw (eq-eqb w w refl) refl)) (first_none b held ws (λ v on. none v (or_right (nat_eq w v) (has v ws) on)))

-- and conversely
pub none_first : (b : ℕ) (held : ℕ → List Entry) (nodes : List ℕ) → first_copy nodes held b ≡ None → (w : ℕ) → has w nodes ≡ true → look b (held w) ≡ None
none_first b held [] none w on = absurd (false≢true on)
none_first b held (v ∷ ws) none w on = either (parts (look b (held v)) refl none) (or_cases (nat_eq v w) (has w ws) on) (λ rest later. none_first b held ws rest w later)
  where
    parts : (o : Option (List ℕ)) → look b (held v) ≡ o → option_or o (first_copy ws held b) ≡ None → (look b (held v) ≡ None) × (first_copy ws held b ≡ None)
    parts None here rest = (here, rest)
    parts (Some x) here rest = absurd (none-some x (sym rest))

    either : (look b (held v) ≡ None) × (first_copy ws held b ≡ None) → (nat_eq v w ≡ true) ⊎ (has w ws ≡ true)
        → (first_copy ws held b ≡ None → has w ws ≡ true → look b (held w) ≡ None) → look b (held w) ≡ None
    either both (inl same) ih = ap (λ u. look b (held u)) (sym (eqb-true v w same)) ∙ both.0
    either both (inr later) ih = ih both.1 later

-- the first copy depends only on what is found in the nodes
pub first_alike : (b : ℕ) (held other : ℕ → List Entry) (nodes : List ℕ) → ((w : ℕ) → has w nodes ≡ true → look b (held w) ≡ look b (other w))
    → first_copy nodes held b ≡ first_copy nodes other b
first_alike b held other [] same = refl
first_alike b held other (w ∷ ws) same =
    ap (λ o. option_or o (first_copy ws held b)) (same w (rw (eq-eqb w w refl) refl))
    ∙ ap (λ o. option_or (look b (other w)) o) (first_alike b held other ws (λ v on. same v (or_right (nat_eq w v) (has v ws) on)))
