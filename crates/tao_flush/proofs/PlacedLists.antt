-- One more entry of the pass, as the lists of a path see it.
use Rattle.std.proofs.Common.{◌≡◌, ℕ, ◌+◌, ◌^◌, ◌<◌, ◌≤◌, Bool, ◌&&◌, List, [], ◌∷◌, ◌++◌, length, set, get_or, Option, Some, None, nat_lt, refl, sym, ap, ◌∙◌, subst, arith, inl, inr, ◌⊎◌}
use Rattle.std.proofs.lemmas.Bool.{ne_eqb, eq-eqb, cases_order, and_parts}
use Rattle.std.proofs.lemmas.List.{same_lists, get_or-set_same, get_or-set_other, length-set}
use Rattle.std.proofs.lemmas.List.FromFn.{get_or-map-range_with_len, length-map-range_with_len}
use Rattle.tao_base.specs.declared.storage.Entry.{Entry}
use Rattle.tao_base.specs.Limits.{Shape}
use Rattle.tao_base.specs.Tree.{node_at, node_count, path, is_on_path}
use Rattle.tao_base.proofs.TreeLemmas.{one_le_node}
use Rattle.tao_model.specs.Passes.{spot, put_at}
use Rattle.tao_model.specs.Greatest.{IsLast}
use Rattle.tao_model.proofs.FallingPaths.{has}
use Rattle.tao_flush.specs.Placing.{lists_on, may_place, fits, PlacesNext}
use Rattle.std.proofs.Common.{All}
use Rattle.tao_flush.proofs.PathNodes.{node_or_stash, node_rises, on_own_path, on_other_path, deepest_on_path, last_alike}

pub list_at : (l at d : ℕ) (contents : ℕ → List Entry) (e : List Entry) → d ≤ l → get_or (lists_on l at contents) d e ≡ contents (node_at l at d)
list_at l at d contents e within = get_or-map-range_with_len (λ depth. contents (node_at l at depth)) 0 (l + 1) d d e (omega arith) (omega arith)

pub lists_len : (l at : ℕ) (contents : ℕ → List Entry) → length (lists_on l at contents) ≡ l + 1
lists_len l at contents = length-map-range_with_len (λ depth. contents (node_at l at depth)) 0 (l + 1)

-- where an entry goes, as the code finds it
pub spot_found : (s : Shape) (at : ℕ) (leaf : ℕ → ℕ) (contents : ℕ → List Entry) (b : ℕ) (last : Option ℕ) → at < 2 ^ s.l → leaf b < 2 ^ s.l
    → IsLast (fits s at (leaf b) (lists_on s.l at contents)) (s.l + 1) last
    → spot (may_place s.l at leaf) (node_count s.l) s.z contents b ≡ node_or_stash s.l at last
spot_found s at leaf contents b last small other is =
    deepest_on_path passes s.l at small (λ w passed. (and_parts (has w (path s.l at)) (is_on_path s.l (leaf b) w) (and_parts (may_place s.l at leaf b w) (nat_lt (length (contents w)) s.z) passed).0).0) last
    (last_alike (fits s at (leaf b) (lists_on s.l at contents)) (λ d. passes (node_at s.l at d)) (s.l + 1) last (λ d below. same d (omega arith)) is)
  where
    passes : ℕ → Bool
    passes w = may_place s.l at leaf b w && nat_lt (length (contents w)) s.z

    same : (d : ℕ) → d ≤ s.l → fits s at (leaf b) (lists_on s.l at contents) d ≡ (may_place s.l at leaf b (node_at s.l at d) && nat_lt (length (contents (node_at s.l at d))) s.z)
    same d within = rw (list_at s.l at d contents [] within, on_own_path s.l at d small within, on_other_path s.l at (leaf b) d small other within) refl

-- an entry at a node of the path changes that node's list
pub put_on_path : (l at d : ℕ) (contents : ℕ → List Entry) (e : Entry) → at < 2 ^ l → d ≤ l
    → set (lists_on l at contents) d (contents (node_at l at d) ++ e ∷ []) ≡ lists_on l at (put_at contents (node_at l at d) e)
put_on_path l at d contents e small within =
    same_lists (set (lists_on l at contents) d (contents (node_at l at d) ++ e ∷ [])) (lists_on l at (put_at contents (node_at l at d) e))
    (length-set (lists_on l at contents) d (contents (node_at l at d) ++ e ∷ []) ∙ lists_len l at contents ∙ sym (lists_len l at (put_at contents (node_at l at d) e)))
    (λ k x below. each k x (let len = length-set (lists_on l at contents) d (contents (node_at l at d) ++ e ∷ []) in let all = lists_len l at contents in omega arith) (cases_order k d))
  where
    differs : (k : ℕ) → k ≤ l → (k ≡ d → ⊥) → (k ≡ d) ⊎ ((k < d) ⊎ (d < k)) → node_at l at d ≡ node_at l at k → ⊥
    differs k le other (inl same) e = other same
    differs k le other (inr (inl less)) e = let up = node_rises l at k d small less within in omega arith
    differs k le other (inr (inr more)) e = let up = node_rises l at d k small more le in omega arith

    elsewhere : (k : ℕ) (x : List Entry) → k ≤ l → (k ≡ d → ⊥)
        → get_or (set (lists_on l at contents) d (contents (node_at l at d) ++ e ∷ [])) k x ≡ get_or (lists_on l at (put_at contents (node_at l at d) e)) k x
    elsewhere k x le other =
        get_or-set_other (lists_on l at contents) d k (contents (node_at l at d) ++ e ∷ []) x other ∙ list_at l at k contents x le
        ∙ sym (list_at l at k (put_at contents (node_at l at d) e) x le ∙ rw (ne_eqb (node_at l at d) (node_at l at k) (differs k le other (cases_order k d))) refl)

    each : (k : ℕ) (x : List Entry) → k < l + 1 → (k ≡ d) ⊎ ((k < d) ⊎ (d < k))
        → get_or (set (lists_on l at contents) d (contents (node_at l at d) ++ e ∷ [])) k x ≡ get_or (lists_on l at (put_at contents (node_at l at d) e)) k x
    each k x below (inl same) =
        let len = lists_len l at contents in
        ap (λ i. get_or (set (lists_on l at contents) d (contents (node_at l at d) ++ e ∷ [])) i x) same
        ∙ get_or-set_same (lists_on l at contents) d (contents (node_at l at d) ++ e ∷ []) x (omega arith)
        ∙ sym (list_at l at k (put_at contents (node_at l at d) e) x (omega arith) ∙ ap (λ i. put_at contents (node_at l at d) e (node_at l at i)) same
        ∙ rw (eq-eqb (node_at l at d) (node_at l at d) refl) refl)
    each k x below (inr (inl less)) = elsewhere k x (omega arith) (λ same. omega arith)
    each k x below (inr (inr more)) = elsewhere k x (omega arith) (λ same. omega arith)

-- an entry in the stash changes none of them
pub put_off_path : (l at : ℕ) (contents : ℕ → List Entry) (e : Entry) → lists_on l at contents ≡ lists_on l at (put_at contents 0 e)
put_off_path l at contents e =
    same_lists (lists_on l at contents) (lists_on l at (put_at contents 0 e)) (lists_len l at contents ∙ sym (lists_len l at (put_at contents 0 e)))
    (λ k x below.
    let len = lists_len l at contents in
    let le : k ≤ l = omega arith in
    let low = one_le_node l at k in
    list_at l at k contents x le ∙ sym (list_at l at k (put_at contents 0 e) x le ∙ rw (ne_eqb 0 (node_at l at k) (λ same. omega arith)) refl))

-- the entry at the depth that was found
pub places_there : (s : Shape) (at : ℕ) (leaf : ℕ → ℕ) (old : List (List Entry)) (rest : List Entry) (e : Entry) (d : ℕ) (x : List Entry) → at < 2 ^ s.l → leaf e.id < 2 ^ s.l
    → IsLast (fits s at (leaf e.id) old) (s.l + 1) (Some d) → PlacesNext s at leaf old rest e (set old d (get_or old d x ++ e ∷ [])) rest
places_there s at leaf old rest e d x small other is contents lists others =
    let is_here : IsLast (fits s at (leaf e.id) (lists_on s.l at contents)) (s.l + 1) (Some d) = subst (λ l. IsLast (fits s at (leaf e.id) l) (s.l + 1) (Some d)) lists is in
    let spot_is : spot (may_place s.l at leaf) (node_count s.l) s.z contents e.id ≡ node_at s.l at d = spot_found s at leaf contents e.id (Some d) small other is_here in
    let below = is.0 in
    let within : d ≤ s.l = omega arith in
    let low = one_le_node s.l at d in (
      ap (λ l. set l d (get_or l d x ++ e ∷ [])) lists ∙ ap (λ c. set (lists_on s.l at contents) d (c ++ e ∷ [])) (list_at s.l at d contents x within)
          ∙ put_on_path s.l at d contents e small within ∙ ap (λ v. lists_on s.l at (put_at contents v e)) (sym spot_is),
      others ∙ sym (ap (λ v. put_at contents v e 0) spot_is ∙ rw (ne_eqb (node_at s.l at d) 0 (λ same. omega arith)) refl),
    )

pub places_none : (s : Shape) (at : ℕ) (leaf : ℕ → ℕ) (old : List (List Entry)) (rest : List Entry) (e : Entry) → at < 2 ^ s.l → leaf e.id < 2 ^ s.l
    → IsLast (fits s at (leaf e.id) old) (s.l + 1) None → PlacesNext s at leaf old rest e old (rest ++ e ∷ [])
places_none s at leaf old rest e small other is contents lists others =
    let is_here : IsLast (fits s at (leaf e.id) (lists_on s.l at contents)) (s.l + 1) None = subst (λ l. IsLast (fits s at (leaf e.id) l) (s.l + 1) None) lists is in
    let spot_is : spot (may_place s.l at leaf) (node_count s.l) s.z contents e.id ≡ 0 = spot_found s at leaf contents e.id None small other is_here in (
      lists ∙ put_off_path s.l at contents e ∙ ap (λ v. lists_on s.l at (put_at contents v e)) (sym spot_is),
      ap (λ es. es ++ e ∷ []) others ∙ sym (ap (λ v. put_at contents v e 0) spot_is),
    )

-- ---- before any entry

pub none_placed : (l at : ℕ) (lists : List (List Entry)) → length lists ≡ l + 1 → All (λ list. list ≡ []) lists → lists ≡ lists_on l at (λ w. [])
none_placed l at lists len empty =
    same_lists lists (lists_on l at (λ w. [])) (len ∙ sym (lists_len l at (λ w. [])))
    (λ k x below. empty k x below ∙ sym (list_at l at k (λ w. []) x (omega arith)))
