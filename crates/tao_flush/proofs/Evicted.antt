-- What is gathered and placed anew is the eviction.
use Rattle.std.proofs.Common.{◌≡◌, ℕ, zero, suc, ◌+◌, ◌^◌, ◌<◌, ◌≤◌, Bool, true, false, cond, List, [], ◌∷◌, length, map, fold, get_or, All, Some, nat_eq, refl, sym, ap, ◌∙◌, subst, arith, inl, inr, ◌⊎◌}
use Rattle.std.specs.List.{range_with_len}
use Rattle.std.proofs.lemmas.Bool.{ne_eqb, eq-eqb, eqb-true, cases_Bool, or_parts, or_cases, true≢false}
use Rattle.std.proofs.lemmas.List.{same_lists}
use Rattle.std.proofs.lemmas.Simd.{map-map}
use Rattle.std.proofs.lemmas.List.FromFn.{get_or-map-range_with_len, length-map-range_with_len}
use Rattle.std.proofs.lemmas.List.Elements.{All-nil}
use Rattle.tao_base.specs.declared.storage.Entry.{Entry}
use Rattle.tao_base.specs.Limits.{Shape}
use Rattle.tao_base.specs.Tree.{node_at, node_count, path}
use Rattle.tao_base.proofs.TreeLemmas.{one_le_node}
use Rattle.std.proofs.Math.Path.{fun_ext}
use Rattle.tao_flush.specs.Laws.{LaidOutIs}
use Rattle.tao_base.specs.Buckets.{Rises}
use Rattle.tao_model.specs.Placement.{with_stash, look, IsPlaced, IsEvicted, may_evict, first_copy}
use Rattle.tao_model.specs.Passes.{gather, gathered_from, one_pass}
use Rattle.tao_model.specs.Evictions.{evicted}
use Rattle.tao_model.proofs.OnePlacement.{placed_alike}
use Rattle.tao_model.proofs.OneEviction.{eviction_is_placed, eviction_gathers}
use Rattle.tao_model.proofs.OnePass.{pass_places}
use Rattle.tao_model.proofs.FirstCopies.{gathers_first, gathers_stash}
use Rattle.tao_model.proofs.FallingPaths.{has}
use Rattle.tao_flush.specs.Blocks.{IsEntry, IsStash, AreNodeEntries}
use Rattle.tao_flush.specs.Paths.{with_lists, laid_out, Evicts}
use Rattle.tao_flush.specs.Placing.{lists_on, may_place, all_placed}
use Rattle.tao_flush.proofs.PathNodes.{node_rises, depth_of}
use Rattle.tao_flush.proofs.PlacedLists.{list_at, lists_len}
use Rattle.tao_flush.proofs.RisingLists.{look_at}
use Rattle.tao_flush.proofs.WholePasses.{pass_same, pass_keeps}

-- ---- a path's lists

-- a fold over the nodes is one over their lists
fold_lists : (held : ℕ → List Entry) (nodes : List ℕ) (entries : List Entry) → fold (λ es w. gather es (held w)) entries nodes ≡ fold gather entries (map held nodes)
fold_lists held [] entries = refl
fold_lists held (w ∷ nodes) entries = fold_lists held nodes (gather entries (held w))

pub with_lists_at : (nodes : List ℕ) (lists : List (List Entry)) (elsewhere : ℕ → List Entry) (k v : ℕ) (x : List Entry)
    → ((i j : ℕ) → i < j → j < length nodes → get_or nodes i v ≡ get_or nodes j v → ⊥) → k < length nodes → k < length lists
    → with_lists nodes lists elsewhere (get_or nodes k v) ≡ get_or lists k x
with_lists_at [] lists elsewhere k v x distinct h g = absurd (omega arith)
with_lists_at (w ∷ nodes) [] elsewhere k v x distinct h g = absurd (omega arith)
with_lists_at (w ∷ nodes) (entries ∷ lists) elsewhere zero v x distinct h g = rw (eq-eqb w w refl) refl
with_lists_at (w ∷ nodes) (entries ∷ lists) elsewhere (suc k) v x distinct h g =
    rw (ne_eqb w (get_or nodes k v) (distinct 0 (suc k) (omega arith) h))
    (with_lists_at nodes lists elsewhere k v x (λ i j less within. distinct (suc i) (suc j) (omega arith) (omega arith)) (omega arith) (omega arith))

pub with_lists_off : (nodes : List ℕ) (lists : List (List Entry)) (elsewhere : ℕ → List Entry) (w : ℕ) → has w nodes ≡ false → with_lists nodes lists elsewhere w ≡ elsewhere w
with_lists_off [] lists elsewhere w off = refl
with_lists_off (v ∷ nodes) [] elsewhere w off = refl
with_lists_off (v ∷ nodes) (entries ∷ lists) elsewhere w off =
    let parts = or_parts (nat_eq v w) (has w nodes) off in rw parts.0 (with_lists_off nodes lists elsewhere w parts.1)

pub path_at : (l at d v : ℕ) → d ≤ l → get_or (path l at) d v ≡ node_at l at d
path_at l at d v within = get_or-map-range_with_len (node_at l at) 0 (l + 1) d d v (omega arith) (omega arith)

pub path_len : (l at : ℕ) → length (path l at) ≡ l + 1
path_len l at = length-map-range_with_len (node_at l at) 0 (l + 1)

-- at a node of the path lies that node's list
pub laid_at : (s : Shape) (at : ℕ) (stash : List Entry) (lists : List (List Entry)) (elsewhere : ℕ → List Entry) (d : ℕ) (x : List Entry) → at < 2 ^ s.l
    → length lists ≡ s.l + 1 → d ≤ s.l → laid_out s at stash lists elsewhere (node_at s.l at d) ≡ get_or lists d x
laid_at s at stash lists elsewhere d x small len within =
    let low = one_le_node s.l at d in
    let nodes_len = path_len s.l at in
    rw (ne_eqb (node_at s.l at d) 0 (λ same. omega arith))
    (ap (with_lists (path s.l at) lists elsewhere) (sym (path_at s.l at d 0 within))
    ∙ with_lists_at (path s.l at) lists elsewhere d 0 x (λ i j less below same. distinct i j less (omega arith) same) (omega arith) (omega arith))
  where
    distinct : (i j : ℕ) → i < j → j ≤ s.l → get_or (path s.l at) i 0 ≡ get_or (path s.l at) j 0 → ⊥
    distinct i j less le same =
        let up = node_rises s.l at i j small less le in
        let both : node_at s.l at i ≡ node_at s.l at j = sym (path_at s.l at i 0 (omega arith)) ∙ same ∙ path_at s.l at j 0 le in
        omega arith

-- the lists of the path are what lies there
pub lists_laid : (s : Shape) (at : ℕ) (stash : List Entry) (lists : List (List Entry)) (elsewhere : ℕ → List Entry) → at < 2 ^ s.l → length lists ≡ s.l + 1
    → map (laid_out s at stash lists elsewhere) (path s.l at) ≡ lists
lists_laid s at stash lists elsewhere small len =
    map-map (laid_out s at stash lists elsewhere) (node_at s.l at) (range_with_len 0 (s.l + 1))
    ∙ same_lists (lists_on s.l at (laid_out s at stash lists elsewhere)) lists (lists_len s.l at (laid_out s at stash lists elsewhere) ∙ sym len)
    (λ k x below.
    let all = lists_len s.l at (laid_out s at stash lists elsewhere) in
    list_at s.l at k (laid_out s at stash lists elsewhere) x (omega arith) ∙ laid_at s at stash lists elsewhere k x small len (omega arith))

-- lists that were read there, laid out again
pub laid_out_is : LaidOutIs
laid_out_is s at stash contents small = fun_ext (λ w. either w (cases_Bool (nat_eq w 0)) (cases_Bool (has w (path s.l at))))
  where
    node : (w : ℕ) → (d : ℕ) × (d ≤ s.l) × (node_at s.l at d ≡ w) → laid_out s at stash (lists_on s.l at contents) contents w ≡ contents w
    node w (d, within, here) = ap (laid_out s at stash (lists_on s.l at contents) contents) (sym here)
        ∙ laid_at s at stash (lists_on s.l at contents) contents d [] small (lists_len s.l at contents) within
        ∙ list_at s.l at d contents [] within ∙ ap contents here

    either : (w : ℕ) → (nat_eq w 0 ≡ true) ⊎ (nat_eq w 0 ≡ false) → (has w (path s.l at) ≡ true) ⊎ (has w (path s.l at) ≡ false)
        → laid_out s at stash (lists_on s.l at contents) contents w ≡ with_stash stash contents w
    either w (inl zero_is) on = rw zero_is refl
    either w (inr above) (inl on) = node w (depth_of s.l at w on) ∙ sym (rw above refl)
    either w (inr above) (inr off) = rw above (with_lists_off (path s.l at) (lists_on s.l at contents) contents w off)

module _ (s : Shape) (at : ℕ) (leaf : ℕ → ℕ) (small : at < 2 ^ s.l) (stash : List Entry) (is_stash : IsStash s stash)
    (lists : List (List Entry)) (len : length lists ≡ s.l + 1) (elsewhere : ℕ → List Entry) (all : List Entry) (gathered : all ≡ fold gather stash lists) where
  abbrev old : ℕ → List Entry
  old = laid_out s at stash lists elsewhere

  abbrev nodes : List ℕ
  nodes = path s.l at

  abbrev may : ℕ → ℕ → Bool
  may = may_evict s.l nodes leaf old

  from_old : gathered_from old (0 ∷ nodes) ≡ all
  from_old = ap (λ es. fold (λ l w. gather l (old w)) es nodes) (gathers_stash stash is_stash.rises) ∙ fold_lists old nodes stash
      ∙ ap (fold gather stash) (lists_laid s at stash lists elsewhere small len) ∙ sym gathered

  is_gathered : (k : ℕ) (d : Entry) → k < length all → first_copy (0 ∷ nodes) old (get_or all k d).id ≡ Some (get_or all k d).value
  is_gathered k d below =
      sym ((gathers_first old (0 ∷ nodes)).1 (get_or all k d).id) ∙ ap (look (get_or all k d).id) from_old
      ∙ look_at 0 all k d (subst (Rises 0) from_old (gathers_first old (0 ∷ nodes)).0) below

  same_pass : all_placed s at leaf all ≡ one_pass may (node_count s.l) s.z (gathered_from old (0 ∷ nodes))
  same_pass = pass_same (may_place s.l at leaf) may (node_count s.l) s.z (λ w. []) all
      (λ k d below w. sym (rw (is_gathered k d below) refl)) ∙ ap (one_pass may (node_count s.l) s.z) (sym from_old)

  pub pass_placed : IsPlaced may (node_count s.l) s.z (first_copy (0 ∷ nodes) old) (all_placed s at leaf all)
  pass_placed = subst (λ c. IsPlaced may (node_count s.l) s.z (first_copy (0 ∷ nodes) old) c) (sym same_pass)
      (pass_places may (node_count s.l) s.z (first_copy (0 ∷ nodes) old) (gathered_from old (0 ∷ nodes)) (eviction_gathers s.l nodes leaf old))

  module _ (stash' : List Entry) (rest : stash' ≡ all_placed s at leaf all 0) (lists' : List (List Entry)) (placed : lists' ≡ lists_on s.l at (all_placed s at leaf all)) where
    abbrev new : ℕ → List Entry
    new = laid_out s at stash' lists' elsewhere

    new_len : length lists' ≡ s.l + 1
    new_len = ap length placed ∙ lists_len s.l at (all_placed s at leaf all)

    new_at : (w : ℕ) → has w (0 ∷ nodes) ≡ true → new w ≡ all_placed s at leaf all w
    new_at w on = either (or_cases (nat_eq 0 w) (has w nodes) on)
      where
        node : (d : ℕ) × (d ≤ s.l) × (node_at s.l at d ≡ w) → new w ≡ all_placed s at leaf all w
        node (d, within, here) = ap new (sym here) ∙ laid_at s at stash' lists' elsewhere d [] small new_len within
            ∙ ap (λ l. get_or l d []) placed ∙ list_at s.l at d (all_placed s at leaf all) [] within ∙ ap (all_placed s at leaf all) here

        either : (nat_eq 0 w ≡ true) ⊎ (has w nodes ≡ true) → new w ≡ all_placed s at leaf all w
        either (inl stash_is) = let here : 0 ≡ w = eqb-true 0 w stash_is in ap new (sym here) ∙ rest ∙ ap (all_placed s at leaf all) here
        either (inr in_nodes) = node (depth_of s.l at w in_nodes)

    is_evicted : IsEvicted s nodes leaf old new
    is_evicted = record {
      placed = placed_alike may may (node_count s.l) s.z (first_copy (0 ∷ nodes) old) (first_copy (0 ∷ nodes) old)
          (λ w. cond (has w (0 ∷ nodes)) (evicted s nodes leaf old w) []) (λ w. cond (has w (0 ∷ nodes)) (new w) [])
          (λ b w. refl) (λ b. refl) (λ w. each w (cases_Bool (has w (0 ∷ nodes)))) (eviction_is_placed s nodes leaf old).placed;
      others = λ w off. other w (or_parts (nat_eq 0 w) (has w nodes) off);
    }
      where
        each : (w : ℕ) → (has w (0 ∷ nodes) ≡ true) ⊎ (has w (0 ∷ nodes) ≡ false)
            → cond (has w (0 ∷ nodes)) (evicted s nodes leaf old w) [] ≡ cond (has w (0 ∷ nodes)) (new w) []
        each w (inr off) = rw off refl
        each w (inl on) = rw on (sym (new_at w on ∙ ap (λ c. c w) same_pass))

        other : (w : ℕ) → (nat_eq 0 w ≡ false) × (has w nodes ≡ false) → new w ≡ old w
        other w (not_stash, off) =
            let node : (w ≡ 0 → ⊥) = λ same. true≢false (sym (eq-eqb 0 w (sym same)) ∙ not_stash) in
            rw (ne_eqb w 0 node) (with_lists_off nodes lists' elsewhere w off ∙ sym (with_lists_off nodes lists elsewhere w off))

-- ---- in the words of the call

pub evicts : (s : Shape) (at : ℕ) (leaf : ℕ → ℕ) (stash : List Entry) (lists : List (List Entry)) (all stash' : List Entry) (lists' : List (List Entry)) → at < 2 ^ s.l
    → IsStash s stash → length lists ≡ s.l + 1 → all ≡ fold gather stash lists → stash' ≡ all_placed s at leaf all 0 → lists' ≡ lists_on s.l at (all_placed s at leaf all)
    → Evicts s at leaf stash lists stash' lists'
evicts s at leaf stash lists all stash' lists' small is len gathered rest placed elsewhere =
    is_evicted s at leaf small stash is lists len elsewhere all gathered stash' rest lists' placed

-- ---- what the stash and the nodes hold afterwards

module _ (s : Shape) (at : ℕ) (leaf : ℕ → ℕ) (stash : List Entry) (lists : List (List Entry)) (all : List Entry) (small : at < 2 ^ s.l) (is : IsStash s stash)
    (len : length lists ≡ s.l + 1) (gathered : all ≡ fold gather stash lists) (fit : IsStash s all) where
  placed : IsPlaced (may_evict s.l (path s.l at) leaf (laid_out s at stash lists (λ w. []))) (node_count s.l) s.z
      (first_copy (0 ∷ path s.l at) (laid_out s at stash lists (λ w. []))) (all_placed s at leaf all)
  placed = pass_placed s at leaf small stash is lists len (λ w. []) all gathered

  each : (w : ℕ) → All (IsEntry s) (all_placed s at leaf all w)
  each = pass_keeps (IsEntry s) (may_place s.l at leaf) (node_count s.l) s.z (λ w. []) all (λ w. All-nil (IsEntry s)) fit.each

  pub stash_fits : (stash' : List Entry) → stash' ≡ all_placed s at leaf all 0 → IsStash s stash'
  stash_fits stash' rest = subst (IsStash s) (sym rest) (record { rises = placed.rises 0; each = each 0 })

  pub nodes_fit : (lists' : List (List Entry)) → lists' ≡ lists_on s.l at (all_placed s at leaf all) → All (AreNodeEntries s) lists'
  nodes_fit lists' on = subst (All (AreNodeEntries s)) (sym on) (λ k d below.
      let all_len = lists_len s.l at (all_placed s at leaf all) in
      let low = one_le_node s.l at k in
      let node : AreNodeEntries s (all_placed s at leaf all (node_at s.l at k)) =
      record { few = placed.room (node_at s.l at k) (omega arith); each = each (node_at s.l at k) } in
      subst (AreNodeEntries s) (sym (list_at s.l at k (all_placed s at leaf all) d (omega arith))) node)
