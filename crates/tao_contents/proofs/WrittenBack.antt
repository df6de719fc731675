-- Write-backs and acknowledgements keep the copies fresh, and the written contents are fresh too.
use Rattle.std.proofs.Common.{◌≡◌, ℕ, ◌+◌, ◌^◌, ◌<◌, ◌≤◌, Bool, true, false, not, ◌&&◌, ◌||◌, cond, List, [], ◌∷◌, length, All, Some, None, is_some, refl, sym, ap, ◌∙◌, subst, arith, inl, inr, ◌⊎◌, nat_eq}
use Rattle.std.specs.List.{range_with_len}
use Rattle.std.proofs.lemmas.Bool.{ne_eqb, eq-eqb, eqb-true, cases_eq, cases_lt, and_from}
use Rattle.std.proofs.lemmas.Option.{none-some, same_Some}
use Rattle.std.proofs.lemmas.List.Elements.{All-weaker}
use Rattle.tao_base.specs.declared.storage.Entry.{Entry}
use Rattle.tao_base.specs.Tree.{node_count, path, is_on_path}
use Rattle.tao_model.specs.Placement.{look, first_copy}
use Rattle.tao_model.specs.FreshCopy.{OneCopy, current_contents}
use Rattle.tao_model.proofs.FallingPaths.{has, has_below, has_reverse, on_path_has, path_falls}
use Rattle.tao_model.proofs.PlacedEntries.{all_found}
use Rattle.tao_contents.specs.Counting.{entries_of}
use Rattle.tao_contents.specs.WriteBackLaws.{IssueKeeps, AcknowledgementKeeps, IsWrittenOnce, IsUnwritten, WriteBackIsFresh, HasAtMostOne, FreshWritesCount}
use Rattle.tao_contents.proofs.Cleaned.{current_is_written}
use Rattle.tao_contents.proofs.Looks.{not_stash, on_path_is_node, inside_stash, inside_path}
use Rattle.tao_contents.proofs.MovedCopies.{fresh_alike}
use Rattle.tao_contents.proofs.OneEntry.{none_of, one_of}

-- ---- the current contents stay

issue_cases : (z r i : Bool) (o n m : List Entry) → (i ≡ true → r ≡ true) → (i ≡ false → m ≡ n) → cond (z || r) o n ≡ cond (z || r) o m
issue_cases true r i o n m held same = refl
issue_cases false true i o n m held same = refl
issue_cases false false true o n m held same = ap (λ t. cond t o n) (held refl) ∙ sym (ap (λ t. cond t o m) (held refl))
issue_cases false false false o n m held same = sym (same refl)

pub issue_keeps : IssueKeeps
issue_keeps s leaf value resident issued own newest newest' held same =
    fresh_alike s leaf leaf value value (current_contents resident own newest) (current_contents resident own newest') (λ b below. refl) (λ b below. refl)
    (λ w b below. ap (look b) (issue_cases (nat_eq w 0) (resident w) (issued w) (own w) (newest w) (newest' w) (held w) (same w)))

go_cases : (z r d : Bool) (o p n : List Entry) → (z ≡ false → r ≡ true → d ≡ true → o ≡ n) → (z ≡ true → p ≡ o) → (r ≡ true → d ≡ false → p ≡ o)
    → cond (z || r) o n ≡ cond (z || (r && not d)) p n
go_cases true r d o p n clean stash stays = sym (stash refl)
go_cases false true true o p n clean stash stays = clean refl refl refl
go_cases false true false o p n clean stash stays = sym (stays refl refl)
go_cases false false d o p n clean stash stays = refl

pub acknowledgement_keeps : AcknowledgementKeeps
acknowledgement_keeps s leaf value resident departs own own' newest clean goes =
    fresh_alike s leaf leaf value value (current_contents resident own newest) (current_contents (λ w. resident w && not (departs w)) own' newest) (λ b below. refl) (λ b below. refl)
    (λ w b below. ap (look b) (go_cases (nat_eq w 0) (resident w) (departs w) (own w) (own' w) (newest w) (λ node. clean w (not_stash w node)) (λ stash. at_stash w (eqb-true w 0 stash)) (goes.stays w)))
  where
    at_stash : (w : ℕ) → w ≡ 0 → own' w ≡ own w
    at_stash w stash = ap own' stash ∙ goes.stash ∙ sym (ap own stash)

-- ---- what is written

-- a node of a path is a node of the tree
pub on_path_within : (l at w : ℕ) → at < 2 ^ l → is_on_path l at w ≡ true → w ≤ node_count l
on_path_within l at w small on =
    let below = (has_below (node_count l + 1) w _ (path_falls l at small) (has_reverse w (path l at) ∙ sym (on_path_has l at w) ∙ on)).1 in omega arith

pub write_back_is_fresh : WriteBackIsFresh
write_back_is_fresh s at leaf value resident old own newest small holds is clean fresh b below = either (fresh b below) (fresh b below).lies
  where
    written : (w : ℕ) → 0 < w → look b (current_contents resident own newest w) ≡ look b (newest w)
    written w low = ap (look b) (current_is_written resident own newest clean w low)

    -- a block in the stash was left there because the nodes are full
    shown : (w : ℕ) → has w (0 ∷ path s.l at) ≡ true → cond (has w (0 ∷ path s.l at)) (own w) [] ≡ own w
    shown w inside = rw inside refl

    stashed : look b (own 0) ≡ Some (value b) → (is.placed.place b ≡ 0) × (is_some (first_copy (0 ∷ path s.l at) old b) ≡ true)
    stashed there = placed (cases_eq (is.placed.place b) 0)
      where
        found : cond (nat_eq (is.placed.place b) 0) (first_copy (0 ∷ path s.l at) old b) None ≡ Some (value b)
        found = sym (is.placed.lies b 0) ∙ ap (look b) (shown 0 (inside_stash s.l at 0 refl)) ∙ there

        placed : (is.placed.place b ≡ 0) ⊎ (is.placed.place b ≡ 0 → ⊥) → (is.placed.place b ≡ 0) × (is_some (first_copy (0 ∷ path s.l at) old b) ≡ true)
        placed (inl stash) = (stash, ap is_some (sym (ap (λ t. cond t (first_copy (0 ∷ path s.l at) old b) None) (eq-eqb (is.placed.place b) 0 stash)) ∙ found))
        placed (inr node) = absurd (none-some (value b) (sym (ap (λ t. cond t (first_copy (0 ∷ path s.l at) old b) None) (ne_eqb (is.placed.place b) 0 node)) ∙ found))

    full : look b (own 0) ≡ Some (value b) → (w : ℕ) → is_on_path s.l (leaf b) w ≡ true → is_on_path s.l at w ≡ true → (length (newest w) ≡ s.z) × All (λ entry. entry.id < b) (newest w)
    full there w on shared =
        let stash = stashed there in
        let low = on_path_is_node s.l at w shared in
        let in_stash = stash.0 in
        let deeper : is.placed.place b < w = omega arith in
        let may : (is_some (first_copy (0 ∷ path s.l at) old b) && (has w (path s.l at) && is_on_path s.l (leaf b) w)) ≡ true =
        and_from (is_some (first_copy (0 ∷ path s.l at) old b)) (has w (path s.l at) && is_on_path s.l (leaf b) w) stash.1
        (and_from (has w (path s.l at)) (is_on_path s.l (leaf b) w) (sym (on_path_has s.l at w) ∙ shared) on) in
        let P : List Entry → Type 0 = λ entries. (length entries ≡ s.z) × All (λ entry. entry.id < b) entries in
        subst P (shown w (inside_path s.l at w shared) ∙ clean w low (holds w shared)) (is.placed.full b w (on_path_within s.l at w small shared) may deeper)

    either : OneCopy (is_on_path s.l (leaf b)) (value b) (λ w. look b (current_contents resident own newest w)) → ((fresh b below).node ≡ 0) ⊎ (is_on_path s.l (leaf b) (fresh b below).node ≡ true)
        → IsWrittenOnce (is_on_path s.l (leaf b)) b (value b) newest ⊎ IsUnwritten (is_on_path s.l (leaf b)) (is_on_path s.l at) s.z b newest
    either one (inl stash) = inr (record {
      nowhere = λ w low. sym (written w low) ∙ (fresh b below).alone w (λ same. omega arith);
      full = full (ap (λ w. look b (current_contents resident own newest w)) (sym stash) ∙ (fresh b below).there);
    })
    either one (inr on) =
        let low = on_path_is_node s.l (leaf b) (fresh b below).node on in
        inl (record {
          node = (fresh b below).node;
          low = low;
          lies = on;
          there = sym (written (fresh b below).node low) ∙ (fresh b below).there;
          alone = λ w node other. sym (written w node) ∙ (fresh b below).alone w other;
        })

-- ---- as a count

pub fresh_writes_count : FreshWritesCount
fresh_writes_count s leaf value filled newest rises writes b below = either (writes b below)
  where
    -- what holds of the entry found holds of each entry of the block
    each : (Q : List ℕ → Type 0) (w : ℕ) → ((x : List ℕ) → look b (newest w) ≡ Some x → Q x) → All (λ entry. entry.id ≡ b → Q entry.value) (newest w)
    each Q w h = All-weaker (λ entry. look entry.id (newest w) ≡ Some entry.value) (λ entry. entry.id ≡ b → Q entry.value)
        (λ entry found here. h entry.value (sym (ap (λ id. look id (newest w)) here) ∙ found)) (newest w) (all_found 0 (newest w) (rises w))

    once : IsWrittenOnce (is_on_path s.l (leaf b)) b (value b) newest → HasAtMostOne s.l (leaf b) b (value b) newest
    once one = record {
      count = count (cases_lt one.node (1 + node_count s.l));
      valued = λ w node. each (λ x. x ≡ value b) w (λ x found. valued w x node found (cases_eq w one.node));
      placed = λ w node. each (λ x. is_on_path s.l (leaf b) w ≡ true) w (λ x found. placed w x node found (cases_eq w one.node));
    }
      where
        count : (one.node < 1 + node_count s.l) ⊎ (1 + node_count s.l ≤ one.node) → entries_of newest (range_with_len 1 (node_count s.l)) b ≤ 1
        count (inl within) =
            let low = one.low in
            let is = one_of newest b 1 (node_count s.l) one.node (value b) rises (omega arith) within one.there (λ w above high other. one.alone w (omega arith) other) in
            omega arith
        count (inr past) = let is = none_of newest b 1 (node_count s.l) (λ w above high. one.alone w (omega arith) (λ same. omega arith)) in omega arith

        valued : (w : ℕ) (x : List ℕ) → 0 < w → look b (newest w) ≡ Some x → (w ≡ one.node) ⊎ (w ≡ one.node → ⊥) → x ≡ value b
        valued w x node found (inl here) = same_Some x (value b) (sym found ∙ ap (λ v. look b (newest v)) here ∙ one.there)
        valued w x node found (inr other) = absurd (none-some x (sym (one.alone w node other) ∙ found))

        placed : (w : ℕ) (x : List ℕ) → 0 < w → look b (newest w) ≡ Some x → (w ≡ one.node) ⊎ (w ≡ one.node → ⊥) → is_on_path s.l (leaf b) w ≡ true
        placed w x node found (inl here) = ap (is_on_path s.l (leaf b)) here ∙ one.lies
        placed w x node found (inr other) = absurd (none-some x (sym (one.alone w node other) ∙ found))

    nowhere : IsUnwritten (is_on_path s.l (leaf b)) filled s.z b newest → HasAtMostOne s.l (leaf b) b (value b) newest
    nowhere none = record {
      count = let is = none_of newest b 1 (node_count s.l) (λ w above high. none.nowhere w (omega arith)) in omega arith;
      valued = λ w node. each (λ x. x ≡ value b) w (λ x found. absurd (none-some x (sym (none.nowhere w node) ∙ found)));
      placed = λ w node. each (λ x. is_on_path s.l (leaf b) w ≡ true) w (λ x found. absurd (none-some x (sym (none.nowhere w node) ∙ found)));
    }

    either : IsWrittenOnce (is_on_path s.l (leaf b)) b (value b) newest ⊎ IsUnwritten (is_on_path s.l (leaf b)) filled s.z b newest → HasAtMostOne s.l (leaf b) b (value b) newest
    either (inl one) = once one
    either (inr none) = nowhere none
