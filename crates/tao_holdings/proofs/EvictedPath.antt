-- An eviction between two exchanges of the path's lists.
use Rattle.std.proofs.Common.{◌≡◌, ℕ, suc, ◌+◌, ◌^◌, ◌<◌, ◌≤◌, Bool, true, false, ◌||◌, cond, nat_eq, List, [], ◌∷◌, length, get_or, Option, Some, None, is_some, IfSome, refl, sym, ap, ◌∙◌, subst, arith, inl, inr, ◌⊎◌, All}
use Rattle.std.specs.Option.{option_map}
use Rattle.std.proofs.Math.Path.{fun_ext}
use Rattle.std.proofs.lemmas.Bool.{true≢false, cases_Bool}
use Rattle.std.proofs.lemmas.List.{same_lists}
use Rattle.std.proofs.lemmas.List.Elements.{All-nil}
use Rattle.tao_base.specs.declared.storage.Bucket.{Bucket}
use Rattle.tao_base.specs.declared.storage.Entry.{Entry}
use Rattle.tao_base.specs.Limits.{Shape}
use Rattle.tao_base.specs.Tree.{path, node_at, is_on_path}
use Rattle.tao_held.specs.Steps.{evict}
use Rattle.tao_flush.specs.Blocks.{IsEntry, AreNodeEntries}
use Rattle.tao_flush.specs.Paths.{with_lists, laid_out, Evicts}
use Rattle.tao_flush.specs.Placing.{lists_on}
use Rattle.tao_flush.proofs.Evicted.{with_lists_at, with_lists_off, path_at, path_len, laid_at, laid_out_is}
use Rattle.tao_flush.proofs.PathNodes.{on_own_path}
use Rattle.tao_flush.proofs.PlacedLists.{list_at, lists_len}
use Rattle.tao_model.proofs.FallingPaths.{has, on_path_has}
use Rattle.tao_model.proofs.OneEviction.{one_eviction}
use Rattle.tao_base.specs.Buckets.{IsInForm, Rises}
use Rattle.tao_model.specs.Placement.{with_stash}
use Rattle.tao_holdings.specs.Holding.{entries_of}
use Rattle.tao_holdings.specs.Lists.{entries_in, AreNodes, relisted, Relists}
use Rattle.tao_holdings.specs.Parts.{AreEmpty}
use Rattle.tao_holdings.proofs.Swapped.{path_distinct}

-- ---- entries in form

pub record FitNode (s : Shape) (entries : List Entry) : Type 0 where
  pub fit : AreNodeEntries s entries
  pub rising : Rises 0 entries

pub bucket_fits : (s : Shape) (b : Bucket) → IsInForm s b → FitNode s b.entries
bucket_fits s b form = record {
  fit = record { few = form.entries.few; each = λ k d below. (form.entries.ids k d below, form.entries.values k d below) };
  rising = form.entries.rising;
}

pub bucket_form : (s : Shape) (b : Bucket) (entries : List Entry) → IsInForm s b → FitNode s entries → IsInForm s (record b { entries = entries })
bucket_form s b entries form fits = record {
  low = form.low;
  high = form.high;
  entries = record {
    few = fits.fit.few;
    rising = fits.rising;
    ids = λ k d below. (fits.fit.each k d below).0;
    values = λ k d below. (fits.fit.each k d below).1;
  };
}

none_fit : (s : Shape) → FitNode s []
none_fit s = record { fit = record { few = omega arith; each = All-nil (IsEntry s) }; rising = tt }

pub entries_fit : (s : Shape) (w : ℕ) (o : Option Bucket) → IfSome o (λ b. (b.node ≡ w) × IsInForm s b) → FitNode s (entries_of o)
entries_fit s w None h = none_fit s
entries_fit s w (Some b) h = bucket_fits s b h.1

pub path_fits : (s : Shape) (at : ℕ) (rs : List (Option Bucket)) → AreNodes s rs → (lists : List (List Entry)) → lists ≡ lists_on s.l at (entries_in rs) → All (AreNodeEntries s) lists
path_fits s at rs form lists is = subst (All (AreNodeEntries s)) (sym is) (λ k d below.
    let len = lists_len s.l at (entries_in rs) in
    subst (AreNodeEntries s) (sym (list_at s.l at k (entries_in rs) d (omega arith))) (entries_fit s (node_at s.l at k) (get_or rs (node_at s.l at k) None) (form (node_at s.l at k))).fit)

-- a fact of all lists and of what lay there before
pub with_lists_keep : (P : List Entry → Type 0) (nodes : List ℕ) (lists : List (List Entry)) (e : ℕ → List Entry) (w : ℕ) → All P lists → P (e w) → P (with_lists nodes lists e w)
with_lists_keep P [] lists e w each rest = rest
with_lists_keep P (v ∷ nodes) [] e w each rest = rest
with_lists_keep P (v ∷ nodes) (l ∷ lists) e w each rest =
    either (cases_Bool (nat_eq v w)) (with_lists_keep P nodes lists e w (λ k d below. each (suc k) d (omega arith)) rest)
  where
    either : (nat_eq v w ≡ true) ⊎ (nat_eq v w ≡ false) → P (with_lists nodes lists e w) → P (cond (nat_eq v w) l (with_lists nodes lists e w))
    either (inl here) ih = rw here (each 0 l (omega arith))
    either (inr other) ih = rw other ih

-- a node that has its list has nothing of the rest
pub with_lists_any : (nodes : List ℕ) (lists : List (List Entry)) (e f : ℕ → List Entry) (w : ℕ) → length nodes ≡ length lists → has w nodes ≡ true
    → with_lists nodes lists e w ≡ with_lists nodes lists f w
with_lists_any [] lists e f w len on = absurd (true≢false (sym on))
with_lists_any (v ∷ nodes) [] e f w len on = absurd (omega arith)
with_lists_any (v ∷ nodes) (l ∷ lists) e f w len on = either (cases_Bool (nat_eq v w)) (with_lists_any nodes lists e f w (omega arith))
  where
    either : (nat_eq v w ≡ true) ⊎ (nat_eq v w ≡ false) → (has w nodes ≡ true → with_lists nodes lists e w ≡ with_lists nodes lists f w)
        → cond (nat_eq v w) l (with_lists nodes lists e w) ≡ cond (nat_eq v w) l (with_lists nodes lists f w)
    either (inl here) ih = rw here refl
    either (inr other) ih = rw other (ih (sym (ap (λ t. t || has w nodes) other) ∙ on))

-- ---- the path

module _ (s : Shape) (at : ℕ) (small : at < 2 ^ s.l) (empty : List (List Entry)) (wait : AreEmpty (s.l + 1) empty) (old mid : List (Option Bucket))
    (held : (w : ℕ) → is_on_path s.l at w ≡ true → is_some (get_or old w None) ≡ true) (first : Relists (path s.l at) empty old mid) where
  -- the lists come back empty
  pub lists_back : (lists : List (List Entry)) → lists ≡ lists_on s.l at (entries_in mid) → lists ≡ empty
  lists_back lists is = same_lists lists empty (ap length is ∙ lists_len s.l at (entries_in mid) ∙ sym wait.len) (λ k x below.
      let len = ap length is in
      let all = lists_len s.l at (entries_in mid) in
      let wait_len = wait.len in
      let within : k ≤ s.l = omega arith in
      ap (λ (ls : List (List Entry)). get_or ls k x) is ∙ list_at s.l at k (entries_in mid) x within ∙ ap entries_of (first (node_at s.l at k))
      ∙ here k x within (get_or old (node_at s.l at k) None) (held (node_at s.l at k) (on_path_has s.l at (node_at s.l at k) ∙ on_own_path s.l at k small within)))
    where
      here : (k : ℕ) (x : List Entry) → k ≤ s.l → (o : Option Bucket) → is_some o ≡ true → entries_of (option_map (relisted (path s.l at) empty (node_at s.l at k)) o) ≡ get_or empty k x
      here k x within None some = absurd (true≢false (sym some))
      here k x within (Some b) some =
          let wait_len = wait.len in
          let nodes_len = path_len s.l at in
          ap (with_lists (path s.l at) empty (λ v. b.entries)) (sym (path_at s.l at k 0 within))
          ∙ with_lists_at (path s.l at) empty (λ v. b.entries) k 0 x (λ i j less below same. path_distinct s.l at small i j less below same) (omega arith) (omega arith)

  module _ (lists : List (List Entry)) (len : length lists ≡ s.l + 1) (new : List (Option Bucket)) (then : Relists (path s.l at) lists mid new) where
    both : (w : ℕ) → get_or new w None ≡ option_map (relisted (path s.l at) lists w) (option_map (relisted (path s.l at) empty w) (get_or old w None))
    both w = then w ∙ ap (option_map (relisted (path s.l at) lists w)) (first w)

    -- what a node has then
    new_at : (w : ℕ) → entries_in new w ≡ with_lists (path s.l at) lists (entries_in old) w
    new_at w = ap entries_of (both w) ∙ each (get_or old w None) refl (cases_Bool (has w (path s.l at)))
      where
        nodes_len : length (path s.l at) ≡ length lists
        nodes_len = path_len s.l at ∙ sym len

        each : (o : Option Bucket) → get_or old w None ≡ o → (has w (path s.l at) ≡ true) ⊎ (has w (path s.l at) ≡ false)
            → entries_of (option_map (relisted (path s.l at) lists w) (option_map (relisted (path s.l at) empty w) o)) ≡ with_lists (path s.l at) lists (entries_in old) w
        each None is (inl on) = absurd (true≢false (sym (held w (on_path_has s.l at w ∙ on)) ∙ ap is_some is))
        each None is (inr off) = sym (with_lists_off (path s.l at) lists (entries_in old) w off ∙ ap entries_of is)
        each (Some b) is (inl on) = with_lists_any (path s.l at) lists (λ v. with_lists (path s.l at) empty (λ u. b.entries) w) (entries_in old) w nodes_len on
        each (Some b) is (inr off) =
            with_lists_off (path s.l at) lists (λ v. with_lists (path s.l at) empty (λ u. b.entries) w) w off ∙ with_lists_off (path s.l at) empty (λ u. b.entries) w off
            ∙ sym (with_lists_off (path s.l at) lists (entries_in old) w off ∙ ap entries_of is)

    module _ (leaf : ℕ → ℕ) (stash stash' : List Entry) (evicts : Evicts s at leaf stash (lists_on s.l at (entries_in old)) stash' lists) where
      new_laid : with_stash stash' (entries_in new) ≡ laid_out s at stash' lists (entries_in old)
      new_laid = fun_ext (λ w. ap (λ x. cond (nat_eq w 0) stash' x) (new_at w))

      pub new_contents : with_stash stash' (entries_in new) ≡ evict s at leaf (with_stash stash (entries_in old))
      new_contents =
          new_laid ∙ fun_ext (λ w. one_eviction s (path s.l at) leaf (laid_out s at stash (lists_on s.l at (entries_in old)) (entries_in old)) (laid_out s at stash' lists (entries_in old)) (evicts (entries_in old)) w)
          ∙ ap (λ (c : ℕ → List Entry). evict s at leaf c) (laid_out_is s at stash (entries_in old) small)

      rising : (k : ℕ) (d : List Entry) → k < length lists → Rises 0 (get_or lists k d)
      rising k d below =
          let within : k ≤ s.l = omega arith in
          let on : has (node_at s.l at k) (path s.l at) ≡ true = on_own_path s.l at k small within in
          subst (Rises 0) (ap (λ t. cond (nat_eq 0 (node_at s.l at k) || t) (laid_out s at stash' lists (entries_in old) (node_at s.l at k)) []) on
          ∙ some (nat_eq 0 (node_at s.l at k)) (laid_out s at stash' lists (entries_in old) (node_at s.l at k)) ∙ laid_at s at stash' lists (entries_in old) k d small len within)
          ((evicts (entries_in old)).placed.rises (node_at s.l at k))
        where
          some : (t : Bool) (x : List Entry) → cond (t || true) x [] ≡ x
          some true x = refl
          some false x = refl

      pub new_form : AreNodes s old → All (AreNodeEntries s) lists → AreNodes s new
      new_form form fit w =
          subst (λ (o : Option Bucket). IfSome o (λ bucket. (bucket.node ≡ w) × IsInForm s bucket)) (sym (both w)) (each (get_or old w None) (form w))
        where
          each : (o : Option Bucket) → IfSome o (λ bucket. (bucket.node ≡ w) × IsInForm s bucket)
              → IfSome (option_map (relisted (path s.l at) lists w) (option_map (relisted (path s.l at) empty w) o)) (λ bucket. (bucket.node ≡ w) × IsInForm s bucket)
          each None h = tt
          each (Some b) h = (
            h.0,
            bucket_form s b (with_lists (path s.l at) lists (λ v. with_lists (path s.l at) empty (λ u. b.entries) w) w) h.1
                (with_lists_keep (FitNode s) (path s.l at) lists (λ v. with_lists (path s.l at) empty (λ u. b.entries) w) w (λ k d below. record { fit = fit k d below; rising = rising k d below })
                (with_lists_keep (FitNode s) (path s.l at) empty (λ u. b.entries) w (λ k d below. subst (FitNode s) (sym (wait.empty k d below)) (none_fit s)) (bucket_fits s b h.1))),
          )
