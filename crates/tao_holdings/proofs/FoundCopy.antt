-- The first copy of a block, in the stash and on a path.
use Rattle.std.proofs.Common.{◌≡◌, ℕ, suc, ◌+◌, ◌<◌, true, false, cond, nat_eq, List, [], ◌∷◌, length, get_or, drop, Option, Some, None, IfSome, refl, sym, ap, ap₂, ◌∙◌, subst, arith, inl, inr, ◌⊎◌, All, Bor}
use Rattle.std.specs.Option.{option_or, option_copied}
use Rattle.std.proofs.lemmas.Bool.{cases_Bool, or_parts}
use Rattle.std.proofs.lemmas.List.{drop_more, drop_all}
use Rattle.tao_base.specs.declared.storage.Bucket.{Bucket}
use Rattle.tao_base.specs.declared.storage.Entry.{Entry}
use Rattle.tao_base.specs.Limits.{Shape}
use Rattle.tao_base.specs.Tree.{path, node_at}
use Rattle.tao_flush.specs.Blocks.{IsEntry, IsStash}
use Rattle.tao_flush.proofs.Evicted.{path_at, path_len}
use Rattle.tao_model.proofs.FallingPaths.{has, on_path_has}
use Rattle.tao_model.specs.Placement.{look, first_copy, with_stash}
use Rattle.tao_held.specs.Steps.{found_copy}
use Rattle.tao_holdings.specs.Lists.{entries_in, AreNodes}
use Rattle.tao_holdings.proofs.Arrived.{not_zero}
use Rattle.tao_holdings.proofs.EvictedPath.{entries_fit}

-- ---- the length of what is found

look_fits : (s : Shape) (b : ℕ) (entries : List Entry) → All (IsEntry s) entries → IfSome (look b entries) (λ value. length value ≡ s.b)
look_fits s b [] each = tt
look_fits s b (e ∷ entries) each = either (cases_Bool (nat_eq e.id b)) (look_fits s b entries (λ k d below. each (suc k) d (omega arith)))
  where
    either : (nat_eq e.id b ≡ true) ⊎ (nat_eq e.id b ≡ false) → IfSome (look b entries) (λ value. length value ≡ s.b)
        → IfSome (cond (nat_eq e.id b) (Some e.value) (look b entries)) (λ value. length value ≡ s.b)
    either (inl here) ih = rw here ((each 0 e (omega arith)).1)
    either (inr other) ih = rw other ih

first_fits : (s : Shape) (nodes : List ℕ) (c : ℕ → List Entry) (b : ℕ) → ((w : ℕ) → All (IsEntry s) (c w)) → IfSome (first_copy nodes c b) (λ value. length value ≡ s.b)
first_fits s [] c b each = tt
first_fits s (w ∷ nodes) c b each = either (look b (c w)) (look_fits s b (c w) (each w)) (first_fits s nodes c b each)
  where
    either : (o : Option (List ℕ)) → IfSome o (λ value. length value ≡ s.b) → IfSome (first_copy nodes c b) (λ value. length value ≡ s.b)
        → IfSome (option_or o (first_copy nodes c b)) (λ value. length value ≡ s.b)
    either None h ih = ih
    either (Some v) h ih = h

-- what is lent is what was found
pub lent_fits : (b : ℕ) (found : Option (Bor (List ℕ))) (o : Option (List ℕ)) → option_copied found ≡ o → IfSome o (λ value. length value ≡ b) → IfSome found (λ value. length value.now ≡ b)
lent_fits b found o is fits = either found (subst (λ (x : Option (List ℕ)). IfSome x (λ value. length value ≡ b)) (sym is) fits)
  where
    either : (x : Option (Bor (List ℕ))) → IfSome (option_copied x) (λ value. length value ≡ b) → IfSome x (λ value. length value.now ≡ b)
    either None h = tt
    either (Some v) h = h

pub stash_fits : (s : Shape) (b : ℕ) (stash : List Entry) → IsStash s stash → IfSome (look b stash) (λ value. length value ≡ s.b)
stash_fits s b stash is = look_fits s b stash is.each

pub path_fits : (s : Shape) (at b : ℕ) (rs : List (Option Bucket)) → AreNodes s rs → IfSome (first_copy (path s.l at) (entries_in rs) b) (λ value. length value ≡ s.b)
path_fits s at b rs form = first_fits s (path s.l at) (entries_in rs) b (λ w. (entries_fit s w (get_or rs w None) (form w)).fit.each)

-- ---- the stash before the path

no_stash : (nodes : List ℕ) (stash : List Entry) (c : ℕ → List Entry) (b : ℕ) → has 0 nodes ≡ false → first_copy nodes (with_stash stash c) b ≡ first_copy nodes c b
no_stash [] stash c b off = refl
no_stash (w ∷ nodes) stash c b off =
    let parts = or_parts (nat_eq w 0) (has 0 nodes) off in
    ap₂ (λ x y. option_or x y) (ap (λ t. look b (cond t stash (c w))) parts.0) (no_stash nodes stash c b parts.1)

pub behind_stash : (l at b : ℕ) (stash : List Entry) (c : ℕ → List Entry) → look b stash ≡ None → found_copy l at (with_stash stash c) b ≡ first_copy (path l at) c b
behind_stash l at b stash c none =
    ap (λ x. option_or x (first_copy (path l at) (with_stash stash c) b)) none ∙ no_stash (path l at) stash c b (sym (on_path_has l at 0) ∙ not_zero l at)

-- ---- depth after depth

next_copy : (l at d b : ℕ) (c : ℕ → List Entry) → d < l + 1 → first_copy (drop d (path l at)) c b ≡ option_or (look b (c (node_at l at d))) (first_copy (drop (d + 1) (path l at)) c b)
next_copy l at d b c below =
    let len = path_len l at in
    ap (λ (ns : List ℕ). first_copy ns c b) (drop_more (path l at) d 0 (omega arith)) ∙ ap (λ n. option_or (look b (c n)) (first_copy (drop (d + 1) (path l at)) c b)) (path_at l at d 0 (omega arith))

module _ (l at d b : ℕ) (c : ℕ → List Entry) (so_far : first_copy (path l at) c b ≡ first_copy (drop d (path l at)) c b) where
  pub found_here : (n : ℕ) (o : Option (List ℕ)) (v : List ℕ) → d < l + 1 → n ≡ node_at l at d → o ≡ look b (c n) → o ≡ Some v → Some v ≡ first_copy (path l at) c b
  found_here n o v below node is some =
      sym (so_far ∙ next_copy l at d b c below
      ∙ ap (λ x. option_or x (first_copy (drop (d + 1) (path l at)) c b)) (ap (λ m. look b (c m)) (sym node) ∙ sym is ∙ some))

  pub none_here : (n : ℕ) (o : Option (List ℕ)) → d < l + 1 → n ≡ node_at l at d → o ≡ look b (c n) → o ≡ None → first_copy (path l at) c b ≡ first_copy (drop (d + 1) (path l at)) c b
  none_here n o below node is none =
      so_far ∙ next_copy l at d b c below
      ∙ ap (λ x. option_or x (first_copy (drop (d + 1) (path l at)) c b)) (ap (λ m. look b (c m)) (sym node) ∙ sym is ∙ none)

  pub none_left : d ≡ l + 1 → None ≡ first_copy (path l at) c b
  none_left end =
      let len = path_len l at in
      sym (so_far ∙ ap (λ (ns : List ℕ). first_copy ns c b) (drop_all d (path l at) (omega arith)))
