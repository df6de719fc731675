-- The views of all seats when one of them changes.
use Rattle.std.proofs.Common.{◌≡◌, ◌≢◌, ℕ, zero, suc, eqb, List, [], ◌∷◌, ◌++◌, length, set, refl, sym, ap, ◌∙◌, subst, true, false, true≢false, Bool, ⊎_elim, eq-eqb, ne_eqb, inl, inr, ◌⊎◌}
use mathlib.Core.Option.{some, some-injective, some-ne-none}
use mathlib.Core.Logic.{dite}
use native.Mathlib.Decide.{ℕ_discrete}
use lib.ListN.{get_elem?}
use prog.Atomic.{either}
use Rattle.std.specs.Prelude.{Option, Some, None}
use Rattle.atomic_table.proofs.Lists.{at_set, set_here, set_else}
use Rattle.tao_turn.specs.Views.{ticket_in, ticket_held, is_holder, is_live}
use Rattle.tao_turn.specs.declared.view.Stage.{Stage}
use Rattle.tao_turn.specs.declared.view.Stage.TheVariants.{Idle, Waiting, Holding, Unpublished, Spent}
use Rattle.tao_turn.specs.declared.view.View.{View}
use Rattle.tao_turn.proofs.ListLemmas.{below}

pub flat : {X : Type 0} {A B C : X → Type 0} → (x : X) × A x × (B x × C x) → (x : X) × A x × B x × C x
flat p = (p.0, p.1, p.2.0, p.2.1)

-- f with x at k
abbrev pub put : (ℕ → ℕ) → ℕ → ℕ → ℕ → ℕ
put f k x t = either (eqb t k) x (f t)

pub put_same : (f : ℕ → ℕ) (k x : ℕ) → put f k x k ≡ x
put_same f k x = ap (λ (b : Bool). either b x (f k)) (eq-eqb k k refl)

pub put_else : (f : ℕ → ℕ) (k x t : ℕ) → t ≢ k → put f k x t ≡ f t
put_else f k x t apart = ap (λ (b : Bool). either b x (f t)) (ne_eqb t k apart)

pub at_more : {A : Type 0} (l : List A) (a b : A) (j : ℕ) → get_elem? (l ++ a ∷ []) j ≡ some b → (get_elem? l j ≡ some b) ⊎ ((j ≡ length l) × (a ≡ b))
at_more [] a b zero e = inr (refl, some-injective a b e)
at_more [] a b (suc j) e = absurd (some-ne-none b (sym e))
at_more (x ∷ xs) a b zero e = inl e
at_more (x ∷ xs) a b (suc j) e = ⊎_elim (λ t. inl t) (λ (t : (j ≡ length xs) × (a ≡ b)). inr (ap suc t.0, t.1)) (at_more xs a b j e)

pub holder_lives : {E : Type 0} (s : Stage E) → is_holder s ≡ true → is_live s ≡ true
holder_lives Idle h = absurd (true≢false (sym h))
holder_lives (Waiting t) h = refl
holder_lives (Holding t found) h = refl
holder_lives Unpublished h = refl
holder_lives Spent h = absurd (true≢false (sym h))

pub holder_has : {E : Type 0} (s : Stage E) → is_holder s ≡ true → ticket_in s ≡ Some (ticket_held s)
holder_has Idle h = absurd (true≢false (sym h))
holder_has (Waiting t) h = absurd (true≢false (sym h))
holder_has (Holding t found) h = refl
holder_has Unpublished h = absurd (true≢false (sym h))
holder_has Spent h = absurd (true≢false (sym h))

pub ticket_lives : {E : Type 0} (s : Stage E) (t : ℕ) → ticket_in s ≡ Some t → is_live s ≡ true
ticket_lives Idle t h = refl
ticket_lives (Waiting u) t h = refl
ticket_lives (Holding u found) t h = refl
ticket_lives Unpublished t h = refl
ticket_lives Spent t h = absurd (no_ticket t h)
  where
    is_some : Option ℕ → Bool
    is_some None = false
    is_some (Some x) = true

    no_ticket : (t : ℕ) → None ≡ Some t → ⊥
    no_ticket t e = true≢false (sym (ap is_some e))

-- the view of one seat changes from v to w
module _ {E : Type 0} (views : List (View E)) (id : ℕ) (v w : View E) (at : get_elem? views id ≡ some v) where
  pub here : get_elem? (set views id w) id ≡ some w
  here = set_here views id w (below views id v at)

  pub there : (P : View E → Type 0) (j : ℕ) (u : View E) → get_elem? views j ≡ some u → P u → (j ≡ id → P v → P w) → (x : View E) × (get_elem? (set views id w) j ≡ some x) × P x
  there P j u e p f = dite (ℕ_discrete j id)
      (λ same. (w, ap (get_elem? (set views id w)) same ∙ here, f same (subst P (some-injective u v (sym e ∙ (ap (get_elem? views) same ∙ at))) p)))
      (λ apart. (u, set_else views id j w apart ∙ e, p))

  pub every : (F : ℕ → View E → Type 0) → F id w → ((j : ℕ) (u : View E) → j ≢ id → get_elem? views j ≡ some u → F j u) → (j : ℕ) (u : View E) → get_elem? (set views id w) j ≡ some u → F j u
  every F mine others j u e = ⊎_elim (λ (x : (j ≡ id) × (w ≡ u)). subst (λ (y : ℕ × View E). F y.0 y.1) (λ i. (sym x.0 i, x.1 i)) mine)
      (λ (x : (j ≢ id) × (get_elem? views j ≡ some u)). others j u x.0 x.1) (at_set views id j w u e)
