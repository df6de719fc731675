-- What the steps share: the parts of the rule when one view changes.
use Rattle.std.proofs.Common.{◌≡◌, ℕ, zero, suc, ◌<◌, ◌≤◌, get_or, set, List, [], ◌∷◌, ◌++◌, refl, sym, ap, ◌∙◌, subst, true, false, true≢false, Bool, arith}
use mathlib.Core.Option.{none, some}
use mathlib.Core.Option as maybe
use lib.ListN.{get_elem?}
use Rattle.std.specs.Prelude.{Option, Some}
use Rattle.atomic_table.specs.Table.{State, Me, Act, stepped, keeps, Valid, carried_after}
use Rattle.atomic_table.proofs.Lists.{set_again, at_longer}
use Rattle.tao_turn.specs.Lists.{Begins, has}
use Rattle.tao_turn.specs.Rule.{Place, home, out, IsInPlace, IsOut, HasSeen, OwnsShares, IsMarked, AreDrawn, IsKnown, AreOwned, Turn}
use Rattle.tao_turn.specs.Views.{ticket_in, is_holder, is_live}
use Rattle.tao_turn.specs.declared.view.Knowledge.{Knowledge}
use Rattle.tao_turn.specs.declared.view.View.{View}
use Rattle.tao_turn.proofs.ViewLemmas.{flat, there}

same3 : (a b c i : ℕ) → i < 3 → set (a ∷ b ∷ c ∷ []) i (get_or (a ∷ b ∷ c ∷ []) i 0) ≡ a ∷ b ∷ c ∷ []
same3 a b c zero le = refl
same3 a b c (suc zero) le = refl
same3 a b c (suc (suc zero)) le = refl
same3 a b c (suc (suc (suc i))) le = absurd (omega arith)

pub is_out : {T E : Type 0} (entries : T → List E) (p : Place T E) (j : ℕ) (l : List E) → IsOut entries p j l → p ≡ out j l
is_out entries (home x) j l h = absurd (true≢false h)
is_out entries (out k m) j l h = λ i. out (h.0 i) (h.1 i)

-- what holds of a live view still holds if only its stage changes
pub owns_on : (seats : ℕ) (owner : ℕ → ℕ) (j : ℕ) (b c : Bool) (ns : List ℕ) → b ≡ true → OwnsShares seats owner j b ns → OwnsShares seats owner j c ns
owns_on seats owner j b c ns e h = record { owns = λ _. h.owns e; some_share = λ _. h.some_share e }

module _ {E : Type 0} where
  pub seen_on : (maker : List E → ℕ → Option ℕ) (l : List E) (b c : Bool) (k : Knowledge E) → b ≡ true → HasSeen maker l b k → HasSeen maker l c k
  seen_on maker l b c k e h = record { seen = λ _. h.seen e; others = λ _. h.others e }

  pub marked_on : (mark_of : List E → ℕ) (mark : ℕ) (b c : Bool) (p : ℕ) (k : Knowledge E) → b ≡ true → IsMarked mark_of mark b p k → IsMarked mark_of mark c p k
  marked_on mark_of mark b c p k e h = record { glanced = h.glanced; within = h.within; enough = λ _. h.enough e }

  -- marks stay within if the mark rises
  pub marked_up : (mark_of : List E → ℕ) (mark more : ℕ) (b : Bool) (p : ℕ) (k : Knowledge E) → mark ≤ more → IsMarked mark_of mark b p k → IsMarked mark_of more b p k
  marked_up mark_of mark more b p k le h = let g = h.glanced in let w = h.within in record { glanced = omega arith; within = omega arith; enough = h.enough }

  pub mark_of_beginning : (mark_of : List E → ℕ) → ((xs ys : List E) → mark_of xs ≤ mark_of (xs ++ ys)) → (xs ys : List E) → Begins xs ys → mark_of xs ≤ mark_of ys
  mark_of_beginning mark_of grows xs ys b = subst (λ (l : List E). mark_of xs ≤ mark_of l) b.1 (grows xs b.0)

-- the view of one seat changes from v to w
module _ {E : Type 0} (views : List (View E)) (id : ℕ) (v w : View E) (at : get_elem? views id ≡ some v) where
  pub drawn_on : (serving next : ℕ) (drawer : ℕ → ℕ) → ((t : ℕ) → serving ≤ t → ticket_in v.stage ≡ Some t → ticket_in w.stage ≡ Some t) → AreDrawn serving next drawer views → AreDrawn serving next drawer (set views id w)
  drawn_on serving next drawer keep h t lo hi = let d = h t lo hi in there views id v w at (λ u. ticket_in u.stage ≡ Some t) (drawer t) d.0 d.1 d.2 (λ _ p. keep t lo p)

  pub known_on : (l : List E) → (is_live v.stage ≡ true → is_live w.stage ≡ true) → w.known.seen ≡ v.known.seen → IsKnown l views → IsKnown l (set views id w)
  known_on l live same h = (h.0, flat (there views id v w at (λ u. (is_live u.stage ≡ true) × (u.known.seen ≡ l)) h.0 h.1.0 h.1.1 (h.1.2, h.1.3) (λ _ p. (live p.0, same ∙ p.1))))

  pub owned_on : (seats : ℕ) (owner : ℕ → ℕ) → (is_live v.stage ≡ true → is_live w.stage ≡ true) → w.known.shares ≡ v.known.shares → AreOwned seats owner views → AreOwned seats owner (set views id w)
  owned_on seats owner live same h k lt = let o = h k lt in
      flat (there views id v w at (λ u. (is_live u.stage ≡ true) × (has k u.known.shares ≡ true)) (owner k) o.0 o.1 (o.2, o.3) (λ _ p. (live p.0, ap (has k) same ∙ p.1)))

module _ {T E : Type 0} (entries : T → List E) (mark_of : List E → ℕ) (maker : List E → ℕ → Option ℕ) (seats : ℕ) where
  abbrev pub St : Type 0
  St = State (Option T) (View E)

  abbrev pub M : Type 0
  M = Me (Option T) (View E)

  -- what a step owes
  abbrev pub Goes : St → ℕ → ℕ → M → (M → Type 0) → ℕ → Type 0
  Goes s i id me told new = (w : View E) × (a : Act (Option T)) × Valid s.homes me.1 a × Turn entries mark_of maker seats (stepped s i new id me.1 w a) × told (w, carried_after me.1 a)

  -- the place of the value stays, and so does the holder
  pub stays_in : (homes : List (maybe.Option (Option T))) (views : List (View E)) (id : ℕ) (v w : View E) → get_elem? views id ≡ some v
      → (is_holder v.stage ≡ true → is_holder w.stage ≡ true) → (p : Place T E) → IsInPlace entries homes views p → IsInPlace entries homes (set views id w) p
  stays_in homes views id v w at keeps_on (home x) h = h
  stays_in homes views id v w at keeps_on (out j l) h = (h.0, there views id v w at (λ u. is_holder u.stage ≡ true) j h.1.0 h.1.1 h.1.2 (λ _ p. keeps_on p))

  pub grows_in : (homes : List (maybe.Option (Option T))) (views : List (View E)) (o : View E) (p : Place T E) → IsInPlace entries homes views p → IsInPlace entries homes (views ++ o ∷ []) p
  grows_in homes views o (home x) h = h
  grows_in homes views o (out j l) h = (h.0, (h.1.0, at_longer views (o ∷ []) j h.1.0 h.1.1, h.1.2))

  pub at_home : (homes : List (maybe.Option (Option T))) (views : List (View E)) (p : Place T E) → IsInPlace entries homes views p
      → ((j : ℕ) (u : View E) → get_elem? views j ≡ some u → is_holder u.stage ≡ true → true ≡ false) → (x : T) × (p ≡ home x) × (homes ≡ some (Some x) ∷ [])
  at_home homes views (home x) h clash = (x, refl, h)
  at_home homes views (out j l) h clash = absurd (true≢false (clash j h.1.0 h.1.1 h.1.2))

  pub unmoved : (s : St) (r : Turn entries mark_of maker seats s) (i : ℕ) → i < 3 → set s.words i (get_or s.words i 0) ≡ s.words
  unmoved s r i le = subst (λ (ws : List ℕ). set ws i (get_or ws i 0) ≡ ws) (sym r.words_are) (same3 r.next r.serving r.mark i le)

  -- nothing changes
  pub stands : (s : St) (r : Turn entries mark_of maker seats s) (i id : ℕ) (me : M) (told : M → Type 0) → get_elem? s.views id ≡ some me.0 → i < 3 → told me → Goes s i id me told (get_or s.words i 0)
  stands s r i id me told at le t = (
    me.0,
    keeps,
    tt,
    subst (λ (z : List ℕ × List (View E)). Turn entries mark_of maker seats record { words = z.0; homes = s.homes; views = z.1 }) (λ k. (sym (unmoved s r i le) k, sym (set_again s.views id me.0 at) k)) r,
    t,
  )
