-- Which numbers a list has, and which entries are made under them.
use Rattle.std.proofs.Common.{◌≡◌, ◌≢◌, ℕ, zero, suc, ◌+◌, ◌<◌, ◌≤◌, eqb, List, [], ◌∷◌, ◌++◌, length, refl, sym, ap, ◌∙◌, true, false, true≢false, Bool, arith, eq-eqb, ne_eqb, inl, inr, ◌⊎◌}
use mathlib.Core.Logic.{dite}
use native.Mathlib.Decide.{dec_le, ℕ_discrete}
use Rattle.std.specs.Prelude.{Option, ◌||◌, if◌then◌else◌, nat_lt}
use Rattle.std.specs.List.{range_with_len}
use Rattle.std.proofs.lemmas.Bool.Decides.{nat_tests}
use Rattle.tao_turn.specs.Lists.{Begins, has, removed, is_empty, put_in, merged, RisesFrom, MergingRises}
use Rattle.tao_turn.specs.Histories.{NoneMade, OwnMade}
use Rattle.tao_turn.proofs.ListLemmas.{begins_length}

pub bool_false : (b : Bool) → ((b ≡ true) → ⊥) → b ≡ false
bool_false true h = absurd (h refl)
bool_false false h = refl

pub or_right : (a b : Bool) → b ≡ true → (a || b) ≡ true
or_right true b h = refl
or_right false b h = h

pub or_left : (a b : Bool) → a ≡ true → (a || b) ≡ true
or_left a b h = ap (λ (x : Bool). x || b) h

pub or_cases : (a b : Bool) → (a || b) ≡ true → (a ≡ true) ⊎ (b ≡ true)
or_cases true b h = inl refl
or_cases false b h = inr h

or_false : (a b : Bool) → a ≡ false → b ≡ false → (a || b) ≡ false
or_false a b e f = ap (λ (x : Bool). x || b) e ∙ f

or_swap : (a b c : Bool) → (a || (b || c)) ≡ (b || (a || c))
or_swap true true c = refl
or_swap true false c = refl
or_swap false b c = refl

or_assoc : (a b c : Bool) → (a || (b || c)) ≡ ((a || b) || c)
or_assoc true b c = refl
or_assoc false b c = refl

has_either : (k n m : ℕ) (more ms : List ℕ) (b : Bool) → has k more ≡ (eqb k n || has k ms) → has k (if b then m ∷ more else n ∷ m ∷ ms) ≡ (eqb k n || (eqb k m || has k ms))
has_either k n m more ms true h = ap (λ (x : Bool). eqb k m || x) h ∙ or_swap (eqb k m) (eqb k n) (has k ms)
has_either k n m more ms false h = refl

has_put_in : (k n : ℕ) (ms : List ℕ) → has k (put_in n ms) ≡ (eqb k n || has k ms)
has_put_in k n [] = refl
has_put_in k n (m ∷ ms) = has_either k n m (put_in n ms) ms (nat_lt m n) (has_put_in k n ms)

-- what is merged has the numbers of both
pub has_merged : (k : ℕ) (xs ys : List ℕ) → has k (merged xs ys) ≡ (has k xs || has k ys)
has_merged k [] ys = refl
has_merged k (x ∷ xs) ys = has_put_in k x (merged xs ys) ∙ (ap (λ (b : Bool). eqb k x || b) (has_merged k xs ys) ∙ or_assoc (eqb k x) (has k xs) (has k ys))

put_in_some : (n : ℕ) (ms : List ℕ) → is_empty (put_in n ms) ≡ false
put_in_some n [] = refl
put_in_some n (m ∷ ms) = either_some (nat_lt m n)
  where
    either_some : (b : Bool) → is_empty (if b then m ∷ put_in n ms else n ∷ m ∷ ms) ≡ false
    either_some true = refl
    either_some false = refl

pub merged_some : (xs ys : List ℕ) → is_empty xs ≡ false → is_empty (merged xs ys) ≡ false
merged_some [] ys h = absurd (true≢false h)
merged_some (x ∷ xs) ys h = put_in_some x (merged xs ys)

-- a list that isn't empty has a number
pub some_number : (ms : List ℕ) → is_empty ms ≡ false → (n : ℕ) × (has n ms ≡ true)
some_number [] h = absurd (true≢false h)
some_number (m ∷ ms) h = (m, ap (λ (x : Bool). x || has m ms) (eq-eqb m m refl))

pub has_some : (n : ℕ) (ms : List ℕ) → has n ms ≡ true → is_empty ms ≡ false
has_some n [] h = absurd (true≢false (sym h))
has_some n (m ∷ ms) h = refl

pub has_removed : (n k : ℕ) (ms : List ℕ) → has k (removed n ms) ≡ true → (has k ms ≡ true) × (k ≢ n)
has_removed n k [] h = absurd (true≢false (sym h))
has_removed n k (m ∷ ms) h = dite (ℕ_discrete n m)
    (λ same. let b = has_removed n k ms (sym (ap (λ (x : Bool). has k (if x then removed n ms else m ∷ removed n ms)) (eq-eqb n m same)) ∙ h) in
    (or_right (eqb k m) (has k ms) b.0, b.1))
    (λ apart. let h' : (eqb k m || has k (removed n ms)) ≡ true = sym (ap (λ (x : Bool). has k (if x then removed n ms else m ∷ removed n ms)) (ne_eqb n m apart)) ∙ h in
    dite (ℕ_discrete k m)
    (λ here. (ap (λ (x : Bool). x || has k ms) (eq-eqb k m here), λ (bad : k ≡ n). apart (sym bad ∙ here)))
    (λ off. let b = has_removed n k ms (sym (ap (λ (x : Bool). x || has k (removed n ms)) (ne_eqb k m off)) ∙ h') in (or_right (eqb k m) (has k ms) b.0, b.1)))

pub removed_has : (n k : ℕ) (ms : List ℕ) → has k ms ≡ true → k ≢ n → has k (removed n ms) ≡ true
removed_has n k [] h apart = absurd (true≢false (sym h))
removed_has n k (m ∷ ms) h apart = dite (ℕ_discrete n m)
    (λ same. ap (λ (x : Bool). has k (if x then removed n ms else m ∷ removed n ms)) (eq-eqb n m same)
    ∙ removed_has n k ms (sym (ap (λ (x : Bool). x || has k ms) (ne_eqb k m (λ (bad : k ≡ m). apart (bad ∙ sym same)))) ∙ h) apart)
    (λ off. ap (λ (x : Bool). has k (if x then removed n ms else m ∷ removed n ms)) (ne_eqb n m off)
    ∙ dite (ℕ_discrete k m) (λ here. ap (λ (x : Bool). x || has k (removed n ms)) (eq-eqb k m here))
    (λ away. or_right (eqb k m) (has k (removed n ms)) (removed_has n k ms (sym (ap (λ (x : Bool). x || has k ms) (ne_eqb k m away)) ∙ h) apart)))

pub has_one : (n k : ℕ) → has k (n ∷ []) ≡ true → k ≡ n
has_one n k h = dite (ℕ_discrete k n) (λ e. e) (λ off. absurd (true≢false (sym h ∙ ap (λ (x : Bool). x || false) (ne_eqb k n off))))

pub one_has : (n : ℕ) → has n (n ∷ []) ≡ true
one_has n = ap (λ (x : Bool). x || false) (eq-eqb n n refl)

pub has_range : (n from count : ℕ) → has n (range_with_len from count) ≡ true → (from ≤ n) × (n < from + count)
has_range n from zero h = absurd (true≢false (sym h))
has_range n from (suc count) h = dite (ℕ_discrete n from) (λ e. (omega arith, omega arith))
    (λ apart. let b = has_range n (from + 1) count (sym (ap (λ (x : Bool). x || has n (range_with_len (from + 1) count)) (ne_eqb n from apart)) ∙ h) in
    let lo = b.0 in let up = b.1 in (omega arith, omega arith))

pub range_has : (n from count : ℕ) → from ≤ n → n < from + count → has n (range_with_len from count) ≡ true
range_has n from zero lo hi = absurd (omega arith)
range_has n from (suc count) lo hi = dite (ℕ_discrete n from) (λ e. ap (λ (x : Bool). x || has n (range_with_len (from + 1) count)) (eq-eqb n from e))
    (λ apart. ap (λ (x : Bool). x || has n (range_with_len (from + 1) count)) (ne_eqb n from apart) ∙ range_has n (from + 1) count (omega arith) (omega arith))

module _ {E : Type 0} (maker : List E → ℕ → Option ℕ) where
  pub none_of_fewer : (l : List E) (n : ℕ) (ss ts : List ℕ) → NoneMade maker l n ss → ((k : ℕ) → has k ts ≡ true → has k ss ≡ true) → NoneMade maker l n ts
  none_of_fewer l n ss ts none fewer i k lo hi made = bool_false (has k ts) (λ bad. true≢false (sym (fewer k bad) ∙ none i k lo hi made))

  pub none_of_both : (l : List E) (n m p : ℕ) (ss ts : List ℕ) → NoneMade maker l n ss → NoneMade maker l m ts → n ≤ p → m ≤ p → NoneMade maker l p (merged ss ts)
  none_of_both l n m p ss ts a b le le' i k lo hi made = has_merged k ss ts ∙ or_false (has k ss) (has k ts) (a i k (omega arith) hi made) (b i k (omega arith) hi made)

  module _ (stays : (xs ys : List E) (i : ℕ) → i < length xs → maker (xs ++ ys) i ≡ maker xs i) where
    -- nobody made an entry under these shares in a prefix of the list either
    pub none_before : (front l : List E) (n : ℕ) (ss : List ℕ) → Begins front l → NoneMade maker l n ss → NoneMade maker front n ss
    none_before front l n ss b a i k lo hi made = let le = begins_length front l b in
        a i k lo (omega arith) (ap (λ (z : List E). maker z i) (sym b.1) ∙ (stays front b.0 i hi ∙ made))

    -- what one seat made in its turn wasn't made under another's shares
    pub none_since : (found all : List E) (n : ℕ) (mine theirs : List ℕ) → Begins found all → NoneMade maker found n theirs
        → OwnMade maker all (length found) mine → ((k : ℕ) → has k mine ≡ true → has k theirs ≡ false) → NoneMade maker all n theirs
    none_since found all n mine theirs longer before own apart i k lo hi made = dite (dec_le (length found) i)
        (λ late. apart k (own i k late hi made))
        (λ early. let near : i < length found = omega arith in before i k lo near (sym (ap (λ (l : List E). maker l i) (sym longer.1) ∙ stays found longer.0 i near) ∙ made))

-- a number is inserted after those that are less
rises_with : (lo n m : ℕ) (ms more : List ℕ) → lo ≤ m → lo ≤ n → RisesFrom m ms → (m ≤ n → RisesFrom m more) → (b : Bool) → nat_lt m n ≡ b → RisesFrom lo (if b then m ∷ more else n ∷ m ∷ ms)
rises_with lo n m ms more below_m below_n rest moved true is = (below_m, moved (grind (arith, nat_tests)))
rises_with lo n m ms more below_m below_n rest moved false is = (below_n, (grind (arith, nat_tests), rest))

put_in_rises : (lo n : ℕ) (ms : List ℕ) → lo ≤ n → RisesFrom lo ms → RisesFrom lo (put_in n ms)
put_in_rises lo n [] below rises = (below, tt)
put_in_rises lo n (m ∷ ms) below rises = rises_with lo n m ms (put_in n ms) rises.0 below rises.1 (λ le. put_in_rises m n ms le rises.1) (nat_lt m n) refl

merged_rises : (ms ns : List ℕ) → RisesFrom 0 ns → RisesFrom 0 (merged ms ns)
merged_rises [] ns rises = rises
merged_rises (m ∷ ms) ns rises = put_in_rises 0 m (merged ms ns) (omega arith) (merged_rises ms ns rises)

pub merging_rises : MergingRises
merging_rises ms ns rises = (merged_rises ms ns rises, λ k. has_merged k ms ns)
