-- How many numbers below n pass.
use Rattle.std.proofs.Common.{◌≡◌, ℕ, zero, suc, ◌+◌, ◌<◌, ◌≤◌, Bool, true, false, not, ◌&&◌, ◌||◌, cond, refl, sym, ap, ◌∙◌, arith, inl, inr, ◌⊎◌, nat_eq}
use Rattle.std.proofs.lemmas.Bool.{cases_lt, cases_eq, eq-eqb, ne_eqb}
use Rattle.tao_model.specs.Requests.{any_below}
use Rattle.tao_laws.specs.Counted.{count_below}

pub count_same : (f g : ℕ → Bool) (n : ℕ) → ((i : ℕ) → i < n → f i ≡ g i) → count_below f n ≡ count_below g n
count_same f g zero same = refl
count_same f g (suc n) same =
    ap (λ t. cond t (count_below f n + 1) (count_below f n)) (same n (omega arith))
    ∙ ap (λ c. cond (g n) (c + 1) c) (count_same f g n (λ i low. same i (omega arith)))

pub count_within : (f : ℕ → Bool) (n : ℕ) → count_below f n ≤ n
count_within f zero = omega arith
count_within f (suc n) = either (f n) (count_within f n)
  where
    either : (t : Bool) → count_below f n ≤ n → cond t (count_below f n + 1) (count_below f n) ≤ suc n
    either true ih = omega arith
    either false ih = omega arith

pub count_full : (f : ℕ → Bool) (n : ℕ) → count_below f n ≡ n → (i : ℕ) → i < n → f i ≡ true
count_full f zero full i low = absurd (omega arith)
count_full f (suc n) full i low = either (f n) refl full (cases_lt i n) (λ rest. count_full f n rest i)
  where
    within : count_below f n ≤ n
    within = count_within f n

    either : (t : Bool) → f n ≡ t → cond t (count_below f n + 1) (count_below f n) ≡ suc n → (i < n) ⊎ (n ≤ i) → (count_below f n ≡ n → i < n → f i ≡ true) → f i ≡ true
    either true is h (inl less) ih = ih (omega arith) less
    either true is h (inr last) ih = let at : i ≡ n = omega arith in ap f at ∙ is
    either false is h place ih = let low = within in absurd (omega arith)

pub count_all : (f : ℕ → Bool) (n : ℕ) → ((i : ℕ) → i < n → f i ≡ true) → count_below f n ≡ n
count_all f zero all = refl
count_all f (suc n) all = rw (all n (omega arith), count_all f n (λ i low. all i (omega arith))) (omega arith)

-- one more number passes
pub count_more : (f : ℕ → Bool) (a n : ℕ) → a < n → f a ≡ false → count_below (λ i. nat_eq a i || f i) n ≡ count_below f n + 1
count_more f a zero low off = absurd (omega arith)
count_more f a (suc n) low off = either (cases_eq a n) (λ less. count_more f a n less off)
  where
    later : (t : Bool) (c : ℕ) → cond t (c + 1 + 1) (c + 1) ≡ cond t (c + 1) c + 1
    later true c = refl
    later false c = refl

    either : (a ≡ n) ⊎ (a ≡ n → ⊥) → (a < n → count_below (λ i. nat_eq a i || f i) n ≡ count_below f n + 1)
        → cond (nat_eq a n || f n) (count_below (λ i. nat_eq a i || f i) n + 1) (count_below (λ i. nat_eq a i || f i) n) ≡ cond (f n) (count_below f n + 1) (count_below f n) + 1
    either (inl same) ih =
        ap (λ t. cond (t || f n) (count_below (λ i. nat_eq a i || f i) n + 1) (count_below (λ i. nat_eq a i || f i) n)) (eq-eqb a n same)
        ∙ ap (λ c. c + 1) (count_same (λ i. nat_eq a i || f i) f n (λ i less. ap (λ t. t || f i) (ne_eqb a i (λ here. omega arith))))
        ∙ ap (λ t. cond t (count_below f n + 1) (count_below f n) + 1) (sym (ap f (sym same) ∙ off))
    either (inr other) ih =
        ap (λ t. cond (t || f n) (count_below (λ i. nat_eq a i || f i) n + 1) (count_below (λ i. nat_eq a i || f i) n)) (ne_eqb a n other)
        ∙ ap (λ c. cond (f n) (c + 1) c) (ih (omega (arith, other))) ∙ later (f n) (count_below f n)

-- one number fewer passes
pub count_less : (f : ℕ → Bool) (a n : ℕ) → a < n → f a ≡ true → count_below (λ i. not (nat_eq a i) && f i) n + 1 ≡ count_below f n
count_less f a zero low on = absurd (omega arith)
count_less f a (suc n) low on = either (cases_eq a n) (λ less. count_less f a n less on)
  where
    later : (t : Bool) (c : ℕ) → cond t (c + 1) c + 1 ≡ cond t (c + 1 + 1) (c + 1)
    later true c = refl
    later false c = refl

    either : (a ≡ n) ⊎ (a ≡ n → ⊥) → (a < n → count_below (λ i. not (nat_eq a i) && f i) n + 1 ≡ count_below f n)
        → cond (not (nat_eq a n) && f n) (count_below (λ i. not (nat_eq a i) && f i) n + 1) (count_below (λ i. not (nat_eq a i) && f i) n) + 1 ≡ cond (f n) (count_below f n + 1) (count_below f n)
    either (inl same) ih =
        ap (λ t. cond (not t && f n) (count_below (λ i. not (nat_eq a i) && f i) n + 1) (count_below (λ i. not (nat_eq a i) && f i) n) + 1) (eq-eqb a n same)
        ∙ ap (λ c. c + 1) (count_same (λ i. not (nat_eq a i) && f i) f n (λ i less. ap (λ t. not t && f i) (ne_eqb a i (λ here. omega arith))))
        ∙ sym (ap (λ t. cond t (count_below f n + 1) (count_below f n)) (ap f (sym same) ∙ on))
    either (inr other) ih =
        ap (λ t. cond (not t && f n) (count_below (λ i. not (nat_eq a i) && f i) n + 1) (count_below (λ i. not (nat_eq a i) && f i) n) + 1) (ne_eqb a n other)
        ∙ later (f n) (count_below (λ i. not (nat_eq a i) && f i) n) ∙ ap (λ c. cond (f n) (c + 1) c) (ih (omega (arith, other)))

-- some number passes exactly if the count isn't 0
pub any_counts : (f : ℕ → Bool) (n : ℕ) → any_below f n ≡ not (nat_eq (count_below f n) 0)
any_counts f zero = refl
any_counts f (suc n) = either (f n) (any_counts f n)
  where
    either : (t : Bool) → any_below f n ≡ not (nat_eq (count_below f n) 0) → (t || any_below f n) ≡ not (nat_eq (cond t (count_below f n + 1) (count_below f n)) 0)
    either true ih = sym (ap not (ne_eqb (count_below f n + 1) 0 (λ same. omega arith)))
    either false ih = ih
