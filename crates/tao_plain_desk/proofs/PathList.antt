-- A path as a list: it rises, and it is what the nodes of the tree have of it.
use Rattle.std.proofs.Common.{◌≡◌, ℕ, zero, suc, ◌+◌, ◌*◌, ◌^◌, ◌<◌, ◌≤◌, Bool, false, cond, List, [], ◌∷◌, map, filter, refl, sym, ap, ap₂, ◌∙◌, subst, arith, inl, inr, ◌⊎◌, nat_eq}
use Rattle.std.specs.List.{range_with_len, list_any}
use Rattle.std.proofs.lemmas.Bool.{ne_eqb, eq-eqb, cases_eq}
use Rattle.tao_base.specs.Tree.{node_at, node_count, path, is_on_path}
use Rattle.std.proofs.lemmas.Nat.{pow_pos, pow-add}
use Rattle.tao_base.proofs.TreeLemmas.{node_low, node_high}

-- the numbers rise from a on and stay below b
abbrev pub Climbs : ℕ → ℕ → List ℕ → Type 0
Climbs a b [] = a ≤ b
Climbs a b (x ∷ xs) = (a ≤ x) × Climbs (x + 1) b xs

abbrev has : List ℕ → ℕ → Bool
has xs w = list_any (nat_eq w) xs

pub filter_same : (f g : ℕ → Bool) (a n : ℕ) → ((w : ℕ) → a ≤ w → f w ≡ g w) → filter f (range_with_len a n) ≡ filter g (range_with_len a n)
filter_same f g a zero same = refl
filter_same f g a (suc n) same = rw (same a (omega arith)) (ap (λ rest. cond (g a) (a ∷ rest) rest) (filter_same f g (a + 1) n (λ w h. same w (omega arith))))

-- the numbers from a on that a rising list has are that list
pub filter_has : (xs : List ℕ) (a n : ℕ) → Climbs a (a + n) xs → filter (has xs) (range_with_len a n) ≡ xs
filter_has [] a n h = filter_none a n
  where
    filter_none : (a n : ℕ) → filter (has []) (range_with_len a n) ≡ []
    filter_none a zero = refl
    filter_none a (suc n) = filter_none (a + 1) n
filter_has (x ∷ xs) a zero h = absurd (none xs (x + 1) (h.1) (omega (arith, h.0)))
  where
    none : (xs : List ℕ) (b : ℕ) → Climbs b (a + 0) xs → a < b → ⊥
    none [] b k less = omega arith
    none (y ∷ ys) b k less = none ys (y + 1) k.1 (let low = k.0 in omega arith)
filter_has (x ∷ xs) a (suc n) h = either (cases_eq a x) (filter_has xs (a + 1) n) (filter_has (x ∷ xs) (a + 1) n)
  where
    sum : a + suc n ≡ a + 1 + n
    sum = omega arith

    either : (a ≡ x) ⊎ (a ≡ x → ⊥) → (Climbs (a + 1) (a + 1 + n) xs → filter (has xs) (range_with_len (a + 1) n) ≡ xs)
        → (Climbs (a + 1) (a + 1 + n) (x ∷ xs) → filter (has (x ∷ xs)) (range_with_len (a + 1) n) ≡ x ∷ xs)
        → filter (has (x ∷ xs)) (range_with_len a (suc n)) ≡ x ∷ xs
    either (inl here) this skip =
        rw (eq-eqb a x here) (ap₂ (λ y ys. y ∷ ys) here
        (filter_same (has (x ∷ xs)) (has xs) (a + 1) n (λ w k. rw (ne_eqb w x (λ same. omega arith)) refl)
        ∙ this (subst (λ y. Climbs (y + 1) (a + 1 + n) xs) (sym here) (subst (λ b. Climbs (x + 1) b xs) sum h.1))))
    either (inr other) this skip =
        rw (ne_eqb a x other, absent xs (x + 1) (a + suc n) h.1 (let low = h.0 in omega arith))
        (skip (let low = h.0 in (omega (arith, other), subst (λ b. Climbs (x + 1) b xs) sum h.1)))
      where
        absent : (xs : List ℕ) (b c : ℕ) → Climbs b c xs → a < b → has xs a ≡ false
        absent [] b c k less = refl
        absent (y ∷ ys) b c k less = let low = k.0 in rw (ne_eqb a y (λ same. omega arith)) (absent ys (y + 1) c k.1 (omega arith))

climbs_lower : (a b c : ℕ) (xs : List ℕ) → a ≤ b → Climbs b c xs → Climbs a c xs
climbs_lower a b c [] le h = omega arith
climbs_lower a b c (x ∷ xs) le h = (let low = h.0 in omega arith, h.1)

-- a path rises, since each depth has numbers of its own
climbs_from : (l leaf depth n : ℕ) → leaf < 2 ^ l → depth + n ≡ l + 1 → Climbs (2 ^ depth) (node_count l + 1) (map (node_at l leaf) (range_with_len depth n))
climbs_from l leaf depth zero small sum =
    let e : depth ≡ l + 1 = omega arith in let some = pow_pos (l + 1) in let same : 2 ^ depth ≡ 2 ^ (l + 1) = ap (λ d. 2 ^ d) e in omega arith
climbs_from l leaf depth (suc n) small sum =
    let high : node_at l leaf depth < 2 * 2 ^ depth = node_high l leaf depth small (omega arith) in
    let twice : 2 ^ (depth + 1) ≡ 2 ^ depth * 2 ^ 1 = pow-add 2 depth 1 in (
      node_low l leaf depth (omega arith),
      climbs_lower (node_at l leaf depth + 1) (2 ^ (depth + 1)) (node_count l + 1) (map (node_at l leaf) (range_with_len (depth + 1) n)) (omega arith)
          (climbs_from l leaf (depth + 1) n small (omega arith)),
    )

pub path_climbs : (l leaf : ℕ) → leaf < 2 ^ l → Climbs 1 (1 + node_count l) (path l leaf)
path_climbs l leaf small = subst (λ b. Climbs 1 b (path l leaf)) (omega arith) (climbs_from l leaf 0 (l + 1) small (omega arith))

-- the nodes of the tree that are on a path, rising, are the path
pub path_filter : (l leaf : ℕ) → leaf < 2 ^ l → filter (λ w. is_on_path l leaf w) (range_with_len 1 (node_count l)) ≡ path l leaf
path_filter l leaf small = filter_has (path l leaf) 1 (node_count l) (path_climbs l leaf small)
