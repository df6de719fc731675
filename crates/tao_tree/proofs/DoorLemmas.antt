-- Streams at their places, and links for parameters that a tree leads to.
use Rattle.std.proofs.Common.{◌≡◌, ℕ, zero, suc, ◌+◌, ◌-◌, ◌*◌, ◌^◌, ◌<◌, ◌≤◌, Bool, true, false, List, [], ◌∷◌, take, drop, slice_get, slice_set, Some, refl, sym, ap, ap₂, ◌∙◌, subst, arith}
use Rattle.std.proofs.Math.Pow.{pow_mono}
use Rattle.std.proofs.lemmas.Bool.{eqb-true, and_parts}
use Rattle.std.proofs.lemmas.List.{drop-drop, drop-set-lt, take-set-le}
use Rattle.std.proofs.lemmas.Nat.{pow_pos, pow-add}
use Rattle.tao_base.specs.Doors.{IsNewLink}
use Rattle.tao_base.specs.Limits.{Shape, bucket_len}
use Rattle.tao_base.specs.Links.{told}
use Rattle.tao_base.specs.Tree.{node_count}
use Rattle.tao_tree.specs.Doors.{RackState, StreamPair, leads_to, without_first}
use Rattle.tao_tree.specs.Forging.{LinkState}
use Rattle.tao_tree.specs.Nodes.{reach_of}

pub first_waits : {X : Type 0} (xs : List X) (n : ℕ) → slice_get (drop n xs) 0 ≡ slice_get xs n
first_waits [] zero = refl
first_waits [] (suc n) = refl
first_waits (x ∷ xs) zero = refl
first_waits (x ∷ xs) (suc n) = first_waits xs n

-- the first stream that waits is taken out of its place
pub next_taken : (a r : ℕ) (xs ys : List StreamPair) (old : RackState) (blank : StreamPair)
    → record { accepted = a; returned = r; waiting = drop a xs; back = take r xs } ≡ old → r ≤ a → ys ≡ slice_set xs a blank
    → record { accepted = a + 1; returned = r; waiting = drop (a + 1) ys; back = take r ys } ≡ without_first old
next_taken a r xs ys old blank view within set =
    let waiting : drop (a + 1) ys ≡ drop 1 (drop a xs) = ap (drop (a + 1)) set ∙ drop-set-lt (a + 1) xs a blank (omega arith) ∙ sym (drop-drop 1 a xs) in
    let back : take r ys ≡ take r xs = ap (take r) set ∙ take-set-le r xs a blank within in
    let whole : record { accepted = a + 1; returned = r; waiting = drop (a + 1) ys; back = take r ys } ≡ record { accepted = a + 1; returned = r; waiting = drop 1 (drop a xs); back = take r xs } =
    ap₂ (λ (w b : List StreamPair). let taken : RackState = record { accepted = a + 1; returned = r; waiting = w; back = b } in taken) waiting back in
    whole ∙ ap without_first view

-- a tree that is no lower has more nodes only where it is higher
pub no_higher : (a b : ℕ) → node_count b ≤ node_count a → a < b → ⊥
no_higher a b few higher =
    let up : 2 ^ (a + 1 + 1) ≤ 2 ^ (b + 1) = pow_mono (omega arith) in
    let twice : 2 ^ (a + 1 + 1) ≡ 2 ^ (a + 1) * 2 ^ 1 = pow-add 2 (a + 1) 1 in
    let some = pow_pos (a + 1) in
    omega arith

-- trees with as many nodes are as high
pub same_height : (a b : ℕ) → node_count a ≡ node_count b → a ≡ b
same_height a b same =
    let low = no_higher a b (omega arith) in
    let high = no_higher b a (omega arith) in
    omega (arith, low, high)

pub true_else : (b : Bool) → (b ≡ false → ⊥) → b ≡ true
true_else true h = refl
true_else false h = absurd (h refl)

-- a new link to a tree that has the wanted nodes and bucket length is one for these parameters
pub new_link_for : (s p : Shape) (link : LinkState) → (leads_to s p ≡ false → ⊥) → link.shape ≡ s → link.faults ≡ 0 → link.told ≡ told [] [] []
    → IsNewLink (λ near. reach_of near.shape) (λ near. near.faults) (λ near. Some near.told) p link
new_link_for s p link leads shape unfailed untold =
    let both = and_parts _ _ (true_else (leads_to s p) leads) in
    let nodes : node_count s.l ≡ node_count p.l = eqb-true _ _ both.0 in
    let height : link.shape.l ≡ p.l = ap (λ x. x.l) shape ∙ same_height s.l p.l nodes in
    let most : node_count link.shape.l ≡ node_count p.l = ap node_count height in
    record {
      for_store = record { height = height; bucket_len = ap bucket_len shape ∙ eqb-true _ _ both.1; most = omega arith };
      unfailed = unfailed;
      untold = untold;
    }
