-- Pieces of work in order: one more, and no version twice.
use Rattle.std.proofs.Common.{◌≡◌, ◌≢◌, ℕ, zero, suc, ◌+◌, ◌-◌, ◌<◌, ◌≤◌, eqb, List, [], ◌∷◌, ◌++◌, map, length, get_or, take, drop, refl, sym, ap, ◌∙◌, subst, arith, length-append, eq-eqb, ne_eqb}
use mathlib.Core.Logic.{dite}
use native.Mathlib.Decide.{dec_le, ℕ_discrete}
use Rattle.std.specs.Prelude.{Some, cond, Bool, slice_get}
use Rattle.std.specs.List.{All, AllPairs}
use Rattle.std.proofs.Math.Seq.{take-add, get_or-append_seam}
use Rattle.std.proofs.lemmas.List.{get_or_append_left, get_or-append-add, map-append, take_all, take-append-drop, length-drop, drop-drop}
use Rattle.std.proofs.lemmas.List.Elements.{All-append}
use Rattle.std.proofs.lemmas.List.Sums.{sum_by-append}
use Rattle.std.proofs.lemmas.Option.{none-some, same_Some}
use Rattle.tao_orders.specs.Works.{number_of, IsNumbered, MayFollow, MayPut, IsInOrder, times}
use Rattle.tao_orders.specs.declared.work.Work.{Work}
use Rattle.tao_orders.specs.declared.work.Work.TheVariants.{Order, Stop}

pub nothing_added : (k : ℕ) → 0 + k ≡ k
nothing_added k = omega arith

pub times-append : (n : ℕ) (ms ns : List ℕ) → times n (ms ++ ns) ≡ times n ms + times n ns
times-append n ms ns = sum_by-append (λ m. cond (eqb m n) 1 0) ms ns

times_first : (n m : ℕ) (ms : List ℕ) → times n (m ∷ ms) ≡ cond (eqb m n) 1 0 + times n ms
times_first n m ms = times-append n (m ∷ []) ms ∙ ap (λ (k : ℕ). k + times n ms) (nothing_added (cond (eqb m n) 1 0))

-- how often a number stands in two lists of works
pub numbers-append : (n : ℕ) (first second : List Work) → times n (map number_of (first ++ second)) ≡ times n (map number_of first) + times n (map number_of second)
numbers-append n first second = ap (times n) (map-append number_of first second) ∙ times-append n (map number_of first) (map number_of second)

-- and in one with a piece more
pub numbers_more : (n : ℕ) (works : List Work) (work : Work) → times n (map number_of (works ++ work ∷ [])) ≡ times n (map number_of works) + times n (number_of work ∷ [])
numbers_more n works work = numbers-append n works (work ∷ [])

-- the numbers of a prefix of the works are among those of all
pub fewer_times : (n : ℕ) (gone rest : List Work) → times n (map number_of gone) ≤ times n (map number_of (gone ++ rest))
fewer_times n gone rest =
    let e = numbers-append n gone rest in omega arith

pub one_all : {X : Type 0} (P : X → Type 0) (x : X) → P x → All P (x ∷ [])
one_all P x p zero d lt = p
one_all P x p (suc k) d lt = absurd (omega arith)

pairs_more : {X : Type 0} (R : X → X → Type 0) (xs : List X) (x : X) → AllPairs R xs → All (λ y. R y x) xs → AllPairs R (xs ++ x ∷ [])
pairs_more {X} R xs x pairs all i j d lt within =
    let n : length (xs ++ x ∷ []) ≡ length xs + 1 = length-append xs (x ∷ []) in
    let first : get_or (xs ++ x ∷ []) i d ≡ get_or xs i d = get_or_append_left xs (x ∷ []) d i (omega arith) in
    dite (dec_le (suc j) (length xs))
    (λ inside. subst (λ (z : X × X). R z.0 z.1) (λ k. (sym first k, sym (get_or_append_left xs (x ∷ []) d j inside) k)) (pairs i j d lt inside))
    (λ last. let at_end : j ≡ length xs + 0 = omega arith in
    let second : get_or (xs ++ x ∷ []) j d ≡ x = ap (λ (k : ℕ). get_or (xs ++ x ∷ []) k d) at_end ∙ get_or-append-add xs (x ∷ []) 0 d in
    subst (λ (z : X × X). R z.0 z.1) (λ k. (sym first k, sym second k)) (all i d (omega arith)))

pub one_more : (works : List Work) (work : Work) → IsInOrder works → MayPut works work → IsInOrder (works ++ work ∷ [])
one_more works work h may = (All-append IsNumbered works (work ∷ []) h.0 (one_all IsNumbered work may.0), pairs_more MayFollow works work h.1 may.1)

-- no piece that may follow an order has its version
not_again : (first second : Work) (n : ℕ) → 1 ≤ n → number_of first ≡ n → MayFollow first second → number_of second ≢ n
not_again (Order p) (Order q) n some e lt e' = omega arith
not_again Stop (Order q) n some e bad e' = bad
not_again (Order p) Stop n some e lt e' = omega arith
not_again Stop Stop n some e lt e' = omega arith

none_later : (first : Work) (n : ℕ) (works : List Work) → 1 ≤ n → number_of first ≡ n → All (MayFollow first) works → times n (map number_of works) ≡ 0
none_later first n [] some e all = refl
none_later first n (w ∷ ws) some e all =
    let rest = none_later first n ws some e (λ k d lt. all (suc k) d (omega arith)) in
    let apart : number_of w ≢ n = not_again first w n some e (all 0 w (omega arith)) in
    times_first n (number_of w) (map number_of ws) ∙ (ap (λ (b : Bool). cond b 1 0 + times n (map number_of ws)) (ne_eqb (number_of w) n apart) ∙ (nothing_added (times n (map number_of ws)) ∙ rest))

-- works in order have no version twice
pub once_in_order : (works : List Work) → AllPairs MayFollow works → (n : ℕ) → 1 ≤ n → times n (map number_of works) ≤ 1
once_in_order [] pairs n some = omega arith
once_in_order (w ∷ ws) pairs n some =
    let rest = once_in_order ws (λ i j d lt within. pairs (suc i) (suc j) d (omega arith) (omega arith)) n some in
    let step = times_first n (number_of w) (map number_of ws) in
    dite (ℕ_discrete (number_of w) n)
    (λ same. let none = none_later w n ws some same (λ k d lt. pairs 0 (suc k) d (omega arith) (omega arith)) in
    let e : times n (map number_of (w ∷ ws)) ≡ 1 = step ∙ (ap (λ (b : Bool). cond b 1 0 + times n (map number_of ws)) (eq-eqb (number_of w) n same) ∙ ap (λ (k : ℕ). 1 + k) none) in omega arith)
    (λ apart. let e : times n (map number_of (w ∷ ws)) ≡ times n (map number_of ws) = step ∙ (ap (λ (b : Bool). cond b 1 0 + times n (map number_of ws)) (ne_eqb (number_of w) n apart) ∙ nothing_added (times n (map number_of ws))) in omega arith)

-- the piece after a prefix
pub piece_at : (gone rest : List Work) (w : Work) → slice_get (gone ++ w ∷ rest) (length gone) ≡ Some w
piece_at [] rest w = refl
piece_at (x ∷ gone) rest w = piece_at gone rest w

pub front_is : (gone rest : List Work) → take (length gone) (gone ++ rest) ≡ gone
front_is [] rest = refl
front_is (x ∷ gone) rest = ap (λ l. x ∷ l) (front_is gone rest)

pub piece_within : (works : List Work) (k : ℕ) (w : Work) → slice_get works k ≡ Some w → k < length works
piece_within [] k w e = absurd (none-some w e)
piece_within (x ∷ works) zero w e = omega arith
piece_within (x ∷ works) (suc k) w e = let h = piece_within works k w e in omega arith

-- the first piece from a place on
pub take_one : (works : List Work) (k : ℕ) (w : Work) → slice_get works k ≡ Some w → take 1 (drop k works) ≡ w ∷ []
take_one [] k w e = absurd (none-some w e)
take_one (x ∷ works) zero w e = ap (λ (z : Work). z ∷ []) (same_Some x w e)
take_one (x ∷ works) (suc k) w e = take_one works k w e

pub take_next : (works : List Work) (from n : ℕ) (w : Work) → slice_get works (from + n) ≡ Some w → take n (drop from works) ++ w ∷ [] ≡ take (n + 1) (drop from works)
take_next works from n w e =
    sym (take-add n 1 (drop from works) ∙ (ap (λ l. take n (drop from works) ++ take 1 l) (drop-drop n from works) ∙ ap (λ l. take n (drop from works) ++ l) (take_one works (from + n) w e)))

pub all_taken : (works : List Work) (from n : ℕ) → from + n ≡ length works → take n (drop from works) ≡ drop from works
all_taken works from n e = take_all n (drop from works) (let h : length (drop from works) ≡ length works - from = length-drop from works in omega arith)

pub front_and_rest : (works : List Work) (k : ℕ) → works ≡ take k works ++ drop k works
front_and_rest works k = sym (take-append-drop k works)

newer : (first second : Work) → MayFollow first second → IsNumbered first → 1 ≤ number_of second → (1 ≤ number_of first) × (number_of first < number_of second)
newer (Order p) (Order q) lt some order = (some, lt)
newer Stop (Order q) bad some order = absurd bad
newer (Order p) Stop may some order = absurd (omega arith)
newer Stop Stop may some order = absurd (omega arith)

-- only orders of smaller versions come before an order
pub newer_than : (gone rest : List Work) (w : Work) (n : ℕ) → IsInOrder (gone ++ w ∷ rest) → 1 ≤ number_of w → 1 ≤ times n (map number_of gone) → (1 ≤ n) × (n < number_of w)
newer_than [] rest w n order version stands = absurd (omega arith)
newer_than (g ∷ gone) rest w n order version stands =
    let step = times_first n (number_of g) (map number_of gone) in
    dite (ℕ_discrete (number_of g) n)
    (λ same.
    let within : suc (length gone) < length (g ∷ (gone ++ w ∷ rest)) = let l : length (gone ++ w ∷ rest) ≡ length gone + suc (length rest) = length-append gone (w ∷ rest) in omega arith in
    let may : MayFollow g w = subst (MayFollow g) (get_or-append_seam gone w rest g) (order.1 0 (suc (length gone)) g (omega arith) within) in
    subst (λ (k : ℕ). (1 ≤ k) × (k < number_of w)) same (newer g w may (order.0 0 g (omega arith)) version))
    (λ apart.
    let e : times n (map number_of (g ∷ gone)) ≡ times n (map number_of gone) = step ∙ (ap (λ (b : Bool). cond b 1 0 + times n (map number_of gone)) (ne_eqb (number_of g) n apart) ∙ nothing_added (times n (map number_of gone))) in
    newer_than gone rest w n ((λ k d lt. order.0 (suc k) d (omega arith)), λ i j d lt within. order.1 (suc i) (suc j) d (omega arith) (omega arith)) version (omega arith))
