-- What several reads and writes did, one after another; and bytes that are the same.
use Rattle.std.proofs.Common.{◌≡◌, ℕ, ◌==◌, ◌+◌, ◌-◌, ◌≤◌, true, ◌&&◌, List, [], ◌∷◌, ◌++◌, length, take, drop, Option, refl, sym, ap, ap₂, ◌∙◌, subst, arith, length-take}
use Rattle.std.proofs.lemmas.List.{take-take, take-append-le, length-take-le, length-append}
use Rattle.std.proofs.lemmas.Bool.{eqb-true, eq-eqb, and_parts, false≢true}
use Rattle.std.proofs.Math.Seq.{take-add, take-append-add}
use Rattle.std.specs.Io.KnownBytes.{Appends, Consumes}
use Rattle.std.proofs.KnownBytes.{Appends-trans, Consumes-trans}
use borrow.Rule.Slice.PartMut.{put_mid, post_of}
use Rattle.tao_base.specs.Causes.{Rose}
use Rattle.tao_base.specs.Transfers.{PutsAll, PutsPart, same}

-- a write of some of the bytes behind `at` makes the prefix that was put longer
pub put_more : {K : Type 0} (put : K → Option (List ℕ)) (faults : K → ℕ) (a b c : K) (at n : ℕ) (bytes : List ℕ) → PutsAll put faults a b (take at bytes)
    → n ≤ length (take (length bytes - at) (drop at bytes)) → Appends (put b) (put c) (take n (take (length bytes - at) (drop at bytes)))
    → faults c ≡ faults b → PutsAll put faults a c (take (at + n) bytes)
put_more put faults a b c at n bytes front within more kept =
    let n_left : n ≤ length bytes - at = omega (arith, length-take (length bytes - at) (drop at bytes)) in
    let joined : take at bytes ++ take n (take (length bytes - at) (drop at bytes)) ≡ take (at + n) bytes =
    ap (λ rest. take at bytes ++ rest) (take-take n (length bytes - at) (drop at bytes) n_left) ∙ sym (take-add at n bytes) in
    record {
      whole = subst (Appends (put a) (put c)) joined (Appends-trans _ _ _ _ _ front.whole more);
      unfailed = kept ∙ front.unfailed;
    }

module _ {K : Type 0} (put : K → Option (List ℕ)) (faults : K → ℕ) where
  -- one text and then another
  pub puts_then : (a b c : K) (x y : List ℕ) → PutsAll put faults a b x → PutsAll put faults b c y → PutsAll put faults a c (x ++ y)
  puts_then a b c x y one two = record { whole = Appends-trans _ _ _ _ _ one.whole two.whole; unfailed = two.unfailed ∙ one.unfailed }

  -- a part of the first text
  pub part_of_more : (a b : K) (x y : List ℕ) → PutsPart put faults a b x → PutsPart put faults a b (x ++ y)
  part_of_more a b x y p =
      let short = p.short in
      record {
        part = p.part;
        short = omega (arith, length-append x y);
        front = subst (Appends (put a) (put b)) (sym (take-append-le p.part x y (omega arith))) p.front;
        rose = p.rose;
      }

  -- the first text, and a part of the second
  pub part_then : (a b c : K) (x y : List ℕ) → PutsAll put faults a b x → PutsPart put faults b c y → PutsPart put faults a c (x ++ y)
  part_then a b c x y one p =
      let short = p.short in
      record {
        part = length x + p.part;
        short = omega (arith, length-append x y);
        front = subst (Appends (put a) (put c)) (sym (take-append-add x y p.part)) (Appends-trans _ _ _ _ _ one.whole p.front);
        rose = subst (λ before. Rose before (faults c)) one.unfailed p.rose;
      }

-- a read of some bytes behind `at` makes the prefix of the room that came longer
pub fill_more : (a b c : Option (List ℕ)) (at n k : ℕ) (room part : List ℕ) → at ≤ length room → n ≤ length part → Consumes a b (take at room) → Consumes b c (take n part)
    → (at + n ≤ length (put_mid at k room part)) × Consumes a c (take (at + n) (put_mid at k room part))
fill_more a b c at n k room part within few before more =
    let long : length (take at room) ≡ at = length-take-le at room within in
    let rest = post_of at k room in
    let size : length (put_mid at k room part) ≡ at + (length part + length rest) = length-append (take at room) (part ++ rest) ∙ ap₂ (λ m n. m + n) long (length-append part rest) in
    let front : take (at + n) (put_mid at k room part) ≡ take at room ++ take n part =
    ap (λ m. take (m + n) (put_mid at k room part)) (sym long) ∙ take-append-add (take at room) (part ++ rest) n ∙ ap (λ ys. take at room ++ ys) (take-append-le n part rest few) in
    (omega arith, subst (Consumes a c) (sym front) (Consumes-trans a b c (take at room) (take n part) before more))

pub same_true : (xs ys : List ℕ) → same xs ys ≡ true → xs ≡ ys
same_true [] [] h = refl
same_true [] (y ∷ ys) h = absurd (false≢true h)
same_true (x ∷ xs) [] h = absurd (false≢true h)
same_true (x ∷ xs) (y ∷ ys) h = let both = and_parts (x == y) (same xs ys) h in ap₂ (λ a b. a ∷ b) (eqb-true x y both.0) (same_true xs ys both.1)

pub same_self : (xs : List ℕ) → same xs xs ≡ true
same_self [] = refl
same_self (x ∷ xs) = ap₂ (λ a b. a && b) (eq-eqb x x refl) (same_self xs)
