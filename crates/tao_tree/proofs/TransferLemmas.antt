-- What several reads did, one after another.
use Rattle.std.proofs.Common.{◌≡◌, ◌≢◌, inr, Bool, true, false, nat_eq, MatchBool, ℕ, ◌+◌, ◌<◌, ◌≤◌, List, ◌++◌, length, take, Option, ap, ap₂, ◌∙◌, subst, arith}
use Rattle.std.proofs.lemmas.List.{take_all, length-take-le, length-append}
use Rattle.std.specs.Io.KnownBytes.{Consumes, IsAtEnd}
use Rattle.std.proofs.KnownBytes.{Consumes-trans}
use Rattle.std.specs.Int.{w32, to_be_bytes}
use Rattle.std.proofs.lemmas.Bool.{eqb-true, eqb-false}
use Rattle.tao_base.specs.Transfers.{ConsumesFewer}
use Rattle.tao_tree.specs.Streams.{ConsumesOther}

-- a field, and less than was wanted behind it
pub fewer_behind : (a b c : Option (List ℕ)) (field : List ℕ) (wanted : ℕ) → Consumes a b field → length field ≡ 4 → ConsumesFewer b c wanted → ConsumesFewer a c (4 + wanted)
fewer_behind a b c field wanted first four rest = record {
  came = field ++ rest.came;
  short = let few = rest.short in let size : length (field ++ rest.came) ≡ length field + length rest.came = length-append field rest.came in omega (arith, few);
  taken = Consumes-trans a b c field rest.came first rest.taken;
}

-- less than a longer room
pub fewer_still : (a b : Option (List ℕ)) (wanted more : ℕ) → ConsumesFewer a b wanted → ConsumesFewer a b (wanted + more)
fewer_still a b wanted more c = record { came = c.came; short = let few = c.short in omega (arith, few); taken = c.taken }

-- the field is right, and the content came whole or not
pub received : (a b c : Option (List ℕ)) (field content : List ℕ) (n : ℕ) (whole : Bool) → nat_eq n (length content) ≡ whole → field ≡ to_be_bytes w32 (length content) → Consumes a b field
    → Consumes b c (take n content) → n ≤ length content → (n < length content → IsAtEnd c)
    → MatchBool whole (Consumes a c (to_be_bytes w32 (length content) ++ content)) (ConsumesOther a c (length content))
received a b c field content n true all said before more within ended =
    let every : take n content ≡ content = take_all n content (let e = eqb-true n (length content) all in omega arith) in
    subst (Consumes a c) (ap₂ (λ (xs ys : List ℕ). xs ++ ys) said every) (Consumes-trans a b c field (take n content) before more)
received a b c field content n false short said before more within ended =
    let apart : n ≢ length content = eqb-false n (length content) short in
    let less : n < length content = omega (arith, apart) in
    let four : length field ≡ 4 = ap length said in
    let size : length (field ++ take n content) ≡ 4 + n = length-append field (take n content) ∙ ap₂ (λ m k. m + k) four (length-take-le n content within) in
    record {
      came = field ++ take n content;
      taken = Consumes-trans a b c field (take n content) before more;
      other = inr (omega arith, ended less);
    }
