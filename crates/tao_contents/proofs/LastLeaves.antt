-- Which contents are of a tree of height 2.
use Rattle.std.proofs.Common.{◌≡◌, ℕ, ◌<◌, ◌≤◌, Bool, true, false, cond, List, [], ◌∷◌, length, refl, ap, arith, nat_eq}
use Rattle.std.proofs.lemmas.Bool.{ne_eqb, leb-true, ltb-true}
use Rattle.tao_base.specs.declared.storage.Entry.{Entry}
use Rattle.tao_base.specs.Buckets.{Rises}
use Rattle.tao_model.specs.Worked.{entry, zero}
use Rattle.tao_contents.specs.Counting.{AreOfTree}
use Rattle.tao_contents.specs.WorkedTrees.{only_at, TreesAreTold}

either_rises : (t : Bool) (entries : List Entry) → Rises 0 entries → Rises 0 (cond t entries [])
either_rises true entries rises = rises
either_rises false entries rises = tt

of_tree : (node : ℕ) (entries : List Entry) → node ≤ 7 → Rises 0 entries → AreOfTree 2 (only_at node entries)
of_tree node entries low rises = record {
  rises = λ w. either_rises (nat_eq w node) entries rises;
  within = λ w past. let high : 7 < w = past in ap (λ t. cond t entries []) (ne_eqb w node (λ same. omega arith));
}

two_rise : Rises 0 (entry 0 zero ∷ entry 1 zero ∷ [])
two_rise = (leb-true 0 0 refl, (leb-true 1 1 refl, tt))

pub trees_are_told : TreesAreTold
trees_are_told = record {
  stash = of_tree 0 (entry 0 zero ∷ entry 1 zero ∷ []) (leb-true 0 7 refl) two_rise;
  last_leaf = of_tree 7 (entry 0 zero ∷ entry 1 zero ∷ []) (leb-true 7 7 refl) two_rise;
  past = λ is. let no : 1 ≡ 0 = ap length (is.within 8 (ltb-true 7 8 refl)) in omega arith;
  falls = λ is. let rises : Rises 0 (entry 1 zero ∷ entry 0 zero ∷ []) = is.rises 7 in let no : 2 ≤ 0 = rises.1.0 in omega arith;
}
