-- Entries with the first ids are in form.
use Rattle.std.proofs.Common.{◌≡◌, ℕ, ◌+◌, ◌^◌, ◌<◌, ◌≤◌, List, length, get_or, map, arith}
use Rattle.std.specs.List.{All}
use Rattle.std.proofs.Math.Pow.{pow_mono}
use Rattle.std.proofs.lemmas.List.{get_or-map, length-map}
use Rattle.tao_base.specs.Limits.{Shape}
use Rattle.tao_base.specs.Tree.{node_count}
use Rattle.tao_base.specs.declared.storage.Entry.{Entry}
use Rattle.tao_base.specs.Buckets.{AreInForm}
use Rattle.tao_bucket.specs.Encoding.{HasBlock, id_of}
use Rattle.tao_bucket.proofs.Rising.{rises_all}

pub first_ids : (s : Shape) (es : List Entry) (d : Entry) → s.z ≤ s.n → length es ≡ s.z → ((k : ℕ) (d : Entry) → k < length es → (get_or es k d).id ≡ k) → All (HasBlock s.b) es → AreInForm s es
first_ids s es d enough count ids values = record {
  few = omega arith;
  rising = rises_all es (
      λ k within.
      let len : length (map id_of es) ≡ length es = length-map es id_of in
      let low = get_or-map id_of es k d 0 (omega arith) in
      let high = get_or-map id_of es (k + 1) d 0 (omega arith) in
      let k_in : k < length es = omega arith in
      let next_in : k + 1 < length es = omega arith in
      omega (arith, low, high, ids k d k_in, ids (k + 1) d next_in));
  ids = λ k e within. omega (arith, ids k e within);
  values = values;
}

pub root_within : (l : ℕ) → 1 ≤ node_count l
root_within l = let most : 2 ^ 1 ≤ 2 ^ (l + 1) = pow_mono {i = 1} {j = l + 1} (omega arith) in omega arith
