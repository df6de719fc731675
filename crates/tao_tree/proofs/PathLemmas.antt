-- A path that is read bucket after bucket, and the nodes of an empty tree.
use Rattle.std.proofs.Common.{◌≡◌, ℕ, zero, suc, ◌+◌, ◌-◌, ◌*◌, ◌<◌, ◌≤◌, List, [], ◌∷◌, ◌++◌, length, map, take, replicate, slice_index_or, Option, None, refl, sym, ap, ap₂, ◌∙◌, arith, append-nil, add-one}
use Rattle.std.specs.List.{flat_map, range_with_len}
use Rattle.std.proofs.lemmas.List.FromFn.{map-range_with_len_more}
use Rattle.std.proofs.lemmas.Grind.{flat_map-append}
use Rattle.std.proofs.lemmas.Slice.{take-put_mid}
use Rattle.std.proofs.Math.Nat.{suc-mul}
use borrow.Rule.Slice.PartMut.{put_mid}
use Rattle.tao_base.specs.Tree.{node_at}
use Rattle.tao_tree.specs.Nodes.{TreeState, Held, bytes_at}
use Rattle.tao_tree.proofs.Places.{place_within}

-- one more bucket of the path
pub path_more : (tree : TreeState) (l leaf depth n len : ℕ) (out part : List ℕ) → n ≡ len → depth < l + 1 → length out ≡ (l + 1) * len → length part ≡ len
    → take (depth * len) out ≡ flat_map (bytes_at tree) (map (node_at l leaf) (range_with_len 0 depth)) → part ≡ bytes_at tree (node_at l leaf depth)
    → take ((depth + 1) * len) (put_mid (depth * n) (depth * n + n - depth * n) out part) ≡ flat_map (bytes_at tree) (map (node_at l leaf) (range_with_len 0 (depth + 1)))
path_more tree l leaf depth n len out part same below all long before read =
    let within : depth * len + len ≤ length out = place_within len depth (l + 1) (length out) below all in
    let k : depth * len + len - depth * len ≡ len = omega arith in
    let next : (depth + 1) * len ≡ depth * len + len = rw add-one (suc-mul depth len) in
    ap (λ m. take ((depth + 1) * len) (put_mid (depth * m) (depth * m + m - depth * m) out part)) same
    ∙ ap₂ (λ a b. take a (put_mid (depth * len) b out part)) next k
    ∙ take-put_mid (depth * len) len out part (depth * len + len) (omega arith) (omega arith)
    ∙ ap₂ ◌++◌ before read
    ∙ sym
    (ap (flat_map (bytes_at tree)) (map-range_with_len_more (node_at l leaf) 0 depth depth (omega arith))
    ∙ flat_map-append (bytes_at tree) (map (node_at l leaf) (range_with_len 0 depth)) (node_at l leaf depth ∷ [])
    ∙ ap (λ b. flat_map (bytes_at tree) (map (node_at l leaf) (range_with_len 0 depth)) ++ b) (append-nil (bytes_at tree (node_at l leaf depth))))

pub none_at : (n i : ℕ) → slice_index_or {A = Option Held} (replicate n None) i None ≡ None
none_at zero i = refl
none_at (suc n) zero = refl
none_at (suc n) (suc i) = none_at n i
