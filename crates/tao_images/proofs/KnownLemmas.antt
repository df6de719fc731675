-- The same known of all nodes gives the same refusals and the same buckets.
use Rattle.std.proofs.Common.{◌≡◌, ℕ, zero, suc, ◌+◌, ◌^◌, ◌<◌, ◌≤◌, ◌*◌, Bool, true, false, not, ◌&&◌, eqb, if◌then◌else◌, List, drop, Option, Some, None, refl, ap, ap₂, ◌∙◌, arith}
use Rattle.std.specs.List.{filter_map, cons_option, range_with_len}
use Rattle.std.specs.Option.{option_or, option_map}
use Rattle.std.proofs.Math.Pow.{pow_mono}
use Rattle.std.proofs.lemmas.Bool.{eqb-true}
use Rattle.std.proofs.lemmas.Nat.{pow-add}
use Rattle.tao_base.specs.Limits.{Shape, slots_len}
use Rattle.tao_base.specs.Tree.{node_at, node_count}
use Rattle.tao_base.specs.declared.storage.BucketFault.TheVariants.{Tag}
use Rattle.tao_base.proofs.TreeLemmas.{one_le_node, node_high}
use Rattle.tao_bucket.specs.Encoding.{format_of}
use Rattle.tao_base.specs.Transfers.{same}
use Rattle.tao_bucket.specs.Reading.{bucket_fault, first_of, read_bucket}
use Rattle.tao_images.specs.declared.nodes.Refused.TheVariants.{Damaged}
use Rattle.tao_images.specs.Nodes.{node_refusal, version_refusal, tag_refusal}
use Rattle.tao_images.specs.Paths.{piece, refusal_at, path_refusal, read_at, buckets_read, IsKnownAlike}

-- a tag counts in format 2 alone
tag_alike : (s : Shape) (format : ℕ) (tag tag' : List ℕ) (node : ℕ) (bytes : List ℕ) → (format ≡ 2 → tag ≡ tag') → tag_refusal s format tag node bytes ≡ tag_refusal s format tag' node bytes
tag_alike s format tag tag' node bytes alike = either (eqb format 2) refl
  where
    either : (two : Bool) → eqb format 2 ≡ two
        → (if two && not (same (drop (slots_len s.z s.b) bytes) tag) then Some (Damaged node Tag) else None) ≡ (if two && not (same (drop (slots_len s.z s.b) bytes) tag') then Some (Damaged node Tag) else None)
    either true e = ap (λ t. if not (same (drop (slots_len s.z s.b) bytes) t) then Some (Damaged node Tag) else None) (alike (eqb-true format 2 e))
    either false e = refl

node_alike : (key : List ℕ) (s : Shape) (version : ℕ) (tag tag' : List ℕ) (node : ℕ) (bytes : List ℕ) → (format_of s.form version ≡ 2 → tag ≡ tag')
    → node_refusal key s version tag node bytes ≡ node_refusal key s version tag' node bytes
unfolding node_refusal
node_alike key s version tag tag' node bytes alike =
    ap (λ o. option_or (option_map (Damaged node) (bucket_fault key s node (format_of s.form version) bytes)) (option_or (version_refusal version node bytes) o))
    (tag_alike s (format_of s.form version) tag tag' node bytes alike)

given_alike : {X : Type 0} (f g : ℕ → Option X) (a n : ℕ) → ((d : ℕ) → a ≤ d → d < a + n → f d ≡ g d) → filter_map f (range_with_len a n) ≡ filter_map g (range_with_len a n)
given_alike f g a zero alike = refl
given_alike f g a (suc n) alike = ap₂ cons_option (alike a (omega arith) (omega arith)) (given_alike f g (a + 1) n (λ d low high. alike d (omega arith) (omega arith)))

-- the nodes of a path are nodes of the tree
pub node_within : (l leaf d : ℕ) → leaf < 2 ^ l → d ≤ l → node_at l leaf d ≤ node_count l
node_within l leaf d small within =
    let high = node_high l leaf d small within in
    let up : d + 1 ≤ l + 1 = omega arith in
    let wide : 2 ^ (d + 1) ≤ 2 ^ (l + 1) = pow_mono up in
    let twice : 2 ^ (d + 1) ≡ 2 ^ d * 2 ^ 1 = pow-add 2 d 1 in
    omega arith

pub same_known : (key : List ℕ) (s : Shape) (skipped skipped' : ℕ → Bool) (version version' : ℕ → ℕ) (tag tag' : ℕ → List ℕ) (leaf : ℕ) (path : List ℕ) → leaf < 2 ^ s.l
    → IsKnownAlike s skipped skipped' version version' tag tag'
    → (path_refusal key s skipped version tag leaf path ≡ path_refusal key s skipped' version' tag' leaf path) × (buckets_read key s skipped leaf path ≡ buckets_read key s skipped' leaf path)
unfolding refusal_at read_at
same_known key s skipped skipped' version version' tag tag' leaf path small alike = (
  ap first_of (given_alike (refusal_at key s skipped version tag leaf path) (refusal_at key s skipped' version' tag' leaf path) 0 (s.l + 1) (λ d low high. refusal d (omega arith))),
  given_alike (read_at key s skipped leaf path) (read_at key s skipped' leaf path) 0 (s.l + 1) (λ d low high. ap (λ skip. if skip then None else Some (read_bucket key s (piece s path d))) (skips d (omega arith))),
)
  where
    skips : (d : ℕ) → d ≤ s.l → skipped (node_at s.l leaf d) ≡ skipped' (node_at s.l leaf d)
    skips d within = alike.skips (node_at s.l leaf d) (one_le_node s.l leaf d) (node_within s.l leaf d small within)

    refusal : (d : ℕ) → d ≤ s.l → refusal_at key s skipped version tag leaf path d ≡ refusal_at key s skipped' version' tag' leaf path d
    refusal d within =
        let w = node_at s.l leaf d in
        let low = one_le_node s.l leaf d in
        let high = node_within s.l leaf d small within in
        ap₂ (λ skip o. if skip then None else o) (skips d within)
        (node_alike key s (version w) (tag w) (tag' w) w (piece s path d) (alike.tags w low high)
        ∙ ap (λ v. node_refusal key s v (tag' w) w (piece s path d)) (alike.versions w low high))
