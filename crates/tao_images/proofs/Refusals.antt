-- What is refused, and what isn't.
use Rattle.std.proofs.Common.{◌≡◌, ℕ, zero, suc, ◌+◌, ◌<◌, ◌≤◌, ◌==◌, Bool, true, false, not, ◌&&◌, eqb, if◌then◌else◌, List, [], drop, Option, Some, None, refl, sym, ap, ap₂, subst, ◌∙◌, arith}
use Rattle.std.specs.List.{filter_map, cons_option, range_with_len}
use Rattle.std.specs.Option.{option_or, option_map}
use Rattle.std.specs.Prelude.{IsSomeAnd}
use Rattle.std.proofs.lemmas.Bool.{eqb-true, eqb-false, eq-eqb, cond-true}
use Rattle.std.proofs.lemmas.Option.{same_Some}
use Rattle.tao_base.specs.Limits.{Shape, IsShape, slots_len}
use Rattle.tao_base.specs.Tree.{node_at}
use Rattle.tao_base.specs.declared.storage.Bucket.{Bucket}
use Rattle.tao_base.specs.declared.storage.BucketFault.{BucketFault}
use Rattle.tao_base.specs.declared.storage.BucketFault.TheVariants.{Tag}
use Rattle.tao_bucket.specs.Encoding.{Encodes, IsWritten, encoded, format_of, tag_of}
use Rattle.tao_base.specs.Transfers.{same}
use Rattle.tao_bucket.specs.Reading.{bucket_fault, first_of, header_version, read_bucket}
use Rattle.tao_bucket.proofs.Firsts.{none_more}
use Rattle.tao_base.proofs.TransferLemmas.{same_true, same_self}
use Rattle.tao_bucket.proofs.Whole.{encoding_again, few_blocks, tag_of_encoded, format_is_written}
use Rattle.tao_images.specs.declared.nodes.Refused.{Refused}
use Rattle.tao_images.specs.declared.nodes.Refused.TheVariants.{Damaged, Stale}
use Rattle.tao_images.specs.Nodes.{Holds, IsRefusalOf, node_refusal, version_refusal, tag_refusal}
use Rattle.tao_images.specs.Paths.{piece, refusal_at, path_refusal}

-- ---- one node

-- format 2 is a format of the store where it is that of a version
pub two_written : (s : Shape) (version : ℕ) → format_of s.form version ≡ 2 → IsWritten s.form 2
two_written s version two = subst (IsWritten s.form) two (format_is_written s.form version)

-- the tag of a bucket in format 2 stands behind the slots
tag_stands : (key : List ℕ) (s : Shape) (version : ℕ) (bucket : Bucket) (bytes : List ℕ) → format_of s.form version ≡ 2 → Encodes key s (format_of s.form version) bucket bytes
    → drop (slots_len s.z s.b) bytes ≡ tag_of key s bucket
tag_stands key s version bucket bytes two is =
    ap (drop (slots_len s.z s.b)) (is.written ∙ ap (λ format. encoded key s format bucket) two) ∙ tag_of_encoded key s bucket (two_written s version two) is.entries

tag_fits : (s : Shape) (format : ℕ) (tag : List ℕ) (node : ℕ) (bytes : List ℕ) → (format ≡ 2 → drop (slots_len s.z s.b) bytes ≡ tag) → tag_refusal s format tag node bytes ≡ None
tag_fits s format tag node bytes fits = either (eqb format 2) refl
  where
    either : (two : Bool) → eqb format 2 ≡ two → (if two && not (same (drop (slots_len s.z s.b) bytes) tag) then Some (Damaged node Tag) else None) ≡ None
    either true e =
        ap (λ t. if not (same t tag) then Some (Damaged node Tag) else None) (fits (eqb-true format 2 e))
        ∙ ap (λ t. if not t then Some (Damaged node Tag) else None) (same_self tag)
    either false e = refl

-- bytes that hold a bucket of the latest write are not refused
pub none_refused : (key : List ℕ) (s : Shape) (version : ℕ) (tag : List ℕ) (node : ℕ) (bytes : List ℕ) (bucket : Bucket) → IsShape s
    → Holds key s version tag node bytes bucket → node_refusal key s version tag node bytes ≡ None
unfolding node_refusal
none_refused key s version tag node bytes bucket shape is =
    let format = format_of s.form version in
    let again = encoding_again key s format bucket bytes (few_blocks s shape) is.encoded in
    let fault : bucket_fault key s node format bytes ≡ None = subst (λ w. bucket_fault key s w format bytes ≡ None) is.node again.0 in
    let found : header_version bytes ≡ version = ap (λ b. b.version) again.1 ∙ is.version in
    let tagged : format ≡ 2 → drop (slots_len s.z s.b) bytes ≡ tag =
    λ two. tag_stands key s version bucket bytes two is.encoded ∙ is.tagged two
    in
    ap₂ option_or (ap (option_map (Damaged node)) fault)
    (ap₂ option_or (cond-true _ None (Some (Stale node version (header_version bytes))) (eq-eqb (header_version bytes) version found)) (tag_fits s format tag node bytes tagged))

-- what is read without a refusal is a bucket of the latest write
pub held_by : (key : List ℕ) (s : Shape) (version : ℕ) (tag : List ℕ) (node : ℕ) (bytes : List ℕ) (held : Option Bucket) → held ≡ Some (read_bucket key s bytes)
    → IsSomeAnd held (λ bucket. (bucket.node ≡ node) × Encodes key s (format_of s.form version) bucket bytes) → header_version bytes ≡ version
    → (format_of s.form version == 2 && not (same (drop (slots_len s.z s.b) bytes) tag)) ≡ false → IsSomeAnd held (Holds key s version tag node bytes)
held_by key s version tag node bytes None value found here tagged = absurd cc
held_by key s version tag node bytes (Some bucket) value found here tagged = record {
  node = found.0;
  version = ap (λ b. b.version) (same_Some bucket (read_bucket key s bytes) value) ∙ here;
  encoded = found.1;
  tagged = λ two.
      sym (tag_stands key s version bucket bytes two found.1)
      ∙ same_true (drop (slots_len s.z s.b) bytes) tag (own (format_of s.form version == 2) (same (drop (slots_len s.z s.b) bytes) tag) (eq-eqb (format_of s.form version) 2 two) tagged);
}
  where
    own : (two equal : Bool) → two ≡ true → (two && not equal) ≡ false → equal ≡ true
    own two true is none = refl
    own true false is none = let t : true ≡ false = none in absurd cc
    own false false is none = let t : false ≡ true = is in absurd cc

-- ---- a path

-- none of these numbers gives anything
pub none_of : {X : Type 0} (f : ℕ → Option X) (z : ℕ) → ((k : ℕ) → k < z → f k ≡ None) → filter_map f (range_with_len 0 z) ≡ []
none_of f zero each = refl
none_of f (suc z) each =
    let count : z + 1 ≡ suc z = omega arith in
    rw count at (none_more f z (none_of f z (λ k within. each k (omega arith))) (each z (omega arith)))

-- the first that a range gives is given by one of its numbers
pub given_by : {X : Type 0} (f : ℕ → Option X) (a n : ℕ) (x : X) → first_of (filter_map f (range_with_len a n)) ≡ Some x → (d : ℕ) × (a ≤ d) × (d < a + n) × (f d ≡ Some x)
given_by f a zero x e = absurd cc
given_by {X} f a (suc n) x e = here (given_by f (a + 1) n x) (f a) refl e
  where
    here : (first_of (filter_map f (range_with_len (a + 1) n)) ≡ Some x → (d : ℕ) × (a + 1 ≤ d) × (d < a + 1 + n) × (f d ≡ Some x)) → (o : Option X) → f a ≡ o
        → first_of (cons_option o (filter_map f (range_with_len (a + 1) n))) ≡ Some x → (d : ℕ) × (a ≤ d) × (d < a + suc n) × (f d ≡ Some x)
    here later None is first = let found = later first in let low = found.1 in let high = found.2 in (found.0, omega arith, omega arith, found.3)
    here later (Some y) is first = (a, omega arith, omega arith, is ∙ first)

pub path_taken : (key : List ℕ) (s : Shape) (skipped : ℕ → Bool) (version : ℕ → ℕ) (tag : ℕ → List ℕ) (leaf : ℕ) (path : List ℕ) → IsShape s
    → ((d : ℕ) → d ≤ s.l → skipped (node_at s.l leaf d) ≡ false
    → (bucket : Bucket) × Holds key s (version (node_at s.l leaf d)) (tag (node_at s.l leaf d)) (node_at s.l leaf d) (piece s path d) bucket)
    → path_refusal key s skipped version tag leaf path ≡ None
unfolding refusal_at
path_taken key s skipped version tag leaf path shape holds =
    ap first_of (none_of (refusal_at key s skipped version tag leaf path) (s.l + 1) (λ d within. either d (omega arith) (skipped (node_at s.l leaf d)) refl))
  where
    either : (d : ℕ) → d ≤ s.l → (skip : Bool) → skipped (node_at s.l leaf d) ≡ skip
        → (if skip then None else node_refusal key s (version (node_at s.l leaf d)) (tag (node_at s.l leaf d)) (node_at s.l leaf d) (piece s path d)) ≡ None
    either d within true e = refl
    either d within false e =
        let here = holds d within e in
        none_refused key s (version (node_at s.l leaf d)) (tag (node_at s.l leaf d)) (node_at s.l leaf d) (piece s path d) here.0 shape here.1

-- a refusal is of its node
of_node : (key : List ℕ) (s : Shape) (version : ℕ) (tag : List ℕ) (node : ℕ) (bytes : List ℕ) (refused : Refused)
    → node_refusal key s version tag node bytes ≡ Some refused → IsRefusalOf node version refused
unfolding node_refusal
of_node key s version tag node bytes refused e =
    damaged (bucket_fault key s node (format_of s.form version) bytes) e
  where
    tagged : (wrong : Bool) → (if wrong then Some (Damaged node Tag) else None) ≡ Some refused → IsRefusalOf node version refused
    tagged true is = subst (IsRefusalOf node version) (same_Some (Damaged node Tag) refused is) refl
    tagged false is = absurd cc

    stale : (b : Bool) → eqb (header_version bytes) version ≡ b
        → option_or (if b then None else Some (Stale node version (header_version bytes))) (tag_refusal s (format_of s.form version) tag node bytes) ≡ Some refused → IsRefusalOf node version refused
    stale true equal is = tagged (eqb (format_of s.form version) 2 && not (same (drop (slots_len s.z s.b) bytes) tag)) is
    stale false other is = subst (IsRefusalOf node version) (same_Some (Stale node version (header_version bytes)) refused is) (refl, refl, eqb-false (header_version bytes) version other)

    damaged : (o : Option BucketFault) → option_or (option_map (Damaged node) o) (option_or (version_refusal version node bytes) (tag_refusal s (format_of s.form version) tag node bytes)) ≡ Some refused → IsRefusalOf node version refused
    damaged None is = stale (eqb (header_version bytes) version) refl is
    damaged (Some fault) is = subst (IsRefusalOf node version) (same_Some (Damaged node fault) refused is) refl

pub refused_node : (key : List ℕ) (s : Shape) (skipped : ℕ → Bool) (version : ℕ → ℕ) (tag : ℕ → List ℕ) (leaf : ℕ) (path : List ℕ) (refused : Refused)
    → path_refusal key s skipped version tag leaf path ≡ Some refused
    → (d : ℕ) × (d ≤ s.l) × (skipped (node_at s.l leaf d) ≡ false) × IsRefusalOf (node_at s.l leaf d) (version (node_at s.l leaf d)) refused
unfolding refusal_at
refused_node key s skipped version tag leaf path refused e =
    let found = given_by (refusal_at key s skipped version tag leaf path) 0 (s.l + 1) refused e in
    let node = node_at s.l leaf found.0 in
    let both = either (skipped node) (node_refusal key s (version node) (tag node) node (piece s path found.0)) found.3 in
    (found.0, omega (arith, found.2), both.0, of_node key s (version node) (tag node) node (piece s path found.0) refused both.1)
  where
    either : (skip : Bool) (o : Option Refused) → (if skip then None else o) ≡ Some refused → (skip ≡ false) × (o ≡ Some refused)
    either true o is = absurd cc
    either false o is = (refl, is)
