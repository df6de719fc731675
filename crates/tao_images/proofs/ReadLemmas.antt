-- What is read from bytes that are not refused.
use Rattle.std.proofs.Common.{◌≡◌, ℕ, zero, suc, ◌+◌, ◌*◌, ◌^◌, ◌<◌, ◌≤◌, Bool, true, false, not, ◌&&◌, eqb, cond, if◌then◌else◌, List, ◌∷◌, map, drop, Option, Some, None, refl, sym, ap, ap₂, ◌∙◌, subst, arith}
use Rattle.std.specs.List.{All, filter, filter_map, cons_option, range_with_len}
use Rattle.std.specs.Option.{option_or, option_map}
use Rattle.std.proofs.lemmas.Bool.{eqb-true}
use Rattle.std.proofs.lemmas.List.Elements.{All-nil, All-cons, All-weaker}
use Rattle.std.proofs.lemmas.Option.{same_Some}
use Rattle.tao_base.specs.Limits.{Shape, slots_len, bucket_len}
use Rattle.tao_base.specs.Tree.{node_at}
use Rattle.tao_base.specs.declared.storage.Bucket.{Bucket}
use Rattle.tao_base.specs.declared.storage.BucketFault.{BucketFault}
use Rattle.tao_base.specs.declared.storage.BucketFault.TheVariants.{Tag}
use Rattle.tao_base.proofs.TreeLemmas.{one_le_node}
use Rattle.tao_bucket.specs.Encoding.{format_of}
use Rattle.tao_base.specs.Transfers.{same}
use Rattle.tao_bucket.specs.Reading.{bucket_fault, header_version, read_bucket}
use Rattle.tao_bucket.proofs.Firsts.{all_none}
use Rattle.tao_bucket.proofs.Taken.{IsBytes, bytes_take, bytes_drop}
use Rattle.tao_bucket.proofs.Whole.{encoding_taken}
use Rattle.tao_base.specs.Buckets.{IsInForm}
use Rattle.tao_model.specs.Trace.{nodes_in}
use Rattle.tao_images.specs.declared.nodes.Refused.{Refused}
use Rattle.tao_images.specs.declared.nodes.Refused.TheVariants.{Damaged, Stale}
use Rattle.tao_images.specs.Nodes.{Holds, node_refusal}
use Rattle.tao_images.specs.Paths.{piece, refusal_at, path_refusal, read_at, buckets_read, IsReadFrom, AreReadFrom, HoldsLatest}
use Rattle.tao_images.proofs.KnownLemmas.{node_within}
use Rattle.tao_images.proofs.Refusals.{held_by}

no_fault : (node : ℕ) (o : Option BucketFault) (later : Option Refused) → option_or (option_map (Damaged node) o) later ≡ None → (o ≡ None) × (later ≡ None)
no_fault node None later none = (refl, none)
no_fault node (Some fault) later none = absurd cc

no_other : (equal : Bool) (stale : Refused) (later : Option Refused) → option_or (if equal then None else Some stale) later ≡ None → (equal ≡ true) × (later ≡ None)
no_other true stale later none = (refl, none)
no_other false stale later none = absurd cc

no_tag : (wrong : Bool) (refused : Refused) → (if wrong then Some refused else None) ≡ None → wrong ≡ false
no_tag true refused none = absurd cc
no_tag false refused none = refl

-- bytes without a refusal hold what is read from them
pub read_holds : (key : List ℕ) (s : Shape) (version : ℕ) (tag : List ℕ) (node : ℕ) (bytes : List ℕ) → IsBytes bytes → node_refusal key s version tag node bytes ≡ None
    → Holds key s version tag node bytes (read_bucket key s bytes)
unfolding node_refusal
read_holds key s version tag node bytes fit none =
    let format = format_of s.form version in
    let first = no_fault node (bucket_fault key s node format bytes) _ none in
    let second = no_other (eqb (header_version bytes) version) (Stale node version (header_version bytes)) _ first.1 in
    let third = no_tag (eqb format 2 && not (same (drop (slots_len s.z s.b) bytes) tag)) (Damaged node Tag) second.1 in
    held_by key s version tag node bytes (Some (read_bucket key s bytes)) refl (encoding_taken key s node format bytes fit first.0) (eqb-true (header_version bytes) version second.0) third

-- each number of a range gives such an item, or none
all_given : {X : Type 0} (P : X → Type 0) (f : ℕ → Option X) (a n : ℕ) → ((d : ℕ) (x : X) → a ≤ d → d < a + n → f d ≡ Some x → P x) → All P (filter_map f (range_with_len a n))
all_given P f a zero each = All-nil P
all_given {X} P f a (suc n) each = here (f a) refl (all_given P f (a + 1) n (λ d x low high. each d x (omega arith) (omega arith)))
  where
    here : (o : Option X) → f a ≡ o → All P (filter_map f (range_with_len (a + 1) n)) → All P (cons_option o (filter_map f (range_with_len (a + 1) n)))
    here None is rest = rest
    here (Some x) is rest = All-cons P x (filter_map f (range_with_len (a + 1) n)) (each a x (omega arith) (omega arith) is) rest

module _ (key : List ℕ) (s : Shape) (skipped : ℕ → Bool) (version : ℕ → ℕ) (tag : ℕ → List ℕ) (leaf : ℕ) (path : List ℕ) (fit : IsBytes path)
    (none : path_refusal key s skipped version tag leaf path ≡ None) where
  -- the bucket at a depth whose node isn't skipped
  read_at_depth : (d : ℕ) → d ≤ s.l → skipped (node_at s.l leaf d) ≡ false
      → Holds key s (version (node_at s.l leaf d)) (tag (node_at s.l leaf d)) (node_at s.l leaf d) (piece s path d) (read_bucket key s (piece s path d))
  unfolding refusal_at
  read_at_depth d within needed =
      let w = node_at s.l leaf d in
      let fine = all_none (refusal_at key s skipped version tag leaf path) (s.l + 1) none d (omega arith) in
      let here : node_refusal key s (version w) (tag w) w (piece s path d) ≡ None = sym (ap (λ skip. if skip then None else node_refusal key s (version w) (tag w) w (piece s path d)) needed) ∙ fine in
      read_holds key s (version w) (tag w) w (piece s path d) (bytes_take (bucket_len s) (drop (d * bucket_len s) path) (bytes_drop (d * bucket_len s) path fit)) here

  pub latest_held : HoldsLatest key s skipped version tag leaf path
  latest_held d within needed = (read_bucket key s (piece s path d), read_at_depth d within needed)

module _ (key : List ℕ) (s : Shape) (skipped : ℕ → Bool) (version : ℕ → ℕ) (tag : ℕ → List ℕ) (leaf : ℕ) (path : List ℕ) (small : leaf < 2 ^ s.l)
    (fit : IsBytes path) (none : path_refusal key s skipped version tag leaf path ≡ None) where
  holds_at : (d : ℕ) → d ≤ s.l → skipped (node_at s.l leaf d) ≡ false
      → Holds key s (version (node_at s.l leaf d)) (tag (node_at s.l leaf d)) (node_at s.l leaf d) (piece s path d) (read_bucket key s (piece s path d))
  holds_at d within needed = read_at_depth key s skipped version tag leaf path fit none d within needed

  read_from : (d : ℕ) (bucket : Bucket) → d ≤ s.l → read_at key s skipped leaf path d ≡ Some bucket → IsReadFrom key s version tag leaf path bucket
  unfolding read_at
  read_from d bucket within is = here (skipped (node_at s.l leaf d)) refl is
    where
      here : (skip : Bool) → skipped (node_at s.l leaf d) ≡ skip → (if skip then None else Some (read_bucket key s (piece s path d))) ≡ Some bucket → IsReadFrom key s version tag leaf path bucket
      here true e is = absurd cc
      here false e is =
          let holds = holds_at d within e in
          subst (IsReadFrom key s version tag leaf path) (same_Some (read_bucket key s (piece s path d)) bucket is) (record {
            depth = d;
            within = within;
            at = sym holds.node;
            holds = subst (λ v. Holds key s (version v) (tag v) v (piece s path d) (read_bucket key s (piece s path d))) (sym holds.node) holds;
          })

  in_form : (bucket : Bucket) → IsReadFrom key s version tag leaf path bucket → IsInForm s bucket
  in_form bucket is =
      let at = is.at in
      let low = one_le_node s.l leaf is.depth in
      let high = node_within s.l leaf is.depth small is.within in
      record { low = omega arith; high = omega arith; entries = is.holds.encoded.entries }

  nodes_from : (a n : ℕ) → a + n ≤ s.l + 1 → nodes_in (filter_map (read_at key s skipped leaf path) (range_with_len a n)) ≡ filter (λ w. not (skipped w)) (map (node_at s.l leaf) (range_with_len a n))
  unfolding read_at
  nodes_from a zero within = refl
  nodes_from a (suc n) within = here (nodes_from (a + 1) n (omega arith)) (skipped (node_at s.l leaf a)) refl
    where
      rest : List Bucket
      rest = filter_map (read_at key s skipped leaf path) (range_with_len (a + 1) n)

      nodes : List ℕ
      nodes = filter (λ w. not (skipped w)) (map (node_at s.l leaf) (range_with_len (a + 1) n))

      here : nodes_in rest ≡ nodes → (skip : Bool) → skipped (node_at s.l leaf a) ≡ skip
          → nodes_in (cons_option (if skip then None else Some (read_bucket key s (piece s path a))) rest) ≡ cond (not skip) (node_at s.l leaf a ∷ nodes) nodes
      here more true e = more
      here more false e = ap₂ (λ w (ws : List ℕ). w ∷ ws) (holds_at a (omega arith) e).node more

  pub read_along : AreReadFrom key s skipped version tag leaf path (buckets_read key s skipped leaf path)
  read_along =
      let each : All (IsReadFrom key s version tag leaf path) (buckets_read key s skipped leaf path) =
      all_given (IsReadFrom key s version tag leaf path) (read_at key s skipped leaf path) 0 (s.l + 1) (λ d bucket low high is. read_from d bucket (omega arith) is)
      in
      record {
        nodes = nodes_from 0 (s.l + 1) (omega arith);
        in_form = All-weaker (IsReadFrom key s version tag leaf path) (IsInForm s) in_form (buckets_read key s skipped leaf path) each;
        each = each;
      }
