-- Orders that are written and sent.
use Rattle.std.proofs.Common.{◌≡◌, ◌↔◌, IsTrue, Bool, true, false, ℕ, suc, ◌*◌, ◌<◌, ◌≤◌, List, [], length, get_or, drop, sym, ap, ap₂, subst, ◌∙◌, arith}
use Rattle.std.specs.List.{All, AllByRecursion, flat_map}
use Rattle.std.proofs.lemmas.List.Elements.{Contains-append_left, All-weaker, All-map, All-get_or, recursion_from_All}
use Rattle.std.proofs.lemmas.List.{length-map, get_or-map}
use Rattle.tao_base.specs.Limits.{Shape, IsShape, bucket_len, slots_len}
use Rattle.tao_base.specs.Links.{header_node, FitsLinks, order_limit}
use Rattle.tao_base.specs.Tree.{node_count}
use Rattle.tao_base.specs.declared.session.Event.TheVariants.{Issue}
use Rattle.tao_base.specs.declared.storage.Bucket.{Bucket}
use Rattle.tao_base.specs.declared.storage.Order.{Order}
use Rattle.tao_base.proofs.ImageLemmas.{length_joined, joined_from, bucket_joined}
use Rattle.tao_bucket.specs.Encoding.{encoded, format_of, tag_of}
use Rattle.tao_base.specs.Transfers.{same}
use Rattle.tao_base.proofs.TransferLemmas.{same_true, same_self}
use Rattle.tao_bucket.proofs.Whole.{encoded_parts, tag_of_encoded}
use Rattle.tao_base.specs.Buckets.{IsInForm}
use Rattle.tao_model.specs.Trace.{nodes_in}
use Rattle.tao_images.specs.Orders.{IsOrderOf, IssuedStays}
use Rattle.tao_images.specs.Paths.{piece}
use Rattle.tao_images.proofs.Refusals.{two_written}

module _ (key : List ℕ) (s : Shape) (format : ℕ) (shape : IsShape s) where
  pub length_encoded : (bucket : Bucket) → IsInForm s bucket → length (encoded key s format bucket) ≡ bucket_len s
  length_encoded bucket form = (encoded_parts key s format bucket shape form).0

  pub lengths : (buckets : List Bucket) → All (IsInForm s) buckets → AllByRecursion (λ bucket. length (encoded key s format bucket) ≡ bucket_len s) buckets
  lengths buckets forms = recursion_from_All (λ bucket. length (encoded key s format bucket) ≡ bucket_len s) buckets (All-weaker (IsInForm s) (λ bucket. length (encoded key s format bucket) ≡ bucket_len s) length_encoded buckets forms)

  -- bucket i of the image starts with a header of its node
  pub headers : (buckets : List Bucket) (i : ℕ) (d : Bucket) → All (IsInForm s) buckets → i < length buckets
      → header_node (drop (i * bucket_len s) (flat_map (encoded key s format) buckets)) ≡ (get_or buckets i d).node
  headers buckets i d forms within =
      let form : IsInForm s (get_or buckets i d) = All-get_or (IsInForm s) buckets i d within forms in
      ap header_node (joined_from (encoded key s format) (bucket_len s) buckets i d (lengths buckets forms) within)
      ∙ (encoded_parts key s format (get_or buckets i d) shape form).1 (flat_map (encoded key s format) (drop (suc i) buckets))

pub fits : (key : List ℕ) (s : Shape) (version nonce : ℕ) (buckets : List Bucket) (order : Order) → IsShape s → IsOrderOf key s version nonce buckets order
    → All (IsInForm s) buckets → length buckets ≤ order_limit s → FitsLinks s order
fits key s version nonce buckets order shape is forms few reach leads =
    let format = format_of s.form version in
    let d : Bucket = record { node = 0; version = 0; nonce = 0; entries = [] } in
    let nodes : order.nodes ≡ nodes_in buckets = ap (λ o. o.nodes) is in
    let image : order.image ≡ flat_map (encoded key s format) buckets = ap (λ o. o.image) is in
    let count : length order.nodes ≡ length buckets = ap (λ (o : Order). length o.nodes) is ∙ length-map buckets (λ bucket. bucket.node) in
    let wide = leads.bucket_len in
    let most = leads.most in
    record {
      few = omega arith;
      nodes = subst (All (λ w. (1 ≤ w) × (w ≤ node_count reach.height))) (sym nodes) (subst (λ h. All (λ w. (1 ≤ w) × (w ≤ node_count h)) (nodes_in buckets)) (sym leads.height) (All-map (λ w. (1 ≤ w) × (w ≤ node_count s.l)) (λ bucket. bucket.node) buckets (All-weaker (IsInForm s) (λ bucket. (1 ≤ bucket.node) × (bucket.node ≤ node_count s.l)) (λ bucket form. (form.low, form.high)) buckets forms)));
      image = ap length image ∙ length_joined (encoded key s format) (bucket_len s) buckets (lengths key s format shape buckets forms) ∙ ap₂ ◌*◌ (sym count) (sym wide);
      headers = λ i within.
          ap₂ (λ n image. header_node (drop (i * n) image)) wide image ∙ headers key s format shape buckets i d forms (omega arith)
          ∙ sym (ap (λ ws. get_or ws i 0) nodes ∙ get_or-map (λ bucket. bucket.node) buckets i d 0 (omega arith));
    }

pub tags : (key : List ℕ) (s : Shape) (version nonce : ℕ) (buckets : List Bucket) (order : Order) (i : ℕ) (bucket : Bucket) → IsShape s → IsOrderOf key s version nonce buckets order
    → All (IsInForm s) buckets → format_of s.form version ≡ 2 → i < length buckets → bucket ≡ get_or buckets i bucket → drop (slots_len s.z s.b) (piece s order.image i) ≡ tag_of key s bucket
tags key s version nonce buckets order i bucket shape is forms two within here =
    let format = format_of s.form version in
    let form : IsInForm s bucket = subst (IsInForm s) (sym here) (All-get_or (IsInForm s) buckets i bucket within forms) in
    let long = subst (λ b. length (encoded key s format b) ≡ bucket_len s) here (length_encoded key s format shape bucket form) in
    let image : piece s order.image i ≡ encoded key s format bucket =
    ap (λ (o : Order). piece s o.image i) is ∙ bucket_joined (encoded key s format) (bucket_len s) buckets i bucket (lengths key s format shape buckets forms) long within
    ∙ ap (encoded key s format) (sym here)
    in
    ap (drop (slots_len s.z s.b)) (image ∙ ap (λ f. encoded key s f bucket) two) ∙ tag_of_encoded key s bucket (two_written s version two) form.entries

-- ---- an order compared part by part

module _ (key : List ℕ) (s : Shape) (v first : ℕ) (buckets : List Bucket) (order : Order) where
  pub other_nodes : false ≡ same order.nodes (nodes_in buckets) → IsTrue false ↔ IsOrderOf key s v first buckets order
  other_nodes other = (λ no. absurd cc, λ is. other ∙ ap (λ (o : Order). same o.nodes (nodes_in buckets)) is ∙ same_self (nodes_in buckets))

  -- an order by its four parts
  by_parts : order.version ≡ v → order.nonce ≡ first → order.nodes ≡ nodes_in buckets → order.image ≡ flat_map (encoded key s (format_of s.form v)) buckets
      → IsOrderOf key s v first buckets order
  by_parts version nonce nodes image =
      ap (λ (x : ℕ). record order { version = x }) version ∙ ap (λ (x : ℕ). record order { version = v; nonce = x }) nonce
      ∙ ap (λ (x : List ℕ). record order { version = v; nonce = first; nodes = x }) nodes
      ∙ ap (λ (x : List ℕ). record order { version = v; nonce = first; nodes = nodes_in buckets; image = x }) image

  pub by_image : (equal : Bool) → order.version ≡ v → order.nonce ≡ first → true ≡ same order.nodes (nodes_in buckets)
      → equal ≡ same order.image (flat_map (encoded key s (format_of s.form v)) buckets) → IsTrue equal ↔ IsOrderOf key s v first buckets order
  by_image equal version nonce nodes image = (
    λ yes. by_parts version nonce (same_true order.nodes (nodes_in buckets) (sym nodes)) (same_true order.image (flat_map (encoded key s (format_of s.form v)) buckets) (sym image ∙ yes)),
    λ is. image ∙ ap (λ (o : Order). same o.image (flat_map (encoded key s (format_of s.form v)) buckets)) is ∙ same_self (flat_map (encoded key s (format_of s.form v)) buckets),
  )

pub issued_stays : IssuedStays
issued_stays key h more order is = (is.0, Contains-append_left h.events more (Issue order.version order.nonce is.0) is.1, is.2)
