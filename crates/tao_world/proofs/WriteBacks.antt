-- The write-backs of a record, and the orders that send them. The events `es` are newest first.
use Rattle.std.proofs.Common.{◌≡◌, ℕ, zero, suc, ◌+◌, ◌<◌, ◌≤◌, true, cond, List, [], ◌∷◌, ◌++◌, reverse, length, get_or, take, drop, All, Contains, Some, is_some, refl, sym, ap, ◌∙◌, subst, arith, nat_lt, ◌*◌}
use Rattle.std.specs.List.{range_with_len}
use Rattle.std.proofs.Math.Seq.{split_at}
use Rattle.std.proofs.lemmas.Bool.{eq-eqb, ne_eqb, true≢false}
use Rattle.std.proofs.lemmas.List.{append_assoc, reverse-append, length-map, get_or-map}
use Rattle.std.proofs.lemmas.List.Elements.{All-get_or}
use Rattle.tao_base.specs.declared.session.Event.{Event}
use Rattle.tao_base.specs.declared.session.Event.TheVariants.{Arrive, Done, Issue, Acked, Fault}
use Rattle.tao_base.specs.declared.storage.Bucket.{Bucket}
use Rattle.tao_base.specs.declared.storage.Order.{Order}
use Rattle.tao_base.specs.Buckets.{IsInForm}
use Rattle.tao_base.specs.Limits.{IsShape, bucket_len}
use Rattle.tao_base.specs.Session.{Opening, History}
use Rattle.tao_base.specs.Tree.{node_count}
use Rattle.tao_base.proofs.ImageLemmas.{bucket_joined}
use Rattle.tao_bucket.specs.Encoding.{encoded, format_of}
use Rattle.tao_model.specs.Events.{issues}
use Rattle.tao_model.specs.Residence.{bucket_of, is_issued, last_touch}
use Rattle.tao_model.specs.LookBacks.{written_at}
use Rattle.tao_model.specs.Lawful.{FollowsLawfully}
use Rattle.tao_model.specs.Trace.{nodes_in}
use Rattle.tao_model.proofs.FallingPaths.{has}
use Rattle.tao_model.proofs.LawfulToWhole.{follows_opening, prefix_follows}
use Rattle.tao_model.proofs.Stays.{newest_first}
use Rattle.tao_model.proofs.WrittenVersions.{written_stays, issue_is_written, issued_is_written}
use Rattle.tao_laws.proofs.Listings.{HasOnce, once_filter, once_range, listed_at, place_in, place_at}
use Rattle.tao_laws.proofs.RecentNodes.{bucket_in}
use Rattle.tao_images.specs.Orders.{IsOrderOf}
use Rattle.tao_images.specs.Paths.{piece}
use Rattle.tao_images.proofs.OrderLemmas.{length_encoded, lengths}
use Rattle.tao_world.specs.Shows.{EncodesWritten}

-- ---- one write-back

-- a write-back of the record: its version was issued, and it wrote its buckets, one for each of its nodes, under that version
pub record IsWriteBack (o : Opening) (events : List Event) (v : ℕ) (buckets : List Bucket) : Type 0 where
  pub some : 0 < v
  pub within : v ≤ issues (reverse events)
  pub once : HasOnce (nodes_in buckets)
  pub in_form : All (IsInForm o.shape) buckets
  pub written : (w : ℕ) → written_at o events v w ≡ bucket_of w buckets

pub issues_grow : (later es : List Event) → issues es ≤ issues (later ++ es)
issues_grow [] es = omega arith
issues_grow (Arrive client op word ∷ later) es = issues_grow later es
issues_grow (Done arrival taken ∷ later) es = issues_grow later es
issues_grow (Issue version nonce buckets ∷ later) es = let grown = issues_grow later es in omega arith
issues_grow (Acked version ∷ later) es = issues_grow later es
issues_grow (Fault cause ∷ later) es = issues_grow later es

made_at : (o : Opening) (earlier later : List Event) (v nonce : ℕ) (buckets : List Bucket) → FollowsLawfully o (reverse (earlier ++ Issue v nonce buckets ∷ later))
    → IsWriteBack o (earlier ++ Issue v nonce buckets ∷ later) v buckets
made_at o earlier later v nonce buckets f = record {
  some = omega (arith, next);
  within = subst (λ l. v ≤ issues (reverse l)) joined low_later;
  once = subst HasOnce (sym follows.2.nodes) (once_filter (λ node. nat_lt (issues (reverse earlier) * o.shape.k) (last_touch o (reverse earlier) node)) (range_with_len 1 (node_count o.shape.l)) (once_range 1 (node_count o.shape.l)));
  in_form = follows.2.in_form;
  written = λ w. ap (λ l. written_at o l v w) (sym joined) ∙ written_stays o (earlier ++ Issue v nonce buckets ∷ []) later v w low
      ∙ issue_is_written o earlier v nonce buckets w made;
}
  where
    joined : (earlier ++ Issue v nonce buckets ∷ []) ++ later ≡ earlier ++ Issue v nonce buckets ∷ later
    joined = append_assoc earlier (Issue v nonce buckets ∷ []) later

    made : FollowsLawfully o (reverse (earlier ++ Issue v nonce buckets ∷ []))
    made = prefix_follows o (earlier ++ Issue v nonce buckets ∷ []) later (subst (λ l. FollowsLawfully o (reverse l)) (sym joined) f)

    follows : FollowsLawfully o (Issue v nonce buckets ∷ reverse earlier)
    follows = subst (FollowsLawfully o) (newest_first earlier (Issue v nonce buckets)) made

    next : v ≡ issues (reverse earlier) + 1
    next = follows.2.next

    low : v ≤ issues (reverse (earlier ++ Issue v nonce buckets ∷ []))
    low = let count : issues (reverse (earlier ++ Issue v nonce buckets ∷ [])) ≡ issues (reverse earlier) + 1 = ap issues (newest_first earlier (Issue v nonce buckets)) in omega (arith, next)

    low_later : v ≤ issues (reverse ((earlier ++ Issue v nonce buckets ∷ []) ++ later))
    low_later =
        subst (λ l. v ≤ issues l) (sym (reverse-append (earlier ++ Issue v nonce buckets ∷ []) later))
        (let grown = issues_grow (reverse later) (reverse (earlier ++ Issue v nonce buckets ∷ [])) in omega (arith, low))

pub made : (o : Opening) (events : List Event) (v nonce : ℕ) (buckets : List Bucket) → FollowsLawfully o (reverse events) → Contains events (Issue v nonce buckets)
    → IsWriteBack o events v buckets
made o events v nonce buckets f there =
    let e = Issue v nonce buckets in
    let split : events ≡ take there.0 events ++ e ∷ drop (suc there.0) events =
    split_at events there.0 e there.1 ∙ ap (λ x. take there.0 events ++ x ∷ drop (suc there.0) events) there.2
    in
    subst (λ l. IsWriteBack o l v buckets) (sym split) (made_at o (take there.0 events) (drop (suc there.0) events) v nonce buckets (subst (λ l. FollowsLawfully o (reverse l)) split f))

-- its nodes are those that it issued
pub issued_nodes : (o : Opening) (events : List Event) (v w : ℕ) (buckets : List Bucket) → FollowsLawfully o (reverse events) → IsWriteBack o events v buckets
    → is_issued (reverse events) v w ≡ has w (nodes_in buckets)
issued_nodes o events v w buckets f is = issued_is_written o events v w f is.some is.within ∙ ap is_some (is.written w) ∙ bucket_in w buckets

-- ---- one of its buckets

pub found_at : (buckets : List Bucket) (j : ℕ) (d : Bucket) → HasOnce (nodes_in buckets) → j < length buckets → bucket_of (get_or buckets j d).node buckets ≡ Some (get_or buckets j d)
found_at [] j d once low = absurd (omega arith)
found_at (b ∷ buckets) zero d once low = ap (λ t. cond t (Some b) (bucket_of b.node buckets)) (eq-eqb b.node b.node refl)
found_at (b ∷ buckets) (suc j) d once low =
    ap (λ t. cond t (Some b) (bucket_of (get_or buckets j d).node buckets)) (ne_eqb b.node (get_or buckets j d).node (λ same. true≢false (sym (ap (λ w. has w (nodes_in buckets)) same ∙ there) ∙ once.0)))
    ∙ found_at buckets j d once.1 within
  where
    within : j < length buckets
    within = omega arith

    there : has (get_or buckets j d).node (nodes_in buckets) ≡ true
    there =
        ap (λ w. has w (nodes_in buckets)) (sym (get_or-map (λ (bucket : Bucket). bucket.node) buckets j d 0 within))
        ∙ listed_at (nodes_in buckets) j (let long = length-map buckets (λ (bucket : Bucket). bucket.node) in omega arith)

pub once_same : (xs : List ℕ) (i j : ℕ) → HasOnce xs → i < length xs → j < length xs → get_or xs i 0 ≡ get_or xs j 0 → i ≡ j
once_same xs i j once low low' same = sym (place_at xs i once low) ∙ ap (place_in xs) same ∙ place_at xs j once low'

module _ (key : List ℕ) (h : History) (follows : FollowsLawfully h.opening (reverse h.events)) (v nonce : ℕ) (buckets : List Bucket) (order : Order)
    (is : IsWriteBack h.opening h.events v buckets) (sent : IsOrderOf key h.opening.shape v nonce buckets order) where
  nodes : order.nodes ≡ nodes_in buckets
  nodes = ap (λ (x : Order). x.nodes) sent

  pub nodes_once : HasOnce order.nodes
  nodes_once = subst HasOnce (sym nodes) is.once

  pub order_nodes : (w : ℕ) → is_issued (reverse h.events) v w ≡ has w order.nodes
  order_nodes w = issued_nodes h.opening h.events v w buckets follows is ∙ ap (has w) (sym nodes)

  shape : IsShape h.opening.shape
  shape = (follows_opening h.opening (reverse h.events) follows).shape

  module _ (j : ℕ) (low : j < length order.nodes) (d : Bucket) where
    within : j < length buckets
    within = let long : length order.nodes ≡ length buckets = ap length nodes ∙ length-map buckets (λ (bucket : Bucket). bucket.node) in omega arith

    node_is : get_or order.nodes j 0 ≡ (get_or buckets j d).node
    node_is = ap (λ ws. get_or ws j 0) nodes ∙ get_or-map (λ (bucket : Bucket). bucket.node) buckets j d 0 within

    form : IsInForm h.opening.shape (get_or buckets j d)
    form = All-get_or (IsInForm h.opening.shape) buckets j d within is.in_form

    pub node_within : (1 ≤ get_or order.nodes j 0) × (get_or order.nodes j 0 ≤ node_count h.opening.shape.l)
    node_within = (subst (λ w. 1 ≤ w) (sym node_is) form.low, subst (λ w. w ≤ node_count h.opening.shape.l) (sym node_is) form.high)

    -- the bytes of its bucket in the order are what was written at its node
    pub sent_bytes : EncodesWritten key h v (get_or order.nodes j 0) (piece h.opening.shape order.image j)
    sent_bytes = (
      get_or buckets j d,
      is.written (get_or order.nodes j 0) ∙ ap (λ w. bucket_of w buckets) node_is ∙ found_at buckets j d is.once within,
      ap (λ (x : Order). piece h.opening.shape x.image j) sent
          ∙ bucket_joined (encoded key h.opening.shape (format_of h.opening.shape.form v)) (bucket_len h.opening.shape) buckets j d
          (lengths key h.opening.shape (format_of h.opening.shape.form v) shape buckets is.in_form)
          (length_encoded key h.opening.shape (format_of h.opening.shape.form v) shape (get_or buckets j d) form) within,
    )
