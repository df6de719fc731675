-- Nodes touched since the last write-back are held, and the next write-back has just them. The events `es` are newest first.
use Rattle.std.proofs.Common.{◌≡◌, ℕ, ◌+◌, ◌*◌, ◌^◌, ◌<◌, ◌≤◌, Bool, true, false, not, ◌&&◌, ◌||◌, cond, List, [], ◌∷◌, reverse, Some, is_some, refl, sym, ap, ◌∙◌, arith, nat_eq, nat_lt, mul-le-mul_right}
use Rattle.std.specs.List.{range_with_len}
use Rattle.std.proofs.Math.Nat.{mod-lt}
use Rattle.std.proofs.lemmas.Bool.{ltb-true, lt-ltb}
use Rattle.std.proofs.lemmas.Nat.{pow_pos}
use Rattle.tao_base.specs.declared.session.Event.{Event}
use Rattle.tao_base.specs.declared.session.Event.TheVariants.{Arrive, Done, Issue, Acked, Fault}
use Rattle.tao_base.specs.declared.storage.Bucket.{Bucket}
use Rattle.tao_base.specs.Session.{Opening}
use Rattle.tao_base.specs.Tree.{node_count, path}
use Rattle.tao_model.specs.Events.{dones, issues, word_at}
use Rattle.tao_model.specs.Requests.{fetches, fetched_leaf, word_used}
use Rattle.tao_model.specs.Residence.{last_touch, bucket_of, is_issued, is_covered, is_resident}
use Rattle.tao_model.specs.Trace.{nodes_in}
use Rattle.tao_model.specs.Lawful.{FollowsLawfully, MayBeIssued, touched_after}
use Rattle.tao_model.proofs.FallingPaths.{has, has_below, has_reverse, on_path_has, path_falls}
use Rattle.tao_laws.proofs.Listings.{has_filter, has_range}
use Rattle.tao_laws.specs.Residents.{IsRecent, RecentIsResident}

within_step : (t : Bool) (n r : ℕ) → r ≤ n → cond t (n + 1) r ≤ n + 1
within_step true n r h = omega arith
within_step false n r h = omega arith

pub touch_within : (o : Opening) (es : List Event) (node : ℕ) → last_touch o es node ≤ dones es
touch_within o [] node = omega arith
touch_within o (Arrive client op word ∷ es) node = touch_within o es node
touch_within o (Done arrival taken ∷ es) node = within_step (fetches o es arrival node) (dones es) (last_touch o es node) (touch_within o es node)
touch_within o (Issue version nonce buckets ∷ es) node = touch_within o es node
touch_within o (Acked version ∷ es) node = touch_within o es node
touch_within o (Fault cause ∷ es) node = touch_within o es node

-- ---- recent nodes are resident

done_step : (r t : Bool) (n m last : ℕ) → (m < last → r ≡ true) → m < cond t (n + 1) last → (r || t) ≡ true
done_step true t n m last h more = refl
done_step false true n m last h more = refl
done_step false false n m last h more = h more

-- an acknowledgement; `at` is the end of its version's period
acked_step : (r issued covered : Bool) (at m last : ℕ) → (m < last → r ≡ true) → at ≤ m → m < last → (r && not (issued && (not (nat_lt at last) && not covered))) ≡ true
acked_step r false covered at m last h le more = rw (h more) refl
acked_step r true covered at m last h le more = rw (h more, lt-ltb at last (omega arith)) refl

pub recent_from : (o : Opening) (es : List Event) (node : ℕ) → FollowsLawfully o es → IsRecent o es node → is_resident o es node ≡ true
recent_from o [] node f h = absurd (omega arith)
recent_from o (Arrive client op word ∷ es) node f h = recent_from o es node f.0 h
recent_from o (Done arrival taken ∷ es) node f h =
    done_step (is_resident o es node) (fetches o es arrival node) (dones es) (issues es * o.shape.k) (last_touch o es node) (λ more. recent_from o es node f.0 more) h
recent_from o (Issue version nonce buckets ∷ es) node f h =
    let due : dones es ≡ (issues es + 1) * o.shape.k = f.2.due ∙ ap (λ v. v * o.shape.k) f.2.next in
    let within = touch_within o es node in
    absurd (omega arith)
recent_from o (Acked version ∷ es) node f h =
    let known : version ≤ issues es = f.2.2 in
    let before : version * o.shape.k ≤ issues es * o.shape.k = mul-le-mul_right o.shape.k known in
    acked_step (is_resident o es node) (is_issued es version node) (is_covered o es node) (version * o.shape.k) (issues es * o.shape.k) (last_touch o es node)
    (λ more. recent_from o es node f.0 more) before h
recent_from o (Fault cause ∷ es) node f h = recent_from o es node f.0 h

pub recent_is_resident : RecentIsResident
recent_is_resident o events node f h = recent_from o (reverse events) node f h

-- ---- a touched node is a node of the tree

pub leaf_low : (o : Opening) (es : List Event) (i : ℕ) → fetched_leaf o es i < 2 ^ o.shape.l
leaf_low o es i = mod-lt (word_at o es (word_used o es i)) (pow_pos o.shape.l)

pub fetched_in_tree : (o : Opening) (es : List Event) (i node : ℕ) → fetches o es i node ≡ true → (0 < node) × (node < node_count o.shape.l + 1)
fetched_in_tree o es i node h = has_below (node_count o.shape.l + 1) node (reverse (path o.shape.l (fetched_leaf o es i))) (path_falls o.shape.l (fetched_leaf o es i) (leaf_low o es i))
    (has_reverse node (path o.shape.l (fetched_leaf o es i)) ∙ sym (on_path_has o.shape.l (fetched_leaf o es i) node) ∙ h)

touched_in_tree : (o : Opening) (es : List Event) (node : ℕ) → 0 < last_touch o es node → (0 < node) × (node < node_count o.shape.l + 1)
touched_in_tree o [] node h = absurd (omega arith)
touched_in_tree o (Arrive client op word ∷ es) node h = touched_in_tree o es node h
touched_in_tree o (Done arrival taken ∷ es) node h = either (fetches o es arrival node) refl h (λ more. touched_in_tree o es node more)
  where
    either : (t : Bool) → fetches o es arrival node ≡ t → 0 < cond t (dones es + 1) (last_touch o es node)
        → (0 < last_touch o es node → (0 < node) × (node < node_count o.shape.l + 1)) → (0 < node) × (node < node_count o.shape.l + 1)
    either true is h ih = fetched_in_tree o es arrival node is
    either false is h ih = ih h
touched_in_tree o (Issue version nonce buckets ∷ es) node h = touched_in_tree o es node h
touched_in_tree o (Acked version ∷ es) node h = touched_in_tree o es node h
touched_in_tree o (Fault cause ∷ es) node h = touched_in_tree o es node h

-- ---- a write-back has the recent nodes

pub bucket_in : (node : ℕ) (buckets : List Bucket) → is_some (bucket_of node buckets) ≡ has node (nodes_in buckets)
bucket_in node [] = refl
bucket_in node (b ∷ buckets) = either (nat_eq b.node node) (bucket_in node buckets)
  where
    either : (t : Bool) → is_some (bucket_of node buckets) ≡ has node (nodes_in buckets)
        → is_some (cond t (Some b) (bucket_of node buckets)) ≡ (t || has node (nodes_in buckets))
    either true ih = refl
    either false ih = ih

has_touched : (o : Opening) (es : List Event) (number node : ℕ) → has node (touched_after o es number) ≡ nat_lt number (last_touch o es node)
has_touched o es number node = has_filter (λ w. nat_lt number (last_touch o es w)) node (range_with_len 1 (node_count o.shape.l)) ∙ either (nat_lt number (last_touch o es node)) refl
  where
    either : (t : Bool) → nat_lt number (last_touch o es node) ≡ t → (t && has node (range_with_len 1 (node_count o.shape.l))) ≡ t
    either true is =
        let above : number < last_touch o es node = ltb-true number (last_touch o es node) is in
        let there = touched_in_tree o es node (omega arith) in
        let low = there.0 in
        let high = there.1 in
        has_range 1 (node_count o.shape.l) node (omega arith) (omega arith)
    either false is = refl

-- whether a write-back has a node, by the node's last touch
pub written_where_recent : (o : Opening) (es : List Event) (version nonce : ℕ) (buckets : List Bucket) (node : ℕ) → MayBeIssued o es version nonce buckets
    → is_some (bucket_of node buckets) ≡ nat_lt (issues es * o.shape.k) (last_touch o es node)
written_where_recent o es version nonce buckets node m = bucket_in node buckets ∙ ap (has node) m.nodes ∙ has_touched o es (issues es * o.shape.k) node
