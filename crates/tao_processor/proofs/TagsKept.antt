-- The kept tags under one more event.
use Rattle.std.proofs.Common.{◌≡◌, ◌≢◌, ℕ, zero, suc, ◌+◌, ◌<◌, ◌≤◌, Bool, true, false, eqb, cond, List, [], ◌∷◌, length, drop, map, reverse, All, get_or, set, ◌-◌, Some, is_some, refl, sym, ap, ◌∙◌, subst, arith, nat_eq, inl, inr, ◌⊎◌}
use Rattle.std.specs.Prelude.{slice_index}
use Rattle.std.specs.List.{slice_index_or, range_with_len}
use Rattle.std.proofs.lemmas.Bool.{eqb-true, eq-eqb, cases_Bool, cases_lt, true≢false}
use Rattle.std.specs.List.Sorted.{IsStrictlyIncreasing}
use Rattle.std.proofs.lemmas.Option.{same_Some}
use Rattle.std.proofs.lemmas.List.{length-map, length-set, get_or-map, get_or-set_same, get_or-set_other}
use Rattle.std.proofs.lemmas.List.Folds.{list_any_at}
use Rattle.std.proofs.lemmas.List.FromFn.{get_or-range_with_len, length-range_with_len}
use Rattle.tao_base.specs.Buckets.{IsInForm}
use Rattle.tao_base.specs.Limits.{Shape, IsShape, slots_len, tag_len}
use Rattle.tao_base.specs.Session.{Opening}
use Rattle.tao_base.specs.Tree.{node_count}
use Rattle.tao_base.specs.declared.calls.Op.{Op}
use Rattle.tao_base.specs.declared.parameters.Form.{Form}
use Rattle.tao_base.specs.declared.parameters.Form.TheVariants.{One, Two, Turn}
use Rattle.tao_base.specs.declared.session.Cause.{Cause}
use Rattle.tao_base.specs.declared.session.Event.{Event}
use Rattle.tao_base.specs.declared.session.Event.TheVariants.{Arrive, Done, Issue, Acked, Fault}
use Rattle.tao_base.specs.declared.storage.Bucket.{Bucket}
use Rattle.tao_base.specs.declared.storage.Order.{Order}
use Rattle.tao_bucket.specs.Encoding.{IsWritten, format_of, tag_of}
use Rattle.tao_images.specs.Honesty.{HasTagOf}
use Rattle.tao_images.specs.Orders.{IsOrderOf}
use Rattle.tao_images.specs.Paths.{piece}
use Rattle.tao_images.proofs.OrderLemmas.{tags}
use Rattle.tao_model.specs.Lawful.{IsOpening, OpensWithLoad}
use Rattle.tao_model.specs.OneMore.{with_one_more}
use Rattle.tao_model.specs.Residence.{bucket_of, Unaltered}
use Rattle.tao_model.specs.Trace.{nodes_in}
use Rattle.tao_model.proofs.Stays.{newest_first}
use Rattle.tao_tables.specs.Tags.{ReplacesTags}
use Rattle.tao_tables.proofs.KeptFlags.{tags_are_told, tags_at_start}
use Rattle.tao_tables.proofs.KeptWrites.{bucket_there}
use Rattle.tao_processor.specs.Groups.{KeepsTags}
use Rattle.tao_processor.specs.Tags.{has_tag, tag_at, HasTagsOf, SetsTags, KeepsTagsOf}

-- a store that writes format 2 has places for tags
pub tags_long : (form : Form) → IsWritten form 2 → tag_len form ≡ 32
tags_long One two = absurd cc
tags_long Two two = refl
tags_long Turn two = refl

-- if any version has tags, that of the first write-back has
pub tagged_later : (form : Form) (version : ℕ) → format_of form version ≡ 2 → format_of form 1 ≡ 2
tagged_later One version two = two
tagged_later Two version two = refl
tagged_later Turn version two = refl

-- ---- what one more event keeps

-- the group after each kind of event
pub record TagsGoOn (key : List ℕ) (o : Opening) (events : List Event) (kept : List (List ℕ)) : Type 0 where
  pub arrive : (client : ℕ) (op : Op) (word : ℕ) → KeepsTags key o (with_one_more events (Arrive client op word)) kept
  pub done : (i : ℕ) (taken : List Bucket) → Unaltered (HasTagOf key o.shape) o (Done i taken ∷ reverse events) → KeepsTags key o (with_one_more events (Done i taken)) kept
  pub issue : (version nonce : ℕ) (buckets : List Bucket) (now : List (List ℕ)) → ReplacesTags (has_tag o.shape) (tag_of key o.shape) version buckets (tag_at kept) (tag_at now)
      → length now ≡ length kept → KeepsTags key o (with_one_more events (Issue version nonce buckets)) now
  pub acked : (version : ℕ) → KeepsTags key o (with_one_more events (Acked version)) kept
  pub fault : (cause : Cause) → KeepsTags key o (with_one_more events (Fault cause)) kept

pub tags_go_on : (key : List ℕ) (o : Opening) (events : List Event) (kept : List (List ℕ)) → KeepsTags key o (reverse events) kept → TagsGoOn key o events kept
tags_go_on key o events kept is = record {
  arrive = λ client op word. record {
    places = is.places;
    told = (tags_are_told (has_tag o.shape) (tag_of key o.shape) o events (tag_at kept) is.told).arrive client op word;
    taken = rw (newest_first events (Arrive client op word)) is.taken;
  };
  done = λ i taken honest. record {
    places = is.places;
    told = (tags_are_told (has_tag o.shape) (tag_of key o.shape) o events (tag_at kept) is.told).done i taken;
    taken = rw (newest_first events (Done i taken)) honest;
  };
  issue = λ version nonce buckets now new as_many. record {
    places = λ two. let there = is.places two in omega (arith, as_many);
    told = (tags_are_told (has_tag o.shape) (tag_of key o.shape) o events (tag_at kept) is.told).issue version nonce buckets (tag_at now) new;
    taken = rw (newest_first events (Issue version nonce buckets)) is.taken;
  };
  acked = λ version. record {
    places = is.places;
    told = (tags_are_told (has_tag o.shape) (tag_of key o.shape) o events (tag_at kept) is.told).acked version;
    taken = rw (newest_first events (Acked version)) is.taken;
  };
  fault = λ cause. record {
    places = is.places;
    told = (tags_are_told (has_tag o.shape) (tag_of key o.shape) o events (tag_at kept) is.told).fault cause;
    taken = rw (newest_first events (Fault cause)) is.taken;
  };
}

-- the group at the start
pub tags_from_load : (key : List ℕ) (o : Opening) (kept : List (List ℕ)) → IsOpening o → OpensWithLoad o → HasTagsOf key o.shape o.loaded kept → KeepsTags key o [] kept
tags_from_load key o kept opening opens has = record {
  places = has.places;
  told = tags_at_start (has_tag o.shape) (tag_of key o.shape) o (tag_at kept) opening opens (λ w x two here. has.own w x (eqb-true (format_of o.shape.form 0) 2 two) here);
  taken = tt;
}

-- ---- the tags of an order

-- where the bucket of a node stands
bucket_place : (w : ℕ) (buckets : List Bucket) (x : Bucket) → bucket_of w buckets ≡ Some x → (k : ℕ) × (k < length buckets) × (x ≡ get_or buckets k x) × (x.node ≡ w)
bucket_place w [] x is = absurd (true≢false (sym (ap is_some is)))
bucket_place w (b ∷ buckets) x is = either (nat_eq b.node w) refl is (bucket_place w buckets x)
  where
    either : (t : Bool) → nat_eq b.node w ≡ t → cond t (Some b) (bucket_of w buckets) ≡ Some x
        → (bucket_of w buckets ≡ Some x → (k : ℕ) × (k < length buckets) × (x ≡ get_or buckets k x) × (x.node ≡ w))
        → (k : ℕ) × (k < length (b ∷ buckets)) × (x ≡ get_or (b ∷ buckets) k x) × (x.node ≡ w)
    either true here found later = (0, omega arith, sym (same_Some b x found), sym (ap (λ (y : Bucket). y.node) (same_Some b x found)) ∙ eqb-true b.node w here)
    either false other found later = let at = later found in (suc at.0, omega (arith, at.1), at.2, at.3)

-- the node of each bucket has one
node_there : (w : ℕ) (buckets : List Bucket) (k : ℕ) → k < length buckets → slice_index (nodes_in buckets) k ≡ w → is_some (bucket_of w buckets) ≡ true
node_there w buckets k low here =
    let long = length-map buckets (λ bucket. bucket.node) in
    bucket_there w buckets ∙ list_any_at (λ v. nat_eq v w) (nodes_in buckets) k 0 (omega arith) (eq-eqb (get_or (nodes_in buckets) k 0) w here)

-- what `keep_tags` does replaces the tags of a write-back
pub replaces : (key : List ℕ) (s : Shape) (version nonce : ℕ) (buckets : List Bucket) (order : Order) (kept now : List (List ℕ)) → IsShape s → IsOrderOf key s version nonce buckets order
    → All (IsInForm s) buckets → KeepsTagsOf s order kept now → ReplacesTags (has_tag s) (tag_of key s) version buckets (tag_at kept) (tag_at now) × (length now ≡ length kept)
replaces key s version nonce buckets order kept now shape is forms keeps = either (cases_Bool (eqb (format_of s.form version) 2))
  where
    numbered : order.version ≡ version
    numbered = ap (λ (x : Order). x.version) is

    nodes : order.nodes ≡ nodes_in buckets
    nodes = ap (λ (x : Order). x.nodes) is

    long : length order.nodes ≡ length buckets
    long = ap length nodes ∙ length-map buckets (λ bucket. bucket.node)

    own : format_of s.form version ≡ 2 → (w : ℕ) (x : Bucket) → bucket_of w buckets ≡ Some x → tag_at now w ≡ tag_of key s x
    own two w x here =
        let sets = keeps.tagged (ap (format_of s.form) numbered ∙ two) in
        let at = bucket_place w buckets x here in
        let node : slice_index order.nodes at.0 ≡ w = ap (λ (ns : List ℕ). slice_index ns at.0) nodes ∙ get_or-map (λ (bucket : Bucket). bucket.node) buckets at.0 x 0 at.1 ∙ ap (λ (y : Bucket). y.node) (sym at.2) ∙ at.3 in
        ap (tag_at now) (sym node) ∙ sets.own at.0 (omega (arith, long, at.1)) ∙ tags key s version nonce buckets order at.0 x shape is forms two at.1 at.2

    others : SetsTags s order (length order.nodes) kept now → (w : ℕ) → is_some (bucket_of w buckets) ≡ false → tag_at now w ≡ tag_at kept w
    others sets w none = sets.others w (λ k low here.
        true≢false (sym (node_there w buckets k (omega (arith, long)) (ap (λ (ns : List ℕ). slice_index ns k) (sym nodes) ∙ here)) ∙ none))

    either : (eqb (format_of s.form version) 2 ≡ true) ⊎ (eqb (format_of s.form version) 2 ≡ false)
        → ReplacesTags (has_tag s) (tag_of key s) version buckets (tag_at kept) (tag_at now) × (length now ≡ length kept)
    either (inl is_two) =
        let two = eqb-true (format_of s.form version) 2 is_two in
        let sets = keeps.tagged (ap (format_of s.form) numbered ∙ two) in
        (record { others = others sets; own = λ w x has here. own two w x here }, sets.as_many)
    either (inr other) =
        let same = keeps.untagged (λ two. true≢false (sym (eq-eqb (format_of s.form version) 2 (ap (format_of s.form) (sym numbered) ∙ two)) ∙ other)) in (
          record { others = λ w none. ap (λ (ts : List (List ℕ)). tag_at ts w) same; own = λ w x has here. absurd (true≢false (sym has ∙ other)) },
          ap length same,
        )

-- ---- the tags of a load

-- the buckets of all nodes from the root on
pub loaded_tags : (key : List ℕ) (s : Shape) (loaded : List Bucket) (first : List ℕ) → nodes_in loaded ≡ range_with_len 1 (node_count s.l)
    → HasTagsOf key s loaded (first ∷ map (tag_of key s) loaded)
loaded_tags key s loaded first nodes = record {
  places = λ two. omega (arith, long, length-map loaded (tag_of key s));
  own = λ w x two here.
      let at = bucket_place w loaded x here in
      let counted : w ≡ 1 + at.0 =
      sym at.3 ∙ ap (λ (y : Bucket). y.node) at.2 ∙ sym (get_or-map (λ (bucket : Bucket). bucket.node) loaded at.0 x 0 at.1) ∙ ap (λ (ns : List ℕ). get_or ns at.0 0) nodes
      ∙ get_or-range_with_len 1 (node_count s.l) at.0 0 (omega (arith, long, at.1)) in
      let place : w ≡ suc at.0 = omega (arith, counted) in
      ap (tag_at (first ∷ map (tag_of key s) loaded)) place ∙ get_or-map (tag_of key s) loaded at.0 x [] at.1 ∙ ap (tag_of key s) (sym at.2);
}
  where
    long : length loaded ≡ node_count s.l
    long = sym (length-map loaded (λ bucket. bucket.node)) ∙ ap length nodes ∙ length-range_with_len 1 (node_count s.l)

-- ---- the loop over an order's nodes

-- of rising numbers a later one is greater
later_greater : (xs : List ℕ) (i m : ℕ) → IsStrictlyIncreasing xs → i + m + 1 < length xs → slice_index xs i < slice_index xs (i + m + 1)
later_greater xs i zero rises low = let step = rises i (omega arith) in let plus : i + zero + 1 ≡ i + 1 = omega arith in subst (λ k. slice_index xs i < slice_index xs k) (sym plus) step
later_greater xs i (suc m) rises low =
    let before = later_greater xs i m rises (omega arith) in
    let step = rises (i + m + 1) (omega arith) in
    let plus : i + suc m + 1 ≡ i + m + 1 + 1 = omega arith in
    subst (λ k. slice_index xs i < slice_index xs k) (sym plus) (omega arith)

-- of rising numbers no two are the same
earlier_other : (xs : List ℕ) (k i : ℕ) → IsStrictlyIncreasing xs → k < i → i < length xs → slice_index xs k ≢ slice_index xs i
earlier_other xs k i rises low high same =
    let plus : k + (i - (k + 1)) + 1 ≡ i = omega arith in
    let less = subst (λ j. slice_index xs k < slice_index xs j) plus (later_greater xs k (i - (k + 1)) rises (omega arith)) in
    omega (arith, less, same)

-- one more node has its tag
pub sets_more : (s : Shape) (order : Order) (i : ℕ) (nodes : List ℕ) (kept now : List (List ℕ)) (piece_bytes tag : List ℕ) → nodes ≡ order.nodes → IsStrictlyIncreasing order.nodes → i < length order.nodes
    → All (λ node. node < length kept) order.nodes → piece_bytes ≡ piece s order.image i → tag ≡ drop (slots_len s.z s.b) piece_bytes → SetsTags s order i kept now
    → SetsTags s order (i + 1) kept (set now (slice_index_or nodes i 0) tag)
sets_more s order i nodes kept now piece_bytes tag same rises low within piece_is tag_is sets =
    subst (λ (ns : List ℕ). SetsTags s order (i + 1) kept (set now (slice_index_or ns i 0) tag)) (sym same) (record {
      as_many = length-set now node tag ∙ sets.as_many;
      own = λ k below. own k below (cases_lt k i);
      others = λ w none. get_or-set_other now node w tag [] (λ here. none i (omega arith) (sym here)) ∙ sets.others w (λ k below. none k (omega arith));
    })
  where
    node : ℕ
    node = slice_index order.nodes i

    there : node < length now
    there = let small = within i 0 low in let many = sets.as_many in omega (arith, small, many)

    own : (k : ℕ) → k < i + 1 → (k < i) ⊎ (i ≤ k) → tag_at (set now node tag) (slice_index order.nodes k) ≡ drop (slots_len s.z s.b) (piece s order.image k)
    own k below (inl less) = get_or-set_other now node (slice_index order.nodes k) tag [] (earlier_other order.nodes k i rises less low) ∙ sets.own k less
    own k below (inr more) =
        let last : k ≡ i = omega arith in
        subst (λ j. tag_at (set now node tag) (slice_index order.nodes j) ≡ drop (slots_len s.z s.b) (piece s order.image j)) (sym last)
        (get_or-set_same now node tag [] there ∙ tag_is ∙ ap (drop (slots_len s.z s.b)) piece_is)
