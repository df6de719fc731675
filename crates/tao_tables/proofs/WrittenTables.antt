-- What was written, for the tables. The events `es` are newest first.
use Rattle.std.proofs.Common.{◌≡◌, ℕ, ◌+◌, ◌≤◌, Bool, true, false, ◌&&◌, ◌||◌, cond, List, [], ◌∷◌, ◌++◌, reverse, drop, All, Option, Some, None, is_some, refl, sym, ap, ◌∙◌, subst, arith, inl, inr, ◌⊎◌, nat_eq}
use Rattle.std.specs.Option.{option_or}
use Rattle.std.proofs.lemmas.Bool.{eq-eqb, ne_eqb, eqb-true, true≢false, and_parts, or_cases, false_from_ne_true}
use Rattle.std.proofs.lemmas.Option.{same_Some}
use Rattle.std.proofs.lemmas.List.Elements.{All-head, All-tail}
use Rattle.tao_base.specs.declared.session.Event.{Event}
use Rattle.tao_base.specs.declared.session.Event.TheVariants.{Arrive, Done, Issue, Acked, Fault}
use Rattle.tao_base.specs.declared.storage.Bucket.{Bucket}
use Rattle.tao_base.specs.Session.{Opening}
use Rattle.tao_base.specs.Tree.{node_count}
use Rattle.tao_model.specs.Events.{issues}
use Rattle.tao_model.specs.Residence.{bucket_of, is_issued, newest_write, newest_version}
use Rattle.tao_base.specs.Buckets.{IsInForm}
use Rattle.tao_model.specs.Lawful.{OpensWithLoad, FollowsLawfully}
use Rattle.tao_model.specs.WholeRecords.{before}
use Rattle.tao_model.proofs.EventPlaces.{at_split}
use Rattle.tao_model.proofs.FallingPaths.{has}
use Rattle.tao_laws.proofs.Listings.{has_range}
use Rattle.tao_laws.proofs.RecentNodes.{bucket_in}
use Rattle.tao_tables.specs.Writes.{IssuedIs, IsNewestWrite, NewestWrite}
use Rattle.tao_tables.proofs.RisingLists.{or_none}

-- ---- the nodes of a version

issues_grow : (later es : List Event) → issues es ≤ issues (later ++ es)
issues_grow [] es = omega arith
issues_grow (Arrive client op word ∷ later) es = issues_grow later es
issues_grow (Done arrival taken ∷ later) es = issues_grow later es
issues_grow (Issue version nonce buckets ∷ later) es = let grown = issues_grow later es in omega arith
issues_grow (Acked version ∷ later) es = issues_grow later es
issues_grow (Fault cause ∷ later) es = issues_grow later es

issued_known : (o : Opening) (es : List Event) (v w : ℕ) → FollowsLawfully o es → is_issued es v w ≡ true → v ≤ issues es
issued_known o [] v w f on = absurd (true≢false (sym on))
issued_known o (Arrive client op word ∷ es) v w f on = issued_known o es v w f.0 on
issued_known o (Done arrival taken ∷ es) v w f on = issued_known o es v w f.0 on
issued_known o (Issue version nonce buckets ∷ es) v w f on =
    either (or_cases (nat_eq version v && is_some (bucket_of w buckets)) (is_issued es v w) on) (λ earlier. issued_known o es v w f.0 earlier)
  where
    either : ((nat_eq version v && is_some (bucket_of w buckets)) ≡ true) ⊎ (is_issued es v w ≡ true) → (is_issued es v w ≡ true → v ≤ issues es) → v ≤ issues es + 1
    either (inl here) ih = let same : version ≡ v = eqb-true version v (and_parts (nat_eq version v) (is_some (bucket_of w buckets)) here).0 in let next = f.2.next in omega arith
    either (inr earlier) ih = let low = ih earlier in omega arith
issued_known o (Acked version ∷ es) v w f on = issued_known o es v w f.0 on
issued_known o (Fault cause ∷ es) v w f on = issued_known o es v w f.0 on

issued_at : (o : Opening) (later earlier : List Event) (v nonce : ℕ) (buckets : List Bucket) (w : ℕ) → FollowsLawfully o (later ++ Issue v nonce buckets ∷ earlier)
    → is_issued (later ++ Issue v nonce buckets ∷ earlier) v w ≡ is_some (bucket_of w buckets)
issued_at o [] earlier v nonce buckets w f =
    ap (λ t. (t && is_some (bucket_of w buckets)) || is_issued earlier v w) (eq-eqb v v refl)
    ∙ ap (λ t. is_some (bucket_of w buckets) || t) (false_from_ne_true (is_issued earlier v w) (λ on. let known = issued_known o earlier v w f.0 on in let next = f.2.next in omega arith))
    ∙ or_none (is_some (bucket_of w buckets))
issued_at o (Arrive client op word ∷ later) earlier v nonce buckets w f = issued_at o later earlier v nonce buckets w f.0
issued_at o (Done arrival taken ∷ later) earlier v nonce buckets w f = issued_at o later earlier v nonce buckets w f.0
issued_at o (Issue version start others ∷ later) earlier v nonce buckets w f =
    ap (λ t. (t && is_some (bucket_of w others)) || is_issued (later ++ Issue v nonce buckets ∷ earlier) v w) (ne_eqb version v (λ same. never same))
    ∙ issued_at o later earlier v nonce buckets w f.0
  where
    follows_at : (later : List Event) → FollowsLawfully o (later ++ Issue v nonce buckets ∷ earlier) → v ≡ issues earlier + 1
    follows_at [] f = f.2.next
    follows_at (e ∷ later) f = follows_at later f.0

    never : version ≡ v → ⊥
    never same =
        let grown = issues_grow later (Issue v nonce buckets ∷ earlier) in
        let next = f.2.next in
        let first = follows_at later f.0 in
        omega arith
issued_at o (Acked version ∷ later) earlier v nonce buckets w f = issued_at o later earlier v nonce buckets w f.0
issued_at o (Fault cause ∷ later) earlier v nonce buckets w f = issued_at o later earlier v nonce buckets w f.0

pub issued_is : IssuedIs
issued_is o events p version nonce buckets w f here =
    let split = at_split events p (Issue version nonce buckets) here in
    ap (λ es. is_issued es version w) split
    ∙ issued_at o (reverse (drop (p + 1) events)) (before events p) version nonce buckets w (subst (FollowsLawfully o) split f)
    ∙ bucket_in w buckets

-- ---- the latest version

record IsOne (node version : ℕ) (P : Bucket → Type 0) (x : Bucket) : Type 0 where
  node_is : x.node ≡ node
  version_is : x.version ≡ version
  holds : P x

one_of : (P : Bucket → Type 0) (node version : ℕ) (buckets : List Bucket) → All P buckets → All (λ x. x.version ≡ version) buckets → (x : Bucket) → bucket_of node buckets ≡ Some x
    → IsOne node version P x
one_of P node version [] all versions x is = absurd (true≢false (sym (ap is_some is)))
one_of P node version (b ∷ buckets) all versions x is =
    either (nat_eq b.node node) refl is (λ later. one_of P node version buckets (All-tail P b buckets all) (All-tail (λ x. x.version ≡ version) b buckets versions) x later)
  where
    either : (t : Bool) → nat_eq b.node node ≡ t → cond t (Some b) (bucket_of node buckets) ≡ Some x → (bucket_of node buckets ≡ Some x → IsOne node version P x) → IsOne node version P x
    either true here found ih = subst (IsOne node version P) (same_Some b x found) (record {
      node_is = eqb-true b.node node here;
      version_is = All-head (λ x. x.version ≡ version) b buckets versions;
      holds = All-head P b buckets all;
    })
    either false other found ih = ih found

written_one : (o : Opening) (es : List Event) (w : ℕ) → OpensWithLoad o → FollowsLawfully o es → 1 ≤ w → w ≤ node_count o.shape.l → IsNewestWrite o es w
written_one o [] w opens f low high = either (bucket_of w o.loaded) refl
  where
    either : (x : Option Bucket) → bucket_of w o.loaded ≡ x → IsNewestWrite o [] w
    either None is = absurd (true≢false (sym (bucket_in w o.loaded ∙ ap (has w) opens.numbered.nodes ∙ has_range 1 (node_count o.shape.l) w low (omega arith)) ∙ ap is_some is))
    either (Some x) is =
        let one = one_of (IsInForm o.shape) w 0 o.loaded opens.in_form opens.numbered.versions x is in
        record { bucket = x; there = is; node = one.node_is; version = one.version_is; in_form = one.holds }
written_one o (Arrive client op word ∷ es) w opens f low high = let n = written_one o es w opens f.0 low high in
    record { bucket = n.bucket; there = n.there; node = n.node; version = n.version; in_form = n.in_form }
written_one o (Done arrival taken ∷ es) w opens f low high = let n = written_one o es w opens f.0 low high in
    record { bucket = n.bucket; there = n.there; node = n.node; version = n.version; in_form = n.in_form }
written_one o (Issue version nonce buckets ∷ es) w opens f low high = either (bucket_of w buckets) refl (written_one o es w opens f.0 low high)
  where
    either : (x : Option Bucket) → bucket_of w buckets ≡ x → IsNewestWrite o es w → IsNewestWrite o (Issue version nonce buckets ∷ es) w
    either None is n = record {
      bucket = n.bucket;
      there = ap (λ b. option_or b (newest_write o es w)) is ∙ n.there;
      node = n.node;
      version = n.version ∙ sym (ap (λ b. cond (is_some b) version (newest_version es w)) is);
      in_form = n.in_form;
    }
    either (Some x) is n =
        let one = one_of (IsInForm o.shape) w version buckets f.2.in_form f.2.versions x is in
        record {
          bucket = x;
          there = ap (λ b. option_or b (newest_write o es w)) is;
          node = one.node_is;
          version = one.version_is ∙ sym (ap (λ b. cond (is_some b) version (newest_version es w)) is);
          in_form = one.holds;
        }
written_one o (Acked version ∷ es) w opens f low high = let n = written_one o es w opens f.0 low high in
    record { bucket = n.bucket; there = n.there; node = n.node; version = n.version; in_form = n.in_form }
written_one o (Fault cause ∷ es) w opens f low high = let n = written_one o es w opens f.0 low high in
    record { bucket = n.bucket; there = n.there; node = n.node; version = n.version; in_form = n.in_form }

pub newest_write_is : NewestWrite
newest_write_is o events w opens f low high = written_one o (reverse events) w opens f low high
