-- Unaltered answers are those that were last written, place by place. The events `es` are newest first.
use Rattle.std.proofs.Common.{◌≡◌, ℕ, zero, suc, ◌+◌, ◌≤◌, true, List, [], ◌∷◌, ◌++◌, reverse, length, take, drop, Option, Some, None, is_some, IfSome, refl, sym, ap, ◌∙◌, subst, arith, add-one}
use Rattle.std.specs.Prelude.{slice_index_or}
use Rattle.std.specs.Option.{option_or}
use Rattle.std.proofs.lemmas.Bool.{true≢false}
use Rattle.std.proofs.lemmas.Option.{slice_get_within, slice_get-get_or, get_or_from_slice_get}
use Rattle.tao_base.specs.declared.session.Event.{Event}
use Rattle.tao_base.specs.declared.session.Event.TheVariants.{Arrive, Done, Issue, Acked, Fault}
use Rattle.tao_base.specs.declared.storage.Bucket.{Bucket}
use Rattle.tao_base.specs.Session.{Opening}
use Rattle.tao_base.specs.Tree.{node_count}
use Rattle.tao_model.specs.Events.{issues}
use Rattle.tao_model.specs.Residence.{bucket_of, newest_write, newest_version, Unaltered, HasEntriesOf}
use Rattle.tao_base.specs.Buckets.{IsInForm}
use Rattle.tao_model.specs.Lawful.{FollowsLawfully, OpensWithLoad}
use Rattle.tao_model.specs.LookBacks.{written_at}
use Rattle.tao_model.specs.WholeRecords.{IsAt, before}
use Rattle.tao_model.proofs.EventPlaces.{before_more, before_all, at_split, some_at}
use Rattle.tao_model.proofs.FallingPaths.{has}
use Rattle.tao_model.proofs.GreatestNumbers.{one_greatest}
use Rattle.tao_model.proofs.LawfulToWhole.{follows_at}
use Rattle.tao_model.proofs.NewestWrites.{newest_is_greatest}
use Rattle.tao_laws.specs.HonestFetches.{IsAsWritten, AreAsWritten, UnalteredMeans, UnalteredByTest}
use Rattle.tao_laws.proofs.Listings.{has_range}
use Rattle.tao_laws.proofs.RecentNodes.{bucket_in}

-- ---- each node of the tree was written

pub the_some : {X : Type 0} (x : Option X) → is_some x ≡ true → (y : X) × (x ≡ Some y)
the_some None is = absurd (true≢false (sym is))
the_some (Some y) is = (y, refl)

or_some : {X : Type 0} (x y : Option X) → is_some y ≡ true → is_some (option_or x y) ≡ true
or_some None y is = is
or_some (Some x) y is = refl

pub was_written : (o : Opening) (es : List Event) (w : ℕ) → OpensWithLoad o → 1 ≤ w → w ≤ node_count o.shape.l
    → is_some (newest_write o es w) ≡ true
was_written o [] w opens low high =
    bucket_in w o.loaded ∙ ap (has w) opens.numbered.nodes ∙ has_range 1 (node_count o.shape.l) w low (omega arith)
was_written o (Arrive client op word ∷ es) w opens low high = was_written o es w opens low high
was_written o (Done arrival taken ∷ es) w opens low high = was_written o es w opens low high
was_written o (Issue version nonce buckets ∷ es) w opens low high =
    or_some (bucket_of w buckets) (newest_write o es w) (was_written o es w opens low high)
was_written o (Acked version ∷ es) w opens low high = was_written o es w opens low high
was_written o (Fault cause ∷ es) w opens low high = was_written o es w opens low high

-- ---- one event

module _ (same : Bucket → Bucket → Type 0) (o : Opening) where
  without_newest : (e : Event) (es : List Event) → Unaltered same o (e ∷ es) → Unaltered same o es
  without_newest (Arrive client op word) es is = is
  without_newest (Done arrival taken) es is = is.0
  without_newest (Issue version nonce buckets) es is = is
  without_newest (Acked version) es is = is
  without_newest (Fault cause) es is = is

  unaltered_before : (later es : List Event) → Unaltered same o (later ++ es) → Unaltered same o es
  unaltered_before [] es is = is
  unaltered_before (e ∷ later) es is = unaltered_before later es (without_newest e (later ++ es) is)

  -- what is the same as the latest version of a node of the tree
  as_written : (earlier : List Event) (bucket : Bucket)
      → OpensWithLoad o → FollowsLawfully o (reverse earlier) → IsInForm o.shape bucket
      → IfSome (newest_write o (reverse earlier) bucket.node) (same bucket) → IsAsWritten same o earlier bucket
  as_written earlier bucket opens f form is =
      let newest = newest_is_greatest o earlier bucket.node f in
      let there =
      the_some (newest_write o (reverse earlier) bucket.node) (was_written o (reverse earlier) bucket.node opens form.low form.high) in
      record {
        version = newest_version (reverse earlier) bucket.node;
        greatest = newest.version;
        written = there.0;
        there = sym newest.bucket ∙ there.1;
        is_same = subst (λ x. IfSome x (same bucket)) there.1 is;
      }

  -- and the other way round
  from_written : (earlier : List Event) (bucket : Bucket) → FollowsLawfully o (reverse earlier) → IsAsWritten same o earlier bucket
      → IfSome (newest_write o (reverse earlier) bucket.node) (same bucket)
  from_written earlier bucket f is =
      let newest = newest_is_greatest o earlier bucket.node f in
      let one =
      one_greatest (λ v. is_some (written_at o earlier v bucket.node)) (issues (reverse earlier))
      (newest_version (reverse earlier) bucket.node) is.version newest.version is.greatest in
      let there : newest_write o (reverse earlier) bucket.node ≡ Some is.written =
      newest.bucket ∙ ap (λ v. written_at o earlier v bucket.node) one ∙ is.there in
      subst (λ x. IfSome x (same bucket)) (sym there) is.is_same

  -- ---- the whole

  to_whole : (events : List Event) → OpensWithLoad o → FollowsLawfully o (reverse events) → Unaltered same o (reverse events)
      → AreAsWritten same o events
  to_whole events opens f is p arrival i taken bucket at inside =
      let may = follows_at o events p (Done arrival taken) f at in
      let here : Unaltered same o (Done arrival taken ∷ before events p) =
      unaltered_before (reverse (drop (p + 1) events)) (Done arrival taken ∷ before events p)
      (subst (Unaltered same o) (at_split events p (Done arrival taken) at) is) in
      let low = slice_get_within taken i bucket inside in
      let found = get_or_from_slice_get taken i bucket bucket inside in
      as_written (take p events) bucket opens may.0
      (subst (IsInForm o.shape) found (may.2.1.in_form i bucket low))
      (subst (λ x. IfSome (newest_write o (before events p) x.node) (same x)) found (here.1 i bucket low))

  module _ (events : List Event) (f : FollowsLawfully o (reverse events)) (are : AreAsWritten same o events) where
    with_newest : (p : ℕ) (e : Event) → IsAt events p e → Unaltered same o (before events p) → Unaltered same o (e ∷ before events p)
    with_newest p (Arrive client op word) at is = is
    with_newest p (Done arrival taken) at is = (
      is,
      λ i d low.
          from_written (take p events) (slice_index_or taken i d) (follows_at o events p (Done arrival taken) f at).0
          (are p arrival i taken (slice_index_or taken i d) at (slice_get-get_or taken i d low)),
    )
    with_newest p (Issue version nonce buckets) at is = is
    with_newest p (Acked version) at is = is
    with_newest p (Fault cause) at is = is

    so_far : (p : ℕ) → p ≤ length events → Unaltered same o (before events p)
    so_far zero low = tt
    so_far (suc p) low =
        let there = some_at events p (omega arith) in
        subst (λ n. Unaltered same o (before events n)) (add-one p)
        (subst (Unaltered same o) (sym (before_more events p there.0 there.1)) (with_newest p there.0 there.1 (so_far p (omega arith))))

    to_unaltered : Unaltered same o (reverse events)
    to_unaltered = subst (Unaltered same o) (before_all events) (so_far (length events) (omega arith))

pub unaltered_means : UnalteredMeans
unaltered_means o events opens f = (λ is. to_whole HasEntriesOf o events opens f is, λ are. to_unaltered HasEntriesOf o events f are)

pub unaltered_by_test : UnalteredByTest
unaltered_by_test test o events opens f =
    (λ is. to_whole (λ x y. test x y ≡ true) o events opens f is, λ are. to_unaltered (λ x y. test x y ≡ true) o events f are)
