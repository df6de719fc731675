-- The twin permutation is one to one. The events `es` are newest first.
use Rattle.std.proofs.Common.{◌≡◌, ℕ, ◌+◌, ◌<◌, true, false, not, ◌&&◌, ◌||◌, List, reverse, length, get_or, refl, sym, ap, ◌∙◌, subst, arith, inl, inr, ◌⊎◌}
use Rattle.std.specs.List.{range_with_len}
use Rattle.std.proofs.lemmas.Bool.{cases_Bool, or_cases, or_left, or_right, and_parts}
use Rattle.std.proofs.lemmas.List.{get_or_append_left, length-append}
use Rattle.std.proofs.lemmas.List.FromFn.{get_or-map-range_with_len, length-map-range_with_len}
use Rattle.tao_base.specs.declared.session.Event.{Event}
use Rattle.tao_base.specs.Session.{Opening, History}
use Rattle.tao_model.specs.Events.{arrived}
use Rattle.tao_model.specs.Requests.{word_used, next_word}
use Rattle.tao_model.specs.Shapes.{IsOneShape, used_places, unused_places, all_places}
use Rattle.tao_model.proofs.FallingPaths.{has}
use Rattle.tao_laws.specs.TapeWords.{AreDistinct, AreInRange}
use Rattle.tao_laws.specs.TwoPlays.{moved, PermutationIsOneToOne}
use Rattle.tao_laws.proofs.DistinctPlaces.{distinct_from}
use Rattle.tao_laws.proofs.KindsAlone.{same_steps}
use Rattle.tao_laws.proofs.ToldTraces.{asked, asked_is}
use Rattle.tao_laws.proofs.Listings.{has_filter, has_range, has_append, once_append, once_filter, range_has, once_range, image_has, once_image, place_at, across, across_one_to_one, IsListing}

-- ---- the places of a tape

pub places_listed : (o : Opening) (es : List Event) → AreInRange o es → IsListing (o.shape.n + arrived es) (all_places o es)
places_listed o es f = record {
  once = once_append (used_places o es) (unused_places o es) (once_image (word_used o es) 0 (arrived es) (λ i j low less high. d.used_once i j less (omega arith)))
      (once_filter (λ place. not (has place (used_places o es))) (range_with_len 0 (o.shape.n + arrived es)) (once_range 0 (o.shape.n + arrived es)))
      (λ w h. unused_has w ∙ rw h refl);
  below = λ w h. below w (or_cases (has w (used_places o es)) (has w (unused_places o es)) (sym (has_append w (used_places o es) (unused_places o es)) ∙ h));
  all = λ w low. has_append w (used_places o es) (unused_places o es) ∙ there w low (cases_Bool (has w (used_places o es)));
}
  where
    d : AreDistinct o.shape.n (arrived es) (word_used o es) (next_word o es)
    d = distinct_from o es f

    unused_has : (w : ℕ) → has w (unused_places o es) ≡ (not (has w (used_places o es)) && has w (range_with_len 0 (o.shape.n + arrived es)))
    unused_has w = has_filter (λ place. not (has place (used_places o es))) w (range_with_len 0 (o.shape.n + arrived es))

    below : (w : ℕ) → (has w (used_places o es) ≡ true) ⊎ (has w (unused_places o es) ≡ true) → w < o.shape.n + arrived es
    below w (inl used) =
        let i = image_has (word_used o es) 0 (arrived es) w used in
        let high = i.2 in
        subst (λ k. k < o.shape.n + arrived es) i.3 (d.used_below i.0 (omega arith))
    below w (inr unused) =
        let parts = and_parts (not (has w (used_places o es))) (has w (range_with_len 0 (o.shape.n + arrived es))) (sym (unused_has w) ∙ unused) in
        let high = (range_has 0 (o.shape.n + arrived es) w parts.1).1 in
        omega arith

    there : (w : ℕ) → w < o.shape.n + arrived es → (has w (used_places o es) ≡ true) ⊎ (has w (used_places o es) ≡ false)
        → (has w (used_places o es) || has w (unused_places o es)) ≡ true
    there w low (inl used) = or_left (has w (used_places o es)) (has w (unused_places o es)) used
    there w low (inr new) =
        or_right (has w (used_places o es)) (has w (unused_places o es)) (unused_has w ∙ rw new (has_range 0 (o.shape.n + arrived es) w (omega arith) (omega arith)))

-- place i of all places is the one that arrival i uses
used_at : (o : Opening) (es : List Event) (i : ℕ) → i < arrived es → (i < length (all_places o es)) × (get_or (all_places o es) i 0 ≡ word_used o es i)
used_at o es i there =
    let long = length-map-range_with_len (word_used o es) 0 (arrived es) in
    let longer = length-append (used_places o es) (unused_places o es) in (
      omega arith,
      get_or_append_left (used_places o es) (unused_places o es) 0 i (omega arith)
          ∙ get_or-map-range_with_len (word_used o es) 0 (arrived es) i i 0 there (omega arith),
    )

-- ---- two plays

pub same_arrived : (first second : History) → IsOneShape first second → arrived (reverse first.events) ≡ arrived (reverse second.events)
same_arrived first second one = asked_is (reverse first.events) ∙ ap asked (same_steps first.events second.events one.steps) ∙ sym (asked_is (reverse second.events))

pub permutation_is_one_to_one : PermutationIsOneToOne
permutation_is_one_to_one first second f g one = record { one_to_one = across_one_to_one count (all_places o es) (all_places other others) listed listed_too; used = used }
  where
    o : Opening
    o = first.opening

    other : Opening
    other = second.opening

    es : List Event
    es = reverse first.events

    others : List Event
    others = reverse second.events

    count : ℕ
    count = o.shape.n + arrived es

    listed : IsListing count (all_places o es)
    listed = places_listed o es f

    same : other.shape.n + arrived others ≡ count
    same = rw (ap (λ s. s.n) one.parameters, same_arrived first second one) refl

    listed_too : IsListing count (all_places other others)
    listed_too = subst (λ n. IsListing n (all_places other others)) same (places_listed other others g)

    used : (i : ℕ) → i < arrived es → moved first second (word_used o es i) ≡ word_used other others i
    used i there =
        let here = used_at o es i there in
        let as_many = same_arrived first second one in
        let there_too : i < arrived others = omega arith in
        ap (λ v. across (all_places o es) (all_places other others) v) (sym here.1)
        ∙ ap (λ k. get_or (all_places other others) k 0) (place_at (all_places o es) i listed.once here.0)
        ∙ (used_at other others i there_too).1
