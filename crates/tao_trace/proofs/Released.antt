-- What the flags of the arrivals tell of a record. The events `es` are newest first.
use Rattle.std.proofs.Common.{◌≡◌, ℕ, ◌<◌, ◌≤◌, Bool, true, false, ◌||◌, List, [], ◌∷◌, length, replicate, set, get_or, sym, ap, ◌∙◌, arith, inl, inr, ◌⊎◌, nat_eq}
use Rattle.std.proofs.lemmas.Bool.{cases_lt, true≢false}
use Rattle.std.proofs.lemmas.List.{length-set, length-replicate, get_or-replicate, get_or_past}
use Rattle.tao_base.specs.declared.storage.Bucket.{Bucket}
use Rattle.tao_base.specs.declared.session.Event.{Event}
use Rattle.tao_base.specs.declared.session.Event.TheVariants.{Done}
use Rattle.tao_base.specs.Limits.{session_limit}
use Rattle.tao_base.specs.Session.{Opening, History}
use Rattle.tao_model.specs.Events.{arrived, is_done}
use Rattle.tao_model.specs.Replies.{released}
use Rattle.tao_model.specs.Lawful.{FollowsLawfully}
use Rattle.tao_model.proofs.Places.{done_arrived}
use Rattle.tao_model.proofs.Growth.{IsLeading, leading_is, leading_grows}
use Rattle.tao_model.proofs.LawfulToWhole.{arrived_within}
use Rattle.tao_sequence.specs.Release.{IsReleased}
use Rattle.tao_sequence.proofs.Flags.{raised}
use Rattle.tao_trace.specs.Printing.{events_before}
use Rattle.tao_trace.specs.Places.{PlacesState, AreFlags}
use Rattle.tao_trace.specs.Tables.{Fit}
use Rattle.tao_trace.specs.declared.tables.Told.{Told}
use Rattle.tao_trace.proofs.Following.{front_follows}

-- an arrival that may be done has a flag
pub has_flag : (o : Opening) (es : List Event) (arrival : ℕ) (taken : List Bucket) (flags : List Bool) → AreFlags o es flags → FollowsLawfully o (Done arrival taken ∷ es) → arrival < length flags
has_flag o es arrival taken flags are f = let len = are.len in let limit = arrived_within o es f.0 in let there = f.2.1.arrived in omega arith

-- what the flags say is released is what the record has released
pub released_is : (o : Opening) (es : List Event) (flags : List Bool) (r : ℕ) → FollowsLawfully o es → AreFlags o es flags → IsReleased flags r → r ≡ released es
released_is o es flags r f are is =
    let low = leading_grows (is_done es) (is_done es) (arrived es) (arrived es) r (released es) leads last (omega arith) (λ i h. h) in
    let high = leading_grows (is_done es) (is_done es) (arrived es) (arrived es) (released es) r last leads (omega arith) (λ i h. h) in
    omega arith
  where
    last : IsLeading (is_done es) (arrived es) (released es)
    last = leading_is (is_done es) (arrived es)

    within : (arrived es < r) ⊎ (r ≤ arrived es) → r ≤ arrived es
    within (inl past) = absurd (true≢false (sym (sym (are.each (arrived es)) ∙ is.below (arrived es) past) ∙ done_arrived o es (arrived es) f (omega arith)))
    within (inr low) = low

    leads : IsLeading (is_done es) (arrived es) r
    leads = record {
      within = within (cases_lt (arrived es) r);
      below = λ i small. sym (are.each i) ∙ is.below i small;
      next = λ early. sym (are.each r) ∙ is.stops;
    }

-- what the tables say is released
pub released_told : (h : History) (place : ℕ) (told : List Told) (values : List (List ℕ)) (places : PlacesState) (r : ℕ) → Fit h place told values places → IsReleased places.done r
    → (r ≡ released (events_before h place)) × (r ≤ arrived (events_before h place))
released_told h place told values places r f is =
    let same = released_is h.opening (events_before h place) places.done r (front_follows h place f.follows) f.tables.tape.dones is in
    let within = (leading_is (is_done (events_before h place)) (arrived (events_before h place))).within in
    (same, omega (arith, same, within))
