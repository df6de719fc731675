-- Two plays of one schedule look the same to the server if the second has the first one's words moved.
use Rattle.std.proofs.Common.{◌≡◌, ℕ, suc, ◌<◌, ◌≤◌, false, if◌then◌else◌, List, [], ◌∷◌, ◌++◌, reverse, length, take, drop, Option, Some, None, refl, sym, ap, ◌∙◌, subst, arith, inl, inr, ◌⊎◌}
use Rattle.std.specs.List.{cons_option, flat_map}
use Rattle.std.proofs.lemmas.Bool.{cases_lt, true≢false}
use Rattle.std.proofs.lemmas.List.{reverse-append, reverse-reverse, length-reverse, length-append, take-append-le, take_all, take-append-drop, length_push}
use Rattle.std.proofs.lemmas.List.Elements.{filter_map-append}
use Rattle.tao_base.specs.declared.session.Event.{Event}
use Rattle.tao_base.specs.declared.session.Event.TheVariants.{Arrive, Done, Issue, Acked, Fault}
use Rattle.tao_base.specs.Session.{Opening, History}
use Rattle.tao_base.specs.Tree.{leaf_of}
use Rattle.tao_model.specs.declared.trace.Request.{Request}
use Rattle.tao_model.specs.declared.trace.Request.TheVariants.{Scan}
use Rattle.tao_model.specs.Events.{arrived, has_fault, word_at}
use Rattle.tao_model.specs.Requests.{word_used, fetched_leaf}
use Rattle.tao_model.specs.Lawful.{FollowsLawfully}
use Rattle.tao_model.specs.Trace.{requests, again_of}
use Rattle.tao_model.specs.Shapes.{Step, step_of, steps_of, IsOneShape, HasMovedWords}
use Rattle.tao_model.proofs.Places.{arrived_grows, leaf_stays_later}
use Rattle.tao_model.proofs.LawfulToWhole.{earlier_follows}
use Rattle.tao_laws.specs.TwoPlays.{EqualTraces, LeavesTellTraces}
use Rattle.tao_laws.proofs.DistinctPlaces.{distinct_from, in_range}
use Rattle.tao_laws.proofs.KindsAlone.{picked_back, same_steps}
use Rattle.tao_laws.proofs.ToldTraces.{told, told_again, told_is, again_is, Fetches}
use Rattle.tao_laws.proofs.Permutations.{same_arrived, permutation_is_one_to_one}

-- ---- the steps of a prefix; `es` are newest first

steps_long : (es : List Event) → has_fault es ≡ false → length (steps_of es) ≡ length es
steps_long [] none = refl
steps_long (Arrive client op word ∷ es) none = ap (λ n. suc n) (steps_long es none)
steps_long (Done arrival taken ∷ es) none = ap (λ n. suc n) (steps_long es none)
steps_long (Issue version nonce buckets ∷ es) none = ap (λ n. suc n) (steps_long es none)
steps_long (Acked version ∷ es) none = ap (λ n. suc n) (steps_long es none)
steps_long (Fault cause ∷ es) none = absurd (true≢false none)

one_step : (s : Option Step) → length (cons_option s []) ≤ 1
one_step None = omega arith
one_step (Some s) = omega arith

steps_front : (o : Opening) (es : List Event) (count : ℕ) → FollowsLawfully o es → steps_of (take count (reverse es)) ≡ take count (steps_of (reverse es))
steps_front o [] count f = ap steps_of (take_all count [] (omega arith)) ∙ sym (take_all count [] (omega arith))
steps_front o (e ∷ es) count f = rw (reverse-append (e ∷ []) es, filter_map-append step_of (reverse es) (e ∷ [])) (either (cases_lt (length es) count) (steps_front o es count f.0))
  where
    long : length (steps_of (reverse es)) ≡ length es
    long = ap length (picked_back step_of es) ∙ length-reverse (steps_of es) ∙ steps_long es f.1

    either : (length es < count) ⊎ (count ≤ length es) → steps_of (take count (reverse es)) ≡ take count (steps_of (reverse es))
        → steps_of (take count (reverse es ++ e ∷ [])) ≡ take count (steps_of (reverse es) ++ cons_option (step_of e) [])
    either (inl whole) ih =
        let all = length_push (reverse es) e in
        let events = length-reverse es in
        let steps = length-append (steps_of (reverse es)) (cons_option (step_of e) []) in
        let one = one_step (step_of e) in
        ap steps_of (take_all count (reverse es ++ e ∷ []) (omega arith)) ∙ filter_map-append step_of (reverse es) (e ∷ [])
        ∙ sym (take_all count (steps_of (reverse es) ++ cons_option (step_of e) []) (omega (arith, long)))
    either (inr front) ih =
        let events = length-reverse es in
        ap steps_of (take-append-le count (reverse es) (e ∷ []) (omega arith)) ∙ ih
        ∙ sym (take-append-le count (steps_of (reverse es)) (cons_option (step_of e) []) (omega (arith, long)))

-- a prefix of a lawful record is lawful and fetches the same leaves
record IsFront (o : Opening) (events front : List Event) : Type 0 where
  lawful : FollowsLawfully o (reverse front)
  fewer : arrived (reverse front) ≤ arrived (reverse events)
  leaves : Fetches o (reverse front) (fetched_leaf o (reverse events))

front_of : (o : Opening) (events : List Event) (count : ℕ) → FollowsLawfully o (reverse events) → IsFront o events (take count events)
front_of o events count f = record {
  lawful = lawful;
  fewer = subst (λ l. arrived (reverse (take count events)) ≤ arrived l) (sym split) (arrived_grows (reverse (drop count events)) (reverse (take count events)));
  leaves = λ i h. sym (leaf_stays_later o (reverse (drop count events)) (reverse (take count events)) i lawful h) ∙ ap (λ l. fetched_leaf o l i) (sym split);
}
  where
    split : reverse events ≡ reverse (drop count events) ++ reverse (take count events)
    split = ap reverse (sym (take-append-drop count events)) ∙ reverse-append (take count events) (drop count events)

    lawful : FollowsLawfully o (reverse (take count events))
    lawful = earlier_follows o (reverse (drop count events)) (reverse (take count events)) (subst (FollowsLawfully o) split f)

-- ---- equal leaves

equal_leaves : (first second : History) → FollowsLawfully first.opening (reverse first.events) → FollowsLawfully second.opening (reverse second.events) → IsOneShape first second
    → HasMovedWords first.opening (reverse first.events) second.opening (reverse second.events) → (i : ℕ) → i < arrived (reverse first.events)
    → fetched_leaf first.opening (reverse first.events) i ≡ fetched_leaf second.opening (reverse second.events) i
equal_leaves first second f g one words i there =
    let twin = permutation_is_one_to_one first second (in_range first.opening (reverse first.events) f) (in_range second.opening (reverse second.events) g) one in
    let low = (distinct_from first.opening (reverse first.events) (in_range first.opening (reverse first.events) f)).used_below i there in
    ap (leaf_of first.opening.shape.l) (sym (words (word_used first.opening (reverse first.events) i) low))
    ∙ ap (λ place. leaf_of first.opening.shape.l (word_at second.opening (reverse second.events) place)) (twin.used i there)
    ∙ ap (λ s. leaf_of s.l (word_at second.opening (reverse second.events) (word_used second.opening (reverse second.events) i))) one.parameters

-- ---- equal requests

again_same : (f g : ℕ → List Request) → ((v : ℕ) → f v ≡ g v) → (versions : List ℕ) → flat_map f versions ≡ flat_map g versions
again_same f g same [] = refl
again_same f g same (v ∷ versions) = rw (same v, again_same f g same versions) refl

pub leaves_tell_traces : LeavesTellTraces
leaves_tell_traces first second f g one leaves = record {
  leaves = leaves;
  fronts = fronts;
  whole = λ again scanned. ap (λ r. r ++ (if scanned then Scan ∷ [] else []))
      (ap (λ r. r ++ flat_map (again_of es) again) requests_same ∙ ap (λ r. requests other others ++ r) (again_same (again_of es) (again_of others) stores_same again));
}
  where
    o : Opening
    o = first.opening

    other : Opening
    other = second.opening

    es : List Event
    es = reverse first.events

    others : List Event
    others = reverse second.events

    -- the second play fetches the first one's leaves
    fetches_too : Fetches other others (fetched_leaf o es)
    fetches_too i h = let as_many = same_arrived first second one in sym (leaves i (omega arith))

    steps : steps_of es ≡ steps_of others
    steps = same_steps first.events second.events one.steps

    requests_same : requests o es ≡ requests other others
    requests_same = told_is o es (fetched_leaf o es) f (λ i h. refl) ∙ ap (λ s. told s (fetched_leaf o es) (steps_of es)) one.parameters
        ∙ ap (told other.shape (fetched_leaf o es)) steps ∙ sym (told_is other others (fetched_leaf o es) g fetches_too)

    stores_same : (v : ℕ) → again_of es v ≡ again_of others v
    stores_same v = again_is o es (fetched_leaf o es) v f (λ i h. refl) ∙ ap (λ s. told_again s (fetched_leaf o es) (steps_of es) v) one.parameters
        ∙ ap (λ s. told_again other.shape (fetched_leaf o es) s v) steps ∙ sym (again_is other others (fetched_leaf o es) v g fetches_too)

    fronts : (count : ℕ) → requests o (reverse (take count first.events)) ≡ requests other (reverse (take count second.events))
    fronts count =
        let front = front_of o first.events count f in
        let front_too = front_of other second.events count g in
        let fewer = front_too.fewer in
        let steps_same : steps_of (take count first.events) ≡ steps_of (take count second.events) =
        ap (λ l. steps_of (take count l)) (sym (reverse-reverse first.events)) ∙ steps_front o es count f ∙ ap (λ l. take count (steps_of l)) (reverse-reverse first.events)
        ∙ ap (take count) one.steps
        ∙ ap (λ l. take count (steps_of l)) (sym (reverse-reverse second.events)) ∙ sym (steps_front other others count g) ∙ ap (λ l. steps_of (take count l)) (reverse-reverse second.events) in
        told_is o (reverse (take count first.events)) (fetched_leaf o es) front.lawful front.leaves
        ∙ ap (λ s. told s (fetched_leaf o es) (steps_of (reverse (take count first.events)))) one.parameters
        ∙ ap (told other.shape (fetched_leaf o es)) (same_steps (take count first.events) (take count second.events) steps_same)
        ∙ sym (told_is other (reverse (take count second.events)) (fetched_leaf o es) front_too.lawful
        (λ i h. front_too.leaves i h ∙ fetches_too i (omega arith)))

pub equal_traces : EqualTraces
equal_traces first second f g one words = leaves_tell_traces first second f g one (equal_leaves first second f g one words)
