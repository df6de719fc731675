-- A record retold with other operations: the places that its arrivals use, and the permutation. The events are newest first.
use Rattle.std.proofs.Common.{◌≡◌, ℕ, ◌+◌, not, List, [], ◌∷◌, ◌++◌, map, filter, reverse, slice_index, get_or, refl, sym, ap, ◌∙◌, arith, nat_eq}
use Rattle.std.specs.List.{list_any, position_or_len, range_with_len}
use Rattle.std.proofs.lemmas.List.{reverse-reverse}
use Rattle.tao_base.specs.declared.calls.Op.{Op}
use Rattle.tao_base.specs.declared.session.Event.{Event}
use Rattle.tao_base.specs.declared.session.Event.TheVariants.{Arrive, Done, Issue, Acked, Fault}
use Rattle.tao_base.specs.Session.{Opening, History}
use Rattle.tao_model.specs.Events.{arrived}
use Rattle.tao_model.specs.Requests.{word_used}
use Rattle.tao_model.specs.Replies.{op_of, ops}
use Rattle.tao_model.specs.Shapes.{Step, asks, takes_in, writes, acknowledges, steps_of, used_places, all_places}
use Rattle.tao_laws.specs.Retold.{retold, RetoldIsTwin, PlacesMove}
use Rattle.tao_laws.proofs.KindsAlone.{picked_back, same_steps, kinds_need_no_word}
use Rattle.tao_laws.proofs.Listings.{length_listing, place_at}
use Rattle.tao_laws.proofs.Permutations.{places_listed}
use Rattle.tao_laws.proofs.ToldTraces.{asked, asked_is}

-- ---- what doesn't depend on the operations

pub steps_retold : (f : ℕ → Op) (es : List Event) → steps_of (retold f es) ≡ steps_of es
steps_retold f [] = refl
steps_retold f (Arrive client op word ∷ es) = rw (steps_retold f es) refl
steps_retold f (Done arrival taken ∷ es) = rw (steps_retold f es) refl
steps_retold f (Issue version nonce buckets ∷ es) = rw (steps_retold f es) refl
steps_retold f (Acked version ∷ es) = rw (steps_retold f es) refl
steps_retold f (Fault cause ∷ es) = steps_retold f es

pub arrived_retold : (f : ℕ → Op) (es : List Event) → arrived (retold f es) ≡ arrived es
arrived_retold f es = asked_is (retold f es) ∙ ap asked (steps_retold f es) ∙ sym (asked_is es)

pub same_count : (es others : List Event) → steps_of es ≡ steps_of others → arrived es ≡ arrived others
same_count es others steps = asked_is es ∙ ap asked steps ∙ sym (asked_is others)

abbrev asked_ops : (ℕ → Op) → List Step → List Op
asked_ops f [] = []
asked_ops f (asks client ∷ steps) = f (asked steps) ∷ asked_ops f steps
asked_ops f (takes_in arrival ∷ steps) = asked_ops f steps
asked_ops f (writes version ∷ steps) = asked_ops f steps
asked_ops f (acknowledges version ∷ steps) = asked_ops f steps

pub ops_retold : (f : ℕ → Op) (es : List Event) → ops (retold f es) ≡ asked_ops f (steps_of es)
ops_retold f [] = refl
ops_retold f (Arrive client op word ∷ es) = rw (asked_is es, ops_retold f es) refl
ops_retold f (Done arrival taken ∷ es) = ops_retold f es
ops_retold f (Issue version nonce buckets ∷ es) = ops_retold f es
ops_retold f (Acked version ∷ es) = ops_retold f es
ops_retold f (Fault cause ∷ es) = ops_retold f es

pub used_by : (o : Opening) (es : List Event) (other : Opening) (others : List Event) → o.shape ≡ other.shape → steps_of es ≡ steps_of others → ops es ≡ ops others → (i : ℕ)
    → word_used o es i ≡ word_used other others i
used_by o es other others shape steps operations i =
    ap (λ l. word_used o l i) (sym (reverse-reverse es))
    ∙ (kinds_need_no_word first second (record { parameters = shape; steps = same_steps es others steps })
    (picked_back op_of es ∙ ap reverse operations ∙ sym (picked_back op_of others))).used i
    ∙ ap (λ l. word_used other l i) (reverse-reverse others)
  where
    first : History
    first = record { opening = o; events = reverse es }

    second : History
    second = record { opening = other; events = reverse others }

pub used_told : (f : ℕ → Op) (o : Opening) (es : List Event) (other : Opening) (others : List Event) → o.shape ≡ other.shape → steps_of es ≡ steps_of others → retold f others ≡ others → (i : ℕ)
    → word_used o (retold f es) i ≡ word_used other others i
used_told f o es other others shape steps told i =
    used_by o (retold f es) other others shape (steps_retold f es ∙ steps)
    (ops_retold f es ∙ ap (asked_ops f) steps ∙ sym (ops_retold f others) ∙ ap ops told) i

-- ---- the permutation

map_same : (g h : ℕ → ℕ) → ((i : ℕ) → g i ≡ h i) → (xs : List ℕ) → map g xs ≡ map h xs
map_same g h same [] = refl
map_same g h same (x ∷ xs) = rw (same x, map_same g h same xs) refl

abbrev all_at : ℕ → List ℕ → List ℕ
all_at n l = l ++ filter (λ place. not (list_any (λ used. nat_eq used place) l)) (range_with_len 0 n)

places_same : (o : Opening) (es : List Event) (other : Opening) (others : List Event) → o.shape.n ≡ other.shape.n → arrived es ≡ arrived others
    → ((i : ℕ) → word_used o es i ≡ word_used other others i) → all_places o es ≡ all_places other others
places_same o es other others blocks as_many used = glue used_same
  where
    used_same : used_places o es ≡ used_places other others
    used_same = map_same (word_used o es) (word_used other others) used (range_with_len 0 (arrived es)) ∙ ap (λ n. map (word_used other others) (range_with_len 0 n)) as_many

    glue : used_places o es ≡ used_places other others → all_places o es ≡ all_places other others
    glue same = ap (λ l. l ++ filter (λ place. not (list_any (λ used. nat_eq used place) l)) (range_with_len 0 (o.shape.n + arrived es))) same
        ∙ ap (λ n. all_at n (used_places other others)) (ap (λ b. b + arrived es) blocks ∙ ap (λ a. other.shape.n + a) as_many)

pub retold_is_twin : RetoldIsTwin
retold_is_twin f o es other others place shape steps told =
    ap (λ l. slice_index l (position_or_len (λ known. nat_eq known place) (all_places o es)))
    (sym (places_same o (retold f es) other others (ap (λ s. s.n) shape) (arrived_retold f es ∙ same_count es others steps) (used_told f o es other others shape steps told)))

pub places_move : PlacesMove
places_move o es other others k r low =
    let listing = places_listed o es r in
    let long = length_listing (o.shape.n + arrived es) (all_places o es) listing.once listing.below listing.all in
    ap (λ place. get_or (all_places other others) place 0) (place_at (all_places o es) k listing.once (omega arith))
