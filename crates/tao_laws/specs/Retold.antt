-- A record retold with other operations, and where the places of its tape go. The events are newest first.
use Rattle.std.specs.Prelude.{◌≡◌, ℕ, ◌+◌, ◌<◌, List, [], ◌∷◌, slice_index}
use Rattle.tao_base.specs.declared.calls.Op.{Op}
use Rattle.tao_base.specs.declared.session.Event.{Event}
use Rattle.tao_base.specs.declared.session.Event.TheVariants.{Arrive, Done, Issue, Acked, Fault}
use Rattle.tao_base.specs.Session.{Opening}
use Rattle.tao_model.specs.Events.{arrived}
use Rattle.tao_model.specs.Shapes.{steps_of, all_places, twin_permutation}
use Rattle.tao_laws.specs.TapeWords.{AreInRange}

-- the events with another operation for each arrival
abbrev pub retold : (ℕ → Op) → List Event → List Event
retold asks [] = []
retold asks (Arrive client op word ∷ es) = Arrive client (asks (arrived es)) word ∷ retold asks es
retold asks (Done arrival taken ∷ es) = Done arrival taken ∷ retold asks es
retold asks (Issue version nonce buckets ∷ es) = Issue version nonce buckets ∷ retold asks es
retold asks (Acked version ∷ es) = Acked version ∷ retold asks es
retold asks (Fault cause ∷ es) = Fault cause ∷ retold asks es

-- where a place of the tape goes in the replay
abbrev pub retold_place : (ℕ → Op) → Opening → List Event → ℕ → ℕ
retold_place asks o es place = twin_permutation o es o (retold asks es) place

-- The permutation that made the tape is that of the two plays, once the second has played all steps.
abbrev pub RetoldIsTwin : Type 0
RetoldIsTwin = (asks : ℕ → Op) (o : Opening) (es : List Event) (other : Opening) (others : List Event) (place : ℕ)
    → o.shape ≡ other.shape → steps_of es ≡ steps_of others → retold asks others ≡ others
    → twin_permutation o es other others place ≡ retold_place asks o es place

-- The twin permutation takes the k-th place to the k-th place.
abbrev pub PlacesMove : Type 0
PlacesMove = (o : Opening) (es : List Event) (other : Opening) (others : List Event) (k : ℕ) → AreInRange o es → k < o.shape.n + arrived es
    → twin_permutation o es other others (slice_index (all_places o es) k) ≡ slice_index (all_places other others) k
