-- The tables that fit the events before a place fit those before the next one, once its event is kept.
use Rattle.std.proofs.Common.{◌≡◌, ℕ, ◌+◌, Bool, true, List, [], ◌∷◌, ◌++◌, length, set, sym, ap, ◌∙◌, subst, arith}
use Rattle.tao_base.specs.declared.calls.Op.{Op}
use Rattle.tao_base.specs.declared.session.Event.{Event}
use Rattle.tao_base.specs.declared.session.Event.TheVariants.{Arrive, Done}
use Rattle.tao_base.specs.declared.storage.Bucket.{Bucket}
use Rattle.tao_base.specs.Session.{History}
use Rattle.tao_base.specs.Array.{array_step}
use Rattle.tao_model.specs.Events.{arrived}
use Rattle.tao_trace.specs.Printing.{events_before}
use Rattle.tao_trace.specs.Places.{PlacesState, with_arrival, with_done}
use Rattle.tao_trace.specs.Tables.{AreTables, Fit, IsNext}
use Rattle.tao_trace.specs.declared.tables.Told.{Told}
use Rattle.tao_trace.proofs.Steps.{IsNewRow, tables_arrive, tables_done}

fit_next : (h : History) (place next : ℕ) (e : Event) (told new_told : List Told) (values new_values : List (List ℕ)) (places new_places : PlacesState)
    → Fit h place told values places → IsNext h place e → next ≡ place + 1
    → AreTables h.opening (e ∷ events_before h place) new_told new_values new_places → Fit h next new_told new_values new_places
fit_next h place next e told new_told values new_values places new_places f n at t = record {
  within = let b = n.below in omega arith;
  follows = f.follows;
  tables = subst (λ es. AreTables h.opening es new_told new_values new_places) (sym (ap (events_before h) at ∙ n.before)) t;
}

pub fit_arrive : (h : History) (place next client word own : ℕ) (op : Op) (told new_told : List Told) (values new_values : List (List ℕ)) (places new_places : PlacesState) (row : Told)
    → Fit h place told values places → IsNext h place (Arrive client op word) → next ≡ place + 1 → new_told ≡ told ++ row ∷ []
    → IsNewRow h.opening (events_before h place) client op word row → own ≡ h.opening.shape.n + arrived (events_before h place)
    → new_values ≡ array_step values op → new_places ≡ with_arrival places op own → Fit h next new_told new_values new_places
fit_arrive h place next client word own op told new_told values new_values places new_places row f n at pushed is_row is written moved =
    fit_next h place next (Arrive client op word) told new_told values new_values places new_places f n at
    (subst (λ l. AreTables h.opening (Arrive client op word ∷ events_before h place) l new_values new_places) (sym pushed)
    (subst (λ l. AreTables h.opening (Arrive client op word ∷ events_before h place) (told ++ row ∷ []) l new_places) (sym written)
    (subst (AreTables h.opening (Arrive client op word ∷ events_before h place) (told ++ row ∷ []) (array_step values op)) (sym moved)
    (tables_arrive h.opening (events_before h place) client op word own told values places row n.follows f.tables is_row is))))

pub fit_done : (h : History) (place next arrival : ℕ) (taken : List Bucket) (told : List Told) (values : List (List ℕ)) (places new_places : PlacesState)
    → Fit h place told values places → IsNext h place (Done arrival taken) → next ≡ place + 1 → new_places ≡ with_done places arrival → Fit h next told values new_places
fit_done h place next arrival taken told values places new_places f n at is =
    subst (Fit h next told values) (sym is) (fit_next h place next (Done arrival taken) told told values values places (with_done places arrival) f n at
    (tables_done h.opening (events_before h place) arrival taken told values places n.follows f.tables))
