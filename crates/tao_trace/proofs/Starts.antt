-- The tables before the first event.
use Rattle.std.proofs.Common.{◌≡◌, List, [], length, reverse, sym, ap, ◌∙◌, subst, arith}
use Rattle.tao_base.specs.Session.{History}
use Rattle.tao_model.specs.Lawful.{FollowsLawfully}
use Rattle.tao_trace.specs.Places.{PlacesState, ArePlaces, first_places}
use Rattle.tao_trace.specs.Tables.{Fit}
use Rattle.tao_trace.specs.declared.tables.Told.{Told}
use Rattle.tao_trace.proofs.NextPlaces.{places_first}

pub fit_first : (h : History) (told : List Told) (values : List (List _)) (places : PlacesState) → FollowsLawfully h.opening (reverse h.events) → told ≡ [] → values ≡ h.opening.first
    → places ≡ first_places h.opening.shape → Fit h 0 told values places
fit_first h told values places f none first is = record {
  within = omega arith;
  follows = f;
  tables = record {
    arrivals = ap length none;
    each = λ i d h. let len : length told ≡ 0 = ap length none in absurd (omega arith);
    array = first;
    tape = subst (ArePlaces h.opening []) (sym is) (places_first h.opening);
  };
}
