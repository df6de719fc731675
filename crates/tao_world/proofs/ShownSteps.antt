-- What a player shows is in step.
use Rattle.std.proofs.Common.{◌≡◌, true, false, List, ◌∷◌, [], reverse, refl, ap, ◌∙◌, subst, inl, inr, ◌⊎◌, ℕ}
use Rattle.tao_base.specs.declared.session.Event.{Event}
use Rattle.tao_base.specs.declared.session.Event.TheVariants.{Done, Issue}
use Rattle.tao_base.specs.declared.storage.Bucket.{Bucket}
use Rattle.tao_base.specs.Session.{Opening}
use Rattle.tao_model.specs.Events.{has_fault}
use Rattle.tao_model.specs.Residence.{Unaltered, HasEntriesOf}
use Rattle.tao_held.specs.Held.{IsOfProxy}
use Rattle.tao_held.proofs.HonestSenses.{both_from}
use Rattle.tao_fresh.proofs.FreshCopies.{copies_are_fresh}
use Rattle.tao_fresh.proofs.FreshWriteBacks.{writes_are_fresh}
use Rattle.tao_images.specs.Honesty.{IsUnforged, HasTagOf}
use Rattle.tao_images.proofs.AnswerLemmas.{written_is_unforged}
use Rattle.tao_schedule.specs.Moves.{Move, Arrives, Serves, Completes, Applies, Acknowledges}
use Rattle.tao_schedule.specs.Schedules.{Goes, IsSchedule, TakesIn}
use Rattle.tao_schedule.proofs.ServerVersions.{stays_in_step}
use Rattle.tao_world.specs.Shows.{IsSameBucket}
use Rattle.tao_world.specs.Laws.{ShowsInStep, WholeIsHonest}

taken_up : (o : Opening) (es : List Event) (i : ℕ) (now : List Event) → TakesIn o es i now → has_fault es ≡ false → has_fault now ≡ false
taken_up o es i now t up = either t.2
  where
    either : ((now ≡ Done i t.1 ∷ es) ⊎ ((version : ℕ) × (nonce : ℕ) × (buckets : List Bucket) × (now ≡ Issue version nonce buckets ∷ Done i t.1 ∷ es))) → has_fault now ≡ false
    either (inl is) = ap has_fault is ∙ up
    either (inr (version, nonce, buckets, is)) = ap has_fault is ∙ up

-- no move fails
pub moves_up : (o : Opening) (ms : List Move) (es : List Event) → IsSchedule o ms es → has_fault es ≡ false
unfolding IsSchedule Goes
moves_up o [] es s = ap has_fault s
moves_up o (Arrives client op word ∷ ms) es s = ap has_fault s.2.1 ∙ moves_up o ms s.0 s.1
moves_up o (Serves fetch node ∷ ms) es s = ap has_fault s.2.3 ∙ moves_up o ms s.0 s.1
moves_up o (Completes fetch ∷ ms) es s = taken_up o s.0 fetch es s.2.2 (moves_up o ms s.0 s.1)
moves_up o (Applies version node ∷ ms) es s = ap has_fault s.2.2 ∙ moves_up o ms s.0 s.1
moves_up o (Acknowledges version ∷ ms) es s = ap has_fault s.2.2 ∙ moves_up o ms s.0 s.1

whole_in : (same : Bucket → Bucket → Type 0) (o : Opening) (es : List Event) → ((bucket : Bucket) → same bucket bucket) → Unaltered IsSameBucket o es → Unaltered same o es
whole_in same o es itself whole = both_from IsSameBucket IsSameBucket same o es (λ x y equal also. subst (same x) equal (itself x)) whole whole

pub whole_is_honest : WholeIsHonest
whole_is_honest key h whole = record {
  entries = whole_in HasEntriesOf h.opening (reverse h.events) (λ bucket. refl) whole;
  unforged = whole_in (IsUnforged key h.opening.shape) h.opening (reverse h.events) (written_is_unforged key h.opening.shape) whole;
  tags = whole_in (HasTagOf key h.opening.shape) h.opening (reverse h.events) (λ bucket two. refl) whole;
  by_test = λ test itself. whole_in (λ x y. test x y ≡ true) h.opening (reverse h.events) itself whole;
}

pub shows_in_step : ShowsInStep
shows_in_step ms key h tree fetches stores shows writes = record {
  moves = ms;
  schedule = shows;
  up = moves_up h.opening ms (reverse h.events) shows.schedule;
  copies = copies_are_fresh h.opening h.events proxy honest;
  fresh = writes_are_fresh h.opening h.events proxy honest;
  server = λ node. stays_in_step h.opening ms (reverse h.events) node shows.schedule shows.lawful.follows;
}
  where
    proxy : IsOfProxy h.opening (reverse h.events)
    proxy = record { opens = shows.lawful.opens; follows = shows.lawful.follows; writes = writes }

    honest : Unaltered HasEntriesOf h.opening (reverse h.events)
    honest = whole_in HasEntriesOf h.opening (reverse h.events) (λ bucket. refl) shows.honest
