-- The Fault that ends a record. The events `es` are newest first.
use Rattle.std.proofs.Common.{◌≡◌, Bool, true, false, ◌||◌, List, [], ◌∷◌, reverse, Some, is_some, refl, sym, ap, ◌∙◌}
use Rattle.std.proofs.lemmas.Bool.{true≢false}
use Rattle.std.proofs.lemmas.Option.{same_Some, none-some}
use Rattle.std.proofs.lemmas.List.{reverse-append}
use Rattle.std.proofs.lemmas.List.Folds.{list_any-append}
use Rattle.tao_base.specs.declared.session.Cause.{Cause}
use Rattle.tao_base.specs.declared.session.Event.{Event}
use Rattle.tao_base.specs.declared.session.Event.TheVariants.{Arrive, Done, Issue, Acked, Fault}
use Rattle.tao_base.specs.Session.{Opening, is_fault}
use Rattle.tao_model.specs.Events.{has_fault, cause_in}
use Rattle.tao_model.specs.Lawful.{FollowsLawfully}
use Rattle.tao_model.specs.Faults.{FaultsAgree, CauseIsFault, CauseIsLast}

or_turned : (x y : Bool) → (y || (x || false)) ≡ (x || y)
or_turned true true = refl
or_turned true false = refl
or_turned false true = refl
or_turned false false = refl

fault_either_way : (es : List Event) → has_fault (reverse es) ≡ has_fault es
fault_either_way [] = refl
fault_either_way (e ∷ es) =
    ap has_fault (reverse-append (e ∷ []) es) ∙ list_any-append is_fault (reverse es) (e ∷ [])
    ∙ ap (λ t. t || (is_fault e || false)) (fault_either_way es) ∙ or_turned (is_fault e) (has_fault es)

pub faults_agree : FaultsAgree
faults_agree events = sym (fault_either_way events)

pub cause_is_fault : CauseIsFault
cause_is_fault [] = refl
cause_is_fault (Arrive client op word ∷ es) = cause_is_fault es
cause_is_fault (Done arrival taken ∷ es) = cause_is_fault es
cause_is_fault (Issue version nonce buckets ∷ es) = cause_is_fault es
cause_is_fault (Acked version ∷ es) = cause_is_fault es
cause_is_fault (Fault cause ∷ es) = refl

-- behind an event that is no Fault there was none
not_before : (o : Opening) (es : List Event) (e : Event) (cause : Cause) → FollowsLawfully o (e ∷ es) → cause_in es ≡ Some cause → ⊥
not_before o es e cause f is = true≢false (sym (ap is_some is) ∙ cause_is_fault es ∙ f.1)

pub cause_is_last : CauseIsLast
cause_is_last o [] cause f is = absurd (none-some cause is)
cause_is_last o (Arrive client op word ∷ es) cause f is = absurd (not_before o es (Arrive client op word) cause f is)
cause_is_last o (Done arrival taken ∷ es) cause f is = absurd (not_before o es (Done arrival taken) cause f is)
cause_is_last o (Issue version nonce buckets ∷ es) cause f is = absurd (not_before o es (Issue version nonce buckets) cause f is)
cause_is_last o (Acked version ∷ es) cause f is = absurd (not_before o es (Acked version) cause f is)
cause_is_last o (Fault known ∷ es) cause f is = (es, ap (λ c. Fault c ∷ es) (same_Some known cause is))
