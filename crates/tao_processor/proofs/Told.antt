-- What readers tell is the record's.
use Rattle.std.proofs.Common.{◌≡◌, ℕ, ◌+◌, ◌-◌, ◌<◌, ◌≤◌, ◌&&◌, ◌⊎◌, inl, inr, Bool, true, false, List, [], ◌∷◌, ◌++◌, reverse, length, Option, Some, None, is_some, nat_lt, nat_le, zero, suc, refl, ap, ◌∙◌, subst, arith}
use Rattle.std.specs.List.{slice_get}
use Rattle.std.proofs.lemmas.Bool.{cases_lt, leb-true, le-leb, lt-ltb, true≢false, false_from_ne_true}
use Rattle.std.proofs.lemmas.List.{reverse-append, reverse-reverse, length-append}
use Rattle.std.proofs.lemmas.Option.{slice_get-get_or}
use Rattle.std.proofs.Math.Seq.{get_or-append_seam}
use Rattle.tao_base.specs.declared.session.Cause.{Cause}
use Rattle.tao_base.specs.declared.session.Event.{Event}
use Rattle.tao_base.specs.declared.session.Event.TheVariants.{Arrive, Done, Issue, Acked, Fault}
use Rattle.tao_base.specs.Session.{Opening}
use Rattle.tao_model.specs.Events.{has_fault, cause_in, issues, is_acked, is_outstanding}
use Rattle.tao_model.specs.Lawful.{FollowsLawfully}
use Rattle.tao_model.proofs.EndingFaults.{cause_is_fault}
use Rattle.tao_tables.specs.Flags.{AckedUpTo}
use Rattle.tao_processor.specs.Readers.{IsFirstOutstanding, cause_told}

-- ---- the end of the record

no_cause : (es : List Event) → has_fault es ≡ false → None ≡ cause_in es
no_cause es none = either (cause_in es) (cause_is_fault es ∙ none)
  where
    either : (x : Option Cause) → is_some x ≡ false → None ≡ x
    either None h = refl
    either (Some cause) h = absurd (true≢false h)

last_event : (xs : List Event) (e : Event) → slice_get (xs ++ e ∷ []) (length (xs ++ e ∷ []) - 1) ≡ Some e
last_event xs e =
    let long : length (xs ++ e ∷ []) ≡ length xs + 1 = length-append xs (e ∷ []) in
    let here : length (xs ++ e ∷ []) - 1 ≡ length xs = omega (arith, long) in
    ap (slice_get (xs ++ e ∷ [])) here ∙ slice_get-get_or (xs ++ e ∷ []) (length xs) e (omega (arith, long)) ∙ ap Some (get_or-append_seam xs e [] e)

told : (o : Opening) (e : Event) (es : List Event) → FollowsLawfully o (e ∷ es) → cause_told (Some e) ≡ cause_in (e ∷ es)
told o (Arrive client op word) es f = no_cause es f.1
told o (Done arrival taken) es f = no_cause es f.1
told o (Issue version nonce buckets) es f = no_cause es f.1
told o (Acked version) es f = no_cause es f.1
told o (Fault cause) es f = refl

reverse_first : (e : Event) (es : List Event) → reverse (e ∷ es) ≡ reverse es ++ e ∷ []
reverse_first e es = reverse-append (e ∷ []) es

cause_from : (o : Opening) (es : List Event) → FollowsLawfully o es → cause_told (slice_get (reverse es) (length (reverse es) - 1)) ≡ cause_in es
cause_from o [] f = refl
cause_from o (e ∷ es) f =
    ap (λ (xs : List Event). cause_told (slice_get xs (length xs - 1))) (reverse_first e es) ∙ ap cause_told (last_event (reverse es) e) ∙ told o e es f

-- the last event of a lawful record tells whether a fault ended it
pub cause_is_last : (o : Opening) (events : List Event) → FollowsLawfully o (reverse events) → cause_told (slice_get events (length events - 1)) ≡ cause_in (reverse events)
cause_is_last o events f = subst (λ (xs : List Event). cause_told (slice_get xs (length xs - 1)) ≡ cause_in (reverse events)) (reverse-reverse events) (cause_from o (reverse events) f)

-- ---- outstanding write-backs

-- a version that isn't issued, or is acknowledged, isn't outstanding
not_outstanding : (es : List Event) (v : ℕ) → (is_acked es v ≡ true) ⊎ (issues es < v) → is_outstanding es v ≡ false
not_outstanding es v (inl done) = rw done (never (nat_lt 0 v) (nat_le v (issues es)))
  where
    never : (a b : Bool) → (a && (b && false)) ≡ false
    never true true = refl
    never true false = refl
    never false b = refl
not_outstanding es v (inr past) = rw (false_from_ne_true (nat_le v (issues es)) (λ h. let low = leb-true v (issues es) h in omega arith)) (never (nat_lt 0 v))
  where
    never : (a : Bool) → (a && false) ≡ false
    never true = refl
    never false = refl

-- the version after those that are all acknowledged
pub first_after : (es : List Event) (r : ℕ) → AckedUpTo es r → r < issues es → IsFirstOutstanding es (Some (r + 1))
first_after es r upto more = (rw (lt-ltb 0 (r + 1) (omega arith), le-leb (r + 1) (issues es) (omega arith), upto.stops) refl, below)
  where
    below : (v : ℕ) → v < r + 1 → is_outstanding es v ≡ false
    below zero low = refl
    below (suc v) low = not_outstanding es (suc v) (inl (upto.below (suc v) (omega arith) (omega arith)))

-- if these are all, none is outstanding
pub none_after : (es : List Event) (r : ℕ) → AckedUpTo es r → issues es ≤ r → IsFirstOutstanding es None
none_after es r upto all zero = refl
none_after es r upto all (suc v) = either (cases_lt r (suc v))
  where
    either : (r < suc v) ⊎ (suc v ≤ r) → is_outstanding es (suc v) ≡ false
    either (inl past) = not_outstanding es (suc v) (inr (let few = all in omega arith))
    either (inr within) = not_outstanding es (suc v) (inl (upto.below (suc v) (omega arith) within))
