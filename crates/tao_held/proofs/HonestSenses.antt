-- Honest answers in several senses, and earlier ones. The events `es` are newest first.
use Rattle.std.proofs.Common.{◌≡◌, true, List, [], ◌∷◌, ◌++◌, reverse, get_or, Option, Some, None, IfSome, subst}
use Rattle.std.proofs.lemmas.List.{reverse-append}
use Rattle.tao_base.specs.declared.session.Event.{Event}
use Rattle.tao_base.specs.declared.session.Event.TheVariants.{Arrive, Done, Issue, Acked, Fault}
use Rattle.tao_base.specs.declared.storage.Bucket.{Bucket}
use Rattle.tao_base.specs.Session.{Opening}
use Rattle.tao_model.specs.Residence.{newest_write, Unaltered, HasEntriesOf}
use Rattle.tao_held.specs.HonestAnswers.{UnalteredBoth, UnalteredEarlier}

-- for all senses, also those that no test decides
pub both_from : (one other both : Bucket → Bucket → Type 0) (o : Opening) (es : List Event) → ((x y : Bucket) → one x y → other x y → both x y)
    → Unaltered one o es → Unaltered other o es → Unaltered both o es
both_from one other both o [] follows a b = tt
both_from one other both o (Arrive client op word ∷ es) follows a b = both_from one other both o es follows a b
both_from one other both o (Done arrival taken ∷ es) follows a b =
    (both_from one other both o es follows a.0 b.0, λ k d low. each (get_or taken k d) (newest_write o es (get_or taken k d).node) (a.1 k d low) (b.1 k d low))
  where
    each : (x : Bucket) (written : Option Bucket) → IfSome written (one x) → IfSome written (other x) → IfSome written (both x)
    each x None h i = tt
    each x (Some y) h i = follows x y h i
both_from one other both o (Issue version nonce buckets ∷ es) follows a b = both_from one other both o es follows a b
both_from one other both o (Acked version ∷ es) follows a b = both_from one other both o es follows a b
both_from one other both o (Fault cause ∷ es) follows a b = both_from one other both o es follows a b

pub unaltered_both : UnalteredBoth
unaltered_both one other both o events follows a b = both_from (λ x y. one x y ≡ true) (λ x y. other x y ≡ true) (λ x y. both x y ≡ true) o (reverse events) follows a b

without_newest : (same : Bucket → Bucket → Type 0) (o : Opening) (e : Event) (es : List Event) → Unaltered same o (e ∷ es) → Unaltered same o es
without_newest same o (Arrive client op word) es is = is
without_newest same o (Done arrival taken) es is = is.0
without_newest same o (Issue version nonce buckets) es is = is
without_newest same o (Acked version) es is = is
without_newest same o (Fault cause) es is = is

before_later : (same : Bucket → Bucket → Type 0) (o : Opening) (later es : List Event) → Unaltered same o (later ++ es) → Unaltered same o es
before_later same o [] es is = is
before_later same o (e ∷ later) es is = before_later same o later es (without_newest same o e (later ++ es) is)

pub unaltered_before : (same : Bucket → Bucket → Type 0) (o : Opening) (events later : List Event) → Unaltered same o (reverse (events ++ later)) → Unaltered same o (reverse events)
unaltered_before same o events later is = before_later same o (reverse later) (reverse events) (subst (Unaltered same o) (reverse-append events later) is)

pub unaltered_earlier : UnalteredEarlier
unaltered_earlier o events later = record {
  in_entries = unaltered_before HasEntriesOf o events later;
  by_test = λ test. unaltered_before (λ x y. test x y ≡ true) o events later;
}
