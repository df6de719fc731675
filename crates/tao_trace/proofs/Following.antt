-- What a prefix of a lawful record is, the next event, and the laws over it. The events `es` are newest first.
use Rattle.std.proofs.Common.{◌≡◌, ℕ, ◌+◌, ◌<◌, List, [], ◌∷◌, ◌++◌, length, reverse, take, drop, get_or, refl, sym, ap, ◌∙◌, subst, add-one}
use Rattle.std.proofs.Math.Seq.{take-suc, drop-cons}
use Rattle.std.proofs.lemmas.List.{reverse-append, reverse-reverse, take-append-drop}
use Rattle.tao_base.specs.declared.calls.Op.{Op}
use Rattle.tao_base.specs.declared.session.Event.{Event}
use Rattle.tao_base.specs.declared.session.Event.TheVariants.{Arrive, Done, Issue, Acked, Fault}
use Rattle.tao_base.specs.Session.{Opening, History}
use Rattle.tao_model.specs.Replies.{array_now}
use Rattle.tao_model.specs.Transcript.{event_lines, again_before}
use Rattle.tao_model.specs.Lawful.{FollowsLawfully}
use Rattle.tao_model.specs.OneMore.{AfterArrive}
use Rattle.tao_model.proofs.OneMoreEvent.{one_more_arrive}
use Rattle.tao_model.proofs.LawfulToWhole.{earlier_follows}
use Rattle.tao_model.proofs.Stays.{newest_first}
use Rattle.tao_model.proofs.PlainArrays.{length_step}
use Rattle.tao_trace.specs.Printing.{events_before, sent_once, lines_at, first_lines}
use Rattle.tao_trace.specs.Tables.{IsNext}

pub front_follows : (h : History) (place : ℕ) → FollowsLawfully h.opening (reverse h.events) → FollowsLawfully h.opening (events_before h place)
front_follows h place f = earlier_follows h.opening (reverse (drop place h.events)) (events_before h place)
    (subst (FollowsLawfully h.opening) (ap reverse (sym (take-append-drop place h.events)) ∙ reverse-append (take place h.events) (drop place h.events)) f)

-- the lines of an event, with that of a store sent again
abbrev lines_of : History → ℕ → ℕ → Event → List ℕ
lines_of h again place e = again_before (sent_once h again) (events_before h place) e ++ event_lines h.opening (events_before h place) e

pub lines_are : (h : History) (again place : ℕ) (d e : Event) → place < length h.events → get_or h.events place d ≡ e → lines_at h again place ≡ lines_of h again place e
unfolding lines_at
lines_are h again place d e below at = ap (first_lines h.opening (sent_once h again) (events_before h place)) (drop-cons h.events place d below) ∙ ap (lines_of h again place) at

-- the event at the place comes next
pub comes_next : (h : History) (place : ℕ) (d e : Event) → FollowsLawfully h.opening (reverse h.events) → place < length h.events → get_or h.events place d ≡ e → IsNext h place e
comes_next h place d e f below at = record {
  below = below;
  before = before;
  lines = λ again. lines_are h again place d e below at;
  follows = subst (FollowsLawfully h.opening) before (front_follows h (place + 1) f);
}
  where
    before : events_before h (place + 1) ≡ e ∷ events_before h place
    before = ap reverse (ap (λ n. take n h.events) (add-one place) ∙ take-suc h.events place d below ∙ ap (λ x. take place h.events ++ x ∷ []) at) ∙ newest_first (take place h.events) e

pub after_arrive : (o : Opening) (es : List Event) (client : ℕ) (op : Op) (word : ℕ) → FollowsLawfully o (Arrive client op word ∷ es) → AfterArrive o es (Arrive client op word ∷ es) op word
after_arrive o es client op word f =
    subst (λ l. AfterArrive o l (Arrive client op word ∷ l) op word) (reverse-reverse es)
    (subst (λ l. AfterArrive o (reverse (reverse es)) l op word) told
    (one_more_arrive o (reverse es) client op word (subst (FollowsLawfully o) (sym (told ∙ ap (λ l. Arrive client op word ∷ l) (reverse-reverse es))) f)))
  where
    told : reverse (reverse es ++ Arrive client op word ∷ []) ≡ Arrive client op word ∷ reverse (reverse es)
    told = newest_first (reverse es) (Arrive client op word)

pub array_len : (o : Opening) (es : List Event) → length (array_now o es) ≡ length o.first
array_len o [] = refl
array_len o (Arrive client op word ∷ es) = length_step (array_now o es) op ∙ array_len o es
array_len o (Done arrival taken ∷ es) = array_len o es
array_len o (Issue version nonce buckets ∷ es) = array_len o es
array_len o (Acked version ∷ es) = array_len o es
array_len o (Fault cause ∷ es) = array_len o es
