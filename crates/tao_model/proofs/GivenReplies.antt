-- The text with the answers that were given. The events `es` are newest first, those of the rest oldest first.
use Rattle.std.proofs.Common.{◌≡◌, ℕ, zero, suc, ◌+◌, ◌-◌, ◌<◌, ◌≤◌, cond, List, [], ◌∷◌, ◌++◌, reverse, codes, refl, sym, ap, ◌∙◌, subst, arith}
use Rattle.std.specs.List.{flat_map, range_with_len}
use Rattle.std.proofs.lemmas.List.{reverse-append, append_assoc, append-nil}
use Rattle.tao_base.specs.declared.session.Event.{Event}
use Rattle.tao_base.specs.declared.session.Event.TheVariants.{Arrive, Done, Issue, Acked, Fault}
use Rattle.tao_base.specs.Lines.{hex_line, words_line}
use Rattle.tao_base.specs.Session.{Opening}
use Rattle.tao_model.specs.Events.{arrived, client_of, is_done, is_pad}
use Rattle.tao_model.specs.Replies.{plain_reply, released}
use Rattle.tao_model.specs.Transcript.{reply_line_with, event_lines_with, lines_from_with, opening_lines, closing_lines, acks_in, GivenIsPlain}
use Rattle.tao_model.proofs.Growth.{leading_is, released_grows_later, reply_stays_later}

-- texts of a range of numbers that agree number by number
alike_range : (f g : ℕ → List ℕ) (from n : ℕ) → ((i : ℕ) → from ≤ i → i < from + n → f i ≡ g i) → flat_map f (range_with_len from n) ≡ flat_map g (range_with_len from n)
alike_range f g from zero same = refl
alike_range f g from (suc n) same = rw (same from (omega arith) (omega arith), alike_range f g (from + 1) n (λ i low high. same i (omega arith) (omega arith))) refl

-- the released answers of a session are the plain array's, and so are those of a prefix
abbrev ArePlain : Opening → (ℕ → List ℕ) → List Event → Type 0
ArePlain o given es = (i : ℕ) → i < released es → given i ≡ plain_reply o es i

plain_before : (o : Opening) (given : ℕ → List ℕ) (later es : List Event) → ArePlain o given (later ++ es) → ArePlain o given es
plain_before o given later es plain i low =
    let grown = released_grows_later later es in
    let within = (leading_is (is_done es) (arrived es)).within in
    plain i (omega arith) ∙ reply_stays_later o later es i (omega arith)

same_event : (o : Opening) (given : ℕ → List ℕ) (es : List Event) (e : Event) → ArePlain o given (e ∷ es)
    → event_lines_with (λ l. given) o es e ≡ event_lines_with (plain_reply o) o es e
same_event o given es (Arrive client op word) plain = refl
same_event o given es (Done arrival taken) plain = ap (λ text. words_line (codes "done") (arrival ∷ []) ++ text)
    (alike_range (reply_line_with (λ l. given) now) (reply_line_with (plain_reply o) now) (released es) (released now - released es)
    (λ i low high. ap (λ x. cond (is_pad now i) [] (hex_line (codes "reply") (i ∷ client_of now i ∷ []) x)) (plain i (omega arith))))
  where
    now : List Event
    now = Done arrival taken ∷ es
same_event o given es (Issue version nonce buckets) plain = refl
same_event o given es (Acked version) plain = refl
same_event o given es (Fault cause) plain = refl

onto : (e : Event) (rest es : List Event) → reverse (e ∷ rest) ++ es ≡ reverse rest ++ (e ∷ es)
onto e rest es = ap (λ l. l ++ es) (reverse-append (e ∷ []) rest) ∙ append_assoc (reverse rest) (e ∷ []) es

same_lines : (o : Opening) (given : ℕ → List ℕ) (once : ℕ) (es rest : List Event) → ArePlain o given (reverse rest ++ es)
    → lines_from_with (λ l. given) o once es rest ≡ lines_from_with (plain_reply o) o once es rest
same_lines o given once es [] plain = refl
same_lines o given once es (e ∷ rest) plain =
    let later : ArePlain o given (reverse rest ++ (e ∷ es)) = subst (ArePlain o given) (onto e rest es) plain in
    rw (same_event o given es e (plain_before o given (reverse rest) (e ∷ es) later), same_lines o given once (e ∷ es) rest later) refl

pub given_is_plain : GivenIsPlain
given_is_plain h given again final end plain =
    ap (λ lines. ((opening_lines h.opening ++ lines) ++ closing_lines final) ++ end)
    (same_lines h.opening given (acks_in h.events - again) [] h.events (subst (ArePlain h.opening given) (sym (append-nil (reverse h.events))) plain))
