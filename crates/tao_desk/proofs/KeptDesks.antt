-- What one more event keeps of a desk.
use Rattle.std.proofs.Common.{◌≡◌, ℕ, ◌+◌, ◌-◌, ◌*◌, ◌<◌, ◌≤◌, ◌≢◌, ◌⊎◌, inl, inr, List, ◌∷◌, ◌++◌, [], reverse, refl, sym, ap, ◌∙◌, subst, arith}
use Rattle.std.proofs.lemmas.Bool.{cases_lt, cases_eq, lt-ltb, le-ltb, eq-eqb, ne_eqb}
use Rattle.tao_base.specs.declared.calls.Op.{Op}
use Rattle.tao_base.specs.declared.session.Cause.{Cause}
use Rattle.tao_base.specs.declared.session.Event.{Event}
use Rattle.tao_base.specs.declared.session.Event.TheVariants.{Arrive, Done, Issue, Acked, Fault}
use Rattle.tao_base.specs.declared.storage.Bucket.{Bucket}
use Rattle.tao_base.specs.Session.{Opening, History}
use Rattle.tao_model.specs.Events.{arrived, dones, issues, word_at}
use Rattle.tao_model.specs.Lawful.{OwesNone, FollowsLawfully}
use Rattle.tao_model.specs.OneMore.{with_one_more}
use Rattle.tao_tables.proofs.ProxySteps.{owes_in_turn}
use Rattle.tao_model.proofs.Stays.{newest_first}
use Rattle.tao_images.specs.Answers.{with_event}
use Rattle.tao_desk.specs.Inside.{IsDesk}

-- the words of a record with one more arrival, which has the next word
words_more : (word : List ℕ → ℕ → ℕ) (source : List ℕ) (o : Opening) (es : List Event) (client : ℕ) (op : Op) (place : ℕ) → place ≡ o.shape.n + arrived es
    → ((j : ℕ) → j < place → word_at o es j ≡ word source j) → (j : ℕ) → j < place + 1 → word_at o (Arrive client op (word source place) ∷ es) j ≡ word source j
words_more word source o es client op place at words j low = either (cases_lt j o.shape.n)
  where
    same : (j - o.shape.n ≡ arrived es → ⊥) → o.shape.n ≤ j → word_at o (Arrive client op (word source place) ∷ es) j ≡ word_at o es j
    same other past = rw (le-ltb j o.shape.n past, ne_eqb (j - o.shape.n) (arrived es) other) refl

    later : o.shape.n ≤ j → (j - o.shape.n ≡ arrived es) ⊎ (j - o.shape.n ≡ arrived es → ⊥) → word_at o (Arrive client op (word source place) ∷ es) j ≡ word source j
    later past (inl own) = rw (le-ltb j o.shape.n past, eq-eqb (j - o.shape.n) (arrived es) own) (ap (word source) (omega (arith, at, past, own)))
    later past (inr other) = same other past ∙ words j (omega (arith, at, past, other, low))

    either : (j < o.shape.n) ⊎ (o.shape.n ≤ j) → word_at o (Arrive client op (word source place) ∷ es) j ≡ word source j
    either (inl first) =
        let here : word_at o (Arrive client op (word source place) ∷ es) j ≡ word_at o es j = rw (lt-ltb j o.shape.n first) refl in
        here ∙ words j (omega (arith, at, first))
    either (inr past) = later past (cases_eq (j - o.shape.n) (arrived es))

-- an arrival with the next word
pub arrive_keeps : (word : List ℕ → ℕ → ℕ) {source : List ℕ} {place : ℕ} {h : History} (client : ℕ) (op : Op) → IsDesk word source place h
    → IsDesk word source (place + 1) (with_event h (Arrive client op (word source place)))
arrive_keeps word {source} {place} {h} client op desk = record {
  owes = subst (OwesNone h.opening) (sym (newest_first h.events (Arrive client op (word source place)))) desk.owes;
  place_is = let at = desk.place_is in subst (λ (es : List Event). place + 1 ≡ h.opening.shape.n + arrived es) (sym (newest_first h.events (Arrive client op (word source place)))) (omega arith);
  words = subst (λ (es : List Event). (j : ℕ) → j < place + 1 → word_at h.opening es j ≡ word source j) (sym (newest_first h.events (Arrive client op (word source place))))
      (words_more word source h.opening (reverse h.events) client op place desk.place_is desk.words);
}

-- an acknowledgement
pub acked_keeps : (word : List ℕ → ℕ → ℕ) {source : List ℕ} {place : ℕ} {h : History} (version : ℕ) → IsDesk word source place h → IsDesk word source place (with_event h (Acked version))
acked_keeps word {source} {place} {h} version desk = record {
  owes = subst (OwesNone h.opening) (sym (newest_first h.events (Acked version))) desk.owes;
  place_is = subst (λ (es : List Event). place ≡ h.opening.shape.n + arrived es) (sym (newest_first h.events (Acked version))) desk.place_is;
  words = subst (λ (es : List Event). (j : ℕ) → j < place → word_at h.opening es j ≡ word source j) (sym (newest_first h.events (Acked version))) desk.words;
}

-- a fault
pub fault_keeps : (word : List ℕ → ℕ → ℕ) {source : List ℕ} {place : ℕ} {h : History} (cause : Cause) → IsDesk word source place h → IsDesk word source place (with_event h (Fault cause))
fault_keeps word {source} {place} {h} cause desk = record {
  owes = subst (OwesNone h.opening) (sym (newest_first h.events (Fault cause))) desk.owes;
  place_is = subst (λ (es : List Event). place ≡ h.opening.shape.n + arrived es) (sym (newest_first h.events (Fault cause))) desk.place_is;
  words = subst (λ (es : List Event). (j : ℕ) → j < place → word_at h.opening es j ≡ word source j) (sym (newest_first h.events (Fault cause))) desk.words;
}

-- the same, with what the code has for its parts
pub arrived_desk : (word : List ℕ → ℕ → ℕ) {source source' : List ℕ} {place place' x : ℕ} {h h' : History} (client : ℕ) (op : Op) → IsDesk word source place h → source' ≡ source
    → place' ≡ place + 1 → x ≡ word source place → h' ≡ with_event h (Arrive client op x) → IsDesk word source' place' h'
arrived_desk word {source} {source'} {place} {place'} {x} {h} {h'} client op desk sources places own adds =
    subst (λ (s : List ℕ). IsDesk word s place' h') (sym sources)
    (subst (λ (n : ℕ). IsDesk word source n h') (sym places)
    (subst (λ (g : History). IsDesk word source (place + 1) g) (sym (adds ∙ ap (λ (y : ℕ). with_event h (Arrive client op y)) own)) (arrive_keeps word client op desk)))

-- a Done that fills no period
pub done_keeps : (word : List ℕ → ℕ → ℕ) {source : List ℕ} {place : ℕ} {h : History} (i : ℕ) (taken : List Bucket) → IsDesk word source place h
    → FollowsLawfully h.opening (with_one_more h.events (Done i taken))
    → dones (with_one_more h.events (Done i taken)) ≢ (issues (with_one_more h.events (Done i taken)) + 1) * h.opening.shape.k
    → IsDesk word source place (with_event h (Done i taken))
done_keeps word {source} {place} {h} i taken desk follows unfilled = record {
  owes = (owes_in_turn h.opening h.events).done i taken follows unfilled;
  place_is = subst (λ (es : List Event). place ≡ h.opening.shape.n + arrived es) (sym (newest_first h.events (Done i taken))) desk.place_is;
  words = subst (λ (es : List Event). (j : ℕ) → j < place → word_at h.opening es j ≡ word source j) (sym (newest_first h.events (Done i taken))) desk.words;
}

-- a Done that fills a period, and its write-back
pub issue_keeps : (word : List ℕ → ℕ → ℕ) {source : List ℕ} {place : ℕ} {h : History} (i : ℕ) (taken : List Bucket) (version nonce : ℕ) (buckets : List Bucket) → IsDesk word source place h
    → FollowsLawfully h.opening (with_one_more (h.events ++ Done i taken ∷ []) (Issue version nonce buckets))
    → IsDesk word source place (with_event (with_event h (Done i taken)) (Issue version nonce buckets))
issue_keeps word {source} {place} {h} i taken version nonce buckets desk follows = record {
  owes = (owes_in_turn h.opening (h.events ++ Done i taken ∷ [])).issue version nonce buckets follows;
  place_is = subst (λ (es : List Event). place ≡ h.opening.shape.n + arrived es) (sym both) desk.place_is;
  words = subst (λ (es : List Event). (j : ℕ) → j < place → word_at h.opening es j ≡ word source j) (sym both) desk.words;
}
  where
    both : reverse ((h.events ++ Done i taken ∷ []) ++ Issue version nonce buckets ∷ []) ≡ Issue version nonce buckets ∷ Done i taken ∷ reverse h.events
    both = newest_first (h.events ++ Done i taken ∷ []) (Issue version nonce buckets) ∙ ap (λ (es : List Event). Issue version nonce buckets ∷ es) (newest_first h.events (Done i taken))
