-- The words that are drawn from a tape, and the desk that begins with them.
use Rattle.std.proofs.Common.{◌≡◌, ℕ, ◌+◌, ◌*◌, ◌<◌, List, [], ◌∷◌, ◌++◌, map, length, reverse, slice_index, refl, sym, ap, ap₂, ◌∙◌, subst, arith}
use Rattle.std.specs.List.{range_with_len}
use Rattle.std.proofs.lemmas.Bool.{lt-ltb}
use Rattle.std.proofs.lemmas.List.FromFn.{map-range_with_len_more, get_or-map-range_with_len, length-map-range_with_len}
use Rattle.tao_base.specs.declared.session.Event.{Event}
use Rattle.tao_base.specs.Limits.{Shape, IsShape}
use Rattle.tao_model.specs.Events.{arrived, word_at}
use Rattle.tao_model.specs.Lawful.{OwesNone}
use Rattle.tao_processor.specs.State.{ProcessorState, IsOpened}
use Rattle.tao_desk.specs.Calls.{IsStarted}
use Rattle.tao_desk.specs.Inside.{IsDesk}

-- one more word
pub drawn_more : (word : List ℕ → ℕ → ℕ) {source now : List ℕ} (from : ℕ) {place : ℕ} (counter : ℕ) {x : ℕ} {words more : List ℕ} → more ≡ words ++ x ∷ [] → x ≡ word now place
    → now ≡ source → place ≡ from + counter → words ≡ map (word source) (range_with_len from counter) → more ≡ map (word source) (range_with_len from (counter + 1))
drawn_more word {source} {now} from {place} counter {x} {words} {more} adds own same at before =
    adds ∙ ap₂ (λ (xs : List ℕ) (y : ℕ). xs ++ y ∷ []) before (own ∙ ap₂ word same at) ∙ sym (map-range_with_len_more (word source) from counter (from + counter) refl)

-- as many as were to be drawn
pub drawn_len : (word : List ℕ → ℕ → ℕ) (source : List ℕ) (from count : ℕ) {words : List ℕ} → words ≡ map (word source) (range_with_len from count) → length words ≡ count
drawn_len word source from count same = ap length same ∙ length-map-range_with_len (word source) from count

-- a session without events
pub opened_desk : (word : List ℕ → ℕ → ℕ) {source now : List ℕ} {from place : ℕ} {key : List ℕ} {p : Shape} {blocks : List (List ℕ)} {words : List ℕ} {c : ProcessorState} → IsShape p → from ≡ 0
    → place ≡ from + p.n → now ≡ source → words ≡ map (word source) (range_with_len from p.n) → IsOpened key p words blocks c → IsDesk word now place c.history
opened_desk word {source} {now} {from} {place} {key} {p} {blocks} {words} {c} shape start at same drawn opened = record {
  owes = subst (λ (es : List Event). OwesNone c.history.opening (reverse es)) (sym opened.events_are)
      (subst (λ (s : Shape). 0 < (0 + 1) * s.k) (sym opened.shape_is) (let some = shape.period_low in omega arith));
  place_is = subst (λ (es : List Event). place ≡ c.history.opening.shape.n + arrived (reverse es)) (sym opened.events_are)
      (subst (λ (s : Shape). place ≡ s.n + 0) (sym opened.shape_is) (omega (arith, start, at)));
  words = λ j low. subst (λ (es : List Event). word_at c.history.opening (reverse es) j ≡ word now j) (sym opened.events_are)
      (rw (lt-ltb j c.history.opening.shape.n (subst (λ (s : Shape). j < s.n) (sym opened.shape_is) (omega (arith, start, at, low))))
      (ap (λ (ws : List ℕ). slice_index ws j) (opened.words_are ∙ drawn) ∙ get_or-map-range_with_len (word source) from p.n j j 0 (omega (arith, start, at, low)) (omega (arith, start))
      ∙ ap (λ (s : List ℕ). word s j) (sym same)));
}

pub has_started : (word : List ℕ → ℕ → ℕ) {source now : List ℕ} {from : ℕ} {key : List ℕ} {p : Shape} {blocks : List (List ℕ)} {words : List ℕ} {c : ProcessorState} → from ≡ 0 → now ≡ source
    → words ≡ map (word source) (range_with_len from p.n) → IsOpened key p words blocks c
    → IsStarted word source p key blocks (record { key = c.key; source = now; history = c.history; holdings = c.holdings })
has_started word {source} {now} {from} {key} {p} {blocks} {words} {c} start same drawn opened = record {
  key_is = opened.key_is;
  source_is = same;
  shape = opened.shape_is;
  first = opened.first_is;
  words = opened.words_are ∙ drawn ∙ ap (λ n. map (word source) (range_with_len n p.n)) start;
  events = opened.events_are;
}
