-- What an arrival gives.
use Rattle.std.proofs.Common.{◌≡◌, ℕ, ◌+◌, ◌<◌, ◌^◌, true, false, List, reverse, sym, ap, ap₂, ◌∙◌, subst, arith}
use Rattle.tao_base.specs.declared.calls.Op.{Op}
use Rattle.tao_base.specs.declared.session.Event.TheVariants.{Arrive}
use Rattle.tao_base.specs.Session.{History}
use Rattle.tao_model.specs.Events.{arrived}
use Rattle.tao_model.specs.Requests.{fetched_leaf}
use Rattle.tao_model.proofs.Stays.{newest_first}
use Rattle.tao_laws.proofs.RecentNodes.{leaf_low}
use Rattle.tao_laws.proofs.DistinctPlaces.{distinct_words, lawful_is_in_range}
use Rattle.tao_images.specs.Answers.{with_event}
use Rattle.tao_processor.specs.State.{ProcessorState, IsProcessorSound}
use Rattle.tao_desk.specs.Calls.{AskState, HasArrived}
use Rattle.tao_desk.specs.Inside.{IsDesk}

pub has_arrived : (word : List ℕ → ℕ → ℕ) {source source' : List ℕ} {place x number leaf client : ℕ} {op : Op} (old : ProcessorState) {mid new : ProcessorState} {ask : AskState}
    → IsDesk word source place old.history → mid ≡ record old { ready = true } → number ≡ arrived (reverse mid.history.events) → x ≡ word source place → source' ≡ source
    → leaf ≡ fetched_leaf new.history.opening (reverse new.history.events) (arrived (reverse mid.history.events))
    → new ≡ record mid { history = with_event mid.history (Arrive client op x); holdings = new.holdings; ready = false } → IsProcessorSound new → ask ≡ record { arrival = number; leaf = leaf }
    → HasArrived word (record { key = old.key; source = source; history = old.history; holdings = old.holdings })
    (record { key = new.key; source = source'; history = new.history; holdings = new.holdings }) client op ask
has_arrived word {source} {source'} {place} {x} {number} {leaf} {client} {op} old {mid} {new} {ask} desk ready counts own sources at state sound is = record {
  events = adds;
  store = ap₂ (λ (k s : List ℕ). record { key = k; source = s; history = new.history; holdings = new.holdings }) keys sources;
  number = number_is;
  leaf = leaf_is;
  within = subst (λ (n : ℕ). n < 2 ^ new.history.opening.shape.l) (sym leaf_is) (leaf_low new.history.opening (reverse new.history.events) ask.arrival);
  word_once = λ i low same. (distinct_words new.history.opening new.history.events (lawful_is_in_range new.history.opening new.history.events sound.proxy.follows)).used_once i ask.arrival low last same;
}
  where
    before : mid.history ≡ old.history
    before = ap (λ (st : ProcessorState). st.history) ready

    keys : new.key ≡ old.key
    keys = ap (λ (st : ProcessorState). st.key) state ∙ ap (λ (st : ProcessorState). st.key) ready

    adds : new.history ≡ with_event old.history (Arrive client op (word source (old.history.opening.shape.n + arrived (reverse old.history.events))))
    adds = ap (λ (st : ProcessorState). st.history) state ∙ ap₂ (λ (h : History) (y : ℕ). with_event h (Arrive client op y)) before (own ∙ ap (word source) desk.place_is)

    number_is : ask.arrival ≡ arrived (reverse old.history.events)
    number_is = ap (λ (a : AskState). a.arrival) is ∙ counts ∙ ap (λ (h : History). arrived (reverse h.events)) before

    leaf_is : ask.leaf ≡ fetched_leaf new.history.opening (reverse new.history.events) ask.arrival
    leaf_is = ap (λ (a : AskState). a.leaf) is ∙ at ∙ ap (fetched_leaf new.history.opening (reverse new.history.events)) (sym (ap (λ (a : AskState). a.arrival) is ∙ counts))

    more : arrived (reverse new.history.events) ≡ arrived (reverse old.history.events) + 1
    more = ap (λ (h : History). arrived (reverse h.events)) adds
        ∙ ap arrived (newest_first old.history.events (Arrive client op (word source (old.history.opening.shape.n + arrived (reverse old.history.events)))))

    last : ask.arrival < arrived (reverse new.history.events)
    last = omega (arith, number_is, more)
