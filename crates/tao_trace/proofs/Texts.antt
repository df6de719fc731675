-- The lines of the next event, in words of the tables.
use Rattle.std.proofs.Common.{◌≡◌, ℕ, ◌-◌, ◌≤◌, Bool, true, false, List, [], ◌∷◌, ◌++◌, codes, cond, length, set, flat_map, refl, sym, ap, ◌∙◌, arith}
use Rattle.std.specs.List.{range_with_len}
use Rattle.std.proofs.lemmas.Bool.{eq-eqb}
use Rattle.tao_base.specs.declared.calls.Op.{Op}
use Rattle.tao_base.specs.declared.calls.Op.TheVariants.{Read, Write, Pad}
use Rattle.tao_base.specs.declared.session.Event.{Event}
use Rattle.tao_base.specs.declared.session.Event.TheVariants.{Arrive, Done}
use Rattle.tao_base.specs.declared.storage.Bucket.{Bucket}
use Rattle.tao_base.specs.Session.{Opening, History}
use Rattle.tao_base.specs.Tree.{leaf_of}
use Rattle.tao_base.specs.Lines.{words_line}
use Rattle.tao_model.specs.Events.{arrived, is_done, word_at}
use Rattle.tao_model.specs.Requests.{real_now, next_word, fetched_leaf}
use Rattle.tao_model.specs.Replies.{released}
use Rattle.tao_model.specs.Lawful.{FollowsLawfully}
use Rattle.tao_model.specs.Transcript.{arrive_line, reply_line}
use Rattle.tao_model.proofs.Growth.{leading_is, released_grows_later}
use Rattle.tao_sequence.specs.Release.{IsReleased}
use Rattle.tao_trace.specs.Printing.{events_before, lines_at}
use Rattle.tao_trace.specs.Places.{PlacesState}
use Rattle.tao_trace.specs.Tables.{Fit, IsNext, word_fetched}
use Rattle.tao_trace.specs.declared.tables.Told.{Told}
use Rattle.tao_trace.proofs.Following.{after_arrive}
use Rattle.tao_trace.proofs.NextPlaces.{flags_raised}
use Rattle.tao_trace.proofs.Released.{has_flag, released_is}

leaf_block : (o : Opening) (es : List Event) (client : ℕ) (op : Op) (word block : ℕ) (real : Bool) → real_now es op ≡ real
    → FollowsLawfully o (Arrive client op word ∷ es)
    → (real_now es op ≡ true → fetched_leaf o (Arrive client op word ∷ es) (arrived es) ≡ leaf_of o.shape.l (word_at o es (next_word o es block)))
    → fetched_leaf o (Arrive client op word ∷ es) (arrived es) ≡ leaf_of o.shape.l (cond real (word_at o es (next_word o es block)) word)
leaf_block o es client op word block true is f h = h is
leaf_block o es client op word block false is f h = (after_arrive o es client op word f).leaf_of_word is

pub leaf_is : (o : Opening) (es : List Event) (client : ℕ) (op : Op) (word : ℕ) → FollowsLawfully o (Arrive client op word ∷ es)
    → fetched_leaf o (Arrive client op word ∷ es) (arrived es) ≡ leaf_of o.shape.l (word_fetched o es op word)
leaf_is o es client (Read id) word f = leaf_block o es client (Read id) word id (real_now es (Read id)) refl f (λ real. (after_arrive o es client (Read id) word f).leaf_of_block id (eq-eqb id id refl) real)
leaf_is o es client (Write id value) word f = leaf_block o es client (Write id value) word id (real_now es (Write id value)) refl f (λ real. (after_arrive o es client (Write id value) word f).leaf_of_block id (eq-eqb id id refl) real)
leaf_is o es client Pad word f = (after_arrive o es client Pad word f).leaf_of_word refl

pub arrive_text : (h : History) (again place : ℕ) (client word arrival leaf : ℕ) (op : Op) (told : List Told) (values : List (List ℕ)) (places : PlacesState)
    → Fit h place told values places → IsNext h place (Arrive client op word) → arrival ≡ length told → leaf ≡ leaf_of h.opening.shape.l (word_fetched h.opening (events_before h place) op word)
    → arrive_line arrival client op ++ words_line (codes "fetch") (arrival ∷ leaf ∷ []) ≡ lines_at h again place
arrive_text h again place client word arrival leaf op told values places f n at is =
    ap (λ i. arrive_line i client op ++ words_line (codes "fetch") (i ∷ leaf ∷ [])) (at ∙ f.tables.arrivals)
    ∙ ap (λ (x : ℕ). arrive_line (arrived (events_before h place)) client op ++ words_line (codes "fetch") (arrived (events_before h place) ∷ x ∷ []))
    (is ∙ sym (leaf_is h.opening (events_before h place) client op word n.follows))
    ∙ sym (n.lines again)

-- a Done releases the answers from the first number up to the second, and its text is its line and theirs
pub record Releases (h : History) (again place arrival first end : ℕ) : Type 0 where
  pub low : first ≤ end
  pub high : end ≤ arrived (events_before h place)
  pub text : words_line (codes "done") (arrival ∷ []) ++ flat_map (reply_line h.opening (events_before h place)) (range_with_len first (end - first)) ≡ lines_at h again place

pub done_releases : (h : History) (again place arrival first end : ℕ) (taken : List Bucket) (told : List Told) (values : List (List ℕ)) (places : PlacesState)
    → Fit h place told values places → IsNext h place (Done arrival taken) → IsReleased places.done first → IsReleased (set places.done arrival true) end → Releases h again place arrival first end
done_releases h again place arrival first end taken told values places f n before after = record {
  low = let grows = released_grows_later (Done arrival taken ∷ []) (events_before h place) in let from = first_is in let to = end_is in omega arith;
  high = let within = (leading_is (is_done (Done arrival taken ∷ events_before h place)) (arrived (events_before h place))).within in let to = end_is in omega arith;
  text = ap (λ (x : ℕ). words_line (codes "done") (arrival ∷ []) ++ flat_map (reply_line h.opening (events_before h place)) (range_with_len first (x - first))) end_is
      ∙ ap (λ (x : ℕ). words_line (codes "done") (arrival ∷ [])
      ++ flat_map (reply_line h.opening (events_before h place)) (range_with_len x (released (Done arrival taken ∷ events_before h place) - x))) first_is
      ∙ sym (n.lines again);
}
  where
    first_is : first ≡ released (events_before h place)
    first_is = released_is h.opening (events_before h place) places.done first n.follows.0 f.tables.tape.dones before

    end_is : end ≡ released (Done arrival taken ∷ events_before h place)
    end_is = released_is h.opening (Done arrival taken ∷ events_before h place) (set places.done arrival true) end n.follows
        (flags_raised h.opening (events_before h place) arrival taken places.done f.tables.tape.dones
        (has_flag h.opening (events_before h place) arrival taken places.done f.tables.tape.dones n.follows)) after
