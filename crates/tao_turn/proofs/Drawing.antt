-- A seat draws a ticket.
use Rattle.std.proofs.Common.{◌≡◌, ℕ, ◌+◌, ◌<◌, ◌≤◌, get_or, set, eqb, List, refl, sym, ap, ◌∙◌, true, false, true≢false, arith}
use mathlib.Core.Option.{none}
use mathlib.Core.Logic.{dite}
use native.Mathlib.Decide.{ℕ_discrete}
use lib.ListN.{get_elem?}
use prog.Atomic.{either}
use Rattle.std.specs.Prelude.{Option, Some, None}
use Rattle.std.proofs.lemmas.Option.{none-some, same_Some}
use Rattle.atomic_table.specs.Table.{Me, step, keeps, Allows}
use Rattle.atomic_table.proofs.Lists.{exchanged}
use Rattle.tao_turn.specs.Rule.{list_of, Fits, Turn}
use Rattle.tao_turn.specs.Steps.{Drew}
use Rattle.tao_turn.specs.Views.{ticket_in, is_holder, is_live, is_settled}
use Rattle.tao_turn.specs.declared.view.Stage.TheVariants.{Idle, Waiting}
use Rattle.tao_turn.specs.declared.view.View.{View}
use Rattle.tao_turn.proofs.ViewLemmas.{put, put_same, put_else, here, there, every}
use Rattle.tao_turn.proofs.Keeping.{Goes, stays_in, stands, seen_on, owns_on, marked_on, known_on, owned_on}

module _ {T E : Type 0} (entries : T → List E) (mark_of : List E → ℕ) (maker : List E → ℕ → Option ℕ) (seats : ℕ) where
  pub draws : (n id : ℕ) (me : Me (Option T) (View E)) (old : ℕ) → me.0.stage ≡ Idle → old < 18446744073709551615
      → Allows (Turn entries mark_of maker seats) n id me 0 (λ y. either (eqb y old) (old + 1) y) (Drew (step n 0 old (old + 1) none) me)
  draws n id me old idle small s r wide at lt =
      let told = Drew (step n 0 old (old + 1) none) me (get_or s.words 0 0) in
      let now : get_or s.words 0 0 ≡ r.next = ap (λ (l : List ℕ). get_or l 0 0) r.words_are in
      let no_ticket : ticket_in me.0.stage ≡ None = ap ticket_in idle in
      let no_value : is_holder me.0.stage ≡ false = ap is_holder idle in
      let live : is_live me.0.stage ≡ true = ap is_live idle in
      let settled : is_settled me.0.stage ≡ true = ap is_settled idle in
      exchanged (get_or s.words 0 0) old (old + 1) (Goes entries mark_of maker seats s 0 id me told)
      (λ hit. let is : r.next ≡ old = sym now ∙ hit in
      let w : View E = record me.0 { stage = Waiting old } in
      let f = put r.drawer old id in
      let ord : r.serving ≤ r.next = r.in_order in (
        w,
        keeps,
        tt,
        record {
          place = r.place;
          drawer = f;
          owner = r.owner;
          next = old + 1;
          serving = r.serving;
          mark = r.mark;
          words_are = ap (λ (l : List ℕ). set l 0 (old + 1)) r.words_are;
          small = omega arith;
          in_order = omega arith;
          in_place = stays_in entries mark_of maker seats s.homes s.views id me.0 w at (λ h. absurd (true≢false (sym h ∙ no_value))) r.place r.in_place;
          mark_within = r.mark_within;
          each = every s.views id me.0 w at (Fits entries mark_of maker seats r.serving (old + 1) r.mark r.place f r.owner)
              (let k = r.each id me.0 at in record {
                queued = record {
                  ticket = λ t e. let same : old ≡ t = same_Some old t e in (omega arith, omega arith, ap f (sym same) ∙ put_same r.drawer old id);
                  held = λ h. absurd (true≢false (sym h));
                };
                history = seen_on maker (list_of entries r.place) (is_live me.0.stage) true me.0.known live k.history;
                shares = owns_on seats r.owner id (is_live me.0.stage) true me.0.known.shares live k.shares;
                marks = marked_on mark_of r.mark (is_settled me.0.stage) true me.0.published me.0.known settled k.marks;
                ended = k.ended;
                compares = k.compares;
              })
              (λ j u apart e. let k = r.each j u e in record {
                queued = record {
                  ticket = λ t is_t. let b = k.queued.ticket t is_t in let lo = b.0 in let hi = b.1 in (lo, omega arith, put_else r.drawer old id t (λ same. omega arith) ∙ b.2);
                  held = k.queued.held;
                };
                history = k.history;
                shares = k.shares;
                marks = k.marks;
                ended = k.ended;
                compares = k.compares;
              });
          drawn = λ t lo hi. dite (ℕ_discrete t old)
              (λ same. (w, ap (get_elem? (set s.views id w)) (ap f same ∙ put_same r.drawer old id) ∙ here s.views id me.0 w at, ap Some (sym same)))
              (λ apart. let d = r.drawn t lo (omega arith) in
              let g = there s.views id me.0 w at (λ u. ticket_in u.stage ≡ Some t) (r.drawer t) d.0 d.1 d.2 (λ _ p. absurd (none-some t (sym no_ticket ∙ p))) in
              (g.0, ap (get_elem? (set s.views id w)) (put_else r.drawer old id t apart) ∙ g.1, g.2));
          known = known_on s.views id me.0 w at (list_of entries r.place) (λ _. refl) refl r.known;
          owned = owned_on s.views id me.0 w at seats r.owner (λ _. refl) refl r.owned;
        },
        ((λ _. refl), λ miss. absurd (miss hit)),
      ))
      (λ miss. stands entries mark_of maker seats s r 0 id me told at (omega arith) ((λ hit. absurd (miss hit)), λ _. refl))
