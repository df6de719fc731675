-- A seat publishes the mark of what it has seen, or glances at the mark.
use Rattle.std.proofs.Common.{◌≡◌, ℕ, ◌≤◌, get_or, set, List, ◌++◌, refl, sym, ap, ◌∙◌, true, false, true≢false, arith}
use mathlib.Core.Option.{none}
use Rattle.std.specs.Prelude.{Option, None, max}
use Rattle.std.proofs.lemmas.Option.{none-some}
use Rattle.atomic_table.specs.Table.{Me, step, keeps, Allows}
use Rattle.tao_turn.specs.Rule.{list_of, Fits, Turn}
use Rattle.tao_turn.specs.Steps.{Published, Glanced}
use Rattle.tao_turn.specs.Views.{ticket_in, is_holder, is_live, is_settled}
use Rattle.tao_turn.specs.declared.view.Stage.TheVariants.{Idle, Unpublished}
use Rattle.tao_turn.specs.declared.view.View.{View}
use Rattle.tao_turn.proofs.ViewLemmas.{every}
use Rattle.tao_turn.proofs.Keeping.{stays_in, unmoved, seen_on, owns_on, marked_up, mark_of_beginning, drawn_on, known_on, owned_on}

module _ {T E : Type 0} (entries : T → List E) (mark_of : List E → ℕ) (maker : List E → ℕ → Option ℕ) (seats : ℕ) where
  pub publishes : ((xs ys : List E) → mark_of xs ≤ mark_of (xs ++ ys)) → (n id : ℕ) (me : Me (Option T) (View E)) (mark : ℕ) → me.0.stage ≡ Unpublished → mark ≡ mark_of me.0.known.seen
      → Allows (Turn entries mark_of maker seats) n id me 2 (λ y. max y mark) (Published (step n 2 mark 0 none) me)
  publishes grows n id me mark late is s r wide at lt =
      let v : View E = me.0 in
      let w : View E = record v { stage = Idle; published = mark } in
      let no_value : is_holder v.stage ≡ false = ap is_holder late in
      let no_ticket : ticket_in v.stage ≡ None = ap ticket_in late in
      let live : is_live v.stage ≡ true = ap is_live late in
      let own = r.each id v at in
      let more : ℕ = max r.mark mark in
      let up : r.mark ≤ more = omega arith in
      let seen : mark_of v.known.seen ≤ mark_of (list_of entries r.place) = mark_of_beginning mark_of grows v.known.seen (list_of entries r.place) (own.history.seen live) in
      let old : r.mark ≤ mark_of (list_of entries r.place) = r.mark_within in
      let glanced : v.known.told ≤ r.mark = own.marks.glanced in (
        w,
        keeps,
        tt,
        record {
          place = r.place;
          drawer = r.drawer;
          owner = r.owner;
          next = r.next;
          serving = r.serving;
          mark = more;
          words_are = ap (λ (l : List ℕ). set l 2 (max (get_or l 2 0) mark)) r.words_are;
          small = r.small;
          in_order = r.in_order;
          in_place = stays_in entries mark_of maker seats s.homes s.views id v w at (λ h. absurd (true≢false (sym h ∙ no_value))) r.place r.in_place;
          mark_within = omega arith;
          each = every s.views id v w at (Fits entries mark_of maker seats r.serving r.next more r.place r.drawer r.owner)
              (record {
                queued = record { ticket = λ t e. absurd (none-some t e); held = λ h. absurd (true≢false (sym h)) };
                history = seen_on maker (list_of entries r.place) (is_live v.stage) true v.known live own.history;
                shares = owns_on seats r.owner id (is_live v.stage) true v.known.shares live own.shares;
                marks = record { glanced = omega arith; within = omega arith; enough = λ _. omega arith };
                ended = own.ended;
                compares = own.compares;
              })
              (λ j u apart e. let k = r.each j u e in record {
                queued = k.queued;
                history = k.history;
                shares = k.shares;
                marks = marked_up mark_of r.mark more (is_settled u.stage) u.published u.known up k.marks;
                ended = k.ended;
                compares = k.compares;
              });
          drawn = drawn_on s.views id v w at r.serving r.next r.drawer (λ t _ p. absurd (none-some t (sym no_ticket ∙ p))) r.drawn;
          known = known_on s.views id v w at (list_of entries r.place) (λ _. refl) refl r.known;
          owned = owned_on s.views id v w at seats r.owner (λ _. refl) refl r.owned;
        },
        refl,
      )

  pub glances : (n id : ℕ) (me : Me (Option T) (View E)) → is_settled me.0.stage ≡ true
      → Allows (Turn entries mark_of maker seats) n id me 2 (λ y. y) (Glanced mark_of (step n 2 0 0 none) me)
  glances n id me settled s r wide at lt =
      let y : ℕ = get_or s.words 2 0 in
      let v : View E = me.0 in
      let w : View E = record v { known = record v.known { told = y } } in
      let now : y ≡ r.mark = ap (λ (l : List ℕ). get_or l 2 0) r.words_are in
      let own = r.each id v at in
      let glanced : v.known.told ≤ r.mark = own.marks.glanced in
      let within : v.published ≤ r.mark = own.marks.within in
      let enough : mark_of v.known.seen ≤ v.published = own.marks.enough settled in (
        w,
        keeps,
        tt,
        record {
          place = r.place;
          drawer = r.drawer;
          owner = r.owner;
          next = r.next;
          serving = r.serving;
          mark = r.mark;
          words_are = unmoved entries mark_of maker seats s r 2 (omega arith) ∙ r.words_are;
          small = r.small;
          in_order = r.in_order;
          in_place = stays_in entries mark_of maker seats s.homes s.views id v w at (λ h. h) r.place r.in_place;
          mark_within = r.mark_within;
          each = every s.views id v w at (Fits entries mark_of maker seats r.serving r.next r.mark r.place r.drawer r.owner)
              (record {
                queued = own.queued;
                history = record { seen = own.history.seen; others = own.history.others };
                shares = own.shares;
                marks = record { glanced = omega arith; within = within; enough = own.marks.enough };
                ended = own.ended;
                compares = own.compares;
              })
              (λ j u apart e. r.each j u e);
          drawn = drawn_on s.views id v w at r.serving r.next r.drawer (λ _ _ p. p) r.drawn;
          known = known_on s.views id v w at (list_of entries r.place) (λ e. e) refl r.known;
          owned = owned_on s.views id v w at seats r.owner (λ e. e) refl r.owned;
        },
        (refl, omega arith, omega arith),
      )
