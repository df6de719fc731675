-- A seat looks at the ticket that is served, and takes the value if it is its own.
use Rattle.std.proofs.Common.{◌≡◌, ℕ, ◌≤◌, get_or, set, List, [], ◌∷◌, refl, sym, ap, ◌∙◌, subst, true, false, true≢false, arith}
use mathlib.Core.Option.{none, some, some-injective}
use mathlib.Core.Option as maybe
use mathlib.Core.Logic.{dite}
use native.Mathlib.Decide.{ℕ_discrete}
use lib.ListN.{get_elem?}
use Rattle.std.specs.Prelude.{Option, Some}
use Rattle.std.proofs.lemmas.Option.{same_Some}
use Rattle.atomic_table.specs.Table.{Me, step, takes, Allows}
use Rattle.tao_turn.specs.Rule.{out, list_of, HasSeen, Fits, Turn}
use Rattle.tao_turn.specs.Steps.{Looked}
use Rattle.tao_turn.specs.Views.{ticket_in, is_holder, is_live, is_settled}
use Rattle.tao_turn.specs.declared.view.Stage.{Stage}
use Rattle.tao_turn.specs.declared.view.Stage.TheVariants.{Waiting, Holding}
use Rattle.tao_turn.specs.declared.view.View.{View}
use Rattle.tao_turn.proofs.ViewLemmas.{here, every}
use Rattle.tao_turn.proofs.Keeping.{at_home, unmoved, stands, seen_on, owns_on, marked_on, drawn_on, known_on, owned_on}

-- the ticket in a stage of waiting
ticket_is : {E : Type 0} (s : Stage E) (t u : ℕ) → s ≡ Waiting t → s ≡ Waiting u → t ≡ u
ticket_is s t u a b = same_Some t u (sym (ap ticket_in a) ∙ ap ticket_in b)

module _ {T E : Type 0} (entries : T → List E) (mark_of : List E → ℕ) (maker : List E → ℕ → Option ℕ) (seats : ℕ) where
  pub looks : (n id : ℕ) (me : Me (Option T) (View E)) (t : ℕ) → me.0.stage ≡ Waiting t → me.1 ≡ []
      → Allows (Turn entries mark_of maker seats) n id me 1 (λ y. y) (Looked entries mark_of maker (step n 1 0 0 none) me)
  looks n id me t waits empty s r wide at lt =
      let y : ℕ = get_or s.words 1 0 in
      let told = Looked entries mark_of maker (step n 1 0 0 none) me y in
      let now : y ≡ r.serving = ap (λ (l : List ℕ). get_or l 1 0) r.words_are in
      let mine : ticket_in me.0.stage ≡ Some t = ap ticket_in waits in
      let idle : is_holder me.0.stage ≡ false = ap is_holder waits in
      let live : is_live me.0.stage ≡ true = ap is_live waits in
      let settled : is_settled me.0.stage ≡ true = ap is_settled waits in
      let own = r.each id me.0 at in
      let drew = own.queued.ticket t mine in
      dite (ℕ_discrete y t)
      (λ hit. let is : r.serving ≡ t = sym now ∙ hit in
      let clash : (j : ℕ) (u : View E) → get_elem? s.views j ≡ some u → is_holder u.stage ≡ true → true ≡ false =
      λ j u e h. let k = r.each j u e in
      let same : j ≡ id = sym (k.queued.ticket r.serving (k.queued.held h).0).2 ∙ (ap r.drawer is ∙ drew.2) in
      sym h ∙ (ap (λ (v : View E). is_holder v.stage) (some-injective u me.0 (sym e ∙ (ap (get_elem? s.views) same ∙ at))) ∙ idle) in
      let found = at_home entries mark_of maker seats s.homes s.views r.place r.in_place clash in
      let x : T = found.0 in
      let listed : list_of entries r.place ≡ entries x = ap (list_of entries) found.1 in
      let w : View E = record me.0 { stage = Holding t (entries x) } in
      let glanced : me.0.known.told ≤ r.mark = own.marks.glanced in
      let within : r.mark ≤ mark_of (entries x) = subst (λ (l : List E). r.mark ≤ mark_of l) listed r.mark_within in
      let before : me.0.known.ended ≤ r.serving = own.ended in
      let history : HasSeen maker (entries x) (is_live me.0.stage) me.0.known = subst (λ (l : List E). HasSeen maker l (is_live me.0.stage) me.0.known) listed own.history in (
        w,
        takes 0 (Some x),
        ap (λ (h : List (maybe.Option (Option T))). get_elem? h 0) found.2,
        record {
          place = out id (entries x);
          drawer = r.drawer;
          owner = r.owner;
          next = r.next;
          serving = r.serving;
          mark = r.mark;
          words_are = unmoved entries mark_of maker seats s r 1 (omega arith) ∙ r.words_are;
          small = r.small;
          in_order = r.in_order;
          in_place = (ap (λ (h : List (maybe.Option (Option T))). set h 0 none) found.2, (w, here s.views id me.0 w at, refl));
          mark_within = within;
          each = every s.views id me.0 w at (Fits entries mark_of maker seats r.serving r.next r.mark (out id (entries x)) r.drawer r.owner)
              (record {
                queued = record {
                  ticket = λ u e. own.queued.ticket u (mine ∙ e);
                  held = λ _. (ap Some (sym is), (refl, refl));
                };
                history = seen_on maker (entries x) (is_live me.0.stage) true me.0.known live history;
                shares = owns_on seats r.owner id (is_live me.0.stage) true me.0.known.shares live own.shares;
                marks = marked_on mark_of r.mark (is_settled me.0.stage) true me.0.published me.0.known settled own.marks;
                ended = own.ended;
                compares = own.compares;
              })
              (λ j u apart e. let k = r.each j u e in record {
                queued = record { ticket = k.queued.ticket; held = λ h. absurd (true≢false (clash j u e h)) };
                history = subst (λ (l : List E). HasSeen maker l (is_live u.stage) u.known) listed k.history;
                shares = k.shares;
                marks = k.marks;
                ended = k.ended;
                compares = k.compares;
              });
          drawn = drawn_on s.views id me.0 w at r.serving r.next r.drawer (λ k _ p. sym mine ∙ p) r.drawn;
          known = known_on s.views id me.0 w at (entries x) (λ _. refl) refl (r.known.0, (r.known.1.0, r.known.1.1, r.known.1.2, r.known.1.3 ∙ listed));
          owned = owned_on s.views id me.0 w at seats r.owner (λ _. refl) refl r.owned;
        },
        λ t' e'. (
          (λ hit'. (x, ap (λ (k : ℕ). (record me.0 { stage = Holding k (entries x) }, (0, Some x) ∷ me.1)) (sym hit ∙ hit'), record { seen = history.seen live; others = history.others live; mark = omega arith }, omega arith)),
          λ miss. absurd (miss (hit ∙ ticket_is me.0.stage t t' waits e')),
        ),
      ))
      (λ miss. stands entries mark_of maker seats s r 1 id me told at (omega arith)
      (λ t' e'. ((λ hit. absurd (miss (hit ∙ sym (ticket_is me.0.stage t t' waits e')))), λ _. refl)))
