-- A turn ends: the next ticket is served, and the value given back.
use Rattle.std.proofs.Common.{◌≡◌, ◌≢◌, ℕ, ◌+◌, ◌%◌, ◌<◌, ◌≤◌, get_or, set, List, [], ◌∷◌, ◌++◌, length, refl, sym, ap, ◌∙◌, subst, true, true≢false, arith}
use mathlib.Core.Option.{none, some, some-injective}
use mathlib.Core.Option as maybe
use lib.ListN.{get_elem?}
use Rattle.std.specs.Prelude.{Option, Some}
use Rattle.std.proofs.lemmas.Option.{none-some, same_Some}
use Rattle.atomic_table.specs.Table.{Me, step, gives, Allows}
use Rattle.tao_turn.specs.Lists.{Begins, has}
use Rattle.tao_turn.specs.Histories.{NoneMade, OwnMade}
use Rattle.tao_turn.specs.Rule.{Place, home, list_of, IsInPlace, IsOut, Fits, Turn}
use Rattle.tao_turn.specs.Steps.{Left}
use Rattle.tao_turn.specs.Views.{is_holder, ticket_held, list_found, is_live, left_view}
use Rattle.tao_turn.specs.declared.view.View.{View}
use Rattle.tao_turn.proofs.ListLemmas.{begins_trans, begins_itself}
use Rattle.tao_turn.proofs.ShareLemmas.{bool_false, none_since}
use Rattle.tao_turn.proofs.ViewLemmas.{here, every, holder_lives, holder_has}
use Rattle.tao_turn.proofs.Keeping.{is_out, mark_of_beginning, drawn_on, owned_on}

module _ {T E : Type 0} (entries : T → List E) (mark_of : List E → ℕ) (maker : List E → ℕ → Option ℕ) (seats : ℕ)
    (grows : (xs ys : List E) → mark_of xs ≤ mark_of (xs ++ ys)) (stays : (xs ys : List E) (i : ℕ) → i < length xs → maker (xs ++ ys) i ≡ maker xs i) where
  leaves_at : (n id : ℕ) (v : View E) (x : T) → is_holder v.stage ≡ true
      → Begins (list_found v.stage) (entries x) → OwnMade maker (entries x) (length (list_found v.stage)) v.known.shares
      → Allows (Turn entries mark_of maker seats) n id (v, (0, Some x) ∷ []) 1 (λ y. (y + 1) % 18446744073709551616) (Left entries (step n 1 1 0 none) (v, (0, Some x) ∷ []))
  leaves_at n id v x holds longer mine s r wide at lt =
      let y : ℕ = get_or s.words 1 0 in
      let now : y ≡ r.serving = ap (λ (l : List ℕ). get_or l 1 0) r.words_are in
      let found : List E = list_found v.stage in
      let live : is_live v.stage ≡ true = holder_lives v.stage holds in
      let own = r.each id v at in
      let has_turn = (own.queued.held holds).0 in
      let served : ticket_held v.stage ≡ r.serving = same_Some (ticket_held v.stage) r.serving (sym (holder_has v.stage holds) ∙ has_turn) in
      let drew = own.queued.ticket r.serving has_turn in
      let place_is = is_out entries r.place id found (own.queued.held holds).1 in
      let listed : list_of entries r.place ≡ found = ap (list_of entries) place_is in
      let w : View E = left_view v (entries x) in
      let hi : r.serving < r.next = drew.1 in
      let top : r.next < 18446744073709551616 = r.small in
      let more : (y + 1) % 18446744073709551616 ≡ r.serving + 1 = omega arith in
      let before : r.mark ≤ mark_of found = subst (λ (l : List E). r.mark ≤ mark_of l) listed r.mark_within in
      let rises : mark_of found ≤ mark_of (entries x) = mark_of_beginning mark_of grows found (entries x) longer in
      let homes_are : s.homes ≡ none ∷ [] = (subst (IsInPlace entries s.homes s.views) place_is r.in_place).0 in (
        w,
        gives,
        tt,
        record {
          place = home x;
          drawer = r.drawer;
          owner = r.owner;
          next = r.next;
          serving = r.serving + 1;
          mark = r.mark;
          words_are = ap (λ (l : List ℕ). set l 1 ((y + 1) % 18446744073709551616)) r.words_are ∙ ap (λ (k : ℕ). r.next ∷ k ∷ r.mark ∷ []) more;
          small = r.small;
          in_order = omega arith;
          in_place = ap (λ (h : List (maybe.Option (Option T))). set h 0 (some (Some x))) homes_are;
          mark_within = omega arith;
          each = every s.views id v w at (Fits entries mark_of maker seats (r.serving + 1) r.next r.mark (home x) r.drawer r.owner)
              (record {
                queued = record { ticket = λ t e. absurd (none-some t e); held = λ h. absurd (true≢false (sym h)) };
                history = record { seen = λ _. begins_itself (entries x); others = λ _ i k lo hi made. absurd (omega arith) };
                shares = record { owns = λ _. own.shares.owns live; some_share = λ _. own.shares.some_share live };
                marks = record { glanced = own.marks.glanced; within = own.marks.within; enough = λ h. absurd (true≢false (sym h)) };
                ended = omega arith;
                compares = own.compares;
              })
              (λ j u apart e. let k = r.each j u e in record {
                queued = record {
                  ticket = λ t is_t. let b = k.queued.ticket t is_t in let lo = b.0 in let up = b.1 in
                      let other : r.serving ≢ t = λ same. apart (sym b.2 ∙ (ap r.drawer (sym same) ∙ drew.2)) in (omega arith, up, b.2);
                  held = λ h. let o = subst (λ (p : Place T E). IsOut entries p j (list_found u.stage)) place_is (k.queued.held h).1 in absurd (apart (sym o.0));
                };
                history = record {
                  seen = λ alive. begins_trans u.known.seen found (entries x) (subst (λ (l : List E). Begins u.known.seen l) listed (k.history.seen alive)) longer;
                  others = λ alive. none_since maker stays found (entries x) (length u.known.seen) v.known.shares u.known.shares longer
                      (subst (λ (l : List E). NoneMade maker l (length u.known.seen) u.known.shares) listed (k.history.others alive)) mine
                      (λ m ours. bool_false (has m u.known.shares) (λ theirs. apart (sym (k.shares.owns alive m theirs).1 ∙ (own.shares.owns live m ours).1)));
                };
                shares = k.shares;
                marks = k.marks;
                ended = let before = k.ended in omega arith;
                compares = k.compares;
              });
          drawn = λ t lo up. drawn_on s.views id v w at (r.serving + 1) r.next r.drawer
              (λ u lo' p. let same : r.serving ≡ u = same_Some r.serving u (sym has_turn ∙ p) in absurd (omega arith)) (λ u lo' up'. r.drawn u (omega arith) up') t lo up;
          known = (id, (w, here s.views id v w at, refl, refl));
          owned = owned_on s.views id v w at seats r.owner (λ _. refl) refl r.owned;
        },
        λ x' e'. ap (λ (z : T). (left_view v (entries z), [])) (same_Some x x' (ap (λ (p : ℕ × Option T). p.1) (some-injective (0, Some x) (0, Some x') (ap (λ (l : List (ℕ × Option T)). get_elem? l 0) e')))),
      )

  pub leaves : (n id : ℕ) (me : Me (Option T) (View E)) (x : T) → is_holder me.0.stage ≡ true → me.1 ≡ (0, Some x) ∷ []
      → Begins (list_found me.0.stage) (entries x) → OwnMade maker (entries x) (length (list_found me.0.stage)) me.0.known.shares
      → Allows (Turn entries mark_of maker seats) n id me 1 (λ y. (y + 1) % 18446744073709551616) (Left entries (step n 1 1 0 none) me)
  leaves n id me x holds has_it longer mine =
      subst (λ (c : List (ℕ × Option T)). Allows (Turn entries mark_of maker seats) n id (me.0, c) 1 (λ y. (y + 1) % 18446744073709551616) (Left entries (step n 1 1 0 none) (me.0, c))) (sym has_it)
      (leaves_at n id me.0 x holds longer mine)
