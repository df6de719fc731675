-- What is held once the buckets of a path are admitted.
use Rattle.std.proofs.Common.{◌≡◌, ℕ, suc, ◌+◌, ◌^◌, ◌<◌, Bool, true, false, not, ◌&&◌, ◌||◌, cond, nat_eq, List, [], ◌∷◌, length, get_or, set, Option, Some, None, is_some, IfSome, refl, sym, ap, ◌∙◌, subst, arith, inl, inr, ◌⊎◌, All}
use Rattle.std.specs.Prelude.{filter, ⊤}
use Rattle.std.proofs.Math.Path.{fun_ext}
use Rattle.std.proofs.lemmas.Bool.{true≢false, false_from_ne_true, eqb-true, eq-eqb, ne_eqb, cases_eq, cases_Bool}
use Rattle.std.proofs.lemmas.List.{length-set, get_or-set_same, get_or-set_other}
use Rattle.std.proofs.lemmas.Map.Views.{any-filter_same}
use Rattle.tao_base.specs.declared.storage.Bucket.{Bucket}
use Rattle.tao_base.specs.declared.storage.Entry.{Entry}
use Rattle.tao_base.specs.Limits.{Shape}
use Rattle.tao_base.specs.Tree.{path, is_on_path}
use Rattle.tao_base.proofs.TreeLemmas.{one_le_node}
use Rattle.tao_held.specs.Steps.{take_in, with_path}
use Rattle.tao_flush.proofs.PathNodes.{depth_of}
use Rattle.tao_model.proofs.FallingPaths.{has, on_path_has}
use Rattle.tao_base.specs.Buckets.{IsInForm}
use Rattle.tao_model.specs.Placement.{entries_at}
use Rattle.tao_model.specs.Trace.{nodes_in}
use Rattle.tao_subtree.specs.Residents.{SubtreeState, HasPlaces, KeepsRoom}
use Rattle.tao_flush.specs.State.{StashState, PositionsState}
use Rattle.tao_holdings.specs.Parts.{IsHoldings, state_of}
use Rattle.std.proofs.lemmas.Nat.{pow_pos}
use Rattle.tao_holdings.specs.Holding.{HoldingsState, is_held, contents_in, entries_of}
use Rattle.tao_holdings.specs.Lists.{entries_in, AreNodes, with_taken, AreAway}
use Rattle.tao_holdings.proofs.Swapped.{AreDistinct, has_index, path_distinct}

-- ---- nodes, each once

abbrev EachOnce : List ℕ → Type 0
EachOnce [] = ⊤
EachOnce (n ∷ ns) = (has n ns ≡ false) × EachOnce ns

each_once : (ns : List ℕ) → AreDistinct ns → EachOnce ns
each_once [] distinct = tt
each_once (n ∷ ns) distinct = (
  false_from_ne_true (has n ns) (λ on.
      let found = has_index n ns on in
      let below = found.1 in
      distinct 0 (suc found.0) (omega arith) (omega arith) (sym found.2)),
  each_once ns (λ i j less below same. distinct (suc i) (suc j) (omega arith) (omega arith) same),
)

has_filter : (p : ℕ → Bool) (ns : List ℕ) (w : ℕ) → has w (filter p ns) ≡ (p w && has w ns)
has_filter p ns w = any-filter_same (λ v. nat_eq v w) p (p w) (λ v same. ap p (eqb-true v w same)) ns

once_filter : (p : ℕ → Bool) (ns : List ℕ) → EachOnce ns → EachOnce (filter p ns)
once_filter p [] once = tt
once_filter p (n ∷ ns) once = either (cases_Bool (p n)) (once_filter p ns once.1)
  where
    none : (t : Bool) → (t && false) ≡ false
    none true = refl
    none false = refl

    off : has n (filter p ns) ≡ false
    off = has_filter p ns n ∙ ap (λ t. p n && t) once.0 ∙ none (p n)

    either : (p n ≡ true) ⊎ (p n ≡ false) → EachOnce (filter p ns) → EachOnce (filter p (n ∷ ns))
    either (inl passes) rest = rw passes (off, rest)
    either (inr fails) rest = rw fails rest

-- ---- residents with admitted buckets

taken_other : (rs : List (Option Bucket)) (bs : List Bucket) (w : ℕ) → has w (nodes_in bs) ≡ false → get_or (with_taken rs bs) w None ≡ get_or rs w None
taken_other rs [] w off = refl
taken_other rs (b ∷ bs) w off = get_or-set_other (with_taken rs bs) b.node w (Some b) None (λ same. true≢false (sym (first (nat_eq b.node w) (has w (nodes_in bs)) (eq-eqb b.node w (sym same))) ∙ off)) ∙ taken_other rs bs w (second (nat_eq b.node w) (has w (nodes_in bs)) off)
  where
    first : (x y : Bool) → x ≡ true → (x || y) ≡ true
    first true y h = refl
    first false y h = absurd (true≢false (sym h))

    second : (x y : Bool) → (x || y) ≡ false → y ≡ false
    second true y h = absurd (true≢false h)
    second false y h = h

away_from : (rs : List (Option Bucket)) (bs : List Bucket) → EachOnce (nodes_in bs) → ((w : ℕ) → has w (nodes_in bs) ≡ true → is_some (get_or rs w None) ≡ false) → AreAway rs bs
away_from rs [] once away = tt
away_from rs (b ∷ bs) once away = (
  ap is_some (taken_other rs bs b.node once.0) ∙ away b.node (ap (λ t. t || has b.node (nodes_in bs)) (eq-eqb b.node b.node refl)),
  away_from rs bs once.1 (λ w on. away w (later (nat_eq b.node w) (has w (nodes_in bs)) on)),
)
  where
    later : (x y : Bool) → y ≡ true → (x || y) ≡ true
    later true y h = refl
    later false y h = h

taken_len : (rs : List (Option Bucket)) (bs : List Bucket) → length (with_taken rs bs) ≡ length rs
taken_len rs [] = refl
taken_len rs (b ∷ bs) = length-set (with_taken rs bs) b.node (Some b) ∙ taken_len rs bs

-- what holds of a place, for any view of it
taken_at : {X : Type 0} (f : Option Bucket → X) (here : ℕ → List Bucket → X) → (rs : List (Option Bucket)) (bs : List Bucket) (w : ℕ) → All (λ b. b.node < length rs) bs
    → ((b : Bucket) (rest : List Bucket) → b.node ≡ w → here w (b ∷ rest) ≡ f (Some b)) → ((b : Bucket) (rest : List Bucket) → (b.node ≡ w → ⊥) → here w (b ∷ rest) ≡ here w rest)
    → f (get_or (with_taken rs bs) w None) ≡ cond (has w (nodes_in bs)) (here w bs) (f (get_or rs w None))
taken_at f here rs [] w within at off = refl
taken_at f here rs (b ∷ bs) w within at off = either (cases_eq b.node w) (taken_at f here rs bs w (λ k d below. within (suc k) d (omega arith)) at off)
  where
    place : b.node < length (with_taken rs bs)
    place = let len = taken_len rs bs in let low = within 0 b (omega arith) in omega arith

    either : (b.node ≡ w) ⊎ (b.node ≡ w → ⊥) → f (get_or (with_taken rs bs) w None) ≡ cond (has w (nodes_in bs)) (here w bs) (f (get_or rs w None))
        → f (get_or (set (with_taken rs bs) b.node (Some b)) w None) ≡ cond (nat_eq b.node w || has w (nodes_in bs)) (here w (b ∷ bs)) (f (get_or rs w None))
    either (inl same) ih =
        ap (λ k. f (get_or (set (with_taken rs bs) b.node (Some b)) k None)) (sym same) ∙ ap f (get_or-set_same (with_taken rs bs) b.node (Some b) None place)
        ∙ sym (ap (λ t. cond (t || has w (nodes_in bs)) (here w (b ∷ bs)) (f (get_or rs w None))) (eq-eqb b.node w same) ∙ at b bs same)
    either (inr other) ih =
        ap f (get_or-set_other (with_taken rs bs) b.node w (Some b) None (λ same. other (sym same))) ∙ ih
        ∙ sym (ap (λ t. cond (t || has w (nodes_in bs)) (here w (b ∷ bs)) (f (get_or rs w None))) (ne_eqb b.node w other)
        ∙ ap (λ x. cond (has w (nodes_in bs)) x (f (get_or rs w None))) (off b bs other))

-- each bucket is still of its place's node, in form
taken_form : (s : Shape) (rs : List (Option Bucket)) (bs : List Bucket) → AreNodes s rs → All (IsInForm s) bs → All (λ b. b.node < length rs) bs → AreNodes s (with_taken rs bs)
taken_form s rs [] nodes fit within = nodes
taken_form s rs (b ∷ bs) nodes fit within = λ w. either w (cases_eq w b.node)
    (taken_form s rs bs nodes (λ k d below. fit (suc k) d (omega arith)) (λ k d below. within (suc k) d (omega arith)) w)
  where
    place : b.node < length (with_taken rs bs)
    place = let len = taken_len rs bs in let low = within 0 b (omega arith) in omega arith

    either : (w : ℕ) → (w ≡ b.node) ⊎ (w ≡ b.node → ⊥) → IfSome (get_or (with_taken rs bs) w None) (λ bucket. (bucket.node ≡ w) × IsInForm s bucket)
        → IfSome (get_or (set (with_taken rs bs) b.node (Some b)) w None) (λ bucket. (bucket.node ≡ w) × IsInForm s bucket)
    either w (inl same) ih =
        subst (λ (o : Option Bucket). IfSome o (λ bucket. (bucket.node ≡ w) × IsInForm s bucket))
        (sym (ap (λ k. get_or (set (with_taken rs bs) b.node (Some b)) k None) same ∙ get_or-set_same (with_taken rs bs) b.node (Some b) None place))
        (sym same, fit 0 b (omega arith))
    either w (inr other) ih =
        subst (λ (o : Option Bucket). IfSome o (λ bucket. (bucket.node ≡ w) × IsInForm s bucket)) (sym (get_or-set_other (with_taken rs bs) b.node w (Some b) None other)) ih

-- ---- in the words of the call

pub not_zero : (l at : ℕ) → is_on_path l at 0 ≡ false
not_zero l at = false_from_ne_true (is_on_path l at 0) (λ on.
    let found = depth_of l at 0 (sym (on_path_has l at 0) ∙ on) in
    let low = one_le_node l at found.0 in
    let here = found.2 in
    omega arith)

module _ (l at : ℕ) (rs : List (Option Bucket)) (bs : List Bucket) (nodes : nodes_in bs ≡ filter (λ w. not (is_some (get_or rs w None))) (path l at)) where
  has_away : (w : ℕ) → has w (nodes_in bs) ≡ (not (is_some (get_or rs w None)) && is_on_path l at w)
  has_away w = ap (has w) nodes ∙ has_filter (λ v. not (is_some (get_or rs v None))) (path l at) w ∙ ap (λ t. not (is_some (get_or rs w None)) && t) (sym (on_path_has l at w))

  pub path_away : at < 2 ^ l → AreAway rs bs
  path_away small =
      away_from rs bs (subst EachOnce (sym nodes) (once_filter (λ w. not (is_some (get_or rs w None))) (path l at) (each_once (path l at) (path_distinct l at small))))
      (λ w on. free (is_some (get_or rs w None)) (is_on_path l at w) (sym (has_away w) ∙ on))
    where
      free : (r on : Bool) → (not r && on) ≡ true → r ≡ false
      free true on h = absurd (true≢false (sym h))
      free false on h = refl

  module _ (within : All (λ b. b.node < length rs) bs) where
    pub path_held : (λ w. is_some (get_or (with_taken rs bs) w None)) ≡ with_path l at (λ w. is_some (get_or rs w None))
    path_held = fun_ext (λ w.
        taken_at is_some (λ k b. true) rs bs w within (λ b rest same. refl) (λ b rest other. refl)
        ∙ ap (λ t. cond t true (is_some (get_or rs w None))) (has_away w) ∙ either (is_some (get_or rs w None)) (is_on_path l at w))
      where
        either : (r on : Bool) → cond (not r && on) true r ≡ (r || on)
        either true on = refl
        either false true = refl
        either false false = refl

    pub path_contents : (stash : List Entry) → (λ w. cond (nat_eq w 0) stash (entries_in (with_taken rs bs) w))
        ≡ take_in l at (λ w. is_some (get_or rs w None)) (entries_at bs) (λ w. cond (nat_eq w 0) stash (entries_in rs w))
    path_contents stash = fun_ext (λ w. either w (cases_eq w 0))
      where
        turned : (r on : Bool) → (not r && on) ≡ (on && not r)
        turned true true = refl
        turned true false = refl
        turned false true = refl
        turned false false = refl

        here : (w : ℕ) → entries_in (with_taken rs bs) w ≡ cond (is_on_path l at w && not (is_some (get_or rs w None))) (entries_at bs w) (entries_in rs w)
        here w =
            taken_at entries_of (λ k b. entries_at b k) rs bs w within (λ b rest same. ap (λ t. cond t b.entries (entries_at rest w)) (eq-eqb b.node w same))
            (λ b rest other. ap (λ t. cond t b.entries (entries_at rest w)) (ne_eqb b.node w other))
            ∙ ap (λ t. cond t (entries_at bs w) (entries_in rs w)) (has_away w ∙ turned (is_some (get_or rs w None)) (is_on_path l at w))

        either : (w : ℕ) → (w ≡ 0) ⊎ (w ≡ 0 → ⊥) → cond (nat_eq w 0) stash (entries_in (with_taken rs bs) w)
            ≡ cond (is_on_path l at w && not (is_some (get_or rs w None))) (entries_at bs w) (cond (nat_eq w 0) stash (entries_in rs w))
        either w (inl zero_is) =
            let off : is_on_path l at w ≡ false = ap (is_on_path l at) zero_is ∙ not_zero l at in
            rw (eq-eqb w 0 zero_is, off) refl
        either w (inr other) = rw (ne_eqb w 0 other) (here w)

within_places : (s : Shape) (sub : SubtreeState) (bs : List Bucket) → HasPlaces sub → sub.shape ≡ s → All (IsInForm s) bs → All (λ b. b.node < length sub.residents) bs
within_places s sub bs places same fit = λ k d below.
    let high = (fit k d below).high in
    let some = pow_pos (s.l + 1) in
    let len : length sub.residents ≡ 2 ^ (s.l + 1) = places.residents ∙ ap (λ (p : Shape). 2 ^ (p.l + 1)) same in
    omega arith

module _ (s : Shape) (sub new : SubtreeState) (stash : StashState) (pos : PositionsState) (lists : List (List Entry)) (inv : IsHoldings s sub stash pos lists) (at : ℕ) (bs : List Bucket) where
  pub arrives_away : (st : HoldingsState) → state_of s sub stash pos ≡ st → at < 2 ^ st.shape.l → nodes_in bs ≡ filter (λ w. not (is_held st w)) (path st.shape.l at)
      → AreAway sub.residents bs
  arrives_away st view =
      subst (λ (st : HoldingsState). at < 2 ^ st.shape.l → nodes_in bs ≡ filter (λ w. not (is_held st w)) (path st.shape.l at) → AreAway sub.residents bs) view
      (λ small nodes. path_away s.l at sub.residents bs nodes small)

  module _ (places : HasPlaces sub) (state : new ≡ record sub { residents = with_taken sub.residents bs; spare = new.spare }) where
    pub arrived_sound : (st : HoldingsState) → state_of s sub stash pos ≡ st → All (IsInForm st.shape) bs → KeepsRoom sub new → IsHoldings s new stash pos lists
    arrived_sound st view fit kept = record {
      shape = inv.shape;
      subtree_shape = ap (λ (x : SubtreeState). x.shape) state ∙ inv.subtree_shape;
      stash_shape = inv.stash_shape;
      positions_shape = inv.positions_shape;
      in_form = subst (AreNodes s) (sym (ap (λ (x : SubtreeState). x.residents) state)) (taken_form s sub.residents bs inv.in_form fits (within_places s sub bs places inv.subtree_shape fits));
      in_order = inv.in_order;
      empty = inv.empty;
      room = kept ∙ inv.room;
    }
      where
        fits : All (IsInForm s) bs
        fits = subst (λ (p : Shape). All (IsInForm p) bs) (sym (ap (λ (h : HoldingsState). h.shape) view)) fit

    pub arrived_held : (st : HoldingsState) → state_of s sub stash pos ≡ st → nodes_in bs ≡ filter (λ w. not (is_held st w)) (path st.shape.l at) → All (IsInForm st.shape) bs
        → is_held (state_of s new stash pos) ≡ with_path st.shape.l at (is_held st)
    arrived_held st view =
        subst (λ (st : HoldingsState). nodes_in bs ≡ filter (λ w. not (is_held st w)) (path st.shape.l at) → All (IsInForm st.shape) bs
        → is_held (state_of s new stash pos) ≡ with_path st.shape.l at (is_held st)) view
        (λ nodes fit. ap (λ (x : SubtreeState). is_held (state_of s x stash pos)) state
        ∙ path_held s.l at sub.residents bs nodes (within_places s sub bs places inv.subtree_shape fit))

    pub arrived_contents : (st : HoldingsState) → state_of s sub stash pos ≡ st → nodes_in bs ≡ filter (λ w. not (is_held st w)) (path st.shape.l at) → All (IsInForm st.shape) bs
        → contents_in (state_of s new stash pos) ≡ take_in st.shape.l at (is_held st) (entries_at bs) (contents_in st)
    arrived_contents st view =
        subst (λ (st : HoldingsState). nodes_in bs ≡ filter (λ w. not (is_held st w)) (path st.shape.l at) → All (IsInForm st.shape) bs
        → contents_in (state_of s new stash pos) ≡ take_in st.shape.l at (is_held st) (entries_at bs) (contents_in st)) view
        (λ nodes fit. ap (λ (x : SubtreeState). contents_in (state_of s x stash pos)) state
        ∙ path_contents s.l at sub.residents bs nodes (within_places s sub bs places inv.subtree_shape fit) stash.entries)
