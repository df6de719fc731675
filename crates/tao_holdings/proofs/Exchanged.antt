-- The entries of residents, exchanged with those of buckets.
use Rattle.std.proofs.Common.{◌≡◌, ℕ, zero, suc, ◌+◌, ◌<◌, ◌≤◌, Bool, true, false, ◌||◌, cond, nat_eq, List, [], ◌∷◌, ◌++◌, length, get_or, set, map, take, Option, Some, None, is_some, IfSome, refl, sym, ap, ap₂, ◌∙◌, subst, arith, inl, inr, ◌⊎◌, All}
use Rattle.std.specs.List.Sorted.{IsStrictlyIncreasing}
use Rattle.std.specs.Option.{option_map}
use Rattle.std.proofs.Math.Path.{fun_ext}
use Rattle.std.proofs.lemmas.Bool.{true≢false, cases_Bool, cases_eq, eq-eqb, ne_eqb, eqb-true, or_cases}
use Rattle.std.proofs.lemmas.List.{same_lists, take_more, take_all, get_or-map, length-map, get_or-set_same, get_or-set_other, length-take-le}
use Rattle.std.proofs.lemmas.List.Elements.{All-map}
use Rattle.std.proofs.lemmas.List.Kept.{AllPairs-from_increasing}
use Rattle.tao_base.specs.declared.storage.Bucket.{Bucket}
use Rattle.tao_base.specs.declared.storage.Entry.{Entry}
use Rattle.tao_base.specs.Limits.{Shape}
use Rattle.tao_flush.specs.Paths.{with_lists}
use Rattle.tao_flush.specs.State.{StashState, PositionsState}
use Rattle.tao_flush.proofs.Evicted.{with_lists_off}
use Rattle.tao_model.proofs.FallingPaths.{has}
use Rattle.tao_base.specs.Buckets.{IsInForm}
use Rattle.tao_model.specs.Placement.{entries_at}
use Rattle.tao_model.specs.Trace.{nodes_in}
use Rattle.tao_subtree.specs.Residents.{SubtreeState, KeepsRoom}
use Rattle.tao_holdings.specs.Holding.{HoldingsState, is_held, contents_in, entries_of}
use Rattle.tao_holdings.specs.Lists.{held_in, entries_in, AreNodes, relisted, Relists, with_entries_of, lists_in, with_buckets}
use Rattle.tao_holdings.specs.Laws.{ExchangedBack}
use Rattle.tao_holdings.specs.Parts.{IsHoldings, state_of}
use Rattle.tao_holdings.proofs.Swapped.{AreDistinct, next_off, relists_more, relists_off, relists_held}
use Rattle.tao_holdings.proofs.EvictedPath.{FitNode, bucket_fits, bucket_form, entries_fit, with_lists_keep, with_lists_any}

pub distinct_rising : (ns : List ℕ) → IsStrictlyIncreasing ns → AreDistinct ns
distinct_rising ns rising i j less below same = let up = AllPairs-from_increasing ns rising i j 0 less below in omega arith

-- within a list the default doesn't matter
get_or_any : (bs : List Bucket) (k : ℕ) (x y : Bucket) → k < length bs → get_or bs k x ≡ get_or bs k y
get_or_any [] k x y below = absurd (omega arith)
get_or_any (b ∷ bs) zero x y below = refl
get_or_any (b ∷ bs) (suc k) x y below = get_or_any bs k x y (omega arith)

-- the first d buckets have exchanged their entries
pub record Exchanging (given buckets : List Bucket) (old now : SubtreeState) (d : ℕ) : Type 0 where
  pub residents : Relists (take d (nodes_in given)) (take d (lists_in given)) old.residents now.residents
  pub others : now ≡ record old { residents = now.residents; spare = now.spare }
  pub kept : KeepsRoom old now
  pub before : (k : ℕ) (x : Bucket) → k < d → k < length given → get_or buckets k x ≡ with_entries_of (entries_in old.residents) (get_or given k x)
  pub after : (k : ℕ) (x : Bucket) → d ≤ k → get_or buckets k x ≡ get_or given k x

same_bucket : (o : Option Bucket) → option_map (λ (bucket : Bucket). record bucket { entries = bucket.entries }) o ≡ o
same_bucket None = refl
same_bucket (Some x) = refl

module _ (given buckets : List Bucket) (old now : SubtreeState) (d : ℕ) (y : Bucket) (len : length buckets ≡ length given) (within : d < length given)
    (distinct : AreDistinct (nodes_in given)) (s : Exchanging given buckets old now d) where
  abbrev x : Bucket
  x = get_or buckets d y

  x_is : x ≡ get_or given d y
  x_is = s.after d y (omega arith)

  nodes_len : length (nodes_in given) ≡ length given
  nodes_len = length-map given (λ b. b.node)

  lists_len : length (lists_in given) ≡ length given
  lists_len = length-map given (λ b. b.entries)

  node_is : get_or (nodes_in given) d 0 ≡ x.node
  node_is = get_or-map (λ (b : Bucket). b.node) given d y 0 within ∙ sym (ap (λ (b : Bucket). b.node) x_is)

  list_is : get_or (lists_in given) d [] ≡ x.entries
  list_is = get_or-map (λ (b : Bucket). b.entries) given d y [] within ∙ sym (ap (λ (b : Bucket). b.entries) x_is)

  off : has x.node (take d (nodes_in given)) ≡ false
  off = sym (ap (λ n. has n (take d (nodes_in given))) node_is) ∙ next_off (nodes_in given) d distinct (let n = nodes_len in omega arith)

  pub exchanging_more : (new : SubtreeState) (back : Bucket) → Relists (x.node ∷ []) (x.entries ∷ []) now.residents new.residents
      → new ≡ record now { residents = new.residents; spare = new.spare } → KeepsRoom now new → back ≡ with_entries_of (entries_in now.residents) x
      → Exchanging given (set buckets d back) old new (d + 1)
  exchanging_more new back swap others kept is = record {
    residents =
        let n_len = nodes_len in
        let l_len = lists_len in
        subst (λ (ns : List ℕ). Relists ns (take (d + 1) (lists_in given)) old.residents new.residents) (sym (take_more (nodes_in given) d 0 (omega arith) ∙ ap (λ n. take d (nodes_in given) ++ n ∷ []) node_is))
        (subst (λ (ls : List (List Entry)). Relists (take d (nodes_in given) ++ x.node ∷ []) ls old.residents new.residents)
        (sym (take_more (lists_in given) d [] (omega arith) ∙ ap (λ (l : List Entry). take d (lists_in given) ++ l ∷ []) list_is))
        (relists_more (take d (nodes_in given)) (take d (lists_in given)) x.node x.entries old.residents now.residents new.residents
        (length-take-le d (nodes_in given) (omega arith) ∙ sym (length-take-le d (lists_in given) (omega arith))) off s.residents swap));
    others = others ∙ ap (λ (st : SubtreeState). record st { residents = new.residents; spare = new.spare }) s.others;
    kept = kept ∙ s.kept;
    before = λ k z below inside. either k z (cases_eq k d) below inside;
    after = λ k z above. get_or-set_other buckets d k back z (λ same. omega arith) ∙ s.after k z (omega arith);
  }
    where
      here : (z : Bucket) → get_or given d z ≡ x
      here z = get_or_any given d z y within ∙ sym x_is

      either : (k : ℕ) (z : Bucket) → (k ≡ d) ⊎ (k ≡ d → ⊥) → k < d + 1 → k < length given → get_or (set buckets d back) k z ≡ with_entries_of (entries_in old.residents) (get_or given k z)
      either k z (inl same) below inside =
          ap (λ i. get_or (set buckets d back) i z) same ∙ get_or-set_same buckets d back z (omega arith) ∙ is
          ∙ ap (λ (o : Option Bucket). record x { entries = entries_of o }) (relists_off (take d (nodes_in given)) (take d (lists_in given)) old.residents now.residents x.node s.residents off)
          ∙ ap (with_entries_of (entries_in old.residents)) (sym (here z)) ∙ ap (λ i. with_entries_of (entries_in old.residents) (get_or given i z)) (sym same)
      either k z (inr other) below inside = get_or-set_other buckets d k back z other ∙ s.before k z (omega arith) inside

pub exchanged_all : (given buckets : List Bucket) (old now : SubtreeState) (d : ℕ) → length buckets ≡ length given → d ≡ length given → Exchanging given buckets old now d
    → Relists (nodes_in given) (lists_in given) old.residents now.residents × (buckets ≡ map (with_entries_of (entries_in old.residents)) given)
exchanged_all given buckets old now d len end s = (
  (let n_len = length-map given (λ (b : Bucket). b.node) in
      let l_len = length-map given (λ (b : Bucket). b.entries) in
      subst (λ (ns : List ℕ). Relists ns (lists_in given) old.residents now.residents) (take_all d (nodes_in given) (omega arith))
      (subst (λ (ls : List (List Entry)). Relists (take d (nodes_in given)) ls old.residents now.residents) (take_all d (lists_in given) (omega arith)) s.residents)),
  same_lists buckets (map (with_entries_of (entries_in old.residents)) given) (len ∙ sym (length-map given (with_entries_of (entries_in old.residents))))
      (λ k x below.
      s.before k x (omega arith) (omega arith) ∙ sym (get_or-map (with_entries_of (entries_in old.residents)) given k x x (omega arith))),
)

-- ---- in the words of the call

with_lists_buckets : (bs : List Bucket) (e : ℕ → List Entry) (w : ℕ) → with_lists (nodes_in bs) (lists_in bs) e w ≡ with_buckets bs e w
with_lists_buckets [] e w = refl
with_lists_buckets (b ∷ bs) e w = either (nat_eq b.node w) (has w (nodes_in bs)) (with_lists_buckets bs e w)
  where
    either : (t u : Bool) → with_lists (nodes_in bs) (lists_in bs) e w ≡ cond u (entries_at bs w) (e w)
        → cond t b.entries (with_lists (nodes_in bs) (lists_in bs) e w) ≡ cond (t || u) (cond t b.entries (entries_at bs w)) (e w)
    either true u ih = refl
    either false u ih = ih

-- a node of these buckets is held
node_held : (rs : List (Option Bucket)) (bs : List Bucket) (w : ℕ) → All (λ (b : Bucket). held_in rs b.node ≡ true) bs → has w (nodes_in bs) ≡ true → held_in rs w ≡ true
node_held rs [] w held on = absurd (true≢false (sym on))
node_held rs (b ∷ bs) w held on = either (node_held rs bs w (λ k d below. held (suc k) d (omega arith))) (or_cases (nat_eq b.node w) (has w (nodes_in bs)) on)
  where
    either : (has w (nodes_in bs) ≡ true → held_in rs w ≡ true) → (nat_eq b.node w ≡ true) ⊎ (has w (nodes_in bs) ≡ true) → held_in rs w ≡ true
    either ih (inl here) = subst (λ n. held_in rs n ≡ true) (eqb-true b.node w here) (held 0 b (omega arith))
    either ih (inr later) = ih later

map_alike : (c e : ℕ → List Entry) (bs : List Bucket) → All (λ (b : Bucket). c b.node ≡ e b.node) bs → map (with_entries_of c) bs ≡ map (with_entries_of e) bs
map_alike c e [] same = refl
map_alike c e (b ∷ bs) same = ap₂ (λ (es : List Entry) rest. (record b { entries = es }) ∷ rest) (same 0 b (omega arith)) (map_alike c e bs (λ k d below. same (suc k) d (omega arith)))

module _ (s : Shape) (bs : List Bucket) (old new : List (Option Bucket)) (is : Relists (nodes_in bs) (lists_in bs) old new) where
  new_entries : All (λ (b : Bucket). held_in old b.node ≡ true) bs → (w : ℕ) → entries_in new w ≡ with_buckets bs (entries_in old) w
  new_entries held w = ap entries_of (is w) ∙ each (get_or old w None) refl (cases_Bool (has w (nodes_in bs))) ∙ with_lists_buckets bs (entries_in old) w
    where
      len : length (nodes_in bs) ≡ length (lists_in bs)
      len = length-map bs (λ (b : Bucket). b.node) ∙ sym (length-map bs (λ (b : Bucket). b.entries))

      each : (o : Option Bucket) → get_or old w None ≡ o → (has w (nodes_in bs) ≡ true) ⊎ (has w (nodes_in bs) ≡ false)
          → entries_of (option_map (relisted (nodes_in bs) (lists_in bs) w) o) ≡ with_lists (nodes_in bs) (lists_in bs) (entries_in old) w
      each None here (inl on) = absurd (true≢false (sym (node_held old bs w held on) ∙ ap is_some here))
      each None here (inr off) = sym (with_lists_off (nodes_in bs) (lists_in bs) (entries_in old) w off ∙ ap entries_of here)
      each (Some b) here (inl on) = with_lists_any (nodes_in bs) (lists_in bs) (λ v. b.entries) (entries_in old) w len on
      each (Some b) here (inr off) = with_lists_off (nodes_in bs) (lists_in bs) (λ v. b.entries) w off ∙ sym (with_lists_off (nodes_in bs) (lists_in bs) (entries_in old) w off ∙ ap entries_of here)

  new_form : All (IsInForm s) bs → AreNodes s old → AreNodes s new
  new_form fit form w = subst (λ (o : Option Bucket). IfSome o (λ bucket. (bucket.node ≡ w) × IsInForm s bucket)) (sym (is w)) (each (get_or old w None) (form w))
    where
      fits : All (FitNode s) (lists_in bs)
      fits = All-map (FitNode s) (λ (b : Bucket). b.entries) bs (λ k d below. bucket_fits s (get_or bs k d) (fit k d below))

      each : (o : Option Bucket) → IfSome o (λ bucket. (bucket.node ≡ w) × IsInForm s bucket) → IfSome (option_map (relisted (nodes_in bs) (lists_in bs) w) o) (λ bucket. (bucket.node ≡ w) × IsInForm s bucket)
      each None h = tt
      each (Some b) h = (h.0, bucket_form s b (with_lists (nodes_in bs) (lists_in bs) (λ v. b.entries) w) h.1 (with_lists_keep (FitNode s) (nodes_in bs) (lists_in bs) (λ v. b.entries) w fits (bucket_fits s b h.1)))

-- the nodes' entries fit into buckets
out_form : (s : Shape) (bs : List Bucket) (old : List (Option Bucket)) → All (IsInForm s) bs → AreNodes s old → All (IsInForm s) (map (with_entries_of (entries_in old)) bs)
out_form s bs old fit form = All-map (IsInForm s) (with_entries_of (entries_in old)) bs
    (λ k d below. bucket_form s (get_or bs k d) (entries_in old (get_or bs k d).node) (fit k d below) (entries_fit s (get_or bs k d).node (get_or old (get_or bs k d).node None) (form (get_or bs k d).node)))

-- a node of the tree isn't the stash
no_stash : (s : Shape) (bs : List Bucket) (old : List (Option Bucket)) (stash : List Entry) → All (IsInForm s) bs
    → All (λ (b : Bucket). entries_in old b.node ≡ cond (nat_eq b.node 0) stash (entries_in old b.node)) bs
no_stash s bs old stash fit k d below =
    let low = (fit k d below).low in
    sym (ap (λ t. cond t stash (entries_in old (get_or bs k d).node)) (ne_eqb (get_or bs k d).node 0 (λ same. omega arith)))

has_zero : (s : Shape) (bs : List Bucket) → All (IsInForm s) bs → has 0 (nodes_in bs) ≡ false
has_zero s [] fit = refl
has_zero s (b ∷ bs) fit =
    let low = (fit 0 b (omega arith)).low in
    ap₂ (λ t u. t || u) (ne_eqb b.node 0 (λ same. omega arith)) (has_zero s bs (λ k d below. fit (suc k) d (omega arith)))

module _ (s : Shape) (sub new : SubtreeState) (stash : StashState) (pos : PositionsState) (lists : List (List Entry)) (inv : IsHoldings s sub stash pos lists) (bs : List Bucket)
    (swap : Relists (nodes_in bs) (lists_in bs) sub.residents new.residents) where
  pub exchanged_sound : (st : HoldingsState) → state_of s sub stash pos ≡ st → All (IsInForm st.shape) bs → new ≡ record sub { residents = new.residents; spare = new.spare } → KeepsRoom sub new
      → IsHoldings s new stash pos lists
  exchanged_sound st view fit others kept = record {
    shape = inv.shape;
    subtree_shape = ap (λ (x : SubtreeState). x.shape) others ∙ inv.subtree_shape;
    stash_shape = inv.stash_shape;
    positions_shape = inv.positions_shape;
    in_form = new_form s bs sub.residents new.residents swap (subst (λ (p : Shape). All (IsInForm p) bs) (sym (ap (λ (h : HoldingsState). h.shape) view)) fit) inv.in_form;
    in_order = inv.in_order;
    empty = inv.empty;
    room = kept ∙ inv.room;
  }

  pub exchanged_held : (st : HoldingsState) → state_of s sub stash pos ≡ st → is_held (state_of s new stash pos) ≡ is_held st
  exchanged_held st view = fun_ext (λ w. relists_held (nodes_in bs) (lists_in bs) sub.residents new.residents w swap) ∙ ap (λ (h : HoldingsState). is_held h) view

  pub exchanged_contents : (st : HoldingsState) → state_of s sub stash pos ≡ st → All (λ (b : Bucket). is_held st b.node ≡ true) bs → All (IsInForm st.shape) bs
      → contents_in (state_of s new stash pos) ≡ with_buckets bs (contents_in st)
  exchanged_contents st view =
      subst (λ (st : HoldingsState). All (λ (b : Bucket). is_held st b.node ≡ true) bs → All (IsInForm st.shape) bs → contents_in (state_of s new stash pos) ≡ with_buckets bs (contents_in st)) view
      (λ held fit. fun_ext (λ w. either w held fit (cases_eq w 0)))
    where
      either : (w : ℕ) → All (λ (b : Bucket). held_in sub.residents b.node ≡ true) bs → All (IsInForm s) bs → (w ≡ 0) ⊎ (w ≡ 0 → ⊥)
          → cond (nat_eq w 0) stash.entries (entries_in new.residents w) ≡ cond (has w (nodes_in bs)) (entries_at bs w) (cond (nat_eq w 0) stash.entries (entries_in sub.residents w))
      either w held fit (inl zero_is) =
          let off : has w (nodes_in bs) ≡ false = ap (λ v. has v (nodes_in bs)) zero_is ∙ has_zero s bs fit in
          rw (eq-eqb w 0 zero_is, off) refl
      either w held fit (inr other) = rw (ne_eqb w 0 other) (new_entries s bs sub.residents new.residents swap held w)

  pub exchanged_out : (st : HoldingsState) → state_of s sub stash pos ≡ st → (out : List Bucket) → out ≡ map (with_entries_of (entries_in sub.residents)) bs → All (IsInForm st.shape) bs
      → (out ≡ map (with_entries_of (contents_in st)) bs) × All (IsInForm st.shape) out
  exchanged_out st view out is =
      subst (λ (st : HoldingsState). All (IsInForm st.shape) bs → (out ≡ map (with_entries_of (contents_in st)) bs) × All (IsInForm st.shape) out) view
      (λ fit. (
        is ∙ map_alike (entries_in sub.residents) (contents_in (state_of s sub stash pos)) bs (no_stash s bs sub.residents stash.entries fit),
        subst (All (IsInForm s)) (sym is) (out_form s bs sub.residents fit inv.in_form),
      ))

-- ---- once more

nodes_same : (c : ℕ → List Entry) (bs : List Bucket) → nodes_in (map (with_entries_of c) bs) ≡ nodes_in bs
nodes_same c [] = refl
nodes_same c (b ∷ bs) = ap (λ (ns : List ℕ). b.node ∷ ns) (nodes_same c bs)

entries_there : (c : ℕ → List Entry) (bs : List Bucket) (w : ℕ) → has w (nodes_in bs) ≡ true → entries_at (map (with_entries_of c) bs) w ≡ c w
entries_there c [] w on = absurd (true≢false (sym on))
entries_there c (b ∷ bs) w on = either (cases_Bool (nat_eq b.node w)) (entries_there c bs w)
  where
    either : (nat_eq b.node w ≡ true) ⊎ (nat_eq b.node w ≡ false) → (has w (nodes_in bs) ≡ true → entries_at (map (with_entries_of c) bs) w ≡ c w)
        → cond (nat_eq b.node w) (c b.node) (entries_at (map (with_entries_of c) bs) w) ≡ c w
    either (inl here) ih = rw here (ap c (eqb-true b.node w here))
    either (inr other) ih = rw other (ih (sym (ap (λ t. t || has w (nodes_in bs)) other) ∙ on))

-- a bucket of a list in which no node stands twice
entry_at : (bs : List Bucket) (k : ℕ) (d : Bucket) → AreDistinct (nodes_in bs) → k < length bs → entries_at bs (get_or bs k d).node ≡ (get_or bs k d).entries
entry_at [] k d distinct below = absurd (omega arith)
entry_at (b ∷ bs) zero d distinct below = ap (λ t. cond t b.entries (entries_at bs b.node)) (eq-eqb b.node b.node refl)
entry_at (b ∷ bs) (suc k) d distinct below =
    let len = length-map bs (λ (x : Bucket). x.node) in
    let node : get_or (nodes_in bs) k 0 ≡ (get_or bs k d).node = get_or-map (λ (x : Bucket). x.node) bs k d 0 (omega arith) in
    ap (λ t. cond t b.entries (entries_at bs (get_or bs k d).node)) (ne_eqb b.node (get_or bs k d).node (λ same. distinct 0 (suc k) (omega arith) (omega arith) (same ∙ sym node)))
    ∙ entry_at bs k d (λ i j less within same. distinct (suc i) (suc j) (omega arith) (omega arith) same) (omega arith)

map_back : (c e : ℕ → List Entry) (bs : List Bucket) → All (λ (b : Bucket). e b.node ≡ b.entries) bs → map (with_entries_of e) (map (with_entries_of c) bs) ≡ bs
map_back c e [] same = refl
map_back c e (b ∷ bs) same = ap₂ (λ (es : List Entry) rest. (record b { entries = es }) ∷ rest) (same 0 b (omega arith)) (map_back c e bs (λ k d below. same (suc k) d (omega arith)))

later : (x y : Bool) → y ≡ true → (x || y) ≡ true
later true y h = refl
later false y h = h

there : (bs : List Bucket) (k : ℕ) (d : Bucket) → k < length bs → has (get_or bs k d).node (nodes_in bs) ≡ true
there [] k d below = absurd (omega arith)
there (b ∷ bs) zero d below = ap (λ t. t || has b.node (nodes_in bs)) (eq-eqb b.node b.node refl)
there (b ∷ bs) (suc k) d below = later (nat_eq b.node (get_or bs k d).node) (has (get_or bs k d).node (nodes_in bs)) (there bs k d (omega arith))

pub exchanged_back : ExchangedBack
exchanged_back bs c rising = (
  fun_ext (λ w. ap (λ (ns : List ℕ). cond (has w ns) (entries_at (map (with_entries_of c) bs) w) (with_buckets bs c w)) (nodes_same c bs) ∙ either w (cases_Bool (has w (nodes_in bs)))),
  map_back c (with_buckets bs c) bs (λ k d below.
      ap (λ t. cond t (entries_at bs (get_or bs k d).node) (c (get_or bs k d).node)) (there bs k d below) ∙ entry_at bs k d (distinct_rising (nodes_in bs) rising) below),
)
  where
    either : (w : ℕ) → (has w (nodes_in bs) ≡ true) ⊎ (has w (nodes_in bs) ≡ false)
        → cond (has w (nodes_in bs)) (entries_at (map (with_entries_of c) bs) w) (with_buckets bs c w) ≡ c w
    either w (inl on) = ap (λ t. cond t (entries_at (map (with_entries_of c) bs) w) (with_buckets bs c w)) on ∙ entries_there c bs w on
    either w (inr off) = ap (λ t. cond t (entries_at (map (with_entries_of c) bs) w) (cond t (entries_at bs w) (c w))) off
