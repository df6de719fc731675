-- The lists of nodes, exchanged one after another.
use Rattle.std.proofs.Common.{◌≡◌, ℕ, suc, ◌+◌, ◌^◌, ◌<◌, ◌≤◌, true, false, cond, nat_eq, List, [], ◌∷◌, ◌++◌, length, get_or, set, take, Option, Some, None, is_some, refl, sym, ap, ◌∙◌, subst, arith, inl, inr, ◌⊎◌}
use Rattle.std.specs.Option.{option_map, IsSomeAnd}
use Rattle.std.proofs.lemmas.Bool.{true≢false, false_from_ne_true, or_cases, or_parts, eqb-true, eq-eqb, ne_eqb, cases_eq, cases_lt}
use Rattle.std.proofs.lemmas.List.{same_lists, take_more, get_or_past, get_or-set_same, get_or-set_other, length-take-le, get_or-take, take_all}
use Rattle.tao_base.specs.declared.storage.Bucket.{Bucket}
use Rattle.tao_base.specs.declared.storage.Entry.{Entry}
use Rattle.tao_base.specs.Tree.{path, node_at, is_on_path}
use Rattle.tao_model.proofs.FallingPaths.{has, on_path_has}
use Rattle.tao_flush.specs.Paths.{with_lists}
use Rattle.tao_flush.specs.Placing.{lists_on}
use Rattle.tao_flush.proofs.Evicted.{with_lists_off, path_at, path_len}
use Rattle.tao_flush.proofs.PathNodes.{node_rises, on_own_path}
use Rattle.tao_flush.proofs.PlacedLists.{list_at, lists_len}
use Rattle.tao_subtree.specs.Residents.{SubtreeState, resident_at, with_entries, KeepsRoom}
use Rattle.tao_holdings.specs.Holding.{entries_of}
use Rattle.tao_holdings.specs.Lists.{entries_in, relisted, Relists}

-- ---- one node

-- a resident has a place
pub held_below : (nodes : List (Option Bucket)) (w : ℕ) → is_some (get_or nodes w None) ≡ true → w < length nodes
held_below nodes w held = either (cases_lt w (length nodes))
  where
    either : (w < length nodes) ⊎ (length nodes ≤ w) → w < length nodes
    either (inl below) = below
    either (inr past) = absurd (true≢false (sym held ∙ ap is_some (get_or_past nodes w None past)))

same_bucket : (o : Option Bucket) → option_map (λ (bucket : Bucket). record bucket { entries = bucket.entries }) o ≡ o
same_bucket None = refl
same_bucket (Some x) = refl

one_off : (v w : ℕ) (x : List Entry) (o : Option Bucket) → nat_eq v w ≡ false → option_map (relisted (v ∷ []) (x ∷ []) w) o ≡ o
one_off v w x None off = refl
one_off v w x (Some b) off = ap (λ t. Some (record b { entries = cond t x b.entries })) off

one_at : (v w : ℕ) (x : List Entry) (b : Bucket) → nat_eq v w ≡ true → relisted (v ∷ []) (x ∷ []) w b ≡ record b { entries = x }
one_at v w x b on = ap (λ t. record b { entries = cond t x b.entries }) on

pub swaps_one : (old new : SubtreeState) (v : ℕ) (given back : List Entry) → IsSomeAnd (resident_at old v) (λ b. (new ≡ with_entries old v b given) × (back ≡ b.entries))
    → (Relists (v ∷ []) (given ∷ []) old.residents new.residents) × (new ≡ record old { residents = new.residents; spare = new.spare }) × (back ≡ entries_in old.residents v)
swaps_one old new v given back swapped = by_bucket (resident_at old v) refl swapped
  where
    node : (b : Bucket) → resident_at old v ≡ Some b → new ≡ with_entries old v b given → (w : ℕ)
        → get_or new.residents w None ≡ option_map (relisted (v ∷ []) (given ∷ []) w) (get_or old.residents w None)
    node b here is w = either (cases_eq w v)
      where
        either : (w ≡ v) ⊎ (w ≡ v → ⊥) → get_or new.residents w None ≡ option_map (relisted (v ∷ []) (given ∷ []) w) (get_or old.residents w None)
        either (inl same) =
            ap (λ (st : SubtreeState). get_or st.residents w None) is ∙ ap (λ k. get_or (set old.residents v (Some (record b { entries = given }))) k None) same
            ∙ get_or-set_same old.residents v (Some (record b { entries = given })) None (held_below old.residents v (ap is_some here))
            ∙ sym (ap (λ k. option_map (relisted (v ∷ []) (given ∷ []) k) (get_or old.residents k None)) same
            ∙ ap (option_map (relisted (v ∷ []) (given ∷ []) v)) here ∙ ap Some (one_at v v given b (eq-eqb v v refl)))
        either (inr other) =
            ap (λ (st : SubtreeState). get_or st.residents w None) is
            ∙ get_or-set_other old.residents v w (Some (record b { entries = given })) None other
            ∙ sym (one_off v w given (get_or old.residents w None) (ne_eqb v w (λ same. other (sym same))))

    by_bucket : (o : Option Bucket) → resident_at old v ≡ o → IsSomeAnd o (λ b. (new ≡ with_entries old v b given) × (back ≡ b.entries))
        → (Relists (v ∷ []) (given ∷ []) old.residents new.residents) × (new ≡ record old { residents = new.residents; spare = new.spare }) × (back ≡ entries_in old.residents v)
    by_bucket None here s = absurd s
    by_bucket (Some b) here s = (
      node b here s.0,
      s.0 ∙ ap (λ (st : SubtreeState). record old { residents = st.residents; spare = st.spare }) (sym s.0),
      s.1 ∙ sym (ap entries_of here),
    )

-- ---- node after node

-- no node twice
abbrev pub AreDistinct : List ℕ → Type 0
AreDistinct nodes = (i j : ℕ) → i < j → j < length nodes → get_or nodes i 0 ≡ get_or nodes j 0 → ⊥

pub has_index : (w : ℕ) (nodes : List ℕ) → has w nodes ≡ true → (k : ℕ) × (k < length nodes) × (get_or nodes k 0 ≡ w)
has_index w [] h = absurd (true≢false (sym h))
has_index w (v ∷ nodes) h = either (has_index w nodes) (or_cases (nat_eq v w) (has w nodes) h)
  where
    either : (has w nodes ≡ true → (k : ℕ) × (k < length nodes) × (get_or nodes k 0 ≡ w)) → (nat_eq v w ≡ true) ⊎ (has w nodes ≡ true)
        → (k : ℕ) × (k < length (v ∷ nodes)) × (get_or (v ∷ nodes) k 0 ≡ w)
    either ih (inl same) = (0, omega arith, eqb-true v w same)
    either ih (inr later) = let found = ih later in let below = found.1 in (suc found.0, omega arith, found.2)

-- the next node isn't one of those before
pub next_off : (nodes : List ℕ) (d : ℕ) → AreDistinct nodes → d < length nodes → has (get_or nodes d 0) (take d nodes) ≡ false
next_off nodes d distinct within = false_from_ne_true (has (get_or nodes d 0) (take d nodes)) (λ on.
    let found = has_index (get_or nodes d 0) (take d nodes) on in
    let len : length (take d nodes) ≡ d = length-take-le d nodes (omega arith) in
    let below = found.1 in
    let k_in : found.0 < d = omega arith in
    distinct found.0 d k_in within (sym (get_or-take d nodes found.0 0 k_in) ∙ found.2))

-- one more node gets its list
with_more : (nodes : List ℕ) (lists : List (List Entry)) (v : ℕ) (x : List Entry) (e : ℕ → List Entry) (w : ℕ) → length nodes ≡ length lists → has v nodes ≡ false
    → with_lists (nodes ++ v ∷ []) (lists ++ x ∷ []) e w ≡ cond (nat_eq v w) x (with_lists nodes lists e w)
with_more [] [] v x e w len off = refl
with_more [] (l ∷ lists) v x e w len off = absurd (omega arith)
with_more (u ∷ nodes) [] v x e w len off = absurd (omega arith)
with_more (u ∷ nodes) (l ∷ lists) v x e w len off = either (with_more nodes lists v x e w (omega arith) (or_parts (nat_eq u v) (has v nodes) off).1) (cases_eq u w)
  where
    parts : (nat_eq u v ≡ false) × (has v nodes ≡ false)
    parts = or_parts (nat_eq u v) (has v nodes) off

    either : with_lists (nodes ++ v ∷ []) (lists ++ x ∷ []) e w ≡ cond (nat_eq v w) x (with_lists nodes lists e w) → (u ≡ w) ⊎ (u ≡ w → ⊥) → cond (nat_eq u w) l (with_lists (nodes ++ v ∷ []) (lists ++ x ∷ []) e w) ≡ cond (nat_eq v w) x (cond (nat_eq u w) l (with_lists nodes lists e w))
    either rest (inl same) =
        let apart : nat_eq v w ≡ false = ne_eqb v w (λ here. true≢false (sym (eq-eqb u v (same ∙ sym here)) ∙ parts.0)) in
        rw (apart, eq-eqb u w same) refl
    either rest (inr other) = rw (ne_eqb u w other) rest

pub relists_more : (nodes : List ℕ) (lists : List (List Entry)) (v : ℕ) (x : List Entry) (old mid new : List (Option Bucket)) → length nodes ≡ length lists → has v nodes ≡ false
    → Relists nodes lists old mid → Relists (v ∷ []) (x ∷ []) mid new → Relists (nodes ++ v ∷ []) (lists ++ x ∷ []) old new
relists_more nodes lists v x old mid new len off first then w =
    then w ∙ ap (option_map (relisted (v ∷ []) (x ∷ []) w)) (first w) ∙ each (get_or old w None)
  where
    each : (o : Option Bucket) → option_map (relisted (v ∷ []) (x ∷ []) w) (option_map (relisted nodes lists w) o) ≡ option_map (relisted (nodes ++ v ∷ []) (lists ++ x ∷ []) w) o
    each None = refl
    each (Some b) = ap (λ (es : List Entry). Some (record b { entries = es })) (sym (with_more nodes lists v x (λ u. b.entries) w len off))

-- all other nodes are unchanged
pub relists_off : (nodes : List ℕ) (lists : List (List Entry)) (old new : List (Option Bucket)) (w : ℕ) → Relists nodes lists old new → has w nodes ≡ false
    → get_or new w None ≡ get_or old w None
relists_off nodes lists old new w is off = is w ∙ each (get_or old w None)
  where
    each : (o : Option Bucket) → option_map (relisted nodes lists w) o ≡ o
    each None = refl
    each (Some b) = ap (λ (es : List Entry). Some (record b { entries = es })) (with_lists_off nodes lists (λ u. b.entries) w off)

-- each node has a bucket exactly if it had one
pub relists_held : (nodes : List ℕ) (lists : List (List Entry)) (old new : List (Option Bucket)) (w : ℕ) → Relists nodes lists old new → is_some (get_or new w None) ≡ is_some (get_or old w None)
relists_held nodes lists old new w is = ap is_some (is w) ∙ each (get_or old w None)
  where
    each : (o : Option Bucket) → is_some (option_map (relisted nodes lists w) o) ≡ is_some o
    each None = refl
    each (Some b) = refl

-- the first d nodes have exchanged their lists
pub record Swapping (nodes : List ℕ) (given lists : List (List Entry)) (old now : SubtreeState) (d : ℕ) : Type 0 where
  pub residents : Relists (take d nodes) (take d given) old.residents now.residents
  pub others : now ≡ record old { residents = now.residents; spare = now.spare }
  pub kept : KeepsRoom old now
  pub before : (k : ℕ) (x : List Entry) → k < d → get_or lists k x ≡ entries_in old.residents (get_or nodes k 0)
  pub after : (k : ℕ) (x : List Entry) → d ≤ k → get_or lists k x ≡ get_or given k x

pub swapping_more : (nodes : List ℕ) (given lists : List (List Entry)) (old now new : SubtreeState) (d v : ℕ) (x y back : List Entry) → AreDistinct nodes → d < length nodes
    → length given ≡ length nodes → length lists ≡ length given → v ≡ get_or nodes d 0 → x ≡ get_or lists d y → Swapping nodes given lists old now d
    → Relists (v ∷ []) (x ∷ []) now.residents new.residents → new ≡ record now { residents = new.residents; spare = new.spare } → KeepsRoom now new
    → back ≡ entries_in now.residents v → Swapping nodes given (set lists d back) old new (d + 1)
swapping_more nodes given lists old now new d v x y back distinct within given_len len at here s swap others kept is = record {
  residents =
      let given_is : x ≡ get_or given d y = here ∙ s.after d y (omega arith) in
      subst (λ (ns : List ℕ). Relists ns (take (d + 1) given) old.residents new.residents) (sym (take_more nodes d 0 within ∙ ap (λ n. take d nodes ++ n ∷ []) (sym at)))
      (subst (λ (ls : List (List Entry)). Relists (take d nodes ++ v ∷ []) ls old.residents new.residents) (sym (take_more given d y (omega arith) ∙ ap (λ (l : List Entry). take d given ++ l ∷ []) (sym given_is)))
      (relists_more (take d nodes) (take d given) v x old.residents now.residents new.residents (length-take-le d nodes (omega arith) ∙ sym (length-take-le d given (omega arith))) off s.residents swap));
  others = others ∙ ap (λ (st : SubtreeState). record st { residents = new.residents; spare = new.spare }) s.others;
  kept = kept ∙ s.kept;
  before = λ k z below. either k z (cases_eq k d) below;
  after = λ k y above. get_or-set_other lists d k back y (λ same. omega arith) ∙ s.after k y (omega arith);
}
  where
    off : has v (take d nodes) ≡ false
    off = ap (λ n. has n (take d nodes)) at ∙ next_off nodes d distinct within

    either : (k : ℕ) (y : List Entry) → (k ≡ d) ⊎ (k ≡ d → ⊥) → k < d + 1 → get_or (set lists d back) k y ≡ entries_in old.residents (get_or nodes k 0)
    either k y (inl same) below =
        ap (λ i. get_or (set lists d back) i y) same ∙ get_or-set_same lists d back y (omega arith) ∙ is
        ∙ ap entries_of (relists_off (take d nodes) (take d given) old.residents now.residents v s.residents off)
        ∙ ap (entries_in old.residents) (at ∙ ap (λ i. get_or nodes i 0) (sym same))
    either k y (inr other) below = get_or-set_other lists d k back y other ∙ s.before k y (omega arith)

-- ---- the nodes of a path

pub path_distinct : (l at : ℕ) → at < 2 ^ l → AreDistinct (path l at)
path_distinct l at small i j less below same =
    let len = path_len l at in
    let up = node_rises l at i j small less (omega arith) in
    let both : node_at l at i ≡ node_at l at j = sym (path_at l at i 0 (omega arith)) ∙ same ∙ path_at l at j 0 (omega arith) in
    omega arith

-- all nodes of the path have exchanged their lists
pub swapped_path : (l at : ℕ) (given lists : List (List Entry)) (old now : SubtreeState) (d : ℕ) → d ≡ l + 1 → length given ≡ l + 1 → length lists ≡ l + 1
    → Swapping (path l at) given lists old now d → Relists (path l at) given old.residents now.residents × (lists ≡ lists_on l at (entries_in old.residents))
swapped_path l at given lists old now d end given_len len s = (
  subst (λ (ns : List ℕ). Relists ns given old.residents now.residents) (take_all d (path l at) (omega (arith, nodes_len)))
      (subst (λ (ls : List (List Entry)). Relists (take d (path l at)) ls old.residents now.residents) (take_all d given (omega arith)) s.residents),
  same_lists lists (lists_on l at (entries_in old.residents)) (len ∙ sym (lists_len l at (entries_in old.residents)))
      (λ k x below.
      s.before k x (omega arith) ∙ ap (entries_in old.residents) (path_at l at k 0 (omega arith)) ∙ sym (list_at l at k (entries_in old.residents) x (omega arith))),
)
  where
    nodes_len : length (path l at) ≡ l + 1
    nodes_len = path_len l at

-- what the loop over the depths owes
module _ (l at : ℕ) (small : at < 2 ^ l) (given lists : List (List Entry)) (old now : SubtreeState) (d v : ℕ) (within : d < l + 1) (is : v ≡ node_at l at d)
    (s : Swapping (path l at) given lists old now d) where
  pub depth_held : ((w : ℕ) → is_on_path l at w ≡ true → is_some (resident_at old w) ≡ true) → is_some (resident_at now v) ≡ true
  depth_held held =
      relists_held (take d (path l at)) (take d given) old.residents now.residents v s.residents
      ∙ held v (ap (is_on_path l at) is ∙ on_path_has l at (node_at l at d) ∙ on_own_path l at d small (omega arith))

  pub depth_more : (new : SubtreeState) (x y back : List Entry) → length given ≡ l + 1 → length lists ≡ length given → x ≡ get_or lists d y
      → Relists (v ∷ []) (x ∷ []) now.residents new.residents → new ≡ record now { residents = new.residents; spare = new.spare } → KeepsRoom now new
      → back ≡ entries_in now.residents v → Swapping (path l at) given (set lists d back) old new (d + 1)
  depth_more new x y back given_len len here swap others kept back_is =
      let nodes_len = path_len l at in
      swapping_more (path l at) given lists old now new d v x y back (path_distinct l at small) (omega arith) (given_len ∙ sym nodes_len) len
      (is ∙ sym (path_at l at d 0 (omega arith))) here s swap others kept back_is
