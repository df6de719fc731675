-- The pass over the blocks is the load.
use Rattle.std.proofs.Common.{◌≡◌, ℕ, ◌+◌, ◌-◌, ◌^◌, ◌<◌, ◌≤◌, Bool, true, ◌&&◌, List, [], ◌∷◌, ◌++◌, length, map, set, get_or, All, Option, Some, None, nat_lt, refl, sym, ap, ◌∙◌, subst, arith, inl, inr, ◌⊎◌}
use Rattle.std.proofs.Common.{append-nil}
use Rattle.std.specs.List.{range_with_len}
use Rattle.std.proofs.lemmas.Bool.{ne_eqb, eq-eqb, lt-ltb, cases_eq, and_parts}
use Rattle.std.proofs.lemmas.List.{same_lists, get_or-set_same, get_or-set_other, length-set, take_all, get_or_default}
use Rattle.std.proofs.lemmas.List.Elements.{All-nil}
use Rattle.std.proofs.lemmas.List.FromFn.{get_or-map-range_with_len, length-map-range_with_len, map-range_with_len_more}
use Rattle.tao_base.specs.declared.storage.Entry.{Entry}
use Rattle.tao_base.specs.declared.storage.Bucket.{Bucket}
use Rattle.tao_base.specs.Limits.{Shape}
use Rattle.tao_base.specs.Array.{block_at}
use Rattle.tao_base.specs.Tree.{node_at, node_count, is_on_path}
use Rattle.tao_base.proofs.TreeLemmas.{one_le_node}
use Rattle.tao_model.specs.Placement.{IsPlaced, IsLoad, may_load, block_below, with_stash, entries_at}
use Rattle.tao_model.specs.Passes.{spot, put_at, one_pass}
use Rattle.tao_model.specs.Evictions.{block_entry, block_entries, first_bucket, load_contents, load_buckets}
use Rattle.tao_model.specs.Greatest.{IsLast}
use Rattle.tao_model.proofs.OneLoad.{load_pass, load_is_placed}
use Rattle.tao_model.proofs.OnePlacement.{one_placement}
use Rattle.tao_model.proofs.OnePass.{pass_more}
use Rattle.tao_model.proofs.FallingPaths.{on_path_has}
use Rattle.tao_flush.specs.Blocks.{IsEntry, IsStash, AreNodeEntries}
use Rattle.tao_flush.specs.Loads.{IsLoaded, LoadsNext, has_room, next_loaded, loaded_first}
use Rattle.tao_flush.proofs.PathNodes.{node_or_stash, node_within, on_own_path, deepest_on_path, last_alike}
use Rattle.tao_flush.proofs.WholePasses.{pass_keeps}

pub buckets_len : (s : Shape) (contents : ℕ → List Entry) → length (load_buckets s contents) ≡ node_count s.l
buckets_len s contents = length-map-range_with_len (first_bucket contents) 1 (node_count s.l)

bucket_at : (s : Shape) (contents : ℕ → List Entry) (w : ℕ) (d : Bucket) → 0 < w → w ≤ node_count s.l → get_or (load_buckets s contents) (w - 1) d ≡ first_bucket contents w
bucket_at s contents w d low within = get_or-map-range_with_len (first_bucket contents) 1 (node_count s.l) (w - 1) w d (omega arith) (omega arith)

-- where a block goes, as the code finds it
load_spot_found : (s : Shape) (leaf : ℕ → ℕ) (contents : ℕ → List Entry) (b : ℕ) (last : Option ℕ) → b < s.n → leaf b < 2 ^ s.l
    → IsLast (has_room s (leaf b) (load_buckets s contents)) (s.l + 1) last
    → spot (may_load s leaf) (node_count s.l) s.z contents b ≡ node_or_stash s.l (leaf b) last
load_spot_found s leaf contents b last below small is =
    deepest_on_path passes s.l (leaf b) small
    (λ w passed. sym (on_path_has s.l (leaf b) w) ∙ (and_parts (nat_lt b s.n) (is_on_path s.l (leaf b) w) (and_parts (may_load s leaf b w) (nat_lt (length (contents w)) s.z) passed).0).1) last
    (last_alike (has_room s (leaf b) (load_buckets s contents)) (λ d. passes (node_at s.l (leaf b) d)) (s.l + 1) last (λ d within. same d (omega arith)) is)
  where
    passes : ℕ → Bool
    passes w = may_load s leaf b w && nat_lt (length (contents w)) s.z

    same : (d : ℕ) → d ≤ s.l → has_room s (leaf b) (load_buckets s contents) d ≡ (may_load s leaf b (node_at s.l (leaf b) d) && nat_lt (length (contents (node_at s.l (leaf b) d))) s.z)
    same d within =
        let low = one_le_node s.l (leaf b) d in
        let on : is_on_path s.l (leaf b) (node_at s.l (leaf b) d) ≡ true = on_path_has s.l (leaf b) (node_at s.l (leaf b) d) ∙ on_own_path s.l (leaf b) d small within in
        ap (λ bucket. nat_lt (length bucket.entries) s.z)
        (bucket_at s contents (node_at s.l (leaf b) d) (first_bucket (λ v. []) (node_at s.l (leaf b) d)) (omega arith) (node_within s.l (leaf b) d small within))
        ∙ sym (rw (lt-ltb b s.n below, on) refl)

-- the bucket of a node before anything is written to it, with these entries
abbrev bucket_with : ℕ → List Entry → Bucket
bucket_with w entries = record { node = w; version = 0; nonce = w; entries = entries }

-- an entry at a node changes that node's bucket
put_in_bucket : (s : Shape) (contents : ℕ → List Entry) (w : ℕ) (e : Entry) → 0 < w → w ≤ node_count s.l
    → set (load_buckets s contents) (w - 1) (first_bucket (put_at contents w e) w) ≡ load_buckets s (put_at contents w e)
put_in_bucket s contents w e low within =
    same_lists (set (load_buckets s contents) (w - 1) (first_bucket (put_at contents w e) w)) (load_buckets s (put_at contents w e))
    (length-set (load_buckets s contents) (w - 1) (first_bucket (put_at contents w e) w) ∙ buckets_len s contents ∙ sym (buckets_len s (put_at contents w e)))
    (λ k d below. each k d (let len = length-set (load_buckets s contents) (w - 1) (first_bucket (put_at contents w e) w) in let all = buckets_len s contents in omega arith) (cases_eq k (w - 1)))
  where
    at : (c : ℕ → List Entry) (k : ℕ) (d : Bucket) → k < node_count s.l → get_or (load_buckets s c) k d ≡ first_bucket c (1 + k)
    at c k d below = get_or-map-range_with_len (first_bucket c) 1 (node_count s.l) k (1 + k) d below refl

    each : (k : ℕ) (d : Bucket) → k < node_count s.l → (k ≡ w - 1) ⊎ (k ≡ w - 1 → ⊥)
        → get_or (set (load_buckets s contents) (w - 1) (first_bucket (put_at contents w e) w)) k d ≡ get_or (load_buckets s (put_at contents w e)) k d
    each k d below (inl same) =
        let len = buckets_len s contents in
        let here : 1 + k ≡ w = omega arith in
        ap (λ i. get_or (set (load_buckets s contents) (w - 1) (first_bucket (put_at contents w e) w)) i d) same
        ∙ get_or-set_same (load_buckets s contents) (w - 1) (first_bucket (put_at contents w e) w) d (omega arith)
        ∙ sym (at (put_at contents w e) k d below ∙ ap (first_bucket (put_at contents w e)) here)
    each k d below (inr other) =
        let elsewhere : (w ≡ 1 + k → ⊥) = λ same. other (omega arith) in
        let untouched : contents (1 + k) ≡ put_at contents w e (1 + k) = sym (rw (ne_eqb w (1 + k) elsewhere) refl) in
        get_or-set_other (load_buckets s contents) (w - 1) k (first_bucket (put_at contents w e) w) d other ∙ at contents k d below
        ∙ ap (bucket_with (1 + k)) untouched ∙ sym (at (put_at contents w e) k d below)

abbrev with_more : Bucket → Entry → Bucket
with_more bucket e = record bucket { entries = bucket.entries ++ e ∷ [] }

-- an entry in the stash changes none of them
put_off_buckets : (s : Shape) (contents : ℕ → List Entry) (e : Entry) → load_buckets s contents ≡ load_buckets s (put_at contents 0 e)
put_off_buckets s contents e =
    same_lists (load_buckets s contents) (load_buckets s (put_at contents 0 e)) (buckets_len s contents ∙ sym (buckets_len s (put_at contents 0 e)))
    (λ k d below.
    let len = buckets_len s contents in
    let within : k < node_count s.l = omega arith in
    get_or-map-range_with_len (first_bucket contents) 1 (node_count s.l) k (1 + k) d within refl
    ∙ ap (bucket_with (1 + k)) (sym (rw (ne_eqb 0 (1 + k) (λ same. omega arith)) refl))
    ∙ sym (get_or-map-range_with_len (first_bucket (put_at contents 0 e)) 1 (node_count s.l) k (1 + k) d within refl))

-- the block at the depth that was found
pub loads_there : (s : Shape) (leaf : ℕ → ℕ) (old : List Bucket) (e : Entry) (d w : ℕ) (item new : Bucket) → e.id < s.n → leaf e.id < 2 ^ s.l
    → IsLast (has_room s (leaf e.id) old) (s.l + 1) (Some d) → w ≡ node_at s.l (leaf e.id) d → item ≡ get_or old (w - 1) item → new ≡ with_more item e
    → LoadsNext s leaf old e (set old (w - 1) new) None
loads_there s leaf old e d w item new below small is node here more contents buckets =
    let is_here : IsLast (has_room s (leaf e.id) (load_buckets s contents)) (s.l + 1) (Some d) = subst (λ l. IsLast (has_room s (leaf e.id) l) (s.l + 1) (Some d)) buckets is in
    let spot_is : spot (may_load s leaf) (node_count s.l) s.z contents e.id ≡ w = load_spot_found s leaf contents e.id (Some d) below small is_here ∙ sym node in
    let depth_below = is.0 in
    let low = one_le_node s.l (leaf e.id) d in
    let high = node_within s.l (leaf e.id) d small (omega arith) in
    let item_is : item ≡ first_bucket contents w = here ∙ ap (λ l. get_or l (w - 1) item) buckets ∙ bucket_at s contents w item (omega arith) (omega arith) in
    let new_is : new ≡ first_bucket (put_at contents w e) w = more ∙ ap (λ bucket. with_more bucket e) item_is ∙ ap (bucket_with w) (sym (rw (eq-eqb w w refl) refl)) in (
      ap (λ l. set l (w - 1) new) buckets ∙ ap (set (load_buckets s contents) (w - 1)) new_is ∙ put_in_bucket s contents w e (omega arith) (omega arith)
          ∙ ap (λ v. load_buckets s (put_at contents v e)) (sym spot_is),
      ap (λ v. put_at contents v e 0) spot_is ∙ rw (ne_eqb w 0 (λ same. omega arith)) (sym (append-nil (contents 0))),
    )

pub loads_none : (s : Shape) (leaf : ℕ → ℕ) (old : List Bucket) (e : Entry) → e.id < s.n → leaf e.id < 2 ^ s.l
    → IsLast (has_room s (leaf e.id) old) (s.l + 1) None → LoadsNext s leaf old e old (Some e)
loads_none s leaf old e below small is contents buckets =
    let is_here : IsLast (has_room s (leaf e.id) (load_buckets s contents)) (s.l + 1) None = subst (λ l. IsLast (has_room s (leaf e.id) l) (s.l + 1) None) buckets is in
    let spot_is : spot (may_load s leaf) (node_count s.l) s.z contents e.id ≡ 0 = load_spot_found s leaf contents e.id None below small is_here in (
      buckets ∙ put_off_buckets s contents e ∙ ap (λ v. load_buckets s (put_at contents v e)) (sym spot_is),
      ap (λ v. put_at contents v e 0) spot_is,
    )

-- ---- the whole pass

-- one bucket more
pub one_more_bucket : (k : ℕ) (old new : List Bucket) → 1 ≤ k → old ≡ map (first_bucket (λ w. [])) (range_with_len 1 (k - 1)) → new ≡ old ++ bucket_with k [] ∷ []
    → new ≡ map (first_bucket (λ w. [])) (range_with_len 1 (k + 1 - 1))
one_more_bucket k old new low is more =
    let next : k - 1 + 1 ≡ k + 1 - 1 = omega arith in
    more ∙ ap (λ l. l ++ bucket_with k [] ∷ []) is ∙ sym (map-range_with_len_more (first_bucket (λ w. [])) 1 (k - 1) k (omega arith))
    ∙ ap (λ n. map (first_bucket (λ w. [])) (range_with_len 1 n)) next

entries_len : (n : ℕ) (blocks : List (List ℕ)) → length (block_entries n blocks) ≡ n
entries_len n blocks = length-map-range_with_len (block_entry blocks) 0 n

entry_at : (n : ℕ) (blocks : List (List ℕ)) (i : ℕ) (d : Entry) → i < n → get_or (block_entries n blocks) i d ≡ block_entry blocks i
entry_at n blocks i d below = get_or-map-range_with_len (block_entry blocks) 0 n i i d below (omega arith)

abbrev entry_of : ℕ → List ℕ → Entry
entry_of id value = record { id = id; value = value }

-- the next block
pub next_block : (s : Shape) (leaf : ℕ → ℕ) (blocks : List (List ℕ)) (i : ℕ) (value d : List ℕ) → i < s.n → length blocks ≡ s.n → value ≡ get_or blocks i d
    → next_loaded s leaf (loaded_first s leaf blocks i) (entry_of i value) ≡ loaded_first s leaf blocks (i + 1)
next_block s leaf blocks i value d below len is =
    let is_block : value ≡ block_at blocks i = is ∙ get_or_default blocks i d [] (omega arith) in
    let within : i < length (block_entries s.n blocks) = let all = entries_len s.n blocks in omega arith in
    ap (λ v. next_loaded s leaf (loaded_first s leaf blocks i) (entry_of i v)) is_block
    ∙ ap (next_loaded s leaf (loaded_first s leaf blocks i)) (sym (entry_at s.n blocks i (entry_of i value) below))
    ∙ sym (pass_more (may_load s leaf) (node_count s.l) s.z (block_entries s.n blocks) i (entry_of i value) within)

pub all_loaded : (s : Shape) (leaf : ℕ → ℕ) (blocks : List (List ℕ)) (i : ℕ) → s.n ≤ i → loaded_first s leaf blocks i ≡ load_contents s leaf blocks
all_loaded s leaf blocks i past =
    let all = entries_len s.n blocks in
    ap (one_pass (may_load s leaf) (node_count s.l) s.z) (take_all i (block_entries s.n blocks) (omega arith))

pub is_loaded : (s : Shape) (leaf : ℕ → ℕ) (blocks : List (List ℕ)) (loaded : List Bucket) (stash : List Entry) → loaded ≡ load_buckets s (load_contents s leaf blocks)
    → stash ≡ load_contents s leaf blocks 0 → IsLoaded s leaf blocks loaded stash
is_loaded s leaf blocks loaded stash buckets rest = record {
  placed = placed (load_is_placed s leaf blocks);
  first = buckets;
}
  where
    placed : IsLoad s leaf blocks (load_buckets s (load_contents s leaf blocks))
        → IsPlaced (may_load s leaf) (node_count s.l) s.z (block_below s.n blocks) (with_stash stash (entries_at loaded))
    placed (other, is) =
        let one : other ≡ load_contents s leaf blocks 0 =
        one_placement (may_load s leaf) (node_count s.l) s.z (block_below s.n blocks) (with_stash other (entries_at (load_buckets s (load_contents s leaf blocks))))
        (load_contents s leaf blocks) is (load_pass s leaf blocks) 0 in
        let P : List Entry → List Bucket → Type 0 = λ st l. IsPlaced (may_load s leaf) (node_count s.l) s.z (block_below s.n blocks) (with_stash st (entries_at l)) in
        subst (λ st. P st loaded) (one ∙ sym rest) (subst (P other) (sym buckets) is)

entries_fit : (s : Shape) (blocks : List (List ℕ)) → length blocks ≡ s.n → All (λ value. length value ≡ s.b) blocks → All (IsEntry s) (block_entries s.n blocks)
entries_fit s blocks len values k d below =
    let all = entries_len s.n blocks in
    let within : k < s.n = omega arith in
    subst (IsEntry s) (sym (entry_at s.n blocks k d within)) (within, values k [] (omega arith))

each_fits : (s : Shape) (leaf : ℕ → ℕ) (blocks : List (List ℕ)) → length blocks ≡ s.n → All (λ value. length value ≡ s.b) blocks → (w : ℕ) → All (IsEntry s) (load_contents s leaf blocks w)
each_fits s leaf blocks len values =
    pass_keeps (IsEntry s) (may_load s leaf) (node_count s.l) s.z (λ w. []) (block_entries s.n blocks) (λ w. All-nil (IsEntry s)) (entries_fit s blocks len values)

pub load_stash_fits : (s : Shape) (leaf : ℕ → ℕ) (blocks : List (List ℕ)) (stash : List Entry) → length blocks ≡ s.n → All (λ value. length value ≡ s.b) blocks
    → stash ≡ load_contents s leaf blocks 0 → IsStash s stash
load_stash_fits s leaf blocks stash len values rest =
    subst (IsStash s) (sym rest) (record { rises = (load_pass s leaf blocks).rises 0; each = each_fits s leaf blocks len values 0 })

pub load_nodes_fit : (s : Shape) (leaf : ℕ → ℕ) (blocks : List (List ℕ)) (loaded : List Bucket) → length blocks ≡ s.n → All (λ value. length value ≡ s.b) blocks
    → loaded ≡ load_buckets s (load_contents s leaf blocks) → All (λ bucket. AreNodeEntries s bucket.entries) loaded
load_nodes_fit s leaf blocks loaded len values buckets = subst (All (λ bucket. AreNodeEntries s bucket.entries)) (sym buckets) (λ k d below.
    let all = buckets_len s (load_contents s leaf blocks) in
    let node : AreNodeEntries s (load_contents s leaf blocks (1 + k)) =
    record { few = (load_pass s leaf blocks).room (1 + k) (omega arith); each = each_fits s leaf blocks len values (1 + k) } in
    let P : Bucket → Type 0 = λ bucket. AreNodeEntries s bucket.entries in
    subst P (sym (get_or-map-range_with_len (first_bucket (load_contents s leaf blocks)) 1 (node_count s.l) k (1 + k) d (omega arith) refl)) node)
