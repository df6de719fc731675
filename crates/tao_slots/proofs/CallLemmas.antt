-- What the calls that change a map of slots make of its parts.
use Rattle.std.proofs.Common.{◌≡◌, ℕ, ◌+◌, ◌-◌, ◌^◌, ◌<◌, ◌≤◌, List, [], ◌∷◌, ◌++◌, zero, suc, Option, Some, None, length, set, get_or, map, cond, replicate, take, drop, option_and_then, Bool, true, refl, sym, ap, ◌∙◌, subst, arith, is_some, count_by}
use Rattle.std.proofs.lemmas.Bool.{false≢true}
use Rattle.std.proofs.lemmas.List.{take_at, length-map, length-set, length-replicate, length-append, map-set, map-append, get_or-map, get_or-set_same, get_or_append_left, set-get_or}
use Rattle.std.proofs.lemmas.List.Folds.{sum_by-replicate}
use Rattle.std.proofs.lemmas.List.Sums.{sum_by-set}
use Rattle.std.proofs.lemmas.Option.{none-some, same_Some}
use lib.LanesLaws.{map-replicate}
use Rattle.std.specs.Option.{option_map, IsSome, IsSomeAnd}
use Rattle.std.proofs.lemmas.Nat.{pow_pos}
use Rattle.tao_base.specs.Tree.{node_count}
use Rattle.tao_base.specs.Limits.{Shape, IsShape}
use Rattle.tao_base.specs.declared.storage.Bucket.{Bucket}
use Rattle.tao_base.specs.declared.storage.Entry.{Entry}
use Rattle.tao_slots.specs.Columns.{buckets_in, links_in, nodes_of, IsRefilled}
use Rattle.tao_slots.specs.Linked.{node_in, IsLinked, AreFree, bucket_of, buckets_by_node, AreParts, IsGrown, map_of}
use Rattle.tao_slots.specs.SlotMap.{SlotMap, entry, bucket_at, bucket_in, empty_map, reserved, inserted, removed, with_entries, KeepsSlots}
use Rattle.tao_slots.specs.declared.free.FreeList.{FreeList}
use Rattle.tao_slots.specs.declared.slot.Slot.{Slot}
use Rattle.tao_slots.proofs.ColumnLemmas.{refilled}
use Rattle.tao_slots.proofs.HoldLemmas.{node_held, index_below, linked_nodes}
use Rattle.tao_slots.proofs.LinkLemmas.{node_within, some_within}
use Rattle.tao_slots.proofs.PartLemmas.{by_node_set, held_bucket, sound}

same_map : (s : Shape) (b c : List (Option Bucket)) (n o : List (Option ℕ)) (k m : ℕ) → b ≡ c → n ≡ o → k ≡ m
    → ◌≡◌ {A = SlotMap} (record { shape = s; buckets = b; nodes = n; spare = k }) (record { shape = s; buckets = c; nodes = o; spare = m })
same_map s b c n o k m buckets nodes spare = λ i. record { shape = s; buckets = buckets i; nodes = nodes i; spare = spare i }

buckets_len : (slots : List Slot) → length (buckets_in slots) ≡ length slots
buckets_len slots = length-map slots (λ slot. slot.bucket)

set_len : (s0 s1 : List Slot) (i : ℕ) (x : Option Bucket) → buckets_in s1 ≡ set (buckets_in s0) i x → length s1 ≡ length s0
set_len s0 s1 i x buckets = sym (buckets_len s1) ∙ ap (λ (all : List (Option Bucket)). length all) buckets ∙ length-set (buckets_in s0) i x ∙ buckets_len s0

set_nodes : (s0 s1 : List Slot) (i : ℕ) (x : Option Bucket) → buckets_in s1 ≡ set (buckets_in s0) i x → nodes_of (buckets_in s1) ≡ set (nodes_of (buckets_in s0)) i (option_map (λ b. b.node) x)
set_nodes s0 s1 i x buckets = ap nodes_of buckets ∙ map-set (option_map (λ (b : Bucket). b.node)) (buckets_in s0) i x

-- how many nodes are held where the bucket of one was set
set_count : (buckets : List (Option Bucket)) (at : ℕ) (x : Option Bucket) → at < length buckets
    → count_by is_some (set buckets at x) + cond (is_some (entry buckets at)) 1 0 ≡ count_by is_some buckets + cond (is_some x) 1 0
set_count buckets at x h = sum_by-set (λ (o : Option Bucket). cond (is_some o) 1 0) buckets at x None h

-- what is said of the parts of a map that a call has changed
abbrev Becomes : Shape → SlotMap → List Slot → List (Option ℕ) → FreeList → SlotMap → Type 0
Becomes s old slots index free new = AreParts s slots index free × (map_of s slots index free ≡ new) × KeepsSlots old (map_of s slots index free)

-- the vectors that were written through slices
pub written : (s : Shape) (old new : SlotMap) (w s1 : List Slot) (v i1 : List (Option ℕ)) (free : FreeList) → w ≡ s1 → v ≡ i1 → Becomes s old s1 i1 free new → Becomes s old w v free new
written s old new w s1 v i1 free slots index becomes =
    subst (λ (all : List Slot). Becomes s old all v free new) (sym slots) (subst (λ (all : List (Option ℕ)). Becomes s old s1 all free new) (sym index) becomes)

pub inserts : (s : Shape) (s0 s1 : List Slot) (i0 i1 : List (Option ℕ)) (f0 f1 : FreeList) (place : ℕ) (bucket : Bucket) → AreParts s s0 i0 f0 → IsLinked s1 i1 → AreFree s1 f1
    → f1.count ≡ f0.count - 1 → 1 ≤ f0.count → place < length s0 → node_in s0 place ≡ None → buckets_in s1 ≡ set (buckets_in s0) place (Some bucket) → i1 ≡ set i0 bucket.node (Some place)
    → entry (buckets_by_node s0 i0) bucket.node ≡ None → bucket.node < length i0
    → Becomes s (map_of s s0 i0 f0) s1 i1 f1 (inserted (map_of s s0 i0 f0) place bucket)
inserts s s0 s1 i0 i1 f0 f1 place bucket parts linked frees count some within free buckets index absent high =
    let lb = buckets_len s0 in
    let here : bucket_of s1 (Some place) ≡ Some bucket =
    ap (λ (all : List (Option Bucket)). entry all place) buckets ∙ get_or-set_same (buckets_in s0) place (Some bucket) None (omega arith) in
    let byn : buckets_by_node s1 i1 ≡ set (buckets_by_node s0 i0) bucket.node (Some bucket) =
    by_node_set s0 s1 i0 i1 place bucket.node (Some place) (Some bucket) (Some bucket) buckets index here
    (λ node other e. none-some node (sym free ∙ parts.linked.indexed.found node place e)) in
    let l0 : length (buckets_by_node s0 i0) ≡ length i0 = length-map i0 (bucket_of s0) in
    let counts : count_by is_some (set (buckets_by_node s0 i0) bucket.node (Some bucket)) + 0 ≡ count_by is_some (buckets_by_node s0 i0) + 1 =
    subst (λ (o : Option Bucket). count_by is_some (set (buckets_by_node s0 i0) bucket.node (Some bucket)) + cond (is_some o) 1 0 ≡ count_by is_some (buckets_by_node s0 i0) + 1) absent
    (set_count (buckets_by_node s0 i0) bucket.node (Some bucket) (omega arith)) in
    let now : count_by is_some (buckets_by_node s1 i1) ≡ count_by is_some (set (buckets_by_node s0 i0) bucket.node (Some bucket)) =
    ap (λ (all : List (Option Bucket)). count_by is_some all) byn in
    let len : length s1 ≡ length s0 = set_len s0 s1 place (Some bucket) buckets in
    let leni : length i1 ≡ length i0 = ap (λ (all : List (Option ℕ)). length all) index ∙ length-set i0 bucket.node (Some place) in
    let was = parts.count in (
      record { shape = parts.shape; len = leni ∙ parts.len; linked = linked; frees = frees; count = omega arith },
      same_map s _ _ _ _ _ _ byn (set_nodes s0 s1 place (Some bucket) buckets) count,
      omega arith,
    )

pub removes : (s : Shape) (s0 s1 : List Slot) (i0 i1 : List (Option ℕ)) (f0 f1 : FreeList) (place : ℕ) (bucket : Bucket) → AreParts s s0 i0 f0 → IsLinked s1 i1 → AreFree s1 f1
    → f1.count ≡ f0.count + 1 → entry (buckets_in s0) place ≡ Some bucket → buckets_in s1 ≡ set (buckets_in s0) place None → i1 ≡ set i0 bucket.node None
    → Becomes s (map_of s s0 i0 f0) s1 i1 f1 (removed (map_of s s0 i0 f0) place bucket)
removes s s0 s1 i0 i1 f0 f1 place bucket parts linked frees count held buckets index =
    let both = held_bucket s s0 i0 f0 place bucket parts held in
    let there : entry i0 bucket.node ≡ Some place = parts.linked.indexed.placed bucket.node place both.0 in
    let high : bucket.node < length i0 = index_below i0 bucket.node place there in
    let byn : buckets_by_node s1 i1 ≡ set (buckets_by_node s0 i0) bucket.node None =
    by_node_set s0 s1 i0 i1 place bucket.node None None None buckets index refl
    (λ node other e. other (node_alone node e both.0)) in
    let l0 : length (buckets_by_node s0 i0) ≡ length i0 = length-map i0 (bucket_of s0) in
    let counts : count_by is_some (set (buckets_by_node s0 i0) bucket.node None) + 1 ≡ count_by is_some (buckets_by_node s0 i0) + 0 =
    subst (λ (o : Option Bucket). count_by is_some (set (buckets_by_node s0 i0) bucket.node None) + cond (is_some o) 1 0 ≡ count_by is_some (buckets_by_node s0 i0) + 0) both.1
    (set_count (buckets_by_node s0 i0) bucket.node None (omega arith)) in
    let now : count_by is_some (buckets_by_node s1 i1) ≡ count_by is_some (set (buckets_by_node s0 i0) bucket.node None) =
    ap (λ (all : List (Option Bucket)). count_by is_some all) byn in
    let len : length s1 ≡ length s0 = set_len s0 s1 place None buckets in
    let leni : length i1 ≡ length i0 = ap (λ (all : List (Option ℕ)). length all) index ∙ length-set i0 bucket.node None in
    let was = parts.count in (
      record { shape = parts.shape; len = leni ∙ parts.len; linked = linked; frees = frees; count = omega arith },
      same_map s _ _ _ _ _ _ byn (set_nodes s0 s1 place None buckets) count,
      omega arith,
    )
  where
    node_alone : (node : ℕ) → entry i0 node ≡ Some place → node_in s0 place ≡ Some bucket.node → node ≡ bucket.node
    node_alone node e here = same_Some node bucket.node (sym (parts.linked.indexed.found node place e) ∙ here)

pub swaps : (s : Shape) (s0 s1 : List Slot) (i0 : List (Option ℕ)) (f0 : FreeList) (place : ℕ) (bucket new : Bucket) → AreParts s s0 i0 f0
    → entry (buckets_in s0) place ≡ Some bucket → new.node ≡ bucket.node → IsRefilled s0 s1 place (Some new) → links_in s1 ≡ links_in s0
    → AreParts s s1 i0 f0 × (buckets_by_node s1 i0 ≡ set (buckets_by_node s0 i0) bucket.node (Some new)) × (nodes_of (buckets_in s1) ≡ nodes_of (buckets_in s0))
    × KeepsSlots (map_of s s0 i0 f0) (map_of s s1 i0 f0)
swaps s s0 s1 i0 f0 place bucket new parts held node filled links =
    let both = held_bucket s s0 i0 f0 place bucket parts held in
    let there : entry i0 bucket.node ≡ Some place = parts.linked.indexed.placed bucket.node place both.0 in
    let high : bucket.node < length i0 = index_below i0 bucket.node place there in
    let lb = buckets_len s0 in
    let within : place < length s0 = (node_held s0 place bucket held).0 in
    let here : bucket_of s1 (Some place) ≡ Some new =
    ap (λ (all : List (Option Bucket)). entry all place) filled.buckets ∙ get_or-set_same (buckets_in s0) place (Some new) None (omega arith) in
    let index : i0 ≡ set i0 bucket.node (Some place) = sym (ap (set i0 bucket.node) (sym there) ∙ set-get_or i0 bucket.node None) in
    let byn : buckets_by_node s1 i0 ≡ set (buckets_by_node s0 i0) bucket.node (Some new) =
    by_node_set s0 s1 i0 i0 place bucket.node (Some place) (Some new) (Some new) filled.buckets index here
    (λ n other e. other (same_Some n bucket.node (sym (parts.linked.indexed.found n place e) ∙ both.0))) in
    let nodes : nodes_of (buckets_in s1) ≡ nodes_of (buckets_in s0) =
    set_nodes s0 s1 place (Some new) filled.buckets
    ∙ ap (set (nodes_of (buckets_in s0)) place) (ap Some node ∙ sym both.0) ∙ set-get_or (nodes_of (buckets_in s0)) place None in
    let same : (i : ℕ) → node_in s1 i ≡ node_in s0 i = λ i. ap (λ (all : List (Option ℕ)). entry all i) nodes in
    let l0 : length (buckets_by_node s0 i0) ≡ length i0 = length-map i0 (bucket_of s0) in
    let counts : count_by is_some (set (buckets_by_node s0 i0) bucket.node (Some new)) + 1 ≡ count_by is_some (buckets_by_node s0 i0) + 1 =
    subst (λ (o : Option Bucket). count_by is_some (set (buckets_by_node s0 i0) bucket.node (Some new)) + cond (is_some o) 1 0 ≡ count_by is_some (buckets_by_node s0 i0) + 1) both.1
    (set_count (buckets_by_node s0 i0) bucket.node (Some new) (omega arith)) in
    let now : count_by is_some (buckets_by_node s1 i0) ≡ count_by is_some (set (buckets_by_node s0 i0) bucket.node (Some new)) =
    ap (λ (all : List (Option Bucket)). count_by is_some all) byn in
    let len : length s1 ≡ length s0 = set_len s0 s1 place (Some new) filled.buckets in
    let was = parts.count in (
      record {
        shape = parts.shape;
        len = parts.len;
        linked = linked_nodes s0 s1 i0 parts.linked same links;
        frees = rw (nodes, filled.nexts) parts.frees;
        count = omega arith;
      },
      byn,
      nodes,
      omega arith,
    )

-- a map of slots with other free slots added
pub grows : (s : Shape) (s0 s1 : List Slot) (i0 : List (Option ℕ)) (f0 f1 : FreeList) (n : ℕ) → AreParts s s0 i0 f0 → AreFree s1 f1 → f1.count ≡ f0.count + (n - f0.count)
    → IsGrown s0 s1 (n - f0.count) → AreParts s s1 i0 f1 × (map_of s s1 i0 f1 ≡ reserved (map_of s s0 i0 f0) n)
grows s s0 s1 i0 f0 f1 n parts frees count grown =
    let more : ℕ = n - f0.count in
    let lb = buckets_len s0 in
    let l1 = buckets_len s1 in
    let len : length s1 ≡ length s0 + (n - f0.count) =
    omega (arith, ap (λ (all : List (Option Bucket)). length all) grown.buckets, length-append (buckets_in s0) (replicate (n - f0.count) None), length-replicate {A = Option Bucket} (n - f0.count) None) in
    let byn : buckets_by_node s1 i0 ≡ buckets_by_node s0 i0 = map_same i0 (bucket_of s1) (bucket_of s0) (λ node. same_of node (entry i0 node) refl) in
    let nodes : nodes_of (buckets_in s1) ≡ nodes_of (buckets_in s0) ++ replicate (n - f0.count) None =
    ap nodes_of grown.buckets ∙ map-append (option_map (λ (b : Bucket). b.node)) (buckets_in s0) (replicate (n - f0.count) None)
    ∙ ap (λ (all : List (Option ℕ)). nodes_of (buckets_in s0) ++ all) (map-replicate (option_map (λ (b : Bucket). b.node)) (n - f0.count) None) in
    let now : count_by is_some (buckets_by_node s1 i0) ≡ count_by is_some (buckets_by_node s0 i0) = ap (λ (all : List (Option Bucket)). count_by is_some all) byn in
    let was = parts.count in (
      record { shape = parts.shape; len = parts.len; linked = grown.linked i0 parts.linked; frees = frees; count = omega arith },
      same_map s _ _ _ _ _ _ byn nodes (omega arith),
    )
  where
    same_of : (node : ℕ) (o : Option ℕ) → entry i0 node ≡ o → bucket_of s1 o ≡ bucket_of s0 o
    same_of node None e = refl
    same_of node (Some i) e =
        let within : i < length s0 = node_within s0 i node (parts.linked.indexed.found node i e) in
        let lb = buckets_len s0 in
        ap (λ (all : List (Option Bucket)). entry all i) grown.buckets ∙ get_or_append_left (buckets_in s0) (replicate (n - f0.count) None) None i (omega arith)

    map_same : (index : List (Option ℕ)) (f g : Option ℕ → Option Bucket) → ((node : ℕ) → f (entry index node) ≡ g (entry index node)) → map f index ≡ map g index
    map_same [] f g same = refl
    map_same (o ∷ index) f g same = λ i. same 0 i ∷ map_same index f g (λ node. same (suc node)) i

-- no slots as yet
starts_empty : (s : Shape) (index : List (Option ℕ)) (free : FreeList) → IsShape s → index ≡ replicate (2 ^ (s.l + 1)) None → free.first ≡ None → free.count ≡ 0
    → AreParts s [] index free × (map_of s [] index free ≡ empty_map s)
starts_empty s index free shape all first count =
    let none : (node : ℕ) → entry index node ≡ None = λ node. ap (λ (xs : List (Option ℕ)). entry xs node) all ∙ replicate_none (2 ^ (s.l + 1)) node in
    let byn : buckets_by_node [] index ≡ replicate (2 ^ (s.l + 1)) None = ap (map (bucket_of [])) all ∙ map-replicate (bucket_of []) (2 ^ (s.l + 1)) None in
    let zero_held : count_by is_some (buckets_by_node [] index) ≡ 0 =
    ap (λ (xs : List (Option Bucket)). count_by is_some xs) byn ∙ sum_by-replicate (λ (o : Option Bucket). cond (is_some o) 1 0) (2 ^ (s.l + 1)) None ∙ omega arith in (
      record {
        shape = shape;
        len = ap (λ (xs : List (Option ℕ)). length xs) all ∙ length-replicate {A = Option ℕ} (2 ^ (s.l + 1)) None;
        linked = record {
          indexed = record {
            found = λ node i e. absurd (none-some i (sym (none node) ∙ e));
            placed = λ node i e. absurd (none-some node e);
            no_zero = none 0;
          };
          right = λ i node e. absurd (none-some node e);
        };
        frees = rw (first, count) tt;
        count = omega arith;
      },
      same_map s _ _ _ _ _ _ byn refl count,
    )
  where
    replicate_none : (n node : ℕ) → entry {X = ℕ} (replicate n None) node ≡ None
    replicate_none zero node = refl
    replicate_none (suc n) zero = refl
    replicate_none (suc n) (suc node) = replicate_none n node

pub starts : (s : Shape) (slots : List Slot) (index : List (Option ℕ)) (free : FreeList) (n : ℕ) → IsShape s → slots ≡ [] → index ≡ replicate n None → n ≡ node_count s.l + 1 → free.first ≡ None → free.count ≡ 0
    → AreParts s slots index free × (map_of s slots index free ≡ empty_map s)
starts s slots index free n shape none all places first count =
    let pos = pow_pos (s.l + 1) in
    let same : n ≡ 2 ^ (s.l + 1) = omega arith in
    subst (λ (xs : List Slot). AreParts s xs index free × (map_of s xs index free ≡ empty_map s)) (sym none)
    (starts_empty s index free shape (all ∙ ap (λ (k : ℕ). replicate {A = Option ℕ} k None) same) first count)

-- where a node isn't held, the index has no slot for it
pub absent_index : (s : Shape) (slots : List Slot) (index : List (Option ℕ)) (free : FreeList) (node : ℕ) → AreParts s slots index free → entry (buckets_by_node slots index) node ≡ None
    → entry index node ≡ None
absent_index s slots index free node parts absent = by_slot (entry index node) refl
  where
    by_slot : (o : Option ℕ) → entry index node ≡ o → o ≡ None
    by_slot None e = refl
    by_slot (Some i) e =
        absurd (subst (λ (b : Option Bucket). IsSomeAnd b (λ bucket. bucket.node ≡ node)) absent ((sound s slots index free parts).held i node (parts.linked.indexed.found node i e)))

-- a vector that was written through a slice
pub written_all : {X : Type 0} (len : ℕ) (old new : List X) → length new ≡ len → take len (new ++ drop (length new) old) ≡ new
written_all len old new same = take_at new (drop (length new) old) len same

pub inserted_as : (s : Shape) (m : SlotMap) (s0 x0 s1 w : List Slot) (i0 y0 i1 v : List (Option ℕ)) (f0 f1 : FreeList) (place : ℕ) (bucket : Bucket)
    → map_of s s0 i0 f0 ≡ m → x0 ≡ s0 → y0 ≡ i0 → w ≡ s1 → v ≡ i1 → AreParts s s0 i0 f0 → IsLinked s1 i1 → AreFree s1 f1
    → f1.count ≡ f0.count - 1 → place < length x0 → node_in x0 place ≡ None → buckets_in s1 ≡ set (buckets_in x0) place (Some bucket) → i1 ≡ set y0 bucket.node (Some place)
    → 1 ≤ m.spare → bucket_at m bucket.node ≡ None → bucket.node ≤ node_count m.shape.l
    → Becomes s m w v f1 (inserted m place bucket)
inserted_as s m s0 x0 s1 w i0 y0 i1 v f0 f1 place bucket view ex ey ew ev parts linked frees count within free buckets index some absent high =
    let spare : f0.count ≡ m.spare = ap (λ (map : SlotMap). map.spare) view in
    let height : s ≡ m.shape = ap (λ (map : SlotMap). map.shape) view in
    let l : s.l ≡ m.shape.l = ap (λ (shape : Shape). shape.l) height in
    let pos = pow_pos (s.l + 1) in
    let len = parts.len in
    let up : bucket.node ≤ node_count s.l = subst (λ (k : ℕ). bucket.node ≤ node_count k) (sym l) high in
    let below : bucket.node < length i0 = omega arith in
    subst (λ (map : SlotMap). Becomes s map w v f1 (inserted map place bucket)) view
    (written s (map_of s s0 i0 f0) _ w s1 v i1 f1 ew ev
    (inserts s s0 s1 i0 i1 f0 f1 place bucket parts linked frees count (omega arith)
    (subst (λ (all : List Slot). place < length all) ex within)
    (subst (λ (all : List Slot). node_in all place ≡ None) ex free)
    (subst (λ (all : List Slot). buckets_in s1 ≡ set (buckets_in all) place (Some bucket)) ex buckets)
    (subst (λ (all : List (Option ℕ)). i1 ≡ set all bucket.node (Some place)) ey index)
    (subst (λ (map : SlotMap). bucket_at map bucket.node ≡ None) (sym view) absent)
    below))

pub removed_as : (s : Shape) (m : SlotMap) (s0 x0 s1 w : List Slot) (i0 y0 i1 v : List (Option ℕ)) (f0 f1 : FreeList) (place : ℕ) (bucket : Bucket)
    → map_of s s0 i0 f0 ≡ m → x0 ≡ s0 → y0 ≡ i0 → w ≡ s1 → v ≡ i1 → AreParts s s0 i0 f0 → IsLinked s1 i1 → AreFree s1 f1
    → f1.count ≡ f0.count + 1 → entry (buckets_in x0) place ≡ Some bucket → buckets_in s1 ≡ set (buckets_in x0) place None → i1 ≡ set y0 bucket.node None
    → Becomes s m w v f1 (removed m place bucket) × (bucket_in m place ≡ Some bucket)
removed_as s m s0 x0 s1 w i0 y0 i1 v f0 f1 place bucket view ex ey ew ev parts linked frees count held buckets index =
    let was : entry (buckets_in s0) place ≡ Some bucket = subst (λ (all : List Slot). entry (buckets_in all) place ≡ Some bucket) ex held in
    let both = held_bucket s s0 i0 f0 place bucket parts was in
    subst (λ (map : SlotMap). Becomes s map w v f1 (removed map place bucket) × (bucket_in map place ≡ Some bucket)) view (
      written s (map_of s s0 i0 f0) _ w s1 v i1 f1 ew ev
          (removes s s0 s1 i0 i1 f0 f1 place bucket parts linked frees count was
          (subst (λ (all : List Slot). buckets_in s1 ≡ set (buckets_in all) place None) ex buckets)
          (subst (λ (all : List (Option ℕ)). i1 ≡ set all bucket.node None) ey index)),
      ap (option_and_then (λ n. entry (buckets_by_node s0 i0) n)) both.0 ∙ both.1,
    )

-- a slot that is held isn't free
pub few_free : (s : Shape) (slots : List Slot) (index : List (Option ℕ)) (free : FreeList) (place node : ℕ) → AreParts s slots index free → node_in slots place ≡ Some node
    → free.count < length slots
few_free s slots index free place node parts held =
    let there : entry index node ≡ Some place = parts.linked.indexed.placed node place held in
    let high : node < length index = index_below index node place there in
    let len : length (buckets_by_node slots index) ≡ length index = length-map index (bucket_of slots) in
    let counts = set_count (buckets_by_node slots index) node None (omega arith) in
    let is : is_some (entry (buckets_by_node slots index) node) ≡ true =
    some_of (entry (buckets_by_node slots index) node) ((sound s slots index free parts).held place node held) in
    let one : count_by is_some (set (buckets_by_node slots index) node None) + 1 ≡ count_by is_some (buckets_by_node slots index) + 0 =
    subst (λ (b : Bool). count_by is_some (set (buckets_by_node slots index) node None) + cond b 1 0 ≡ count_by is_some (buckets_by_node slots index) + 0) is counts in
    let was = parts.count in
    omega arith
  where
    some_of : (o : Option Bucket) → IsSomeAnd o (λ bucket. bucket.node ≡ node) → is_some o ≡ true
    some_of None h = absurd h
    some_of (Some b) h = refl

pub few : (s : Shape) (slots : List Slot) (index : List (Option ℕ)) (free : FreeList) (place : ℕ) → AreParts s slots index free → IsSome (node_in slots place) → free.count < length slots
few s slots index free place parts held = by_node_of (node_in slots place) refl held
  where
    by_node_of : (o : Option ℕ) → node_in slots place ≡ o → IsSome o → free.count < length slots
    by_node_of None e h = absurd (false≢true h)
    by_node_of (Some node) e h = few_free s slots index free place node parts e

pub grown_as : (s : Shape) (m : SlotMap) (s0 x0 s1 : List Slot) (i0 : List (Option ℕ)) (f0 f1 : FreeList) (n missing : ℕ) → map_of s s0 i0 f0 ≡ m → x0 ≡ s0 → AreParts s s0 i0 f0 → AreFree s1 f1
    → missing ≡ n - f0.count → f1.count ≡ f0.count + missing → IsGrown x0 s1 missing → AreParts s s1 i0 f1 × (map_of s s1 i0 f1 ≡ reserved m n)
grown_as s m s0 x0 s1 i0 f0 f1 n missing view ex parts frees few count grown =
    subst (λ (map : SlotMap). AreParts s s1 i0 f1 × (map_of s s1 i0 f1 ≡ reserved map n)) view
    (grows s s0 s1 i0 f0 f1 n parts frees (omega arith)
    (subst (λ (k : ℕ). IsGrown s0 s1 k) few (subst (λ (all : List Slot). IsGrown all s1 missing) ex grown)))

-- the entries of a slot's bucket were exchanged
pub swapped_in : (slots : List Slot) (i : ℕ) (slot d : Slot) (bucket : Bucket) (given back : List Entry) → IsSome (node_in slots i) → (get_or slots i d).bucket ≡ Some bucket
    → slot.bucket ≡ Some (record bucket { entries = given }) → slot.next ≡ (get_or slots i d).next → back ≡ bucket.entries
    → IsSomeAnd (entry (buckets_in slots) i) (λ b. IsRefilled slots (set slots i slot) i (Some (record b { entries = given })) × (back ≡ b.entries))
swapped_in slots i slot d bucket given back held here new next same =
    let e : entry (buckets_in slots) i ≡ Some bucket = get_or-map (λ s. s.bucket) slots i d None (some_within slots i held) ∙ here in
    subst (λ (o : Option Bucket). IsSomeAnd o (λ b. IsRefilled slots (set slots i slot) i (Some (record b { entries = given })) × (back ≡ b.entries))) (sym e)
    (refilled slots i slot d (Some (record bucket { entries = given })) new next, same)

-- the parts after an exchange of entries
abbrev Exchanged : Shape → List (Option ℕ) → FreeList → List Entry → List Entry → List Slot → SlotMap → ℕ → Type 0
Exchanged s i0 f0 given back all map k =
    AreParts s all i0 f0 × IsSomeAnd (bucket_in map k) (λ b. (map_of s all i0 f0 ≡ with_entries map b given) × (back ≡ b.entries)) × KeepsSlots map (map_of s all i0 f0)

pub swapped_as : (s : Shape) (m : SlotMap) (s0 x0 s1 w : List Slot) (i0 : List (Option ℕ)) (f0 : FreeList) (place slot : ℕ) (given back : List Entry)
    → map_of s s0 i0 f0 ≡ m → x0 ≡ s0 → w ≡ s1 → AreParts s s0 i0 f0 → place ≡ slot
    → IsSomeAnd (entry (buckets_in x0) place) (λ b. IsRefilled x0 s1 place (Some (record b { entries = given })) × (back ≡ b.entries)) → links_in s1 ≡ links_in x0
    → AreParts s w i0 f0 × IsSomeAnd (bucket_in m slot) (λ b. (map_of s w i0 f0 ≡ with_entries m b given) × (back ≡ b.entries)) × KeepsSlots m (map_of s w i0 f0)
swapped_as s m s0 x0 s1 w i0 f0 place slot given back view ex ew parts same swapped links =
    subst (λ (map : SlotMap). Exchanged s i0 f0 given back w map slot) view
    (subst (λ (k : ℕ). Exchanged s i0 f0 given back w (map_of s s0 i0 f0) k) same
    (subst (λ (all : List Slot). Exchanged s i0 f0 given back all (map_of s s0 i0 f0) place) (sym ew)
    (by_bucket (entry (buckets_in s0) place) refl
    (subst (λ (all : List Slot). IsSomeAnd (entry (buckets_in all) place) (λ b. IsRefilled all s1 place (Some (record b { entries = given })) × (back ≡ b.entries))) ex swapped))))
  where
    by_bucket : (o : Option Bucket) → entry (buckets_in s0) place ≡ o → IsSomeAnd o (λ b. IsRefilled s0 s1 place (Some (record b { entries = given })) × (back ≡ b.entries)) → Exchanged s i0 f0 given back s1 (map_of s s0 i0 f0) place
    by_bucket None e h = absurd h
    by_bucket (Some b) e h =
        let both = held_bucket s s0 i0 f0 place b parts e in
        let all = swaps s s0 s1 i0 f0 place b (record b { entries = given }) parts e refl h.0 (links ∙ ap links_in ex) in
        let here : bucket_in (map_of s s0 i0 f0) place ≡ Some b = ap (option_and_then (λ n. entry (buckets_by_node s0 i0) n)) both.0 ∙ both.1 in (
          all.0,
          subst (λ (o : Option Bucket). IsSomeAnd o (λ b. (map_of s s1 i0 f0 ≡ with_entries (map_of s s0 i0 f0) b given) × (back ≡ b.entries))) (sym here)
              (same_map s _ _ _ _ _ _ all.1 all.2 refl, h.1),
          all.3,
        )
