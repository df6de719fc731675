-- The map of slots, by its parts.
use Rattle.std.proofs.Common.{◌≡◌, ℕ, ◌+◌, ◌*◌, ◌/◌, ◌<◌, List, Option, Some, None, Bool, true, false, length, set, get_or, cond, refl, sym, ap, ◌∙◌, subst, ⊎_elim, arith, is_some}
use Rattle.std.proofs.lemmas.Bool.{cases_eq, cases_lt, false≢true}
use Rattle.std.proofs.lemmas.List.{length-map, length-set, get_or-map, get_or_past, get_or-set_same, get_or-set_other, same_lists}
use Rattle.std.proofs.lemmas.Option.{none-some, same_Some}
use Rattle.std.specs.Option.{option_map, IsSome, IsSomeAnd}
use Rattle.tao_base.specs.Limits.{Shape}
use Rattle.tao_base.specs.declared.storage.Bucket.{Bucket}
use Rattle.tao_slots.specs.Columns.{buckets_in, nodes_of, no_links}
use Rattle.tao_slots.specs.Linked.{links_at, node_in, IsLinked, bucket_of, buckets_by_node, AreParts, map_of}
use Rattle.tao_slots.specs.SlotMap.{SlotMap, entry, node_of, IsSlotMap, IsSlotOf}
use Rattle.tao_slots.specs.declared.free.FreeList.{FreeList}
use Rattle.tao_slots.specs.declared.slot.Links.{Links}
use Rattle.tao_slots.specs.declared.slot.Slot.{Slot}
use Rattle.tao_slots.proofs.HoldLemmas.{node_held}
use Rattle.tao_slots.proofs.LinkLemmas.{node_read, node_within, some_within}

-- the bucket of a node is that of its slot
pub by_node : (slots : List Slot) (index : List (Option ℕ)) (node : ℕ) → entry (buckets_by_node slots index) node ≡ bucket_of slots (entry index node)
by_node slots index node =
    let len : length (buckets_by_node slots index) ≡ length index = length-map index (bucket_of slots) in
    ⊎_elim
    (λ (h : node < length index). get_or-map (bucket_of slots) index node None None h)
    (λ h. get_or_past (buckets_by_node slots index) node None (omega arith) ∙ ap (bucket_of slots) (sym (get_or_past index node None h)))
    (cases_lt node (length index))

same_bucket : (s0 s1 : List Slot) (place : ℕ) (x : Option Bucket) (o : Option ℕ) → buckets_in s1 ≡ set (buckets_in s0) place x → (o ≡ Some place → ⊥) → bucket_of s1 o ≡ bucket_of s0 o
same_bucket s0 s1 place x None buckets other = refl
same_bucket s0 s1 place x (Some i) buckets other =
    ap (λ (all : List (Option Bucket)). entry all i) buckets ∙ get_or-set_other (buckets_in s0) place i x None (λ same. other (ap Some same))

-- one slot has other contents, and the entry of its node another slot or none: the bucket of that node is changed, and no other
pub by_node_set : (s0 s1 : List Slot) (i0 i1 : List (Option ℕ)) (place at : ℕ) (o : Option ℕ) (x y : Option Bucket) → buckets_in s1 ≡ set (buckets_in s0) place x → i1 ≡ set i0 at o
    → bucket_of s1 o ≡ y → ((node : ℕ) → (node ≡ at → ⊥) → entry i0 node ≡ Some place → ⊥) → buckets_by_node s1 i1 ≡ set (buckets_by_node s0 i0) at y
by_node_set s0 s1 i0 i1 place at o x y buckets index new apart =
    let l0 : length (buckets_by_node s0 i0) ≡ length i0 = length-map i0 (bucket_of s0) in
    let l1 : length (buckets_by_node s1 i1) ≡ length i1 = length-map i1 (bucket_of s1) in
    let li : length i1 ≡ length i0 = ap (λ (all : List (Option ℕ)). length all) index ∙ length-set i0 at o in
    let ls : length (set (buckets_by_node s0 i0) at y) ≡ length (buckets_by_node s0 i0) = length-set (buckets_by_node s0 i0) at y in
    let there : (node : ℕ) → (node ≡ at → ⊥) → entry i1 node ≡ entry i0 node =
    λ node other. ap (λ (all : List (Option ℕ)). entry all node) index ∙ get_or-set_other i0 at node o None other in
    same_lists (buckets_by_node s1 i1) (set (buckets_by_node s0 i0) at y) (omega arith) (λ k d h.
    let in1 : k < length i1 = omega arith in
    let in0 : k < length i0 = omega arith in
    get_or-map (bucket_of s1) i1 k None d in1
    ∙ ⊎_elim
    (λ (same : k ≡ at).
    let inb : at < length (buckets_by_node s0 i0) = omega arith in
    let ina : at < length i0 = omega arith in
    ap (bucket_of s1) (ap (λ n. entry i1 n) same ∙ ap (λ (all : List (Option ℕ)). entry all at) index ∙ get_or-set_same i0 at o None ina) ∙ new
    ∙ sym (ap (λ n. get_or (set (buckets_by_node s0 i0) at y) n d) same ∙ get_or-set_same (buckets_by_node s0 i0) at y d inb))
    (λ other.
    ap (bucket_of s1) (there k other) ∙ same_bucket s0 s1 place x (entry i0 k) buckets (apart k other)
    ∙ sym (get_or-set_other (buckets_by_node s0 i0) at k y d other ∙ get_or-map (bucket_of s0) i0 k None d in0))
    (cases_eq k at))

node_of_bucket : (o : Option Bucket) (node : ℕ) → option_map (λ b. b.node) o ≡ Some node → IsSomeAnd o (λ bucket. bucket.node ≡ node)
node_of_bucket None node e = none-some node e
node_of_bucket (Some b) node e = same_Some b.node node e

-- the node of a slot by its bucket
node_bucket : (slots : List Slot) (i : ℕ) → node_in slots i ≡ option_map (λ b. b.node) (entry (buckets_in slots) i)
node_bucket slots i =
    let len : length (nodes_of (buckets_in slots)) ≡ length (buckets_in slots) = length-map (buckets_in slots) (option_map (λ b. b.node)) in
    ⊎_elim
    (λ (h : i < length (buckets_in slots)). get_or-map (option_map (λ b. b.node)) (buckets_in slots) i None None h)
    (λ h. get_or_past (nodes_of (buckets_in slots)) i None (omega arith) ∙ ap (option_map (λ (b : Bucket). b.node)) (sym (get_or_past (buckets_in slots) i None h)))
    (cases_lt i (length (buckets_in slots)))

-- what holds of every map of slots
pub sound : (s : Shape) (slots : List Slot) (index : List (Option ℕ)) (free : FreeList) → AreParts s slots index free → IsSlotMap (map_of s slots index free)
sound s slots index free parts = record {
  len = length-map index (bucket_of slots) ∙ parts.len;
  zero = by_node slots index 0 ∙ ap (bucket_of slots) parts.linked.indexed.no_zero;
  held = λ slot node e.
      subst (λ (o : Option Bucket). IsSomeAnd o (λ bucket. bucket.node ≡ node))
      (sym (by_node slots index node ∙ ap (bucket_of slots) (parts.linked.indexed.placed node slot e)))
      (node_of_bucket (entry (buckets_in slots) slot) node (sym (node_bucket slots slot) ∙ e));
  one_slot = λ slot other node e f. same_Some slot other (sym (parts.linked.indexed.placed node slot e) ∙ parts.linked.indexed.placed node other f);
}

-- the slot that the index has for a node
slot_of : (s : Shape) (slots : List Slot) (index : List (Option ℕ)) (free : FreeList) → AreParts s slots index free → (node : ℕ) (o : Option ℕ) → entry index node ≡ o
    → IsSlotOf (map_of s slots index free) o node
slot_of s slots index free parts node None e = by_node slots index node ∙ ap (bucket_of slots) e
slot_of s slots index free parts node (Some i) e = parts.linked.indexed.found node i e

-- a slot that is read
pub read_free : (slots : List Slot) (i : ℕ) (d : Slot) → d ≡ get_or slots i d → d.bucket ≡ None → IsSome (node_in slots i) → ⊥
read_free slots i d read none held =
    false≢true (subst (λ (o : Option ℕ). IsSome o) (node_read slots i d (some_within slots i held) ∙ ap (λ (slot : Slot). option_map (λ (b : Bucket). b.node) slot.bucket) (sym read) ∙ ap (option_map (λ (b : Bucket). b.node)) none) held)

-- the bucket in a slot is that of its node
pub held_bucket : (s : Shape) (slots : List Slot) (index : List (Option ℕ)) (free : FreeList) (i : ℕ) (bucket : Bucket) → AreParts s slots index free → entry (buckets_in slots) i ≡ Some bucket
    → (node_in slots i ≡ Some bucket.node) × (entry (buckets_by_node slots index) bucket.node ≡ Some bucket)
held_bucket s slots index free i bucket parts e =
    let node : node_in slots i ≡ Some bucket.node = (node_held slots i bucket e).1 in
    (node, by_node slots index bucket.node ∙ ap (bucket_of slots) (parts.linked.indexed.placed bucket.node i node) ∙ e)

pub read_bucket : (s : Shape) (slots : List Slot) (index : List (Option ℕ)) (free : FreeList) (i : ℕ) (d : Slot) (bucket : Bucket) → AreParts s slots index free
    → d ≡ get_or slots i d → d.bucket ≡ Some bucket → IsSome (node_in slots i) → (node_in slots i ≡ Some bucket.node) × (entry (buckets_by_node slots index) bucket.node ≡ Some bucket)
read_bucket s slots index free i d bucket parts read some held =
    held_bucket s slots index free i bucket parts
    (get_or-map (λ slot. slot.bucket) slots i d None (some_within slots i held) ∙ ap (λ (slot : Slot). slot.bucket) (sym read) ∙ some)

-- the links of a slot that is read
read_links : (slots : List Slot) (index : List (Option ℕ)) (i node : ℕ) (d : Slot) → IsLinked slots index → d ≡ get_or slots i d → node_in slots i ≡ Some node → d.links ≡ links_at index node
read_links slots index i node d linked read e =
    ap (λ (slot : Slot). slot.links) read ∙ sym (get_or-map (λ slot. slot.links) slots i d no_links (node_within slots i node e)) ∙ linked.right i node e

-- each of its links is the slot of that neighbour
neighbour : (s : Shape) (slots : List Slot) (index : List (Option ℕ)) (free : FreeList) (i : ℕ) (d : Slot) → AreParts s slots index free → d ≡ get_or slots i d
    → (of : Links → Option ℕ) (to : ℕ → ℕ) → ((node : ℕ) → of (links_at index node) ≡ entry index (to node))
    → (o : Option ℕ) → node_in slots i ≡ o → is_some o ≡ true → IsSomeAnd o (λ node. IsSlotOf (map_of s slots index free) (of d.links) (to node))
neighbour s slots index free i d parts read of to is None e held = false≢true held
neighbour s slots index free i d parts read of to is (Some node) e held =
    slot_of s slots index free parts (to node) (of d.links) (sym (ap of (read_links slots index i node d parts.linked read e) ∙ is node))

-- the same, as the calls say it
neighbour_as : (s : Shape) (m : SlotMap) (slots : List Slot) (index : List (Option ℕ)) (free : FreeList) (slot place : ℕ) (d : Slot) (o : Option ℕ) → map_of s slots index free ≡ m → AreParts s slots index free
    → place ≡ slot → d ≡ get_or slots place d → IsSome (node_of m slot)
    → (of : Links → Option ℕ) (to : ℕ → ℕ) → ((node : ℕ) → of (links_at index node) ≡ entry index (to node)) → o ≡ of d.links → IsSomeAnd (node_of m slot) (λ node. IsSlotOf m o (to node))
neighbour_as s m slots index free slot place d o view parts same read held of to is found =
    subst (λ (map : SlotMap). IsSome (node_of map slot) → IsSomeAnd (node_of map slot) (λ node. IsSlotOf map o (to node))) view
    (λ here. subst (λ (p : Option ℕ). IsSomeAnd (node_in slots slot) (λ node. IsSlotOf (map_of s slots index free) p (to node))) (sym found)
    (neighbour s slots index free slot d parts (read ∙ ap (λ k. get_or slots k d) same) of to is (node_in slots slot) refl here))
    held

pub parent_slot : (s : Shape) (m : SlotMap) (slots : List Slot) (index : List (Option ℕ)) (free : FreeList) (slot place : ℕ) (d : Slot) (o : Option ℕ) → map_of s slots index free ≡ m → AreParts s slots index free
    → place ≡ slot → d ≡ get_or slots place d → IsSome (node_of m slot) → o ≡ d.links.parent → IsSomeAnd (node_of m slot) (λ node. IsSlotOf m o (node / 2))
parent_slot s m slots index free slot place d o view parts same read held found =
    neighbour_as s m slots index free slot place d o view parts same read held (λ links. links.parent) (λ node. node / 2) (λ node. refl) found

pub left_slot : (s : Shape) (m : SlotMap) (slots : List Slot) (index : List (Option ℕ)) (free : FreeList) (slot place : ℕ) (d : Slot) (o : Option ℕ) (right : Bool) → map_of s slots index free ≡ m → AreParts s slots index free
    → place ≡ slot → d ≡ get_or slots place d → IsSome (node_of m slot) → o ≡ d.links.left → right ≡ false → IsSomeAnd (node_of m slot) (λ node. IsSlotOf m o (2 * node + cond right 1 0))
left_slot s m slots index free slot place d o right view parts same read held found is =
    subst (λ (b : Bool). IsSomeAnd (node_of m slot) (λ node. IsSlotOf m o (2 * node + cond b 1 0))) (sym is)
    (neighbour_as s m slots index free slot place d o view parts same read held (λ links. links.left) (λ node. 2 * node + 0) (λ node. let e : 2 * node ≡ 2 * node + 0 = omega arith in ap (λ n. entry index n) e) found)

pub right_slot : (s : Shape) (m : SlotMap) (slots : List Slot) (index : List (Option ℕ)) (free : FreeList) (slot place : ℕ) (d : Slot) (o : Option ℕ) (right : Bool) → map_of s slots index free ≡ m → AreParts s slots index free
    → place ≡ slot → d ≡ get_or slots place d → IsSome (node_of m slot) → o ≡ d.links.right → right ≡ true → IsSomeAnd (node_of m slot) (λ node. IsSlotOf m o (2 * node + cond right 1 0))
right_slot s m slots index free slot place d o right view parts same read held found is =
    subst (λ (b : Bool). IsSomeAnd (node_of m slot) (λ node. IsSlotOf m o (2 * node + cond b 1 0))) (sym is)
    (neighbour_as s m slots index free slot place d o view parts same read held (λ links. links.right) (λ node. 2 * node + 1) (λ node. refl) found)
