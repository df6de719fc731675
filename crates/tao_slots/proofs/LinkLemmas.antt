-- How links stay right.
use Rattle.std.proofs.Common.{◌≡◌, ℕ, ◌+◌, ◌*◌, ◌/◌, ◌<◌, List, Option, Some, None, length, get_or, sym, ap, ◌∙◌, subst, ⊎_elim, arith}
use Rattle.std.proofs.lemmas.Bool.{cases_eq, cases_lt, false≢true}
use Rattle.std.proofs.lemmas.List.{get_or_past, length-map, get_or-map}
use Rattle.std.proofs.lemmas.Option.{none-some}
use Rattle.std.specs.Option.{option_map, ForSome, IsSome}
use Rattle.tao_base.specs.declared.storage.Bucket.{Bucket}
use Rattle.tao_slots.specs.Columns.{buckets_in, nodes_of}
use Rattle.tao_slots.specs.Linked.{IsRight, node_in, IsIndexed, AreRight, AreRightApart, IsRelinked}
use Rattle.tao_slots.specs.SlotMap.{entry}
use Rattle.tao_slots.specs.declared.slot.Slot.{Slot}

-- the node of a slot that was read
pub node_read : (slots : List Slot) (i : ℕ) (d : Slot) → i < length slots → node_in slots i ≡ option_map (λ bucket. bucket.node) (get_or slots i d).bucket
node_read slots i d h =
    let len : length (buckets_in slots) ≡ length slots = length-map slots (λ slot. slot.bucket) in
    get_or-map (option_map (λ bucket. bucket.node)) (buckets_in slots) i None None (omega arith)
    ∙ ap (option_map (λ (bucket : Bucket). bucket.node)) (get_or-map (λ slot. slot.bucket) slots i d None h)

pub node_is : (slots : List Slot) (i : ℕ) (d : Slot) (o : Option Bucket) → i < length slots → (get_or slots i d).bucket ≡ o → option_map (λ bucket. bucket.node) o ≡ node_in slots i
node_is slots i d o h is = sym (node_read slots i d h ∙ ap (option_map (λ (bucket : Bucket). bucket.node)) is)

-- a slot with a node is a slot
pub node_within : (slots : List Slot) (i node : ℕ) → node_in slots i ≡ Some node → i < length slots
node_within slots i node e =
    let len : length (buckets_in slots) ≡ length slots = length-map slots (λ slot. slot.bucket) in
    let nodes : length (nodes_of (buckets_in slots)) ≡ length (buckets_in slots) = length-map (buckets_in slots) (option_map (λ bucket. bucket.node)) in
    ⊎_elim (λ below. below) (λ beyond. absurd (none-some node (sym (get_or_past (nodes_of (buckets_in slots)) i None (omega arith)) ∙ e))) (cases_lt i (length slots))

pub some_within : (slots : List Slot) (i : ℕ) → IsSome (node_in slots i) → i < length slots
some_within slots i h =
    let len : length (buckets_in slots) ≡ length slots = length-map slots (λ slot. slot.bucket) in
    let nodes : length (nodes_of (buckets_in slots)) ≡ length (buckets_in slots) = length-map (buckets_in slots) (option_map (λ bucket. bucket.node)) in
    ⊎_elim (λ below. below)
    (λ beyond. absurd (false≢true (subst (λ (o : Option ℕ). IsSome o) (get_or_past (nodes_of (buckets_in slots)) i None (omega arith)) h))) (cases_lt i (length slots))

-- slots with the same buckets have the same nodes
pub same_node : (old new : List Slot) (i node : ℕ) → buckets_in new ≡ buckets_in old → node_in new i ≡ Some node → node_in old i ≡ Some node
same_node old new i node same e = sym (ap (λ buckets. entry (nodes_of buckets) i) same) ∙ e

pub same_len : (old new : List Slot) → buckets_in new ≡ buckets_in old → length new ≡ length old
same_len old new same =
    let a : length (buckets_in old) ≡ length old = length-map old (λ slot. slot.bucket) in
    let b : length (buckets_in new) ≡ length new = length-map new (λ slot. slot.bucket) in
    let c : length (buckets_in new) ≡ length (buckets_in old) = ap (λ buckets. length buckets) same in
    omega arith

-- what the index has are slots
pub index_within : (old new : List Slot) (index : List (Option ℕ)) (node : ℕ) → IsIndexed old index → buckets_in new ≡ buckets_in old → ForSome (entry index node) (λ i. i < length new)
index_within old new index node indexed same = λ i at. let len = same_len old new same in let within = node_within old i node (indexed.found node i at) in omega arith

-- after the slots of a node and of all its neighbours were linked, all slots are right
pub all_right : (s0 s1 s2 s3 s4 : List Slot) (index : List (Option ℕ)) (at : ℕ) → IsIndexed s0 index → AreRightApart s0 index at
    → IsRelinked s0 s1 index (entry index at) → IsRelinked s1 s2 index (entry index (at / 2))
    → IsRelinked s2 s3 index (entry index (2 * at)) → IsRelinked s3 s4 index (entry index (2 * at + 1)) → AreRight s4 index
all_right s0 s1 s2 s3 s4 index at indexed apart r1 r2 r3 r4 = λ i node e4.
    let e3 = same_node s3 s4 i node r4.buckets e4 in
    let e2 = same_node s2 s3 i node r3.buckets e3 in
    let e1 = same_node s1 s2 i node r2.buckets e2 in
    let e0 = same_node s0 s1 i node r1.buckets e1 in
    let place : entry index node ≡ Some i = indexed.placed node i e0 in
    let from3 : IsRight s3 index i node → IsRight s4 index i node = r4.kept i node e3 in
    let from2 : IsRight s2 index i node → IsRight s4 index i node = λ h. from3 (r3.kept i node e2 h) in
    let from1 : IsRight s1 index i node → IsRight s4 index i node = λ h. from2 (r2.kept i node e1 h) in
    let from0 : IsRight s0 index i node → IsRight s4 index i node = λ h. from1 (r1.kept i node e0 h) in
    let is : (n : ℕ) → node ≡ n → entry index n ≡ Some i = λ n same. subst (λ m. entry index m ≡ Some i) same place in
    ⊎_elim (λ same. from1 (r1.made i node (is at same) e0))
    (λ not_at. ⊎_elim (λ same. from2 (r2.made i node (is (at / 2) same) e1))
    (λ not_up. ⊎_elim (λ same. from3 (r3.made i node (is (2 * at) same) e2))
    (λ not_left. ⊎_elim (λ same. r4.made i node (is (2 * at + 1) same) e3)
    (λ not_right. from0 (apart i node e0 not_at not_up not_left not_right))
    (cases_eq node (2 * at + 1)))
    (cases_eq node (2 * at)))
    (cases_eq node (at / 2)))
    (cases_eq node at)
