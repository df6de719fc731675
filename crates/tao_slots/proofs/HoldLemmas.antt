-- A slot that is filled or emptied, and the index with it.
use Rattle.std.proofs.Common.{◌≡◌, ℕ, ◌+◌, ◌*◌, ◌/◌, ◌<◌, ◌≤◌, List, Option, Some, None, length, set, get_or, refl, sym, ap, ◌∙◌, ⊎_elim, arith, ◌-◌, ◌++◌, ◌∷◌, [], zero, suc, replicate, append_assoc}
use Rattle.std.proofs.lemmas.Bool.{cases_eq, cases_lt}
use Rattle.std.proofs.lemmas.List.{length-map, map-set, get_or-map, get_or_past, get_or-set_same, get_or-set_other, get_or_append_left, get_or-append_right, map-append, replicate_more}
use Rattle.std.proofs.lemmas.Option.{none-some, same_Some}
use Rattle.std.specs.Option.{option_map}
use Rattle.tao_base.specs.declared.storage.Bucket.{Bucket}
use Rattle.tao_slots.specs.Columns.{buckets_in, links_in, nodes_of, no_links, IsRefilled, IsRehung, IsPushed}
use Rattle.tao_slots.specs.Linked.{links_at, node_in, IsIndexed, IsLinked, AreRight, AreRightApart, ChangesOne, IsGrown}
use Rattle.tao_slots.specs.SlotMap.{entry}
use Rattle.tao_slots.specs.declared.slot.Links.{Links}
use Rattle.tao_slots.specs.declared.slot.Slot.{Slot}
use Rattle.tao_slots.proofs.LinkLemmas.{node_within}

-- the links of a node that is apart from the one that changed
links_apart : (old new : List (Option ℕ)) (at node : ℕ) → ((n : ℕ) → (n ≡ at → ⊥) → entry new n ≡ entry old n)
    → (node ≡ at → ⊥) → (node ≡ at / 2 → ⊥) → (node ≡ 2 * at → ⊥) → (node ≡ 2 * at + 1 → ⊥) → links_at new node ≡ links_at old node
links_apart old new at node others a u l r =
    let p : entry new (node / 2) ≡ entry old (node / 2) = others (node / 2) (λ same. omega arith) in
    let x : entry new (2 * node) ≡ entry old (2 * node) = others (2 * node) (λ same. omega arith) in
    let y : entry new (2 * node + 1) ≡ entry old (2 * node + 1) = others (2 * node + 1) (λ same. omega arith) in
    cc

-- the slots apart from the change stay right
pub apart_right : (s0 s1 : List Slot) (i0 i1 : List (Option ℕ)) (place at : ℕ) → IsLinked s0 i0 → ChangesOne s0 s1 i0 i1 place at
    → ((node : ℕ) → node_in s1 place ≡ Some node → node ≡ at) → AreRightApart s1 i1 at
apart_right s0 s1 i0 i1 place at linked change own = λ i node e a u l r.
    let other : i ≡ place → ⊥ = λ same. a (own node (sym (ap (λ k. node_in s1 k) same) ∙ e)) in
    let before : node_in s0 i ≡ Some node = sym (change.nodes i other) ∙ e in
    change.links i other ∙ linked.right i node before ∙ sym (links_apart i0 i1 at node change.index a u l r)

-- a node has come into a free slot
pub come : (s0 s1 : List Slot) (i0 i1 : List (Option ℕ)) (place at : ℕ) → IsLinked s0 i0 → ChangesOne s0 s1 i0 i1 place at → 0 < at
    → node_in s0 place ≡ None → entry i0 at ≡ None → node_in s1 place ≡ Some at → entry i1 at ≡ Some place → IsIndexed s1 i1
come s0 s1 i0 i1 place at linked change low free absent here there = record {
  found = λ node i e. ⊎_elim
      (λ (same : node ≡ at).
      let at_place : place ≡ i = same_Some place i (sym there ∙ ap (λ n. entry i1 n) (sym same) ∙ e) in
      ap (λ k. node_in s1 k) (sym at_place) ∙ here ∙ ap Some (sym same))
      (λ other.
      let before : node_in s0 i ≡ Some node = linked.indexed.found node i (sym (change.index node other) ∙ e) in
      let elsewhere : i ≡ place → ⊥ = λ same. none-some node (sym free ∙ ap (λ k. node_in s0 k) (sym same) ∙ before) in
      change.nodes i elsewhere ∙ before)
      (cases_eq node at);
  placed = λ node i e. ⊎_elim
      (λ (same : i ≡ place).
      let at_node : at ≡ node = same_Some at node (sym here ∙ ap (λ k. node_in s1 k) (sym same) ∙ e) in
      ap (λ n. entry i1 n) (sym at_node) ∙ there ∙ ap Some (sym same))
      (λ other.
      let before : entry i0 node ≡ Some i = linked.indexed.placed node i (sym (change.nodes i other) ∙ e) in
      let elsewhere : node ≡ at → ⊥ = λ same. none-some i (sym absent ∙ ap (λ n. entry i0 n) (sym same) ∙ before) in
      change.index node elsewhere ∙ before)
      (cases_eq i place);
  no_zero = change.index 0 (λ same. omega arith) ∙ linked.indexed.no_zero;
}

-- a node has gone out of its slot
pub gone : (s0 s1 : List Slot) (i0 i1 : List (Option ℕ)) (place at : ℕ) → IsLinked s0 i0 → ChangesOne s0 s1 i0 i1 place at
    → node_in s0 place ≡ Some at → node_in s1 place ≡ None → entry i1 at ≡ None → IsIndexed s1 i1
gone s0 s1 i0 i1 place at linked change here free absent =
    let there : entry i0 at ≡ Some place = linked.indexed.placed at place here in
    record {
      found = λ node i e.
          let other : node ≡ at → ⊥ = λ same. none-some i (sym absent ∙ ap (λ n. entry i1 n) (sym same) ∙ e) in
          let before : node_in s0 i ≡ Some node = linked.indexed.found node i (sym (change.index node other) ∙ e) in
          let elsewhere : i ≡ place → ⊥ = λ same. other (same_Some node at (sym before ∙ ap (λ k. node_in s0 k) same ∙ here)) in
          change.nodes i elsewhere ∙ before;
      placed = λ node i e.
          let other : i ≡ place → ⊥ = λ same. none-some node (sym free ∙ ap (λ k. node_in s1 k) (sym same) ∙ e) in
          let before : entry i0 node ≡ Some i = linked.indexed.placed node i (sym (change.nodes i other) ∙ e) in
          let elsewhere : node ≡ at → ⊥ = λ same. other (same_Some i place (sym before ∙ ap (λ n. entry i0 n) same ∙ there)) in
          change.index node elsewhere ∙ before;
      no_zero = ⊎_elim
          (λ (same : 0 ≡ at). absurd (none-some place (sym linked.indexed.no_zero ∙ ap (λ n. entry i0 n) same ∙ there)))
          (λ other. change.index 0 other ∙ linked.indexed.no_zero)
          (cases_eq 0 at);
    }

-- the node of a slot that was filled or emptied, and of each other slot
pub node_filled : (s0 s1 : List Slot) (i : ℕ) (bucket : Option Bucket) → i < length s0 → buckets_in s1 ≡ set (buckets_in s0) i bucket → node_in s1 i ≡ option_map (λ b. b.node) bucket
node_filled s0 s1 i bucket within buckets =
    let len : length (buckets_in s0) ≡ length s0 = length-map s0 (λ slot. slot.bucket) in
    let lens : length (nodes_of (buckets_in s0)) ≡ length (buckets_in s0) = length-map (buckets_in s0) (option_map (λ b. b.node)) in
    ap (λ (all : List (Option Bucket)). entry (nodes_of all) i) buckets
    ∙ ap (λ (all : List (Option ℕ)). entry all i) (map-set (option_map (λ (b : Bucket). b.node)) (buckets_in s0) i bucket)
    ∙ get_or-set_same (nodes_of (buckets_in s0)) i (option_map (λ b. b.node) bucket) None (omega arith)

pub node_other : (s0 s1 : List Slot) (i j : ℕ) (bucket : Option Bucket) → buckets_in s1 ≡ set (buckets_in s0) i bucket → (j ≡ i → ⊥) → node_in s1 j ≡ node_in s0 j
node_other s0 s1 i j bucket buckets other =
    ap (λ (all : List (Option Bucket)). entry (nodes_of all) j) buckets
    ∙ ap (λ (all : List (Option ℕ)). entry all j) (map-set (option_map (λ (b : Bucket). b.node)) (buckets_in s0) i bucket)
    ∙ get_or-set_other (nodes_of (buckets_in s0)) i j (option_map (λ b. b.node) bucket) None other

-- what is changed where a slot was filled or emptied, and its entry of the index set
pub changes_one : (s0 s1 s2 : List Slot) (i0 i1 : List (Option ℕ)) (place at : ℕ) (bucket : Option Bucket) (o : Option ℕ) → IsRefilled s0 s1 place bucket → IsRehung s1 s2 → i1 ≡ set i0 at o
    → ChangesOne s0 s2 i0 i1 place at
changes_one s0 s1 s2 i0 i1 place at bucket o filled hung index = record {
  nodes = λ i other. node_other s0 s2 place i bucket (hung.buckets ∙ filled.buckets) other;
  links = λ i other. ap (λ (all : List Links). get_or all i no_links) hung.links ∙ filled.links i other;
  index = λ node other. ap (λ (all : List (Option ℕ)). entry all node) index ∙ get_or-set_other i0 at node o None other;
}

-- the bucket of a slot that holds one tells its node
pub node_held : (slots : List Slot) (i : ℕ) (bucket : Bucket) → entry (buckets_in slots) i ≡ Some bucket → (i < length slots) × (node_in slots i ≡ Some bucket.node)
node_held slots i bucket e =
    let len : length (buckets_in slots) ≡ length slots = length-map slots (λ slot. slot.bucket) in
    ⊎_elim
    (λ (below : i < length slots).
    (below, get_or-map (option_map (λ (b : Bucket). b.node)) (buckets_in slots) i None None (omega arith) ∙ ap (option_map (λ (b : Bucket). b.node)) e))
    (λ beyond. absurd (none-some bucket (sym (get_or_past (buckets_in slots) i None (omega arith)) ∙ e)))
    (cases_lt i (length slots))

-- what the index has is in its range
pub index_below : (index : List (Option ℕ)) (node i : ℕ) → entry index node ≡ Some i → node < length index
index_below index node i e =
    ⊎_elim (λ below. below) (λ beyond. absurd (none-some i (sym (get_or_past index node None (omega arith)) ∙ e))) (cases_lt node (length index))

pub hold_indexed : (s0 s1 s2 : List Slot) (i0 i1 : List (Option ℕ)) (place : ℕ) (bucket : Bucket) → IsLinked s0 i0 → IsRefilled s0 s1 place (Some bucket) → IsRehung s1 s2
    → i1 ≡ set i0 bucket.node (Some place) → place < length s0 → node_in s0 place ≡ None → 0 < bucket.node → bucket.node < length i0 → entry i0 bucket.node ≡ None
    → IsIndexed s2 i1 × AreRightApart s2 i1 bucket.node
hold_indexed s0 s1 s2 i0 i1 place bucket linked filled hung index within free low high absent =
    let change = changes_one s0 s1 s2 i0 i1 place bucket.node (Some bucket) (Some place) filled hung index in
    let here : node_in s2 place ≡ Some bucket.node = node_filled s0 s2 place (Some bucket) within (hung.buckets ∙ filled.buckets) in
    let there : entry i1 bucket.node ≡ Some place = ap (λ (all : List (Option ℕ)). entry all bucket.node) index ∙ get_or-set_same i0 bucket.node (Some place) None high in (
      come s0 s2 i0 i1 place bucket.node linked change low free absent here there,
      apart_right s0 s2 i0 i1 place bucket.node linked change (λ node e. same_Some node bucket.node (sym e ∙ here)),
    )

pub let_go_indexed : (s0 s1 s2 : List Slot) (i0 i1 : List (Option ℕ)) (place : ℕ) (bucket : Bucket) → IsLinked s0 i0 → IsRefilled s0 s1 place None → IsRehung s1 s2
    → i1 ≡ set i0 bucket.node None → entry (buckets_in s0) place ≡ Some bucket → IsIndexed s2 i1 × AreRightApart s2 i1 bucket.node
let_go_indexed s0 s1 s2 i0 i1 place bucket linked emptied hung index held =
    let change = changes_one s0 s1 s2 i0 i1 place bucket.node None None emptied hung index in
    let was = node_held s0 place bucket held in
    let here : node_in s2 place ≡ None = node_filled s0 s2 place None was.0 (hung.buckets ∙ emptied.buckets) in
    let high : bucket.node < length i0 = index_below i0 bucket.node place (linked.indexed.placed bucket.node place was.1) in
    let there : entry i1 bucket.node ≡ None = ap (λ (all : List (Option ℕ)). entry all bucket.node) index ∙ get_or-set_same i0 bucket.node None None high in (
      gone s0 s2 i0 i1 place bucket.node linked change was.1 here there,
      apart_right s0 s2 i0 i1 place bucket.node linked change (λ node e. absurd (none-some node (sym here ∙ e))),
    )

-- the index fits slots with the same nodes
indexed_nodes : (old new : List Slot) (index : List (Option ℕ)) → IsIndexed old index → ((i : ℕ) → node_in new i ≡ node_in old i) → IsIndexed new index
indexed_nodes old new index indexed same = record {
  found = λ node i e. same i ∙ indexed.found node i e;
  placed = λ node i e. indexed.placed node i (sym (same i) ∙ e);
  no_zero = indexed.no_zero;
}

pub linked_again : (old new : List Slot) (index : List (Option ℕ)) → IsIndexed old index → buckets_in new ≡ buckets_in old → AreRight new index → IsLinked new index
linked_again old new index indexed same right = record {
  indexed = indexed_nodes old new index indexed (λ i. ap (λ (all : List (Option Bucket)). entry (nodes_of all) i) same);
  right = right;
}

-- slots with the same nodes and links are linked still
pub linked_nodes : (old new : List Slot) (index : List (Option ℕ)) → IsLinked old index → ((i : ℕ) → node_in new i ≡ node_in old i) → links_in new ≡ links_in old → IsLinked new index
linked_nodes old new index linked same links = record {
  indexed = indexed_nodes old new index linked.indexed same;
  right = λ i node e. ap (λ (all : List Links). get_or all i no_links) links ∙ linked.right i node (sym (same i) ∙ e);
}

pub linked_same : (old new : List Slot) (index : List (Option ℕ)) → IsLinked old index → buckets_in new ≡ buckets_in old → links_in new ≡ links_in old → IsLinked new index
linked_same old new index linked buckets links = linked_nodes old new index linked (λ i. ap (λ (all : List (Option Bucket)). entry (nodes_of all) i) buckets) links

-- also where a free slot is added
pub linked_more : (old new : List Slot) (next : Option ℕ) (index : List (Option ℕ)) → IsPushed old new next → IsLinked old index → IsLinked new index
linked_more old new next index push linked =
    let len : length (nodes_of (buckets_in old)) ≡ length old = length-map (buckets_in old) (option_map (λ b. b.node)) ∙ length-map old (λ slot. slot.bucket) in
    let lenk : length (links_in old) ≡ length old = length-map old (λ slot. slot.links) in
    let nodes : nodes_of (buckets_in new) ≡ nodes_of (buckets_in old) ++ None ∷ [] =
    ap nodes_of push.buckets ∙ map-append (option_map (λ (b : Bucket). b.node)) (buckets_in old) (None ∷ []) in
    let there : (i : ℕ) → i < length old → node_in new i ≡ node_in old i =
    λ i h. ap (λ (all : List (Option ℕ)). entry all i) nodes ∙ get_or_append_left (nodes_of (buckets_in old)) (None ∷ []) None i (omega arith) in
    let beyond : (i : ℕ) → length old ≤ i → node_in new i ≡ None =
    λ i h. ap (λ (all : List (Option ℕ)). entry all i) nodes
    ∙ get_or-append_right (nodes_of (buckets_in old)) (None ∷ []) (length old) i None len h ∙ none_only (i - length old)
    in
    let before : (i node : ℕ) → node_in new i ≡ Some node → (i < length old) × (node_in old i ≡ Some node) =
    λ i node e. ⊎_elim (λ (h : i < length old). (h, sym (there i h) ∙ e)) (λ h. absurd (none-some node (sym (beyond i h) ∙ e))) (cases_lt i (length old))
    in
    record {
      indexed = record {
        found = λ node i e. let was = linked.indexed.found node i e in there i (node_within old i node was) ∙ was;
        placed = λ node i e. linked.indexed.placed node i (before i node e).1;
        no_zero = linked.indexed.no_zero;
      };
      right = λ i node e.
          let was = before i node e in
          let h : i < length old = was.0 in
          ap (λ (all : List Links). get_or all i no_links) push.links ∙ get_or_append_left (links_in old) (no_links ∷ []) no_links i (omega arith) ∙ linked.right i node was.1;
    }
  where
    none_only : (k : ℕ) → entry {X = ℕ} (None ∷ []) k ≡ None
    none_only zero = refl
    none_only (suc k) = refl

pub grown_more : (s0 s1 s2 : List Slot) (next : Option ℕ) (n : ℕ) → IsGrown s0 s1 n → IsPushed s1 s2 next → IsGrown s0 s2 (n + 1)
grown_more s0 s1 s2 next n grown push = record {
  buckets = push.buckets ∙ ap (λ (all : List (Option Bucket)). all ++ None ∷ []) grown.buckets ∙ append_assoc (buckets_in s0) (replicate n None) (None ∷ [])
      ∙ ap (λ (more : List (Option Bucket)). buckets_in s0 ++ more) (replicate_more n None);
  linked = λ index linked. linked_more s1 s2 next index push (grown.linked index linked);
}
