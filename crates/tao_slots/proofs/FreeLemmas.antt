-- The list of free slots.
use Rattle.std.proofs.Common.{◌≡◌, ℕ, ◌+◌, ◌-◌, ◌<◌, List, [], ◌∷◌, ◌++◌, Option, Some, None, length, set, get_or, refl, sym, ap, ◌∙◌, subst, arith, zero, suc, length-append}
use Rattle.std.proofs.lemmas.List.{length-set, get_or-set_same, get_or-set_other, get_or_append_left, get_or_push, get_or-map, length-map, map-set, map-append}
use Rattle.std.proofs.lemmas.Option.{none-some}
use Rattle.std.specs.Option.{option_map}
use Rattle.tao_base.specs.declared.storage.Bucket.{Bucket}
use Rattle.tao_slots.specs.Columns.{buckets_in, links_in, nexts_in, nodes_of, no_links, IsPushed}
use Rattle.tao_slots.specs.Linked.{node_in, IsFreeList, AreFree}
use Rattle.tao_slots.specs.SlotMap.{entry}
use Rattle.tao_slots.specs.declared.free.FreeList.{FreeList}
use Rattle.tao_slots.specs.declared.slot.Links.{Links}
use Rattle.tao_slots.specs.declared.slot.Slot.{Slot}

-- a list has one length
one_len : (nodes nexts : List (Option ℕ)) (first : Option ℕ) (n m : ℕ) → IsFreeList nodes nexts first n → IsFreeList nodes nexts first m → n ≡ m
one_len nodes nexts None zero zero a b = refl
one_len nodes nexts None zero (suc m) a b = absurd b
one_len nodes nexts None (suc n) m a b = absurd a
one_len nodes nexts (Some i) zero m a b = absurd a
one_len nodes nexts (Some i) (suc n) zero a b = absurd b
one_len nodes nexts (Some i) (suc n) (suc m) a b = ap suc (one_len nodes nexts (entry nexts i) n m a.2 b.2)

-- a list that is shorter than that from a slot on doesn't have the slot
without : (nodes nexts : List (Option ℕ)) (first : Option ℕ) (n i k : ℕ) (node : Option ℕ) → IsFreeList nodes nexts first n → IsFreeList nodes nexts (Some i) k → n < k
    → IsFreeList (set nodes i node) nexts first n
without nodes nexts None zero i k node a whole less = tt
without nodes nexts None (suc n) i k node a whole less = absurd a
without nodes nexts (Some j) zero i k node a whole less = absurd a
without nodes nexts (Some j) (suc n) i k node a whole less =
    let other : j ≡ i → ⊥ = λ same. let e : k ≡ suc n = one_len nodes nexts (Some i) k (suc n) whole (subst (λ (s : ℕ). IsFreeList nodes nexts (Some s) (suc n)) same a) in omega arith in
    let len : length (set nodes i node) ≡ length nodes = length-set nodes i node in
    let within : j < length nodes = a.0 in
    (omega arith, get_or-set_other nodes i j node None other ∙ a.1, without nodes nexts (entry nexts j) n i k node a.2 whole (omega arith))

-- the first slot is free, and the rest is a list whatever it then holds
pub popped : (nodes nexts : List (Option ℕ)) (i n : ℕ) → IsFreeList nodes nexts (Some i) n
    → (i < length nodes) × (entry nodes i ≡ None) × ((node : Option ℕ) → IsFreeList (set nodes i node) nexts (entry nexts i) (n - 1))
popped nodes nexts i zero a = absurd a
popped nodes nexts i (suc n) a =
    let e : suc n - 1 ≡ n = omega arith in
    (a.0, a.1, λ node. subst (λ (k : ℕ). IsFreeList (set nodes i node) nexts (entry nexts i) k) (sym e) (without nodes nexts (entry nexts i) n i (suc n) node a.2 a (omega arith)))

-- a slot that holds a node isn't on the list
emptied : (nodes nexts : List (Option ℕ)) (first : Option ℕ) (n i node : ℕ) (next : Option ℕ) → entry nodes i ≡ Some node → IsFreeList nodes nexts first n
    → IsFreeList (set nodes i None) (set nexts i next) first n
emptied nodes nexts None zero i node next held a = tt
emptied nodes nexts None (suc n) i node next held a = absurd a
emptied nodes nexts (Some j) zero i node next held a = absurd a
emptied nodes nexts (Some j) (suc n) i node next held a =
    let other : j ≡ i → ⊥ = λ same. none-some node (sym a.1 ∙ ap (λ k. entry nodes k) same ∙ held) in
    let len : length (set nodes i None) ≡ length nodes = length-set nodes i None in
    let within : j < length nodes = a.0 in (
      omega arith,
      get_or-set_other nodes i j None None other ∙ a.1,
      subst (λ (o : Option ℕ). IsFreeList (set nodes i None) (set nexts i next) o n) (sym (get_or-set_other nexts i j next None other)) (emptied nodes nexts (entry nexts j) n i node next held a.2),
    )

-- a slot that was emptied is the first
pub given_back : (nodes nexts : List (Option ℕ)) (first : Option ℕ) (n i node : ℕ) → entry nodes i ≡ Some node → i < length nodes → length nexts ≡ length nodes → IsFreeList nodes nexts first n
    → IsFreeList (set nodes i None) (set nexts i first) (Some i) (n + 1)
given_back nodes nexts first n i node held within same a =
    let len : length (set nodes i None) ≡ length nodes = length-set nodes i None in
    let one : n + 1 ≡ suc n = omega arith in
    let whole : IsFreeList (set nodes i None) (set nexts i first) (Some i) (suc n) = (
      omega arith,
      get_or-set_same nodes i None None within,
      subst (λ (o : Option ℕ). IsFreeList (set nodes i None) (set nexts i first) o n) (sym (get_or-set_same nexts i first None (omega arith))) (emptied nodes nexts first n i node first held a),
    )
    in
    subst (λ (k : ℕ). IsFreeList (set nodes i None) (set nexts i first) (Some i) k) (sym one) whole

appended : (nodes nexts : List (Option ℕ)) (first : Option ℕ) (n : ℕ) (next : Option ℕ) → length nexts ≡ length nodes → IsFreeList nodes nexts first n
    → IsFreeList (nodes ++ None ∷ []) (nexts ++ next ∷ []) first n
appended nodes nexts None zero next same a = tt
appended nodes nexts None (suc n) next same a = absurd a
appended nodes nexts (Some j) zero next same a = absurd a
appended nodes nexts (Some j) (suc n) next same a =
    let within : j < length nodes = a.0 in
    let len : length (nodes ++ None ∷ []) ≡ length nodes + 1 = length-append nodes (None ∷ []) in (
      omega arith,
      get_or_append_left nodes (None ∷ []) None j within ∙ a.1,
      subst (λ (o : Option ℕ). IsFreeList (nodes ++ None ∷ []) (nexts ++ next ∷ []) o n) (sym (get_or_append_left nexts (next ∷ []) None j (omega arith)))
          (appended nodes nexts (entry nexts j) n next same a.2),
    )

-- a slot that was added is the first
pub pushed : (nodes nexts : List (Option ℕ)) (first : Option ℕ) (n : ℕ) → length nexts ≡ length nodes → IsFreeList nodes nexts first n
    → IsFreeList (nodes ++ None ∷ []) (nexts ++ first ∷ []) (Some (length nodes)) (n + 1)
pushed nodes nexts first n same a =
    let len : length (nodes ++ None ∷ []) ≡ length nodes + 1 = length-append nodes (None ∷ []) in
    let one : n + 1 ≡ suc n = omega arith in
    let last : entry (nodes ++ None ∷ []) (length nodes) ≡ None = get_or_push nodes None None (length nodes) refl in
    let next : entry (nexts ++ first ∷ []) (length nodes) ≡ first = get_or_push nexts first None (length nodes) same in
    let whole : IsFreeList (nodes ++ None ∷ []) (nexts ++ first ∷ []) (Some (length nodes)) (suc n) =
    (omega arith, last, subst (λ (o : Option ℕ). IsFreeList (nodes ++ None ∷ []) (nexts ++ first ∷ []) o n) (sym next) (appended nodes nexts first n first same a))
    in
    subst (λ (k : ℕ). IsFreeList (nodes ++ None ∷ []) (nexts ++ first ∷ []) (Some (length nodes)) k) (sym one) whole

pub nodes_len : (slots : List Slot) → length (nodes_of (buckets_in slots)) ≡ length slots
nodes_len slots = length-map (buckets_in slots) (option_map (λ b. b.node)) ∙ length-map slots (λ slot. slot.bucket)

nexts_len : (slots : List Slot) → length (nexts_in slots) ≡ length slots
nexts_len slots = length-map slots (λ slot. slot.next)

-- the first free slot is one of the slots
pub first_within : (slots : List Slot) (free : FreeList) (i : ℕ) → free.first ≡ Some i → AreFree slots free → i < length slots
first_within slots free i first list =
    let all = popped (nodes_of (buckets_in slots)) (nexts_in slots) i free.count (subst (λ (o : Option ℕ). IsFreeList (nodes_of (buckets_in slots)) (nexts_in slots) o free.count) first list) in
    let below : i < length (nodes_of (buckets_in slots)) = all.0 in
    let len = nodes_len slots in
    omega arith

-- the first free slot, and the list after it
pub first_free : (slots : List Slot) (free : FreeList) (i : ℕ) (d : Slot) → free.first ≡ Some i → AreFree slots free
    → (i < length slots) × (node_in slots i ≡ None)
    × ((node : Option ℕ) → IsFreeList (set (nodes_of (buckets_in slots)) i node) (nexts_in slots) (get_or slots i d).next (free.count - 1))
first_free slots free i d first list =
    let all = popped (nodes_of (buckets_in slots)) (nexts_in slots) i free.count (subst (λ (o : Option ℕ). IsFreeList (nodes_of (buckets_in slots)) (nexts_in slots) o free.count) first list) in
    let below : i < length (nodes_of (buckets_in slots)) = all.0 in
    let len = nodes_len slots in
    let within : i < length slots = omega arith in (
      within,
      all.1,
      λ node. subst (λ (o : Option ℕ). IsFreeList (set (nodes_of (buckets_in slots)) i node) (nexts_in slots) o (free.count - 1))
          (get_or-map (λ slot. slot.next) slots i d None within) (all.2 node),
    )

-- a slot that held a node is the first free one
pub back : (s0 s1 : List Slot) (f0 f1 : FreeList) (place node : ℕ) → node_in s0 place ≡ Some node → place < length s0 → buckets_in s1 ≡ set (buckets_in s0) place None
    → nexts_in s1 ≡ set (nexts_in s0) place f0.first → f1.first ≡ Some place → f1.count ≡ f0.count + 1 → AreFree s0 f0 → AreFree s1 f1
back s0 s1 f0 f1 place node held within buckets nexts first count list =
    let lens = nodes_len s0 in
    let lenx = nexts_len s0 in
    let nodes : nodes_of (buckets_in s1) ≡ set (nodes_of (buckets_in s0)) place None =
    ap nodes_of buckets ∙ map-set (option_map (λ (b : Bucket). b.node)) (buckets_in s0) place None in
    let whole = given_back (nodes_of (buckets_in s0)) (nexts_in s0) f0.first f0.count place node held (omega arith) (omega arith) list in
    rw (nodes, nexts, first, count) whole

-- the nodes of slots of which one was filled are a list of free slots still
pub filled : (s0 s1 : List Slot) (free : FreeList) (place : ℕ) (bucket : Bucket) → buckets_in s1 ≡ set (buckets_in s0) place (Some bucket) → nexts_in s1 ≡ nexts_in s0
    → IsFreeList (set (nodes_of (buckets_in s0)) place (Some bucket.node)) (nexts_in s0) free.first free.count → AreFree s1 free
filled s0 s1 free place bucket buckets nexts list =
    let nodes : nodes_of (buckets_in s1) ≡ set (nodes_of (buckets_in s0)) place (Some bucket.node) =
    ap nodes_of buckets ∙ map-set (option_map (λ (b : Bucket). b.node)) (buckets_in s0) place (Some bucket) in
    rw (nodes, nexts) list

-- one more free slot is the first
pub more_free : (s0 s1 : List Slot) (f0 f1 : FreeList) → IsPushed s0 s1 f0.first → f1.first ≡ Some (length s0) → f1.count ≡ f0.count + 1 → AreFree s0 f0 → AreFree s1 f1
more_free s0 s1 f0 f1 push first count list =
    let lens = nodes_len s0 in
    let lenx = nexts_len s0 in
    let nodes : nodes_of (buckets_in s1) ≡ nodes_of (buckets_in s0) ++ None ∷ [] =
    ap nodes_of push.buckets ∙ map-append (option_map (λ (b : Bucket). b.node)) (buckets_in s0) (None ∷ []) in
    let whole = pushed (nodes_of (buckets_in s0)) (nexts_in s0) f0.first f0.count (omega arith) list in
    rw (nodes, push.nexts, first, count, ← lens) whole

pub pushed_slot : (s0 s1 : List Slot) (slot : Slot) (next : Option ℕ) → s1 ≡ s0 ++ slot ∷ [] → slot.bucket ≡ None → slot.links ≡ no_links → slot.next ≡ next → IsPushed s0 s1 next
pushed_slot s0 s1 slot next items bucket links after = record {
  buckets = ap buckets_in items ∙ map-append (λ s. s.bucket) s0 (slot ∷ []) ∙ ap (λ (o : Option Bucket). buckets_in s0 ++ o ∷ []) bucket;
  links = ap links_in items ∙ map-append (λ s. s.links) s0 (slot ∷ []) ∙ ap (λ (k : Links). links_in s0 ++ k ∷ []) links;
  nexts = ap nexts_in items ∙ map-append (λ s. s.next) s0 (slot ∷ []) ∙ ap (λ (o : Option ℕ). nexts_in s0 ++ o ∷ []) after;
}
