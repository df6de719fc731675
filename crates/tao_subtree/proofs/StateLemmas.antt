-- The slots hold the residents.
use Rattle.std.proofs.Common.{◌≡◌, ℕ, ◌+◌, ◌*◌, ◌^◌, ◌<◌, ◌≤◌, Bool, true, false, ◌&&◌, ◌==◌, nat_eq, nat_le, cond, List, Option, Some, None, length, get_or, set, refl, sym, ap, ◌∙◌, subst, ⊎_elim, arith, is_some, option_and_then, replicate, zero, suc}
use Rattle.std.proofs.lemmas.Bool.{cases_eq, cases_lt, eq-eqb, ne_eqb, le-leb, and_from, and_left}
use Rattle.std.proofs.lemmas.List.{get_or_past, get_or_read, get_or-set_same, get_or-set_other}
use Rattle.std.specs.Option.{IsSomeAnd}
use Rattle.tao_base.specs.declared.storage.Bucket.{Bucket}
use Rattle.tao_base.specs.declared.storage.Entry.{Entry}
use Rattle.tao_slots.specs.SlotMap.{SlotMap, bucket_at, node_of, bucket_in, IsSlotOf, IsSlotMap}
use Rattle.tao_slots.specs.SlotMap as slots
use Rattle.tao_base.specs.Limits.{Shape}
use Rattle.tao_base.specs.Tree.{is_on_path}
use Rattle.tao_subtree.specs.Parts.{state_of}
use Rattle.tao_subtree.specs.Residents.{SubtreeState, resident_at, touch_at, count_at, may_leave, with_entries, empty_subtree, ForgetsOne, BeginsFetch, AreFew}

some_and : (o : Option Bucket) (node : ℕ) → IsSomeAnd o (λ bucket. bucket.node ≡ node) → is_some o ≡ true
some_and None node h = absurd h
some_and (Some b) node h = refl

-- a slot is found exactly for a held node
pub found_held : (m : SlotMap) (node : ℕ) (o : Option ℕ) → IsSlotMap m → IsSlotOf m o node → is_some o ≡ is_some (bucket_at m node)
found_held m node None sound found = sym (ap is_some found)
found_held m node (Some slot) sound found = sym (some_and (bucket_at m node) node (sound.held slot node found))

-- a held node is within the list
pub held_below : (m : SlotMap) (node slot : ℕ) → IsSlotMap m → node_of m slot ≡ Some node → node < length m.buckets
held_below m node slot sound found = ⊎_elim (λ below. below)
    (λ past. absurd (subst (λ (o : Option Bucket). IsSomeAnd o (λ bucket. bucket.node ≡ node)) (get_or_past m.buckets node None past) (sound.held slot node found)))
    (cases_lt node (length m.buckets))

-- the bucket in a node's slot is the node's
slot_bucket : (m : SlotMap) (node slot : ℕ) → node_of m slot ≡ Some node → bucket_in m slot ≡ bucket_at m node
slot_bucket m node slot found = ap (option_and_then (bucket_at m)) found

-- an exchange of entries is one of a resident's entries
pub swapped_state : (s : Shape) (m new : SlotMap) (cs ts vs : List ℕ) (state : SubtreeState) (node slot : ℕ) (given back : List Entry) → state_of s m cs ts vs ≡ state → IsSlotMap m → node_of m slot ≡ Some node
    → IsSomeAnd (bucket_in m slot) (λ b. (new ≡ slots.with_entries m b given) × (back ≡ b.entries))
    → IsSomeAnd (resident_at state node) (λ b. (state_of s new cs ts vs ≡ with_entries state node b given) × (back ≡ b.entries))
swapped_state s m new cs ts vs state node slot given back view sound found swapped =
    subst (λ (st : SubtreeState). IsSomeAnd (resident_at st node) (λ b. (state_of s new cs ts vs ≡ with_entries st node b given) × (back ≡ b.entries))) view
    (by_bucket (bucket_at m node) (sound.held slot node found)
    (subst (λ (o : Option Bucket). IsSomeAnd o (λ b. (new ≡ slots.with_entries m b given) × (back ≡ b.entries))) (slot_bucket m node slot found) swapped))
  where
    by_bucket : (o : Option Bucket) → IsSomeAnd o (λ b. b.node ≡ node) → IsSomeAnd o (λ b. (new ≡ slots.with_entries m b given) × (back ≡ b.entries))
        → IsSomeAnd o (λ b. (state_of s new cs ts vs ≡ with_entries (state_of s m cs ts vs) node b given) × (back ≡ b.entries))
    by_bucket None h k = absurd h
    by_bucket (Some b) h k = (
      ap (λ (all : SlotMap). state_of s all cs ts vs) k.0
          ∙ ap (λ n. record { shape = s; residents = set m.buckets n (Some (record b { entries = given })); counts = cs; touches = ts; versions = vs; spare = m.spare }) h,
      k.1,
    )

-- a node that may leave
leaves : (state : SubtreeState) (version node last : ℕ) → touch_at state node ≤ last → last ≡ version * state.shape.k → count_at state node ≡ 0 → may_leave state version node ≡ true
leaves state version node last touch is count =
    and_from (nat_le (touch_at state node) (version * state.shape.k)) (count_at state node == 0) (le-leb (touch_at state node) (version * state.shape.k) (omega arith)) (eq-eqb (count_at state node) 0 count)

-- it has left
pub forgot_one : (s : Shape) (m new : SlotMap) (cs ts vs : List ℕ) (state : SubtreeState) (version node slot : ℕ) (bucket : Bucket) → state_of s m cs ts vs ≡ state → IsSlotMap m
    → node_of m slot ≡ Some node → bucket_in m slot ≡ Some bucket → new ≡ slots.removed m slot bucket → may_leave state version node ≡ true
    → ForgetsOne state (state_of s new cs ts vs) version node
forgot_one s m new cs ts vs state version node slot bucket view sound found held removed leave =
    subst (λ (st : SubtreeState). may_leave st version node ≡ true → ForgetsOne st (state_of s new cs ts vs) version node) view gone leave
  where
    same_node : bucket.node ≡ node
    same_node = subst (λ (o : Option Bucket). IsSomeAnd o (λ b. b.node ≡ node)) (sym (slot_bucket m node slot found) ∙ held) (sound.held slot node found)

    residents : new.buckets ≡ set m.buckets node None
    residents = ap (λ (all : SlotMap). all.buckets) removed ∙ ap (λ n. set m.buckets n None) same_node

    at : (st : SubtreeState) → st ≡ state_of s m cs ts vs → may_leave st version node ≡ true → (w : ℕ)
        → get_or new.buckets w None ≡ cond (nat_eq w node && may_leave st version w) None (get_or m.buckets w None)
    at st e l w = ⊎_elim
        (λ (same : w ≡ node).
        ap (λ (all : List (Option Bucket)). get_or all w None) residents
        ∙ ap (λ k. get_or (set m.buckets node None) k None) same
        ∙ get_or-set_same m.buckets node None None (held_below m node slot sound found)
        ∙ sym (ap (λ (b : Bool). cond b None (get_or m.buckets w None))
        (and_from (nat_eq w node) (may_leave st version w) (eq-eqb w node same) (ap (λ k. may_leave st version k) same ∙ l))))
        (λ other.
        ap (λ (all : List (Option Bucket)). get_or all w None) residents
        ∙ get_or-set_other m.buckets node w None None other
        ∙ sym (ap (λ (b : Bool). cond b None (get_or m.buckets w None)) (and_left (nat_eq w node) (may_leave st version w) (ne_eqb w node other))))
        (cases_eq w node)

    gone : may_leave (state_of s m cs ts vs) version node ≡ true → ForgetsOne (state_of s m cs ts vs) (state_of s new cs ts vs) version node
    gone l = record { residents = at (state_of s m cs ts vs) refl l; others = refl }

-- the test of a node whose touch and count were read
pub may_leave_read : (s : Shape) (m : SlotMap) (cs ts vs : List ℕ) (state : SubtreeState) (version node a b t n : ℕ) → state_of s m cs ts vs ≡ state
    → node < length ts → t ≡ get_or ts node t → node < length cs → n ≡ get_or cs node n → a ≡ version → b ≡ s.k → t ≤ a * b → n ≡ 0 → may_leave state version node ≡ true
may_leave_read s m cs ts vs state version node a b t n view in_ts read_t in_cs read_n is_a is_b low none =
    let touch : get_or ts node 0 ≡ t = sym (get_or_read ts node t in_ts read_t 0) in
    let count : get_or cs node 0 ≡ n = sym (get_or_read cs node n in_cs read_n 0) in
    let bound : a * b ≡ version * s.k = ap (λ k. k * b) is_a ∙ ap (λ k. version * k) is_b in
    ap (λ (st : SubtreeState). may_leave st version node) (sym view)
    ∙ leaves (state_of s m cs ts vs) version node (a * b) (omega arith) bound (count ∙ none)

replicate_zero : (n i : ℕ) → ◌≡◌ {A = ℕ} (get_or {A = ℕ} (replicate {A = ℕ} n 0) i 0) 0
replicate_zero zero i = refl
replicate_zero (suc n) zero = refl
replicate_zero (suc n) (suc i) = replicate_zero n i

at_most_one : (b : Bool) → cond b 1 0 ≤ 1
at_most_one true = omega arith
at_most_one false = omega arith

-- after the first fetch has begun there are few
pub few_begun : (s : Shape) (old mid new : SubtreeState) (leaf : ℕ) → old ≡ empty_subtree s → BeginsFetch old mid leaf → new.counts ≡ mid.counts → AreFew new.counts
few_begun s old mid new leaf start begun same = λ node.
    let none : count_at old node ≡ 0 = ap (λ (st : SubtreeState). count_at st node) start ∙ replicate_zero (2 ^ (s.l + 1)) node in
    let one = at_most_one (is_on_path old.shape.l leaf node) in
    let now : get_or new.counts node 0 ≡ get_or mid.counts node 0 = ap (λ (counts : List ℕ). get_or counts node 0) same in
    let then : get_or mid.counts node 0 ≡ count_at old node + cond (is_on_path old.shape.l leaf node) 1 0 = begun.counts node in
    omega arith
