-- Fresh copy says that each block has exactly one entry.
use Rattle.std.proofs.Common.{◌≡◌, ℕ, zero, suc, ◌+◌, ◌<◌, ◌≤◌, true, cond, List, [], ◌∷◌, All, Option, Some, None, refl, sym, ap, ◌∙◌, arith, inl, inr, ◌⊎◌, nat_eq}
use Rattle.std.specs.List.{count_by, flat_map, range_with_len}
use Rattle.std.proofs.lemmas.Bool.{ne_eqb, eq-eqb, cases_eq, cases_lt}
use Rattle.std.proofs.lemmas.Option.{none-some, same_Some}
use Rattle.std.proofs.lemmas.List.Sums.{sum_by-cons, sum_by-append}
use Rattle.std.proofs.lemmas.List.Elements.{All-head, All-tail, All-weaker}
use Rattle.tao_base.specs.declared.storage.Entry.{Entry}
use Rattle.tao_base.specs.Tree.{node_count, is_on_path}
use Rattle.tao_base.specs.Buckets.{Rises}
use Rattle.tao_model.specs.Placement.{look}
use Rattle.tao_model.specs.FreshCopy.{OneCopy}
use Rattle.tao_model.proofs.RisingEntries.{look_low, look_here, look_on}
use Rattle.tao_model.proofs.PlacedEntries.{all_found}
use Rattle.tao_contents.specs.Counting.{entries_of, AreOfTree, HasOneEntry, FreshCopyCounts}

-- ---- one list

abbrev counted : ℕ → List Entry → ℕ
counted b entries = count_by (λ entry. nat_eq entry.id b) entries

counted_next : (b : ℕ) (e : Entry) (es : List Entry) → counted b (e ∷ es) ≡ cond (nat_eq e.id b) 1 0 + counted b es
counted_next b e es = sum_by-cons (λ entry. cond (nat_eq entry.id b) 1 0) e es

counted_here : (b : ℕ) (e : Entry) (es : List Entry) → e.id ≡ b → counted b (e ∷ es) ≡ 1 + counted b es
counted_here b e es here = counted_next b e es ∙ ap (λ t. cond t 1 0 + counted b es) (eq-eqb e.id b here)

counted_on : (b : ℕ) (e : Entry) (es : List Entry) → (e.id ≡ b → ⊥) → counted b (e ∷ es) ≡ 0 + counted b es
counted_on b e es on = counted_next b e es ∙ ap (λ t. cond t 1 0 + counted b es) (ne_eqb e.id b on)

-- a block that isn't found isn't counted
pub counted_none : (b : ℕ) (es : List Entry) → look b es ≡ None → counted b es ≡ 0
counted_none b [] none = refl
counted_none b (e ∷ es) none = either (cases_eq e.id b) (λ on. counted_none b es (sym (look_on e es b on) ∙ none))
  where
    either : (e.id ≡ b) ⊎ (e.id ≡ b → ⊥) → ((e.id ≡ b → ⊥) → counted b es ≡ 0) → counted b (e ∷ es) ≡ 0
    either (inl here) ih = absurd (none-some e.value (sym none ∙ look_here e es b here))
    either (inr on) ih = let next = counted_on b e es on in let rest = ih on in omega arith

-- a block found in a rising list is counted once
pub counted_found : (k b : ℕ) (es : List Entry) (x : List ℕ) → Rises k es → look b es ≡ Some x → counted b es ≡ 1
counted_found k b [] x r found = absurd (none-some x found)
counted_found k b (e ∷ es) x r found = either (cases_eq e.id b) (λ on. counted_found (e.id + 1) b es x r.1 (sym (look_on e es b on) ∙ found))
  where
    either : (e.id ≡ b) ⊎ (e.id ≡ b → ⊥) → ((e.id ≡ b → ⊥) → counted b es ≡ 1) → counted b (e ∷ es) ≡ 1
    either (inl here) ih =
        let next = counted_here b e es here in
        let rest = counted_none b es (look_low (e.id + 1) b es r.1 (omega arith)) in
        omega arith
    either (inr on) ih = let next = counted_on b e es on in let rest = ih on in omega arith

-- what holds of all entries of a block holds of the one found
all_look : (Q : List ℕ → Type 0) (b : ℕ) (es : List Entry) (x : List ℕ) → All (λ entry. entry.id ≡ b → Q entry.value) es → look b es ≡ Some x → Q x
all_look Q b [] x all found = absurd (none-some x found)
all_look Q b (e ∷ es) x all found = either (cases_eq e.id b)
    (λ on. all_look Q b es x (All-tail (λ entry. entry.id ≡ b → Q entry.value) e es all) (sym (look_on e es b on) ∙ found))
  where
    either : (e.id ≡ b) ⊎ (e.id ≡ b → ⊥) → ((e.id ≡ b → ⊥) → Q x) → Q x
    either (inl here) ih =
        let same : e.value ≡ x = same_Some e.value x (sym (look_here e es b here) ∙ found) in
        rw (← same) (All-head (λ entry. entry.id ≡ b → Q entry.value) e es all here)
    either (inr on) ih = ih on

-- ---- the lists of some nodes

entries_next : (contents : ℕ → List Entry) (w : ℕ) (ws : List ℕ) (b : ℕ) → entries_of contents (w ∷ ws) b ≡ counted b (contents w) + entries_of contents ws b
entries_next contents w ws b = sum_by-append (λ entry. cond (nat_eq entry.id b) 1 0) (contents w) (flat_map contents ws)

pub none_of : (contents : ℕ → List Entry) (b a n : ℕ) → ((w : ℕ) → a ≤ w → w < a + n → look b (contents w) ≡ None) → entries_of contents (range_with_len a n) b ≡ 0
none_of contents b a zero none = refl
none_of contents b a (suc n) none =
    let next = entries_next contents a (range_with_len (a + 1) n) b in
    let first = counted_none b (contents a) (none a (omega arith) (omega arith)) in
    let rest = none_of contents b (a + 1) n (λ w low high. none w (omega arith) (omega arith)) in
    omega arith

pub one_of : (contents : ℕ → List Entry) (b a n node : ℕ) (x : List ℕ) → ((w : ℕ) → Rises 0 (contents w)) → a ≤ node → node < a + n
    → look b (contents node) ≡ Some x → ((w : ℕ) → a ≤ w → w < a + n → (w ≡ node → ⊥) → look b (contents w) ≡ None) → entries_of contents (range_with_len a n) b ≡ 1
one_of contents b a zero node x rises low high there alone = absurd (omega arith)
one_of contents b a (suc n) node x rises low high there alone = either (cases_eq a node)
    (λ on. one_of contents b (a + 1) n node x rises (omega arith) (omega arith) there (λ w above below. alone w (omega arith) (omega arith)))
  where
    next : entries_of contents (a ∷ range_with_len (a + 1) n) b ≡ counted b (contents a) + entries_of contents (range_with_len (a + 1) n) b
    next = entries_next contents a (range_with_len (a + 1) n) b

    either : (a ≡ node) ⊎ (a ≡ node → ⊥) → ((a ≡ node → ⊥) → entries_of contents (range_with_len (a + 1) n) b ≡ 1)
        → entries_of contents (a ∷ range_with_len (a + 1) n) b ≡ 1
    either (inl here) ih =
        let all = next in
        let first = counted_found 0 b (contents a) x (rises a) (ap (λ w. look b (contents w)) here ∙ there) in
        let rest = none_of contents b (a + 1) n (λ w above below. alone w (omega arith) (omega arith) (λ same. omega arith)) in
        omega arith
    either (inr on) ih =
        let all = next in
        let first = counted_none b (contents a) (alone a (omega arith) (omega arith) on) in
        let rest = ih on in
        omega arith

-- whether found or not, in a rising list
abbrev FoundOrNot : ℕ → List Entry → Type 0
FoundOrNot b es = ((x : List ℕ) × (look b es ≡ Some x) × (counted b es ≡ 1)) ⊎ ((look b es ≡ None) × (counted b es ≡ 0))

found_or_not : (b : ℕ) (es : List Entry) → Rises 0 es → FoundOrNot b es
found_or_not b es r = either (look b es) refl
  where
    either : (o : Option (List ℕ)) → look b es ≡ o → FoundOrNot b es
    either None none = inr (none, counted_none b es none)
    either (Some x) found = inl (x, found, counted_found 0 b es x r found)

of_none : (contents : ℕ → List Entry) (b a n : ℕ) → ((w : ℕ) → Rises 0 (contents w)) → entries_of contents (range_with_len a n) b ≡ 0
    → (w : ℕ) → a ≤ w → w < a + n → look b (contents w) ≡ None
of_none contents b a zero rises count w low high = absurd (omega arith)
of_none contents b a (suc n) rises count w low high = either (found_or_not b (contents a) (rises a)) (cases_eq a w)
    (λ rest on. of_none contents b (a + 1) n rises rest w (omega arith) (omega arith))
  where
    next : entries_of contents (a ∷ range_with_len (a + 1) n) b ≡ counted b (contents a) + entries_of contents (range_with_len (a + 1) n) b
    next = entries_next contents a (range_with_len (a + 1) n) b

    either : FoundOrNot b (contents a) → (a ≡ w) ⊎ (a ≡ w → ⊥) → (entries_of contents (range_with_len (a + 1) n) b ≡ 0 → (a ≡ w → ⊥) → look b (contents w) ≡ None)
        → look b (contents w) ≡ None
    either (inl found) here ih = absurd (let all = next in let one = found.2 in omega arith)
    either (inr none) (inl here) ih = ap (λ v. look b (contents v)) (sym here) ∙ none.0
    either (inr none) (inr on) ih = ih (let all = next in let no_entry = none.1 in omega arith) on

-- the one node that has an entry of the block
record OneOf (contents : ℕ → List Entry) (b a n : ℕ) : Type 0 where
  node : ℕ
  value : List ℕ
  low : a ≤ node
  high : node < a + n
  there : look b (contents node) ≡ Some value
  alone : (w : ℕ) → a ≤ w → w < a + n → (w ≡ node → ⊥) → look b (contents w) ≡ None

of_one : (contents : ℕ → List Entry) (b a n : ℕ) → ((w : ℕ) → Rises 0 (contents w)) → entries_of contents (range_with_len a n) b ≡ 1 → OneOf contents b a n
of_one contents b a zero rises count = absurd (omega arith)
of_one contents b a (suc n) rises count = either (found_or_not b (contents a) (rises a)) (λ rest. of_one contents b (a + 1) n rises rest)
  where
    next : entries_of contents (a ∷ range_with_len (a + 1) n) b ≡ counted b (contents a) + entries_of contents (range_with_len (a + 1) n) b
    next = entries_next contents a (range_with_len (a + 1) n) b

    further : look b (contents a) ≡ None → OneOf contents b (a + 1) n → OneOf contents b a (suc n)
    further none rest = record {
      node = rest.node;
      value = rest.value;
      low = let low = rest.low in omega arith;
      high = let high = rest.high in omega arith;
      there = rest.there;
      alone = λ w above below other. here w above below other (cases_eq a w);
    }
      where
        here : (w : ℕ) → a ≤ w → w < a + suc n → (w ≡ rest.node → ⊥) → (a ≡ w) ⊎ (a ≡ w → ⊥) → look b (contents w) ≡ None
        here w above below other (inl first) = ap (λ v. look b (contents v)) (sym first) ∙ none
        here w above below other (inr on) = rest.alone w (omega arith) (omega arith) other

    either : FoundOrNot b (contents a) → (entries_of contents (range_with_len (a + 1) n) b ≡ 1 → OneOf contents b (a + 1) n) → OneOf contents b a (suc n)
    either (inl found) ih = record {
      node = a;
      value = found.0;
      low = omega arith;
      high = omega arith;
      there = found.1;
      alone = λ w low high other. of_none contents b (a + 1) n rises (let all = next in let one = found.2 in omega arith) w (omega arith) (omega arith);
    }
    either (inr none) ih = further none.0 (ih (let all = next in let no_entry = none.1 in omega arith))

-- ---- the law

past_tree : (l : ℕ) (contents : ℕ → List Entry) → AreOfTree l contents → (b w : ℕ) → node_count l < w → look b (contents w) ≡ None
past_tree l contents tree b w high = ap (look b) (tree.within w high)

to_count : (l leaf b : ℕ) (value : List ℕ) (contents : ℕ → List Entry) → AreOfTree l contents → OneCopy (is_on_path l leaf) value (λ w. look b (contents w)) → HasOneEntry l leaf b value contents
to_count l leaf b value contents tree one = record {
  count = one_of contents b 0 (node_count l + 1) one.node value tree.rises (omega arith) (within (cases_lt (node_count l) one.node)) one.there (λ w above below. one.alone w);
  valued = λ w. All-weaker (λ entry. look entry.id (contents w) ≡ Some entry.value) (λ entry. entry.id ≡ b → entry.value ≡ value)
      (λ entry found here. valued w entry.value (sym (ap (λ id. look id (contents w)) here) ∙ found) (cases_eq w one.node)) (contents w) (all_found 0 (contents w) (tree.rises w));
  placed = λ w node. All-weaker (λ entry. look entry.id (contents w) ≡ Some entry.value) (λ entry. entry.id ≡ b → is_on_path l leaf w ≡ true)
      (λ entry found here. placed w entry.value node (sym (ap (λ id. look id (contents w)) here) ∙ found) (cases_eq w one.node) one.lies) (contents w) (all_found 0 (contents w) (tree.rises w));
}
  where
    within : (node_count l < one.node) ⊎ (one.node ≤ node_count l) → one.node < 0 + (node_count l + 1)
    within (inl past) = absurd (none-some value (sym (past_tree l contents tree b one.node past) ∙ one.there))
    within (inr low) = omega arith

    valued : (w : ℕ) (x : List ℕ) → look b (contents w) ≡ Some x → (w ≡ one.node) ⊎ (w ≡ one.node → ⊥) → x ≡ value
    valued w x found (inl here) = same_Some x value (sym found ∙ ap (λ v. look b (contents v)) here ∙ one.there)
    valued w x found (inr other) = absurd (none-some x (sym (one.alone w other) ∙ found))

    placed : (w : ℕ) (x : List ℕ) → 0 < w → look b (contents w) ≡ Some x → (w ≡ one.node) ⊎ (w ≡ one.node → ⊥) → (one.node ≡ 0) ⊎ (is_on_path l leaf one.node ≡ true) → is_on_path l leaf w ≡ true
    placed w x node found (inl here) (inl stash) = absurd (omega arith)
    placed w x node found (inl here) (inr on) = ap (is_on_path l leaf) here ∙ on
    placed w x node found (inr other) lies = absurd (none-some x (sym (one.alone w other) ∙ found))

from_count : (l leaf b : ℕ) (value : List ℕ) (contents : ℕ → List Entry) → AreOfTree l contents → HasOneEntry l leaf b value contents → OneCopy (is_on_path l leaf) value (λ w. look b (contents w))
from_count l leaf b value contents tree has = record {
  node = one.node;
  lies = lies (cases_lt 0 one.node);
  there = one.there ∙ ap (λ x. Some x) (all_look (λ x. x ≡ value) b (contents one.node) one.value (has.valued one.node) one.there);
  alone = λ w other. alone w other (cases_lt (node_count l) w);
}
  where
    one : OneOf contents b 0 (node_count l + 1)
    one = of_one contents b 0 (node_count l + 1) tree.rises has.count

    lies : (0 < one.node) ⊎ (one.node ≤ 0) → (one.node ≡ 0) ⊎ (is_on_path l leaf one.node ≡ true)
    lies (inr stash) = inl (omega arith)
    lies (inl node) = inr (all_look (λ x. is_on_path l leaf one.node ≡ true) b (contents one.node) one.value (has.placed one.node node) one.there)

    alone : (w : ℕ) → (w ≡ one.node → ⊥) → (node_count l < w) ⊎ (w ≤ node_count l) → look b (contents w) ≡ None
    alone w other (inl past) = past_tree l contents tree b w past
    alone w other (inr low) = one.alone w (omega arith) (omega arith) other

pub fresh_copy_counts : FreshCopyCounts
fresh_copy_counts s leaf value contents tree = (
  λ fresh b below. to_count s.l (leaf b) b (value b) contents tree (fresh b below),
  λ has b below. from_count s.l (leaf b) b (value b) contents tree (has b below),
)
