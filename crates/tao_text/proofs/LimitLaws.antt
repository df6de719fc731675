-- What is within the parameters, and the fault of what isn't.
use Rattle.std.proofs.Common.{◌≡◌, ◌≢◌, ◌==◌, ◌⊎◌, inl, inr, ⊎_elim, ℕ, ◌*◌, ◌%◌, ◌^◌, ◌<◌, ◌≤◌, ◌&&◌, ◌||◌, Bool, true, false, cond, nat_le, nat_lt, length, Some, None, Result, Ok, Err, refl, subst, arith, ltb-false, leb-false}
use Rattle.std.proofs.lemmas.Bool.{and_parts, and_cases, cases_eq, or_parts, eqb-true, eq-eqb, ltb-true, leb-true}
use Rattle.tao_base.specs.Limits.{Shape, IsShape, in_form, shape, shape_of, tree_len}
use Rattle.tao_base.specs.Tree.{node_count}
use Rattle.tao_base.specs.declared.calls.Op.{Op}
use Rattle.tao_base.specs.declared.parameters.Form.{Form}
use Rattle.tao_base.specs.declared.parameters.Form.TheVariants.{One}
use Rattle.tao_base.specs.declared.parameters.ParamFault.TheVariants.{Height, BucketSize, BlockSize, Count, Period, TreeTooLarge}
use Rattle.tao_base.specs.declared.storage.Entry.{Entry}
use Rattle.tao_text.specs.declared.faults.TextKind.{TextKind}
use Rattle.tao_text.specs.declared.script.What.{What}
use Rattle.tao_text.specs.Breaks.{HasOtherLength, IsOutOfRange, OpIsOutOfRange, StepHasOtherLength, StepIsOutOfRange}
use Rattle.tao_text.specs.Forms.{◌>>=◌}
use Rattle.tao_text.specs.Limits.{call_fits, entry_fits, op_fits, step_fits}
use Rattle.tao_text.specs.Texts.{IsCallOf, IsEntryOf, IsOpOf, IsStepOf}

-- the parameters

-- if a value was given, the test for a fault was false
kept : {A E : Type 0} (test : Bool) (rest : Result A E) (e : E) (x : A) → cond test (Err e) rest ≡ Ok x → (test ≡ false) × (rest ≡ Ok x)
kept true rest e x h = cc h
kept false rest e x h = (refl, h)

same_ok : {A E : Type 0} (x y : A) → ◌≡◌ {A = Result A E} (Ok x) (Ok y) → x ≡ y
same_ok x y h = cc h

at_most : (a b : ℕ) → nat_lt a b ≡ false → b ≤ a
at_most a b h = ltb-false a b h

made : (l z b n k : ℕ) (s : Shape) → shape_of l z b n k ≡ Ok s → IsShape (shape l z b n k One) × (shape l z b n k One ≡ s)
made l z b n k s h =
    let height = kept (nat_lt l 1 || nat_lt 16 l) _ Height s h in
    let bucket = kept (nat_lt z 1 || nat_lt 8 z) _ BucketSize s height.1 in
    let block = kept (nat_lt b 4 || nat_lt 4096 b || nat_lt 0 (b % 4)) _ BlockSize s bucket.1 in
    let count = kept (nat_lt n 1 || nat_lt (z * 2 ^ l) n) _ Count s block.1 in
    let period = kept (nat_lt k 1 || nat_lt 64 k) _ Period s count.1 in
    let tree = kept (nat_lt (2 ^ 29) (tree_len (shape l z b n k One))) (Ok (shape l z b n k One)) TreeTooLarge s period.1 in
    let height = or_parts (nat_lt l 1) (nat_lt 16 l) height.0 in
    let bucket = or_parts (nat_lt z 1) (nat_lt 8 z) bucket.0 in
    let block = or_parts (nat_lt b 4 || nat_lt 4096 b) (nat_lt 0 (b % 4)) block.0 in
    let bytes = or_parts (nat_lt b 4) (nat_lt 4096 b) block.0 in
    let count = or_parts (nat_lt n 1) (nat_lt (z * 2 ^ l) n) count.0 in
    let period = or_parts (nat_lt k 1) (nat_lt 64 k) period.0 in
    let none : b % 4 ≤ 0 = at_most 0 (b % 4) block.1 in (
      record {
        height_low = at_most l 1 height.0;
        height_high = at_most 16 l height.1;
        bucket_low = at_most z 1 bucket.0;
        bucket_high = at_most 8 z bucket.1;
        block_low = at_most b 4 bytes.0;
        block_high = at_most 4096 b bytes.1;
        block_words = omega arith;
        count_low = at_most n 1 count.0;
        count_high = at_most (z * 2 ^ l) n count.1;
        period_low = at_most k 1 period.0;
        period_high = at_most 64 k period.1;
        tree = at_most (2 ^ 29) (tree_len (shape l z b n k One)) tree.0;
      },
      same_ok (shape l z b n k One) s tree.1,
    )

-- accepted parameters are within all limits
pub shape_keeps : (l z b n k : ℕ) (s : Shape) → shape_of l z b n k ≡ Ok s → IsShape s
shape_keeps l z b n k s h = let is = made l z b n k s h in subst IsShape is.1 is.0

-- and in another form, if the tree isn't too large
pub form_keeps : (s : Shape) (form : Form) → IsShape s → nat_lt (2 ^ 29) (tree_len (in_form s form)) ≡ false → IsShape (in_form s form)
form_keeps s form is h =
    record {
      height_low = is.height_low;
      height_high = is.height_high;
      bucket_low = is.bucket_low;
      bucket_high = is.bucket_high;
      block_low = is.block_low;
      block_high = is.block_high;
      block_words = is.block_words;
      count_low = is.count_low;
      count_high = is.count_high;
      period_low = is.period_low;
      period_high = is.period_high;
      tree = at_most (2 ^ 29) (tree_len (in_form s form)) h;
    }

-- entries and steps

-- what fits has neither fault; anything else has the one that is given, Length before Range
abbrev pub Fits : Type 0 → Type 0 → Result Unit TextKind → Type 0
Fits HasLength HasRange (Ok done) = (¬ HasLength) × (¬ HasRange)
Fits HasLength HasRange (Err TextKind.Length) = HasLength
Fits HasLength HasRange (Err TextKind.Range) = (¬ HasLength) × HasRange
Fits HasLength HasRange (Err kind) = ⊥

in_range : (HasLength HasRange : Type 0) (test : Bool) → (¬ HasLength) → (test ≡ true → ¬ HasRange) → (test ≡ false → HasRange) → Fits HasLength HasRange (cond test (Ok tt) (Err TextKind.Range))
in_range HasLength HasRange true none held failed = (none, held refl)
in_range HasLength HasRange false none held failed = (none, failed refl)

as_long : (HasLength HasRange : Type 0) (test : Bool) (rest : Result Unit TextKind) → (test ≡ true → Fits HasLength HasRange rest) → (test ≡ false → HasLength) → Fits HasLength HasRange (cond test rest (Err TextKind.Length))
as_long HasLength HasRange true rest held failed = held refl
as_long HasLength HasRange false rest held failed = failed refl

other : (m n : ℕ) → (m == n) ≡ false → m ≢ n
other m n h same = let held = eq-eqb m n same in absurd (cc (held, h))

equal : (m n : ℕ) → (m == n) ≡ true → ¬ (m ≢ n)
equal m n h failed = failed (eqb-true m n h)

above : (m n : ℕ) → nat_le m n ≡ false → n < m
above m n h = leb-false m n h

pub entry_judged : (s : Shape) (entry : Entry) → Fits (length entry.value ≢ s.b) (s.n ≤ entry.id) (entry_fits s entry)
unfolding entry_fits
entry_judged s entry =
    as_long (length entry.value ≢ s.b) (s.n ≤ entry.id) (length entry.value == s.b) (cond (nat_lt entry.id s.n) (Ok tt) (Err TextKind.Range))
    (λ long. in_range (length entry.value ≢ s.b) (s.n ≤ entry.id) (nat_lt entry.id s.n) (equal (length entry.value) s.b long)
    (λ held past. let below = ltb-true entry.id s.n held in omega arith)
    (λ failed. at_most entry.id s.n failed))
    (λ failed. other (length entry.value) s.b failed)

pub op_judged : (s : Shape) (op : Op) → Fits (HasOtherLength s op) (OpIsOutOfRange s op) (op_fits s op)
unfolding op_fits
op_judged s (Op.Read id) = in_range ⊥ (s.n ≤ id) (nat_lt id s.n) (λ failed. failed) (λ held past. let below = ltb-true id s.n held in omega arith) (λ failed. at_most id s.n failed)
op_judged s (Op.Write id value) =
    as_long (length value ≢ s.b) (s.n ≤ id) (length value == s.b) (cond (nat_lt id s.n) (Ok tt) (Err TextKind.Range))
    (λ long. in_range (length value ≢ s.b) (s.n ≤ id) (nat_lt id s.n) (equal (length value) s.b long)
    (λ held past. let below = ltb-true id s.n held in omega arith)
    (λ failed. at_most id s.n failed))
    (λ failed. other (length value) s.b failed)
op_judged s Op.Pad = (λ failed. failed, λ failed. failed)

with_client : (HasLength HasRange : Type 0) (client : ℕ) (r : Result Unit TextKind) → Fits HasLength HasRange r → Fits HasLength ((63 < client) ⊎ HasRange) (r >>= λ fits. cond (nat_le client 63) (Ok tt) (Err TextKind.Range))
with_client HasLength HasRange client (Ok done) fits =
    in_range HasLength ((63 < client) ⊎ HasRange) (nat_le client 63) fits.0
    (λ held past. ⊎_elim (λ high. let p = leb-true client 63 held in absurd (omega arith)) fits.1 past)
    (λ failed. inl (above client 63 failed))
with_client HasLength HasRange client (Err TextKind.NotText) none = absurd none
with_client HasLength HasRange client (Err TextKind.Word) none = absurd none
with_client HasLength HasRange client (Err TextKind.Number) none = absurd none
with_client HasLength HasRange client (Err TextKind.Hex) none = absurd none
with_client HasLength HasRange client (Err TextKind.Length) has = has
with_client HasLength HasRange client (Err TextKind.Range) has = (has.0, inr has.1)
with_client HasLength HasRange client (Err TextKind.Order) none = absurd none
with_client HasLength HasRange client (Err TextKind.TapeShort) none = absurd none
with_client HasLength HasRange client (Err TextKind.TooLong) none = absurd none
with_client HasLength HasRange client (Err TextKind.Memory) none = absurd none

pub call_judged : (s : Shape) (client : ℕ) (op : Op) → Fits (HasOtherLength s op) (IsOutOfRange s client op) (call_fits s client op)
unfolding call_fits
call_judged s client op = with_client (HasOtherLength s op) (OpIsOutOfRange s op) client (op_fits s op) (op_judged s op)

a_node : (node count : ℕ) → (nat_le 1 node && nat_le node count) ≡ true → ¬ ((node ≡ 0) ⊎ (count < node))
a_node node count h (inl none) = let p = leb-true 1 node (and_parts (nat_le 1 node) (nat_le node count) h).0 in omega arith
a_node node count h (inr past) = let p = leb-true node count (and_parts (nat_le 1 node) (nat_le node count) h).1 in omega arith

no_node : (node count : ℕ) → (nat_le 1 node && nat_le node count) ≡ false → (node ≡ 0) ⊎ (count < node)
no_node node count h =
    elim (and_cases (nat_le 1 node) (nat_le node count) h) [
      | inl failed ↦ let p = above 1 node failed in inl (omega arith)
      | inr failed ↦ inr (above node count failed)
    ]

pub step_judged : (s : Shape) (what : What) → Fits (StepHasOtherLength s what) (StepIsOutOfRange s what) (step_fits s what)
unfolding step_fits
step_judged s (What.Do client op) = call_judged s client op
step_judged s (What.A client op) = call_judged s client op
step_judged s (What.Read fetch None) = (λ failed. failed, λ failed. failed)
step_judged s (What.Read fetch (Some depth)) = in_range ⊥ (s.l < depth) (nat_le depth s.l) (λ failed. failed) (λ held past. let p = leb-true depth s.l held in omega arith) (λ failed. above depth s.l failed)
step_judged s (What.Done fetch) = (λ failed. failed, λ failed. failed)
step_judged s (What.Put version None) = (λ failed. failed, λ failed. failed)
step_judged s (What.Put version (Some node)) = in_range ⊥ ((node ≡ 0) ⊎ (node_count s.l < node)) (nat_le 1 node && nat_le node (node_count s.l)) (λ failed. failed) (a_node node (node_count s.l)) (no_node node (node_count s.l))
step_judged s (What.Ack version) = (λ failed. failed, λ failed. failed)

-- what has no fault is within the parameters

same_number : (m n : ℕ) → ¬ (m ≢ n) → m ≡ n
same_number m n h =
    elim (cases_eq m n) [
      | inl same ↦ same
      | inr differ ↦ absurd (h differ)
    ]

pub entry_within : (s : Shape) (entry : Entry) → ¬ (length entry.value ≢ s.b) → ¬ (s.n ≤ entry.id) → IsEntryOf s entry
entry_within s entry long known = (same_number (length entry.value) s.b long, omega arith)

call_within : (s : Shape) (client : ℕ) (op : Op) → ¬ HasOtherLength s op → ¬ IsOutOfRange s client op → IsCallOf s client op
call_within s client (Op.Read id) long known =
    let few : ¬ (63 < client) = λ past. known (inl past) in
    let low : ¬ (s.n ≤ id) = λ past. known (inr past) in
    (omega arith, omega arith)
call_within s client (Op.Write id value) long known =
    let few : ¬ (63 < client) = λ past. known (inl past) in
    let low : ¬ (s.n ≤ id) = λ past. known (inr past) in
    (same_number (length value) s.b long, omega arith, omega arith)
call_within s client Op.Pad long known = let few : ¬ (63 < client) = λ past. known (inl past) in omega arith

pub op_within : (s : Shape) (op : Op) → ¬ HasOtherLength s op → ¬ OpIsOutOfRange s op → IsOpOf s op
op_within s (Op.Read id) long known = omega arith
op_within s (Op.Write id value) long known = (same_number (length value) s.b long, omega arith)
op_within s Op.Pad long known = tt

pub step_within : (s : Shape) (what : What) → ¬ StepHasOtherLength s what → ¬ StepIsOutOfRange s what → IsStepOf s what
step_within s (What.Do client op) long known = call_within s client op long known
step_within s (What.A client op) long known = call_within s client op long known
step_within s (What.Read fetch None) long known = tt
step_within s (What.Read fetch (Some depth)) long known = omega arith
step_within s (What.Done fetch) long known = tt
step_within s (What.Put version None) long known = tt
step_within s (What.Put version (Some node)) long known =
    let some : ¬ (node ≡ 0) = λ none. known (inl none) in
    let low : ¬ (node_count s.l < node) = λ past. known (inr past) in
    (omega arith, omega arith)
step_within s (What.Ack version) long known = tt
