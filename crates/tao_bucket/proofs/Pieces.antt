-- Slots one after another, taken apart.
use Rattle.std.proofs.Common.{◌≡◌, ℕ, zero, suc, ◌+◌, ◌-◌, ◌*◌, ◌<◌, ◌≤◌, List, [], ◌∷◌, ◌++◌, length, get_or, take, drop, replicate, sym, ap, ap₂, ◌∙◌, append_assoc, arith}
use Rattle.std.specs.List.{flat_map, AllByRecursion}
use Rattle.std.specs.Int.{w32, to_be_bytes}
use Rattle.std.proofs.lemmas.Nat.{mul-le}
use Rattle.std.proofs.lemmas.List.{take_at, drop_at, drop-drop, drop-take, take-take, take-append-drop, drop-replicate, take-replicate, length-append}
use Rattle.tao_base.specs.declared.storage.Entry.{Entry}
use Rattle.tao_bucket.specs.Encoding.{HasBlock, slot_of}
use Rattle.tao_bucket.specs.Reading.{slot_at}

abbrev pub zeros : ℕ → List ℕ
zeros n = replicate n 0

pub length_slot : (b : ℕ) (e : Entry) → HasBlock b e → length (slot_of e) ≡ 4 + b
length_slot b e h = length-append (to_be_bytes w32 (e.id + 1)) e.value ∙ ap (λ n. 4 + n) h

pub length_slots : (b : ℕ) (es : List Entry) → AllByRecursion (HasBlock b) es → length (flat_map slot_of es) ≡ length es * (4 + b)
length_slots b [] all = omega arith
length_slots b (e ∷ es) all =
    let count : length es * (4 + b) + (4 + b) ≡ suc (length es) * (4 + b) = omega arith in
    length-append (slot_of e) (flat_map slot_of es) ∙ ap₂ ◌+◌ (length_slot b e all.0) (length_slots b es all.1) ∙ omega arith

-- the first bytes, and those behind them
pub take_parts : (m n : ℕ) (xs : List ℕ) → take (m + n) xs ≡ take m xs ++ take n (drop m xs)
take_parts m n xs = sym (take-append-drop m (take (m + n) xs)) ∙ ap₂ (λ (front rest : List ℕ). front ++ rest) (take-take m (m + n) xs (omega arith)) (drop-take m n xs)

-- behind the first of some slots
pub slot_behind : (b : ℕ) (front rest : List ℕ) (k : ℕ) → length front ≡ 4 + b → slot_at b (front ++ rest) (suc k) ≡ slot_at b rest k
slot_behind b front rest k len =
    let place : suc k * (4 + b) ≡ 4 + b + k * (4 + b) = omega arith in
    ap (take (4 + b)) (ap (λ n. drop n (front ++ rest)) place ∙ sym (drop-drop (k * (4 + b)) (4 + b) (front ++ rest)) ∙ ap (drop (k * (4 + b))) (drop_at front rest (4 + b) len))

pub first_slot : (b : ℕ) (front rest : List ℕ) → length front ≡ 4 + b → slot_at b (front ++ rest) 0 ≡ front
first_slot b front rest len =
    let none : 0 * (4 + b) ≡ 0 = omega arith in
    ap (λ n. take (4 + b) (drop n (front ++ rest))) none ∙ take_at front rest (4 + b) len

-- the slot of an entry
pub entry_slot : (b : ℕ) (es : List Entry) (rest : List ℕ) (k : ℕ) (d : Entry) → AllByRecursion (HasBlock b) es → k < length es
    → slot_at b (flat_map slot_of es ++ rest) k ≡ slot_of (get_or es k d)
entry_slot b [] rest k d all h = absurd (omega arith)
entry_slot b (e ∷ es) rest zero d all h =
    ap (λ slots. slot_at b slots 0) (append_assoc (slot_of e) (flat_map slot_of es) rest) ∙ first_slot b (slot_of e) (flat_map slot_of es ++ rest) (length_slot b e all.0)
entry_slot b (e ∷ es) rest (suc k) d all h =
    ap (λ slots. slot_at b slots (suc k)) (append_assoc (slot_of e) (flat_map slot_of es) rest)
    ∙ slot_behind b (slot_of e) (flat_map slot_of es ++ rest) k (length_slot b e all.0)
    ∙ entry_slot b es rest k d all.1 (omega arith)

-- a slot behind those of the entries
pub zero_slot : (b : ℕ) (es : List Entry) (k j n : ℕ) → AllByRecursion (HasBlock b) es → k ≡ length es + j → j < n
    → slot_at b (flat_map slot_of es ++ zeros (n * (4 + b))) k ≡ zeros (4 + b)
zero_slot b es k j n all place within =
    let len = length_slots b es all in
    let at : k * (4 + b) ≡ length es * (4 + b) + j * (4 + b) = ap (λ m. m * (4 + b)) place ∙ omega arith in
    let enough : suc j * (4 + b) ≤ n * (4 + b) = mul-le (suc j) (4 + b) n (4 + b) (omega arith) (omega arith) in
    ap (take (4 + b))
    (ap (λ m. drop m (flat_map slot_of es ++ zeros (n * (4 + b)))) at
    ∙ sym (drop-drop (j * (4 + b)) (length es * (4 + b)) (flat_map slot_of es ++ zeros (n * (4 + b))))
    ∙ ap (drop (j * (4 + b))) (drop_at (flat_map slot_of es) (zeros (n * (4 + b))) (length es * (4 + b)) len)
    ∙ drop-replicate {X = ℕ} (j * (4 + b)) (n * (4 + b)) 0)
    ∙ take-replicate {X = ℕ} (4 + b) (n * (4 + b) - j * (4 + b)) 0 (omega arith)
