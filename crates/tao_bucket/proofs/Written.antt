-- Slots that are written one after another.
use Rattle.std.proofs.Common.{◌≡◌, ℕ, ◌+◌, ◌-◌, ◌*◌, List, [], ◌++◌, length, take, drop, replicate, sym, ap, ap₂, ◌∙◌, arith}
use Rattle.std.specs.List.{flat_map}
use Rattle.std.proofs.Math.Nat.{mul-sub, mul_comm}
use Rattle.std.proofs.lemmas.List.{drop_all, append-nil, take_all, length-drop}
use Rattle.tao_base.specs.declared.storage.Entry.{Entry}
use Rattle.tao_bucket.specs.Encoding.{slot_of, slots_of}
use borrow.Rule.Slice.PartMut.{put_mid}

pub rest_of_slots : (z k w : ℕ) → z * w - k * w ≡ (z - k) * w
rest_of_slots z k w = sym (mul_comm (z - k) w ∙ mul-sub w z k ∙ ap₂ ◌-◌ (mul_comm w z) (mul_comm w k))

-- the slots of the entries, and zero bytes in the rest
pub slots_written : (z b w k : ℕ) (entries : List Entry) (slots zeros : List ℕ) → w ≡ 4 + b → k ≡ length entries → length slots ≡ z * (4 + b)
    → take (k * (4 + b)) slots ≡ flat_map slot_of (take k entries) → zeros ≡ replicate (length slots - k * w) 0
    → put_mid (k * w) (length slots - k * w) slots zeros ≡ slots_of z b entries
unfolding slots_of
slots_written z b w k entries slots zeros wide count len front rest =
    let behind : drop (length slots - k * w) (drop (k * w) slots) ≡ [] = drop_all (length slots - k * w) (drop (k * w) slots) (omega (arith, length-drop (k * w) slots)) in
    let first : take (k * w) slots ≡ flat_map slot_of entries =
    ap (λ n. take (k * n) slots) wide ∙ front ∙ ap (flat_map slot_of) (take_all k entries (omega arith))
    in
    let number : length slots - k * w ≡ (z - length entries) * (4 + b) =
    ap₂ (λ a n. a - k * n) len wide ∙ rest_of_slots z k (4 + b) ∙ ap (λ n. (z - n) * (4 + b)) count
    in
    ap₂ (λ (front rest : List ℕ). front ++ rest) first (ap (λ (end : List ℕ). zeros ++ end) behind ∙ append-nil zeros ∙ rest ∙ ap (λ n. replicate n 0) number)
