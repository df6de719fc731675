-- The putting pass takes what is left.
use Rattle.std.proofs.Common.{◌≡◌, ℕ, ◌+◌, ◌<◌, List, [], ◌∷◌, ◌++◌, length, take, drop, get_or, refl, sym, ap, ◌∙◌, subst, true, arith}
use Rattle.std.specs.Prelude.{Some, slice_get}
use Rattle.crossbeam_queue.specs.Fifo.{Pops, Learns, Held}
use Rattle.tao_orders.specs.Works.{IsPartOf, IsLeft}
use Rattle.tao_orders.specs.Rule.{works, after_taking, InLine, DidDrain, HoldsRest}
use Rattle.tao_orders.specs.declared.hand.Hand.{Hand}
use Rattle.tao_orders.specs.declared.work.Slip.{Slip}
use Rattle.tao_orders.specs.declared.work.Work.{Work}
use Rattle.tao_orders.proofs.OrderLemmas.{piece_at, front_is, piece_within, take_one, take_next, front_and_rest}
use Rattle.tao_orders.proofs.Taking.{one_gone, part_of}

pub drains : (pass : ℕ) (v : Hand) → v.puts ≡ true → 0 < length v.share → Pops InLine pass v (DidDrain v)
drains pass v may owns x items views r at =
    let put_is : v.put ≡ r.gone ++ x.work ∷ works items = (r.putter pass v at may).1 ∙ r.sent_is in
    let place : x.number ≡ length r.gone = ap (λ (l : List ℕ). get_or l 0 0) r.places in
    let before : r.gone ≡ take x.number v.put = sym (ap (λ (z : List Work × ℕ). take z.1 z.0) (λ k. (put_is k, place k)) ∙ front_is r.gone (x.work ∷ works items)) in (
      after_taking v x,
      one_gone pass v x items views owns r at,
      (
        refl,
        ap (λ (z : List Work × ℕ). slice_get z.0 z.1) (λ k. (put_is k, place k)) ∙ piece_at r.gone (works items) x.work,
        subst (λ (l : List Work). IsPartOf l v.took v.share) before (part_of pass v (x ∷ items) views r at),
      ),
    )

pub rest_held : (pass : ℕ) (v : Hand) → v.puts ≡ true → Learns InLine pass v (HoldsRest v)
rest_held pass v may items views r at = (r.gone, (r.putter pass v at may).1 ∙ r.sent_is, part_of pass v items views r at)

-- what is left, if it is the first piece that was taken and all after it
pub left_from : (v : Hand) (x : Slip) (w : Hand) (left : List Work) → DidDrain v x w → left ≡ drop x.number w.put → IsLeft v.put v.took v.share left
left_from v x w left did is = record {
  gone = take x.number v.put;
  suffix = front_and_rest v.put x.number ∙ ap (λ l. take x.number v.put ++ l) (sym (is ∙ ap (λ (u : Hand). drop x.number u.put) did.0));
  part = did.2;
}

pub left_none : (v : Hand) (left : List Work) → Held 0 (HoldsRest v) → left ≡ [] → IsLeft v.put v.took v.share left
left_none v left held none = record {
  gone = held.2.0;
  suffix = held.2.1 ∙ ap (λ l. held.2.0 ++ l) (no_works held.0 held.1 ∙ sym none);
  part = held.2.2;
}
  where
    no_works : (slips : List Slip) → length slips ≡ 0 → works slips ≡ []
    no_works [] e = refl
    no_works (x ∷ slips) e = absurd (omega arith)

pub first_from : (v : Hand) (x : Slip) (w : Hand) → DidDrain v x w → (x.number < length v.put) × (x.work ∷ [] ≡ take 1 (drop x.number w.put))
first_from v x w did = (piece_within v.put x.number x.work did.1, sym (ap (λ (u : Hand). take 1 (drop x.number u.put)) did.0 ∙ take_one v.put x.number x.work did.1))

-- one more piece after those that were taken
pub next_from : (v : Hand) (x : Slip) (w : Hand) (put left : List Work) (from : ℕ) → DidDrain v x w → v.put ≡ put → x.number ≡ from + length left → left ≡ take (length left) (drop from put)
    → (x.number < length put) × (left ++ x.work ∷ [] ≡ take (length left + 1) (drop from put))
next_from v x w put left from did same place so_far =
    let there : slice_get put (from + length left) ≡ Some x.work = sym (ap (λ (z : List Work × ℕ). slice_get z.0 z.1) (λ k. (same k, place k))) ∙ did.1 in
    let lt = piece_within put (from + length left) x.work there in
    (omega arith, ap (λ l. l ++ x.work ∷ []) so_far ∙ take_next put from (length left) x.work there)
