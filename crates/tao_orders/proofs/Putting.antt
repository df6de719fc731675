-- A piece of work is appended.
use Rattle.std.proofs.Common.{◌≡◌, ℕ, zero, suc, ◌+◌, List, [], ◌∷◌, ◌++◌, length, refl, sym, ap, ◌∙◌, subst, true, arith, append_assoc, length-append}
use Rattle.std.specs.List.{All, Contains, range_with_len}
use Rattle.std.proofs.lemmas.List.{map-append, length-map}
use Rattle.crossbeam_queue.specs.Fifo.{Pushes, Learns}
use Rattle.tao_orders.specs.Works.{MayPut}
use Rattle.tao_orders.specs.Rule.{hand, works, InLine, DidPut, HoldsLast}
use Rattle.tao_orders.specs.declared.hand.Hand.{Hand}
use Rattle.tao_orders.specs.declared.work.Slip.{Slip}
use Rattle.tao_orders.specs.declared.work.Work.{Work}
use Rattle.tao_orders.proofs.OrderLemmas.{one_more}
use Rattle.tao_orders.proofs.ViewLemmas.{every, taken_set, weights_set}

range_more : (from n last : ℕ) → from + n ≡ last → range_with_len from n ++ last ∷ [] ≡ range_with_len from (n + 1)
range_more from zero last e = ap (λ (k : ℕ). k ∷ []) (omega arith)
range_more from (suc n) last e = ap (λ l. from ∷ l) (range_more (from + 1) n last (omega arith)) ∙ ap (range_with_len from) (let h : suc (n + 1) ≡ suc n + 1 = omega arith in h)

pub puts : (n pass : ℕ) (v : Hand) (x : Slip) → v.puts ≡ true → x.number ≡ length v.put → MayPut v.put x.work → Pushes InLine n pass v x (DidPut v x)
puts n pass v x may place order items views room r at =
    let w : Hand = hand v.puts (v.put ++ x.work ∷ []) v.took v.share in
    let own = r.putter pass v at may in
    let len : length r.sent ≡ length r.gone + length items = ap length r.sent_is ∙ (length-append r.gone (works items) ∙ ap (λ (k : ℕ). length r.gone + k) (length-map items (λ (s : Slip). s.work))) in
    let here : x.number ≡ length r.sent = place ∙ ap length own.1 in
    let more : length (items ++ x ∷ []) ≡ length items + 1 = length-append items (x ∷ []) in (
      w,
      record {
        sent = r.sent ++ x.work ∷ [];
        gone = r.gone;
        seat = r.seat;
        least = r.least;
        sent_is = ap (λ l. l ++ x.work ∷ []) r.sent_is ∙ (append_assoc r.gone (works items) (x.work ∷ []) ∙ ap (λ l. r.gone ++ l) (sym (map-append (λ (s : Slip). s.work) items (x ∷ []))));
        places = map-append (λ (s : Slip). s.number) items (x ∷ []) ∙ (ap (λ l. l ++ x.number ∷ []) r.places
            ∙ (range_more (length r.gone) (length items) x.number (omega arith) ∙ ap (range_with_len (length r.gone)) (sym more)));
        putter = every (λ j u. u.puts ≡ true → (j ≡ r.seat) × (u.put ≡ r.sent ++ x.work ∷ [])) views pass w (λ _. (own.0, ap (λ l. l ++ x.work ∷ []) own.1))
            (λ j u off e p. absurd (off ((r.putter j u e p).0 ∙ sym own.0)));
        once = λ k. let s = taken_set k views pass v w at in let o = r.once k in omega arith;
        as_put = every (λ j u. All (Contains r.gone) u.took) views pass w (r.as_put pass v at) (λ j u off e. r.as_put j u e);
        whole = λ n le. let s = weights_set n views pass v w at in let o = r.whole n le in omega arith;
        owned = every (λ j u. u.share ≡ [] → u.took ≡ []) views pass w (r.owned pass v at) (λ j u off e. r.owned j u e);
        in_order = one_more r.sent x.work r.in_order (subst (λ (l : List Work). MayPut l x.work) own.1 order);
      },
      refl,
    )

-- the queue holds the last pieces that were put
pub last_held : (pass : ℕ) (v : Hand) → v.puts ≡ true → Learns InLine pass v (HoldsLast v.put)
last_held pass v may items views r at = (r.gone, (r.putter pass v at may).1 ∙ r.sent_is)
