-- The oldest piece of work is taken.
use Rattle.std.proofs.Common.{◌≡◌, ℕ, suc, ◌+◌, ◌<◌, ◌≤◌, List, [], ◌∷◌, ◌++◌, map, length, set, drop, get_or, refl, sym, ap, ◌∙◌, subst, true, arith, append_assoc, length-append}
use mathlib.Core.Option.{some}
use lib.ListN.{get_elem?}
use Rattle.std.specs.List.{All, Contains, range_with_len}
use Rattle.std.proofs.lemmas.List.Elements.{All-append, Contains-append_left, Contains-push}
use Rattle.crossbeam_queue.specs.Fifo.{Pops, Learns}
use Rattle.crossbeam_queue.proofs.Lists.{set_here}
use Rattle.tao_orders.specs.Works.{IsInOrder, number_of, IsNumbered, IsPartOf, EachOnce, times}
use Rattle.tao_orders.specs.Rule.{works, after_taking, InLine, DidTake}
use Rattle.tao_orders.specs.declared.hand.Hand.{Hand}
use Rattle.tao_orders.specs.declared.work.Slip.{Slip}
use Rattle.tao_orders.specs.declared.work.Work.{Work}
use Rattle.tao_orders.proofs.OrderLemmas.{newer_than, fewer_times, numbers_more, once_in_order, one_all}
use Rattle.tao_orders.proofs.ShareLemmas.{alone}
use Rattle.tao_orders.proofs.ViewLemmas.{every, taken_set, weights_set, own_taken, below}

-- the rule after the first slip is gone
pub one_gone : (pass : ℕ) (v : Hand) (x : Slip) (items : List Slip) (views : List Hand) → 0 < length v.share → InLine (x ∷ items) views → get_elem? views pass ≡ some v
    → InLine items (set views pass (after_taking v x))
one_gone pass v x items views owns r at =
    let w : Hand = after_taking v x in
    let gone : List Work = r.gone ++ x.work ∷ [] in
    let kept : (u : Hand) → All (Contains r.gone) u.took → All (Contains gone) u.took = λ u all k d lt. Contains-append_left r.gone (x.work ∷ []) (get_or u.took k d) (all k d lt) in record {
      sent = r.sent;
      gone = gone;
      seat = r.seat;
      least = r.least;
      sent_is = r.sent_is ∙ sym (append_assoc r.gone (x.work ∷ []) (works items));
      places = ap (drop 1) r.places ∙ ap (λ (k : ℕ). range_with_len k (length items)) (sym (length-append r.gone (x.work ∷ [])));
      putter = every (λ j u. u.puts ≡ true → (j ≡ r.seat) × (u.put ≡ r.sent)) views pass w (r.putter pass v at) (λ j u off e. r.putter j u e);
      once = λ n. let s = taken_set n views pass v w at in let o = r.once n in
          let a = numbers_more n v.took x.work in
          let b = numbers_more n r.gone x.work in omega arith;
      as_put = every (λ j u. All (Contains gone) u.took) views pass w
          (All-append (Contains gone) v.took (x.work ∷ []) (kept v (r.as_put pass v at)) (one_all (Contains gone) x.work (Contains-push r.gone x.work)))
          (λ j u off e. kept u (r.as_put j u e));
      whole = λ n le. let s = weights_set n views pass v w at in let o = r.whole n le in omega arith;
      owned = every (λ j u. u.share ≡ [] → u.took ≡ []) views pass w (λ none. absurd (let z : length v.share ≡ 0 = ap length none in omega arith)) (λ j u off e. r.owned j u e);
      in_order = r.in_order;
    }

-- what a pass took, of what is gone
pub part_of : (pass : ℕ) (v : Hand) (items : List Slip) (views : List Hand) (r : InLine items views) → get_elem? views pass ≡ some v → IsPartOf r.gone v.took v.share
part_of pass v items views r at = record {
  as_put = r.as_put pass v at;
  among = λ n. let own = own_taken n views pass v at in let o = r.once n in omega arith;
  all = λ whole n. let m : ℕ = r.least + whole.0 in
      let mine = whole.1 m (omega arith) in
      let every_share = r.whole m (omega arith) in
      sym (alone m n views pass v at (omega arith) r.owned) ∙ r.once n;
}

-- what any pass took are versions that stand once in what is gone
pub each_once : (pass : ℕ) (v : Hand) → Learns InLine pass v (λ items. EachOnce (map number_of v.took))
each_once pass v items views r at n some_version =
    let own = own_taken n views pass v at in
    let o = r.once n in
    let f : times n (map number_of r.gone) ≤ times n (map number_of r.sent) = subst (λ (l : List Work). times n (map number_of r.gone) ≤ times n (map number_of l)) (sym r.sent_is) (fewer_times n r.gone (works items)) in
    let u = once_in_order r.sent r.in_order.1 n some_version in omega arith

numbered_at : (gone rest : List Work) (w : Work) → ((k : ℕ) (d : Work) → k < length (gone ++ w ∷ rest) → IsNumbered (get_or (gone ++ w ∷ rest) k d)) → IsNumbered w
numbered_at [] rest w all = all 0 w (omega arith)
numbered_at (x ∷ gone) rest w all = numbered_at gone rest w (λ k d lt. all (suc k) d (omega arith))

pub takes : (pass : ℕ) (v : Hand) → 0 < length v.share → Pops InLine pass v (DidTake v)
takes pass v owns x items views r at =
    let w : Hand = after_taking v x in
    let r' = one_gone pass v x items views owns r at in (
      w,
      r',
      (
        refl,
        numbered_at r.gone (works items) x.work (subst (λ (l : List Work). (k : ℕ) (d : Work) → k < length l → IsNumbered (get_or l k d)) r.sent_is r.in_order.0),
        (λ version n stands. let own = own_taken n views pass v at in let o = r.once n in
            newer_than r.gone (works items) x.work n (subst IsInOrder r.sent_is r.in_order) version (omega arith)),
        each_once pass w items (set views pass w) r' (set_here views pass w (below views pass v at)),
      ),
    )
