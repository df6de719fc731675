-- Taking passes are made and joined, and at the end one becomes the putting pass too.
use Rattle.std.proofs.Common.{◌≡◌, ◌≢◌, ℕ, ◌+◌, ◌<◌, List, [], ◌∷◌, ◌++◌, length, set, refl, sym, ap, ◌∙◌, subst, true, false, true≢false, arith, ⊎_elim, length-append}
use mathlib.Core.Option.{some}
use lib.ListN.{get_elem?}
use Rattle.std.specs.List.{All, Contains}
use Rattle.std.proofs.lemmas.List.Elements.{All-append}
use Rattle.crossbeam_queue.specs.Fifo.{Forks, Merges}
use Rattle.crossbeam_queue.proofs.Lists.{at_set, at_snoc}
use Rattle.tao_orders.specs.Shares.{AreParts, half, other_half}
use Rattle.tao_orders.specs.Rule.{hand, InLine}
use Rattle.tao_orders.specs.declared.hand.Hand.{Hand}
use Rattle.tao_orders.specs.declared.work.Slip.{Slip}
use Rattle.tao_orders.proofs.OrderLemmas.{numbers-append}
use Rattle.tao_orders.proofs.ShareLemmas.{weight-append, halves}
use Rattle.tao_orders.proofs.ViewLemmas.{every, taken_set, taken_more, weights_set, weights_more}

-- a pass gives a part of its share to a new one, and keeps a part
abbrev keeping : Hand → List ℕ → Hand
keeping v share = hand v.puts v.put v.took share

abbrev newcomer : List ℕ → Hand
newcomer share = hand false [] [] share

-- a fact of each view, when one is added
each_more : (F : ℕ → Hand → Type 0) (views : List Hand) (new : Hand) → ((j : ℕ) → F j new) → ((j : ℕ) (u : Hand) → get_elem? views j ≡ some u → F j u) → (j : ℕ) (u : Hand) → get_elem? (views ++ new ∷ []) j ≡ some u → F j u
each_more F views new mine others j u e = ⊎_elim (λ (t : get_elem? views j ≡ some u). others j u t) (λ (t : new ≡ u). subst (F j) t (mine j)) (at_snoc views new u j e)

forks : (pass : ℕ) (v : Hand) (kept given : List ℕ) → AreParts v.share kept given → (kept ≡ [] → v.took ≡ []) → Forks InLine pass v (keeping v kept) (newcomer given)
forks pass v kept given parts owns items views r at =
    let left : Hand = keeping v kept in
    let right : Hand = newcomer given in record {
      sent = r.sent;
      gone = r.gone;
      seat = r.seat;
      least = r.least + parts.0;
      sent_is = r.sent_is;
      places = r.places;
      putter = each_more (λ j u. u.puts ≡ true → (j ≡ r.seat) × (u.put ≡ r.sent)) (set views pass left) right (λ j p. absurd (true≢false (sym p)))
          (every (λ j u. u.puts ≡ true → (j ≡ r.seat) × (u.put ≡ r.sent)) views pass left (r.putter pass v at) (λ j u off e. r.putter j u e));
      once = λ n. let s = taken_set n views pass v left at in let t = taken_more n (set views pass left) right in let o = r.once n in omega arith;
      as_put = each_more (λ j u. All (Contains r.gone) u.took) (set views pass left) right (λ j k d lt. absurd (omega arith))
          (every (λ j u. All (Contains r.gone) u.took) views pass left (r.as_put pass v at) (λ j u off e. r.as_put j u e));
      whole = λ n le. let s = weights_set n views pass v left at in let t = weights_more n (set views pass left) right in
          let o = r.whole n (omega arith) in let p = parts.1 n (omega arith) in omega arith;
      owned = each_more (λ j u. u.share ≡ [] → u.took ≡ []) (set views pass left) right (λ j e. refl)
          (every (λ j u. u.share ≡ [] → u.took ≡ []) views pass left owns (λ j u off e. r.owned j u e));
      in_order = r.in_order;
    }

pub opens : (pass : ℕ) (v : Hand) → v.took ≡ [] → Forks InLine pass v (keeping v []) (newcomer v.share)
opens pass v none = forks pass v [] v.share (0, λ n le. omega arith) (λ e. none)

pub splits : (pass : ℕ) (v : Hand) → 0 < length v.share → Forks InLine pass v (keeping v (other_half v.share)) (newcomer (half v.share))
splits pass v owns = forks pass v (other_half v.share) (half v.share) (halves v.share owns) (λ e. absurd (let z : length (other_half v.share) ≡ 0 = ap length e in omega arith))

pub split_shares : (v left right : Hand) → 0 < length v.share → left ≡ keeping v (other_half v.share) → right ≡ newcomer (half v.share) → AreParts v.share left.share right.share
split_shares v left right owns kept given = subst (λ (z : List ℕ × List ℕ). AreParts v.share z.0 z.1) (λ i. (sym (ap (λ (u : Hand). u.share) kept) i, sym (ap (λ (u : Hand). u.share) given) i)) (halves v.share owns)

-- what two passes took and their shares, for one that puts as u does
abbrev over : Hand → Hand → Hand → Hand
over u v w = hand u.puts u.put (v.took ++ w.took) (v.share ++ w.share)

module _ (items : List Slip) (views : List Hand) (r : InLine items views) (u : Hand) (pass : ℕ) (v : Hand) (at : get_elem? views pass ≡ some v)
    (other : ℕ) (w : Hand) (two : other ≢ pass) (at' : get_elem? (set views pass (over u v w)) other ≡ some w) where
  abbrev joined : List Hand
  joined = set (set views pass (over u v w)) other (newcomer [])

  was : get_elem? views other ≡ some w
  was = ⊎_elim (λ (x : (other ≡ pass) × (over u v w ≡ w)). absurd (two x.0)) (λ (x : (other ≢ pass) × (get_elem? views other ≡ some w)). x.1) (at_set views pass other (over u v w) w at')

  each : (F : ℕ → Hand → Type 0) → F pass (over u v w) → F other (newcomer []) → ((j : ℕ) (z : Hand) → j ≢ other → get_elem? views j ≡ some z → F j z)
      → (j : ℕ) (z : Hand) → get_elem? joined j ≡ some z → F j z
  each F mine spent others = every F (set views pass (over u v w)) other (newcomer []) spent
      (λ j z off e. every (λ i y. i ≢ other → F i y) views pass (over u v w) (λ _. mine) (λ i y away e' off'. others i y off' e') j z e off)

  joins : 0 < length v.share → (seat : ℕ) → ((j : ℕ) (z : Hand) → get_elem? joined j ≡ some z → z.puts ≡ true → (j ≡ seat) × (z.put ≡ r.sent)) → InLine items joined
  joins owns seat putter = record {
    sent = r.sent;
    gone = r.gone;
    seat = seat;
    least = r.least;
    sent_is = r.sent_is;
    places = r.places;
    putter = putter;
    once = λ n. let s = taken_set n views pass v (over u v w) at in let t = taken_set n (set views pass (over u v w)) other w (newcomer []) at' in
        let a = numbers-append n v.took w.took in let o = r.once n in omega arith;
    as_put = each (λ j z. All (Contains r.gone) z.took) (All-append (Contains r.gone) v.took w.took (r.as_put pass v at) (r.as_put other w was))
        (λ k d lt. absurd (omega arith)) (λ j z off e. r.as_put j z e);
    whole = λ n le. let s = weights_set n views pass v (over u v w) at in let t = weights_set n (set views pass (over u v w)) other w (newcomer []) at' in
        let a = weight-append n v.share w.share in let o = r.whole n le in omega arith;
    owned = each (λ j z. z.share ≡ [] → z.took ≡ []) (λ e. absurd (let z : length (v.share ++ w.share) ≡ 0 = ap length e in let l = length-append v.share w.share in omega arith))
        (λ e. refl) (λ j z off e. r.owned j z e);
    in_order = r.in_order;
  }

pub merges : (pass : ℕ) (v : Hand) (other : ℕ) (w : Hand) → 0 < length v.share → Merges InLine pass v other w (over v v w) (newcomer [])
merges pass v other w owns items views r at two at' = joins items views r v pass v at other w two at' owns r.seat
    (each items views r v pass v at other w two at' (λ j z. z.puts ≡ true → (j ≡ r.seat) × (z.put ≡ r.sent)) (r.putter pass v at) (λ p. absurd (true≢false (sym p))) (λ j z off e. r.putter j z e))

pub ends : (pass : ℕ) (v : Hand) (other : ℕ) (w : Hand) → 0 < length v.share → w.puts ≡ true → Merges InLine pass v other w (over w v w) (newcomer [])
ends pass v other w owns may items views r at two at' =
    let theirs = r.putter other w (was items views r w pass v at other w two at') may in
    joins items views r w pass v at other w two at' owns pass
    (each items views r w pass v at other w two at' (λ j z. z.puts ≡ true → (j ≡ pass) × (z.put ≡ r.sent)) (λ p. (refl, theirs.1)) (λ p. absurd (true≢false (sym p)))
    (λ j z off e p. absurd (off ((r.putter j z e p).0 ∙ sym theirs.0))))
