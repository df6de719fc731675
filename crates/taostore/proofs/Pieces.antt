-- One more of the pieces.
use Rattle.std.proofs.Common.{◌≡◌, ℕ, ◌+◌, ◌<◌, List, [], ◌∷◌, ◌++◌, length, take, drop, get_or, Option, Result, Ok, Err, OnErr, sym, ap, ◌∙◌, subst, append-nil}
use Rattle.std.specs.Borrow.{Bor}
use Rattle.std.proofs.lemmas.Grind.{flat_map-append}
use Rattle.std.proofs.lemmas.List.{take_more, take-append-drop}
use Rattle.tao_base.specs.Transfers.{PutsAll, PutsPart}
use Rattle.taostore.specs.Output.{joined}
use Rattle.tao_base.proofs.TransferLemmas.{part_then, part_of_more}

pub on_err : {T E : Type 0} (r : Result T E) (X : Type 0) → X → OnErr r X
on_err (Ok x) X h = tt
on_err (Err e) X h = h

joined-append : (front rest : List (Bor (List ℕ))) → joined (front ++ rest) ≡ joined front ++ joined rest
joined-append = flat_map-append (λ (piece : Bor (List ℕ)). piece.now)

joined_more : (pieces : List (Bor (List ℕ))) (i : ℕ) (other : Bor (List ℕ)) → i < length pieces → joined (take (i + 1) pieces) ≡ joined (take i pieces) ++ (get_or pieces i other).now
joined_more pieces i other within =
    ap joined (take_more pieces i other within) ∙ joined-append (take i pieces) (get_or pieces i other ∷ []) ∙ ap (λ l. joined (take i pieces) ++ l) (append-nil (get_or pieces i other).now)

module _ {K : Type 0} (put : K → Option (List ℕ)) (faults : K → ℕ) (a b c : K) (pieces : List (Bor (List ℕ))) (i : ℕ) (other : Bor (List ℕ)) (within : i < length pieces) where
  -- of the next piece not all was put
  pub piece_stopped : PutsAll put faults a b (joined (take i pieces)) → PutsPart put faults b c (get_or pieces i other).now → PutsPart put faults a c (joined pieces)
  piece_stopped before part =
      let first = subst (PutsPart put faults a c) (sym (joined_more pieces i other within)) (part_then put faults a b c (joined (take i pieces)) (get_or pieces i other).now before part) in
      let more = part_of_more put faults a c (joined (take (i + 1) pieces)) (joined (drop (i + 1) pieces)) first in
      subst (PutsPart put faults a c) (sym (joined-append (take (i + 1) pieces) (drop (i + 1) pieces)) ∙ ap joined (take-append-drop (i + 1) pieces)) more
