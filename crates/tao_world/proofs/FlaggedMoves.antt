-- The moves of steps that read all buckets or put all nodes.
use Rattle.std.proofs.Common.{◌≡◌, ℕ, zero, suc, ◌+◌, ◌<◌, ◌≤◌, Bool, true, false, not, List, [], ◌∷◌, map, filter, length, get_or, refl, sym, ap, ap₂, ◌∙◌, subst, arith}
use Rattle.std.specs.List.{range_with_len}
use Rattle.tao_base.specs.Tree.{node_at, path}
use Rattle.tao_schedule.specs.Moves.{Serves, Applies, is_served, is_applied}
use Rattle.tao_schedule.specs.Steps.{moves_of}
use Rattle.tao_world.specs.State.{is_set_at}
use Rattle.tao_world.specs.Shows.{ShowsFetch, ShowsReading, ShowsStore, ShowsSending}
use Rattle.tao_world.specs.Steps.{FlagsTellMoves}
use Rattle.tao_world.proofs.PlacedSteps.{store_has_nodes}

-- what passes of an image of a range, by flags of the numbers
flagged : {X : Type 0} (move : ℕ → X) (node : ℕ → ℕ) (passed : ℕ → Bool) (set : ℕ → Bool) (a n : ℕ) → ((d : ℕ) → a ≤ d → d < a + n → set d ≡ passed (node d))
    → map move (filter (λ w. not (passed w)) (map node (range_with_len a n))) ≡ map (λ d. move (node d)) (filter (λ d. not (set d)) (range_with_len a n))
flagged move node passed set a zero flags = refl
flagged {X} move node passed set a (suc n) flags =
    first (passed (node a)) refl (flagged move node passed set (a + 1) n (λ d low high. flags d (omega arith) (omega arith)))
  where
    nodes : List ℕ
    nodes = map node (range_with_len (a + 1) n)

    first : (t : Bool) → passed (node a) ≡ t
        → map move (filter (λ w. not (passed w)) (map node (range_with_len (a + 1) n))) ≡ map (λ d. move (node d)) (filter (λ d. not (set d)) (range_with_len (a + 1) n))
        → map move (filter (λ w. not (passed w)) (node a ∷ map node (range_with_len (a + 1) n))) ≡ map (λ d. move (node d)) (filter (λ d. not (set d)) (a ∷ range_with_len (a + 1) n))
    first true e ih = rw (e, flags a (omega arith) (omega arith) ∙ e) ih
    first false e ih = rw (e, flags a (omega arith) (omega arith) ∙ e) (ap (λ l. move (node a) ∷ l) ih)

-- a list, by its places
by_places : (xs : List ℕ) (f : ℕ → ℕ) (a : ℕ) → ((j : ℕ) → j < length xs → f (a + j) ≡ get_or xs j 0) → map f (range_with_len a (length xs)) ≡ xs
by_places [] f a is = refl
by_places (x ∷ xs) f a is =
    let here : a ≡ a + 0 = omega arith in
    ap₂ (λ y (l : List ℕ). y ∷ l) (ap f here ∙ is 0 (omega arith))
    (by_places xs f (a + 1) (λ j low. let next : a + 1 + j ≡ a + suc j = omega arith in ap f next ∙ is (suc j) (omega arith)))

pub flags_tell_moves : FlagsTellMoves
unfolding moves_of
flags_tell_moves ms key h tree fetches stores shows = record {
  reads = λ i word reading found.
      let row : ShowsReading ms key h i reading = subst (ShowsFetch ms key h i) found (shows.reads.rows i) in
      let l = h.opening.shape.l in
      ap (λ leaf. map (Serves i) (filter (λ node. not (is_served ms i node)) (path l leaf))) (sym row.leaf)
      ∙ flagged (Serves i) (node_at l reading.leaf) (is_served ms i) (is_set_at reading.read) 0 (l + 1) (λ d low high. row.read d (omega arith));
  puts = λ v word sending found.
      let row : ShowsSending ms key h v sending = subst (ShowsStore ms key h v) found (shows.puts.rows v) in
      let nodes = sending.order.nodes in
      ap (λ ws. map (Applies v) (filter (λ node. not (is_applied ms v node)) ws))
      (store_has_nodes ms key h tree fetches stores v sending shows found
      ∙ sym (by_places nodes (λ j. get_or nodes j 0) 0 (λ j low. let same : 0 + j ≡ j = omega arith in ap (λ k. get_or nodes k 0) same)))
      ∙ flagged (Applies v) (λ j. get_or nodes j 0) (is_applied ms v) (is_set_at sending.put) 0 (length nodes) (λ j low high. row.put j (omega arith));
}
