-- Buckets that are admitted.
use Rattle.std.proofs.Common.{◌≡◌, ℕ, suc, ◌+◌, ◌<◌, ◌≤◌, Bool, false, cond, List, [], ◌∷◌, ◌++◌, length, get_or, set, Option, Some, None, is_some, ap, ◌∙◌, subst, arith, append_assoc, All}
use Rattle.std.specs.Prelude.{count_by}
use Rattle.std.proofs.lemmas.List.{length-set}
use Rattle.std.proofs.lemmas.List.Sums.{count_by-le-length, sum_by-set}
use Rattle.std.proofs.lemmas.Nat.{pow_pos}
use Rattle.tao_base.specs.declared.storage.Bucket.{Bucket}
use Rattle.tao_base.specs.Tree.{node_count}
use Rattle.tao_subtree.specs.Residents.{SubtreeState, resident_at, resident_count, HasPlaces, KeepsRoom}
use Rattle.tao_holdings.specs.Lists.{with_taken, AreAway}

-- if a place is free, there are fewer residents than places
count_below : (nodes : List (Option Bucket)) (w : ℕ) (b : Bucket) → w < length nodes → is_some (get_or nodes w None) ≡ false → count_by is_some nodes < length nodes
count_below nodes w b within free =
    let more = sum_by-set (λ (x : Option Bucket). cond {A = ℕ} (is_some x) 1 0) nodes w (Some b) None within in
    let none : ◌≡◌ {A = ℕ} (cond {A = ℕ} (is_some (get_or nodes w None)) 1 0) 0 = ap (λ (x : Bool). cond {A = ℕ} x 1 0) free in
    let most = count_by-le-length is_some (set nodes w (Some b)) in
    let len = length-set nodes w (Some b) in
    omega arith

pub has_spare : (st : SubtreeState) (b : Bucket) → HasPlaces st → b.node ≤ node_count st.shape.l → is_some (resident_at st b.node) ≡ false
    → resident_count st + st.spare ≡ node_count st.shape.l + 1 → 1 ≤ st.spare
has_spare st b places high free room =
    let some = pow_pos (st.shape.l + 1) in
    let len = places.residents in
    let less = count_below st.residents b.node b (omega arith) free in
    omega arith

-- the buckets from some place on are admitted
pub record Taking (old new : SubtreeState) (all rest : List Bucket) : Type 0 where
  pub done : List Bucket
  pub split : all ≡ rest ++ done
  pub state : new ≡ record old { residents = with_taken old.residents done; spare = new.spare }
  pub kept : KeepsRoom old new

-- the node of the next one isn't resident
pub next_away : (nodes : List (Option Bucket)) (before : List Bucket) (b : Bucket) (done : List Bucket) → AreAway nodes (before ++ b ∷ done)
    → is_some (get_or (with_taken nodes done) b.node None) ≡ false
next_away nodes [] b done away = away.0
next_away nodes (x ∷ before) b done away = next_away nodes before b done away.1

pub split_more : (all rest rest' done : List Bucket) (b : Bucket) → all ≡ rest ++ done → rest ≡ rest' ++ b ∷ [] → all ≡ rest' ++ b ∷ done
split_more all rest rest' done b split popped = split ∙ ap (λ (bs : List Bucket). bs ++ done) popped ∙ append_assoc rest' (b ∷ []) done

pub taking_away : (old now : SubtreeState) (all rest rest' : List Bucket) (b : Bucket) → AreAway old.residents all → Taking old now all rest → rest ≡ rest' ++ b ∷ []
    → is_some (resident_at now b.node) ≡ false
taking_away old now all rest rest' b away t popped =
    ap (λ (st : SubtreeState). is_some (resident_at st b.node)) t.state
    ∙ next_away old.residents rest' b t.done (subst (AreAway old.residents) (split_more all rest rest' t.done b t.split popped) away)

-- the bucket that was popped is in the list
pub popped_in : (P : Bucket → Type 0) (old now : SubtreeState) (all rest rest' : List Bucket) (b : Bucket) → All P all → Taking old now all rest → rest ≡ rest' ++ b ∷ [] → P b
popped_in P old now all rest rest' b each t popped =
    at rest' (subst (All P) (split_more all rest rest' t.done b t.split popped) each)
  where
    at : (before : List Bucket) → All P (before ++ b ∷ t.done) → P b
    at [] h = h 0 b (omega arith)
    at (x ∷ before) h = at before (λ k d below. h (suc k) d (omega arith))
