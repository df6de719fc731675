-- The nodes of a store that weren't put are applied, one after another.
use Rattle.std.proofs.Common.{◌≡◌, ◌⊎◌, inl, inr, ℕ, ◌+◌, ◌<◌, Bool, true, false, not, cond, List, [], ◌∷◌, ◌++◌, length, set, reverse, Option, Some, None, is_some, slice_index, refl, sym, ap, ap₂, ◌∙◌, subst, arith, nat_eq}
use Rattle.std.proofs.lemmas.Bool.{cases_eq, eq-eqb, ne_eqb}
use Rattle.std.proofs.lemmas.List.{length-set, get_or-set_same}
use Rattle.tao_base.specs.declared.storage.Order.{Order}
use Rattle.tao_schedule.specs.Moves.{Move, Applies}
use Rattle.tao_world.specs.Changes.{with_put}
use Rattle.tao_world.specs.Moving.{sending_of, store_at, with_applied, apply_move, applies_below, HasPut, HasPutBelow}
use Rattle.tao_world.specs.State.{Sending, is_set_at, row_at}
use Rattle.tao_world.specs.World.{WorldState, RoomState, IsLeftBy, IsWorld}
use Rattle.tao_world.proofs.MoveLists.{moves_more}
use Rattle.tao_world.proofs.StoreMoves.{found_store, has_row, store_row}
use Rattle.tao_world.proofs.Tables.{some_within, flag_set}

-- what a test of its flag tells
pub flag_there : (w now : WorldState) (v j : ℕ) (lent : List (Option Sending)) (result flag : Bool) → lent ≡ w.stores → w ≡ now → result ≡ is_set_at (sending_of (row_at lent v)).put j → result ≡ flag
    → is_set_at (store_at now v).put j ≡ flag
flag_there w now v j lent result flag same is tells was =
    ap (λ (x : WorldState). is_set_at (store_at x v).put j) (sym is) ∙ ap (λ (rows : List (Option Sending)). is_set_at (sending_of (row_at rows v)).put j) (sym same) ∙ sym tells ∙ was

-- ---- one node

pub no_move : (w : WorldState) (v j : ℕ) (ms : List Move) → is_set_at (store_at w v).put j ≡ true → IsLeftBy ms w → IsLeftBy (apply_move w v j ++ ms) w
no_move w v j ms put left =
    subst (λ (more : List Move). IsLeftBy (more ++ ms) w) (sym (ap (λ t. cond (not t) (Applies v (slice_index (store_at w v).order.nodes j) ∷ []) []) put)) left

pub one_move : (w new : WorldState) (v j : ℕ) (ms : List Move) → is_set_at (store_at w v).put j ≡ false → IsLeftBy (Applies v (slice_index (store_at w v).order.nodes j) ∷ ms) new
    → IsLeftBy (apply_move w v j ++ ms) new
one_move w new v j ms unput left =
    subst (λ (more : List Move). IsLeftBy (more ++ ms) new) (sym (ap (λ t. cond (not t) (Applies v (slice_index (store_at w v).order.nodes j) ∷ []) []) unput)) left

-- it was put
pub already_put : (w : WorldState) (v j : ℕ) → j < length (store_at w v).order.nodes → is_set_at (store_at w v).put j ≡ true → HasPut v j w w
already_put w v j within put = record {
  there = has_row (row_at w.stores v) j within;
  order = refl;
  flags = λ e. either e (cases_eq j e);
  flag_count = refl;
  desk = refl;
  fetches = refl;
}
  where
    either : (e : ℕ) → (j ≡ e) ⊎ (j ≡ e → ⊥) → is_set_at (store_at w v).put e ≡ cond (nat_eq j e) true (is_set_at (store_at w v).put e)
    either e (inl same) = ap (is_set_at (store_at w v).put) (sym same) ∙ put ∙ sym (ap (λ t. cond t true (is_set_at (store_at w v).put e)) (eq-eqb j e same))
    either e (inr other) = sym (ap (λ t. cond t true (is_set_at (store_at w v).put e)) (ne_eqb j e other))

-- it is put
pub now_put : (w : WorldState) (v j : ℕ) → j < length (store_at w v).order.nodes → length (store_at w v).put ≡ length (store_at w v).order.nodes → HasPut v j w (with_applied w v j)
unfolding with_applied
now_put w v j within count =
    let there = has_row (row_at w.stores v) j within in
    let low = some_within w.stores v (store_at w v) (found_store (row_at w.stores v) there) in
    let row : row_at (set w.stores v (Some (with_put (store_at w v) j))) v ≡ Some (with_put (store_at w v) j) = get_or-set_same w.stores v (Some (with_put (store_at w v) j)) None low in
    record {
      there = ap is_some row;
      order = ap (λ r. (sending_of r).order) row;
      flags = λ e. ap (λ r. is_set_at (sending_of r).put e) row ∙ flag_set (store_at w v).put j e (omega arith);
      flag_count = ap (λ r. length (sending_of r).put) row ∙ length-set (store_at w v).put j true;
      desk = refl;
      fetches = refl;
    }

-- ---- all nodes

pub none_put : (w : WorldState) (spare : RoomState) (v : ℕ) → IsWorld w spare → is_some (row_at w.stores v) ≡ true → HasPutBelow v 0 w w
none_put w spare v is there = record {
  there = there;
  order = refl;
  put = λ e low. absurd (omega arith);
  others = λ e low. refl;
  flag_count = (store_row is.moves w v is.shows there).flags;
  desk = refl;
  fetches = refl;
}

module _ (old mid new : WorldState) (v j : ℕ) (has : HasPutBelow v j old mid) (next : HasPut v j mid new) where
  pub put_more : HasPutBelow v (j + 1) old new
  put_more = record {
    there = next.there;
    order = next.order ∙ has.order;
    put = λ e low. either e (cases_eq j e) low;
    others = λ e high. next.flags e ∙ ap (λ t. cond t true (is_set_at (store_at mid v).put e)) (ne_eqb j e (λ same. omega arith)) ∙ has.others e (omega arith);
    flag_count = next.flag_count ∙ has.flag_count;
    desk = next.desk ∙ has.desk;
    fetches = next.fetches ∙ has.fetches;
  }
    where
      either : (e : ℕ) → (j ≡ e) ⊎ (j ≡ e → ⊥) → e < j + 1 → is_set_at (store_at new v).put e ≡ true
      either e (inl same) low = next.flags e ∙ ap (λ t. cond t true (is_set_at (store_at mid v).put e)) (eq-eqb j e same)
      either e (inr other) low = next.flags e ∙ ap (λ t. cond t true (is_set_at (store_at mid v).put e)) (ne_eqb j e other) ∙ has.put e (omega (arith, other))

  move_same : apply_move mid v j ≡ apply_move old v j
  move_same = ap₂ (λ t (order : Order). cond (not t) (Applies v (slice_index order.nodes j) ∷ []) []) (has.others j (omega arith)) has.order

  pub put_left : (ms : List Move) → IsLeftBy (apply_move mid v j ++ (reverse (applies_below old v j) ++ ms)) new → IsLeftBy (reverse (applies_below old v (j + 1)) ++ ms) new
  put_left ms left =
      subst (λ ns. IsLeftBy ns new) (ap (λ more. more ++ (reverse (applies_below old v j) ++ ms)) move_same
      ∙ sym (moves_more (λ e. Applies v (slice_index (store_at old v).order.nodes e)) (λ e. not (is_set_at (store_at old v).put e)) j ms)) left
