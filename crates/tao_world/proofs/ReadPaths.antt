-- The unread buckets of a path are read, one after another.
use Rattle.std.proofs.Common.{◌≡◌, ◌⊎◌, inl, inr, ℕ, ◌+◌, ◌<◌, Bool, true, false, not, cond, List, [], ◌∷◌, ◌++◌, map, filter, length, set, reverse, Option, Some, None, is_some, refl, sym, ap, ap₂, ◌∙◌, subst, arith, nat_eq}
use Rattle.std.proofs.lemmas.Bool.{cases_eq, eq-eqb, ne_eqb}
use Rattle.std.proofs.lemmas.List.{set-set, set-get_or, length-set}
use Rattle.std.specs.List.{range_with_len}
use Rattle.std.proofs.lemmas.List.Elements.{filter_agree}
use Rattle.tao_base.specs.Session.{History}
use Rattle.tao_base.specs.Tree.{node_at}
use Rattle.tao_schedule.specs.Moves.{Move, Serves}
use Rattle.tao_world.specs.Moving.{reading_of, fetch_at, node_of, HasRoom, IsToRead, with_read, HasServed, read_move, reads_above, HasReadAbove}
use Rattle.tao_world.specs.State.{Reading, is_set_at, row_at}
use Rattle.tao_world.specs.World.{WorldState, IsLeftBy}
use Rattle.tao_world.proofs.FetchMoves.{found_fetch, had_room, set_here, fetch_within, served}
use Rattle.tao_world.proofs.MoveLists.{moves_more}

-- the row of a fetch is set to what it is
same_row : (w : WorldState) (i : ℕ) → is_some (row_at w.fetches i) ≡ true → w ≡ record w { fetches = set w.fetches i (Some (fetch_at w i)) }
same_row w i there = ap (λ (rows : List (Option Reading)). record w { fetches = rows }) (sym (ap (set w.fetches i) (sym (found_fetch (row_at w.fetches i) there)) ∙ set-get_or w.fetches i None))

-- ---- one bucket

-- what a test of its flag tells
pub flag_there : (w now : WorldState) (i d : ℕ) (lent : List (Option Reading)) (result flag : Bool) → lent ≡ w.fetches → w ≡ now → result ≡ is_set_at (reading_of (row_at lent i)).read d → result ≡ flag
    → is_set_at (fetch_at now i).read d ≡ flag
flag_there w now i d lent result flag same is tells was =
    ap (λ (x : WorldState). is_set_at (fetch_at x i).read d) (sym is) ∙ ap (λ (rows : List (Option Reading)). is_set_at (reading_of (row_at rows i)).read d) (sym same) ∙ sym tells ∙ was

-- it was read
pub already_read : (w : WorldState) (i d : ℕ) → is_some (row_at w.fetches i) ≡ true → is_set_at (fetch_at w i).read d ≡ true → HasServed i d w w
already_read w i d there read = record {
  there = there;
  arrival = refl;
  leaf = refl;
  flags = λ e. either e (cases_eq d e);
  rest = same_row w i there;
}
  where
    either : (e : ℕ) → (d ≡ e) ⊎ (d ≡ e → ⊥) → is_set_at (fetch_at w i).read e ≡ cond (nat_eq d e) true (is_set_at (fetch_at w i).read e)
    either e (inl same) = ap (is_set_at (fetch_at w i).read) (sym same) ∙ read ∙ sym (ap (λ t. cond t true (is_set_at (fetch_at w i).read e)) (eq-eqb d e same))
    either e (inr other) = sym (ap (λ t. cond t true (is_set_at (fetch_at w i).read e)) (ne_eqb d e other))

pub no_move : (w : WorldState) (i d : ℕ) (ms : List Move) → is_set_at (fetch_at w i).read d ≡ true → IsLeftBy ms w → IsLeftBy (read_move w i d ++ ms) w
no_move w i d ms read left = subst (λ (more : List Move). IsLeftBy (more ++ ms) w) (sym (ap (λ t. cond (not t) (Serves i (node_of w i d) ∷ []) []) read)) left

pub one_move : (w new : WorldState) (i d : ℕ) (ms : List Move) → is_set_at (fetch_at w i).read d ≡ false → IsLeftBy (Serves i (node_of w i d) ∷ ms) new → IsLeftBy (read_move w i d ++ ms) new
one_move w new i d ms unread left = subst (λ (more : List Move). IsLeftBy (more ++ ms) new) (sym (ap (λ t. cond (not t) (Serves i (node_of w i d) ∷ []) []) unread)) left

-- it is read
module _ (w : WorldState) (i d : ℕ) (asked : IsToRead w i d) where
  pub now_served : HasServed i d w (with_read w i d)
  now_served = served w w i d asked.depth (had_room w i asked.there asked.flag_count)

  pub flags_kept : length (fetch_at (with_read w i d) i).read ≡ w.desk.history.opening.shape.l + 1
  unfolding with_read
  flags_kept = ap (λ (r : Reading). length r.read) (set_here w.fetches i _ (fetch_within w.fetches i asked.there)) ∙ length-set (fetch_at w i).read d true ∙ asked.flag_count

-- ---- all buckets

pub none_read : (w : WorldState) (i : ℕ) → is_some (row_at w.fetches i) ≡ true → length (fetch_at w i).read ≡ w.desk.history.opening.shape.l + 1 → HasReadAbove i 0 w w
none_read w i there count = record {
  there = there;
  arrival = refl;
  leaf = refl;
  read = λ e low. absurd (omega arith);
  others = λ e low. refl;
  flag_count = count;
  rest = same_row w i there;
}

module _ (old mid new : WorldState) (i d : ℕ) (has : HasReadAbove i d old mid) (next : HasServed i d mid new) where
  pub read_more : length (fetch_at new i).read ≡ old.desk.history.opening.shape.l + 1 → HasReadAbove i (d + 1) old new
  read_more count = record {
    there = next.there;
    arrival = next.arrival ∙ has.arrival;
    leaf = next.leaf ∙ has.leaf;
    read = λ e low. either e (cases_eq d e) low;
    others = λ e high. next.flags e ∙ ap (λ t. cond t true (is_set_at (fetch_at mid i).read e)) (ne_eqb d e (λ same. omega arith)) ∙ has.others e (omega arith);
    flag_count = count;
    rest = next.rest ∙ ap (λ (m : WorldState). record m { fetches = set m.fetches i (Some (fetch_at new i)) }) has.rest
        ∙ ap (λ (rows : List (Option Reading)). record old { fetches = rows }) (set-set old.fetches i (Some (fetch_at mid i)) (Some (fetch_at new i)));
  }
    where
      either : (e : ℕ) → (d ≡ e) ⊎ (d ≡ e → ⊥) → e < d + 1 → is_set_at (fetch_at new i).read e ≡ true
      either e (inl same) low = next.flags e ∙ ap (λ t. cond t true (is_set_at (fetch_at mid i).read e)) (eq-eqb d e same)
      either e (inr other) low =
          next.flags e ∙ ap (λ t. cond t true (is_set_at (fetch_at mid i).read e)) (ne_eqb d e other) ∙ has.read e (omega (arith, other))

  node_same : node_of mid i d ≡ node_of old i d
  node_same = ap₂ (λ (h : History) leaf. node_at h.opening.shape.l leaf d) (ap (λ (m : WorldState). m.desk.history) has.rest) has.leaf

  move_same : read_move mid i d ≡ read_move old i d
  move_same = ap₂ (λ t node. cond (not t) (Serves i node ∷ []) []) (has.others d (omega arith)) node_same

  pub read_left : (ms : List Move) → IsLeftBy (read_move mid i d ++ (reverse (reads_above old i d) ++ ms)) new → IsLeftBy (reverse (reads_above old i (d + 1)) ++ ms) new
  read_left ms left =
      subst (λ ns. IsLeftBy ns new) (ap (λ more. more ++ (reverse (reads_above old i d) ++ ms)) move_same ∙ sym (moves_more (λ e. Serves i (node_of old i e)) (λ e. not (is_set_at (fetch_at old i).read e)) d ms)) left

-- what was read with another room was read
module _ (old mid new : WorldState) (i d : ℕ) (room : HasRoom i old mid) (has : HasReadAbove i d mid new) where
  pub read_with_room : HasReadAbove i d old new
  read_with_room = record {
    there = has.there;
    arrival = has.arrival ∙ room.arrival;
    leaf = has.leaf ∙ room.leaf;
    read = has.read;
    others = λ e high. has.others e high ∙ room.flags e;
    flag_count = has.flag_count ∙ ap (λ (m : WorldState). m.desk.history.opening.shape.l + 1) room.rest;
    rest = has.rest ∙ ap (λ (m : WorldState). record m { fetches = set m.fetches i (Some (fetch_at new i)) }) room.rest
        ∙ ap (λ (rows : List (Option Reading)). record old { fetches = rows }) (set-set old.fetches i (Some (fetch_at mid i)) (Some (fetch_at new i)));
  }

pub reads_same : (old mid : WorldState) (i d : ℕ) → HasRoom i old mid → reads_above mid i d ≡ reads_above old i d
reads_same old mid i d room =
    ap (map (λ e. Serves i (node_of mid i e)))
    (filter_agree (λ e. not (is_set_at (fetch_at mid i).read e)) (λ e. not (is_set_at (fetch_at old i).read e)) (λ e. ap not (room.flags e)) (range_with_len 0 d))
    ∙ ap₂ (λ (h : History) (leaf : ℕ). map (λ e. Serves i (node_at h.opening.shape.l leaf e)) (filter (λ e. not (is_set_at (fetch_at old i).read e)) (range_with_len 0 d)))
    (ap (λ (m : WorldState). m.desk.history) room.rest) room.leaf
