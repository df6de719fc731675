-- Settling a block's requests keeps the queues; and what holds of the lists in the code.
use Rattle.std.proofs.Common.{◌≡◌, ℕ, ◌<◌, ◌≤◌, Bool, true, false, List, ◌++◌, length, Option, Some, None, IsSome, is_none, refl, ap, sym, ◌∙◌, subst, arith, inl, inr, ◌⊎◌, length-set, take, drop}
use Rattle.std.proofs.lemmas.Bool.{true≢false, cases_eq, cases_lt, eq-eqb}
use Rattle.std.proofs.lemmas.List.{get_or-set_same, get_or-set_other, drop_all, take_all, append-nil}
use Rattle.tao_base.specs.Limits.{Shape}
use Rattle.tao_base.specs.declared.calls.Op.{Op}
use Rattle.tao_base.specs.declared.calls.Op.TheVariants.{Read, Write, Pad}
use Rattle.tao_model.specs.Events.{names, is_pad_op}
use Rattle.tao_model.specs.Lawful.{IsInRange}
use Rattle.tao_requests.specs.declared.queues.Wait.{Wait}
use Rattle.tao_requests.specs.declared.request.Kind.{Kind}
use Rattle.tao_requests.specs.declared.request.Request.{Request}
use Rattle.tao_requests.specs.State.{RequestsState, request_at, block_of, op_block, is_real_kind, waits, IsUnderWay}
use Rattle.tao_requests.specs.Rooms.{FitsIn}
use Rattle.tao_requests.specs.Settling.{settled_from, KeepsAnswers}
use Rattle.tao_requests.specs.Queues.{is_on_at, waits_at, is_real_at, wait_at, last_on, IsKept, IsQueue, LeavesOthers, lasts_left}
use Rattle.tao_requests.proofs.SettledLists.{settled_off, settled_there, settled_same, settled_len, IsSameBut}
use Rattle.tao_requests.proofs.OrderSteps.{differ, Settles, leaves, same_order}
use Rattle.tao_requests.proofs.NewRequests.{on_one}

-- ---- a block's requests are settled

pub own_block : (op : Op) → is_pad_op op ≡ false → names (op_block op) op ≡ true
own_block (Read b) e = eq-eqb b b refl
own_block (Write b value) e = eq-eqb b b refl
own_block Pad e = absurd (true≢false e)

pub is_no_pad : (s : Shape) (n : ℕ) (rs : List Request) (ws : List Wait) (lasts : List (Option ℕ)) → IsKept s rs ws lasts → waits_at rs n ≡ true → is_pad_op (request_at rs n).op ≡ false
is_no_pad s n rs ws lasts h w = which (is_pad_op (request_at rs n).op) refl
  where
    which : (x : Bool) → is_pad_op (request_at rs n).op ≡ x → is_pad_op (request_at rs n).op ≡ false
    which true e = absurd (differ (waits_at rs n) w (h.pads n e))
    which false e = e

pub on_own : (s : Shape) (n : ℕ) (rs : List Request) (ws : List Wait) (lasts : List (Option ℕ)) → IsKept s rs ws lasts → waits_at rs n ≡ true → is_on_at rs (block_of rs n) n ≡ true
on_own s n rs ws lasts h w = own_block (request_at rs n).op (is_no_pad s n rs ws lasts h w)

pub under_way_waits : (rs : List Request) (n : ℕ) → IsUnderWay rs n → waits_at rs n ≡ true
under_way_waits rs n u = waiting (request_at rs n) u.waits
  where
    waiting : (r : Request) → r.answer ≡ None → waits r ≡ true
    waiting r e = rw e refl

pub under_way_real : (rs : List Request) (n : ℕ) → IsUnderWay rs n → is_real_at rs n ≡ true
under_way_real rs n u = ap is_real_kind u.is_real

-- all requests on its block from it on wait
pub all_wait : (s : Shape) (n : ℕ) (rs : List Request) (ws : List Wait) (lasts : List (Option ℕ)) → IsKept s rs ws lasts → IsUnderWay rs n
    → (j : ℕ) → n ≤ j → is_on_at rs (block_of rs n) j ≡ true → waits_at rs j ≡ true
all_wait s n rs ws lasts h u j low o = which (cases_eq j n)
  where
    which : (j ≡ n) ⊎ (j ≡ n → ⊥) → waits_at rs j ≡ true
    which (inl e) = ap (waits_at rs) e ∙ under_way_waits rs n u
    which (inr e) = h.queues.after (block_of rs n) n j (on_own s n rs ws lasts h (under_way_waits rs n u)) (under_way_waits rs n u) o (omega (arith, e))

written_fits : (s : Shape) (v : List ℕ) (op : Op) → length v ≡ s.b → IsInRange s op → FitsIn v op
written_fits s v (Read b) e f = tt
written_fits s v (Write b value) e f = e ∙ sym f.1
written_fits s v Pad e f = tt

pub is_queue : (s : Shape) (n : ℕ) (v : List ℕ) (rs : List Request) (ws : List Wait) (lasts : List (Option ℕ)) → IsKept s rs ws lasts → IsUnderWay rs n → length v ≡ s.b
    → IsQueue (block_of rs n) n v rs ws
is_queue s n v rs ws lasts h u len = let w = all_wait s n rs ws lasts h u in record {
  places = h.places;
  written = λ i. written_fits s v (request_at rs i).op len (h.in_range i);
  room = λ i low o. h.rooms i (w i low o) ∙ sym len;
  none = λ i k low o e. h.queues.none (block_of rs n) i k o (w i low o) e;
  later = λ i k low o e. h.queues.later (block_of rs n) i k o (w i low o) e;
  on = λ i k low o e. h.queues.next_on (block_of rs n) i k o (w i low o) e;
  between = λ i k m low o e. h.queues.between (block_of rs n) i k m o (w i low o) e;
}

answered_waits : (o : Option (List ℕ)) → IsSome o → is_none o ≡ true → ⊥
answered_waits None e f = true≢false (sym e)
answered_waits (Some v) e f = true≢false (sym f)

pub stays : (s : Shape) (n : ℕ) (v : List ℕ) (rs : List Request) (ws : List Wait) (lasts : List (Option ℕ)) → IsKept s rs ws lasts → IsUnderWay rs n
    → KeepsAnswers rs (settled_from n (block_of rs n) v rs)
stays s n v rs ws lasts h u i has = ap (λ r. r.answer)
    (settled_off n (block_of rs n) v rs i (λ low o. answered_waits (request_at rs i).answer has (all_wait s n rs ws lasts h u i low o)))

lasts_gone : (s : Shape) (op : Op) (lasts : List (Option ℕ)) → length lasts ≡ s.n → IsInRange s op → is_pad_op op ≡ false
    → (last_on (lasts_left lasts op) (op_block op) ≡ None) × ((block : ℕ) → (block ≡ op_block op → ⊥) → last_on (lasts_left lasts op) block ≡ last_on lasts block)
lasts_gone s (Read b) lasts len fits on_block = (get_or-set_same lasts b None None (omega arith), λ block other. get_or-set_other lasts b block None None other)
lasts_gone s (Write b value) lasts len fits on_block = (get_or-set_same lasts b None None (omega (arith, fits.0)), λ block other. get_or-set_other lasts b block None None other)
lasts_gone s Pad lasts len fits on_block = absurd (true≢false on_block)

lasts_len : (op : Op) (lasts : List (Option ℕ)) → length (lasts_left lasts op) ≡ length lasts
lasts_len (Read b) lasts = length-set lasts b None
lasts_len (Write b value) lasts = length-set lasts b None
lasts_len Pad lasts = refl

pub kept_settled : (s : Shape) (n : ℕ) (v : List ℕ) (rs : List Request) (ws ws' : List Wait) (lasts : List (Option ℕ)) → IsKept s rs ws lasts → IsUnderWay rs n
    → LeavesOthers (block_of rs n) rs ws ws' → IsKept s (settled_from n (block_of rs n) v rs) ws' (lasts_left lasts (request_at rs n).op)
kept_settled s n v rs ws ws' lasts h u l = record {
  shape = h.shape;
  places = l.places ∙ (h.places ∙ sym (settled_len n (block_of rs n) v rs));
  blocks = lasts_len (request_at rs n).op lasts ∙ h.blocks;
  in_range = λ i. subst (λ op. IsInRange s op) (sym (same i).op) (h.in_range i);
  pads = λ i e. gone i (h.pads i (ap is_pad_op (sym (same i).op) ∙ e));
  rooms = λ i e. ap (λ y. length y.room) (l.others i (off i e)) ∙ h.rooms i (waited i e);
  queues = same_order (is_on_at rs) (is_on_at (settled_from n (block_of rs n) v rs)) (waits_at (settled_from n (block_of rs n) v rs)) (waits_at (settled_from n (block_of rs n) v rs))
      (is_real_at rs) (is_real_at (settled_from n (block_of rs n) v rs)) (λ i. (wait_at ws i).next) (λ i. (wait_at ws' i).next) (last_on (lasts_left lasts (request_at rs n).op))
      (leaves (block_of rs n) n (is_on_at rs) (waits_at rs) (waits_at (settled_from n (block_of rs n) v rs)) (is_real_at rs) (λ i. (wait_at ws i).next) (last_on lasts) (last_on (lasts_left lasts (request_at rs n).op))
      h.queues (on_one rs) settles here (under_way_real rs n u) (under_way_waits rs n u))
      (λ block i. ap (names block) (same i).op) (λ i. refl) (λ i. ap is_real_kind (same i).kind) (λ i e. l.next i);
}
  where
    same : (i : ℕ) → IsSameBut (request_at (settled_from n (block_of rs n) v rs) i) (request_at rs i)
    same i = settled_same n (block_of rs n) v rs i

    here : is_on_at rs (block_of rs n) n ≡ true
    here = on_own s n rs ws lasts h (under_way_waits rs n u)

    left : (last_on (lasts_left lasts (request_at rs n).op) (block_of rs n) ≡ None) × ((block : ℕ) → (block ≡ block_of rs n → ⊥) → last_on (lasts_left lasts (request_at rs n).op) block ≡ last_on lasts block)
    left = lasts_gone s (request_at rs n).op lasts h.blocks (h.in_range n) (is_no_pad s n rs ws lasts h (under_way_waits rs n u))

    settles : Settles (block_of rs n) n (is_on_at rs) (waits_at rs) (waits_at (settled_from n (block_of rs n) v rs)) (last_on lasts) (last_on (lasts_left lasts (request_at rs n).op))
    settles = record {
      waits_gone = λ j low o. let is = settled_there n (block_of rs n) v rs j low o in ap waits is.1;
      waits_old = λ j other. ap waits (settled_off n (block_of rs n) v rs j other);
      last_gone = left.0;
      last_else = left.1;
    }

    gone : (i : ℕ) → waits_at rs i ≡ false → waits_at (settled_from n (block_of rs n) v rs) i ≡ false
    gone i e = which (cases_lt i n) (is_on_at rs (block_of rs n) i) refl
      where
        which : (i < n) ⊎ (n ≤ i) → (x : Bool) → is_on_at rs (block_of rs n) i ≡ x → waits_at (settled_from n (block_of rs n) v rs) i ≡ false
        which (inl low) x f = settles.waits_old i (λ high o. omega arith) ∙ e
        which (inr high) true f = settles.waits_gone i high f
        which (inr high) false f = settles.waits_old i (λ low o. differ (is_on_at rs (block_of rs n) i) o f) ∙ e

    waited : (i : ℕ) → waits_at (settled_from n (block_of rs n) v rs) i ≡ true → waits_at rs i ≡ true
    waited i e = which (waits_at rs i) refl
      where
        which : (x : Bool) → waits_at rs i ≡ x → waits_at rs i ≡ true
        which true f = f
        which false f = absurd (differ (waits_at (settled_from n (block_of rs n) v rs) i) e (gone i f))

    off : (i : ℕ) → waits_at (settled_from n (block_of rs n) v rs) i ≡ true → is_on_at rs (block_of rs n) i ≡ false
    off i e = which (cases_lt i n) (is_on_at rs (block_of rs n) i) refl
      where
        which : (i < n) ⊎ (n ≤ i) → (x : Bool) → is_on_at rs (block_of rs n) i ≡ x → is_on_at rs (block_of rs n) i ≡ false
        which y false f = f
        which (inl low) true f = absurd (differ (waits_at rs i) (waited i e) (h.queues.before (block_of rs n) n i here (under_way_real rs n u) (under_way_waits rs n u) f low))
        which (inr high) true f = absurd (differ (waits_at (settled_from n (block_of rs n) v rs) i) e (settles.waits_gone i high f))

-- ---- as the code has it

-- a slice that was lent whole is the current list
pub lent_whole : {X : Type 0} (n : ℕ) (xs ys : List X) → n ≡ length ys → length xs ≡ length ys → take n (xs ++ drop (length xs) ys) ≡ xs
lent_whole n xs ys len same =
    ap (λ rest. take n (xs ++ rest)) (drop_all (length xs) ys (omega arith)) ∙ (ap (take n) (append-nil xs) ∙ take_all n xs (omega arith))

pub same_request : (op op' : Op) (kind kind' : Kind) (answer answer' : Option (List ℕ)) → op ≡ op' → kind ≡ kind' → answer ≡ answer'
    → (let r : Request = record { op = op; kind = kind; answer = answer } in r) ≡ (let r : Request = record { op = op'; kind = kind'; answer = answer' } in r)
same_request op op' kind kind' answer answer' e f g = cc

pub room_fits : (s : Shape) (op : Op) (room : List ℕ) → IsInRange s op → length room ≡ s.b → FitsIn room op
room_fits s op room fits len = written_fits s room op len fits

pub same_state : (s : Shape) (rs rs' : List Request) (n n' : ℕ) → rs ≡ rs' → n ≡ n'
    → (let v : RequestsState = record { shape = s; requests = rs; spare = n } in v) ≡ (let v : RequestsState = record { shape = s; requests = rs'; spare = n' } in v)
same_state s rs rs' n n' e f = cc
