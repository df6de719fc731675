-- A request begins: how the queues are kept, and which kind it is.
use Rattle.std.proofs.Common.{◌≡◌, ℕ, ◌+◌, ◌<◌, ◌≤◌, Bool, true, false, zero, suc, ◌&&◌, List, [], ◌∷◌, ◌++◌, length, Option, Some, None, refl, ap, sym, ◌∙◌, subst, arith, inl, inr, ◌⊎◌, length-set}
use Rattle.std.specs.Prelude.{if◌then◌else◌}
use Rattle.std.specs.List.{list_any}
use Rattle.std.proofs.Math.ListN.{set}
use Rattle.std.proofs.lemmas.Bool.{true≢false, cases_eq, cases_lt, eqb-true, eq-eqb}
use Rattle.std.proofs.lemmas.List.{get_or_push, get_or_append_left, get_or_past, get_or-set_same, get_or-set_other, length_push}
use Rattle.std.proofs.lemmas.List.Folds.{list_any_at}
use Rattle.tao_base.specs.Limits.{Shape}
use Rattle.tao_base.specs.declared.calls.Op.{Op}
use Rattle.tao_base.specs.declared.calls.Op.TheVariants.{Read, Write, Pad}
use Rattle.tao_model.specs.Events.{names, is_pad_op}
use Rattle.tao_model.specs.Lawful.{IsInRange}
use Rattle.tao_requests.specs.declared.queues.Wait.{Wait}
use Rattle.tao_requests.specs.declared.request.Kind.TheVariants.{Real, Fake}
use Rattle.tao_requests.specs.declared.request.Request.{Request}
use Rattle.tao_requests.specs.State.{request_at, request_of, is_real_kind, waits, waits_on, kind_on, kind_now}
use Rattle.tao_requests.specs.Queues.{is_on_at, waits_at, is_real_at, wait_at, last_on, linked, kind_after, IsWithin, IsKept, kind_entering, lasts_entered, waits_entered, CanEnter}
use Rattle.tao_requests.proofs.SettledLists.{on_within}
use Rattle.tao_requests.proofs.OrderSteps.{differ, OneMore, NewLast, OnOneBlock, enters, same_order}

-- ---- an operation is on one block

pub names_one : (block other : ℕ) (op : Op) → names block op ≡ true → names other op ≡ true → block ≡ other
names_one block other (Read b) e f = sym (eqb-true b block e) ∙ eqb-true b other f
names_one block other (Write b value) e f = sym (eqb-true b block e) ∙ eqb-true b other f
names_one block other Pad e f = absurd (true≢false (sym e))

pub names_else : (block other : ℕ) (op : Op) → names block op ≡ true → (other ≡ block → ⊥) → names other op ≡ false
names_else block other op e f = which (names other op) refl
  where
    which : (x : Bool) → names other op ≡ x → names other op ≡ false
    which true g = absurd (f (names_one other block op g e))
    which false g = g

pub on_one : (rs : List Request) → OnOneBlock (is_on_at rs)
on_one rs block other i = names_one block other (request_at rs i).op

-- ---- one more request

pub past_off : (rs : List Request) (block i : ℕ) → length rs ≤ i → is_on_at rs block i ≡ false
past_off rs block i h = ap (λ r. names block r.op) (get_or_past rs i (request_of Pad Fake) h)

pub new_at : (rs : List Request) (x : Request) → request_at (rs ++ x ∷ []) (length rs) ≡ x
new_at rs x = get_or_push rs x (request_of Pad Fake) (length rs) refl

pub old_at : (rs : List Request) (x : Request) (i : ℕ) → (i ≡ length rs → ⊥) → request_at (rs ++ x ∷ []) i ≡ request_at rs i
old_at rs x i other = which (cases_lt i (length rs))
  where
    which : (i < length rs) ⊎ (length rs ≤ i) → request_at (rs ++ x ∷ []) i ≡ request_at rs i
    which (inl low) = get_or_append_left rs (x ∷ []) (request_of Pad Fake) i low
    which (inr high) = get_or_past (rs ++ x ∷ []) i (request_of Pad Fake) (omega (arith, other, length_push rs x)) ∙ sym (get_or_past rs i (request_of Pad Fake) high)

pub one_more : (b : ℕ) (rs : List Request) (x : Request) → names b x.op ≡ true → x.answer ≡ None
    → OneMore b (length rs) (is_on_at rs) (is_on_at (rs ++ x ∷ [])) (waits_at rs) (waits_at (rs ++ x ∷ [])) (is_real_at rs) (is_real_at (rs ++ x ∷ []))
one_more b rs x named unanswered = record {
  was_none = past_off rs;
  on_here = ap (λ r. names b r.op) (new_at rs x) ∙ named;
  on_else = λ block f. ap (λ r. names block r.op) (new_at rs x) ∙ names_else b block x.op named f;
  on_old = λ block i other. ap (λ r. names block r.op) (old_at rs x i other);
  waits_here = ap waits (new_at rs x) ∙ waiting x unanswered;
  waits_old = λ i other. ap waits (old_at rs x i other);
  real_old = λ i other. ap (λ r. is_real_kind r.kind) (old_at rs x i other);
}
  where
    waiting : (r : Request) → r.answer ≡ None → waits r ≡ true
    waiting r e = rw e refl

-- ---- the waits of the requests, with the new one after the last

pub linked_len : (ws : List Wait) (last : Option ℕ) (n : ℕ) → length (linked ws last n) ≡ length ws
linked_len ws None n = refl
linked_len ws (Some k) n = length-set ws k (record (wait_at ws k) { next = Some n })

pub linked_room : (ws : List Wait) (last : Option ℕ) (n i : ℕ) → IsWithin last (length ws) → (wait_at (linked ws last n) i).room ≡ (wait_at ws i).room
linked_room ws None n i within = refl
linked_room ws (Some k) n i within = which (cases_eq i k)
  where
    which : (i ≡ k) ⊎ (i ≡ k → ⊥) → (wait_at (linked ws (Some k) n) i).room ≡ (wait_at ws i).room
    which (inl e) = ap (λ j. (wait_at (linked ws (Some k) n) j).room) e
        ∙ (ap (λ w. w.room) (get_or-set_same ws k (record (wait_at ws k) { next = Some n }) (record { next = None; room = [] }) within) ∙ ap (λ j. (wait_at ws j).room) (sym e))
    which (inr e) = ap (λ w. w.room) (get_or-set_other ws k i (record (wait_at ws k) { next = Some n }) (record { next = None; room = [] }) e)

pub linked_here : (ws : List Wait) (k n : ℕ) → k < length ws → (wait_at (linked ws (Some k) n) k).next ≡ Some n
linked_here ws k n within = ap (λ w. w.next) (get_or-set_same ws k (record (wait_at ws k) { next = Some n }) (record { next = None; room = [] }) within)

pub linked_else : (ws : List Wait) (last : Option ℕ) (n i : ℕ) → (last ≡ Some i → ⊥) → (wait_at (linked ws last n) i).next ≡ (wait_at ws i).next
linked_else ws None n i other = refl
linked_else ws (Some k) n i other =
    ap (λ w. w.next) (get_or-set_other ws k i (record (wait_at ws k) { next = Some n }) (record { next = None; room = [] }) (λ e. other (ap (λ j. Some j) (sym e))))

pub wait_new : (ws : List Wait) (w : Wait) (n : ℕ) → length ws ≡ n → wait_at (ws ++ w ∷ []) n ≡ w
wait_new ws w n len = get_or_push ws w (record { next = None; room = [] }) n len

pub wait_old : (ws : List Wait) (w : Wait) (n i : ℕ) → length ws ≡ n → (i ≡ n → ⊥) → wait_at (ws ++ w ∷ []) i ≡ wait_at ws i
wait_old ws w n i len other = which (cases_lt i n)
  where
    which : (i < n) ⊎ (n ≤ i) → wait_at (ws ++ w ∷ []) i ≡ wait_at ws i
    which (inl low) = get_or_append_left ws (w ∷ []) (record { next = None; room = [] }) i (omega arith)
    which (inr high) = get_or_past (ws ++ w ∷ []) i (record { next = None; room = [] }) (omega (arith, other, length_push ws w))
        ∙ sym (get_or_past ws i (record { next = None; room = [] }) (omega arith))

pub new_last : (b n : ℕ) (rs : List Request) (x : Request) (ws : List Wait) (w : Wait) (lasts : List (Option ℕ)) → length rs ≡ n → length ws ≡ n → b < length lasts
    → IsWithin (last_on lasts b) n → w.next ≡ None → x.kind ≡ kind_after (last_on lasts b)
    → NewLast b n (is_real_at (rs ++ x ∷ [])) (λ i. (wait_at ws i).next) (λ i. (wait_at (linked ws (last_on lasts b) n ++ w ∷ []) i).next) (last_on lasts) (last_on (set lasts b (Some n)))
new_last b n rs x ws w lasts rs_len ws_len there within alone kind = record {
  real_where_empty = λ e. real ∙ ap (λ l. is_real_kind (kind_after l)) e;
  fake_else = λ k e. real ∙ ap (λ l. is_real_kind (kind_after l)) e;
  next_here = ap (λ y. y.next) (wait_new (linked ws (last_on lasts b) n) w n len) ∙ alone;
  next_link = λ i e. let low : i < n = subst (λ l. IsWithin l n) e within in
      ap (λ y. y.next) (wait_old (linked ws (last_on lasts b) n) w n i len (λ f. omega arith))
      ∙ (ap (λ l. (wait_at (linked ws l n) i).next) e ∙ linked_here ws i n (omega arith));
  next_old = λ i other f. ap (λ y. y.next) (wait_old (linked ws (last_on lasts b) n) w n i len other) ∙ linked_else ws (last_on lasts b) n i f;
  last_here = get_or-set_same lasts b (Some n) None there;
  last_else = λ block other. get_or-set_other lasts b block (Some n) None other;
}
  where
    len : length (linked ws (last_on lasts b) n) ≡ n
    len = linked_len ws (last_on lasts b) n ∙ ws_len

    real : is_real_at (rs ++ x ∷ []) n ≡ is_real_kind (kind_after (last_on lasts b))
    real = ap (λ i. is_real_at (rs ++ x ∷ []) i) (sym rs_len) ∙ (ap (λ r. is_real_kind r.kind) (new_at rs x) ∙ ap is_real_kind kind)

-- ---- a request begins

pub kept_on_block : (s : Shape) (b : ℕ) (rs : List Request) (x : Request) (ws : List Wait) (w : Wait) (lasts : List (Option ℕ)) → IsKept s rs ws lasts
    → b < s.n → names b x.op ≡ true → IsInRange s x.op → x.answer ≡ None → x.kind ≡ kind_after (last_on lasts b) → w.next ≡ None → length w.room ≡ s.b
    → IsKept s (rs ++ x ∷ []) (linked ws (last_on lasts b) (length rs) ++ w ∷ []) (set lasts b (Some (length rs)))
kept_on_block s b rs x ws w lasts h there named fits unanswered kind alone room = record {
  shape = h.shape;
  places = length_push (linked ws (last_on lasts b) (length rs)) w ∙ (ap (λ n. n + 1) (linked_len ws (last_on lasts b) (length rs) ∙ h.places) ∙ sym (length_push rs x));
  blocks = length-set lasts b (Some (length rs)) ∙ h.blocks;
  in_range = λ i. in_range i (cases_eq i (length rs));
  pads = λ i e. pads i e (cases_eq i (length rs));
  rooms = λ i e. rooms i e (cases_eq i (length rs));
  queues = enters b (length rs) (is_on_at rs) (is_on_at (rs ++ x ∷ [])) (waits_at rs) (waits_at (rs ++ x ∷ [])) (is_real_at rs) (is_real_at (rs ++ x ∷ []))
      (λ i. (wait_at ws i).next) (λ i. (wait_at (linked ws (last_on lasts b) (length rs) ++ w ∷ []) i).next) (last_on lasts) (last_on (set lasts b (Some (length rs))))
      h.queues (on_one rs) (one_more b rs x named unanswered)
      (new_last b (length rs) rs x ws w lasts refl h.places (omega (arith, h.blocks)) (within (last_on lasts b) refl) alone kind);
}
  where
    within : (last : Option ℕ) → last_on lasts b ≡ last → IsWithin last (length rs)
    within None e = tt
    within (Some k) e = on_within b k rs (h.queues.last_on b k e)

    len : length (linked ws (last_on lasts b) (length rs)) ≡ length rs
    len = linked_len ws (last_on lasts b) (length rs) ∙ h.places

    in_range : (i : ℕ) → (i ≡ length rs) ⊎ (i ≡ length rs → ⊥) → IsInRange s (request_at (rs ++ x ∷ []) i).op
    in_range i (inl e) = subst (λ r. IsInRange s r.op) (sym (ap (λ j. request_at (rs ++ x ∷ []) j) e ∙ new_at rs x)) fits
    in_range i (inr e) = subst (λ r. IsInRange s r.op) (sym (old_at rs x i e)) (h.in_range i)

    no_pad : (op : Op) → names b op ≡ true → is_pad_op op ≡ true → ⊥
    no_pad (Read block) e f = true≢false (sym f)
    no_pad (Write block value) e f = true≢false (sym f)
    no_pad Pad e f = true≢false (sym e)

    pads : (i : ℕ) → is_pad_op (request_at (rs ++ x ∷ []) i).op ≡ true → (i ≡ length rs) ⊎ (i ≡ length rs → ⊥) → waits_at (rs ++ x ∷ []) i ≡ false
    pads i e (inl f) = absurd (no_pad x.op named (ap (λ r. is_pad_op r.op) (sym (ap (λ j. request_at (rs ++ x ∷ []) j) f ∙ new_at rs x)) ∙ e))
    pads i e (inr f) = ap waits (old_at rs x i f) ∙ h.pads i (ap (λ r. is_pad_op r.op) (sym (old_at rs x i f)) ∙ e)

    rooms : (i : ℕ) → waits_at (rs ++ x ∷ []) i ≡ true → (i ≡ length rs) ⊎ (i ≡ length rs → ⊥) → length (wait_at (linked ws (last_on lasts b) (length rs) ++ w ∷ []) i).room ≡ s.b
    rooms i e (inl f) = ap (λ j. length (wait_at (linked ws (last_on lasts b) (length rs) ++ w ∷ []) j).room) f
        ∙ (ap (λ y. length y.room) (wait_new (linked ws (last_on lasts b) (length rs)) w (length rs) len) ∙ room)
    rooms i e (inr f) = ap (λ y. length y.room) (wait_old (linked ws (last_on lasts b) (length rs)) w (length rs) i len f)
        ∙ (ap length (linked_room ws (last_on lasts b) (length rs) i (subst (λ n. IsWithin (last_on lasts b) n) (sym h.places) (within (last_on lasts b) refl)))
        ∙ h.rooms i (ap waits (sym (old_at rs x i f)) ∙ e))

-- a pad is in no queue
pub kept_pad : (s : Shape) (rs : List Request) (ws : List Wait) (w : Wait) (lasts : List (Option ℕ)) → IsKept s rs ws lasts
    → IsKept s (rs ++ request_of Pad Fake ∷ []) (ws ++ w ∷ []) lasts
kept_pad s rs ws w lasts h = record {
  shape = h.shape;
  places = length_push ws w ∙ (ap (λ n. n + 1) h.places ∙ sym (length_push rs (request_of Pad Fake)));
  blocks = h.blocks;
  in_range = λ i. subst (λ r. IsInRange s r.op) (sym (same i)) (h.in_range i);
  pads = λ i e. ap waits (same i) ∙ h.pads i (ap (λ r. is_pad_op r.op) (sym (same i)) ∙ e);
  rooms = λ i e. let f : waits_at rs i ≡ true = ap waits (sym (same i)) ∙ e in ap (λ y. length y.room) (before i f) ∙ h.rooms i f;
  queues = same_order (is_on_at rs) (is_on_at (rs ++ request_of Pad Fake ∷ [])) (waits_at rs) (waits_at (rs ++ request_of Pad Fake ∷ [])) (is_real_at rs) (is_real_at (rs ++ request_of Pad Fake ∷ []))
      (λ i. (wait_at ws i).next) (λ i. (wait_at (ws ++ w ∷ []) i).next) (last_on lasts) h.queues
      (λ block i. ap (λ r. names block r.op) (same i)) (λ i. ap waits (same i)) (λ i. ap (λ r. is_real_kind r.kind) (same i)) (λ i e. ap (λ y. y.next) (before i e));
}
  where
    -- past the last request `request_at` gives a pad already
    same : (i : ℕ) → request_at (rs ++ request_of Pad Fake ∷ []) i ≡ request_at rs i
    same i = which (cases_eq i (length rs))
      where
        which : (i ≡ length rs) ⊎ (i ≡ length rs → ⊥) → request_at (rs ++ request_of Pad Fake ∷ []) i ≡ request_at rs i
        which (inl e) = ap (λ j. request_at (rs ++ request_of Pad Fake ∷ []) j) e ∙ (new_at rs (request_of Pad Fake) ∙ sym (get_or_past rs i (request_of Pad Fake) (omega arith)))
        which (inr e) = old_at rs (request_of Pad Fake) i e

    before : (i : ℕ) → waits_at rs i ≡ true → wait_at (ws ++ w ∷ []) i ≡ wait_at ws i
    before i t = which (cases_eq i (length rs))
      where
        which : (i ≡ length rs) ⊎ (i ≡ length rs → ⊥) → wait_at (ws ++ w ∷ []) i ≡ wait_at ws i
        which (inl e) = absurd (differ (waits_at rs i) t (ap waits (get_or_past rs i (request_of Pad Fake) (omega arith))))
        which (inr e) = wait_old ws w (length rs) i h.places e

pub kept_begun : (s : Shape) (op : Op) (rs : List Request) (ws : List Wait) (room : List ℕ) (lasts : List (Option ℕ)) → IsKept s rs ws lasts → IsInRange s op → (is_pad_op op ≡ false → length room ≡ s.b)
    → IsKept s (rs ++ request_of op (kind_entering lasts op) ∷ []) (waits_entered ws lasts op (length rs) ++ record { next = None; room = room } ∷ []) (lasts_entered lasts op (length rs))
kept_begun s (Read b) rs ws room lasts h fits len =
    kept_on_block s b rs (request_of (Read b) (kind_after (last_on lasts b))) ws (record { next = None; room = room }) lasts h fits (eq-eqb b b refl) fits refl refl refl (len refl)
kept_begun s (Write b value) rs ws room lasts h fits len =
    kept_on_block s b rs (request_of (Write b value) (kind_after (last_on lasts b))) ws (record { next = None; room = room }) lasts h fits.0 (eq-eqb b b refl) fits refl refl refl (len refl)
kept_begun s Pad rs ws room lasts h fits len = kept_pad s rs ws (record { next = None; room = room }) lasts h

pub can_enter : (s : Shape) (op : Op) (rs : List Request) (ws : List Wait) (lasts : List (Option ℕ)) → IsKept s rs ws lasts → IsInRange s op → CanEnter lasts (length ws) op
can_enter s op rs ws lasts h fits = which op fits
  where
    within : (b : ℕ) (last : Option ℕ) → last_on lasts b ≡ last → IsWithin last (length ws)
    within b None e = tt
    within b (Some k) e = let low : k < length rs = on_within b k rs (h.queues.last_on b k e) in omega (arith, h.places)

    which : (o : Op) → IsInRange s o → CanEnter lasts (length ws) o
    which (Read b) f = (omega (arith, h.blocks), within b (last_on lasts b) refl)
    which (Write b value) f = (omega (arith, f.0, h.blocks), within b (last_on lasts b) refl)
    which Pad f = tt

-- ---- the kind of a request

none_passes : (p : Request → Bool) (rs : List Request) → ((i : ℕ) → p (request_at rs i) ≡ true → ⊥) → list_any p rs ≡ false
none_passes p [] h = refl
none_passes p (r ∷ rs) h = first (p r) refl (none_passes p rs (λ i. h (suc i)))
  where
    first : (x : Bool) → p r ≡ x → list_any p rs ≡ false → list_any p (r ∷ rs) ≡ false
    first true e ih = absurd (h zero e)
    first false e ih = rw e ih

pub kind_of_block : (s : Shape) (b : ℕ) (rs : List Request) (ws : List Wait) (lasts : List (Option ℕ)) → IsKept s rs ws lasts → kind_after (last_on lasts b) ≡ kind_on rs b
kind_of_block s b rs ws lasts h = which (last_on lasts b) refl
  where
    three : (x y z : Bool) → x ≡ true → y ≡ true → z ≡ true → (x && (y && z)) ≡ true
    three x y z e f g = rw (e, f, g) refl

    of_three : (x y z : Bool) → (x && (y && z)) ≡ true → (x ≡ true) × (z ≡ true)
    of_three true true true e = (refl, refl)
    of_three true true false e = absurd (true≢false (sym e))
    of_three true false z e = absurd (true≢false (sym e))
    of_three false y z e = absurd (true≢false (sym e))

    kind_if : (x y : Bool) → x ≡ y → (if x then Fake else Real) ≡ (if y then Fake else Real)
    kind_if x y e = ap (λ z. if z then Fake else Real) e

    which : (last : Option ℕ) → last_on lasts b ≡ last → kind_after last ≡ kind_on rs b
    which None e = kind_if false (list_any (waits_on b) rs) (sym (none_passes (waits_on b) rs
        (λ i p. let q = of_three (waits_at rs i) (is_real_at rs i) (is_on_at rs b i) p in differ (waits_at rs i) q.0 (h.queues.quiet b i e q.1))))
    which (Some k) e = let r = h.queues.real_one b k e in
        kind_if true (list_any (waits_on b) rs) (sym (list_any_at (waits_on b) rs r.0 (request_of Pad Fake) (on_within b r.0 rs r.1) (three (waits_at rs r.0) (is_real_at rs r.0) (is_on_at rs b r.0) r.3 r.2 r.1)))

pub kind_is_now : (s : Shape) (op : Op) (rs : List Request) (ws : List Wait) (lasts : List (Option ℕ)) → IsKept s rs ws lasts → kind_entering lasts op ≡ kind_now rs op
kind_is_now s (Read b) rs ws lasts h = kind_of_block s b rs ws lasts h
kind_is_now s (Write b value) rs ws lasts h = kind_of_block s b rs ws lasts h
kind_is_now s Pad rs ws lasts h = refl
