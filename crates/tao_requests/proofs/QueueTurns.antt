-- One turn of settling a queue: a request is answered, and the next on its block comes.
use Rattle.std.proofs.Common.{◌≡◌, ℕ, suc, ◌+◌, ◌-◌, ◌<◌, ◌≤◌, true, false, List, [], length, drop, ap, sym, ◌∙◌, arith, inl, inr, ◌⊎◌, length-set, None}
use Rattle.std.specs.List.{slice_index_or}
use Rattle.std.proofs.Math.ListN.{set}
use Rattle.std.proofs.lemmas.Bool.{true≢false, cases_eq}
use Rattle.std.proofs.lemmas.List.{get_or_default, get_or-set_other, get_or-set_same, get_or-drop, drop-set-lt, drop-drop}
use Rattle.tao_requests.specs.declared.request.Request.{Request}
use Rattle.tao_requests.specs.declared.queues.Wait.{Wait}
use Rattle.tao_base.specs.declared.calls.Op.{Op}
use Rattle.tao_base.specs.declared.calls.Op.TheVariants.{Read, Write, Pad}
use Rattle.tao_model.specs.Events.{names}
use Rattle.tao_requests.specs.declared.request.Kind.TheVariants.{Fake}
use Rattle.tao_requests.specs.State.{request_at, request_of}
use Rattle.tao_requests.specs.Rooms.{FitsIn}
use Rattle.tao_requests.specs.Settling.{answered, value_after, settled_from, value_from}
use Rattle.tao_requests.specs.Queues.{is_on_at, wait_at, LeavesOthers}
use Rattle.tao_requests.proofs.SettledLists.{on_within, settled_on, value_on, settled_up_to, value_up_to, settled_none, value_none}

-- two lists agree from a number on
pub same_from : {X : Type 0} (n m : ℕ) (xs ys : List X) (d : X) → drop n xs ≡ drop n ys → n ≤ m → slice_index_or xs m d ≡ slice_index_or ys m d
same_from n m xs ys d same low =
    let at : n + (m - n) ≡ m = omega arith in
    ap (λ k. slice_index_or xs k d) (sym at) ∙ (sym (get_or-drop n xs (m - n) d) ∙ (ap (λ list. slice_index_or list (m - n) d) same ∙ (get_or-drop n ys (m - n) d ∙ ap (λ k. slice_index_or ys k d) at)))

pub same_further : {X : Type 0} (n k : ℕ) (xs ys : List X) → drop n xs ≡ drop n ys → n ≤ k → drop k xs ≡ drop k ys
same_further n k xs ys same low =
    let at : n + (k - n) ≡ k = omega arith in
    ap (λ j. drop j xs) (sym at) ∙ (sym (drop-drop (k - n) n xs) ∙ (ap (λ list. drop (k - n) list) same ∙ (drop-drop (k - n) n ys ∙ ap (λ j. drop j ys) at)))

-- an edit before a number doesn't change the rest from there on
pub drops_edit : {X : Type 0} (n k : ℕ) (x : X) (xs ys : List X) → drop n xs ≡ drop n ys → n < k → drop k (set xs n x) ≡ drop k ys
drops_edit n k x xs ys same low = drop-set-lt k xs n x low ∙ same_further n k xs ys same (omega arith)

pub on_same : (n m block : ℕ) (rs rs0 : List Request) → drop n rs ≡ drop n rs0 → n ≤ m → is_on_at rs block m ≡ is_on_at rs0 block m
on_same n m block rs rs0 same low = ap (λ r. names block r.op) (same_from n m rs rs0 (request_of Pad Fake) same low)

pub on_edited : (n m block : ℕ) (a : Request) (rs rs0 : List Request) → drop n rs ≡ drop n rs0 → n < m → is_on_at (set rs n a) block m ≡ is_on_at rs0 block m
on_edited n m block a rs rs0 same low =
    ap (λ r. names block r.op) (get_or-set_other rs n m a (request_of Pad Fake) (λ e. omega arith)) ∙ on_same n m block rs rs0 same (omega arith)

-- the request of this number is answered with value `v`, and `after` is the value after it
pub record Turn (block n : ℕ) (v after : List ℕ) (rs rs0 : List Request) (d a : Request) : Type 0 where
  pub same : drop n rs ≡ drop n rs0
  pub here : is_on_at rs0 block n ≡ true
  pub answered : a ≡ answered (slice_index_or rs n d) v
  pub left : after ≡ value_after v (slice_index_or rs n d).op

pub turn_settled : (block n : ℕ) (v after : List ℕ) (rs rs0 : List Request) (d a : Request) → Turn block n v after rs rs0 d a
    → settled_from n block v rs ≡ settled_from (suc n) block after (set rs n a)
turn_settled block n v after rs rs0 d a t =
    let here : is_on_at rs block n ≡ true = on_same n n block rs rs0 t.same (omega arith) ∙ t.here in
    let at : slice_index_or rs n d ≡ request_at rs n = get_or_default rs n d (request_of Pad Fake) (on_within block n rs here) in
    let value : value_after v (request_at rs n).op ≡ after = ap (λ q. value_after v q.op) (sym at) ∙ sym t.left in
    let is : answered (request_at rs n) v ≡ a = ap (λ q. answered q v) (sym at) ∙ sym t.answered in
    settled_on n block v rs here ∙ (ap (λ w. settled_from (suc n) block w (set rs n (answered (request_at rs n) v))) value ∙ ap (λ q. settled_from (suc n) block after (set rs n q)) is)

pub turn_value : (block n : ℕ) (v after : List ℕ) (rs rs0 : List Request) (d a : Request) → Turn block n v after rs rs0 d a
    → value_from n block v rs ≡ value_from (suc n) block after (set rs n a)
turn_value block n v after rs rs0 d a t =
    let here : is_on_at rs block n ≡ true = on_same n n block rs rs0 t.same (omega arith) ∙ t.here in
    let at : slice_index_or rs n d ≡ request_at rs n = get_or_default rs n d (request_of Pad Fake) (on_within block n rs here) in
    let value : value_after v (request_at rs n).op ≡ after = ap (λ q. value_after v q.op) (sym at) ∙ sym t.left in
    let is : answered (request_at rs n) v ≡ a = ap (λ q. answered q v) (sym at) ∙ sym t.answered in
    value_on n block v rs here ∙ (ap (λ w. value_from (suc n) block w (set rs n (answered (request_at rs n) v))) value ∙ ap (λ q. value_from (suc n) block after (set rs n q)) is)

after_len : (v v0 : List ℕ) (op : Op) → length v ≡ length v0 → FitsIn v0 op → length (value_after v op) ≡ length v0
after_len v v0 (Read block) same fits = same
after_len v v0 (Write block value) same fits = sym fits
after_len v v0 Pad same fits = same

-- the value keeps its length
pub turn_len : (block n : ℕ) (v v0 after : List ℕ) (rs rs0 : List Request) (d a : Request) → Turn block n v after rs rs0 d a
    → length v ≡ length v0 → ((i : ℕ) → FitsIn v0 (request_at rs0 i).op) → length after ≡ length v0
turn_len block n v v0 after rs rs0 d a t same fits =
    let here : is_on_at rs block n ≡ true = on_same n n block rs rs0 t.same (omega arith) ∙ t.here in
    let at : slice_index_or rs n d ≡ request_at rs0 n
    = get_or_default rs n d (request_of Pad Fake) (on_within block n rs here) ∙ same_from n n rs rs0 (request_of Pad Fake) t.same (omega arith) in
    ap length t.left ∙ (ap (λ r. length (value_after v r.op)) at ∙ after_len v v0 (request_at rs0 n).op same (fits n))

-- the next request on the block is k
pub goes_on : (block n k : ℕ) (v after : List ℕ) (rs rs0 : List Request) (d a : Request) → Turn block n v after rs rs0 d a
    → n < k → ((m : ℕ) → n < m → m < k → is_on_at rs0 block m ≡ false)
    → (settled_from k block after (set rs n a) ≡ settled_from n block v rs) × (value_from k block after (set rs n a) ≡ value_from n block v rs)
goes_on block n k v after rs rs0 d a t low off =
    let at : suc n + (k - suc n) ≡ k = omega arith in
    let skipped : (m : ℕ) → suc n ≤ m → m < suc n + (k - suc n) → is_on_at (set rs n a) block m ≡ false
    = λ m below above. on_edited n m block a rs rs0 t.same (omega arith) ∙ off m (omega arith) (omega arith) in (
      sym (turn_settled block n v after rs rs0 d a t ∙ (settled_up_to (k - suc n) (suc n) block after (set rs n a) skipped ∙ ap (λ j. settled_from j block after (set rs n a)) at)),
      sym (turn_value block n v after rs rs0 d a t ∙ (value_up_to (k - suc n) (suc n) block after (set rs n a) skipped ∙ ap (λ j. value_from j block after (set rs n a)) at)),
    )

-- there is no further request on the block
pub comes_to_end : (block n : ℕ) (v after : List ℕ) (rs rs0 : List Request) (d a : Request) → Turn block n v after rs rs0 d a
    → ((m : ℕ) → n < m → is_on_at rs0 block m ≡ false)
    → (set rs n a ≡ settled_from n block v rs) × (after ≡ value_from n block v rs)
comes_to_end block n v after rs rs0 d a t off =
    let left : (m : ℕ) → suc n ≤ m → is_on_at (set rs n a) block m ≡ false = λ m below. on_edited n m block a rs rs0 t.same (omega arith) ∙ off m (omega arith) in (
      sym (turn_settled block n v after rs rs0 d a t ∙ settled_none (suc n) block after (set rs n a) left),
      sym (turn_value block n v after rs rs0 d a t ∙ value_none (suc n) block after (set rs n a) left),
    )

-- the wait of this number has the same next as in the first lists
pub next_same : (n : ℕ) (ws ws0 : List Wait) (d : Wait) → drop n ws ≡ drop n ws0 → n < length ws → (slice_index_or ws n d).next ≡ (wait_at ws0 n).next
next_same n ws ws0 d same within =
    ap (λ x. x.next) (get_or_default ws n d (record { next = None; room = [] }) within ∙ same_from n n ws ws0 (record { next = None; room = [] }) same (omega arith))

-- the request's wait has lost only its buffer
pub leaves_more : (block n : ℕ) (rs0 : List Request) (ws ws0 : List Wait) (d x : Wait) → LeavesOthers block rs0 ws0 ws → is_on_at rs0 block n ≡ true
    → n < length ws → x.next ≡ (slice_index_or ws n d).next → LeavesOthers block rs0 ws0 (set ws n x)
leaves_more block n rs0 ws ws0 d x h on within keeps = record {
  places = length-set ws n x ∙ h.places;
  next = λ i. next i (cases_eq i n);
  others = λ i off. others i off (cases_eq i n);
}
  where
    next : (i : ℕ) → (i ≡ n) ⊎ (i ≡ n → ⊥) → (wait_at (set ws n x) i).next ≡ (wait_at ws0 i).next
    next i (inl e) = ap (λ j. (wait_at (set ws n x) j).next) e
        ∙ (ap (λ y. y.next) (get_or-set_same ws n x (record { next = None; room = [] }) within)
        ∙ (keeps ∙ (ap (λ y. y.next) (get_or_default ws n d (record { next = None; room = [] }) within) ∙ (h.next n ∙ ap (λ j. (wait_at ws0 j).next) (sym e)))))
    next i (inr e) = ap (λ y. y.next) (get_or-set_other ws n i x (record { next = None; room = [] }) e) ∙ h.next i

    others : (i : ℕ) → is_on_at rs0 block i ≡ false → (i ≡ n) ⊎ (i ≡ n → ⊥) → wait_at (set ws n x) i ≡ wait_at ws0 i
    others i off (inl e) = absurd (true≢false (sym on ∙ (ap (λ j. is_on_at rs0 block j) (sym e) ∙ off)))
    others i off (inr e) = get_or-set_other ws n i x (record { next = None; room = [] }) e ∙ h.others i off
