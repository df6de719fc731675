-- The requests follow the arrivals of a record. The events `es` are newest first.
use Rattle.std.proofs.Common.{◌≡◌, ℕ, zero, suc, ◌+◌, ◌<◌, ◌≤◌, Bool, true, false, not, ◌&&◌, ◌||◌, List, [], ◌∷◌, ◌++◌, reverse, length, map, take, Option, Some, None, is_some, is_none, refl, ap, sym, ◌∙◌, subst, arith, inl, inr, ◌⊎◌, get_or}
use Rattle.std.specs.Prelude.{if◌then◌else◌}
use Rattle.std.specs.List.{list_any}
use Rattle.std.proofs.lemmas.Bool.{true≢false, ne_eqb, eq-eqb, cases_lt, cases_eq}
use Rattle.std.proofs.lemmas.List.{reverse-reverse, get_or-map, map-append, length-map, take_all}
use Rattle.std.proofs.lemmas.List.Folds.{list_any_more}
use Rattle.tao_base.specs.Session.{Opening}
use Rattle.tao_base.specs.declared.calls.Op.{Op}
use Rattle.tao_base.specs.declared.calls.Op.TheVariants.{Read, Write, Pad}
use Rattle.tao_base.specs.declared.session.Event.{Event}
use Rattle.tao_base.specs.declared.session.Event.TheVariants.{Arrive, Done, Issue, Acked, Fault}
use Rattle.tao_base.specs.declared.storage.Bucket.{Bucket}
use Rattle.tao_model.specs.Greatest.{IsLast}
use Rattle.tao_model.specs.Events.{arrived, is_done, is_on, is_pad, names, is_pad_op}
use Rattle.tao_model.specs.Requests.{any_below, is_real, real_now, settler, is_settled}
use Rattle.tao_model.specs.Replies.{op_of, ops}
use Rattle.tao_model.specs.Lawful.{FollowsLawfully}
use Rattle.tao_model.specs.LookBacks.{is_real_on}
use Rattle.tao_model.proofs.DonesInOrder.{picked_more, picked_same}
use Rattle.tao_model.proofs.Places.{done_arrived}
use Rattle.tao_model.proofs.PlainArrays.{ops_listed}
use Rattle.tao_model.proofs.RealArrivals.{free_means, real_newest, on_newest, earlier_done}
use Rattle.tao_model.proofs.Stays.{newest_first, on_stays, pad_stays, real_stays, settler_stays}
use Rattle.tao_requests.specs.declared.request.Kind.{Kind}
use Rattle.tao_requests.specs.declared.request.Kind.TheVariants.{Real, Fake}
use Rattle.tao_requests.specs.declared.request.Request.{Request}
use Rattle.tao_requests.specs.State.{is_real_kind, waits, waits_on, kind_on, kind_now, first_answer, request_at, request_of, block_of, op_block, IsUnderWay}
use Rattle.tao_requests.specs.Settling.{settled_from}
use Rattle.tao_requests.specs.Queues.{is_on_at}
use Rattle.tao_requests.specs.Laws.{Follows, KindIsReal, FollowsNone, FollowsArrive, FollowsReal, FollowsFake, FollowsFurther}
use Rattle.tao_requests.proofs.SettledLists.{settled_off, settled_there, settled_same, settled_ops}
use Rattle.tao_requests.proofs.KeptQueues.{own_block}
use Rattle.tao_requests.proofs.NewRequests.{names_one, new_at, old_at}
use Rattle.tao_requests.proofs.Arrivals.{on_listed, pad_listed, no_pad, settler_last, both, and_both, settles_itself, pad_fake}

-- ---- the relation to the reversed record

pub record Following (es : List Event) (rs : List Request) : Type 0 where
  pub listed : map (λ r. r.op) rs ≡ ops (reverse es)
  pub kinds : (i : ℕ) → i < arrived es → is_real_kind (request_at rs i).kind ≡ is_real es i
  pub settled : (i : ℕ) → i < arrived es → is_some (request_at rs i).answer ≡ is_settled es i

pub following : (events : List Event) (rs : List Request) → Follows events rs → Following (reverse events) rs
following events rs f = record { listed = f.ops ∙ ap ops (sym (reverse-reverse events)); kinds = f.kinds; settled = f.settled }

pub followed : (events : List Event) (rs : List Request) → Following (reverse events) rs → Follows events rs
followed events rs f = record { ops = f.listed ∙ ap ops (reverse-reverse events); kinds = f.kinds; settled = f.settled }

pub followed_more : (events : List Event) (e : Event) (rs : List Request) → Following (e ∷ reverse events) rs → Follows (events ++ e ∷ []) rs
followed_more events e rs f = followed (events ++ e ∷ []) rs (subst (λ es. Following es rs) (sym (newest_first events e)) f)

pub as_many : (es : List Event) (rs : List Request) → Following es rs → length rs ≡ arrived es
as_many es rs f = sym (length-map rs (λ r. r.op)) ∙ (ap length f.listed ∙ ops_listed es)

pub op_is : (es : List Event) (rs : List Request) → Following es rs → (i : ℕ) → i < arrived es → get_or (ops (reverse es)) i Pad ≡ (request_at rs i).op
op_is es rs f i below = ap (λ l. get_or l i Pad) (sym f.listed) ∙ get_or-map (λ r. r.op) rs i (request_of Pad Fake) Pad (omega (arith, as_many es rs f))

pub on_is : (es : List Event) (rs : List Request) → Following es rs → (i block : ℕ) → i < arrived es → is_on es i block ≡ is_on_at rs block i
on_is es rs f i block below = on_listed es i block below ∙ ap (names block) (op_is es rs f i below)

pub pad_is : (es : List Event) (rs : List Request) → Following es rs → (i : ℕ) → i < arrived es → is_pad es i ≡ is_pad_op (request_at rs i).op
pad_is es rs f i below = pad_listed es i below ∙ ap is_pad_op (op_is es rs f i below)

-- ---- settlers

pub settled_on : (es : List Event) (rs : List Request) → Following es rs → (i block : ℕ) → i < arrived es → is_on es i block ≡ true → is_settled es i ≡ is_done es (settler es i)
settled_on es rs f i block below on = rw (pad_is es rs f i below ∙ no_pad block (request_at rs i).op (sym (on_is es rs f i block below) ∙ on)) refl

-- ---- the kind

any_listed : (p : ℕ → Bool) (q : Request → Bool) (rs : List Request) (n : ℕ) → n ≤ length rs → ((i : ℕ) → i < n → q (request_at rs i) ≡ p i) → any_below p n ≡ list_any q (take n rs)
any_listed p q rs zero within same = refl
any_listed p q rs (suc n) within same =
    ap (λ x. p n || x) (any_listed p q rs n (omega arith) (λ i low. same i (omega arith)))
    ∙ (swap (p n) (list_any q (take n rs)) ∙ (ap (λ x. list_any q (take n rs) || x) (sym (same n (omega arith)))
    ∙ (sym (list_any_more q rs n (request_of Pad Fake) (omega arith)) ∙ ap (λ m. list_any q (take m rs)) (add n))))
  where
    swap : (x y : Bool) → (x || y) ≡ (y || x)
    swap true true = refl
    swap true false = refl
    swap false true = refl
    swap false false = refl

    add : (m : ℕ) → m + 1 ≡ suc m
    add m = omega arith

under_way_same : (w x y d : Bool) → (x ≡ true → y ≡ true → w ≡ not d) → (w && (y && x)) ≡ (x && (y && not d))
under_way_same w true true d h = rw (h refl refl) (last (not d))
  where
    last : (z : Bool) → (z && true) ≡ z
    last true = refl
    last false = refl
under_way_same true true false d h = refl
under_way_same false true false d h = refl
under_way_same true false true d h = refl
under_way_same false false true d h = refl
under_way_same true false false d h = refl
under_way_same false false false d h = refl

none_is : (o : Option (List ℕ)) (d : Bool) → is_some o ≡ d → is_none o ≡ not d
none_is None d e = ap not e
none_is (Some v) d e = ap not e

kind_of_block : (es : List Event) (rs : List Request) (block : ℕ) → Following es rs
    → is_real_kind (kind_on rs block) ≡ not (any_below (λ i. is_on es i block && (is_real es i && not (is_done es i))) (arrived es))
kind_of_block es rs block f = kind (list_any (waits_on block) rs) ∙ ap not (sym whole)
  where
    kind : (x : Bool) → is_real_kind (if x then Fake else Real) ≡ not x
    kind true = refl
    kind false = refl

    same : (i : ℕ) → i < arrived es → waits_on block (request_at rs i) ≡ (is_on es i block && (is_real es i && not (is_done es i)))
    same i below = ap (λ x. waits (request_at rs i) && (is_real_kind (request_at rs i).kind && x)) (sym (on_is es rs f i block below))
        ∙ (ap (λ y. waits (request_at rs i) && (y && is_on es i block)) (f.kinds i below)
        ∙ under_way_same (waits (request_at rs i)) (is_on es i block) (is_real es i) (is_done es i)
        (λ on real. none_is (request_at rs i).answer (is_done es i) (f.settled i below ∙ (settled_on es rs f i block below on ∙ ap (is_done es) (settles_itself es i block below on real)))))

    whole : any_below (λ i. is_on es i block && (is_real es i && not (is_done es i))) (arrived es) ≡ list_any (waits_on block) rs
    whole = any_listed (λ i. is_on es i block && (is_real es i && not (is_done es i))) (waits_on block) rs (arrived es) (omega (arith, as_many es rs f)) same
        ∙ ap (list_any (waits_on block)) (take_all (arrived es) rs (omega (arith, as_many es rs f)))

pub kind_follows : (es : List Event) (rs : List Request) (op : Op) → Following es rs → is_real_kind (kind_now rs op) ≡ real_now es op
kind_follows es rs (Read b) f = kind_of_block es rs b f
kind_follows es rs (Write b value) f = kind_of_block es rs b f
kind_follows es rs Pad f = refl

pub kind_is_real : KindIsReal
kind_is_real events rs op f = kind_follows (reverse events) rs op (following events rs f)

-- ---- one more event

-- a new arrival waits unless it is a pad
new_waits : (o : Opening) (es : List Event) (rs : List Request) (client : ℕ) (op : Op) (word block : ℕ) → FollowsLawfully o es → Following es rs → names block op ≡ true
    → is_settled (Arrive client op word ∷ es) (arrived es) ≡ false
new_waits o es rs client op word block lawful f named = rw (pad (no_pad block op named)) (waiting (cases_lt (settler (Arrive client op word ∷ es) (arrived es)) (arrived es)))
  where
    pad : is_pad_op op ≡ false → is_pad (Arrive client op word ∷ es) (arrived es) ≡ false
    pad e = rw (eq-eqb (arrived es) (arrived es) refl) e

    last : IsLast (is_real_on (Arrive client op word ∷ es) block) (arrived es + 1) (Some (settler (Arrive client op word ∷ es) (arrived es)))
    last = settler_last (Arrive client op word ∷ es) (arrived es) block (omega arith) (on_newest es client op word block ∙ named)

    -- if the last real one before it were done, it would be real itself
    undone : (s : ℕ) → IsLast (is_real_on (Arrive client op word ∷ es) block) (arrived es + 1) (Some s) → s < arrived es → is_done es s ≡ true → ⊥
    undone s l low done = true≢false (sym (and_both (is_real (Arrive client op word ∷ es) (arrived es)) (is_on (Arrive client op word ∷ es) (arrived es) block) real
        (on_newest es client op word block ∙ named)) ∙ l.2 (arrived es) low (omega arith))
      where
        here : (is_real es s ≡ true) × (is_on es s block ≡ true)
        here = both (is_real es s) (is_on es s block)
            (sym (ap (λ x. x && is_on (Arrive client op word ∷ es) s block) (real_stays es (Arrive client op word) s low)
            ∙ ap (λ x. is_real es s && x) (on_stays es (Arrive client op word) s block low)) ∙ l.1)

        each : (i : ℕ) → i < arrived es → is_on es i block ≡ true → is_real es i ≡ true → (i < s) ⊎ (s ≤ i) → (i ≡ s) ⊎ (i ≡ s → ⊥) → is_done es i ≡ true
        each i below on r (inl less) e = earlier_done es s i block low here.1 here.0 less on r
        each i below on r (inr more) (inl e) = ap (is_done es) e ∙ done
        each i below on r (inr more) (inr e) = absurd (true≢false (sym (and_both (is_real (Arrive client op word ∷ es) i) (is_on (Arrive client op word ∷ es) i block)
            (real_stays es (Arrive client op word) i below ∙ r) (on_stays es (Arrive client op word) i block below ∙ on)) ∙ l.2 i (omega (arith, e)) (omega arith)))

        real : is_real (Arrive client op word ∷ es) (arrived es) ≡ true
        real = real_newest es client op word
            ∙ (free_means (is_on es) (is_real es) (is_done es) (arrived es) block op named).1 (λ i below on r. each i below on r (cases_lt i s) (cases_eq i s))

    waiting : (settler (Arrive client op word ∷ es) (arrived es) < arrived es) ⊎ (arrived es ≤ settler (Arrive client op word ∷ es) (arrived es))
        → is_done es (settler (Arrive client op word ∷ es) (arrived es)) ≡ false
    waiting (inr high) = done_arrived o es (settler (Arrive client op word ∷ es) (arrived es)) lawful high
    waiting (inl low) = which (is_done es (settler (Arrive client op word ∷ es) (arrived es))) refl
      where
        which : (x : Bool) → is_done es (settler (Arrive client op word ∷ es) (arrived es)) ≡ x → is_done es (settler (Arrive client op word ∷ es) (arrived es)) ≡ false
        which true e = absurd (undone (settler (Arrive client op word ∷ es) (arrived es)) last low e)
        which false e = e

new_settled : (o : Opening) (es : List Event) (rs : List Request) (client : ℕ) (op : Op) (word : ℕ) → FollowsLawfully o es → Following es rs
    → is_some (first_answer op) ≡ is_settled (Arrive client op word ∷ es) (arrived es)
new_settled o es rs client (Read b) word lawful f = sym (new_waits o es rs client (Read b) word b lawful f (eq-eqb b b refl))
new_settled o es rs client (Write b value) word lawful f = sym (new_waits o es rs client (Write b value) word b lawful f (eq-eqb b b refl))
new_settled o es rs client Pad word lawful f = rw (eq-eqb (arrived es) (arrived es) refl) refl

arrives : (o : Opening) (es : List Event) (rs : List Request) (client : ℕ) (op : Op) (word : ℕ) → FollowsLawfully o es → Following es rs
    → Following (Arrive client op word ∷ es) (rs ++ request_of op (kind_now rs op) ∷ [])
arrives o es rs client op word lawful f = record {
  listed = map-append (λ r. r.op) rs (request_of op (kind_now rs op) ∷ []) ∙ (ap (λ l. l ++ op ∷ []) f.listed ∙ sym (picked_more op_of es (Arrive client op word)));
  kinds = λ i below. kinds i below (cases_eq i (arrived es));
  settled = λ i below. settled i below (cases_eq i (arrived es));
}
  where
    len : length rs ≡ arrived es
    len = as_many es rs f

    new : request_at (rs ++ request_of op (kind_now rs op) ∷ []) (arrived es) ≡ request_of op (kind_now rs op)
    new = ap (request_at (rs ++ request_of op (kind_now rs op) ∷ [])) (sym len) ∙ new_at rs (request_of op (kind_now rs op))

    old : (i : ℕ) → (i ≡ arrived es → ⊥) → request_at (rs ++ request_of op (kind_now rs op) ∷ []) i ≡ request_at rs i
    old i other = old_at rs (request_of op (kind_now rs op)) i (λ e. other (e ∙ len))

    kinds : (i : ℕ) → i < arrived es + 1 → (i ≡ arrived es) ⊎ (i ≡ arrived es → ⊥)
        → is_real_kind (request_at (rs ++ request_of op (kind_now rs op) ∷ []) i).kind ≡ is_real (Arrive client op word ∷ es) i
    kinds i below (inl e) = ap (λ j. is_real_kind (request_at (rs ++ request_of op (kind_now rs op) ∷ []) j).kind) e
        ∙ (ap (λ r. is_real_kind r.kind) new ∙ (kind_follows es rs op f ∙ (sym (real_newest es client op word) ∙ ap (is_real (Arrive client op word ∷ es)) (sym e))))
    kinds i below (inr e) = ap (λ r. is_real_kind r.kind) (old i e) ∙ (f.kinds i (omega (arith, e)) ∙ sym (real_stays es (Arrive client op word) i (omega (arith, e))))

    settled : (i : ℕ) → i < arrived es + 1 → (i ≡ arrived es) ⊎ (i ≡ arrived es → ⊥)
        → is_some (request_at (rs ++ request_of op (kind_now rs op) ∷ []) i).answer ≡ is_settled (Arrive client op word ∷ es) i
    settled i below (inl e) = ap (λ j. is_some (request_at (rs ++ request_of op (kind_now rs op) ∷ []) j).answer) e
        ∙ (ap (λ r. is_some r.answer) new ∙ (new_settled o es rs client op word lawful f ∙ ap (is_settled (Arrive client op word ∷ es)) (sym e)))
    settled i below (inr e) = ap (λ r. is_some r.answer) (old i e) ∙ (f.settled i (omega (arith, e))
        ∙ (ap (λ x. x || is_done es (settler es i)) (sym (pad_stays es (Arrive client op word) i (omega (arith, e))))
        ∙ ap (λ j. is_pad (Arrive client op word ∷ es) i || is_done es j) (sym (settler_stays es (Arrive client op word) i (omega (arith, e))))))

pub follows_arrive : FollowsArrive
follows_arrive o events rs client op word lawful f =
    followed_more events (Arrive client op word) (rs ++ request_of op (kind_now rs op) ∷ []) (arrives o (reverse events) rs client op word lawful (following events rs f))

-- an arrival on another block than a real one, or before it, has another settler
other_settler : (es : List Event) (rs : List Request) → Following es rs → (i j : ℕ) → j < arrived es → is_pad es j ≡ false → (settler es j ≡ i → ⊥)
    → (taken : List Bucket) → is_settled (Done i taken ∷ es) j ≡ is_settled es j
other_settler es rs f i j below pad other taken = rw (ne_eqb i (settler es j) (λ e. other (sym e))) refl

-- the settler of an arrival that is no pad
pub record HasSettler (es : List Event) (rs : List Request) (j : ℕ) : Type 0 where
  pub block : ℕ
  pub is_on : is_on es j block ≡ true
  pub last : IsLast (is_real_on es block) (j + 1) (Some (settler es j))

has_settler : (es : List Event) (rs : List Request) → Following es rs → (j : ℕ) → j < arrived es → is_pad es j ≡ false → HasSettler es rs j
has_settler es rs f j below pad =
    let on : is_on es j (op_block (request_at rs j).op) ≡ true
    = on_is es rs f j (op_block (request_at rs j).op) below ∙ own_block (request_at rs j).op (sym (pad_is es rs f j below) ∙ pad) in
    record { block = op_block (request_at rs j).op; is_on = on; last = settler_last es j (op_block (request_at rs j).op) below on }

pad_settled : (es : List Event) (j i : ℕ) (taken : List Bucket) → is_pad es j ≡ true → is_settled (Done i taken ∷ es) j ≡ is_settled es j
pad_settled es j i taken pad = rw pad refl

-- the Done of a fake arrival
fake_done : (es : List Event) (rs : List Request) (i : ℕ) (taken : List Bucket) → Following es rs → is_real es i ≡ false → Following (Done i taken ∷ es) rs
fake_done es rs i taken f fake = record {
  listed = f.listed ∙ sym (picked_same op_of es (Done i taken) refl);
  kinds = f.kinds;
  settled = λ j below. f.settled j below ∙ sym (same j below (is_pad es j) refl);
}
  where
    same : (j : ℕ) → j < arrived es → (x : Bool) → is_pad es j ≡ x → is_settled (Done i taken ∷ es) j ≡ is_settled es j
    same j below true e = pad_settled es j i taken e
    same j below false e = other_settler es rs f i j below e (λ at. let h = has_settler es rs f j below e in
        true≢false (sym (both (is_real es (settler es j)) (is_on es (settler es j) h.block) h.last.1).0 ∙ (ap (is_real es) at ∙ fake))) taken

pub follows_fake : FollowsFake
follows_fake events rs i taken f fake = followed_more events (Done i taken) rs (fake_done (reverse events) rs i taken (following events rs f) fake)

pub follows_none : FollowsNone
follows_none = record { ops = refl; kinds = λ i below. absurd (omega arith); settled = λ i below. absurd (omega arith) }

pub follows_further : FollowsFurther
follows_further events rs f =
    let g = following events rs f in
    record {
      issue = λ version nonce buckets. followed_more events (Issue version nonce buckets) rs
          (record { listed = g.listed ∙ sym (picked_same op_of (reverse events) (Issue version nonce buckets) refl); kinds = g.kinds; settled = g.settled });
      acked = λ version. followed_more events (Acked version) rs
          (record { listed = g.listed ∙ sym (picked_same op_of (reverse events) (Acked version) refl); kinds = g.kinds; settled = g.settled });
      fault = λ cause. followed_more events (Fault cause) rs
          (record { listed = g.listed ∙ sym (picked_same op_of (reverse events) (Fault cause) refl); kinds = g.kinds; settled = g.settled });
    }

-- ---- the Done of a real arrival

under_way : (es : List Event) (rs : List Request) (i : ℕ) → Following es rs → i < arrived es → is_real es i ≡ true → is_pad es i ≡ false → is_done es i ≡ false → IsUnderWay rs i
under_way es rs i f below real pad undone = record {
  is_real = kind (request_at rs i).kind (f.kinds i below ∙ real);
  waits = none (request_at rs i).answer (f.settled i below ∙ (settled_on es rs f i h.block below h.is_on ∙ (ap (is_done es) (settles_itself es i h.block below h.is_on real) ∙ undone)));
}
  where
    h : HasSettler es rs i
    h = has_settler es rs f i below pad

    kind : (k : Kind) → is_real_kind k ≡ true → k ≡ Real
    kind Real e = refl
    kind Fake e = absurd (true≢false (sym e))

    none : (a : Option (List ℕ)) → is_some a ≡ false → a ≡ None
    none None e = refl
    none (Some v) e = absurd (true≢false e)

real_done : (es : List Event) (rs : List Request) (i : ℕ) (taken : List Bucket) (value : List ℕ) → Following es rs → i < arrived es → is_real es i ≡ true → is_done es i ≡ false
    → Following (Done i taken ∷ es) (settled_from i (block_of rs i) value rs)
real_done es rs i taken value f below real undone = record {
  listed = settled_ops i (block_of rs i) value rs ∙ (f.listed ∙ sym (picked_same op_of es (Done i taken) refl));
  kinds = λ j low. ap is_real_kind (settled_same i (block_of rs i) value rs j).kind ∙ f.kinds j low;
  settled = λ j low. settled j low (is_pad es j) refl (cases_lt j i) (is_on_at rs (block_of rs i) j) refl;
}
  where
    here : is_on es i (block_of rs i) ≡ true
    here = on_is es rs f i (block_of rs i) below ∙ own_block (request_at rs i).op (sym (pad_is es rs f i below) ∙ pad_fake es i real)

    -- the settler of an arrival on the block, no earlier than the real one
    its_settler : (j s : ℕ) → i ≤ j → IsLast (is_real_on es (block_of rs i)) (j + 1) (Some s) → j < arrived es → (s < i) ⊎ (i ≤ s) → (s ≡ i) ⊎ (s ≡ i → ⊥) → s ≡ i
    its_settler j s more l low (inl less) e = absurd (true≢false (sym (and_both (is_real es i) (is_on es i (block_of rs i)) real here) ∙ l.2 i less (omega arith)))
    its_settler j s more l low (inr up) (inl e) = e
    its_settler j s more l low (inr up) (inr e) = let at = both (is_real es s) (is_on es s (block_of rs i)) l.1 in
        let within : s < j + 1 = l.0 in
        absurd (true≢false (sym (earlier_done es s i (block_of rs i) (omega arith) at.1 at.0 (omega (arith, e)) here real) ∙ undone))

    settled : (j : ℕ) → j < arrived es → (x : Bool) → is_pad es j ≡ x → (j < i) ⊎ (i ≤ j) → (y : Bool) → is_on_at rs (block_of rs i) j ≡ y
        → is_some (request_at (settled_from i (block_of rs i) value rs) j).answer ≡ is_settled (Done i taken ∷ es) j
    settled j low true pad order y on =
        ap (λ r. is_some r.answer) (settled_off i (block_of rs i) value rs j
        (λ up o. true≢false (sym (sym (pad_is es rs f j low) ∙ pad) ∙ no_pad (block_of rs i) (request_at rs j).op o)))
        ∙ (f.settled j low ∙ sym (pad_settled es j i taken pad))
    settled j low false pad (inl less) y on =
        ap (λ r. is_some r.answer) (settled_off i (block_of rs i) value rs j (λ up o. omega arith))
        ∙ (f.settled j low ∙ sym (other_settler es rs f i j low pad (λ at. let h = has_settler es rs f j low pad in let within : settler es j < j + 1 = h.last.0 in omega arith) taken))
    settled j low false pad (inr more) false on =
        ap (λ r. is_some r.answer) (settled_off i (block_of rs i) value rs j (λ up o. true≢false (sym o ∙ on)))
        ∙ (f.settled j low ∙ sym (other_settler es rs f i j low pad (λ at. let h = has_settler es rs f j low pad in
        let there : is_on es i h.block ≡ true = ap (λ k. is_on es k h.block) (sym at) ∙ (both (is_real es (settler es j)) (is_on es (settler es j) h.block) h.last.1).1 in
        let same : h.block ≡ block_of rs i = names_one h.block (block_of rs i) (request_at rs i).op (sym (on_is es rs f i h.block below) ∙ there) (sym (on_is es rs f i (block_of rs i) below) ∙ here) in
        true≢false (sym (sym (on_is es rs f j (block_of rs i) low) ∙ (ap (is_on es j) (sym same) ∙ h.is_on)) ∙ on)) taken))
    settled j low false pad (inr more) true on =
        let there = settled_there i (block_of rs i) value rs j more on in
        let on_j : is_on es j (block_of rs i) ≡ true = on_is es rs f j (block_of rs i) low ∙ on in
        let is : settler es j ≡ i = its_settler j (settler es j) more (settler_last es j (block_of rs i) low on_j) low (cases_lt (settler es j) i) (cases_eq (settler es j) i) in
        ap (λ r. is_some r.answer) there.1 ∙ rw (pad, eq-eqb i (settler es j) (sym is)) refl

pub follows_real : FollowsReal
follows_real events rs i taken value f below real undone =
    let g = following events rs f in (
      under_way (reverse events) rs i g below real (pad_fake (reverse events) i real) undone,
      followed_more events (Done i taken) (settled_from i (block_of rs i) value rs) (real_done (reverse events) rs i taken value g below real undone),
    )
