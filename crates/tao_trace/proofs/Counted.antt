-- The counts after one more event, and their bounds. The events `es` are newest first.
use Rattle.std.proofs.Common.{◌≡◌, ℕ, zero, suc, ◌+◌, ◌*◌, ◌^◌, ◌<◌, ◌≤◌, ◌==◌, Bool, true, false, nat_lt, cond, List, [], ◌∷◌, length, map, reverse, Some, None, All, refl, sym, ap, ◌∙◌, subst, arith, add-one}
use Rattle.std.specs.List.{range_with_len, count_by, sum, sum_by}
use Rattle.std.proofs.Math.Nat.{mul-le-mul_left}
use Rattle.std.proofs.Math.Pow.{pow_mono}
use Rattle.std.specs.Option.{option_map}
use Rattle.std.proofs.lemmas.Option.{none-some, same_Some}
use Rattle.std.proofs.lemmas.Bool.{eq-eqb, true≢false}
use Rattle.std.proofs.lemmas.List.{length-map}
use Rattle.std.proofs.lemmas.List.FromFn.{length-range_with_len, sum_by-map-range_with_len_more}
use Rattle.std.proofs.lemmas.List.Elements.{All-set, All-get_or}
use Rattle.std.proofs.lemmas.List.Sums.{count_by-le-length, length-filter, sum_by-cons}
use Rattle.tao_base.specs.declared.calls.Op.{Op}
use Rattle.tao_base.specs.declared.calls.Op.TheVariants.{Read, Write, Pad}
use Rattle.tao_base.specs.declared.session.Event.{Event}
use Rattle.tao_base.specs.declared.session.Event.TheVariants.{Arrive, Done, Issue, Acked, Fault}
use Rattle.tao_base.specs.declared.storage.Bucket.{Bucket}
use Rattle.tao_base.specs.Array.{block_at, array_reply}
use Rattle.tao_base.specs.Session.{Opening, History}
use Rattle.tao_base.specs.Tree.{node_count}
use Rattle.tao_model.specs.Events.{arrived, issues, buckets_issued, is_pad, is_pad_op}
use Rattle.tao_model.specs.Requests.{is_real, real_now}
use Rattle.tao_model.specs.Replies.{array_now, plain_reply}
use Rattle.tao_model.specs.Residence.{last_touch}
use Rattle.tao_model.specs.Lawful.{FollowsLawfully, IsInRange}
use Rattle.tao_model.proofs.Stays.{real_stays}
use Rattle.tao_model.proofs.LawfulToWhole.{follows_opening, arrived_within}
use Rattle.tao_trace.specs.Counts.{reals, IsSummary}
use Rattle.tao_trace.specs.declared.counts.Summary.{Summary}
use Rattle.tao_trace.specs.Printing.{PrinterState, events_before, printed}
use Rattle.tao_trace.specs.Tables.{IsNext, IsTold}
use Rattle.tao_trace.specs.declared.tables.Told.{Told}
use Rattle.tao_trace.proofs.Traces.{all_before}
use Rattle.tao_trace.proofs.Following.{array_len, front_follows}

-- ---- real arrivals

-- one number more, where two tests agree on those before it
count_more : (p q : ℕ → Bool) (a n j : ℕ) → a + n ≡ j → ((i : ℕ) → i < j → q i ≡ p i)
    → count_by q (range_with_len a (suc n)) ≡ cond (q j) (count_by p (range_with_len a n) + 1) (count_by p (range_with_len a n))
count_more p q a zero j at same = alone (q a) ∙ ap (λ (k : ℕ). cond (q k) 1 0) (let here : a ≡ j = omega arith in here)
  where
    alone : (b : Bool) → 0 + cond b 1 0 ≡ cond b 1 0
    alone true = refl
    alone false = refl
count_more p q a (suc n) j at same =
    sum_by-cons (λ i. cond (q i) 1 0) a (range_with_len (a + 1) (suc n))
    ∙ ap (λ (m : ℕ). cond (q a) 1 0 + m) (count_more p q (a + 1) n j (omega arith) same)
    ∙ ap (λ (b : Bool). cond b 1 0 + cond (q j) (count_by p (range_with_len (a + 1) n) + 1) (count_by p (range_with_len (a + 1) n))) (same a (omega arith))
    ∙ later (q j) (cond (p a) 1 0) (count_by p (range_with_len (a + 1) n))
    ∙ ap (λ (m : ℕ). cond (q j) (m + 1) m) (sym (sum_by-cons (λ i. cond (p i) 1 0) a (range_with_len (a + 1) n)))
  where
    later : (b : Bool) (m c : ℕ) → m + cond b (c + 1) c ≡ cond b (m + c + 1) (m + c)
    later true m c = omega arith
    later false m c = refl

pub reals_more : (es : List Event) (client : ℕ) (op : Op) (word : ℕ) → reals (Arrive client op word ∷ es) ≡ cond (real_now es op) (reals es + 1) (reals es)
reals_more es client op word =
    ap (λ n. count_by (is_real (Arrive client op word ∷ es)) (range_with_len 0 n)) (add-one (arrived es))
    ∙ count_more (is_real es) (is_real (Arrive client op word ∷ es)) 0 (arrived es) (arrived es) (omega arith) (λ i low. real_stays es (Arrive client op word) i low)
    ∙ ap (λ b. cond b (count_by (is_real es) (range_with_len 0 (arrived es)) + 1) (count_by (is_real es) (range_with_len 0 (arrived es)))) (newest es client op word)
  where
    newest : (es : List Event) (client : ℕ) (op : Op) (word : ℕ) → is_real (Arrive client op word ∷ es) (arrived es) ≡ real_now es op
    newest es client op word = rw (eq-eqb (arrived es) (arrived es) refl) refl

pub few_reals : (o : Opening) (es : List Event) → FollowsLawfully o es → reals es ≤ 65536
few_reals o es f =
    let within = arrived_within o es f in
    let low = count_by-le-length (is_real es) (range_with_len 0 (arrived es)) in
    let len = length-range_with_len 0 (arrived es) in
    omega (arith, within, low, len)

pub real_then : (h : History) (place real client word : ℕ) (op : Op) (now : Bool) (d : Event) → IsNext h place d → d ≡ Arrive client op word
    → now ≡ real_now (events_before h place) op → now ≡ true → real ≡ reals (events_before h place) → real + 1 ≡ reals (events_before h (place + 1))
real_then h place real client word op now d n arrives is real_is before =
    ap (λ k. k + 1) before
    ∙ ap (λ b. cond b (reals (events_before h place) + 1) (reals (events_before h place))) (sym real_is ∙ is)
    ∙ sym (reals_more (events_before h place) client op word)
    ∙ sym (ap reals (n.before ∙ ap (λ e. e ∷ events_before h place) arrives))

pub real_else : (h : History) (place real client word : ℕ) (op : Op) (now : Bool) (d : Event) → IsNext h place d → d ≡ Arrive client op word
    → now ≡ real_now (events_before h place) op → now ≡ false → real ≡ reals (events_before h place) → real ≡ reals (events_before h (place + 1))
real_else h place real client word op now d n arrives is fake_is before =
    before
    ∙ ap (λ b. cond b (reals (events_before h place) + 1) (reals (events_before h place))) (sym fake_is ∙ is)
    ∙ sym (reals_more (events_before h place) client op word)
    ∙ sym (ap reals (n.before ∙ ap (λ e. e ∷ events_before h place) arrives))

pub real_fits : (h : History) (place real : ℕ) (d : Event) → IsNext h place d → real ≡ reals (events_before h place) → real ≤ 65536
real_fits h place real d n before = let few = few_reals h.opening (events_before h place) n.follows.0 in omega (arith, few, before)

-- ---- buckets

-- a write-back has each node at most once
few_written : (o : Opening) (es : List Event) (version nonce : ℕ) (buckets : List Bucket) → FollowsLawfully o (Issue version nonce buckets ∷ es) → length buckets ≤ node_count o.shape.l
few_written o es version nonce buckets f =
    let named = sym (length-map buckets (λ (bucket : Bucket). bucket.node)) ∙ ap length f.2.nodes in
    let passed = length-filter touched (range_with_len 1 (node_count o.shape.l)) in
    let shorter = count_by-le-length touched (range_with_len 1 (node_count o.shape.l)) in
    let all = length-range_with_len 1 (node_count o.shape.l) in
    omega (arith, named, passed, shorter, all)
  where
    touched : ℕ → Bool
    touched node = nat_lt (issues es * o.shape.k) (last_touch o es node)

few_buckets : (o : Opening) (es : List Event) → FollowsLawfully o es → buckets_issued es ≤ issues es * node_count o.shape.l
few_buckets o [] f = omega arith
few_buckets o (Arrive client op word ∷ es) f = few_buckets o es f.0
few_buckets o (Done arrival taken ∷ es) f = few_buckets o es f.0
few_buckets o (Issue version nonce buckets ∷ es) f =
    let before = few_buckets o es f.0 in
    let here = few_written o es version nonce buckets f in
    let next : (issues es + 1) * node_count o.shape.l ≡ issues es * node_count o.shape.l + node_count o.shape.l = omega arith in
    omega (arith, before, here, next)
few_buckets o (Acked version ∷ es) f = few_buckets o es f.0
few_buckets o (Fault cause ∷ es) f = few_buckets o es f.0

few_nodes : (l : ℕ) → l ≤ 16 → node_count l ≤ 131072
few_nodes l high = let most : 2 ^ (l + 1) ≤ 2 ^ 17 = pow_mono {i = l + 1} {j = 17} (omega arith) in omega (arith, most)

pub buckets_fit : (h : History) (place count version nonce : ℕ) (buckets : List Bucket) → IsNext h place (Issue version nonce buckets)
    → count ≡ buckets_issued (events_before h place) → count + length buckets ≤ version * 131072
buckets_fit h place count version nonce buckets n before =
    let few = few_buckets h.opening (Issue version nonce buckets ∷ events_before h place) n.follows in
    let next = n.follows.2.next in
    let small : node_count h.opening.shape.l ≤ 131072 = few_nodes h.opening.shape.l (follows_opening h.opening (events_before h place) n.follows.0).shape.height_high in
    let most = mul-le-mul_left (issues (events_before h place) + 1) small in
    let same : version * 131072 ≡ (issues (events_before h place) + 1) * 131072 = ap (λ v. v * 131072) next in
    omega (arith, few, most, same, before)

-- ---- bytes

-- all values are whole blocks
values_now : (o : Opening) (es : List Event) → FollowsLawfully o es → All (λ value. length value ≡ o.shape.b) (array_now o es)
values_now o [] f = f.values
values_now o (Arrive client (Read id) word ∷ es) f = values_now o es f.0
values_now o (Arrive client (Write id value) word ∷ es) f = All-set (λ value. length value ≡ o.shape.b) (array_now o es) id value f.2.3.1 (values_now o es f.0)
values_now o (Arrive client Pad word ∷ es) f = values_now o es f.0
values_now o (Done arrival taken ∷ es) f = values_now o es f.0
values_now o (Issue version nonce buckets ∷ es) f = values_now o es f.0
values_now o (Acked version ∷ es) f = values_now o es f.0
values_now o (Fault cause ∷ es) f = values_now o es f.0

block_len : (o : Opening) (es : List Event) (id : ℕ) → FollowsLawfully o es → id < o.shape.n → length (block_at (array_now o es) id) ≤ o.shape.b
block_len o es id f small =
    let blocks = (follows_opening o es f).blocks in
    let len = array_len o es in
    let whole = All-get_or (λ (value : List ℕ). length value ≡ o.shape.b) (array_now o es) id [] (omega (arith, small, blocks, len)) (values_now o es f) in
    omega (arith, whole)

reply_len : (o : Opening) (es : List Event) (i : ℕ) → FollowsLawfully o es → length (plain_reply o es i) ≤ o.shape.b
reply_len o [] i f = omega arith
reply_len o (Arrive client op word ∷ es) i f = either (i == arrived es) (newest op f.2.3) (reply_len o es i f.0)
  where
    newest : (op : Op) → IsInRange o.shape op → length (array_reply (array_now o es) op) ≤ o.shape.b
    newest (Read id) range = block_len o es id f.0 range
    newest (Write id value) range = block_len o es id f.0 range.0
    newest Pad range = omega arith

    either : (t : Bool) → length (array_reply (array_now o es) op) ≤ o.shape.b → length (plain_reply o es i) ≤ o.shape.b → length (cond t (array_reply (array_now o es) op) (plain_reply o es i)) ≤ o.shape.b
    either true new old = new
    either false new old = old
reply_len o (Done arrival taken ∷ es) i f = reply_len o es i f.0
reply_len o (Issue version nonce buckets ∷ es) i f = reply_len o es i f.0
reply_len o (Acked version ∷ es) i f = reply_len o es i f.0
reply_len o (Fault cause ∷ es) i f = reply_len o es i f.0

-- a pad is answered nothing
pad_reply : (o : Opening) (es : List Event) (i : ℕ) → is_pad es i ≡ true → plain_reply o es i ≡ []
pad_reply o [] i pad = refl
pad_reply o (Arrive client op word ∷ es) i pad = either (i == arrived es) op pad (pad_reply o es i)
  where
    either : (t : Bool) (op : Op) → cond t (is_pad_op op) (is_pad es i) ≡ true → (is_pad es i ≡ true → plain_reply o es i ≡ [])
        → cond t (array_reply (array_now o es) op) (plain_reply o es i) ≡ []
    either true (Read id) is older = absurd (true≢false (sym is))
    either true (Write id value) is older = absurd (true≢false (sym is))
    either true Pad is older = refl
    either false op is older = older is
pad_reply o (Done arrival taken ∷ es) i pad = pad_reply o es i pad
pad_reply o (Issue version nonce buckets ∷ es) i pad = pad_reply o es i pad
pad_reply o (Acked version ∷ es) i pad = pad_reply o es i pad
pad_reply o (Fault cause ∷ es) i pad = pad_reply o es i pad

-- one reply more
pub sum_more : (f : ℕ → List ℕ) (total more j : ℕ) → total ≡ sum_by sum (map f (range_with_len 0 j)) → more ≡ sum (f j)
    → total + more ≡ sum_by sum (map f (range_with_len 0 (j + 1)))
sum_more f total more j before is =
    ap (λ n. n + more) before ∙ ap (λ n. sum_by sum (map f (range_with_len 0 j)) + n) is ∙ sym (sum_by-map-range_with_len_more sum f 0 j j (omega arith))

-- what a row tells of its reply
pub reply_told : (o : Opening) (es : List Event) (i : ℕ) (row : Told) (value : _) → IsTold o es i row → row.reply ≡ Some value → value.now ≡ plain_reply o es i
reply_told o es i row value told some = either (is_pad es i) (sym (ap (option_map (λ v. v.now)) some) ∙ told.reply)
  where
    either : (pad : Bool) → Some value.now ≡ cond pad None (Some (plain_reply o es i)) → value.now ≡ plain_reply o es i
    either true is = absurd (none-some value.now (sym is))
    either false is = same_Some value.now (plain_reply o es i) is

pub pad_told : (o : Opening) (es : List Event) (i : ℕ) (row : Told) → IsTold o es i row → row.reply ≡ None → plain_reply o es i ≡ []
pad_told o es i row told none = either (is_pad es i) refl (sym (ap (option_map (λ v. v.now)) none) ∙ told.reply)
  where
    either : (pad : Bool) → is_pad es i ≡ pad → None ≡ cond pad None (Some (plain_reply o es i)) → plain_reply o es i ≡ []
    either true pad is = pad_reply o es i pad
    either false pad is = absurd (none-some (plain_reply o es i) is)

pub reply_fits : (h : History) (place i : ℕ) → FollowsLawfully h.opening (reverse h.events) → length (plain_reply h.opening (events_before h place) i) ≤ 4096
reply_fits h place i follows =
    let f = front_follows h place follows in
    let len = reply_len h.opening (events_before h place) i f in
    let most = (follows_opening h.opening (events_before h place) f).shape.block_high in
    omega (arith, len, most)

-- the counts behind the last event are those of the record
pub whole_summary : (h : History) (t : PrinterState) (numbers : Summary) → t.history ≡ h → t.place ≡ length h.events
    → IsSummary t.history.opening (printed t) numbers → IsSummary h.opening (reverse h.events) numbers
whole_summary h t numbers same end is = subst (λ es. IsSummary h.opening es numbers) (all_before h t.place end)
    (subst (λ (x : History). IsSummary x.opening (events_before x t.place) numbers) same is)
