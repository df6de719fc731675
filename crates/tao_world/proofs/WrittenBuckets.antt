-- The buckets that were written: in form, of their version, and with small numbers. The events `es` are newest first.
use Rattle.std.proofs.Common.{◌≡◌, ℕ, zero, suc, ◌+◌, ◌*◌, ◌^◌, ◌<◌, ◌≤◌, Bool, true, false, cond, List, [], ◌∷◌, ◌++◌, map, reverse, length, get_or, All, Some, None, is_some, refl, sym, ap, ◌∙◌, subst, arith, inl, inr, ◌⊎◌, nat_eq, ◌/◌}
use Rattle.std.specs.List.{filter_map, range_with_len}
use Rattle.std.proofs.Math.Nat.{min-le_left, mul-le-mul}
use Rattle.std.proofs.Math.Pow.{pow_mono}
use Rattle.std.proofs.lemmas.Bool.{cases_lt, cases_eq, true≢false, eqb-true}
use Rattle.std.proofs.lemmas.Option.{same_Some}
use Rattle.std.proofs.lemmas.List.{reverse-reverse, get_or_append_left, get_or_push, get_or_past, length_push, length-map, get_or-map}
use Rattle.std.proofs.lemmas.List.FromFn.{get_or-range_with_len, length-range_with_len}
use Rattle.std.proofs.lemmas.List.Elements.{All-nil, All-head, All-tail, All-weaker, filter_map-append}
use Rattle.tao_base.specs.declared.session.Event.{Event}
use Rattle.tao_base.specs.declared.session.Event.TheVariants.{Arrive, Done, Issue, Acked, Fault}
use Rattle.tao_base.specs.declared.storage.Bucket.{Bucket}
use Rattle.tao_base.specs.Buckets.{IsInForm}
use Rattle.tao_base.specs.Limits.{IsShape, bucket_len}
use Rattle.tao_base.specs.Session.{Opening, History}
use Rattle.tao_base.specs.Tree.{node_count}
use Rattle.tao_bucket.specs.Encoding.{Encodes, encoded, format_of}
use Rattle.tao_bucket.proofs.Whole.{encoded_parts, encoding_of}
use Rattle.tao_model.specs.Events.{issues, buckets_issued}
use Rattle.tao_model.specs.Residence.{bucket_of}
use Rattle.tao_model.specs.LookBacks.{buckets_of, written, written_at}
use Rattle.tao_model.specs.Lawful.{IsLawful, OpensWithLoad, FollowsLawfully}
use Rattle.tao_model.proofs.DonesInOrder.{picked_more, picked_same}
use Rattle.tao_model.proofs.LawfulToWhole.{follows_opening}
use Rattle.tao_model.proofs.NewestWrites.{versions_listed}
use Rattle.tao_laws.proofs.CountedWork.{work_from}
use Rattle.tao_tables.proofs.KeptWrites.{nonces_are_few}
use Rattle.tao_images.specs.Answers.{with_event}
use Rattle.tao_world.specs.Shows.{EncodesWritten}

-- ---- what was written stays

pub written_within : (o : Opening) (events : List Event) (v node : ℕ) (b : Bucket) → written_at o events v node ≡ Some b → v < length (written o events)
written_within o events v node b is = either (cases_lt v (length (written o events)))
  where
    either : (v < length (written o events)) ⊎ (length (written o events) ≤ v) → v < length (written o events)
    either (inl low) = low
    either (inr past) = absurd (true≢false (sym (ap is_some is) ∙ ap (λ bs. is_some (bucket_of node bs)) (get_or_past (written o events) v [] past)))

pub written_grows : (o : Opening) (events later : List Event) (v node : ℕ) (b : Bucket) → written_at o events v node ≡ Some b → written_at o (events ++ later) v node ≡ Some b
written_grows o events later v node b is =
    ap (λ l. bucket_of node (get_or (o.loaded ∷ l) v [])) (filter_map-append buckets_of events later)
    ∙ ap (bucket_of node) (get_or_append_left (written o events) (filter_map buckets_of later) [] v (written_within o events v node b is)) ∙ is

pub still_written : (key : List ℕ) (h : History) (e : Event) (v node : ℕ) (bytes : List ℕ) → EncodesWritten key h v node bytes → EncodesWritten key (with_event h e) v node bytes
still_written key h e v node bytes is = (is.0, written_grows h.opening h.events (e ∷ []) v node is.0 is.1, is.2)

-- ---- its form

pub record IsFine (o : Opening) (bound v : ℕ) (b : Bucket) : Type 0 where
  pub version : b.version ≡ v
  pub in_form : IsInForm o.shape b
  pub nonce : b.nonce < bound

-- the next nonce
abbrev next_nonce : Opening → List Event → ℕ
next_nonce o es = node_count o.shape.l + 1 + buckets_issued es

nonce_low : (buckets : List Bucket) (start n k : ℕ) (d : Bucket) → map (λ bucket. bucket.nonce) buckets ≡ range_with_len start n → k < n → k < length buckets
    → (get_or buckets k d).nonce < start + n
nonce_low buckets start n k d are low within =
    let here : (get_or buckets k d).nonce ≡ start + k =
    sym (get_or-map (λ bucket. bucket.nonce) buckets k d 0 within) ∙ ap (λ l. get_or l k 0) are ∙ get_or-range_with_len start n k 0 low
    in
    omega arith

loaded_fine : (o : Opening) → OpensWithLoad o → All (IsFine o (next_nonce o []) 0) o.loaded
loaded_fine o opens = λ k d low.
    let count : length o.loaded ≡ node_count o.shape.l = sym (length-map o.loaded (λ bucket. bucket.node)) ∙ ap length opens.numbered.nodes ∙ length-range_with_len 1 (node_count o.shape.l) in
    record {
      version = opens.numbered.versions k d low;
      in_form = opens.in_form k d low;
      nonce = let few = nonce_low o.loaded 1 (node_count o.shape.l) k d opens.numbered.nonces (omega arith) low in omega arith;
    }

same_step : (o : Opening) (es : List Event) (e : Event) (v bound : ℕ) → buckets_of e ≡ None → All (IsFine o bound v) (get_or (written o (reverse es)) v [])
    → All (IsFine o bound v) (get_or (written o (reverse (e ∷ es))) v [])
same_step o es e v bound none all = subst (λ l. All (IsFine o bound v) (get_or (o.loaded ∷ l) v [])) (sym (picked_same buckets_of es e none)) all

weaker : (o : Opening) (bound more v : ℕ) (buckets : List Bucket) → bound ≤ more → All (IsFine o bound v) buckets → All (IsFine o more v) buckets
weaker o bound more v buckets up all =
    All-weaker (IsFine o bound v) (IsFine o more v) (λ b fine. record { version = fine.version; in_form = fine.in_form; nonce = let few = fine.nonce in omega arith }) buckets all

fine_from : (o : Opening) (es : List Event) (v : ℕ) → OpensWithLoad o → FollowsLawfully o es → All (IsFine o (next_nonce o es) v) (get_or (written o (reverse es)) v [])
fine_from o [] zero opens f = loaded_fine o opens
fine_from o [] (suc v) opens f = All-nil (IsFine o (next_nonce o []) (suc v))
fine_from o (Arrive client op word ∷ es) v opens f = same_step o es (Arrive client op word) v (next_nonce o es) refl (fine_from o es v opens f.0)
fine_from o (Done arrival taken ∷ es) v opens f = same_step o es (Done arrival taken) v (next_nonce o es) refl (fine_from o es v opens f.0)
fine_from o (Issue version nonce buckets ∷ es) v opens f =
    subst (λ l. All P (get_or (o.loaded ∷ l) v [])) (sym (picked_more buckets_of es (Issue version nonce buckets)))
    (either (cases_lt v (length (written o (reverse es)))) (cases_eq v (length (written o (reverse es)))) (fine_from o es v opens f.0))
  where
    P : Bucket → Type 0
    P = IsFine o (next_nonce o (Issue version nonce buckets ∷ es)) v

    new : v ≡ version → All P buckets
    new same = λ k d low. record {
      version = f.2.versions k d low ∙ sym same;
      in_form = f.2.in_form k d low;
      nonce = let few = nonce_low buckets nonce (length buckets) k d f.2.nonces low low in let start = f.2.counts_on in omega arith;
    }

    either : (v < length (written o (reverse es))) ⊎ (length (written o (reverse es)) ≤ v) → (v ≡ length (written o (reverse es))) ⊎ (v ≡ length (written o (reverse es)) → ⊥)
        → All (IsFine o (next_nonce o es) v) (get_or (written o (reverse es)) v []) → All P (get_or (written o (reverse es) ++ buckets ∷ []) v [])
    either (inl low) which ih =
        subst (All P) (sym (get_or_append_left (written o (reverse es)) (buckets ∷ []) [] v low)) (weaker o (next_nonce o es) (next_nonce o (Issue version nonce buckets ∷ es)) v (get_or (written o (reverse es)) v []) (omega arith) ih)
    either (inr past) (inl same) ih =
        subst (All P) (sym (get_or_push (written o (reverse es)) buckets [] v (sym same))) (new (same ∙ versions_listed o es ∙ sym f.2.next))
    either (inr past) (inr other) ih =
        let long = length_push (written o (reverse es)) buckets in
        subst (All P) (sym (get_or_past (written o (reverse es) ++ buckets ∷ []) v [] (omega (arith, other)))) (All-nil P)
fine_from o (Acked version ∷ es) v opens f = same_step o es (Acked version) v (next_nonce o es) refl (fine_from o es v opens f.0)
fine_from o (Fault cause ∷ es) v opens f = same_step o es (Fault cause) v (next_nonce o es) refl (fine_from o es v opens f.0)

found_in : (P : Bucket → Type 0) (node : ℕ) (buckets : List Bucket) (x : Bucket) → All P buckets → bucket_of node buckets ≡ Some x → P x × (x.node ≡ node)
found_in P node [] x all is = absurd (true≢false (sym (ap is_some is)))
found_in P node (b ∷ buckets) x all is = either (nat_eq b.node node) refl is (found_in P node buckets x (All-tail P b buckets all))
  where
    either : (t : Bool) → nat_eq b.node node ≡ t → cond t (Some b) (bucket_of node buckets) ≡ Some x → (bucket_of node buckets ≡ Some x → P x × (x.node ≡ node)) → P x × (x.node ≡ node)
    either true same here later = subst (λ y. P y × (y.node ≡ node)) (same_Some b x here) (All-head P b buckets all, eqb-true b.node node same)
    either false same other later = later other

pub written_fine : (h : History) (v node : ℕ) (b : Bucket) → IsLawful h → written_at h.opening h.events v node ≡ Some b
    → IsFine h.opening (next_nonce h.opening (reverse h.events)) v b × (b.node ≡ node)
written_fine h v node b lawful is =
    found_in (IsFine h.opening (next_nonce h.opening (reverse h.events)) v) node (get_or (written h.opening h.events) v []) b
    (subst (λ l. All (IsFine h.opening (next_nonce h.opening (reverse h.events)) v) (get_or (written h.opening l) v [])) (reverse-reverse h.events)
    (fine_from h.opening (reverse h.events) v lawful.opens lawful.follows)) is

-- ---- its bytes

module _ (key : List ℕ) (h : History) (lawful : IsLawful h) (v node : ℕ) (b : Bucket) (is : written_at h.opening h.events v node ≡ Some b) where
  shape : IsShape h.opening.shape
  shape = (follows_opening h.opening (reverse h.events) lawful.follows).shape

  fine : IsFine h.opening (next_nonce h.opening (reverse h.events)) v b × (b.node ≡ node)
  fine = written_fine h v node b lawful is

  pub written_len : length (encoded key h.opening.shape (format_of h.opening.shape.form v) b) ≡ bucket_len h.opening.shape
  written_len = (encoded_parts key h.opening.shape (format_of h.opening.shape.form v) b shape fine.0.in_form).0

  few_nodes : node_count h.opening.shape.l < 2 ^ 17
  few_nodes = let high = shape.height_high in let up : 2 ^ (h.opening.shape.l + 1) ≤ 2 ^ 17 = pow_mono {j = 17} (omega arith) in omega arith

  few_issues : issues (reverse h.events) ≤ 65536
  few_issues =
      let work = work_from h.opening (reverse h.events) lawful.follows in
      let low = work.written in
      let most = work.limit in
      let cap = min-le_left 65536 (2 ^ 31 / (2 * h.opening.shape.z * (h.opening.shape.l + 1) * (h.opening.shape.b + 8))) in
      omega arith

  pub written_encodes : Encodes key h.opening.shape (format_of h.opening.shape.form v) b (encoded key h.opening.shape (format_of h.opening.shape.form v) b)
  written_encodes =
      let within = written_within h.opening h.events v node b is in
      let count = ap (λ l. length (written h.opening l)) (sym (reverse-reverse h.events)) ∙ versions_listed h.opening (reverse h.events) in
      let version = fine.0.version in
      let nonce = fine.0.nonce in
      let few = nonces_are_few h.opening h.events lawful.follows in
      let product : issues (reverse h.events) * node_count h.opening.shape.l ≤ 65536 * 2 ^ 17 = mul-le-mul {n₂ = 65536} {m₂ = 131072} few_issues (let n = few_nodes in omega arith) in
      let i = few_issues in
      let n = few_nodes in
      (encoding_of key h.opening.shape (format_of h.opening.shape.form v) b (encoded key h.opening.shape (format_of h.opening.shape.form v) b) shape fine.0.in_form
      (omega (arith, i, count, within, version)) (omega (arith, nonce, few, product, n))).1 refl
