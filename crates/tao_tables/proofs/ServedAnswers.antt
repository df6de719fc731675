-- The answers that a proxy keeps are the record's. The events `es` are newest first.
use Rattle.std.proofs.Common.{◌≡◌, ℕ, ◌+◌, ◌-◌, ◌<◌, ◌≤◌, Bool, true, false, ◌||◌, cond, List, [], ◌∷◌, reverse, length, take, drop, set, Option, Some, is_some, IsSome, refl, sym, ap, ◌∙◌, subst, arith, inl, inr, ◌⊎◌, nat_eq}
use Rattle.std.proofs.lemmas.Bool.{eq-eqb, eqb-true, true≢false}
use Rattle.std.proofs.lemmas.List.{drop-map, drop-take, length-set, get_or-set_same}
use Rattle.tao_base.specs.declared.calls.Op.{Op}
use Rattle.tao_base.specs.declared.calls.Op.TheVariants.{Read, Write, Pad}
use Rattle.tao_base.specs.declared.session.Event.{Event}
use Rattle.tao_base.specs.declared.session.Event.TheVariants.{Done}
use Rattle.tao_base.specs.declared.storage.Bucket.{Bucket}
use Rattle.tao_base.specs.Session.{Opening}
use Rattle.tao_base.specs.Array.{array_after, block_at}
use Rattle.tao_model.specs.Events.{arrived, is_done, is_on, is_pad, names}
use Rattle.tao_model.specs.Requests.{is_real, settler, is_settled}
use Rattle.tao_model.specs.Replies.{ops}
use Rattle.tao_model.specs.Lawful.{FollowsLawfully, MayBeDone}
use Rattle.tao_model.proofs.Stays.{newest_first}
use Rattle.tao_model.proofs.LawfulToWhole.{follows_opening}
use Rattle.tao_laws.proofs.OpenArrivals.{pad_or_on, settles, settler_real_on}
use Rattle.tao_laws.proofs.RightValues.{reply_at}
use Rattle.tao_requests.specs.declared.request.Request.{Request}
use Rattle.tao_requests.specs.State.{request_at, block_of, op_block}
use Rattle.tao_requests.specs.Settling.{settled_from, value_from, KeepsAnswers}
use Rattle.tao_requests.specs.Laws.{ops_from}
use Rattle.tao_requests.proofs.Followed.{Following, following, on_is}
use Rattle.tao_requests.proofs.PlainAnswers.{answers_are_plain, value_is_plain}
use Rattle.tao_held.specs.Held.{held, found_in, found_value, block_on, value_since, value_between, served_answer}
use Rattle.tao_held.proofs.Blocks as blocks
use Rattle.tao_held.proofs.HeldAnswers.{since_fold, between_fold, served_stays_once}
use Rattle.tao_tables.specs.Answers.{AreServed, BlockIsSame, SettlesRight, ServedReal}

op_named : (block : ℕ) (op : Op) → names block op ≡ true → op_block op ≡ block
op_named block (Read id) named = eqb-true id block named
op_named block (Write id value) named = eqb-true id block named
op_named block Pad named = absurd (true≢false (sym named))

block_same : (es : List Event) (rs : List Request) (i : ℕ) → Following es rs → i < arrived es → is_real es i ≡ true → block_of rs i ≡ block_on es i
block_same es rs i follows there real =
    op_named (block_on es i) (request_at rs i).op (sym (on_is es rs follows i (block_on es i) there) ∙ blocks.real_on es i there real)

pub block_is_same : BlockIsSame
block_is_same events rs i follows there real = block_same (reverse events) rs i (following events rs follows) there real

-- the operations from an arrival on, as the record and as the requests have them
ops_listed_from : (es : List Event) (rs : List Request) (i : ℕ) → Following es rs → ops_from i rs ≡ drop i (ops (reverse es))
ops_listed_from es rs i f = sym (drop-map (λ r. r.op) i rs) ∙ ap (drop i) f.listed

answer_given : (es : List Event) (rs : List Request) (array : List (List ℕ)) (block i k : ℕ) → Following es rs → block < length array → i + k < arrived es
    → is_on es (i + k) block ≡ true
    → (request_at (settled_from i block (block_at array block) rs) (i + k)).answer ≡ Some (value_between es block i (i + k) (block_at array block))
answer_given es rs array block i k f low there on =
    let named : names block (request_at rs (i + k)).op ≡ true = sym (on_is es rs f (i + k) block there) ∙ on in
    answers_are_plain array block i k rs low named
    ∙ ap Some
    (reply_at (array_after array (take k (ops_from i rs))) block (request_at rs (i + k)).op named
    ∙ ap (λ l. block_at (array_after array (take k l)) block) (ops_listed_from es rs i f)
    ∙ ap (λ l. block_at (array_after array l) block) (sym (drop-take i k (ops (reverse es))))
    ∙ sym (between_fold es array block i (i + k) low))

value_left : (es : List Event) (rs : List Request) (array : List (List ℕ)) (block i : ℕ) → Following es rs → block < length array
    → value_from i block (block_at array block) rs ≡ value_since es block i (block_at array block)
value_left es rs array block i f low =
    value_is_plain array block i rs low ∙ ap (λ l. block_at (array_after array l) block) (ops_listed_from es rs i f) ∙ sym (since_fold es array block i low)

-- ---- an arrival that this Done settles

record IsSettledNow (es : List Event) (i j block : ℕ) : Type 0 where
  later : i ≤ j
  on : is_on es j block ≡ true
  by : settler es j ≡ i
  no_pad : is_pad es j ≡ false

settled_now : (es : List Event) (i : ℕ) (taken : List Bucket) (block j : ℕ) → i < arrived es → is_on es i block ≡ true → j < arrived es → is_settled es j ≡ false
    → is_settled (Done i taken ∷ es) j ≡ true → IsSettledNow es i j block
settled_now es i taken block j arrived_i on_i there before now = either (is_pad es j) refl before now (pad_or_on es j there)
  where
    by_done : is_pad es j ≡ false → (d : Bool) → is_done es (settler es j) ≡ d → d ≡ false → (nat_eq i (settler es j) || d) ≡ true
        → (is_pad es j ≡ true) ⊎ ((b : ℕ) × (is_on es j b ≡ true)) → IsSettledNow es i j block
    by_done no_pad true is off on place = absurd (true≢false off)
    by_done no_pad false is off on (inl pad) = absurd (true≢false (sym pad ∙ no_pad))
    by_done no_pad false is off on (inr place) =
        let same : settler es j ≡ i = sym (eqb-true i (settler es j) (either_left (nat_eq i (settler es j)) on)) in
        let within = (settles es j place.0 there place.1).0 in
        let real_on = settler_real_on es j place.0 there place.1 in
        let one : place.0 ≡ block = sym (blocks.on_is es i place.0 arrived_i (ap (λ k. is_on es k place.0) (sym same) ∙ real_on.1)) ∙ blocks.on_is es i block arrived_i on_i in
        record { later = omega arith; on = ap (is_on es j) (sym one) ∙ place.1; by = same; no_pad = no_pad }
      where
        either_left : (x : Bool) → (x || false) ≡ true → x ≡ true
        either_left true h = h
        either_left false h = h

    either : (p : Bool) → is_pad es j ≡ p → (p || is_done es (settler es j)) ≡ false → (p || (nat_eq i (settler es j) || is_done es (settler es j))) ≡ true
        → (is_pad es j ≡ true) ⊎ ((b : ℕ) × (is_on es j b ≡ true)) → IsSettledNow es i j block
    either true is off on place = absurd (true≢false off)
    either false is off on place = by_done is (is_done es (settler es j)) refl off on place

served_now : (o : Opening) (es : List Event) (i : ℕ) (taken : List Bucket) (x : List ℕ) (j block : ℕ) → i < arrived es → is_on es i block ≡ true → j < arrived es → IsSettledNow es i j block
    → x ≡ found_in o es (λ w. held o es w) i taken → value_between es block i j x ≡ served_answer o (Done i taken ∷ es) j
unfolding served_answer found_value
served_now o es i taken x j block arrived_i on_i there s found =
    ap (value_between es block i j) (found ∙ sym (ap (λ t. cond t (found_in o es (λ w. held o es w) i taken) (found_value o es i)) (eq-eqb i i refl)))
    ∙ ap (λ k. value_between es block k j (found_value o (Done i taken ∷ es) k)) (sym s.by)
    ∙ ap (λ b. value_between es b (settler es j) j (found_value o (Done i taken ∷ es) (settler es j))) (sym (blocks.on_is es j block there s.on))
    ∙ sym (ap (λ t. cond t [] (value_between es (block_on es j) (settler es j) j (found_value o (Done i taken ∷ es) (settler es j)))) s.no_pad)

some_there : {X : Type 0} (a : Option X) (y : X) → a ≡ Some y → IsSome a
some_there a y is = ap is_some is

served_from : (o : Opening) (es : List Event) (i : ℕ) (taken : List Bucket) (x : List ℕ) (rs : List Request) → FollowsLawfully o (Done i taken ∷ es) → Following es rs → AreServed o es rs
    → is_real es i ≡ true → x ≡ found_in o es (λ w. held o es w) i taken → KeepsAnswers rs (settled_from i (block_of rs i) x rs)
    → SettlesRight o es (Done i taken ∷ es) i x rs
served_from o es i taken x rs f follows served real found keeps = record {
  served = λ j there now. each j there now (is_settled es j) refl;
  left = ap (λ b. value_from i b x rs) same_block ∙ ap (λ v. value_from i (block_on es i) v rs) (sym here) ∙ value_left es rs array (block_on es i) i follows low
      ∙ ap (value_since es (block_on es i) i) here;
  block = same_block;
}
  where
    may : MayBeDone o es i taken
    may = f.2.1

    on : is_on es i (block_on es i) ≡ true
    on = blocks.real_on es i may.arrived real

    same_block : block_of rs i ≡ block_on es i
    same_block = block_same es rs i follows may.arrived real

    below : block_on es i < length o.first
    below = let opening = follows_opening o es f.0 in let long = opening.blocks in let small = blocks.on_below o es i (block_on es i) f.0 may.arrived on in omega (arith, long)

    -- an array that has the found value at the block
    array : List (List ℕ)
    array = set o.first (block_on es i) x

    low : block_on es i < length array
    low = let long = length-set o.first (block_on es i) x in omega (arith, below)

    here : block_at array (block_on es i) ≡ x
    here = get_or-set_same o.first (block_on es i) x [] below

    fresh : (j : ℕ) → j < arrived es → IsSettledNow es i j (block_on es i) → (request_at (settled_from i (block_of rs i) x rs) j).answer ≡ Some (served_answer o (Done i taken ∷ es) j)
    fresh j there s =
        let later = s.later in
        let split : i + (j - i) ≡ j = omega arith in
        ap (λ b. (request_at (settled_from i b x rs) j).answer) same_block
        ∙ ap (λ v. (request_at (settled_from i (block_on es i) v rs) j).answer) (sym here)
        ∙ subst (λ n. (request_at (settled_from i (block_on es i) (block_at array (block_on es i)) rs) n).answer ≡ Some (value_between es (block_on es i) i n (block_at array (block_on es i)))) split
        (answer_given es rs array (block_on es i) i (j - i) follows low (omega arith) (ap (λ n. is_on es n (block_on es i)) split ∙ s.on))
        ∙ ap (λ v. Some (value_between es (block_on es i) i j v)) here
        ∙ ap Some (served_now o es i taken x j (block_on es i) may.arrived on there s found)

    each : (j : ℕ) → j < arrived es → is_settled (Done i taken ∷ es) j ≡ true → (t : Bool) → is_settled es j ≡ t
        → (request_at (settled_from i (block_of rs i) x rs) j).answer ≡ Some (served_answer o (Done i taken ∷ es) j)
    each j there now true before =
        let had = served j there before in
        keeps j (some_there (request_at rs j).answer (served_answer o es j) had) ∙ had ∙ ap Some (sym (served_stays_once o es (Done i taken) j f there before))
    each j there now false before = fresh j there (settled_now es i taken (block_on es i) j may.arrived on there before now)

pub served_real : ServedReal
served_real o events i taken x rs = rw (newest_first events (Done i taken)) (λ f follows served real found keeps.
    served_from o (reverse events) i taken x rs f (following events rs follows) served real found keeps)
