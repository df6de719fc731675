-- Which arrivals are real, and where a block lies. The events `es` are newest first.
use Rattle.std.proofs.Common.{◌≡◌, ℕ, zero, suc, ◌+◌, ◌<◌, ◌≤◌, Bool, true, false, not, ◌&&◌, ◌||◌, List, [], ◌∷◌, ◌++◌, reverse, Option, Some, None, refl, sym, ap, ◌∙◌, subst, arith, inl, inr, ◌⊎◌, ◌↔◌, slice_index}
use Rattle.std.specs.Option.{option_map_or}
use Rattle.std.proofs.lemmas.Bool.{ne_eqb, eq-eqb, cases_lt, cases_eq, eqb-true, and_parts, lt-ltb, true≢false, false_from_ne_true}
use Rattle.std.proofs.lemmas.List.{reverse-append, append_assoc}
use Rattle.tao_base.specs.declared.calls.Op.{Op}
use Rattle.tao_base.specs.declared.calls.Op.TheVariants.{Read, Write, Pad}
use Rattle.tao_base.specs.declared.session.Event.{Event}
use Rattle.tao_base.specs.declared.session.Event.TheVariants.{Arrive, Done, Issue, Acked, Fault}
use Rattle.tao_base.specs.declared.storage.Bucket.{Bucket}
use Rattle.tao_base.specs.Session.{Opening}
use Rattle.tao_base.specs.Tree.{leaf_of}
use Rattle.tao_model.specs.Greatest.{IsLast}
use Rattle.tao_model.specs.Events.{arrived, is_done, is_on, names, word_of, word_at}
use Rattle.tao_model.specs.Requests.{any_below, is_free, is_real, real_now, position_word}
use Rattle.tao_model.specs.Lawful.{FollowsLawfully}
use Rattle.tao_model.specs.LookBacks.{RealMeans, PositionIsLast, has_moved}
use Rattle.tao_model.proofs.Stays.{on_stays, real_stays}
use Rattle.tao_model.proofs.Places.{done_arrived, stays_later}
use Rattle.tao_model.proofs.Growth.{done_stays}
use Rattle.tao_model.proofs.OneMoreEvent.{done_word}

-- ---- whether some number below n passes

pub none_passes : (passes : ℕ → Bool) (n : ℕ) → any_below passes n ≡ false → (i : ℕ) → i < n → passes i ≡ false
none_passes passes zero h i below = absurd (omega arith)
none_passes passes (suc n) h i below = either (cases_eq i n) (λ parts. none_passes passes n parts i)
  where
    first : (x y : Bool) → (x || y) ≡ false → x ≡ false
    first false y e = refl
    first true y e = e

    second : (x y : Bool) → (x || y) ≡ false → y ≡ false
    second false y e = e
    second true y e = absurd (true≢false e)

    either : (i ≡ n) ⊎ (i ≡ n → ⊥) → (any_below passes n ≡ false → i < n → passes i ≡ false) → passes i ≡ false
    either (inl same) ih = ap passes same ∙ first (passes n) (any_below passes n) h
    either (inr other) ih = ih (second (passes n) (any_below passes n) h) (omega (arith, other))

pub passes_none : (passes : ℕ → Bool) (n : ℕ) → ((i : ℕ) → i < n → passes i ≡ false) → any_below passes n ≡ false
passes_none passes zero h = refl
passes_none passes (suc n) h = rw (h n (omega arith)) (passes_none passes n (λ i below. h i (omega arith)))

-- ---- no real arrival on a block is under way

-- each earlier real arrival on the block is done
abbrev pub AllDone : (ℕ → ℕ → Bool) → (ℕ → Bool) → (ℕ → Bool) → ℕ → ℕ → Type 0
AllDone on real finished n block = (i : ℕ) → i < n → on i block ≡ true → real i ≡ true → finished i ≡ true

done_if : (x y z : Bool) → (x && (y && not z)) ≡ false → x ≡ true → y ≡ true → z ≡ true
done_if x y true h a b = refl
done_if true true false h a b = absurd (true≢false h)
done_if true false false h a b = absurd (true≢false (sym b))
done_if false y false h a b = absurd (true≢false (sym a))

if_done : (x y z : Bool) → (x ≡ true → y ≡ true → z ≡ true) → (x && (y && not z)) ≡ false
if_done false y z h = refl
if_done true false z h = refl
if_done true true true h = refl
if_done true true false h = absurd (true≢false (sym (h refl refl)))

not_true : (x : Bool) → not x ≡ true → x ≡ false
not_true false h = refl
not_true true h = absurd (true≢false (sym h))

free_block : (on : ℕ → ℕ → Bool) (real finished : ℕ → Bool) (n block : ℕ)
    → (not (any_below (λ i. on i block && (real i && not (finished i))) n) ≡ true) ↔ AllDone on real finished n block
free_block on real finished n block = (
  λ h i below a b. done_if (on i block) (real i) (finished i)
      (none_passes (λ i. on i block && (real i && not (finished i))) n (not_true (any_below (λ i. on i block && (real i && not (finished i))) n) h) i below) a b,
  λ h. ap not (passes_none (λ i. on i block && (real i && not (finished i))) n (λ i below. if_done (on i block) (real i) (finished i) (λ a b. h i below a b))),
)

pub free_means : (on : ℕ → ℕ → Bool) (real finished : ℕ → Bool) (n block : ℕ) (op : Op) → names block op ≡ true
    → (is_free on real finished n op ≡ true) ↔ AllDone on real finished n block
free_means on real finished n block (Read id) named =
    let same : id ≡ block = eqb-true id block named in
    subst (λ b. (is_free on real finished n (Read id) ≡ true) ↔ AllDone on real finished n b) same (free_block on real finished n id)
free_means on real finished n block (Write id value) named =
    let same : id ≡ block = eqb-true id block named in
    subst (λ b. (is_free on real finished n (Write id value) ≡ true) ↔ AllDone on real finished n b) same (free_block on real finished n id)
free_means on real finished n block Pad named = absurd (true≢false (sym named))

pub real_newest : (es : List Event) (client : ℕ) (op : Op) (word : ℕ) → is_real (Arrive client op word ∷ es) (arrived es) ≡ real_now es op
real_newest es client op word = rw (eq-eqb (arrived es) (arrived es) refl) refl

pub on_newest : (es : List Event) (client : ℕ) (op : Op) (word block : ℕ) → is_on (Arrive client op word ∷ es) (arrived es) block ≡ names block op
on_newest es client op word block = rw (eq-eqb (arrived es) (arrived es) refl) refl

-- a record split at one event, reversed
pub looked_back : (before after : List Event) (e : Event) → reverse (before ++ e ∷ after) ≡ reverse after ++ e ∷ reverse before
looked_back before after e =
    reverse-append before (e ∷ after) ∙ ap (λ l. l ++ reverse before) (reverse-append (e ∷ []) after) ∙ append_assoc (reverse after) (e ∷ []) (reverse before)

pub real_means : RealMeans
real_means before after client op word block named =
    subst (λ t. (t ≡ true) ↔ AllDone (is_on (reverse before)) (is_real (reverse before)) (is_done (reverse before)) (arrived (reverse before)) block) (sym is)
    (free_means (is_on (reverse before)) (is_real (reverse before)) (is_done (reverse before)) (arrived (reverse before)) block op named)
  where
    is : is_real (reverse (before ++ Arrive client op word ∷ after)) (arrived (reverse before)) ≡ real_now (reverse before) op
    is = ap (λ l. is_real l (arrived (reverse before))) (looked_back before after (Arrive client op word))
        ∙ stays_later (λ l. is_real l (arrived (reverse before))) (arrived (reverse before) + 1) (λ l e k. real_stays l e (arrived (reverse before)) (omega arith))
        (reverse after) (Arrive client op word ∷ reverse before) (omega arith)
        ∙ real_newest (reverse before) client op word

-- ---- of two real arrivals on a block the earlier one is done

-- of two real arrivals on a block, the earlier one is done once the later one comes
pub earlier_done : (es : List Event) (j i block : ℕ) → j < arrived es → is_on es j block ≡ true → is_real es j ≡ true → i < j → is_on es i block ≡ true → is_real es i ≡ true
    → is_done es i ≡ true
earlier_done [] j i block below on real less on_i real_i = absurd (omega arith)
earlier_done (Arrive client op word ∷ es) j i block below on real less on_i real_i = either (cases_lt j (arrived es))
    (λ older. earlier_done es j i block older (sym (on_stays es (Arrive client op word) j block older) ∙ on) (sym (real_stays es (Arrive client op word) j older) ∙ real) less
    (sym (on_stays es (Arrive client op word) i block (omega arith)) ∙ on_i) (sym (real_stays es (Arrive client op word) i (omega arith)) ∙ real_i))
  where
    either : (j < arrived es) ⊎ (arrived es ≤ j) → (j < arrived es → is_done es i ≡ true) → is_done es i ≡ true
    either (inl older) ih = ih older
    either (inr newest) ih =
        let at : j ≡ arrived es = omega arith in
        let named : names block op ≡ true = sym (rw (eq-eqb j (arrived es) at) refl) ∙ on in
        let free : real_now es op ≡ true = sym (rw (eq-eqb j (arrived es) at) refl) ∙ real in
        (free_means (is_on es) (is_real es) (is_done es) (arrived es) block op named).0 free i (omega arith)
        (sym (on_stays es (Arrive client op word) i block (omega arith)) ∙ on_i) (sym (real_stays es (Arrive client op word) i (omega arith)) ∙ real_i)
earlier_done (Done arrival taken ∷ es) j i block below on real less on_i real_i =
    done_stays (Done arrival taken ∷ []) es i (earlier_done es j i block below on real less on_i real_i)
earlier_done (Issue version nonce buckets ∷ es) j i block below on real less on_i real_i = earlier_done es j i block below on real less on_i real_i
earlier_done (Acked version ∷ es) j i block below on real less on_i real_i = earlier_done es j i block below on real less on_i real_i
earlier_done (Fault cause ∷ es) j i block below on real less on_i real_i = earlier_done es j i block below on real less on_i real_i

-- ---- the position

record IsPlaceOf (o : Opening) (es : List Event) (block : ℕ) : Type 0 where
  last : Option ℕ
  is_last : IsLast (has_moved es block) (arrived es) last
  place : position_word o es block ≡ option_map_or (λ i. o.shape.n + i) last block

-- two tests that agree below n have the same last number if the second one fails from n to m
pub last_same : (f g : ℕ → Bool) (n m : ℕ) (last : Option ℕ) → ((i : ℕ) → i < n → g i ≡ f i) → ((i : ℕ) → n ≤ i → i < m → g i ≡ false) → n ≤ m → IsLast f n last → IsLast g m last
last_same f g n m None same new le h = λ i below. either i below (cases_lt i n)
  where
    either : (i : ℕ) → i < m → (i < n) ⊎ (n ≤ i) → g i ≡ false
    either i below (inl old) = same i old ∙ h i old
    either i below (inr past) = new i past below
last_same f g n m (Some last) same new le h = (let in_n = h.0 in omega arith, same last h.0 ∙ h.1, λ j above below. either j above below (cases_lt j n))
  where
    either : (j : ℕ) → last < j → j < m → (j < n) ⊎ (n ≤ j) → g j ≡ false
    either j above below (inl old) = same j old ∙ h.2 j above old
    either j above below (inr past) = new j past below

place_arrive : (o : Opening) (es : List Event) (client : ℕ) (op : Op) (word block : ℕ) → FollowsLawfully o es → IsPlaceOf o es block
    → IsPlaceOf o (Arrive client op word ∷ es) block
place_arrive o es client op word block f p = record {
  last = p.last;
  is_last = last_same (has_moved es block) (has_moved (Arrive client op word ∷ es) block) (arrived es) (arrived es + 1) p.last
      (λ i old. rw (real_stays es (Arrive client op word) i old, on_stays es (Arrive client op word) i block old) refl)
      (λ i past below. rw (done_arrived o es i f past) refl) (omega arith) p.is_last;
  place = p.place;
}

-- a Done; `t` says whether its arrival is real and on the block
place_done : (o : Opening) (es : List Event) (arrival : ℕ) (taken : List Bucket) (block : ℕ) (t : Bool) → (is_real es arrival && is_on es arrival block) ≡ t
    → arrival < arrived es → is_done es arrival ≡ false → IsPlaceOf o es block → IsPlaceOf o (Done arrival taken ∷ es) block
place_done o es arrival taken block true is there under_way p = record {
  last = Some arrival;
  is_last = (there, rw (eq-eqb arrival arrival refl) is, λ j above below. later j above below);
  place = rw is refl;
}
  where
    parts : (is_real es arrival ≡ true) × (is_on es arrival block ≡ true)
    parts = and_parts (is_real es arrival) (is_on es arrival block) is

    later : (j : ℕ) → arrival < j → j < arrived es → has_moved (Done arrival taken ∷ es) block j ≡ false
    later j above below = rw (ne_eqb arrival j (λ same. omega arith)) (false_from_ne_true (is_done es j && (is_real es j && is_on es j block)) (λ h.
        let outer = and_parts (is_done es j) (is_real es j && is_on es j block) h in
        let inner = and_parts (is_real es j) (is_on es j block) outer.1 in
        true≢false (sym (earlier_done es j arrival block below inner.1 inner.0 above parts.1 parts.0) ∙ under_way)))
place_done o es arrival taken block false is there under_way p = record {
  last = p.last;
  is_last = last_same (has_moved es block) (has_moved (Done arrival taken ∷ es) block) (arrived es) (arrived es) p.last
      (λ i old. either i (cases_eq arrival i)) (λ i past below. absurd (omega arith)) (omega arith) p.is_last;
  place = rw is p.place;
}
  where
    and_false : (x : Bool) → (x && false) ≡ false
    and_false true = refl
    and_false false = refl

    either : (i : ℕ) → (arrival ≡ i) ⊎ (arrival ≡ i → ⊥) → has_moved (Done arrival taken ∷ es) block i ≡ has_moved es block i
    either i (inr other) = rw (ne_eqb arrival i other) refl
    either i (inl same) = rw (eq-eqb arrival i same)
        (let fails : (is_real es i && is_on es i block) ≡ false = ap (λ k. is_real es k && is_on es k block) (sym same) ∙ is in
        fails ∙ sym (ap (λ t. is_done es i && t) fails ∙ and_false (is_done es i)))

place_of : (o : Opening) (es : List Event) (block : ℕ) → FollowsLawfully o es → IsPlaceOf o es block
place_of o [] block f = record { last = None; is_last = λ i below. absurd (omega arith); place = refl }
place_of o (Arrive client op word ∷ es) block f = place_arrive o es client op word block f.0 (place_of o es block f.0)
place_of o (Done arrival taken ∷ es) block f =
    place_done o es arrival taken block (is_real es arrival && is_on es arrival block) refl f.2.1.arrived f.2.1.under_way (place_of o es block f.0)
place_of o (Issue version nonce buckets ∷ es) block f = let p = place_of o es block f.0 in record { last = p.last; is_last = p.is_last; place = p.place }
place_of o (Acked version ∷ es) block f = let p = place_of o es block f.0 in record { last = p.last; is_last = p.is_last; place = p.place }
place_of o (Fault cause ∷ es) block f = let p = place_of o es block f.0 in record { last = p.last; is_last = p.is_last; place = p.place }

pub position_is_last : PositionIsLast
position_is_last o events block f below = record {
  last = p.last;
  is_last = p.is_last;
  leaf = ap (λ place. leaf_of o.shape.l (word_at o (reverse events) place)) p.place ∙ ap (leaf_of o.shape.l) (word p.last);
}
  where
    p : IsPlaceOf o (reverse events) block
    p = place_of o (reverse events) block f

    word : (last : Option ℕ) → word_at o (reverse events) (option_map_or (λ i. o.shape.n + i) last block) ≡ option_map_or (word_of (reverse events)) last (slice_index o.words block)
    word None = rw (lt-ltb block o.shape.n below) refl
    word (Some i) = done_word o (reverse events) i
