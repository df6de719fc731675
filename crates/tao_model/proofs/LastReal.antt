-- The last real arrival on a block: what settles an arrival, and which word a real one uses. The events `es` are newest first.
use Rattle.std.proofs.Common.{◌≡◌, ℕ, ◌+◌, ◌<◌, ◌≤◌, Bool, true, false, ◌&&◌, ◌||◌, cond, List, [], ◌∷◌, reverse, Option, Some, None, slice_index, refl, sym, ap, ◌∙◌, subst, arith, inl, inr, ◌⊎◌}
use Rattle.std.specs.Option.{option_map_or}
use Rattle.std.proofs.lemmas.Bool.{eq-eqb, cases_lt, cases_order, eqb-true, and_from, and_parts, false_from_ne_true, lt-ltb, true≢false}
use Rattle.std.proofs.lemmas.Option.{none-some, same_Some}
use Rattle.tao_base.specs.declared.calls.Op.{Op}
use Rattle.tao_base.specs.declared.calls.Op.TheVariants.{Read, Write, Pad}
use Rattle.tao_base.specs.declared.session.Event.{Event}
use Rattle.tao_base.specs.declared.session.Event.TheVariants.{Arrive, Done, Issue, Acked, Fault}
use Rattle.tao_base.specs.Session.{Opening}
use Rattle.tao_base.specs.Tree.{leaf_of}
use Rattle.tao_model.specs.Greatest.{IsLast}
use Rattle.tao_model.specs.Events.{arrived, is_done, is_on, is_pad_op, names, word_of, word_at}
use Rattle.tao_model.specs.Requests.{is_real, real_now, last_real, settler, settler_for, is_settled, next_word, word_for, word_used, leaf_at}
use Rattle.tao_model.specs.LookBacks.{is_real_on, SettlerIsLast, RealFetchesLast, FakeFetchesOwn}
use Rattle.tao_model.specs.Lawful.{FollowsLawfully}
use Rattle.tao_model.specs.OneMore.{PadsAreSettled}
use Rattle.tao_model.proofs.Places.{done_arrived}
use Rattle.tao_model.proofs.Stays.{newest_first, on_stays, real_stays, used_stays, settler_stays}
use Rattle.tao_model.proofs.OneMoreEvent.{done_word, word_for_block, word_for_fake}
use Rattle.tao_model.proofs.RealArrivals.{last_same, real_newest, on_newest, free_means, earlier_done}

real_on_stays : (es : List Event) (e : Event) (block i : ℕ) → i < arrived es → is_real_on (e ∷ es) block i ≡ is_real_on es block i
real_on_stays es e block i h = rw (real_stays es e i h, on_stays es e i block h) refl

real_on_newest : (es : List Event) (client : ℕ) (op : Op) (word block : ℕ) → is_real_on (Arrive client op word ∷ es) block (arrived es) ≡ (real_now es op && names block op)
real_on_newest es client op word block = rw (real_newest es client op word, on_newest es client op word block) refl

-- ---- the last real arrival so far

abbrev last_on : List Event → ℕ → Option ℕ
last_on [] block = None
last_on (Arrive client op word ∷ es) block = cond (real_now es op && names block op) (Some (arrived es)) (last_on es block)
last_on (Done arrival taken ∷ es) block = last_on es block
last_on (Issue version nonce buckets ∷ es) block = last_on es block
last_on (Acked version ∷ es) block = last_on es block
last_on (Fault cause ∷ es) block = last_on es block

-- one more arrival; `t` says whether it is real and on the block
pub last_arrive : (es : List Event) (client : ℕ) (op : Op) (word block : ℕ) (last : Option ℕ) (t : Bool) → (real_now es op && names block op) ≡ t
    → IsLast (is_real_on es block) (arrived es) last
    → IsLast (is_real_on (Arrive client op word ∷ es) block) (arrived es + 1) (cond t (Some (arrived es)) last)
last_arrive es client op word block last true is h = (omega arith, real_on_newest es client op word block ∙ is, λ j above below. absurd (omega arith))
last_arrive es client op word block last false is h =
    last_same (is_real_on es block) (is_real_on (Arrive client op word ∷ es) block) (arrived es) (arrived es + 1) last
    (λ i old. real_on_stays es (Arrive client op word) block i old)
    (λ i past below. let at : i ≡ arrived es = omega arith in ap (is_real_on (Arrive client op word ∷ es) block) at ∙ real_on_newest es client op word block ∙ is)
    (omega arith) h

last_so_far : (es : List Event) (block : ℕ) → IsLast (is_real_on es block) (arrived es) (last_on es block)
last_so_far [] block = λ i below. absurd (omega arith)
last_so_far (Arrive client op word ∷ es) block = last_arrive es client op word block (last_on es block) (real_now es op && names block op) refl (last_so_far es block)
last_so_far (Done arrival taken ∷ es) block = last_so_far es block
last_so_far (Issue version nonce buckets ∷ es) block = last_so_far es block
last_so_far (Acked version ∷ es) block = last_so_far es block
last_so_far (Fault cause ∷ es) block = last_so_far es block

-- the next word's place is that of the last real arrival, or the block's first word
next_is : (o : Opening) (es : List Event) (block : ℕ) → next_word o es block ≡ option_map_or (λ i. o.shape.n + i) (last_on es block) block
next_is o [] block = refl
next_is o (Arrive client op word ∷ es) block = either (real_now es op && names block op) (next_is o es block)
  where
    either : (t : Bool) → next_word o es block ≡ option_map_or (λ i. o.shape.n + i) (last_on es block) block
        → cond t (o.shape.n + arrived es) (next_word o es block) ≡ option_map_or (λ i. o.shape.n + i) (cond t (Some (arrived es)) (last_on es block)) block
    either true h = refl
    either false h = h
next_is o (Done arrival taken ∷ es) block = next_is o es block
next_is o (Issue version nonce buckets ∷ es) block = next_is o es block
next_is o (Acked version ∷ es) block = next_is o es block
next_is o (Fault cause ∷ es) block = next_is o es block

one_last : (passes : ℕ → Bool) (n : ℕ) (a b : Option ℕ) → IsLast passes n a → IsLast passes n b → a ≡ b
one_last passes n None None f g = refl
one_last passes n None (Some j) f g = absurd (true≢false (sym g.1 ∙ f j g.0))
one_last passes n (Some i) None f g = absurd (true≢false (sym f.1 ∙ g i f.0))
one_last passes n (Some i) (Some j) f g = either (cases_lt i j) (cases_lt j i)
  where
    either : (i < j) ⊎ (j ≤ i) → (j < i) ⊎ (i ≤ j) → Some i ≡ Some j
    either (inl less) c = absurd (true≢false (sym g.1 ∙ f.2 j less g.0))
    either (inr low) (inl less) = absurd (true≢false (sym f.1 ∙ g.2 i less f.0))
    either (inr low) (inr high) = let same : i ≡ j = omega arith in ap (λ k. Some k) same

-- the same, of whatever is the last real arrival
pub next_after_last : (o : Opening) (es : List Event) (block : ℕ) (last : Option ℕ) → IsLast (is_real_on es block) (arrived es) last
    → next_word o es block ≡ option_map_or (λ i. o.shape.n + i) last block
next_after_last o es block last is = next_is o es block
    ∙ ap (λ l. option_map_or (λ i. o.shape.n + i) l block) (one_last (is_real_on es block) (arrived es) (last_on es block) last (last_so_far es block) is)

last_real_is : (es : List Event) (block i : ℕ) → last_on es block ≡ Some i → last_real es block ≡ i
last_real_is [] block i h = absurd (none-some i h)
last_real_is (Arrive client op word ∷ es) block i h = either (real_now es op && names block op) h (λ rest. last_real_is es block i rest)
  where
    either : (t : Bool) → cond t (Some (arrived es)) (last_on es block) ≡ Some i → (last_on es block ≡ Some i → last_real es block ≡ i)
        → cond t (arrived es) (last_real es block) ≡ i
    either true h ih = same_Some (arrived es) i h
    either false h ih = ih h
last_real_is (Done arrival taken ∷ es) block i h = last_real_is es block i h
last_real_is (Issue version nonce buckets ∷ es) block i h = last_real_is es block i h
last_real_is (Acked version ∷ es) block i h = last_real_is es block i h
last_real_is (Fault cause ∷ es) block i h = last_real_is es block i h

-- ---- what settles an arrival

settler_block : (last : ℕ → ℕ) (new block : ℕ) (op : Op) → names block op ≡ true → settler_for last new false op ≡ last block
settler_block last new block (Read id) h = ap last (eqb-true id block h)
settler_block last new block (Write id value) h = ap last (eqb-true id block h)
settler_block last new block Pad h = absurd (true≢false (sym h))

settler_real : (last : ℕ → ℕ) (new : ℕ) (op : Op) → settler_for last new true op ≡ new
settler_real last new (Read id) = refl
settler_real last new (Write id value) = refl
settler_real last new Pad = refl

-- if no real arrival on the block came before, a new one is real
first_is_real : (es : List Event) (op : Op) (block : ℕ) → names block op ≡ true → ((i : ℕ) → i < arrived es → is_real_on es block i ≡ false) → real_now es op ≡ true
first_is_real es op block named none = (free_means (is_on es) (is_real es) (is_done es) (arrived es) block op named).1
    (λ i below on real. absurd (true≢false (sym (and_from (is_real es i) (is_on es i block) real on) ∙ none i below)))

settles_newest : (es : List Event) (client : ℕ) (op : Op) (word block : ℕ) (t : Bool) → real_now es op ≡ t → names block op ≡ true
    → IsLast (is_real_on (Arrive client op word ∷ es) block) (arrived es + 1) (Some (settler_for (last_real es) (arrived es) t op))
settles_newest es client op word block true is named =
    subst (λ s. IsLast (is_real_on (Arrive client op word ∷ es) block) (arrived es + 1) (Some s)) (sym (settler_real (last_real es) (arrived es) op))
    (omega arith, real_on_newest es client op word block ∙ and_from (real_now es op) (names block op) is named, λ j above below. absurd (omega arith))
settles_newest es client op word block false is named =
    subst (λ s. IsLast (is_real_on (Arrive client op word ∷ es) block) (arrived es + 1) (Some s)) (sym (settler_block (last_real es) (arrived es) block op named))
    (either (last_on es block) refl (last_so_far es block))
  where
    either : (last : Option ℕ) → last_on es block ≡ last → IsLast (is_real_on es block) (arrived es) last
        → IsLast (is_real_on (Arrive client op word ∷ es) block) (arrived es + 1) (Some (last_real es block))
    either None at none = absurd (true≢false (sym (first_is_real es op block named none) ∙ is))
    either (Some i) at is_last = subst (λ s. IsLast (is_real_on (Arrive client op word ∷ es) block) (arrived es + 1) (Some s)) (sym (last_real_is es block i at))
        (last_same (is_real_on es block) (is_real_on (Arrive client op word ∷ es) block) (arrived es) (arrived es + 1) (Some i)
        (λ j old. real_on_stays es (Arrive client op word) block j old)
        (λ j past below. let at : j ≡ arrived es = omega arith in
        ap (is_real_on (Arrive client op word ∷ es) block) at ∙ real_on_newest es client op word block ∙ ap (λ t. t && names block op) is)
        (omega arith) is_last)

settles_from : (es : List Event) (i block : ℕ) → i < arrived es → is_on es i block ≡ true → IsLast (is_real_on es block) (i + 1) (Some (settler es i))
settles_from [] i block h on = absurd (omega arith)
settles_from (Arrive client op word ∷ es) i block h on = either (cases_lt i (arrived es))
    (λ older. settles_from es i block older (sym (on_stays es (Arrive client op word) i block older) ∙ on))
  where
    either : (i < arrived es) ⊎ (arrived es ≤ i) → (i < arrived es → IsLast (is_real_on es block) (i + 1) (Some (settler es i)))
        → IsLast (is_real_on (Arrive client op word ∷ es) block) (i + 1) (Some (settler (Arrive client op word ∷ es) i))
    either (inl older) ih = subst (λ s. IsLast (is_real_on (Arrive client op word ∷ es) block) (i + 1) (Some s)) (sym (settler_stays es (Arrive client op word) i older))
        (last_same (is_real_on es block) (is_real_on (Arrive client op word ∷ es) block) (i + 1) (i + 1) (Some (settler es i))
        (λ j below. real_on_stays es (Arrive client op word) block j (omega arith)) (λ j past below. absurd (omega arith)) (omega arith) (ih older))
    either (inr newest) ih =
        let at : arrived es ≡ i = omega arith in
        subst (λ j. IsLast (is_real_on (Arrive client op word ∷ es) block) (j + 1) (Some (settler (Arrive client op word ∷ es) j))) at
        (rw (eq-eqb (arrived es) (arrived es) refl)
        (settles_newest es client op word block (real_now es op) refl (sym (on_newest es client op word block) ∙ subst (λ j. is_on (Arrive client op word ∷ es) j block ≡ true) (sym at) on)))
settles_from (Done arrival taken ∷ es) i block h on = settles_from es i block h on
settles_from (Issue version nonce buckets ∷ es) i block h on = settles_from es i block h on
settles_from (Acked version ∷ es) i block h on = settles_from es i block h on
settles_from (Fault cause ∷ es) i block h on = settles_from es i block h on

pub settler_is_last : SettlerIsLast
settler_is_last events i block h on = settles_from (reverse events) i block h on

-- ---- a new arrival

-- the last real arrival on a block on which a new one would be fake isn't done
last_open : (es : List Event) (op : Op) (block : ℕ) → real_now es op ≡ false → names block op ≡ true → is_done es (last_real es block) ≡ false
last_open es op block fake named = either (last_on es block) refl (last_so_far es block)
  where
    open_one : (last : ℕ) → IsLast (is_real_on es block) (arrived es) (Some last) → is_done es last ≡ true → real_now es op ≡ true
    open_one last is done = (free_means (is_on es) (is_real es) (is_done es) (arrived es) block op named).1 (λ i below on real. which i below on real (cases_order i last))
      where
        parts : (is_real es last ≡ true) × (is_on es last block ≡ true)
        parts = and_parts (is_real es last) (is_on es last block) is.1

        which : (i : ℕ) → i < arrived es → is_on es i block ≡ true → is_real es i ≡ true → (i ≡ last) ⊎ ((i < last) ⊎ (last < i)) → is_done es i ≡ true
        which i below on real (inl same) = ap (is_done es) same ∙ done
        which i below on real (inr (inl less)) = earlier_done es last i block is.0 parts.1 parts.0 less on real
        which i below on real (inr (inr more)) = absurd (true≢false (sym (and_from (is_real es i) (is_on es i block) real on) ∙ is.2 i more below))

    either : (last : Option ℕ) → last_on es block ≡ last → IsLast (is_real_on es block) (arrived es) last → is_done es (last_real es block) ≡ false
    either None at none = absurd (true≢false (sym (first_is_real es op block named none) ∙ fake))
    either (Some last) at is = ap (is_done es) (last_real_is es block last at)
        ∙ false_from_ne_true (is_done es last) (λ done. true≢false (sym (open_one last is done) ∙ fake))

pub settled_newest : (o : Opening) (es : List Event) (client : ℕ) (op : Op) (word : ℕ) → FollowsLawfully o es → is_settled (Arrive client op word ∷ es) (arrived es) ≡ is_pad_op op
settled_newest o es client op word f = rw (eq-eqb (arrived es) (arrived es) refl) (by op)
  where
    one : (op : Op) (block : ℕ) (t : Bool) → real_now es op ≡ t → names block op ≡ true → is_done es (settler_for (last_real es) (arrived es) t op) ≡ false
    one op block true is named = ap (is_done es) (settler_real (last_real es) (arrived es) op) ∙ done_arrived o es (arrived es) f (omega arith)
    one op block false is named = ap (is_done es) (settler_block (last_real es) (arrived es) block op named) ∙ last_open es op block is named

    by : (op : Op) → (is_pad_op op || is_done es (settler_for (last_real es) (arrived es) (real_now es op) op)) ≡ is_pad_op op
    by (Read id) = one (Read id) id (real_now es (Read id)) refl (eq-eqb id id refl)
    by (Write id value) = one (Write id value) id (real_now es (Write id value)) refl (eq-eqb id id refl)
    by Pad = refl

pub pads_are_settled : PadsAreSettled
pads_are_settled o events client op word = rw (newest_first events (Arrive client op word)) (λ f. settled_newest o (reverse events) client op word f.0)

-- ---- which word an arrival uses

record UsesLast (o : Opening) (es : List Event) (block i : ℕ) : Type 0 where
  last : Option ℕ
  is_last : IsLast (is_real_on es block) i last
  place : word_used o es i ≡ option_map_or (λ j. o.shape.n + j) last block

used_newest : (o : Opening) (es : List Event) (client : ℕ) (op : Op) (word i block : ℕ) → i ≡ arrived es → is_real (Arrive client op word ∷ es) i ≡ true
    → is_on (Arrive client op word ∷ es) i block ≡ true → UsesLast o (Arrive client op word ∷ es) block i
used_newest o es client op word i block at real on = record {
  last = last_on es block;
  is_last = last_same (is_real_on es block) (is_real_on (Arrive client op word ∷ es) block) (arrived es) i (last_on es block)
      (λ j old. real_on_stays es (Arrive client op word) block j old) (λ j past below. absurd (omega arith)) (omega arith) (last_so_far es block);
  place = rw (eq-eqb i (arrived es) at)
      (ap (λ t. word_for (next_word o es) (o.shape.n + arrived es) t op) now_real ∙ word_for_block (next_word o es) (o.shape.n + arrived es) block op named ∙ next_is o es block);
}
  where
    now_real : real_now es op ≡ true
    now_real = sym (real_newest es client op word) ∙ ap (is_real (Arrive client op word ∷ es)) (sym at) ∙ real

    named : names block op ≡ true
    named = sym (on_newest es client op word block) ∙ ap (λ j. is_on (Arrive client op word ∷ es) j block) (sym at) ∙ on

uses_last : (o : Opening) (es : List Event) (block i : ℕ) → i < arrived es → is_real es i ≡ true → is_on es i block ≡ true → UsesLast o es block i
uses_last o [] block i h real on = absurd (omega arith)
uses_last o (Arrive client op word ∷ es) block i h real on = either (cases_lt i (arrived es))
    (λ older. uses_last o es block i older (sym (real_stays es (Arrive client op word) i older) ∙ real) (sym (on_stays es (Arrive client op word) i block older) ∙ on))
  where
    either : (i < arrived es) ⊎ (arrived es ≤ i) → (i < arrived es → UsesLast o es block i) → UsesLast o (Arrive client op word ∷ es) block i
    either (inr newest) ih = used_newest o es client op word i block (omega arith) real on
    either (inl older) ih = let p = ih older in record {
      last = p.last;
      is_last = last_same (is_real_on es block) (is_real_on (Arrive client op word ∷ es) block) i i p.last
          (λ j old. real_on_stays es (Arrive client op word) block j (omega arith)) (λ j past below. absurd (omega arith)) (omega arith) p.is_last;
      place = used_stays o es (Arrive client op word) i older ∙ p.place;
    }
uses_last o (Done arrival taken ∷ es) block i h real on = let p = uses_last o es block i h real on in record { last = p.last; is_last = p.is_last; place = p.place }
uses_last o (Issue version nonce buckets ∷ es) block i h real on = let p = uses_last o es block i h real on in record { last = p.last; is_last = p.is_last; place = p.place }
uses_last o (Acked version ∷ es) block i h real on = let p = uses_last o es block i h real on in record { last = p.last; is_last = p.is_last; place = p.place }
uses_last o (Fault cause ∷ es) block i h real on = let p = uses_last o es block i h real on in record { last = p.last; is_last = p.is_last; place = p.place }

pub real_fetches_last : RealFetchesLast
real_fetches_last o events block i below h on real = record {
  last = p.last;
  is_last = p.is_last;
  leaf = ap (leaf_at o (reverse events)) p.place ∙ ap (leaf_of o.shape.l) (word p.last);
}
  where
    p : UsesLast o (reverse events) block i
    p = uses_last o (reverse events) block i h real on

    word : (last : Option ℕ) → word_at o (reverse events) (option_map_or (λ j. o.shape.n + j) last block) ≡ option_map_or (word_of (reverse events)) last (slice_index o.words block)
    word None = rw (lt-ltb block o.shape.n below) refl
    word (Some j) = done_word o (reverse events) j

uses_own : (o : Opening) (es : List Event) (i : ℕ) → i < arrived es → is_real es i ≡ false → word_used o es i ≡ o.shape.n + i
uses_own o [] i h fake = absurd (omega arith)
uses_own o (Arrive client op word ∷ es) i h fake = either (cases_lt i (arrived es))
    (λ older. uses_own o es i older (sym (real_stays es (Arrive client op word) i older) ∙ fake))
  where
    either : (i < arrived es) ⊎ (arrived es ≤ i) → (i < arrived es → word_used o es i ≡ o.shape.n + i) → word_used o (Arrive client op word ∷ es) i ≡ o.shape.n + i
    either (inl older) ih = used_stays o es (Arrive client op word) i older ∙ ih older
    either (inr newest) ih =
        let at : i ≡ arrived es = omega arith in
        let now_fake : real_now es op ≡ false = sym (real_newest es client op word) ∙ ap (is_real (Arrive client op word ∷ es)) (sym at) ∙ fake in
        rw (eq-eqb i (arrived es) at) (ap (λ t. word_for (next_word o es) (o.shape.n + arrived es) t op) now_fake ∙ word_for_fake (next_word o es) (o.shape.n + arrived es) op ∙ omega arith)
uses_own o (Done arrival taken ∷ es) i h fake = uses_own o es i h fake
uses_own o (Issue version nonce buckets ∷ es) i h fake = uses_own o es i h fake
uses_own o (Acked version ∷ es) i h fake = uses_own o es i h fake
uses_own o (Fault cause ∷ es) i h fake = uses_own o es i h fake

pub fake_fetches_own : FakeFetchesOwn
fake_fetches_own o events i h fake = ap (leaf_at o (reverse events)) (uses_own o (reverse events) i h fake) ∙ ap (leaf_of o.shape.l) (done_word o (reverse events) i)
