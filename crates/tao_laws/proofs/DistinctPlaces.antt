-- The places that arrivals use and the next places of the blocks are distinct. The events `es` are newest first.
use Rattle.std.proofs.Common.{◌≡◌, ℕ, ◌+◌, ◌<◌, ◌≤◌, Bool, true, false, ◌&&◌, cond, List, [], ◌∷◌, reverse, refl, sym, ap, ◌∙◌, arith, inl, inr, ◌⊎◌}
use Rattle.std.proofs.lemmas.Bool.{cases_lt, cases_eq, cases_order, eqb-true, eq-eqb, ne_eqb, true≢false}
use Rattle.tao_base.specs.declared.calls.Op.{Op}
use Rattle.tao_base.specs.declared.calls.Op.TheVariants.{Read, Write, Pad}
use Rattle.tao_base.specs.declared.session.Event.{Event}
use Rattle.tao_base.specs.declared.session.Event.TheVariants.{Arrive, Done, Issue, Acked, Fault}
use Rattle.tao_base.specs.Session.{Opening}
use Rattle.tao_model.specs.Events.{arrived, names}
use Rattle.tao_model.specs.Requests.{real_now, next_word, word_for, word_used}
use Rattle.tao_model.specs.Lawful.{FollowsLawfully, IsInRange}
use Rattle.tao_model.proofs.Stays.{used_stays}
use Rattle.tao_model.proofs.OneMoreEvent.{names_below, word_for_fake, word_for_block}
use Rattle.tao_model.proofs.Places.{word_for_below}
use Rattle.tao_laws.specs.TapeWords.{AreInRange, LawfulIsInRange, AreDistinct, DistinctWords, WordsAreKnown}

-- ---- the two steps, for plain functions

-- arrival n takes a new place
takes_new : (blocks n : ℕ) (used next taken now : ℕ → ℕ) → ((i : ℕ) → i < n → taken i ≡ used i) → taken n ≡ blocks + n → ((b : ℕ) → now b ≡ next b)
    → AreDistinct blocks n used next → AreDistinct blocks (n + 1) taken now
takes_new blocks n used next taken now old new same d = record {
  used_once = λ i j less there. once i j less (cases_lt j n) there;
  next_once = λ b c less there h. d.next_once b c less there (sym (same b) ∙ h ∙ same c);
  apart = λ i b there block. apart i b block (cases_lt i n) there;
  used_below = λ i there. below i (cases_lt i n) there;
  next_below = λ b block. let low = d.next_below b block in let at = same b in omega arith;
}
  where
    once : (i j : ℕ) → i < j → (j < n) ⊎ (n ≤ j) → j < n + 1 → taken i ≡ taken j → ⊥
    once i j less (inl older) there h = d.used_once i j less older (sym (old i (omega arith)) ∙ h ∙ old j older)
    once i j less (inr newest) there h =
        let at : j ≡ n = omega arith in
        let clash : used i ≡ blocks + n = sym (old i (omega arith)) ∙ h ∙ ap taken at ∙ new in
        let low = d.used_below i (omega arith) in
        omega arith

    apart : (i b : ℕ) → b < blocks → (i < n) ⊎ (n ≤ i) → i < n + 1 → taken i ≡ now b → ⊥
    apart i b block (inl older) there h = d.apart i b older block (sym (old i older) ∙ h ∙ same b)
    apart i b block (inr newest) there h =
        let at : n ≡ i = omega arith in
        let clash : blocks + n ≡ next b = sym new ∙ ap taken at ∙ h ∙ same b in
        let low = d.next_below b block in
        omega arith

    below : (i : ℕ) → (i < n) ⊎ (n ≤ i) → i < n + 1 → taken i < blocks + (n + 1)
    below i (inl older) there = let low = d.used_below i older in let at = old i older in omega arith
    below i (inr newest) there = let at : i ≡ n = omega arith in let is : taken i ≡ blocks + n = ap taken at ∙ new in omega arith

-- arrival n takes the next place of a block, and that block's next place is new
takes_next : (blocks n a : ℕ) (used next taken now : ℕ → ℕ) → a < blocks → ((i : ℕ) → i < n → taken i ≡ used i) → taken n ≡ next a → now a ≡ blocks + n
    → ((b : ℕ) → (a ≡ b → ⊥) → now b ≡ next b) → AreDistinct blocks n used next → AreDistinct blocks (n + 1) taken now
takes_next blocks n a used next taken now small old new moved same d = record {
  used_once = λ i j less there. once i j less (cases_lt j n) there;
  next_once = λ b c less there. next_once b c less there (cases_eq a b) (cases_eq a c);
  apart = λ i b there block. apart i b block (cases_lt i n) (cases_eq a b) there;
  used_below = λ i there. below i (cases_lt i n) there;
  next_below = λ b block. next_below b block (cases_eq a b);
}
  where
    once : (i j : ℕ) → i < j → (j < n) ⊎ (n ≤ j) → j < n + 1 → taken i ≡ taken j → ⊥
    once i j less (inl older) there h = d.used_once i j less older (sym (old i (omega arith)) ∙ h ∙ old j older)
    once i j less (inr newest) there h =
        let at : j ≡ n = omega arith in
        d.apart i a (omega arith) small (sym (old i (omega arith)) ∙ h ∙ ap taken at ∙ new)

    next_once : (b c : ℕ) → b < c → c < blocks → (a ≡ b) ⊎ (a ≡ b → ⊥) → (a ≡ c) ⊎ (a ≡ c → ⊥) → now b ≡ now c → ⊥
    next_once b c less there (inl at) (inl too) h = omega arith
    next_once b c less there (inl at) (inr other) h =
        let clash : blocks + n ≡ next c = sym moved ∙ ap now at ∙ h ∙ same c other in let low = d.next_below c there in omega arith
    next_once b c less there (inr other) (inl at) h =
        let clash : next b ≡ blocks + n = sym (same b other) ∙ h ∙ ap now (sym at) ∙ moved in let low = d.next_below b (omega arith) in omega arith
    next_once b c less there (inr other) (inr too) h = d.next_once b c less there (sym (same b other) ∙ h ∙ same c too)

    two_blocks : (b : ℕ) → b < blocks → (a ≡ b → ⊥) → next a ≡ next b → ⊥
    two_blocks b block other h = either (cases_order a b)
      where
        either : (a ≡ b) ⊎ ((a < b) ⊎ (b < a)) → ⊥
        either (inl at) = other at
        either (inr (inl less)) = d.next_once a b less block h
        either (inr (inr more)) = d.next_once b a more small (sym h)

    apart : (i b : ℕ) → b < blocks → (i < n) ⊎ (n ≤ i) → (a ≡ b) ⊎ (a ≡ b → ⊥) → i < n + 1 → taken i ≡ now b → ⊥
    apart i b block (inl older) (inl at) there h =
        let clash : used i ≡ blocks + n = sym (old i older) ∙ h ∙ ap now (sym at) ∙ moved in let low = d.used_below i older in omega arith
    apart i b block (inl older) (inr other) there h = d.apart i b older block (sym (old i older) ∙ h ∙ same b other)
    apart i b block (inr newest) (inl at) there h =
        let here : n ≡ i = omega arith in
        let clash : next a ≡ blocks + n = sym new ∙ ap taken here ∙ h ∙ ap now (sym at) ∙ moved in
        let low = d.next_below a small in
        omega arith
    apart i b block (inr newest) (inr other) there h =
        let here : n ≡ i = omega arith in two_blocks b block other (sym new ∙ ap taken here ∙ h ∙ same b other)

    below : (i : ℕ) → (i < n) ⊎ (n ≤ i) → i < n + 1 → taken i < blocks + (n + 1)
    below i (inl older) there = let low = d.used_below i older in let at = old i older in omega arith
    below i (inr newest) there =
        let at : i ≡ n = omega arith in let is : taken i ≡ next a = ap taken at ∙ new in let low = d.next_below a small in omega arith

    next_below : (b : ℕ) → b < blocks → (a ≡ b) ⊎ (a ≡ b → ⊥) → now b < blocks + (n + 1)
    next_below b block (inl at) = let is : now b ≡ blocks + n = ap now (sym at) ∙ moved in omega arith
    next_below b block (inr other) = let is = same b other in let low = d.next_below b block in omega arith

-- ---- an arrival

-- a real arrival's operation is on a block
real_names : (es : List Event) (op : Op) → real_now es op ≡ true → (block : ℕ) × (names block op ≡ true)
real_names es (Read id) h = (id, eq-eqb id id refl)
real_names es (Write id value) h = (id, eq-eqb id id refl)
real_names es Pad h = absurd (true≢false (sym h))

names_one : (a b : ℕ) (op : Op) → names a op ≡ true → (a ≡ b → ⊥) → names b op ≡ false
names_one a b (Read id) h other = ne_eqb id b (λ same. other (sym (eqb-true id a h) ∙ same))
names_one a b (Write id value) h other = ne_eqb id b (λ same. other (sym (eqb-true id a h) ∙ same))
names_one a b Pad h other = refl

used_newest : (o : Opening) (es : List Event) (client : ℕ) (op : Op) (word : ℕ) (t : Bool) → real_now es op ≡ t
    → word_used o (Arrive client op word ∷ es) (arrived es) ≡ word_for (next_word o es) (o.shape.n + arrived es) t op
used_newest o es client op word t is = rw (eq-eqb (arrived es) (arrived es) refl) (ap (λ s. word_for (next_word o es) (o.shape.n + arrived es) s op) is)

next_after : (o : Opening) (es : List Event) (op : Op) (b : ℕ) (t s : Bool) → real_now es op ≡ t → names b op ≡ s
    → cond (real_now es op && names b op) (o.shape.n + arrived es) (next_word o es b) ≡ cond (t && s) (o.shape.n + arrived es) (next_word o es b)
next_after o es op b t s is named = rw (is, named) refl

distinct_arrive : (o : Opening) (es : List Event) (client : ℕ) (op : Op) (word : ℕ) (t : Bool) → real_now es op ≡ t → IsInRange o.shape op
    → AreDistinct o.shape.n (arrived es) (word_used o es) (next_word o es)
    → AreDistinct o.shape.n (arrived es + 1) (word_used o (Arrive client op word ∷ es)) (next_word o (Arrive client op word ∷ es))
distinct_arrive o es client op word false is r d =
    takes_new o.shape.n (arrived es) (word_used o es) (next_word o es) (word_used o (Arrive client op word ∷ es)) (next_word o (Arrive client op word ∷ es))
    (λ i older. used_stays o es (Arrive client op word) i older)
    (used_newest o es client op word false is ∙ word_for_fake (next_word o es) (o.shape.n + arrived es) op)
    (λ b. next_after o es op b false (names b op) is refl) d
distinct_arrive o es client op word true is r d =
    let named = real_names es op is in
    takes_next o.shape.n (arrived es) named.0 (word_used o es) (next_word o es) (word_used o (Arrive client op word ∷ es)) (next_word o (Arrive client op word ∷ es))
    (names_below o named.0 op named.1 r)
    (λ i older. used_stays o es (Arrive client op word) i older)
    (used_newest o es client op word true is ∙ word_for_block (next_word o es) (o.shape.n + arrived es) named.0 op named.1)
    (next_after o es op named.0 true true is named.1)
    (λ b other. next_after o es op b true false is (names_one named.0 b op named.1 other)) d

none_used : (blocks : ℕ) (used : ℕ → ℕ) → AreDistinct blocks 0 used (λ b. b)
none_used blocks used = record {
  used_once = λ i j less there h. absurd (omega arith);
  next_once = λ b c less there h. omega arith;
  apart = λ i b there block h. absurd (omega arith);
  used_below = λ i there. absurd (omega arith);
  next_below = λ b block. omega arith;
}

pub distinct_from : (o : Opening) (es : List Event) → AreInRange o es → AreDistinct o.shape.n (arrived es) (word_used o es) (next_word o es)
distinct_from o [] f = none_used o.shape.n (word_used o [])
distinct_from o (Arrive client op word ∷ es) f = distinct_arrive o es client op word (real_now es op) refl f.1 (distinct_from o es f.0)
distinct_from o (Done arrival taken ∷ es) f = distinct_from o es f
distinct_from o (Issue version nonce buckets ∷ es) f = distinct_from o es f
distinct_from o (Acked version ∷ es) f = distinct_from o es f
distinct_from o (Fault cause ∷ es) f = distinct_from o es f

pub in_range : (o : Opening) (es : List Event) → FollowsLawfully o es → AreInRange o es
in_range o [] f = tt
in_range o (Arrive client op word ∷ es) f = (in_range o es f.0, f.2.3)
in_range o (Done arrival taken ∷ es) f = in_range o es f.0
in_range o (Issue version nonce buckets ∷ es) f = in_range o es f.0
in_range o (Acked version ∷ es) f = in_range o es f.0
in_range o (Fault cause ∷ es) f = in_range o es f.0

pub lawful_is_in_range : LawfulIsInRange
lawful_is_in_range o events f = in_range o (reverse events) f

pub distinct_words : DistinctWords
distinct_words o events f = distinct_from o (reverse events) f

-- ---- words on the tape

pub known_from : (o : Opening) (es : List Event) (i : ℕ) → AreInRange o es → i < arrived es → word_used o es i ≤ o.shape.n + i
known_from o [] i f h = absurd (omega arith)
known_from o (Arrive client op word ∷ es) i f h = either (cases_lt i (arrived es)) (λ older. known_from o es i f.0 older)
  where
    either : (i < arrived es) ⊎ (arrived es ≤ i) → (i < arrived es → word_used o es i ≤ o.shape.n + i) → word_used o (Arrive client op word ∷ es) i ≤ o.shape.n + i
    either (inl older) ih = let before = ih older in let same = used_stays o es (Arrive client op word) i older in omega arith
    either (inr newest) ih =
        let at : i ≡ arrived es = omega arith in
        let below = word_for_below o es op (real_now es op) f.1 in
        rw (eq-eqb i (arrived es) at) (omega arith)
known_from o (Done arrival taken ∷ es) i f h = known_from o es i f h
known_from o (Issue version nonce buckets ∷ es) i f h = known_from o es i f h
known_from o (Acked version ∷ es) i f h = known_from o es i f h
known_from o (Fault cause ∷ es) i f h = known_from o es i f h

pub words_are_known : WordsAreKnown
words_are_known o events i f h = known_from o (reverse events) i f h
