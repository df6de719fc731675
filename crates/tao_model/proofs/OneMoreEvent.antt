-- One more event of a record. The events are newest first.
use Rattle.std.proofs.Common.{◌≡◌, ℕ, ◌+◌, ◌-◌, ◌<◌, Bool, true, false, ◌||◌, cond, List, [], ◌∷◌, reverse, is_some, refl, sym, ap, ◌∙◌, arith, add-one, nat_eq}
use Rattle.std.proofs.lemmas.Bool.{eq-eqb, ne_eqb, le-ltb, eqb-true, true≢false}
use Rattle.tao_base.specs.declared.calls.Op.{Op}
use Rattle.tao_base.specs.declared.calls.Op.TheVariants.{Read, Write, Pad}
use Rattle.tao_base.specs.declared.session.Event.{Event}
use Rattle.tao_base.specs.declared.session.Event.TheVariants.{Arrive, Done, Issue, Acked, Fault}
use Rattle.tao_base.specs.Session.{Opening}
use Rattle.tao_base.specs.Tree.{leaf_of}
use Rattle.tao_model.specs.Events.{arrived, is_done, is_pad, names, word_of, word_at}
use Rattle.tao_model.specs.Requests.{real_now, settler, next_word, word_for, word_used, leaf_at, position_word}
use Rattle.tao_model.specs.Replies.{leading}
use Rattle.tao_model.specs.Residence.{bucket_of, newest_version}
use Rattle.tao_model.specs.Lawful.{FollowsLawfully, IsInRange}
use Rattle.tao_model.specs.OneMore.{OneMoreArrive, OneMoreDone, OneMoreIssue, OneMoreAcked, OneMoreFault, PadsAreFake, SamePositions, SameSettled}
use Rattle.tao_model.proofs.Stays.{newest_first, pad_stays, place_stays, settler_stays}
use Rattle.tao_model.proofs.Places.{next_below, position_below, done_arrived}
use Rattle.tao_model.proofs.Growth.{released_grows_later}

-- the newest arrival's own word
pub own_word : (o : Opening) (es : List Event) (client : ℕ) (op : Op) (word : ℕ) → word_at o (Arrive client op word ∷ es) (o.shape.n + arrived es) ≡ word
own_word o es client op word = rw (le-ltb (o.shape.n + arrived es) o.shape.n (omega arith), eq-eqb (o.shape.n + arrived es - o.shape.n) (arrived es) (omega arith)) refl

used_newest : (o : Opening) (es : List Event) (client : ℕ) (op : Op) (word : ℕ)
    → word_used o (Arrive client op word ∷ es) (arrived es) ≡ word_for (next_word o es) (o.shape.n + arrived es) (real_now es op) op
used_newest o es client op word = rw (eq-eqb (arrived es) (arrived es) refl) refl

pub word_for_fake : (next : ℕ → ℕ) (new : ℕ) (op : Op) → word_for next new false op ≡ new
word_for_fake next new (Read id) = refl
word_for_fake next new (Write id value) = refl
word_for_fake next new Pad = refl

pub word_for_block : (next : ℕ → ℕ) (new block : ℕ) (op : Op) → names block op ≡ true → word_for next new true op ≡ next block
word_for_block next new block (Read id) h = ap next (eqb-true id block h)
word_for_block next new block (Write id value) h = ap next (eqb-true id block h)
word_for_block next new block Pad h = absurd (true≢false (sym h))

pub names_below : (o : Opening) (block : ℕ) (op : Op) → names block op ≡ true → IsInRange o.shape op → block < o.shape.n
names_below o block (Read id) h r = let same : id ≡ block = eqb-true id block h in omega arith
names_below o block (Write id value) h r = let same : id ≡ block = eqb-true id block h in let low : id < o.shape.n = r.0 in omega arith
names_below o block Pad h r = absurd (true≢false (sym h))

leading_more : (passes : ℕ → Bool) (n : ℕ) → passes n ≡ false → leading passes (n + 1) ≡ leading passes n
leading_more passes n h = rw (add-one n, h) refl

same_positions : (o : Opening) (es : List Event) (e : Event) → FollowsLawfully o es → ((block : ℕ) → position_word o (e ∷ es) block ≡ position_word o es block)
    → SamePositions o es (e ∷ es)
same_positions o es e f same block h = ap (leaf_at o (e ∷ es)) (same block) ∙ ap (leaf_of o.shape.l) (place_stays o es e (position_word o es block) (position_below o es block f h))

-- an arrival that was made stays settled or unsettled under an event that is no Done
same_settled : (es : List Event) (e : Event) → ((i : ℕ) → is_done (e ∷ es) i ≡ is_done es i) → SameSettled es (e ∷ es)
same_settled es e same i h =
    ap (λ p. p || is_done (e ∷ es) (settler (e ∷ es) i)) (pad_stays es e i h) ∙ ap (λ k. is_pad es i || is_done (e ∷ es) k) (settler_stays es e i h)
    ∙ ap (λ d. is_pad es i || d) (same (settler es i))

pub one_more_arrive : OneMoreArrive
one_more_arrive o events client op word = rw (newest_first events (Arrive client op word)) (λ f. record {
  real = rw (eq-eqb (arrived (reverse events)) (arrived (reverse events)) refl) refl;
  used = used_newest o (reverse events) client op word;
  leaf_of_block = λ block named real.
      ap (leaf_at o (Arrive client op word ∷ reverse events))
      (used_newest o (reverse events) client op word ∙ ap (λ b. word_for (next_word o (reverse events)) (o.shape.n + arrived (reverse events)) b op) real
      ∙ word_for_block (next_word o (reverse events)) (o.shape.n + arrived (reverse events)) block op named)
      ∙ ap (leaf_of o.shape.l) (place_stays o (reverse events) (Arrive client op word) (next_word o (reverse events) block)
      (next_below o (reverse events) block (names_below o block op named f.2.3)));
  leaf_of_word = λ fake.
      ap (leaf_at o (Arrive client op word ∷ reverse events))
      (used_newest o (reverse events) client op word ∙ ap (λ b. word_for (next_word o (reverse events)) (o.shape.n + arrived (reverse events)) b op) fake
      ∙ word_for_fake (next_word o (reverse events)) (o.shape.n + arrived (reverse events)) op)
      ∙ ap (leaf_of o.shape.l) (own_word o (reverse events) client op word);
  reply = rw (eq-eqb (arrived (reverse events)) (arrived (reverse events)) refl) refl;
  array = refl;
  released = leading_more (is_done (reverse events)) (arrived (reverse events)) (done_arrived o (reverse events) (arrived (reverse events)) f.0 (omega arith));
  settled = same_settled (reverse events) (Arrive client op word) (λ i. refl);
  nodes = record { touch = λ node. refl; resident = λ node. refl; written = λ node. refl; newest = λ node. refl };
  positions = same_positions o (reverse events) (Arrive client op word) f.0 (λ block. refl);
})

pub done_word : (o : Opening) (es : List Event) (arrival : ℕ) → word_at o es (o.shape.n + arrival) ≡ word_of es arrival
done_word o es arrival = rw (le-ltb (o.shape.n + arrival) o.shape.n (omega arith)) (ap (word_of es) (omega arith))

-- whether an arrival is settled by this Done, or was before
settled_by : (p d : Bool) (a b : ℕ) (t : Bool) → nat_eq a b ≡ t → (p || (nat_eq a b || d)) ≡ ((p || d) || nat_eq b a)
settled_by p d a b true is = let same : a ≡ b = eqb-true a b is in rw (is, eq-eqb b a (sym same)) (either p d)
  where
    either : (x y : Bool) → (x || true) ≡ ((x || y) || true)
    either true y = refl
    either false true = refl
    either false false = refl
settled_by p d a b false is = rw (is, ne_eqb b a (λ same. true≢false (sym (eq-eqb a b (sym same)) ∙ is))) (or_none (p || d))
  where
    or_none : (x : Bool) → x ≡ (x || false)
    or_none true = refl
    or_none false = refl

pub one_more_done : OneMoreDone
one_more_done o events arrival taken = rw (newest_first events (Done arrival taken)) (λ f. record {
  touch = λ node. refl;
  resident = λ node. refl;
  written = λ node. refl;
  newest = λ node. refl;
  settled = λ i. settled_by (is_pad (reverse events) i) (is_done (reverse events) (settler (reverse events) i)) arrival (settler (reverse events) i) (nat_eq arrival (settler (reverse events) i)) refl;
  moved = λ block real on. ap (leaf_of o.shape.l) (rw (real, on) (done_word o (reverse events) arrival));
  kept = λ block small other. rw other (ap (leaf_of o.shape.l) (place_stays o (reverse events) (Done arrival taken) (position_word o (reverse events) block) (position_below o (reverse events) block f.0 small)));
  released = released_grows_later (Done arrival taken ∷ []) (reverse events);
})

pub one_more_issue : OneMoreIssue
one_more_issue o events version nonce buckets = rw (newest_first events (Issue version nonce buckets)) (λ f. record {
  touch = λ node. refl;
  resident = λ node. refl;
  written = λ node. refl;
  newest = λ node. ap (λ v. cond (is_some (bucket_of node buckets)) v (newest_version (reverse events) node)) f.2.next;
  settled = same_settled (reverse events) (Issue version nonce buckets) (λ i. refl);
  positions = same_positions o (reverse events) (Issue version nonce buckets) f.0 (λ block. refl);
  released = refl;
})

pub one_more_acked : OneMoreAcked
one_more_acked o events version = rw (newest_first events (Acked version)) (λ f. record {
  touch = λ node. refl;
  resident = λ node. refl;
  written = λ node. refl;
  newest = λ node. refl;
  settled = same_settled (reverse events) (Acked version) (λ i. refl);
  positions = same_positions o (reverse events) (Acked version) f.0 (λ block. refl);
  released = refl;
})

pub one_more_fault : OneMoreFault
one_more_fault o events cause = rw (newest_first events (Fault cause)) (λ f. record {
  nodes = record { touch = λ node. refl; resident = λ node. refl; written = λ node. refl; newest = λ node. refl };
  settled = same_settled (reverse events) (Fault cause) (λ i. refl);
  positions = same_positions o (reverse events) (Fault cause) f.0 (λ block. refl);
  released = refl;
})

pub pads_are_fake : PadsAreFake
pads_are_fake events client word = rw (newest_first events (Arrive client Pad word), eq-eqb (arrived (reverse events)) (arrived (reverse events)) refl) refl
