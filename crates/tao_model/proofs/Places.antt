-- Places within the tape, and the facts of a lawful record that they rest on. The events are newest first.
use Rattle.std.proofs.Common.{◌≡◌, ℕ, ◌+◌, ◌<◌, ◌≤◌, Bool, true, false, ◌&&◌, cond, List, [], ◌∷◌, ◌++◌, refl, ap, ◌∙◌, arith, inl, inr, ◌⊎◌}
use Rattle.std.proofs.lemmas.Bool.{ne_eqb, eq-eqb, cases_lt}
use Rattle.tao_base.specs.declared.calls.Op.{Op}
use Rattle.tao_base.specs.declared.calls.Op.TheVariants.{Read, Write, Pad}
use Rattle.tao_base.specs.declared.session.Event.{Event}
use Rattle.tao_base.specs.declared.session.Event.TheVariants.{Arrive, Done, Issue, Acked, Fault}
use Rattle.tao_base.specs.Session.{Opening}
use Rattle.tao_base.specs.Tree.{leaf_of}
use Rattle.tao_model.specs.Events.{arrived, is_done, is_on, names, word_at}
use Rattle.tao_model.specs.Requests.{is_real, real_now, next_word, word_for, word_used, leaf_at, fetched_leaf, position_word}
use Rattle.tao_model.specs.Lawful.{FollowsLawfully, IsInRange}
use Rattle.tao_model.proofs.Stays.{used_stays, place_stays}

below_either : (n k p : ℕ) (b : Bool) → p < n + k → cond b (n + k) p < n + (k + 1)
below_either n k p true h = omega arith
below_either n k p false h = omega arith

-- the next word of a block is on the tape
pub next_below : (o : Opening) (es : List Event) (block : ℕ) → block < o.shape.n → next_word o es block < o.shape.n + arrived es
next_below o [] block h = omega arith
next_below o (Arrive client op word ∷ es) block h =
    below_either o.shape.n (arrived es) (next_word o es block) (real_now es op && names block op) (next_below o es block h)
next_below o (Done arrival taken ∷ es) block h = next_below o es block h
next_below o (Issue version nonce buckets ∷ es) block h = next_below o es block h
next_below o (Acked version ∷ es) block h = next_below o es block h
next_below o (Fault cause ∷ es) block h = next_below o es block h

-- the word of a new arrival is its own or its block's next one
pub word_for_below : (o : Opening) (es : List Event) (op : Op) (real : Bool) → IsInRange o.shape op
    → word_for (next_word o es) (o.shape.n + arrived es) real op < o.shape.n + (arrived es + 1)
word_for_below o es (Read id) true h = let below = next_below o es id h in omega arith
word_for_below o es (Read id) false h = omega arith
word_for_below o es (Write id value) true h = let below = next_below o es id h.0 in omega arith
word_for_below o es (Write id value) false h = omega arith
word_for_below o es Pad real h = omega arith

-- the word that an arrival uses is on the tape
pub used_below : (o : Opening) (es : List Event) (i : ℕ) → FollowsLawfully o es → i < arrived es → word_used o es i < o.shape.n + arrived es
used_below o [] i f h = absurd (omega arith)
used_below o (Arrive client op word ∷ es) i f h = either (cases_lt i (arrived es)) (λ older. used_below o es i f.0 older)
  where
    either : (i < arrived es) ⊎ (arrived es ≤ i) → (i < arrived es → word_used o es i < o.shape.n + arrived es)
        → word_used o (Arrive client op word ∷ es) i < o.shape.n + (arrived es + 1)
    either (inl older) ih = rw (ne_eqb i (arrived es) (λ same. omega arith)) (let below = ih older in omega arith)
    either (inr newest) ih = rw (eq-eqb i (arrived es) (omega arith)) (word_for_below o es op (real_now es op) f.2.3)
used_below o (Done arrival taken ∷ es) i f h = used_below o es i f.0 h
used_below o (Issue version nonce buckets ∷ es) i f h = used_below o es i f.0 h
used_below o (Acked version ∷ es) i f h = used_below o es i f.0 h
used_below o (Fault cause ∷ es) i f h = used_below o es i f.0 h

-- a Done belongs to an arrival
pub done_arrived : (o : Opening) (es : List Event) (i : ℕ) → FollowsLawfully o es → arrived es ≤ i → is_done es i ≡ false
done_arrived o [] i f h = refl
done_arrived o (Arrive client op word ∷ es) i f h = done_arrived o es i f.0 (omega arith)
done_arrived o (Done arrival taken ∷ es) i f h =
    let there = f.2.1.arrived in rw (ne_eqb arrival i (λ same. omega arith)) (done_arrived o es i f.0 h)
done_arrived o (Issue version nonce buckets ∷ es) i f h = done_arrived o es i f.0 h
done_arrived o (Acked version ∷ es) i f h = done_arrived o es i f.0 h
done_arrived o (Fault cause ∷ es) i f h = done_arrived o es i f.0 h

-- the word of a block's position is on the tape
pub position_below : (o : Opening) (es : List Event) (block : ℕ) → FollowsLawfully o es → block < o.shape.n → position_word o es block < o.shape.n + arrived es
position_below o [] block f h = omega arith
position_below o (Arrive client op word ∷ es) block f h = let below = position_below o es block f.0 h in omega arith
position_below o (Done arrival taken ∷ es) block f h = either (is_real es arrival && is_on es arrival block) (position_below o es block f.0 h)
  where
    either : (b : Bool) → position_word o es block < o.shape.n + arrived es → cond b (o.shape.n + arrival) (position_word o es block) < o.shape.n + arrived es
    either true ih = let there = f.2.1.arrived in omega arith
    either false ih = ih
position_below o (Issue version nonce buckets ∷ es) block f h = position_below o es block f.0 h
position_below o (Acked version ∷ es) block f h = position_below o es block f.0 h
position_below o (Fault cause ∷ es) block f h = position_below o es block f.0 h

-- ---- any number of later events, `later` newest first

pub arrived_grows : (later es : List Event) → arrived es ≤ arrived (later ++ es)
arrived_grows [] es = omega arith
arrived_grows (Arrive client op word ∷ later) es = let grown = arrived_grows later es in omega arith
arrived_grows (Done arrival taken ∷ later) es = arrived_grows later es
arrived_grows (Issue version nonce buckets ∷ later) es = arrived_grows later es
arrived_grows (Acked version ∷ later) es = arrived_grows later es
arrived_grows (Fault cause ∷ later) es = arrived_grows later es

pub stays_later : {X : Type 0} (f : List Event → X) (n : ℕ) → ((es : List Event) (e : Event) → n ≤ arrived es → f (e ∷ es) ≡ f es)
    → (later es : List Event) → n ≤ arrived es → f (later ++ es) ≡ f es
stays_later f n step [] es h = refl
stays_later f n step (e ∷ later) es h = let grown = arrived_grows later es in step (later ++ es) e (omega arith) ∙ stays_later f n step later es h

pub place_stays_later : (o : Opening) (later es : List Event) (place : ℕ) → place < o.shape.n + arrived es → word_at o (later ++ es) place ≡ word_at o es place
place_stays_later o [] es place h = refl
place_stays_later o (e ∷ later) es place h =
    let grown = arrived_grows later es in place_stays o (later ++ es) e place (omega arith) ∙ place_stays_later o later es place h

pub leaf_stays_later : (o : Opening) (later es : List Event) (i : ℕ) → FollowsLawfully o es → i < arrived es → fetched_leaf o (later ++ es) i ≡ fetched_leaf o es i
leaf_stays_later o later es i f h =
    let used : word_used o (later ++ es) i ≡ word_used o es i = stays_later (λ l. word_used o l i) (i + 1) (λ l e k. used_stays o l e i (omega arith)) later es (omega arith) in
    ap (leaf_at o (later ++ es)) used ∙ ap (λ x. leaf_of o.shape.l x) (place_stays_later o later es (word_used o es i) (used_below o es i f h))
