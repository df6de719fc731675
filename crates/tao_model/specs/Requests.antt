-- Which arrivals are real, and which leaf each fetches. The events are newest first.
use Rattle.std.specs.Prelude.{ℕ, zero, suc, ◌+◌, ◌==◌, Bool, false, not, ◌&&◌, ◌||◌, if◌then◌else◌, List, [], ◌∷◌}
use Rattle.tao_base.specs.declared.calls.Op.{Op}
use Rattle.tao_base.specs.declared.calls.Op.TheVariants.{Read, Write, Pad}
use Rattle.tao_base.specs.declared.session.Event.{Event}
use Rattle.tao_base.specs.declared.session.Event.TheVariants.{Arrive, Done, Issue, Acked, Fault}
use Rattle.tao_base.specs.Session.{Opening}
use Rattle.tao_base.specs.Tree.{leaf_of, is_on_path}
use Rattle.tao_model.specs.Events.{arrived, is_done, is_on, is_pad, names, word_at}

-- whether some number below n passes
abbrev pub any_below : (ℕ → Bool) → ℕ → Bool
any_below passes zero = false
any_below passes (suc n) = passes n || any_below passes n

-- No real arrival below n on the operation's block is under way. A pad is on no block and never free.
abbrev pub is_free : (ℕ → ℕ → Bool) → (ℕ → Bool) → (ℕ → Bool) → ℕ → Op → Bool
is_free on real finished n (Read block) = not (any_below (λ i. on i block && (real i && not (finished i))) n)
is_free on real finished n (Write block value) = not (any_below (λ i. on i block && (real i && not (finished i))) n)
is_free on real finished n Pad = false

-- An arrival on a block is real if every earlier real arrival on it is done: it fetches for its block. Otherwise it is fake, like a pad.
abbrev pub is_real : List Event → ℕ → Bool
is_real [] i = false
is_real (Arrive client op word ∷ es) i = if i == arrived es then is_free (is_on es) (is_real es) (is_done es) (arrived es) op else is_real es i
is_real (Done arrival taken ∷ es) i = is_real es i
is_real (Issue version nonce buckets ∷ es) i = is_real es i
is_real (Acked version ∷ es) i = is_real es i
is_real (Fault cause ∷ es) i = is_real es i

-- whether an arrival of this operation would be real now
abbrev pub real_now : List Event → Op → Bool
real_now es op = is_free (is_on es) (is_real es) (is_done es) (arrived es) op

-- the last real arrival on a block, or 0 if there is none
abbrev pub last_real : List Event → ℕ → ℕ
last_real [] block = 0
last_real (Arrive client op word ∷ es) block = if real_now es op && names block op then arrived es else last_real es block
last_real (Done arrival taken ∷ es) block = last_real es block
last_real (Issue version nonce buckets ∷ es) block = last_real es block
last_real (Acked version ∷ es) block = last_real es block
last_real (Fault cause ∷ es) block = last_real es block

-- what settles a new arrival: itself if it is real or a pad, else the last real arrival on its block
abbrev pub settler_for : (ℕ → ℕ) → ℕ → Bool → Op → ℕ
settler_for last new real (Read block) = if real then new else last block
settler_for last new real (Write block value) = if real then new else last block
settler_for last new real Pad = new

-- the arrival whose Done settles this one: the last real arrival on its block up to it
abbrev pub settler : List Event → ℕ → ℕ
settler [] i = 0
settler (Arrive client op word ∷ es) i = if i == arrived es then settler_for (last_real es) (arrived es) (real_now es op) op else settler es i
settler (Done arrival taken ∷ es) i = settler es i
settler (Issue version nonce buckets ∷ es) i = settler es i
settler (Acked version ∷ es) i = settler es i
settler (Fault cause ∷ es) i = settler es i

-- an arrival's value is known once its settler is done; a pad's at once
abbrev pub is_settled : List Event → ℕ → Bool
is_settled es i = is_pad es i || is_done es (settler es i)

-- the place of the tape word that the next real arrival on a block will use
abbrev pub next_word : Opening → List Event → ℕ → ℕ
next_word o [] block = block
next_word o (Arrive client op word ∷ es) block = if real_now es op && names block op then o.shape.n + arrived es else next_word o es block
next_word o (Done arrival taken ∷ es) block = next_word o es block
next_word o (Issue version nonce buckets ∷ es) block = next_word o es block
next_word o (Acked version ∷ es) block = next_word o es block
next_word o (Fault cause ∷ es) block = next_word o es block

-- the place of the word that a new arrival uses: its block's next word if it is real, else its own
abbrev pub word_for : (ℕ → ℕ) → ℕ → Bool → Op → ℕ
word_for next new real (Read block) = if real then next block else new
word_for next new real (Write block value) = if real then next block else new
word_for next new real Pad = new

-- the place of the tape word that this arrival uses
abbrev pub word_used : Opening → List Event → ℕ → ℕ
word_used o [] i = 0
word_used o (Arrive client op word ∷ es) i = if i == arrived es then word_for (next_word o es) (o.shape.n + arrived es) (real_now es op) op else word_used o es i
word_used o (Done arrival taken ∷ es) i = word_used o es i
word_used o (Issue version nonce buckets ∷ es) i = word_used o es i
word_used o (Acked version ∷ es) i = word_used o es i
word_used o (Fault cause ∷ es) i = word_used o es i

-- the leaf of the word at this place of the tape
abbrev pub leaf_at : Opening → List Event → ℕ → ℕ
leaf_at o es place = leaf_of o.shape.l (word_at o es place)

-- the leaf whose path this arrival fetches
abbrev pub fetched_leaf : Opening → List Event → ℕ → ℕ
fetched_leaf o es i = leaf_at o es (word_used o es i)

-- whether this arrival fetches a node
abbrev pub fetches : Opening → List Event → ℕ → ℕ → Bool
fetches o es i node = is_on_path o.shape.l (fetched_leaf o es i) node

-- the place of the word of a block's position: that of the last real arrival on it that is done
abbrev pub position_word : Opening → List Event → ℕ → ℕ
position_word o [] block = block
position_word o (Arrive client op word ∷ es) block = position_word o es block
position_word o (Done arrival taken ∷ es) block = if is_real es arrival && is_on es arrival block then o.shape.n + arrival else position_word o es block
position_word o (Issue version nonce buckets ∷ es) block = position_word o es block
position_word o (Acked version ∷ es) block = position_word o es block
position_word o (Fault cause ∷ es) block = position_word o es block

-- the position map: the leaf on whose path a block lies, unless it is in the stash
abbrev pub position : Opening → List Event → ℕ → ℕ
position o es block = leaf_at o es (position_word o es block)
