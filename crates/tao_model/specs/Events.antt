-- What a record has come to: counts of events, and what is known of one arrival.
-- Look-back functions take the events newest first. A record is oldest first: give them `reverse`.
use Rattle.std.specs.Prelude.{ℕ, ◌+◌, ◌-◌, ◌<◌, ◌==◌, nat_lt, nat_le, Bool, true, false, not, ◌&&◌, ◌||◌, if◌then◌else◌, List, [], ◌∷◌, Option, Some, None, length, slice_index, ⊤}
use Rattle.std.specs.List.{list_any}
use Rattle.tao_base.specs.declared.calls.Op.{Op}
use Rattle.tao_base.specs.declared.calls.Op.TheVariants.{Read, Write, Pad}
use Rattle.tao_base.specs.declared.session.Cause.{Cause}
use Rattle.tao_base.specs.declared.session.Event.{Event}
use Rattle.tao_base.specs.declared.session.Event.TheVariants.{Arrive, Done, Issue, Acked, Fault}
use Rattle.tao_base.specs.Session.{Opening, is_fault}

-- the number of arrivals, which is the number of the next one
abbrev pub arrived : List Event → ℕ
arrived [] = 0
arrived (Arrive client op word ∷ es) = arrived es + 1
arrived (Done arrival taken ∷ es) = arrived es
arrived (Issue version nonce buckets ∷ es) = arrived es
arrived (Acked version ∷ es) = arrived es
arrived (Fault cause ∷ es) = arrived es

-- the number of fetched paths that were admitted; the newest Done has this number
abbrev pub dones : List Event → ℕ
dones [] = 0
dones (Arrive client op word ∷ es) = dones es
dones (Done arrival taken ∷ es) = dones es + 1
dones (Issue version nonce buckets ∷ es) = dones es
dones (Acked version ∷ es) = dones es
dones (Fault cause ∷ es) = dones es

-- the number of write-backs
abbrev pub issues : List Event → ℕ
issues [] = 0
issues (Arrive client op word ∷ es) = issues es
issues (Done arrival taken ∷ es) = issues es
issues (Issue version nonce buckets ∷ es) = issues es + 1
issues (Acked version ∷ es) = issues es
issues (Fault cause ∷ es) = issues es

-- the number of buckets in all write-backs
abbrev pub buckets_issued : List Event → ℕ
buckets_issued [] = 0
buckets_issued (Arrive client op word ∷ es) = buckets_issued es
buckets_issued (Done arrival taken ∷ es) = buckets_issued es
buckets_issued (Issue version nonce buckets ∷ es) = buckets_issued es + length buckets
buckets_issued (Acked version ∷ es) = buckets_issued es
buckets_issued (Fault cause ∷ es) = buckets_issued es

-- the number of acknowledgements
abbrev pub acks : List Event → ℕ
acks [] = 0
acks (Arrive client op word ∷ es) = acks es
acks (Done arrival taken ∷ es) = acks es
acks (Issue version nonce buckets ∷ es) = acks es
acks (Acked version ∷ es) = acks es + 1
acks (Fault cause ∷ es) = acks es

-- whether there is a Fault, in either order of the events
abbrev pub has_fault : List Event → Bool
has_fault es = list_any is_fault es

-- the cause of the newest Fault, if there is one
abbrev pub cause_in : List Event → Option Cause
cause_in [] = None
cause_in (Arrive client op word ∷ es) = cause_in es
cause_in (Done arrival taken ∷ es) = cause_in es
cause_in (Issue version nonce buckets ∷ es) = cause_in es
cause_in (Acked version ∷ es) = cause_in es
cause_in (Fault cause ∷ es) = Some cause

-- whether this arrival's fetched path was admitted
abbrev pub is_done : List Event → ℕ → Bool
is_done [] i = false
is_done (Arrive client op word ∷ es) i = is_done es i
is_done (Done arrival taken ∷ es) i = (arrival == i) || is_done es i
is_done (Issue version nonce buckets ∷ es) i = is_done es i
is_done (Acked version ∷ es) i = is_done es i
is_done (Fault cause ∷ es) i = is_done es i

-- whether the write-back of this version was acknowledged
abbrev pub is_acked : List Event → ℕ → Bool
is_acked [] v = false
is_acked (Arrive client op word ∷ es) v = is_acked es v
is_acked (Done arrival taken ∷ es) v = is_acked es v
is_acked (Issue version nonce buckets ∷ es) v = is_acked es v
is_acked (Acked version ∷ es) v = (version == v) || is_acked es v
is_acked (Fault cause ∷ es) v = is_acked es v

-- whether this arrival's fetch is under way: it was requested and isn't done
abbrev pub is_under_way : List Event → ℕ → Bool
is_under_way es i = nat_lt i (arrived es) && not (is_done es i)

-- whether the write-back of this version is outstanding: it was issued and isn't acknowledged
abbrev pub is_outstanding : List Event → ℕ → Bool
is_outstanding es v = nat_lt 0 v && (nat_le v (issues es) && not (is_acked es v))

-- whether an operation is on a block; a pad is on none
abbrev pub names : ℕ → Op → Bool
names block (Read id) = id == block
names block (Write id value) = id == block
names block Pad = false

-- whether an operation is a pad, which is on no block
abbrev pub is_pad_op : Op → Bool
is_pad_op (Read id) = false
is_pad_op (Write id value) = false
is_pad_op Pad = true

-- an operation is on one of so many blocks, or is a pad
abbrev pub NamesBelow : ℕ → Op → Type 0
NamesBelow n (Read id) = id < n
NamesBelow n (Write id value) = id < n
NamesBelow n Pad = ⊤

-- whether this arrival is on a block
abbrev pub is_on : List Event → ℕ → ℕ → Bool
is_on [] i block = false
is_on (Arrive client op word ∷ es) i block = if i == arrived es then names block op else is_on es i block
is_on (Done arrival taken ∷ es) i block = is_on es i block
is_on (Issue version nonce buckets ∷ es) i block = is_on es i block
is_on (Acked version ∷ es) i block = is_on es i block
is_on (Fault cause ∷ es) i block = is_on es i block

-- whether this arrival is a pad
abbrev pub is_pad : List Event → ℕ → Bool
is_pad [] i = false
is_pad (Arrive client op word ∷ es) i = if i == arrived es then is_pad_op op else is_pad es i
is_pad (Done arrival taken ∷ es) i = is_pad es i
is_pad (Issue version nonce buckets ∷ es) i = is_pad es i
is_pad (Acked version ∷ es) i = is_pad es i
is_pad (Fault cause ∷ es) i = is_pad es i

-- who made this arrival
abbrev pub client_of : List Event → ℕ → ℕ
client_of [] i = 0
client_of (Arrive client op word ∷ es) i = if i == arrived es then client else client_of es i
client_of (Done arrival taken ∷ es) i = client_of es i
client_of (Issue version nonce buckets ∷ es) i = client_of es i
client_of (Acked version ∷ es) i = client_of es i
client_of (Fault cause ∷ es) i = client_of es i

-- the tape word that came with this arrival
abbrev pub word_of : List Event → ℕ → ℕ
word_of [] i = 0
word_of (Arrive client op word ∷ es) i = if i == arrived es then word else word_of es i
word_of (Done arrival taken ∷ es) i = word_of es i
word_of (Issue version nonce buckets ∷ es) i = word_of es i
word_of (Acked version ∷ es) i = word_of es i
word_of (Fault cause ∷ es) i = word_of es i

-- the word at a place of the tape: first one for each block, then one for each arrival
abbrev pub word_at : Opening → List Event → ℕ → ℕ
word_at o es place = if nat_lt place o.shape.n then slice_index o.words place else word_of es (place - o.shape.n)
