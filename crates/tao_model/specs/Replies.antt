-- What the plain array answers, and how many answers are released. The events are newest first.
use Rattle.std.specs.Prelude.{ℕ, zero, suc, ◌+◌, ◌==◌, Bool, ◌&&◌, if◌then◌else◌, List, [], ◌∷◌, Option, Some, None}
use Rattle.std.specs.List.{filter_map}
use Rattle.tao_base.specs.declared.calls.Op.{Op}
use Rattle.tao_base.specs.declared.session.Event.{Event}
use Rattle.tao_base.specs.declared.session.Event.TheVariants.{Arrive, Done, Issue, Acked, Fault}
use Rattle.tao_base.specs.Session.{Opening}
use Rattle.tao_base.specs.Array.{array_step, array_reply}
use Rattle.tao_model.specs.Events.{arrived, is_done}

-- the operation of an arrival
abbrev pub op_of : Event → Option Op
op_of (Arrive client op word) = Some op
op_of (Done arrival taken) = None
op_of (Issue version nonce buckets) = None
op_of (Acked version) = None
op_of (Fault cause) = None

-- the operations of the arrivals, in the order of the events
abbrev pub ops : List Event → List Op
ops events = filter_map op_of events

-- the plain array after all arrivals
abbrev pub array_now : Opening → List Event → List (List ℕ)
array_now o [] = o.first
array_now o (Arrive client op word ∷ es) = array_step (array_now o es) op
array_now o (Done arrival taken ∷ es) = array_now o es
array_now o (Issue version nonce buckets ∷ es) = array_now o es
array_now o (Acked version ∷ es) = array_now o es
array_now o (Fault cause ∷ es) = array_now o es

-- what the plain array answers this arrival after all earlier ones
abbrev pub plain_reply : Opening → List Event → ℕ → List ℕ
plain_reply o [] i = []
plain_reply o (Arrive client op word ∷ es) i = if i == arrived es then array_reply (array_now o es) op else plain_reply o es i
plain_reply o (Done arrival taken ∷ es) i = plain_reply o es i
plain_reply o (Issue version nonce buckets ∷ es) i = plain_reply o es i
plain_reply o (Acked version ∷ es) i = plain_reply o es i
plain_reply o (Fault cause ∷ es) i = plain_reply o es i

-- how many of the numbers below n pass before the first that doesn't
abbrev pub leading : (ℕ → Bool) → ℕ → ℕ
leading passes zero = 0
leading passes (suc n) = if passes n && (leading passes n == n) then n + 1 else leading passes n

-- The number of released answers: answers are released in the order of arrival, up to the first arrival that isn't done.
abbrev pub released : List Event → ℕ
released es = leading (is_done es) (arrived es)
