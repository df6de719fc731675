-- Each answer comes where its cause is there.
use Rattle.std.proofs.Common.{◌≡◌, ◌⊎◌, inl, inr, ℕ, ◌^◌, ◌<◌, List, Option, Some, None, Result, Ok, Err, refl, ap}
use Rattle.tao_wire.specs.declared.message.Message.{Message}
use Rattle.tao_wire.specs.declared.message.WireFault.{WireFault}
use Rattle.tao_wire.specs.declared.message.WireFault.TheVariants.{Long, Kind, Body, Memory}
use Rattle.tao_wire.specs.Frames.{BeginsWith, IsPartial, BeginsFaulty}
use Rattle.tao_wire.specs.Runs.{Answers}
use Rattle.tao_wire.proofs.Frontier.{one_message, no_message_partial, no_message_faulty, no_fault_partial, one_fault}

-- where a faulty frame is next, its fault is the one answer
pub fault_and_left : (limit : ℕ) (left new : List ℕ) (fault : WireFault) (answer : Result (Option Message) WireFault) → limit < 2 ^ 32
    → Answers limit left answer new → BeginsFaulty limit left fault → (answer ≡ Err fault) × (new ≡ left)
fault_and_left limit left new fault (Ok (Some m)) small a h = absurd (no_message_faulty limit left new m fault small a h)
fault_and_left limit left new fault (Ok None) small a h = absurd (no_fault_partial limit left fault a.0 h)
fault_and_left limit left new fault (Err Long) small a h = (ap Err (one_fault limit left Long fault a.0 h), a.1)
fault_and_left limit left new fault (Err Kind) small a h = (ap Err (one_fault limit left Kind fault a.0 h), a.1)
fault_and_left limit left new fault (Err Body) small a h = (ap Err (one_fault limit left Body fault a.0 h), a.1)
fault_and_left limit left new fault (Err Memory) small a h = absurd (no_message_faulty limit left a.0.1 a.0.0 fault small a.0.2 h)

pub only_fault : (limit : ℕ) (left new : List ℕ) (fault : WireFault) (answer : Result (Option Message) WireFault) → limit < 2 ^ 32
    → Answers limit left answer new → BeginsFaulty limit left fault → answer ≡ Err fault
only_fault limit left new fault answer small a h = (fault_and_left limit left new fault answer small a h).0

pub only_none : (limit : ℕ) (left new : List ℕ) (answer : Result (Option Message) WireFault) → limit < 2 ^ 32
    → Answers limit left answer new → IsPartial limit left → answer ≡ Ok None
only_none limit left new (Ok (Some m)) small a h = absurd (no_message_partial limit left new m small a h)
only_none limit left new (Ok None) small a h = refl
only_none limit left new (Err Long) small a h = absurd (no_fault_partial limit left Long h a.0)
only_none limit left new (Err Kind) small a h = absurd (no_fault_partial limit left Kind h a.0)
only_none limit left new (Err Body) small a h = absurd (no_fault_partial limit left Body h a.0)
only_none limit left new (Err Memory) small a h = absurd (no_message_partial limit left a.0.1 a.0.0 small a.0.2 h)

pub only_message : (limit : ℕ) (left new rest : List ℕ) (m : Message) (answer : Result (Option Message) WireFault) → limit < 2 ^ 32
    → Answers limit left answer new → BeginsWith limit left m rest → ((answer ≡ Ok (Some m)) × (new ≡ rest)) ⊎ (answer ≡ Err Memory)
only_message limit left new rest m (Ok (Some n)) small a h = let e = one_message limit left new rest n m small a h in inl (ap (λ k. Ok (Some k)) e.0, e.1)
only_message limit left new rest m (Ok None) small a h = absurd (no_message_partial limit left rest m small h a.0)
only_message limit left new rest m (Err Long) small a h = absurd (no_message_faulty limit left rest m Long small h a.0)
only_message limit left new rest m (Err Kind) small a h = absurd (no_message_faulty limit left rest m Kind small h a.0)
only_message limit left new rest m (Err Body) small a h = absurd (no_message_faulty limit left rest m Body small h a.0)
only_message limit left new rest m (Err Memory) small a h = inr refl
