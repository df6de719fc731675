-- Why calls of a desk are refused: the first cause that applies, by the key and the record alone.
use Rattle.std.specs.Prelude.{ℕ, ◌-◌, ◌==◌, ◌&&◌, nat_lt, not, List, length, reverse, Option, Some, None, if◌then◌else◌}
use Rattle.std.specs.List.{list_any}
use Rattle.std.specs.Option.{option_map}
use Rattle.tao_base.specs.declared.calls.Op.{Op}
use Rattle.tao_base.specs.declared.calls.Op.TheVariants.{Read, Write, Pad}
use Rattle.tao_base.specs.Limits.{Shape, session_limit}
use Rattle.tao_base.specs.Session.{History}
use Rattle.tao_model.specs.Events.{arrived, dones, issues, acks, has_fault, is_under_way, is_outstanding}
use Rattle.tao_images.specs.Answers.{fetch_refusal, leaf_refusal}
use Rattle.tao_images.specs.declared.nodes.Refused.{Refused}
use Rattle.tao_images.specs.declared.nodes.Refused.TheVariants as refused
use Rattle.tao_desk.specs.declared.faults.StartFault.{StartFault}
use Rattle.tao_desk.specs.declared.faults.StartFault.TheVariants as starting
use Rattle.tao_desk.specs.declared.faults.ArriveFault.{ArriveFault}
use Rattle.tao_desk.specs.declared.faults.ArriveFault.TheVariants as arriving
use Rattle.tao_desk.specs.declared.faults.DoneFault.{DoneFault}
use Rattle.tao_desk.specs.declared.faults.DoneFault.TheVariants as answering
use Rattle.tao_desk.specs.declared.faults.AckFault.{AckFault}
use Rattle.tao_desk.specs.declared.faults.AckFault.TheVariants as acknowledging
use Rattle.tao_desk.specs.declared.faults.ScanFault.{ScanFault}
use Rattle.tao_desk.specs.declared.faults.ScanFault.TheVariants as scanning

-- a first value for each block, each as long as a block
abbrev pub start_refusal : Shape → List (List ℕ) → Option StartFault
start_refusal s blocks =
    if length blocks == s.n then (if list_any (λ value. not (length value == s.b)) blocks then Some starting.BlockLength else None) else Some starting.BlockCount

-- what is wrong with an operation itself, if anything: there is no such block, or the value has another length
abbrev pub op_refusal : Shape → Op → Option ArriveFault
op_refusal s (Read id) = if nat_lt id s.n then None else Some arriving.NoBlock
op_refusal s (Write id value) = if nat_lt id s.n then (if length value == s.b then None else Some arriving.BlockLength) else Some arriving.NoBlock
op_refusal s Pad = None

-- the session is over; it has all its arrivals, or the tape, of which so many words are left, has none; or else what is wrong with the operation
abbrev pub arrive_refusal : ℕ → History → Op → Option ArriveFault
arrive_refusal left h op =
    if has_fault (reverse h.events) then Some arriving.Down
    else (if nat_lt (arrived (reverse h.events)) (session_limit h.opening.shape) then (if nat_lt 0 left then op_refusal h.opening.shape op else Some arriving.SessionFull)
    else Some arriving.SessionFull)

-- the fault that tells of refused bytes
abbrev pub done_fault : Refused → DoneFault
done_fault (refused.Damaged node fault) = answering.Damaged node fault
done_fault (refused.Stale node wanted found) = answering.Stale node wanted found

-- the session is over; no such fetch is under way; or else the first refusal of the answer's bytes
abbrev pub done_refusal : List ℕ → History → ℕ → List ℕ → Option DoneFault
done_refusal key h i path =
    if has_fault (reverse h.events) then Some answering.Down
    else (if is_under_way (reverse h.events) i then option_map done_fault (fetch_refusal key h i path) else Some answering.Stranger)

-- the session is over, or else the first refusal of the bytes at this leaf of the closing scan
abbrev pub scan_refusal : List ℕ → History → ℕ → List ℕ → Option DoneFault
scan_refusal key h leaf path = if has_fault (reverse h.events) then Some answering.Down else option_map done_fault (leaf_refusal key h leaf path)

-- the session is over, or no such write-back is outstanding
abbrev pub ack_refusal : History → ℕ → Option AckFault
ack_refusal h version =
    if has_fault (reverse h.events) then Some acknowledging.Down else (if is_outstanding (reverse h.events) version then None else Some acknowledging.Stranger)

-- the session is over, or something is under way: fetches that aren't done, or write-backs that aren't acknowledged
abbrev pub begin_refusal : History → Option ScanFault
begin_refusal h =
    if has_fault (reverse h.events) then Some scanning.Down
    else (if (dones (reverse h.events) == arrived (reverse h.events)) && (acks (reverse h.events) == issues (reverse h.events)) then None
    else Some (scanning.Busy (arrived (reverse h.events) - dones (reverse h.events)) (issues (reverse h.events) - acks (reverse h.events))))
