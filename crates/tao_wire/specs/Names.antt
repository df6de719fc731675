-- The names of the faults of a stream.
use Rattle.std.specs.Prelude.{ℕ, List, codes}
use Rattle.tao_wire.specs.declared.message.WireFault.{WireFault}
use Rattle.tao_wire.specs.declared.message.WireFault.TheVariants.{Long, Kind, Body, Memory}

-- the name that a fault of a stream is shown by
abbrev pub fault_name : WireFault → List ℕ
fault_name Long = codes "Long"
fault_name Kind = codes "Kind"
fault_name Body = codes "Body"
fault_name Memory = codes "Memory"
