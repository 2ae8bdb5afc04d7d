-- What is said of a replay that stopped, and of a request that wasn't answered.
use Rattle.std.specs.Prelude.{ℕ, List, codes}
use Rattle.shop_wire.specs.declared.faults.ReplayFault.{ReplayFault}
use Rattle.shop_wire.specs.declared.faults.ReplayFault.TheVariants.{Read, Write, NoMemory}
use Rattle.shop_wire.specs.declared.faults.WireFault.{WireFault}
use Rattle.shop_wire.specs.declared.faults.WireFault.TheVariants as wire

abbrev pub fault_text : ReplayFault → List ℕ
fault_text Read = codes "fault read"
fault_text Write = codes "fault write"
fault_text NoMemory = codes "fault memory"

abbrev pub wire_fault_text : WireFault → List ℕ
wire_fault_text wire.Read = codes "fault read"
wire_fault_text wire.Write = codes "fault write"
wire_fault_text wire.NoMemory = codes "fault memory"
