-- The numbers in a fault name what is there.
use Rattle.std.specs.Prelude.{◌<◌, All, length}
use Rattle.ds_design.specs.Circuit.{Circuit}
use Rattle.ds_netlist.specs.declared.fault.NetFault.{NetFault}
use Rattle.ds_netlist.specs.declared.fault.NetFault.TheVariants.{SeveralClocks, MixedEdges}
use Rattle.ds_netlist.specs.declared.fault.NetFault.TheVariants.{DrivenClock, ClockAsData}
use Rattle.ds_netlist.specs.declared.fault.NetFault.TheVariants.{MultiplyDriven, Undriven}
use Rattle.ds_netlist.specs.declared.fault.NetFault.TheVariants.{CombinationalCycle, Memory}

-- the nets and registers of a fault are nets and registers of the circuit
abbrev pub IsNamed : Circuit → NetFault → Type 0
IsNamed c (SeveralClocks a b) = (a < length c.nets) × (b < length c.nets)
IsNamed c (MixedEdges a b) = (a < length c.registers) × (b < length c.registers)
IsNamed c (DrivenClock net) = net < length c.nets
IsNamed c (ClockAsData net) = net < length c.nets
IsNamed c (MultiplyDriven net d e) = net < length c.nets
IsNamed c (Undriven net) = net < length c.nets
IsNamed c (CombinationalCycle nets) = All (λ net. net < length c.nets) nets
IsNamed c Memory = Unit {0}
