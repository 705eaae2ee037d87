-- What follows of the definition of a fault.
use Rattle.std.specs.Prelude.{◌≡◌, ◌≢◌, ◌⊎◌, List, ℕ}
use Rattle.ds_design.specs.Circuit.{Circuit}
use Rattle.ds_design.specs.InRange.{IsInRange}
use Rattle.ds_design.specs.Accepted.{IsAccepted}
use Rattle.ds_design.specs.Levels.{AreLevels, IsDepth}
use Rattle.ds_netlist.specs.Fault.{IsNetFault}
use Rattle.ds_netlist.specs.Named.{IsNamed}
use Rattle.ds_netlist.specs.declared.fault.NetFault.{NetFault}
use Rattle.ds_netlist.specs.declared.fault.NetFault.TheVariants.{CombinationalCycle, Memory}

-- a circuit with a fault is not accepted
abbrev pub FaultsAreRefused : Type 0
FaultsAreRefused = (c : Circuit) (fault : NetFault) → fault ≢ Memory → IsNetFault c fault
    → ¬ IsAccepted c

-- the fault is a cycle
abbrev pub ShowsCycle : NetFault → Type 0
ShowsCycle fault = (nets : List ℕ) × (fault ≡ CombinationalCycle nets)

-- two faults of one circuit are one, or are both cycles
abbrev pub OneFault : Type 0
OneFault = (c : Circuit) (fault other : NetFault) → fault ≢ Memory → other ≢ Memory
    → IsNetFault c fault → IsNetFault c other
    → (fault ≡ other) ⊎ (ShowsCycle fault × ShowsCycle other)

-- the nets and registers of a fault are those of the circuit
abbrev pub FaultsAreInRange : Type 0
FaultsAreInRange = (c : Circuit) → IsInRange c → (fault : NetFault) → IsNetFault c fault
    → IsNamed c fault

-- the levels of an accepted circuit are one
abbrev pub OneLevel : Type 0
OneLevel = (c : Circuit) → IsAccepted c → (levels other : List ℕ) → AreLevels c levels
    → AreLevels c other → levels ≡ other

-- the greatest level of an accepted circuit is one
abbrev pub OneDepth : Type 0
OneDepth = (c : Circuit) → IsAccepted c → (depth other : ℕ) → IsDepth c depth → IsDepth c other
    → depth ≡ other
