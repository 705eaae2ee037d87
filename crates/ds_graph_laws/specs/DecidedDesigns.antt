-- A design is accepted or has a fault, and an accepted one has a depth.
use Rattle.std.specs.Prelude.{◌≢◌, ◌⊎◌, ℕ}
use Rattle.ds_design.specs.Accepted.{IsAccepted}
use Rattle.ds_design.specs.Circuit.{Circuit}
use Rattle.ds_design.specs.InRange.{IsInRange}
use Rattle.ds_design.specs.Levels.{IsDepth}
use Rattle.ds_netlist.specs.Fault.{IsNetFault}
use Rattle.ds_netlist.specs.declared.fault.NetFault.{NetFault}
use Rattle.ds_netlist.specs.declared.fault.NetFault.TheVariants.{Memory}

-- a design whose numbers name what is there is accepted, or has a fault other than want of memory
abbrev pub DesignsAreDecided : Type 0
DesignsAreDecided = (c : Circuit) → IsInRange c
    → IsAccepted c ⊎ ((fault : NetFault) × (fault ≢ Memory) × IsNetFault c fault)

-- an accepted design has a depth
abbrev pub DesignsHaveDepth : Type 0
DesignsHaveDepth = (c : Circuit) → IsInRange c → IsAccepted c → (depth : ℕ) × IsDepth c depth
