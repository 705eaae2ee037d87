-- The tables as edges from their inputs to what they drive.
use Rattle.std.specs.Prelude.{◌≡◌, ◌==◌, ℕ, List, length, map, if◌then◌else◌, Any, Contains}
use Rattle.std.specs.List.{flat_map, list_any}
use Rattle.ds_design.specs.Circuit.{Circuit}
use Rattle.ds_design.specs.Reach.{Feeds}
use Rattle.ds_design.specs.declared.design.Gate.{Gate}
use Rattle.ds_rank.specs.declared.edge.Edge.{Edge}
use Rattle.ds_rank.specs.Order.{IsCycle, IsRanks}
use Rattle.ds_netlist.specs.declared.fault.NetFault.{NetFault}
use Rattle.ds_netlist.specs.declared.fault.NetFault.TheVariants.{SeveralClocks, MixedEdges}
use Rattle.ds_netlist.specs.declared.fault.NetFault.TheVariants.{DrivenClock, ClockAsData}
use Rattle.ds_netlist.specs.declared.fault.NetFault.TheVariants.{MultiplyDriven, Undriven}
use Rattle.ds_netlist.specs.declared.fault.NetFault.TheVariants.{CombinationalCycle, Memory}

-- net a is an input of a table that drives net b
abbrev pub FeedsIn : List Gate → ℕ → ℕ → Type 0
FeedsIn tables a b = Any (λ t. Contains t.table.inputs a × (t.output ≡ b)) tables

-- 1 for a net that one of the tables drives, and 0 for another
abbrev pub floor_in : List Gate → ℕ → ℕ
floor_in tables net = if list_any (λ t. t.output == net) tables then 1 else 0

-- the ranks of the nets: at least 1 for what a table drives, and above the inputs of the table
abbrev pub AreNetRanks : Circuit → List ℕ → Type 0
AreNetRanks c ranks = IsRanks (Feeds c) (length c.nets) (floor_in c.tables) ranks

-- an edge from each of these nets to the output
abbrev pub edges_into : ℕ → List ℕ → List Edge
edges_into output inputs = map (λ net. record { source = net; target = output }) inputs

-- the edges of the tables
abbrev pub edges_of : List Gate → List Edge
edges_of tables = flat_map (λ t. edges_into t.output t.table.inputs) tables

-- a cycle of nets, or want of memory
abbrev pub IsCycleOnly : Circuit → NetFault → Type 0
IsCycleOnly c (CombinationalCycle nets) = IsCycle (Feeds c) nets
IsCycleOnly c Memory = Unit {0}
IsCycleOnly c (SeveralClocks a b) = ⊥
IsCycleOnly c (MixedEdges a b) = ⊥
IsCycleOnly c (DrivenClock net) = ⊥
IsCycleOnly c (ClockAsData net) = ⊥
IsCycleOnly c (MultiplyDriven net d e) = ⊥
IsCycleOnly c (Undriven net) = ⊥
