-- What is wrong with a netlist.
use Rattle.std.specs.Prelude.{◌≡◌, ℕ, Bool, true, false, List, [], ◌∷◌, ◌++◌, length, map, not}
use Rattle.std.specs.Prelude.{Option, Some, None, ◌==◌, ◌&&◌}
use Rattle.std.specs.List.{find, list_any, position, range_with_len}
use Rattle.std.specs.Option.{option_map, option_or}
use Rattle.ds_design.specs.Circuit.{Circuit, control_nets, register_nets, drivers, used}
use Rattle.ds_design.specs.Levels.{table_nets}
use Rattle.ds_design.specs.Reach.{Feeds}
use Rattle.ds_design.specs.declared.design.Edge.{Edge}
use Rattle.ds_design.specs.declared.design.Edge.TheVariants.{Rising, Falling}
use Rattle.ds_design.specs.declared.design.Register.{Register}
use Rattle.ds_rank.specs.Order.{IsCycle}
use Rattle.ds_netlist.specs.Drivers.{drivers_of}
use Rattle.ds_netlist.specs.declared.fault.Driver.{Driver}
use Rattle.ds_netlist.specs.declared.fault.NetFault.{NetFault}
use Rattle.ds_netlist.specs.declared.fault.NetFault.TheVariants.{SeveralClocks, MixedEdges}
use Rattle.ds_netlist.specs.declared.fault.NetFault.TheVariants.{DrivenClock, ClockAsData}
use Rattle.ds_netlist.specs.declared.fault.NetFault.TheVariants.{MultiplyDriven, Undriven}
use Rattle.ds_netlist.specs.declared.fault.NetFault.TheVariants.{CombinationalCycle, Memory}

-- the first that is there
abbrev pub first_some : {X : Type 0} → List (Option X) → Option X
first_some [] = None
first_some (o ∷ rest) = option_or o (first_some rest)

-- whether a net is in a list
abbrev pub is_in : List ℕ → ℕ → Bool
is_in nets net = list_any (λ other. other == net) nets

-- the first control name and the first other one, where there is one
abbrev pub several_clocks : List ℕ → Option NetFault
several_clocks [] = None
several_clocks (a ∷ names) = option_map (λ b. SeveralClocks a b) (find (λ b. not (b == a)) names)

-- whether a register takes the rising edge
abbrev pub is_rising : Option Edge → Bool
is_rising (Some Rising) = true
is_rising edge = false

-- whether a register takes the falling edge
abbrev pub is_falling : Option Edge → Bool
is_falling (Some Falling) = true
is_falling edge = false

-- two registers, where both are there
abbrev pub both_edges : Option ℕ → Option ℕ → Option NetFault
both_edges (Some a) (Some b) = Some (MixedEdges a b)
both_edges one other = None

-- the first register with a rising edge and the first with a falling one, where there are both
abbrev pub mixed_edges : List Register → Option NetFault
mixed_edges registers =
    both_edges (position (λ r. is_rising r.edge) registers)
    (position (λ r. is_falling r.edge) registers)

-- the first control name that a table or a register drives
abbrev pub driven_clock : Circuit → Option NetFault
driven_clock c = option_map (λ clock. DrivenClock clock)
    (find (is_in (table_nets c ++ register_nets c)) (control_nets c))

-- the first control name that is used
abbrev pub clock_as_data : Circuit → Option NetFault
clock_as_data c = option_map (λ clock. ClockAsData clock) (find (is_in (used c)) (control_nets c))

-- a net and its first two drivers, where it has two
abbrev pub twice_driven : ℕ → List Driver → Option NetFault
twice_driven net [] = None
twice_driven net (d ∷ []) = None
twice_driven net (d ∷ e ∷ more) = Some (MultiplyDriven net d e)

-- the least net that is driven twice
abbrev pub multiply_driven : Circuit → Option NetFault
multiply_driven c =
    first_some (map (λ net. twice_driven net (drivers_of c net)) (range_with_len 0 (length c.nets)))

-- the least net that is used and not driven
abbrev pub undriven : Circuit → Option NetFault
undriven c = option_map (λ net. Undriven net)
    (find (λ net. is_in (used c) net && not (is_in (drivers c) net))
    (range_with_len 0 (length c.nets)))

-- the first fault but for cycles
abbrev pub fault_of : Circuit → Option NetFault
fault_of c = first_some (several_clocks (control_nets c) ∷ mixed_edges c.registers
    ∷ driven_clock c ∷ clock_as_data c ∷ multiply_driven c ∷ undriven c ∷ [])

-- the fault is what the circuit shows: the first of the others, or else a cycle of nets, each an
-- input of the table of the next; want of memory says nothing
abbrev pub IsNetFault : Circuit → NetFault → Type 0
IsNetFault c Memory = Unit {0}
IsNetFault c (CombinationalCycle nets) = (fault_of c ≡ None) × IsCycle (Feeds c) nets
IsNetFault c fault = fault_of c ≡ Some fault
