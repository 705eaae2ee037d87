-- The drivers of each net.
use Rattle.std.specs.Prelude.{ℕ, List, ◌++◌, map, ◌==◌}
use Rattle.std.specs.List.{filter}
use Rattle.ds_design.specs.Circuit.{Circuit, columns}
use Rattle.ds_netlist.specs.declared.fault.Driver.{Driver}
use Rattle.ds_netlist.specs.declared.fault.Driver.TheVariants.{Input, Table, Latch}

-- each driver with the net that it drives: the columns, the tables, the registers, each in order
abbrev pub all_drivers : Circuit → List (ℕ × Driver)
all_drivers c = map (λ net. (net, Input)) (columns c)
    ++ map (λ t. (t.output, Table t.line)) c.tables
    ++ map (λ r. (r.output, Latch r.line)) c.registers

-- those that drive one net
abbrev pub drivers_in : List (ℕ × Driver) → ℕ → List Driver
drivers_in pairs net = map (λ pair. pair.1) (filter (λ pair. pair.0 == net) pairs)

-- the drivers of a net, in order
abbrev pub drivers_of : Circuit → ℕ → List Driver
drivers_of c net = drivers_in (all_drivers c) net
