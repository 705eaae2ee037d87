use Rattle.std.proofs.Common.{◌≡◌, ◌++◌, map, take}
use Rattle.ds_netlist.specs.Drivers.{drivers_in}
use Rattle.ds_netlist.specs.declared.fault.Driver.TheVariants.{Table}
use Rattle.ds_netlist.proofs.drivers.push_tables.Given as goal

abbrev pub invariant-loop-table : goal.invariant-loop-table
invariant-loop-table l = l.drivers.items
    ≡ l.fn.drivers.items ++ drivers_in (map (λ t. (t.output, Table t.line)) (take l.table-index l.tables)) l.net
