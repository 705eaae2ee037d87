use Rattle.std.proofs.Common.{◌≡◌, ◌++◌, map, take}
use Rattle.ds_netlist.specs.Drivers.{drivers_in}
use Rattle.ds_netlist.specs.declared.fault.Driver.TheVariants.{Input}
use Rattle.ds_netlist.proofs.drivers.push_inputs.Given as goal

abbrev pub invariant-loop-column : goal.invariant-loop-column
invariant-loop-column l = l.drivers.items
    ≡ l.fn.drivers.items ++ drivers_in (map (λ i. (i, Input)) (take l.column-index l.columns)) l.net
