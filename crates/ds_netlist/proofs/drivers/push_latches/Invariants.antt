use Rattle.std.proofs.Common.{◌≡◌, ◌++◌, map, take}
use Rattle.ds_netlist.specs.Drivers.{drivers_in}
use Rattle.ds_netlist.specs.declared.fault.Driver.TheVariants.{Latch}
use Rattle.ds_netlist.proofs.drivers.push_latches.Given as goal

abbrev pub invariant-loop-register : goal.invariant-loop-register
invariant-loop-register l = l.drivers.items
    ≡ l.fn.drivers.items ++ drivers_in (map (λ r. (r.output, Latch r.line)) (take l.register-index l.registers)) l.net
