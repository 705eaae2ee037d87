use Rattle.ds_settle.specs.Walk.{AreDrivers}
use Rattle.ds_settle.proofs.drivers.drivers_of.Given as goal

abbrev pub invariant-loop-k : goal.invariant-loop-k
invariant-loop-k l = AreDrivers l.netlist l.k l.drivers.items
