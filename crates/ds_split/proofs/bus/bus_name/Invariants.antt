use Rattle.std.proofs.Common.{◌≡◌, ◌++◌, take, drop}
use Rattle.ds_split.specs.Bus.{bus_name}
use Rattle.ds_split.proofs.bus.bus_name.Given as goal

abbrev pub invariant-loop-i : goal.invariant-loop-i
invariant-loop-i l = bus_name l.name ≡ take l.i l.name ++ bus_name (drop l.i l.name)
