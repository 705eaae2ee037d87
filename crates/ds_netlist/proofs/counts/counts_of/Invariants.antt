use Rattle.std.proofs.Common.{take}
use Rattle.ds_netlist.specs.Steps.{AreTimes}
use Rattle.ds_netlist.proofs.counts.counts_of.Given as goal

abbrev pub invariant-loop-net : goal.invariant-loop-net
invariant-loop-net l = AreTimes l.count (take l.net-index l.nets) l.counts.items
