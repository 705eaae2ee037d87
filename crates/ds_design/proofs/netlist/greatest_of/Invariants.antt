use Rattle.std.proofs.Common.{◌≡◌, drop}
use Rattle.ds_base.specs.Greatest.{greatest}
use Rattle.ds_design.proofs.netlist.greatest_of.Given as goal

abbrev pub invariant-loop-i : goal.invariant-loop-i
invariant-loop-i l = l.most ≡ greatest (drop l.i l.numbers)
