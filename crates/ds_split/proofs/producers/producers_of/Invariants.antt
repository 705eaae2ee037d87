use Rattle.std.proofs.Common.{◌+◌, ◌*◌}
use Rattle.ds_split.specs.Nets.{AreProducersBelow}
use Rattle.ds_split.specs.Split.{split_into}
use Rattle.ds_split.proofs.producers.producers_of.Given as goal

abbrev pub invariant-loop-i : goal.invariant-loop-i
invariant-loop-i l = AreProducersBelow (split_into l.fn.netlist l.fn.clusters) (2 * l.i + 3) l.producers.items
