use Rattle.ds_accept.specs.Lowered.{AreLowered}
use Rattle.ds_accept.proofs.nearest.lower_nearest.Given as goal

abbrev pub invariant-loop : goal.invariant-loop
invariant-loop l = AreLowered l.graph.arcs l.fn.sums.items l.sums.items
