use Rattle.ds_accept.specs.Lowered.{AreLowered}
use Rattle.ds_accept.proofs.nearest.lower_from.Given as goal

abbrev pub invariant-loop-place : goal.invariant-loop-place
invariant-loop-place l = AreLowered l.graph.arcs l.fn.sums.items l.sums.items
