use Rattle.ds_accept.specs.Masks.{AreAllIn}
use Rattle.ds_accept.proofs.knots.Knots.push_arcs.Given as goal

abbrev pub invariant-loop-arc : goal.invariant-loop-arc
invariant-loop-arc l = AreAllIn l.arcs.items l.graph.arcs
