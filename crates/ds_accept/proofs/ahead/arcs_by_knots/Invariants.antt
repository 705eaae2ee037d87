use Rattle.ds_accept.specs.Masks.{AreAllIn}
use Rattle.ds_accept.proofs.ahead.arcs_by_knots.Given as goal

abbrev pub invariant-loop-event : goal.invariant-loop-event
invariant-loop-event l = AreAllIn l.arcs.items l.graph.arcs
