use Rattle.std.proofs.Common.{◌≡◌, ◌++◌}
use Rattle.ds_latch.specs.declared.node.Node.TheVariants.{In, Out}
use Rattle.ds_latch.specs.Plan.{node_events}
use Rattle.ds_control.specs.Orders.{cluster_events}
use Rattle.ds_control.proofs.events.node_events.Given as goal

abbrev pub invariant-loop-i : goal.invariant-loop-i
invariant-loop-i l = l.events ≡ node_events In ++ node_events Out ++ cluster_events l.i
