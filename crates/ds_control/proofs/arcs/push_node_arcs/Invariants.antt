use Rattle.std.proofs.Common.{◌≡◌, ◌++◌}
use Rattle.ds_control.specs.Orders.{node_arcs}
use Rattle.ds_control.proofs.arcs.push_node_arcs.Given as goal

abbrev pub invariant-loop-i : goal.invariant-loop-i
invariant-loop-i l = l.arcs.items ≡ l.initial.arcs.items ++ node_arcs l.i
