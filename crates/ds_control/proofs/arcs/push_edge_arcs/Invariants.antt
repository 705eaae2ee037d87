use Rattle.std.proofs.Common.{◌≡◌, ◌++◌, take}
use Rattle.ds_control.specs.Orders.{edge_arcs}
use Rattle.ds_control.proofs.arcs.push_edge_arcs.Given as goal

abbrev pub invariant-loop-edge : goal.invariant-loop-edge
invariant-loop-edge l = l.arcs.items ≡ l.initial.arcs.items ++ edge_arcs l.slack (take l.edge-index l.edges)
