use Rattle.std.proofs.Common.{◌≡◌, ◌++◌, take}
use Rattle.ds_netlist.specs.Edges.{edges_into}
use Rattle.ds_feedback.proofs.edges.push_edges.Given as goal

abbrev pub invariant-loop-net : goal.invariant-loop-net
invariant-loop-net l = l.edges.items ≡ l.fn.edges.items ++ edges_into l.output (take l.net-index l.nets)
