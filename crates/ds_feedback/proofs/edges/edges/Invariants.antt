use Rattle.std.proofs.Common.{◌≡◌, take}
use Rattle.ds_netlist.specs.Edges.{edges_of}
use Rattle.ds_feedback.proofs.edges.edges.Given as goal

abbrev pub invariant-loop-link : goal.invariant-loop-link
invariant-loop-link l = l.edges.items ≡ edges_of (take l.link-index l.links)
