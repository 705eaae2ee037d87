use Rattle.std.proofs.Common.{◌+◌, ◌*◌}
use Rattle.ds_split.specs.Nets.{HasNetsBelow}
use Rattle.ds_split.specs.Split.{split_into}
use Rattle.ds_split.proofs.nets.node_nets.Given as goal

abbrev pub invariant-loop-cluster : goal.invariant-loop-cluster
invariant-loop-cluster l = HasNetsBelow (split_into l.netlist l.fn.clusters) (2 * l.cluster-index + 2) l.nets.items
