use Rattle.std.proofs.Common.{◌≡◌, take}
use Rattle.ds_split.proofs.graph.copied.Given as goal

abbrev pub invariant-loop-cluster : goal.invariant-loop-cluster
invariant-loop-cluster l = l.copy.items ≡ take l.cluster-index l.clusters
