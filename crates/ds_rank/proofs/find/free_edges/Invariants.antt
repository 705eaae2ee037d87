use Rattle.ds_rank.specs.Free.{IsFreePart}
use Rattle.ds_rank.proofs.find.free_edges.Given as goal

abbrev pub invariant-loop-arc : goal.invariant-loop-arc
invariant-loop-arc l = IsFreePart l.arcs l.arc-index l.edges.items
