use Rattle.std.proofs.Common.{◌≡◌, ◌+◌, ◌*◌}
use Rattle.ds_split.specs.Edges.{IsFoundBelow}
use Rattle.ds_split.specs.Split.{split_into}
use Rattle.ds_split.proofs.edges.edges_by.Given as goal

abbrev pub invariant-loop-i : goal.invariant-loop-i
invariant-loop-i l = record {
  found : IsFoundBelow (split_into l.fn.netlist l.fn.clusters) (2 * l.i + 2) l.search;
  same : l.finder ≡ l.fn.netlist;
}
