use Rattle.std.proofs.Common.{◌≡◌, take}
use Rattle.ds_netlist.specs.Edges.{edges_of}
use Rattle.ds_netlist.proofs.levels.edges.Given as goal

abbrev pub invariant-loop-table : goal.invariant-loop-table
invariant-loop-table l = l.edges.items ≡ edges_of (take l.table-index l.tables)
