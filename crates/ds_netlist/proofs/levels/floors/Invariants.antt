use Rattle.std.proofs.Common.{◌≡◌, ℕ, ◌<◌, length, take, get_or}
use Rattle.ds_netlist.specs.Edges.{floor_in}
use Rattle.ds_netlist.proofs.levels.floors.Given as goal

abbrev pub invariant-loop-table : goal.invariant-loop-table
invariant-loop-table l = record {
  size : length l.floors.items ≡ l.count;
  each : (net : ℕ) → net < l.count → get_or l.floors.items net 0 ≡ floor_in (take l.table-index l.tables) net;
}
