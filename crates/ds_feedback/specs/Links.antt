-- Tables and registers as links between nets.
use Rattle.std.specs.Prelude.{◌≡◌, ℕ, ◌+◌, ◌≤◌, List, [], ◌∷◌, ◌++◌, true, length, map, slice_index}
use Rattle.ds_design.specs.Circuit.{Circuit}
use Rattle.ds_design.specs.declared.design.Gate.{Gate}
use Rattle.ds_design.specs.declared.design.Register.{Register}
use Rattle.ds_netlist.specs.Edges.{FeedsIn}

-- a table without its rows
abbrev pub link_of_table : Gate → Gate
link_of_table t = record {
  table = record { inputs = t.table.inputs; rows = []; on = true };
  output = t.output;
  line = t.line;
}

-- a register as a table that reads its data net
abbrev pub link_of_register : Register → Gate
link_of_register r = record {
  table = record { inputs = r.data_net ∷ []; rows = []; on = true };
  output = r.output;
  line = r.line;
}

-- the links of the tables, and behind them those of the registers
abbrev pub links : Circuit → List Gate
links c = map link_of_table c.tables ++ map link_of_register c.registers

-- a number for each net, which rises along each link
pub record RiseAlong (gates : List Gate) (nets : ℕ) (ranks : List ℕ) : Type 0 where
  pub size : length ranks ≡ nets
  pub above : (u v : ℕ) → FeedsIn gates u v → slice_index ranks u + 1 ≤ slice_index ranks v
