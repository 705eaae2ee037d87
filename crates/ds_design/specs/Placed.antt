-- Tables with the level of what they drive.
use Rattle.std.specs.Prelude.{ℕ, List}
use Rattle.ds_design.specs.Levels.{level_of_table}
use Rattle.ds_design.specs.declared.design.Gate.{Gate}
use Rattle.ds_design.specs.declared.order.Placed.{Placed}

-- a table with the level of what it drives
abbrev pub placed_table : List Gate → List ℕ → ℕ → Placed
placed_table tables levels k = record { level = level_of_table tables levels k; place = k }
