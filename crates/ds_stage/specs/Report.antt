-- The report on a netlist.
use Rattle.std.specs.Prelude.{ℕ, List, ◌++◌, codes, decimal, length}
use Rattle.ds_design.specs.Circuit.{Circuit}
use Rattle.ds_design.specs.Levels.{net_count}

-- a name and a number
abbrev pub count_line : List ℕ → ℕ → List ℕ
count_line name count = name ++ codes " " ++ decimal count ++ codes "\n"

-- the nets other than the clock, the tables, the registers, and the greatest level of a net
abbrev pub report_text : Circuit → ℕ → List ℕ
report_text c depth = count_line (codes "nets") (net_count c)
    ++ count_line (codes "tables") (length c.tables)
    ++ count_line (codes "registers") (length c.registers) ++ count_line (codes "levels") depth
