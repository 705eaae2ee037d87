-- The names of a design's registers.
use Rattle.std.specs.Prelude.{ℕ, List, [], map, slice_index_or}
use Rattle.ds_design.specs.Circuit.{Circuit, register_nets}
use Rattle.ds_design.specs.declared.design.Net.{Net}
use Rattle.ds_rows.specs.Nets.{net_text}

-- the net with a number
abbrev pub net_at : Circuit → ℕ → Net
net_at c net = slice_index_or c.nets net (record { copy = 0; name = [] })

-- the nets that the registers drive, in the order of the registers
abbrev pub driven_nets : Circuit → List Net
driven_nets c = map (net_at c) (register_nets c)

-- the names of the registers, as they are printed
abbrev pub register_names : Circuit → List (List ℕ)
register_names c = map net_text (driven_nets c)
