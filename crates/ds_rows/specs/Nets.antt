-- Nets and registers as they are printed.
use Rattle.std.specs.Prelude.{ℕ, List, [], ◌++◌, codes, decimal, slice_index_or, ◌==◌}
use Rattle.std.specs.Prelude.{if◌then◌else◌}
use Rattle.ds_design.specs.declared.design.Net.{Net}
use Rattle.ds_design.specs.Circuit.{Circuit, register_nets}

-- a net of the main model is its name, one of a copy has the copy's number and `/` before it
abbrev pub net_text : Net → List ℕ
net_text net = if net.copy == 0 then net.name else (decimal net.copy ++ codes "/" ++ net.name)

-- the net with a number
abbrev pub text_of_net : Circuit → ℕ → List ℕ
text_of_net c net = net_text (slice_index_or c.nets net (record { copy = 0; name = [] }))

-- a register is printed as the net that it drives
abbrev pub register_of : Circuit → ℕ → List ℕ
register_of c register = text_of_net c (slice_index_or (register_nets c) register 0)
