-- Models without the commands that add nothing.
use Rattle.std.specs.Prelude.{Bool, false, List, [], ◌∷◌, length, ◌==◌, if◌then◌else◌}
use Rattle.ds_design.specs.declared.blif.Part.{Part}
use Rattle.ds_design.specs.declared.blif.Part.TheVariants.{Inputs, Outputs, Clock, Table, Latch}
use Rattle.ds_design.specs.declared.blif.Part.TheVariants.{Subckt}
use Rattle.ds_design.specs.declared.blif.Command.{Command}
use Rattle.ds_design.specs.declared.blif.BlifModel.{BlifModel}

-- an interface line without names
abbrev pub adds_nothing : Part → Bool
adds_nothing (Inputs names) = length names == 0
adds_nothing (Outputs names) = length names == 0
adds_nothing (Clock names) = length names == 0
adds_nothing (Table text) = false
adds_nothing (Latch text) = false
adds_nothing (Subckt call) = false

-- the commands that add something
abbrev pub needed : List Command → List Command
needed [] = []
needed (command ∷ commands) = if adds_nothing command.part then needed commands
    else command ∷ needed commands

-- a model with these commands alone
abbrev pub bare : BlifModel → BlifModel
bare model = record model { commands = needed model.commands }
