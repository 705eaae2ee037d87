-- The names of registers, as they are printed.
use Rattle.std.specs.Prelude.{◌≢◌, ℕ, List}
use Rattle.ds_outside.specs.Held.{Held, untold}
use Rattle.ds_lines.specs.Print.{is_apart, HasNo}
use Rattle.ds_design.specs.Circuit.{Circuit}
use Rattle.ds_rows.specs.Nets.{register_of}
use Rattle.ds_stage.specs.Stages.{netlist_stage}

-- a name has no blank, no end of a line and no `#`
abbrev pub IsPlainName : List ℕ → Type 0
IsPlainName name = HasNo is_apart name

-- the registers of a netlist have such names
abbrev pub NamesArePlain : Type 0
NamesArePlain = (held : List ℕ → Held) (net : List ℕ) (c : Circuit) → held net ≢ untold
    → (netlist_stage held net).means c → (register : ℕ) → IsPlainName (register_of c register)
