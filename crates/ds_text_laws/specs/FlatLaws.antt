-- What follows of a flat design, by the definitions.
use Rattle.std.specs.Prelude.{◌≡◌, ◌≤◌, ℕ, List, Any, Ok, Err}
use Rattle.ds_lines.specs.Line.{lines_of}
use Rattle.ds_lines.specs.declared.at.At.{At}
use Rattle.ds_design.specs.declared.blif.BlifModel.{BlifModel}
use Rattle.ds_design.specs.Circuit.{Circuit}
use Rattle.ds_design.specs.InRange.{IsInRange}
use Rattle.ds_design.specs.Source.{IsBlif}
use Rattle.ds_blif.specs.Text.{models_of_text}
use Rattle.ds_flat.specs.Copies.{flat_of}
use Rattle.ds_flat.specs.declared.fault.FlatKind.{FlatKind}

-- each number in the flat design of well formed models names what is there
abbrev pub FlatDesignsAreInRange : Type 0
FlatDesignsAreInRange = (models : List BlifModel) (c : Circuit) → IsBlif models
    → flat_of models ≡ Ok c
    → IsInRange c

-- a command of some model stands on a line
abbrev pub HasCommandOn : List BlifModel → ℕ → Type 0
HasCommandOn models line = Any (λ model. Any (λ command. command.line ≡ line) model.commands) models

-- the line of a fault is that of a command: the bound on copies in one another, whose fault would
-- have line 0, is never used up
abbrev pub FaultsAreOnLines : Type 0
FaultsAreOnLines = (models : List BlifModel) (fault : At FlatKind) → flat_of models ≡ Err fault
    → HasCommandOn models fault.line

-- of the models of any text that is read no fault has line 0: lines are numbered from 1
abbrev pub FaultsHaveLines : Type 0
FaultsHaveLines = (text : List ℕ) (models : List BlifModel) (fault : At FlatKind)
    → models_of_text (lines_of text) ≡ Ok models → flat_of models ≡ Err fault
    → 1 ≤ fault.line
