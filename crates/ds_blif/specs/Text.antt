-- What a list of lines stands for: its models, or its first fault.
use Rattle.std.specs.Prelude.{List, [], Result}
use Rattle.ds_lines.specs.First.{unless_fault}
use Rattle.ds_lines.specs.Line.{Line}
use Rattle.ds_lines.specs.declared.at.At.{At}
use Rattle.ds_design.specs.declared.blif.BlifModel.{BlifModel}
use Rattle.ds_blif.specs.State.{first_fault}
use Rattle.ds_blif.specs.Parts.{models_of}
use Rattle.ds_blif.specs.declared.fault.BlifKind.{BlifKind}

-- what the lines of a text stand for
abbrev pub models_of_text : List Line → Result (List BlifModel) (At BlifKind)
models_of_text lines = unless_fault (first_fault [] lines) (models_of lines)
