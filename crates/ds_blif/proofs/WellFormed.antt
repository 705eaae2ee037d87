-- What a text without a fault stands for is well formed.
use Rattle.std.proofs.Common.{◌≡◌, ◌∙◌, ℕ, ◌+◌, ◌<◌}
use Rattle.std.proofs.Common.{List, [], ◌∷◌, length, Option, None, Some}
use Rattle.std.proofs.Common.{sym, refl, subst, arith}
use Rattle.std.proofs.Common.{Ok}
use Rattle.std.specs.List.{All, AllByRecursion}
use Rattle.std.proofs.lemmas.List.Elements.{All-from_recursion}
use Rattle.ds_lines.specs.First.{unless_fault}
use Rattle.ds_lines.specs.Words.{word_at}
use Rattle.ds_lines.specs.Line.{Line}
use Rattle.ds_design.specs.Source.{IsPart, IsBlif}
use Rattle.ds_design.specs.declared.blif.Part.{Part}
use Rattle.ds_design.specs.declared.blif.BlifModel.{BlifModel}
use Rattle.ds_blif.specs.Head.{head_of}
use Rattle.ds_blif.specs.State.{State, after_head, after, own_fault}
use Rattle.ds_blif.specs.State.{end_fault, first_fault}
use Rattle.ds_blif.specs.Parts.{Parts}
use Rattle.ds_blif.specs.Parts.{with_command, with_head, parts_of, models_of}
use Rattle.ds_blif.specs.Text.{models_of_text}
use Rattle.ds_blif.specs.declared.head.Head.{Head}
use Rattle.ds_blif.specs.declared.head.Head.TheVariants.{Row, Names, Model, Inputs, Outputs, Clock}
use Rattle.ds_blif.specs.declared.head.Head.TheVariants.{Latch, Subckt, End, Skipped, Unknown}
use Rattle.ds_lines.specs.declared.at.At.{At}
use Rattle.ds_blif.proofs.FirstFault.{fault_from, fault_from_is}
use Rattle.ds_blif.proofs.Distinct.{AreNew, distinct_from_new}
use Rattle.ds_blif.proofs.NoFault.{own_none}
use Rattle.ds_blif.proofs.NoFault.{line_none, lines_none}
use Rattle.ds_blif.proofs.PartsFit.{RowsFit, no_rows, row_fits, table_fits, latch_fits}
use Rattle.ds_blif.proofs.PartsFit.{use_fits, name_new}
use Rattle.ds_blif.specs.declared.fault.BlifKind.{BlifKind}

-- parts that are well formed behind lines that leave this open
record Follows (state : State) (parts : Parts) : Type 0 where
  rows : RowsFit state.table parts.rows
  commands : AllByRecursion (λ command. IsPart command.part) parts.commands
  models : AllByRecursion (λ model. All (λ command. IsPart command.part) model.commands)
      parts.models
  names : AreNew (λ model. model.name) state.models parts.models
  some : 0 < length state.models + length parts.models

-- a command before such parts
command_follows : (number : ℕ) (part : Part) (state : State) (parts : Parts) → IsPart part
    → AllByRecursion (λ command. IsPart command.part) parts.commands
    → AllByRecursion (λ model. All (λ command. IsPart command.part) model.commands) parts.models
    → AreNew (λ model. model.name) state.models parts.models
    → 0 < length state.models + length parts.models
    → Follows state (with_command number part parts)
command_follows number part state parts is commands models names some = record {
  rows = no_rows state.table;
  commands = (is, commands);
  models = models;
  names = names;
  some = some;
}

-- a line without a fault before such parts
line_follows : (head : Head) (number : ℕ) (words : List (List ℕ)) (state : State) (parts : Parts)
    → own_fault head state words ≡ None → Follows (after_head head words state) parts
    → Follows state (with_head head number words parts)
line_follows Row number words state parts is f = record {
  rows = row_fits state.table state.first words parts.rows is f.rows;
  commands = f.commands;
  models = f.models;
  names = f.names;
  some = f.some;
}
line_follows Names number words state parts is f = command_follows number _ state parts
    (table_fits words parts is f.rows) f.commands f.models f.names f.some
line_follows Model number words state parts is f = record {
  rows = no_rows state.table;
  commands = tt;
  models = (All-from_recursion _ parts.commands f.commands, f.models);
  names = (name_new state.models words is, f.names);
  some = omega arith;
}
line_follows Inputs number words state parts is f = command_follows number _ state parts tt
    f.commands f.models f.names f.some
line_follows Outputs number words state parts is f = command_follows number _ state parts tt
    f.commands f.models f.names f.some
line_follows Clock number words state parts is f = command_follows number _ state parts tt
    f.commands f.models f.names f.some
line_follows Latch number words state parts is f = command_follows number _ state parts
    (latch_fits words is) f.commands f.models f.names f.some
line_follows Subckt number words state parts is f = command_follows number _ state parts
    (use_fits words is) f.commands f.models f.names f.some
line_follows End number words state parts is f = record {
  rows = no_rows state.table;
  commands = f.commands;
  models = f.models;
  names = f.names;
  some = f.some;
}
line_follows Skipped number words state parts is f = record {
  rows = f.rows;
  commands = f.commands;
  models = f.models;
  names = f.names;
  some = f.some;
}
line_follows Unknown number words state parts is f = record {
  rows = no_rows state.table;
  commands = f.commands;
  models = f.models;
  names = f.names;
  some = f.some;
}

some_model : (models : List (List ℕ)) → end_fault models ≡ None → 0 < length models + 0
some_model [] is = absurd (cc)
some_model (model ∷ models) is = omega arith

lines_follow : (state : State) (lines : List Line) → fault_from state lines ≡ None
    → Follows state (parts_of lines)
lines_follow state [] is = record {
  rows = no_rows state.table;
  commands = tt;
  models = tt;
  names = tt;
  some = some_model state.models is;
}
lines_follow state (line ∷ lines) is = line_follows (head_of (word_at line.words 0)) line.number
    line.words state (parts_of lines) (own_none _ state line.words (line_none _ _ _ is))
    (lines_follow (after line.words state) lines (lines_none _ _ _ is))

-- the models of lines without a fault
pub well_formed : (lines : List Line) → first_fault [] lines ≡ None → IsBlif (models_of lines)
well_formed lines none =
    let f = lines_follow _ lines (sym (fault_from_is [] lines) ∙ none) in record {
      some = (let some : 0 < 0 + length (models_of lines) = f.some in omega arith);
      distinct = distinct_from_new (λ model. model.name) [] (models_of lines) f.names;
      parts = All-from_recursion _ (models_of lines) f.models;
    }

read_none : (fault : Option (At BlifKind)) (all models : List BlifModel)
    → unless_fault fault all ≡ Ok models → fault ≡ None
read_none None all models is = refl
read_none (Some fault) all models is = absurd (cc)

read_models : (fault : Option (At BlifKind)) (all models : List BlifModel)
    → unless_fault fault all ≡ Ok models → all ≡ models
read_models None all models is = cc
read_models (Some fault) all models is = absurd (cc)

-- the models that lines stand for
pub read_well_formed : (lines : List Line) (models : List BlifModel)
    → models_of_text lines ≡ Ok models → IsBlif models
read_well_formed lines models is = subst (λ (all : List BlifModel). IsBlif all)
    (read_models (first_fault [] lines) (models_of lines) models is)
    (well_formed lines (read_none (first_fault [] lines) (models_of lines) models is))
