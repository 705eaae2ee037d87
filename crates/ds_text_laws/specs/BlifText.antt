-- The lines that print some models, as lists of words.
use Rattle.std.specs.Prelude.{ℕ, ◌+◌, Bool, true, false, List, [], ◌∷◌, ◌++◌, map, length, codes}
use Rattle.std.specs.Prelude.{Option, None, Some}
use Rattle.ds_design.specs.declared.design.Edge.{Edge}
use Rattle.ds_design.specs.declared.design.Edge.TheVariants.{Rising, Falling}
use Rattle.ds_design.specs.declared.blif.Pair.{Pair}
use Rattle.ds_design.specs.declared.blif.Part.{Part}
use Rattle.ds_design.specs.declared.blif.Part.TheVariants.{Inputs, Outputs, Clock, Table, Latch}
use Rattle.ds_design.specs.declared.blif.Part.TheVariants.{Subckt}
use Rattle.ds_design.specs.declared.blif.Command.{Command}
use Rattle.ds_design.specs.declared.blif.BlifModel.{BlifModel}

-- `1` or `0`
abbrev pub bit_word : Bool → List ℕ
bit_word true = codes "1"
bit_word false = codes "0"

-- a row: its inputs, where there are any, and the output of its table
abbrev pub words_of_row : Bool → List ℕ → List (List ℕ)
words_of_row on [] = bit_word on ∷ []
words_of_row on (byte ∷ bytes) = (byte ∷ bytes) ∷ bit_word on ∷ []

-- the type of an edge
abbrev pub edge_word : Edge → List ℕ
edge_word Rising = codes "re"
edge_word Falling = codes "fe"

-- a control name: none is `NIL`
abbrev pub control_word : Option (List ℕ) → List ℕ
control_word None = codes "NIL"
control_word (Some name) = name

-- the type and the control of a latch, where it has a type
abbrev pub type_words : Option Edge → Option (List ℕ) → List (List ℕ)
type_words None control = []
type_words (Some edge) control = edge_word edge ∷ control_word control ∷ []

-- a pair of a use
abbrev pub pair_word : Pair → List ℕ
pair_word pair = pair.formal ++ 61 ∷ pair.actual

-- the lines of a command
abbrev pub part_words : Part → List (List (List ℕ))
part_words (Inputs names) = (codes ".inputs" ∷ names) ∷ []
part_words (Outputs names) = (codes ".outputs" ∷ names) ∷ []
part_words (Clock names) = (codes ".clock" ∷ names) ∷ []
part_words (Table table) = (codes ".names" ∷ table.inputs ++ table.output ∷ []) ∷ map
    (words_of_row table.on) table.rows
part_words (Latch latch) = (codes ".latch" ∷ latch.data_net ∷ latch.output
    ∷ type_words latch.edge latch.control ++ ((48 + latch.initial) ∷ []) ∷ []) ∷ []
part_words (Subckt call) = (codes ".subckt" ∷ call.model ∷ map pair_word call.pairs) ∷ []

-- the lines of commands, and of the end of their model
abbrev pub command_words : List Command → List (List (List ℕ))
command_words [] = (codes ".end" ∷ []) ∷ []
command_words (command ∷ commands) = part_words command.part ++ command_words commands

-- the lines of models
abbrev pub model_words : List BlifModel → List (List (List ℕ))
model_words [] = []
model_words (model ∷ models) = (codes ".model" ∷ model.name ∷ []) ∷ command_words model.commands
    ++ model_words models

-- the commands with the numbers of these lines
abbrev pub placed_commands : ℕ → List Command → List Command
placed_commands n [] = []
placed_commands n (command ∷ commands) = record { line = n; part = command.part } ∷ placed_commands
    (n + length (part_words command.part)) commands

-- the models with the numbers of these lines
abbrev pub models_at_lines : ℕ → List BlifModel → List BlifModel
models_at_lines n [] = []
models_at_lines n (model ∷ models) =
    record { name = model.name; line = n; commands = placed_commands (n + 1) model.commands }
    ∷ models_at_lines (n + 1 + length (command_words model.commands)) models
