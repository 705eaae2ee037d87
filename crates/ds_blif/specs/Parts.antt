-- What the lines of a text without a fault stand for: rows belong to the table before them,
-- commands to the model.
use Rattle.std.specs.Prelude.{ℕ, ◌-◌, Bool, true, List, [], ◌∷◌, map, take, drop, length}
use Rattle.std.specs.Prelude.{codes, Option, None, Some, slice_index_or, ◌==◌, if◌then◌else◌}
use Rattle.std.specs.Prelude.{nat_lt}
use Rattle.std.specs.List.{after_first}
use Rattle.std.specs.Str.{bytes_eq}
use Rattle.ds_lines.specs.Words.{word_at}
use Rattle.ds_lines.specs.Line.{Line}
use Rattle.ds_blif.specs.Form.{output_of, formal_of, is_equals}
use Rattle.ds_blif.specs.Head.{head_of}
use Rattle.ds_blif.specs.declared.head.Head.{Head}
use Rattle.ds_blif.specs.declared.head.Head.TheVariants.{Row, Names, Model, Inputs, Outputs, Clock}
use Rattle.ds_blif.specs.declared.head.Head.TheVariants.{Latch, Subckt, End, Skipped, Unknown}
use Rattle.ds_design.specs.declared.design.Edge.{Edge}
use Rattle.ds_design.specs.declared.design.Edge.TheVariants.{Rising, Falling}
use Rattle.ds_design.specs.declared.blif.TableText.{TableText}
use Rattle.ds_design.specs.declared.blif.LatchText.{LatchText}
use Rattle.ds_design.specs.declared.blif.Pair.{Pair}
use Rattle.ds_design.specs.declared.blif.UseText.{UseText}
use Rattle.ds_design.specs.declared.blif.Part.{Part}
use Rattle.ds_design.specs.declared.blif.Part.TheVariants.{Inputs as InputsPart}
use Rattle.ds_design.specs.declared.blif.Part.TheVariants.{Outputs as OutputsPart}
use Rattle.ds_design.specs.declared.blif.Part.TheVariants.{Clock as ClockPart, Table as TablePart}
use Rattle.ds_design.specs.declared.blif.Part.TheVariants.{Latch as LatchPart, Subckt as SubcktPart}
use Rattle.ds_design.specs.declared.blif.Command.{Command}
use Rattle.ds_design.specs.declared.blif.BlifModel.{BlifModel}

-- what some lines stand for: the rows at their front and whether these list where a table is 1, the
-- commands up to the next model, the models
pub record Parts : Type 0 where
  pub rows : List (List ℕ)
  pub on : Bool
  pub commands : List Command
  pub models : List BlifModel

-- the characters of a row's inputs: none where the row is one word
abbrev pub plane_of : List (List ℕ) → List ℕ
plane_of words = if length words == 1 then [] else word_at words 0

-- the output of a row is `1`
abbrev pub is_on : List (List ℕ) → Bool
is_on words = bytes_eq (output_of words) (codes "1")

-- a table's head, with the rows behind it
abbrev pub table_of : List (List ℕ) → Parts → TableText
table_of words parts = record {
  inputs = take (length words - 2) (drop 1 words);
  output = output_of words;
  rows = parts.rows;
  on = parts.on;
}

-- the edge that a type is
abbrev pub edge_of_type : List ℕ → Edge
edge_of_type word = if bytes_eq word (codes "re") then Rising else Falling

-- a control name: `NIL` is none
abbrev pub control_of : List ℕ → Option (List ℕ)
control_of word = if bytes_eq word (codes "NIL") then None else Some word

-- the number of a word that begins with a digit
abbrev pub digit_of : List ℕ → ℕ
digit_of word = slice_index_or word 0 48 - 48

-- the initial value of a latch, 3 where none is written
abbrev pub initial_of : List (List ℕ) → ℕ
initial_of words =
    if length words == 4 then digit_of (word_at words 3)
    else (if length words == 6 then digit_of (word_at words 5) else 3)

-- a latch; without a type it has no control
abbrev pub latch_of : List (List ℕ) → LatchText
latch_of words = record {
  data_net = word_at words 1;
  output = word_at words 2;
  edge = if nat_lt 4 (length words) then Some (edge_of_type (word_at words 3)) else None;
  control = if nat_lt 4 (length words) then control_of (word_at words 4) else None;
  initial = initial_of words;
}

-- a word of a use, cut at its first `=`
abbrev pub pair_of : List ℕ → Pair
pair_of word = record { formal = formal_of word; actual = after_first is_equals word }

-- a use of a model, with its pairs
abbrev pub use_of : List (List ℕ) → UseText
use_of words = record { model = word_at words 1; pairs = map pair_of (drop 2 words) }

-- no parts
abbrev pub no_parts : Parts
no_parts = record { rows = []; on = true; commands = []; models = [] }

-- a row before these parts
abbrev pub with_row : List ℕ → Bool → Parts → Parts
with_row row on parts = record parts { rows = row ∷ parts.rows; on = on }

-- rows that belong to no table are left out
abbrev pub without_rows : Parts → Parts
without_rows parts = record parts { rows = []; on = true }

-- a command before these parts, whose rows it has or leaves out
abbrev pub with_command : ℕ → Part → Parts → Parts
with_command number part parts = record {
  rows = [];
  on = true;
  commands = record { line = number; part = part } ∷ parts.commands;
  models = parts.models;
}

-- a model's head before these parts: it has their commands
abbrev pub with_model : ℕ → List ℕ → Parts → Parts
with_model number name parts = record {
  rows = [];
  on = true;
  commands = [];
  models = record { name = name; line = number; commands = parts.commands } ∷ parts.models;
}

-- a line of a kind before these parts
abbrev pub with_head : Head → ℕ → List (List ℕ) → Parts → Parts
with_head Row number words parts = with_row (plane_of words) (is_on words) parts
with_head Skipped number words parts = parts
with_head Model number words parts = with_model number (word_at words 1) parts
with_head Inputs number words parts = with_command number (InputsPart (drop 1 words)) parts
with_head Outputs number words parts = with_command number (OutputsPart (drop 1 words)) parts
with_head Clock number words parts = with_command number (ClockPart (drop 1 words)) parts
with_head Names number words parts = with_command number (TablePart (table_of words parts)) parts
with_head Latch number words parts = with_command number (LatchPart (latch_of words)) parts
with_head Subckt number words parts = with_command number (SubcktPart (use_of words)) parts
with_head End number words parts = without_rows parts
with_head Unknown number words parts = without_rows parts

-- a line before these parts
abbrev pub with_line : Line → Parts → Parts
with_line line parts = with_head (head_of (word_at line.words 0)) line.number line.words parts

-- the parts of a list of lines
abbrev pub parts_of : List Line → Parts
parts_of [] = no_parts
parts_of (line ∷ lines) = with_line line (parts_of lines)

-- the models of a list of lines without a fault
abbrev pub models_of : List Line → List BlifModel
models_of lines = (parts_of lines).models
