-- The parts of a text by the order of its lines: a table has the rows behind its head, a model the
-- commands behind its own.
use Rattle.std.specs.Prelude.{◌≡◌, Bool, true, false, not, ℕ, List, [], ◌∷◌, ◌++◌, drop, map, Ok}
use Rattle.std.specs.Prelude.{Option, None, Some}
use Rattle.std.specs.List.{AllByRecursion, filter, flat_map}
use Rattle.std.specs.Option.{option_map_or}
use Rattle.ds_lines.specs.Words.{word_at}
use Rattle.ds_lines.specs.Line.{Line}
use Rattle.ds_design.specs.declared.blif.Part.{Part}
use Rattle.ds_design.specs.declared.blif.Part.TheVariants.{Inputs as InputsPart}
use Rattle.ds_design.specs.declared.blif.Part.TheVariants.{Outputs as OutputsPart}
use Rattle.ds_design.specs.declared.blif.Part.TheVariants.{Clock as ClockPart, Table as TablePart}
use Rattle.ds_design.specs.declared.blif.Part.TheVariants.{Latch as LatchPart, Subckt as SubcktPart}
use Rattle.ds_design.specs.declared.blif.Command.{Command}
use Rattle.ds_design.specs.declared.blif.BlifModel.{BlifModel}
use Rattle.ds_blif.specs.Head.{head_of}
use Rattle.ds_text_laws.specs.BlifOrder.{is_model, is_row}
use Rattle.ds_blif.specs.Parts.{Parts, is_on, latch_of, no_parts, plane_of, table_of, use_of}
use Rattle.ds_blif.specs.Text.{models_of_text}
use Rattle.ds_blif.specs.declared.head.Head.{Head}
use Rattle.ds_blif.specs.declared.head.Head.TheVariants.{Row, Names, Inputs, Outputs, Clock}
use Rattle.ds_blif.specs.declared.head.Head.TheVariants.{Latch, Subckt, Skipped}

-- an item, and those behind it
pub record Group (X : Type 0) : Type 0 where
  pub first : X
  pub behind : List X

-- the items of a group
abbrev pub items_of : {X : Type 0} → Group X → List X
items_of group = group.first ∷ group.behind

-- a list in groups: each begins with an item that passes a test and has no other such item, and
-- there is none in front of the first group
pub record IsInGroups {X : Type 0} (begins : X → Bool) (items : List X) (groups : List (Group X)) :
    Type 0 where
  pub front : List X
  pub whole : items ≡ front ++ flat_map items_of groups
  pub none_in_front : AllByRecursion (λ x. begins x ≡ false) front
  pub each_begins : AllByRecursion (λ group. begins group.first ≡ true) groups
  pub no_other : AllByRecursion (λ group. AllByRecursion (λ x. begins x ≡ false) group.behind)
      groups

-- what a line is
abbrev pub head_at : Line → Head
head_at line = head_of (word_at line.words 0)

-- a row or a line that is skipped, such as may stand behind a table's head
abbrev pub is_inner : Head → Bool
is_inner Row = true
is_inner Skipped = true
is_inner head = false

-- a line that is neither
abbrev pub is_outer : Line → Bool
is_outer line = not (is_inner (head_at line))

-- the rows among lines
abbrev pub rows_among : List Line → List Line
rows_among lines = filter (λ line. is_row (head_at line)) lines

-- rows list where a table is 1, by the first of them; so do none
abbrev pub list_ones : List Line → Bool
list_ones [] = true
list_ones (row ∷ rows) = is_on row.words

-- rows, as those of a table
abbrev pub as_rows : List Line → Parts
as_rows rows = record no_parts { rows = map (λ row. plane_of row.words) rows; on = list_ones rows }

-- what a command of a kind with these words says, a table with these rows; other lines say nothing
abbrev pub part_by : Head → List (List ℕ) → List Line → Option Part
part_by Inputs words rows = Some (InputsPart (drop 1 words))
part_by Outputs words rows = Some (OutputsPart (drop 1 words))
part_by Clock words rows = Some (ClockPart (drop 1 words))
part_by Names words rows = Some (TablePart (table_of words (as_rows rows)))
part_by Latch words rows = Some (LatchPart (latch_of words))
part_by Subckt words rows = Some (SubcktPart (use_of words))
part_by head words rows = None

-- the command of a line with the rows behind it, if it is one
abbrev pub command_in : Group Line → List Command
command_in group = option_map_or (λ part. record { line = group.first.number; part = part } ∷ [])
    (part_by (head_at group.first) group.first.words (rows_among group.behind)) []

-- a group that begins with a model's head
abbrev pub begins_model : Group Line → Bool
begins_model group = is_model (head_at group.first)

-- the model of a head with the commands behind it
abbrev pub model_in : Group (Group Line) → BlifModel
model_in group = record {
  name = word_at group.first.first.words 1;
  line = group.first.first.number;
  commands = flat_map command_in group.behind;
}

-- the lines of a text, each with the rows behind it; these, in order, in models, each with the
-- commands behind its head; and no command stands before the first model
pub record AreInParts (lines : List Line) (models : List BlifModel) : Type 0 where
  pub groups : List (Group Line)
  pub lines_in_groups : IsInGroups is_outer lines groups
  pub heads : List (Group (Group Line))
  pub groups_in_models : IsInGroups begins_model groups heads
  pub none_before : flat_map command_in groups_in_models.front ≡ []
  pub models_are : models ≡ map model_in heads

-- the models of a text without a fault are those of its lines in parts
abbrev pub LinesStandInParts : Type 0
LinesStandInParts = (lines : List Line) (models : List BlifModel) → models_of_text lines ≡ Ok models
    → AreInParts lines models
