-- The models of a text are those of its lines in parts.
use Rattle.std.proofs.Common.{◌≡◌, ◌∙◌, ℕ, Bool, true, false, not, List, [], ◌∷◌, ◌++◌, drop, map, Option, None, Some, Ok, ap, ap₂, refl, sym, ◌&&◌}
use Rattle.std.specs.List.{AllByRecursion, flat_map}
use Rattle.ds_lines.specs.First.{first_of, unless_fault}
use Rattle.ds_lines.specs.Words.{word_at}
use Rattle.ds_lines.specs.Line.{Line}
use Rattle.ds_design.specs.declared.blif.Part.{Part}
use Rattle.ds_design.specs.declared.blif.Part.TheVariants.{Inputs as InputsPart, Outputs as OutputsPart, Clock as ClockPart, Table as TablePart, Latch as LatchPart, Subckt as SubcktPart}
use Rattle.ds_design.specs.declared.blif.Command.{Command}
use Rattle.ds_design.specs.declared.blif.TableText.{TableText}
use Rattle.ds_design.specs.declared.blif.BlifModel.{BlifModel}
use Rattle.ds_blif.specs.Parts.{Parts, latch_of, plane_of, table_of, use_of, with_command, with_head, parts_of, models_of}
use Rattle.ds_blif.specs.Text.{models_of_text}
use Rattle.ds_text_laws.specs.BlifParts.{AreInParts, Group, as_rows, begins_model, command_in, head_at, is_outer, items_of, model_in, part_by, rows_among}
use Rattle.ds_blif.specs.State.{State, fault_by, fault_of_line, first_fault, open_after, state_of, wants_model}
use Rattle.ds_blif.specs.declared.head.Head.{Head}
use Rattle.ds_blif.specs.declared.head.Head.TheVariants.{Row, Names, Model, Inputs, Outputs, Clock, Latch, Subckt, End, Skipped, Unknown}
use Rattle.ds_lines.specs.declared.at.At.{At}
use Rattle.ds_blif.specs.declared.fault.BlifKind.{BlifKind}
use Rattle.ds_blif.specs.declared.fault.BlifKind.TheVariants.{NoModel}
use Rattle.ds_blif.proofs.NoFault.{first_none, line_none, lines_none, rest_none, test_false}

-- lines in parts, and what the definition of a text's parts has of them
record Parted (lines : List Line) (parts : Parts) : Type 0 where
  front : List Line
  groups : List (Group Line)
  before : List (Group Line)
  heads : List (Group (Group Line))
  lines_are : lines ≡ front ++ flat_map items_of groups
  inner : AllByRecursion (λ line. is_outer line ≡ false) front
  outer : AllByRecursion (λ group. is_outer group.first ≡ true) groups
  inner_behind : AllByRecursion (λ group. AllByRecursion (λ line. is_outer line ≡ false) group.behind) groups
  groups_are : groups ≡ before ++ flat_map items_of heads
  no_model : AllByRecursion (λ group. begins_model group ≡ false) before
  models_begin : AllByRecursion (λ head. begins_model head.first ≡ true) heads
  no_model_behind : AllByRecursion (λ head. AllByRecursion (λ group. begins_model group ≡ false) head.behind) heads
  rows : parts.rows ≡ (as_rows (rows_among front)).rows
  on : parts.on ≡ (as_rows (rows_among front)).on
  commands : parts.commands ≡ flat_map command_in before
  models : parts.models ≡ map model_in heads

-- a line of a kind that is no row, is not skipped and is no model's head, before such parts
module _ (line : Line) (lines : List Line) (parts : Parts) (p : Parted lines parts) where
  abbrev group : Group Line
  group = record { first = line; behind = p.front }

  outer_line : (next : Parts) → is_outer line ≡ true → begins_model group ≡ false → next.rows ≡ [] → next.on ≡ true
      → next.commands ≡ command_in group ++ parts.commands → next.models ≡ parts.models → Parted (line ∷ lines) next
  outer_line next is other none ones commands models = record {
    front = [];
    groups = group ∷ p.groups;
    before = group ∷ p.before;
    heads = p.heads;
    lines_are = ap (λ (ls : List Line). line ∷ ls) p.lines_are;
    inner = tt;
    outer = (is, p.outer);
    inner_behind = (p.inner, p.inner_behind);
    groups_are = ap (λ (gs : List (Group Line)). group ∷ gs) p.groups_are;
    no_model = (other, p.no_model);
    models_begin = p.models_begin;
    no_model_behind = p.no_model_behind;
    rows = none;
    on = ones;
    commands = commands ∙ ap (λ (cs : List Command). command_in group ++ cs) p.commands;
    models = models ∙ p.models;
  }

  -- a line of a row, or one that is skipped
  inner_line : (next : Parts) → is_outer line ≡ false → next.rows ≡ (as_rows (rows_among (line ∷ p.front))).rows
      → next.on ≡ (as_rows (rows_among (line ∷ p.front))).on → next.commands ≡ parts.commands → next.models ≡ parts.models
      → Parted (line ∷ lines) next
  inner_line next is rows on commands models = record {
    front = line ∷ p.front;
    groups = p.groups;
    before = p.before;
    heads = p.heads;
    lines_are = ap (λ (ls : List Line). line ∷ ls) p.lines_are;
    inner = (is, p.inner);
    outer = p.outer;
    inner_behind = p.inner_behind;
    groups_are = p.groups_are;
    no_model = p.no_model;
    models_begin = p.models_begin;
    no_model_behind = p.no_model_behind;
    rows = rows;
    on = on;
    commands = commands ∙ p.commands;
    models = models ∙ p.models;
  }

  -- a line of a command
  command_line : (part : Part) → is_outer line ≡ true → begins_model group ≡ false
      → part_by (head_at line) line.words (rows_among p.front) ≡ Some part
      → Parted (line ∷ lines) (with_command line.number part parts)
  command_line part is other says = outer_line (with_command line.number part parts) is other refl refl (rw says refl) refl

  -- a line that is no command
  other_line : is_outer line ≡ true → begins_model group ≡ false → part_by (head_at line) line.words (rows_among p.front) ≡ None
      → Parted (line ∷ lines) (record parts { rows = []; on = true })
  other_line is other says = outer_line (record parts { rows = []; on = true }) is other refl refl (rw says refl) refl

  same_table : table_of line.words (as_rows (rows_among p.front)) ≡ table_of line.words parts
  same_table = sym (ap₂ (λ (rows : List (List ℕ)) (on : Bool). table_of line.words (record parts { rows = rows; on = on })) p.rows p.on)

  -- a line of a kind
  parted_line : (head : Head) → head_at line ≡ head → Parted (line ∷ lines) (with_head head line.number line.words parts)
  parted_line Row is = inner_line (with_head Row line.number line.words parts) (rw is refl) (rw is (ap (λ (rows : List (List ℕ)). plane_of line.words ∷ rows) p.rows)) (rw is refl) refl refl
  parted_line Skipped is = inner_line parts (rw is refl) (rw is p.rows) (rw is p.on) refl refl
  parted_line Model is = record {
    front = [];
    groups = group ∷ p.groups;
    before = [];
    heads = record { first = group; behind = p.before } ∷ p.heads;
    lines_are = ap (λ (ls : List Line). line ∷ ls) p.lines_are;
    inner = tt;
    outer = (rw is refl, p.outer);
    inner_behind = (p.inner, p.inner_behind);
    groups_are = ap (λ (gs : List (Group Line)). group ∷ gs) p.groups_are;
    no_model = tt;
    models_begin = (rw is refl, p.models_begin);
    no_model_behind = (p.no_model, p.no_model_behind);
    rows = refl;
    on = refl;
    commands = refl;
    models = ap₂ (λ (commands : List Command) (models : List BlifModel). record { name = word_at line.words 1; line = line.number; commands = commands } ∷ models) p.commands p.models;
  }
  parted_line Inputs is = command_line (InputsPart (drop 1 line.words)) (rw is refl) (rw is refl) (rw is refl)
  parted_line Outputs is = command_line (OutputsPart (drop 1 line.words)) (rw is refl) (rw is refl) (rw is refl)
  parted_line Clock is = command_line (ClockPart (drop 1 line.words)) (rw is refl) (rw is refl) (rw is refl)
  parted_line Names is = command_line (TablePart (table_of line.words parts)) (rw is refl) (rw is refl) (rw is (ap (λ (t : TableText). Some (TablePart t)) same_table))
  parted_line Latch is = command_line (LatchPart (latch_of line.words)) (rw is refl) (rw is refl) (rw is refl)
  parted_line Subckt is = command_line (SubcktPart (use_of line.words)) (rw is refl) (rw is refl) (rw is refl)
  parted_line End is = other_line (rw is refl) (rw is refl) (rw is refl)
  parted_line Unknown is = other_line (rw is refl) (rw is refl) (rw is refl)

-- the lines of a text are in parts
parted : (lines : List Line) → Parted lines (parts_of lines)
parted [] = record {
  front = [];
  groups = [];
  before = [];
  heads = [];
  lines_are = refl;
  inner = tt;
  outer = tt;
  inner_behind = tt;
  groups_are = refl;
  no_model = tt;
  models_begin = tt;
  no_model_behind = tt;
  rows = refl;
  on = refl;
  commands = refl;
  models = refl;
}
parted (line ∷ lines) = parted_line line lines (parts_of lines) (parted lines) (head_at line) refl

-- where no model is open, a line without a fault is no command and no row
second_none : (one two kind : Option BlifKind) → first_of (one ∷ two ∷ kind ∷ []) ≡ None → two ≡ None
second_none one two kind is = first_none two (kind ∷ []) (rest_none one (two ∷ kind ∷ []) is)

wants_none : (head : Head) (state : State) (words : List (List ℕ)) → state.is_open ≡ false → fault_by head state words ≡ None → wants_model head ≡ false
wants_none head state words closed none =
    let test : (wants_model head && not state.is_open) ≡ false = test_false _ NoModel (second_none _ _ _ none) in
    both_false (wants_model head) (rw closed at test)
  where
    both_false : (a : Bool) → (a && true) ≡ false → a ≡ false
    both_false true e = e
    both_false false e = refl

-- such a line leaves the commands that stand behind it
no_command : (head : Head) (number : ℕ) (words : List (List ℕ)) (state : State) (parts : Parts) → wants_model head ≡ false
    → (open_after head false ≡ false → parts.commands ≡ []) → (with_head head number words parts).commands ≡ []
no_command Row number words state parts wants behind = absurd (cc)
no_command Names number words state parts wants behind = absurd (cc)
no_command Latch number words state parts wants behind = absurd (cc)
no_command Subckt number words state parts wants behind = absurd (cc)
no_command Inputs number words state parts wants behind = absurd (cc)
no_command Outputs number words state parts wants behind = absurd (cc)
no_command Clock number words state parts wants behind = absurd (cc)
no_command Model number words state parts wants behind = refl
no_command End number words state parts wants behind = behind refl
no_command Skipped number words state parts wants behind = behind refl
no_command Unknown number words state parts wants behind = behind refl

-- no command stands before the first model
none_before : (earlier lines : List Line) → (state_of earlier).is_open ≡ false → first_fault earlier lines ≡ None → (parts_of lines).commands ≡ []
none_before earlier [] closed none = refl
none_before earlier (line ∷ lines) closed none =
    let here : fault_of_line earlier line ≡ None = line_none (fault_of_line earlier line) line.number (first_fault (line ∷ earlier) lines) none in
    let rest : first_fault (line ∷ earlier) lines ≡ None = lines_none (fault_of_line earlier line) line.number (first_fault (line ∷ earlier) lines) none in
    no_command (head_at line) line.number line.words (state_of earlier) (parts_of lines) (wants_none (head_at line) (state_of earlier) line.words closed here)
    (λ still. none_before (line ∷ earlier) lines (ap (λ (is_open : Bool). open_after (head_at line) is_open) closed ∙ still) rest)

-- what is read unless there is a fault
read_given : (fault : Option (At BlifKind)) (given models : List BlifModel) → unless_fault fault given ≡ Ok models → (fault ≡ None) × (models ≡ given)
read_given None given models is = (refl, (cc))
read_given (Some fault) given models is = absurd (cc)

pub lines_in_parts : (lines : List Line) (models : List BlifModel) → models_of_text lines ≡ Ok models → AreInParts lines models
lines_in_parts lines models is =
    let (none, given) = read_given (first_fault [] lines) (models_of lines) models is in
    let p : Parted lines (parts_of lines) = parted lines in
    record {
      groups = p.groups;
      lines_in_groups = record { front = p.front; whole = p.lines_are; none_in_front = p.inner; each_begins = p.outer; no_other = p.inner_behind };
      heads = p.heads;
      groups_in_models = record { front = p.before; whole = p.groups_are; none_in_front = p.no_model; each_begins = p.models_begin; no_other = p.no_model_behind };
      none_before = sym p.commands ∙ none_before [] lines refl none;
      models_are = given ∙ p.models;
    }
